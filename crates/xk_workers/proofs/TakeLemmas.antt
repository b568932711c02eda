-- What is taken, and what is claimed then.
use Rattle.std.proofs.Common.{◌≡◌, ◌<◌, ◌≤◌, ◌+◌, ℕ, zero, suc, Bool, true, false, true≢false, cond, List, [], ◌∷◌, ◌++◌, length, filter, Some, Result, Ok, Err, OnErr, is_err, refl, sym, subst, ap, ◌∙◌, arith, slice_get, ◌⊎◌, inl, inr}
use Rattle.std.specs.List.{All}
use Rattle.std.proofs.lemmas.Bool.{cases_eq}
use Rattle.std.proofs.lemmas.List.{length_push}
use Rattle.std.proofs.lemmas.List.Elements.{All-head, All-tail}
use Rattle.std.proofs.lemmas.Option.{none-some}
use Rattle.xk_types.specs.declared.world.Event.{Event}
use Rattle.xk_types.specs.declared.world.Event.TheVariants as event
use Rattle.xk_types.specs.Code.{ModuleValue}
use Rattle.xk_types.specs.World.{World}
use Rattle.xk_types.specs.Step.{Stepped, step}
use Rattle.xk_types.specs.Schedule.{is_enabled}
use Rattle.xk_core.specs.Core.{CoreValue, IsCore}
use Rattle.xk_core.proofs.CoreLemmas.{core_stepped}
use Rattle.xk_collections.specs.NumberSets.{numbers_from}
use Rattle.xk_scheduler.specs.Choosers.{enabled_in}
use Rattle.xk_scheduler.proofs.IndependenceLemmas.{grows_by_start, keeps_width}
use Rattle.xk_scheduler.proofs.LocalRunLemmas.{enabled_within}
use Rattle.xk_workers.specs.declared.lock_table.Take.TheVariants as take
use Rattle.xk_workers.specs.Claims.{is_claimed, claims_after, AreClaims}
use Rattle.xk_workers.specs.LockTable.{SharedValue, AreAllClaimed, AreLesserClaimed, Tells, ActsVisibly, IsShort, given_up, told_to_stop, in_room_of}
use Rattle.xk_workers.specs.WorkerTurn.{IsRefusedAStep, IsRefusedACopy}
use Rattle.xk_workers.proofs.CommitLemmas.{put_back}
use Rattle.xk_workers.proofs.LocalStepLemmas.{stays_local}

-- ---- claims after a step

-- a place more at the end, that nobody has claimed, claims nobody
claimed_push : (claims : List Bool) (b : ℕ) → is_claimed (claims ++ false ∷ []) b ≡ true → is_claimed claims b ≡ true
claimed_push [] zero h = absurd (true≢false (sym h))
claimed_push [] (suc b) h = h
claimed_push (c ∷ cs) zero h = h
claimed_push (c ∷ cs) (suc b) h = claimed_push cs b h

-- who is claimed behind a step was claimed before
claimed_before : (e : Event) (claims : List Bool) (b : ℕ) → is_claimed (claims_after e claims) b ≡ true → is_claimed claims b ≡ true
claimed_before event.Spawned claims b h = claimed_push claims b h
claimed_before event.Local claims b h = h
claimed_before (event.Printed n) claims b h = h
claimed_before event.Made claims b h = h
claimed_before event.Got claims b h = h
claimed_before event.Put claims b h = h
claimed_before event.Added claims b h = h
claimed_before event.Opened claims b h = h
claimed_before event.Closed claims b h = h
claimed_before event.Resumed claims b h = h
claimed_before event.Dropped claims b h = h
claimed_before event.Arrived claims b h = h
claimed_before event.Passed claims b h = h
claimed_before event.Ended claims b h = h

-- there is a place for each activity
wide_after : (m : ModuleValue) (w v : World) (a : ℕ) (e : Event) (claims : List Bool) → step m w a ≡ Stepped v e → length claims ≡ length w.activities
    → length (claims_after e claims) ≡ length v.activities
wide_after m w v a event.Spawned claims h is = omega (arith, length_push claims false, grows_by_start m w v a h, is)
wide_after m w v a event.Local claims h is = is ∙ sym (keeps_width m w v a event.Local h (λ e. cc))
wide_after m w v a (event.Printed n) claims h is = is ∙ sym (keeps_width m w v a (event.Printed n) h (λ e. cc))
wide_after m w v a event.Made claims h is = is ∙ sym (keeps_width m w v a event.Made h (λ e. cc))
wide_after m w v a event.Got claims h is = is ∙ sym (keeps_width m w v a event.Got h (λ e. cc))
wide_after m w v a event.Put claims h is = is ∙ sym (keeps_width m w v a event.Put h (λ e. cc))
wide_after m w v a event.Added claims h is = is ∙ sym (keeps_width m w v a event.Added h (λ e. cc))
wide_after m w v a event.Opened claims h is = is ∙ sym (keeps_width m w v a event.Opened h (λ e. cc))
wide_after m w v a event.Closed claims h is = is ∙ sym (keeps_width m w v a event.Closed h (λ e. cc))
wide_after m w v a event.Resumed claims h is = is ∙ sym (keeps_width m w v a event.Resumed h (λ e. cc))
wide_after m w v a event.Dropped claims h is = is ∙ sym (keeps_width m w v a event.Dropped h (λ e. cc))
wide_after m w v a event.Arrived claims h is = is ∙ sym (keeps_width m w v a event.Arrived h (λ e. cc))
wide_after m w v a event.Passed claims h is = is ∙ sym (keeps_width m w v a event.Passed h (λ e. cc))
wide_after m w v a event.Ended claims h is = is ∙ sym (keeps_width m w v a event.Ended h (λ e. cc))

-- a step of one whom nobody has claimed keeps the claims
pub claims_keep : (c d : CoreValue) (a : ℕ) (e : Event) (claims : List Bool) → IsCore c.module_run c.world → d.module_run ≡ c.module_run
    → step c.module_run c.world a ≡ Stepped d.world e → is_claimed claims a ≡ false → AreClaims c claims → AreClaims d (claims_after e claims)
claims_keep c d a e claims core same taken free kept = record {
  wide = wide_after c.module_run c.world d.world a e claims taken kept.wide;
  local = λ b h.
      let was = claimed_before e claims b h in
      stays_local c d a b e core (subst (λ m. IsCore m d.world) (sym same) (core_stepped c.module_run c.world d.world a e core taken)) same taken
      (λ is. true≢false (sym was ∙ ap (is_claimed claims) is ∙ free)) (kept.local b was);
}

-- ---- who is free

-- what holds of all that pass a test
all_from : (P : ℕ → Type 0) (p : ℕ → Bool) (a n : ℕ) → All P (filter p (numbers_from a n)) → (b : ℕ) → a ≤ b → b < a + n → p b ≡ true → P b
all_from P p a zero all b from below h = absurd (omega arith)
all_from P p a (suc n) all b from below h =
    tested (p a) refl all (cases_eq a b) (λ rest lt. all_from P p (suc a) n rest b lt (omega arith) h)
  where
    rest : List ℕ
    rest = filter p (numbers_from (suc a) n)

    tested : (t : Bool) → p a ≡ t → All P (cond t (a ∷ rest) rest) → (a ≡ b) ⊎ (a ≡ b → ⊥) → (All P rest → suc a ≤ b → P b) → P b
    tested true t all (inl s) go = subst P s (All-head P a rest all)
    tested true t all (inr ne) go = go (All-tail P a rest all) (omega arith)
    tested false t all (inl s) go = absurd (true≢false (sym h ∙ sym (ap p s) ∙ t))
    tested false t all (inr ne) go = go all (omega arith)

-- what holds of the list of those that can step holds of each who can
pub least_claimed : (c : CoreValue) (claims : List Bool) (a : ℕ) → All (λ b. b < a → is_claimed claims b ≡ true) (enabled_in c.module_run c.world)
    → AreLesserClaimed claims c a
least_claimed c claims a all b less able = all_from (λ k. k < a → is_claimed claims k ≡ true) (is_enabled c.module_run c.world) 0 (length c.world.activities)
    all b (omega arith) (omega (arith, enabled_within c.module_run c.world b able)) able less

some_first : (P : ℕ → Type 0) (xs : List ℕ) (x : ℕ) → Some x ≡ slice_get xs 0 → All P xs → (a : ℕ) × P a
some_first P [] x e all = absurd (none-some x (sym e))
some_first P (y ∷ ys) x e all = (y, All-head P y ys all)

-- where somebody can take a step, and all who can are claimed
all_claimed : (s : SharedValue) (first : ℕ) → Some first ≡ slice_get (enabled_in s.run.core.module_run s.run.core.world) 0
    → All (λ a. is_claimed s.claims a ≡ true) (enabled_in s.run.core.module_run s.run.core.world) → AreAllClaimed s
all_claimed s first is all = record {
  somebody = some_first (λ a. is_claimed s.claims a ≡ true) (enabled_in s.run.core.module_run s.run.core.world) first is all;
  everybody = λ a h. all_from (λ b. is_claimed s.claims b ≡ true) (is_enabled s.run.core.module_run s.run.core.world) 0 (length s.run.core.world.activities)
      all a (omega arith) (omega (arith, enabled_within s.run.core.module_run s.run.core.world a h)) h;
}

-- ---- what a worker is told

pub tells_idle : (s : SharedValue) (first : ℕ) → s.stopped ≡ false → Some first ≡ slice_get (enabled_in s.run.core.module_run s.run.core.world) 0
    → All (λ a. is_claimed s.claims a ≡ true) (enabled_in s.run.core.module_run s.run.core.world) → Tells s take.Idle s
tells_idle s first on is all = (on, all_claimed s first is all, refl)

-- ---- memory that is refused

-- for a copy of frames: who was claimed is given up at once, the workers are told to stop, and nothing else has changed
pub copy_refused : (s told t : SharedValue) (a : ℕ) → Tells s (take.Work a) told → t ≡ given_up a told → IsRefusedACopy s t
copy_refused s told t a (goes, free, local, put) gone = record {
  act = a;
  free = free;
  local = local;
  stopped = gone ∙ ap (given_up a) put ∙ ap (λ (l : List Bool). told_to_stop (record s { claims = l })) (put_back s.claims a free.unclaimed);
}

-- for a step: the workers are told to stop
pub step_refused : {A E : Type 0} (r : Result A E) (s told left t : SharedValue) (a : ℕ) → is_err r ≡ true → Tells s (take.Act a) told → ActsVisibly s (take.Act a)
    → OnErr r (IsShort left a) → OnErr r (left ≡ in_room_of left told) → t ≡ told_to_stop left → IsRefusedAStep s t
step_refused (Ok x) s told left t a h tells seen short kept gone = absurd (true≢false (sym h))
step_refused (Err e) s told left t a h (goes, free, same) seen short kept gone = subst (IsRefusedAStep s) (sym gone) (record {
  act = a;
  free = free;
  seen = seen;
  short = short;
  stopped = ap told_to_stop (kept ∙ ap (in_room_of left) same);
})
