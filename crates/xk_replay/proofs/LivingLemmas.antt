-- Who of a run's activities hasn't ended, from step to step; and that nobody else is registered on a clock.
use Rattle.std.proofs.Common.{◌≡◌, ◌∙◌, ℕ, zero, suc, ◌+◌, ◌-◌, ◌<◌, ◌≤◌, ◌⊎◌, inl, inr, Bool, true, false, true≢false, not, cond, List, [], ◌∷◌, ◌++◌, length, filter, Option, Some, None, refl, sym, ap, subst, arith, slice_get, slice_set, length-set}
use Rattle.std.specs.Option.{option_map_or}
use Rattle.std.proofs.lemmas.Bool.{cases_eq}
use Rattle.std.proofs.lemmas.List.{length_push}
use Rattle.std.proofs.lemmas.Option.{slice_get_within}
use Rattle.xk_types.specs.declared.instr.Instr.{Instr}
use Rattle.xk_types.specs.declared.world.Event.{Event}
use Rattle.xk_types.specs.declared.world.Event.TheVariants as event
use Rattle.xk_types.specs.declared.world.Standing.{Standing}
use Rattle.xk_types.specs.declared.world.Standing.TheVariants as standing
use Rattle.xk_types.specs.declared.world.Status.{Status}
use Rattle.xk_types.specs.declared.world.Status.TheVariants as status
use Rattle.xk_types.specs.declared.world.Value.TheVariants as value
use Rattle.xk_types.specs.Bound.{activities_bound}
use Rattle.xk_types.specs.Code.{ModuleValue}
use Rattle.xk_types.specs.World.{Activity, Clock, World, standing_of, instruction_at, is_ended}
use Rattle.xk_types.specs.Step.{Outcome, Blocked, Wrong, Stepped, step, step_by, step_of, run_at, done, closing, passing, awaits, innermost, waits, passed, all, none, onward, with_slots, entered, left, arrived, past, ended, called, back_in, child, is_registered}
use Rattle.xk_types.proofs.ListLemmas.{get_inside, get-append_left, get-push_other, get-set_other, get-set_same, get_push}
use Rattle.xk_law_schedules.proofs.StepFormLemmas.{HoldsOfFamilies, ends, finishes_of, instruction_form, starts_or_arrives}
use Rattle.xk_law_schedules.proofs.Invariant.{IsClockSound, IsSound, Stands}
use Rattle.xk_law_schedules.proofs.ReachabilityLemmas.{opening_only, reached_room, reached_sound}
use Rattle.xk_collections.specs.NumberSets.{SetValue, numbers_from, with_member}
use Rattle.xk_collections.proofs.RisingListLemmas.{member_added, member_changed, members_few, same_members}
use Rattle.xk_core.specs.Core.{CoreValue, IsCore, is_registered_on}
use Rattle.xk_core.proofs.CoreLemmas.{core_stepped}
use Rattle.xk_replay.specs.Chart.{AreLiving, lives, living_in, living_after, registered_in}

-- ---- a step

-- how many activities a step of this event starts
abbrev started : Event → ℕ
started event.Spawned = 1
started _ = 0

-- What a step says of who lives: who takes it does before it, and behind it unless it ended; one that it starts does; of all others it holds
-- as before.
record IsLived (w v : World) (a : ℕ) (e : Event) : Type 0 where
  within : a < length w.activities
  width : length v.activities ≡ length w.activities + started e
  was : lives w a ≡ true
  own : lives v a ≡ not (ends e)
  fresh : e ≡ event.Spawned → lives v (length w.activities) ≡ true
  others : (b : ℕ) → (b ≡ a → ⊥) → b < length w.activities → lives v b ≡ lives w b

abbrev Lives : World → ℕ → Outcome → Type 0
Lives w a Blocked = Unit {0}
Lives w a (Wrong c) = Unit {0}
Lives w a (Stepped v e) = IsLived w v a e

abbrev lives_as : Option Activity → Bool
lives_as o = option_map_or (λ (x : Activity). not (is_ended x.status)) o false

-- one activity changes
lived_set : (w v : World) (a : ℕ) (act next : Activity) (e : Event) → slice_get w.activities a ≡ Some act → is_ended act.status ≡ false
    → v.activities ≡ slice_set w.activities a next → started e ≡ 0 → is_ended next.status ≡ ends e → IsLived w v a e
lived_set w v a act next e found alive acts quiet over = record {
  within = slice_get_within w.activities a act found;
  width = omega (arith, quiet, ap length acts, length-set w.activities a next);
  was = ap lives_as found ∙ ap not alive;
  own = ap lives_as (ap (λ l. slice_get l a) acts ∙ get-set_same w.activities a act next found) ∙ ap not over;
  fresh = λ h. absurd (omega (arith, quiet, ap started h));
  others = λ b differs inside. ap lives_as (ap (λ l. slice_get l b) acts ∙ get-set_other w.activities a b next differs);
}

-- and one is started
lived_push : (w v : World) (a : ℕ) (act next x : Activity) → slice_get w.activities a ≡ Some act → is_ended act.status ≡ false
    → v.activities ≡ slice_set w.activities a next ++ x ∷ [] → is_ended next.status ≡ false → is_ended x.status ≡ false → IsLived w v a event.Spawned
lived_push w v a act next x found alive acts goes begins = record {
  within = slice_get_within w.activities a act found;
  width = omega (arith, ap length acts, length_push (slice_set w.activities a next) x, length-set w.activities a next);
  was = ap lives_as found ∙ ap not alive;
  own = ap lives_as (ap (λ l. slice_get l a) acts ∙ get-append_left (slice_set w.activities a next) (x ∷ []) a next (get-set_same w.activities a act next found)) ∙ ap not goes;
  fresh = λ h. ap lives_as (ap (λ l. slice_get l (length w.activities)) acts
      ∙ ap (slice_get (slice_set w.activities a next ++ x ∷ [])) (sym (length-set w.activities a next)) ∙ get_push (slice_set w.activities a next) x) ∙ ap not begins;
  others = λ b differs inside. ap lives_as (ap (λ l. slice_get l b) acts
      ∙ get-push_other (slice_set w.activities a next) x b (λ e. absurd (omega (arith, inside, e, length-set w.activities a next)))
      ∙ get-set_other w.activities a b next differs);
}

quiet_starts : (e : Event) → starts_or_arrives e ≡ false → started e ≡ 0
quiet_starts event.Spawned h = absurd (true≢false h)
quiet_starts _ h = refl

module _ (m : ModuleValue) (w : World) (a : ℕ) (act : Activity) (found : slice_get w.activities a ≡ Some act) (alive : is_ended act.status ≡ false) where
  closing_lives : (n : ℕ) → Lives w a (closing w a act n)
  closing_lives zero = tt
  closing_lives (suc n) = cases (awaits w.activities (innermost a act))
    where
      cases : (b : Bool) → Lives w a (cond b Blocked (done w a (left act n) none event.Closed))
      cases true = tt
      cases false = lived_set w _ a act (left act n) event.Closed found alive refl refl alive

  passing_lives : Lives w a (passing w a act)
  passing_lives = cases (waits w a)
    where
      cases : (b : Bool) → Lives w a (cond b Blocked (done w a (past act (w.steps + 1)) (all passed) event.Passed))
      cases true = tt
      cases false = lived_set w _ a act (past act (w.steps + 1)) event.Passed found alive refl refl refl

  forms : HoldsOfFamilies (λ outcome. Lives w a (outcome (finishes_of w act))) (λ i. Unit {0}) m w a act
  forms = record {
    goes = λ i at frame to change e changes. lived_set w _ a act (record act { frame = frame }) e found alive refl (quiet_starts e changes.quiet) (alive ∙ sym changes.lives);
    stored = λ i at plain s n e changes. lived_set w _ a act (onward act) e found alive refl (quiet_starts e changes.quiet) (alive ∙ sym changes.lives);
    made = λ d old at there. lived_set w _ a act (onward (with_slots act (slice_set act.frame.slots d (value.Clock (length w.clocks))))) event.Made found alive refl refl alive;
    opened = λ e at. lived_set w _ a act (entered act) event.Opened found alive refl refl alive;
    closing = λ b at. closing_lives act.opened;
    arrives = λ at. lived_set w _ a act (arrived act) event.Arrived found alive refl refl refl;
    calls = λ t args u values at there given. lived_set w _ a act (called m act t values) event.Local found alive refl refl alive;
    returns = λ f fs at is. lived_set w _ a act (back_in act f fs) event.Local found alive refl refl alive;
    over = λ at is. lived_set w _ a act (ended act) event.Ended found alive refl refl refl;
    spawned = λ t args u values at there given. lived_push w _ a act (onward act) (child m a act t values) found alive refl alive refl;
  }

  running_lives : (o : Option Instr) → Lives w a (run_at m w a act o)
  running_lives None = tt
  running_lives (Some i) = instruction_form (λ outcome. Lives w a (outcome (finishes_of w act))) (λ j. Unit {0}) m w a (λ c. tt) act forms i tt

step_lives : (m : ModuleValue) (w : World) (a : ℕ) → Lives w a (step m w a)
step_lives m w a = of (slice_get w.activities a) refl
  where
    by : (act : Activity) → slice_get w.activities a ≡ Some act → (st : Status) → act.status ≡ st → Lives w a (step_by m w a act st)
    by act found status.Running e = running_lives m w a act found (ap is_ended e) (instruction_at m act.frame)
    by act found status.Arrived e = passing_lives m w a act found (ap is_ended e)
    by act found status.Ended e = tt

    of : (o : Option Activity) → slice_get w.activities a ≡ o → Lives w a (step_of m w a o)
    of None e = tt
    of (Some act) e = by act e act.status refl

lived : (m : ModuleValue) (w v : World) (a : ℕ) (e : Event) → step m w a ≡ Stepped v e → IsLived w v a e
lived m w v a e h = subst (Lives w a) h (step_lives m w a)

-- ---- the list of those who live

-- where the step ends nobody, all live as before
same_lives : (w v : World) (a : ℕ) (e : Event) → IsLived w v a e → ends e ≡ false → (k : ℕ) → k < length w.activities → lives v k ≡ lives w k
same_lives w v a e l goes k inside = of (cases_eq k a)
  where
    of : (k ≡ a) ⊎ (k ≡ a → ⊥) → lives v k ≡ lives w k
    of (inl s) = ap (lives v) s ∙ l.own ∙ ap not goes ∙ sym l.was ∙ ap (lives w) (sym s)
    of (inr ne) = l.others k ne inside

with_fresh : (w v : World) (a : ℕ) → IsLived w v a event.Spawned → with_member (length v.activities - 1) true (living_in w) ≡ living_in v
with_fresh w v a l =
    let n = length w.activities in
    let long : suc n ≡ length v.activities = omega (arith, l.width) in
    let last : length v.activities - 1 ≡ n = omega (arith, l.width) in
    ap (λ k. with_member k true (living_in w)) last
    ∙ ap (λ b. with_member n b (living_in w)) (sym (l.fresh refl))
    ∙ sym (member_added (lives w) (lives v) n (same_lives w v a event.Spawned l refl))
    ∙ ap (λ k. filter (lives v) (numbers_from 0 k)) long

without_ended : (w v : World) (a : ℕ) → IsLived w v a event.Ended → with_member a false (living_in w) ≡ living_in v
without_ended w v a l =
    let n = length w.activities in
    let long : n ≡ length v.activities = omega (arith, l.width) in
    ap (λ b. with_member a b (living_in w)) (sym l.own)
    ∙ sym (member_changed (lives w) (lives v) n a l.within (λ k inside ne. l.others k ne inside))
    ∙ ap (λ k. filter (lives v) (numbers_from 0 k)) long

as_before : (w v : World) (a : ℕ) (e : Event) → IsLived w v a e → started e ≡ 0 → ends e ≡ false → living_in w ≡ living_in v
as_before w v a e l quiet goes =
    let n = length w.activities in
    let long : n ≡ length v.activities = omega (arith, quiet, l.width) in
    sym (same_members (lives w) (lives v) 0 n (λ k from below. same_lives w v a e l goes k (omega (arith, below))))
    ∙ ap (λ k. filter (lives v) (numbers_from 0 k)) long

living_next : (w v : World) (a : ℕ) (e : Event) → IsLived w v a e → living_after v a e (living_in w) ≡ living_in v
living_next w v a event.Spawned l = with_fresh w v a l
living_next w v a event.Ended l = without_ended w v a l
living_next w v a e l = as_before w v a e l refl refl

-- ---- a core, and the set of its living

-- main alone lives at first
pub opening_living : (c : CoreValue) (set : SetValue) → IsCore c.module_run c.world → c.world.steps ≡ 0 → activities_bound c.module_run ≤ set.room → set.members ≡ 0 ∷ []
    → AreLiving c set
opening_living c set core none room is = record {
  core = core;
  room = room;
  members = is ∙ sym (ap living_in (opening_only c.module_run c.world core.reached none));
}

-- there can't be more than a set has room for
pub bound_small : (m : ModuleValue) (w : World) → IsCore m w → activities_bound m ≤ 262144
bound_small m w core = omega (arith, core.accepted.bounds.activities)

-- the set is kept by a step
pub living_step : (c d : CoreValue) (a : ℕ) (e : Event) (set next : SetValue) → AreLiving c set → d.module_run ≡ c.module_run
    → step c.module_run c.world a ≡ Stepped d.world e → next.members ≡ living_after d.world a e set.members → next.room ≡ set.room → AreLiving d next
living_step c d a e set next h same stepped listed kept = record {
  core = subst (λ m. IsCore m d.world) (sym same) (core_stepped c.module_run c.world d.world a e h.core stepped);
  room = subst (λ m. activities_bound m ≤ next.room) (sym same) (omega (arith, h.room, kept));
  members = listed ∙ ap (living_after d.world a e) h.members ∙ living_next c.world d.world a e (lived c.module_run c.world d.world a e stepped);
}

-- who took the step is there behind it
pub stepped_there : (c d : CoreValue) (a : ℕ) (e : Event) → step c.module_run c.world a ≡ Stepped d.world e → a < length d.world.activities
stepped_there c d a e h = let l = lived c.module_run c.world d.world a e h in omega (arith, l.within, l.width)

-- and there is room for all
pub stepped_room : (c d : CoreValue) (a : ℕ) (e : Event) (set : SetValue) → AreLiving c set → step c.module_run c.world a ≡ Stepped d.world e
    → length d.world.activities ≤ set.room
stepped_room c d a e set h stepped =
    let later = core_stepped c.module_run c.world d.world a e h.core stepped in
    omega (arith, h.room, (reached_room c.module_run later.limits later.accepted d.world later.reached).activities)

-- they are no more than all
pub living_few : (w : World) → length (living_in w) ≤ length w.activities
living_few w = members_few (lives w) (length w.activities)

-- ---- who is registered

-- who is registered on a clock lives
registered_lives : (m : ModuleValue) (w : World) → IsCore m w → (c a : ℕ) → a < length w.activities → is_registered_on w a c ≡ true → lives w a ≡ true
registered_lives m w core c a inside h = of (slice_get w.clocks c) refl h
  where
    sound : IsSound m w
    sound = reached_sound m core.limits core.accepted w core.reached

    by : (x : Activity) (last : ℕ) (s : Standing) → Stands x.status x.since last s → is_registered s ≡ true → not (is_ended x.status) ≡ true
    by x last standing.Apart t g = absurd (true≢false (sym g))
    by x last standing.Open t g = ap (λ st. not (is_ended st)) t.0
    by x last standing.Signalled t g = ap not t.0
    by x last standing.Ahead t g = ap not t.0

    of : (o : Option Clock) → slice_get w.clocks c ≡ o → option_map_or (λ (k : Clock). is_registered (standing_of k a)) o false ≡ true → lives w a ≡ true
    of None e g = absurd (true≢false (sym g))
    of (Some k) e g =
        let s : IsClockSound w.activities w.steps k = sound.clocks c k e in
        let x = get_inside w.activities a inside in
        ap lives_as x.1 ∙ by x.0 k.last (standing_of k a) (s.stands a x.0 x.1) g

-- of those that pass a test, all that pass a narrower one
filter_among : (p q : ℕ → Bool) (a n : ℕ) → ((k : ℕ) → k < a + n → p k ≡ true → q k ≡ true) → filter p (filter q (numbers_from a n)) ≡ filter p (numbers_from a n)
filter_among p q a zero h = refl
filter_among p q a (suc n) h = of (filter_among p q (suc a) n (λ k below. h k (omega (arith, below)))) (q a) refl
  where
    more : List ℕ
    more = numbers_from (suc a) n

    out : (b : Bool) → p a ≡ b → q a ≡ false → filter p more ≡ cond b (a ∷ filter p more) (filter p more)
    out true e f = absurd (true≢false (sym (h a (omega arith) e) ∙ f))
    out false e f = refl

    of : filter p (filter q more) ≡ filter p more → (b : Bool) → q a ≡ b
        → filter p (cond b (a ∷ filter q more) (filter q more)) ≡ cond (p a) (a ∷ filter p more) (filter p more)
    of rest true e = ap (λ l. cond (p a) (a ∷ l) l) rest
    of rest false e = rest ∙ out (p a) refl e

-- those of the living who are registered on a clock are all who are
pub registered_among : (m : ModuleValue) (w : World) → IsCore m w → (c : ℕ) → filter (λ a. is_registered_on w a c) (living_in w) ≡ registered_in w c
registered_among m w core c =
    filter_among (λ a. is_registered_on w a c) (lives w) 0 (length w.activities) (λ k below. registered_lives m w core c k (omega (arith, below)))
