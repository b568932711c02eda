-- What a step of an activity looks at, in two worlds; and what it then does in both.
use Rattle.std.proofs.Common.{◌≡◌, ℕ, ℤ, suc, zero, ◌+◌, ◌&&◌, ◌||◌, not, Bool, true, false, true≢false, cond, List, [], ◌∷◌, length, set, Some, None, Option, refl, sym, ap, ◌∙◌, ◌⊎◌, is_some, length-set}
use Rattle.std.specs.Prelude.{slice_get}
use Rattle.std.specs.Option.{option_map_or}
use Rattle.std.proofs.lemmas.Bool.{or_parts}
use Rattle.std.proofs.lemmas.Option.{none-some, same_Some}
use Rattle.xk_types.specs.declared.instr.Instr.{Instr}
use Rattle.xk_types.specs.declared.instr.Instr.TheVariants as instr
use Rattle.xk_types.specs.declared.world.Value.{Value}
use Rattle.xk_types.specs.declared.world.Value.TheVariants as value
use Rattle.xk_types.specs.declared.world.Status.TheVariants as status
use Rattle.xk_types.specs.declared.world.Event.{Event}
use Rattle.xk_types.specs.declared.world.Event.TheVariants as event
use Rattle.xk_types.specs.Code.{ModuleValue}
use Rattle.xk_types.specs.World.{Finish, Activity, World, is_ended, instruction_at}
use Rattle.xk_types.specs.Step.{Outcome, Blocked, Stepped, waits, passing, passed, past, awaits, awaits_from, is_under, under_within, same_finish, innermost, closing, left, done, none, all, made, onward, with_slots, spawned, step}
use Rattle.xk_types.specs.Schedule.{is_step, number_printed}
use Rattle.xk_types.proofs.ListLemmas.{fun_ext}
use Rattle.xk_law_schedules.proofs.Invariant.{Names}
use Rattle.xk_law_schedules.proofs.StepFormLemmas.{IsNext}
use Rattle.xk_law_commute.specs.Conflicts.{reads, stores, puts}
use Rattle.xk_law_commute.proofs.StepEffect.{Move, Rests, Passes, enacted, aged, prints, IsSum}
use Rattle.xk_law_commute.proofs.StepPairLemmas.{is_pass, registers, step_pair}

-- ---- finishes: where an activity that hasn't ended takes a step, nobody more is awaited

reads_set : (H : Finish → Bool) (acts : List Activity) (a : ℕ) (old next : Activity) → slice_get acts a ≡ Some old → next.governed ≡ old.governed → (b : ℕ)
    → option_map_or (λ (x : Activity). H x.governed) (slice_get (set acts a next) b) false ≡ option_map_or (λ (x : Activity). H x.governed) (slice_get acts b) false
reads_set H [] a old next at same b = refl
reads_set H (z ∷ acts) zero old next at same zero = ap H (same ∙ sym (ap (λ (x : Activity). x.governed) (same_Some z old at)))
reads_set H (z ∷ acts) zero old next at same (suc b) = refl
reads_set H (z ∷ acts) (suc a) old next at same zero = refl
reads_set H (z ∷ acts) (suc a) old next at same (suc b) = reads_set H acts a old next at same b

module _ (acts : List Activity) (a : ℕ) (old next : Activity) (at : slice_get acts a ≡ Some old) (same : next.governed ≡ old.governed) (f : Finish) where
  under_set : (n b : ℕ) → under_within (set acts a next) f n b ≡ under_within acts f n b
  unfolding under_within
  under_set zero b = refl
  under_set (suc n) b =
      ap (λ (u : ℕ → Bool). option_map_or (λ (x : Activity). same_finish x.governed f || option_map_or u x.governed.owner false) (slice_get (set acts a next) b) false)
      (fun_ext (under_within (set acts a next) f n) (under_within acts f n) (under_set n))
      ∙ reads_set (λ g. same_finish g f || option_map_or (under_within acts f n) g.owner false) acts a old next at same b

  is_under_set : (b : ℕ) → is_under (set acts a next) f b ≡ is_under acts f b
  is_under_set b = ap (λ n. under_within (set acts a next) f n b) (length-set acts a next) ∙ under_set (length acts) b

  awaits_same : (k : ℕ) (xs : List Activity) → awaits_from (set acts a next) f k xs ≡ awaits_from acts f k xs
  awaits_same k [] = refl
  awaits_same k (x ∷ xs) = rw (is_under_set k, awaits_same (suc k) xs)

  -- one that hasn't ended isn't under the finish
  not_under : (p e : Bool) → e ≡ false → (p && not e) ≡ false → p ≡ false
  not_under true true h g = absurd (true≢false h)
  not_under true false h g = g
  not_under false e h g = refl

  awaits_from_set : is_ended old.status ≡ false → (k : ℕ) (xs : List Activity) (i : ℕ) → slice_get xs i ≡ Some old → awaits_from acts f k xs ≡ false
      → awaits_from (set acts a next) f k (set xs i next) ≡ false
  awaits_from_set alive k [] i there h = absurd (none-some old there)
  awaits_from_set alive k (x ∷ xs) zero there h =
      let p = or_parts (is_under acts f k && not (is_ended x.status)) (awaits_from acts f (suc k) xs) h in
      let out : is_under acts f k ≡ false = not_under (is_under acts f k) (is_ended x.status) (ap (λ (z : Activity). is_ended z.status) (same_Some x old there) ∙ alive) p.0 in
      rw (is_under_set k, out) (awaits_same (suc k) xs ∙ p.1)
  awaits_from_set alive k (x ∷ xs) (suc i) there h =
      let p = or_parts (is_under acts f k && not (is_ended x.status)) (awaits_from acts f (suc k) xs) h in
      rw (is_under_set k, p.0) (awaits_from_set alive (suc k) xs i there p.1)

  pub awaits_set : is_ended old.status ≡ false → awaits acts f ≡ false → awaits (set acts a next) f ≡ false
  awaits_set alive h = awaits_from_set alive 0 acts a at h

-- ---- what a step looks at

pub record Sees (m : ModuleValue) (w v : World) (a : ℕ) (act : Activity) (s : ℕ) : Type 0 where
  pub there : slice_get w.activities a ≡ Some act
  pub then : slice_get v.activities a ≡ Some (aged act s)
  pub clocks : (x k : ℕ) → Names act.frame.slots x k → registers v.clocks a k ≡ registers w.clocks a k
  pub cells : (i : Instr) → IsNext m act i → (c : ℕ) → reads i c ≡ true → slice_get v.cells c ≡ slice_get w.cells c
  pub width : (c : ℕ) → is_some (slice_get v.cells c) ≡ is_some (slice_get w.cells c)
  pub waits : waits w a ≡ false → waits v a ≡ false
  pub awaits : awaits w.activities (innermost a act) ≡ false → awaits v.activities (innermost a act) ≡ false

-- ---- what it then does in both

pub record Acts (m : ModuleValue) (w v : World) (a : ℕ) (act : Activity) (o q : Outcome) : Type 0 where
  pub next : Activity
  pub now : ℕ
  pub move : Move
  pub writes : Option (ℕ × (ℤ → ℤ))
  pub e : Event
  pub governed : next.governed ≡ act.governed
  pub alive : is_ended act.status ≡ false
  pub passes : move ≡ Passes → waits w a ≡ false
  pub silent : option_map_or prints (instruction_at m act.frame) false ≡ false → number_printed e ≡ None
  pub touched : (c : ℕ) (g : ℤ → ℤ) → writes ≡ Some (c, g) → (i : Instr) × IsNext m act i × (stores i c ≡ true) × ((puts i c ≡ true) ⊎ IsSum g)
  pub here : o ≡ Stepped (enacted w a next move writes) e
  pub there : q ≡ Stepped (enacted v a (aged next now) move writes) e

pub record Makes (m : ModuleValue) (w v : World) (a : ℕ) (act : Activity) (s : ℕ) (o q : Outcome) : Type 0 where
  pub d : ℕ
  pub next : IsNext m act (instr.Make d)
  pub here : o ≡ made w a (onward (with_slots act (set act.frame.slots d (value.Clock (length w.clocks)))))
  pub there : q ≡ made v a (onward (with_slots (aged act s) (set act.frame.slots d (value.Clock (length v.clocks)))))

pub record Starts (m : ModuleValue) (w v : World) (a : ℕ) (act : Activity) (s : ℕ) (o q : Outcome) : Type 0 where
  pub unit : ℕ
  pub args : List ℕ
  pub values : List Value
  pub next : IsNext m act (instr.Spawn unit args)
  pub here : o ≡ spawned m w a act unit values
  pub there : q ≡ spawned m v a (aged act s) unit values

pub data Goes (m : ModuleValue) (w v : World) (a : ℕ) (act : Activity) (s : ℕ) (o q : Outcome) : Type 0 where
  IsNone : is_step o ≡ false → Goes m w v a act s o q
  DoesAct : Acts m w v a act o q → Goes m w v a act s o q
  DoesMake : Makes m w v a act s o q → Goes m w v a act s o q
  DoesStart : Starts m w v a act s o q → Goes m w v a act s o q

module _ (m : ModuleValue) (w v : World) (a : ℕ) (act : Activity) (s : ℕ) (sees : Sees m w v a act s) where
  is_no_pass : (move : Move) → is_pass move ≡ false → move ≡ Passes → waits w a ≡ false
  is_no_pass move h e = absurd (true≢false (sym (ap is_pass e) ∙ h))

  closing_goes : (b : ℕ) → IsNext m act (instr.EndFinish b) → (n : ℕ) → Goes m w v a act s (closing w a act n) (closing v a (aged act s) n)
  closing_goes b next zero = IsNone refl
  closing_goes b next (suc n) = by (awaits w.activities (innermost a act)) sees.awaits
    where
      by : (p : Bool) → (p ≡ false → awaits v.activities (innermost a act) ≡ false)
          → Goes m w v a act s (cond p Blocked (done w a (left act n) none event.Closed)) (cond (awaits v.activities (innermost a act)) Blocked (done v a (left (aged act s) n) none event.Closed))
      by true h = IsNone refl
      by false h = rw (h refl) (DoesAct (record {
        next = left act n;
        now = s;
        move = Rests;
        writes = None;
        e = event.Closed;
        governed = refl;
        alive = ap is_ended next.runs;
        passes = is_no_pass Rests refl;
        silent = λ h. refl;
        touched = λ c k g. absurd (none-some _ g);
        here = refl;
        there = refl;
      }))

  passing_goes : act.status ≡ status.Arrived → Goes m w v a act s (passing w a act) (passing v a (aged act s))
  passing_goes arrived = by (waits w a) refl sees.waits
    where
      by : (p : Bool) → waits w a ≡ p → (p ≡ false → waits v a ≡ false)
          → Goes m w v a act s (cond p Blocked (done w a (past act (w.steps + 1)) (all passed) event.Passed)) (cond (waits v a) Blocked (done v a (past (aged act s) (v.steps + 1)) (all passed) event.Passed))
      by true e h = IsNone refl
      by false e h = rw (h refl) (DoesAct (record {
        next = past act (w.steps + 1);
        now = v.steps + 1;
        move = Passes;
        writes = None;
        e = event.Passed;
        governed = refl;
        alive = ap is_ended arrived;
        passes = λ g. e;
        silent = λ h. refl;
        touched = λ c k g. absurd (none-some _ g);
        here = refl;
        there = refl;
      }))

  pub goes : Goes m w v a act s (step m w a) (step m v a)
  goes = step_pair (Goes m w v a act s) m w v a act s (record {
    blocked = IsNone refl;
    wrong = λ c. IsNone refl;
    clocks = sees.clocks;
    cells = sees.cells;
    width = sees.width;
    does = λ next move writes e deed. DoesAct (record {
      next = next;
      now = s;
      move = move;
      writes = writes;
      e = e;
      governed = deed.governed;
      alive = ap is_ended deed.runs;
      passes = is_no_pass move deed.stays;
      silent = deed.silent;
      touched = deed.touched;
      here = refl;
      there = refl;
    });
    made = λ d old at is. DoesMake (record { d = d; next = at; here = refl; there = refl });
    closing = λ b at. closing_goes b at act.opened;
    passing = passing_goes;
    spawned = λ t args values at. DoesStart (record { unit = t; args = args; values = values; next = at; here = refl; there = refl });
  }) sees.there sees.then

-- in one world
pub sees_itself : (m : ModuleValue) (w : World) (a : ℕ) (act : Activity) → slice_get w.activities a ≡ Some act → Sees m w w a act act.since
sees_itself m w a act at = record { there = at; then = at; clocks = λ x k h. refl; cells = λ i next c h. refl; width = λ c. refl; waits = λ h. h; awaits = λ h. h }
