-- Which events the steps of each instruction have.
--
-- The forms of `xk_law_schedules/proofs/StepFormLemmas.antt`, and the pairs of `xk_law_commute/proofs/StepPairLemmas.antt`, don't give it: of the
-- event of a step that goes on they say that it is no start, no arrival and no end (`Changes`), and neither that it is no pass nor which
-- one it is. So this file walks over the instructions once more, for their events alone.
use Rattle.std.proofs.Common.{◌≡◌, ℕ, zero, suc, ℤ, ◌+◌, List, [], ◌∷◌, set, Bool, true, false, true≢false, cond, Some, None, Option, refl, sym, ap, ◌∙◌, subst}
use Rattle.std.specs.Prelude.{slice_get, option_and_then, int_le}
use Rattle.std.specs.Int.{int_min}
use Rattle.xk_types.specs.declared.instr.Instr.{Instr}
use Rattle.xk_types.specs.declared.instr.Instr.TheVariants as instr
use Rattle.xk_types.specs.declared.world.Value.{Value}
use Rattle.xk_types.specs.declared.world.Value.TheVariants as value
use Rattle.xk_types.specs.declared.world.Status.{Status}
use Rattle.xk_types.specs.declared.world.Status.TheVariants as status
use Rattle.xk_types.specs.declared.world.Event.{Event}
use Rattle.xk_types.specs.declared.world.Event.TheVariants as event
use Rattle.xk_types.specs.declared.unit.ParamKind.{ParamKind}
use Rattle.xk_types.specs.declared.unit.ParamKind.TheVariants as param
use Rattle.xk_types.specs.Code.{UnitValue, ModuleValue, Loop, loop_head, is_method}
use Rattle.xk_types.specs.World.{Frame, Activity, Clock, World, standing_of, instruction_at}
use Rattle.xk_types.specs.Step.{onward, left, past, Outcome, Blocked, Wrong, Stepped, ClockUse, OutOfRange, slot_at, with_slots, is_registered, registered_on, number_in, clock_in, cell_in, put_in, writing, arguments_in, no_further, beginning, turning, going, closing, awaits, innermost, calling, called, returning, done, none, all, passed, waits, carried_out, run_at, step_by, step_of, step}
use Rattle.xk_types.specs.Schedule.{is_step, is_enabled}
use Rattle.xk_law_schedules.proofs.StepFormLemmas.{finishes_of, spawning_form}

-- a step that carries out this instruction may have this event
abbrev pub shows : Event → Instr → Bool
shows event.Passed _ = false
shows event.Local (instr.Print x) = false
shows event.Local (instr.Make d) = false
shows event.Local (instr.Get d s) = false
shows event.Local (instr.Put s x) = false
shows event.Local (instr.AddTo s x) = false
shows event.Local (instr.Finish e) = false
shows event.Local (instr.EndFinish b) = false
shows event.Local (instr.Spawn t args) = false
shows event.Local (instr.Resume x) = false
shows event.Local (instr.Drop x) = false
shows event.Local instr.Advance = false
shows event.Local _ = true
shows (event.Printed n) (instr.Print x) = true
shows (event.Printed n) _ = false
shows event.Made (instr.Make d) = true
shows event.Made _ = false
shows event.Got (instr.Get d s) = true
shows event.Got _ = false
shows event.Put (instr.Put s x) = true
shows event.Put _ = false
shows event.Added (instr.AddTo s x) = true
shows event.Added _ = false
shows event.Opened (instr.Finish e) = true
shows event.Opened _ = false
shows event.Closed (instr.EndFinish b) = true
shows event.Closed _ = false
shows event.Spawned (instr.Spawn t args) = true
shows event.Spawned _ = false
shows event.Resumed (instr.Resume x) = true
shows event.Resumed _ = false
shows event.Dropped (instr.Drop x) = true
shows event.Dropped _ = false
shows event.Arrived instr.Advance = true
shows event.Arrived _ = false
shows event.Ended instr.Ret = true
shows event.Ended _ = false

-- it isn't a step, or instruction j may have its event
abbrev Has : Instr → Outcome → Type 0
Has j Blocked = Unit {0}
Has j (Wrong c) = Unit {0}
Has j (Stepped u e) = shows e j ≡ true

-- ---- operands

module _ (j : Instr) (w : World) (a : ℕ) (act : Activity) where
  on_number : (o : Option Value) (go : ℤ → Outcome) → ((n : ℤ) → Has j (go n)) → Has j (number_in o go)
  on_number None go h = tt
  on_number (Some value.Unset) go h = tt
  on_number (Some (value.Number n)) go h = h n
  on_number (Some (value.Clock c)) go h = tt

  on_limit : (o : Option ℕ) (hi : ℤ) (go : ℤ → Outcome) → ((n : ℤ) → Has j (go n)) → Has j (no_further act o hi go)
  on_limit None hi go h = h hi
  on_limit (Some x) hi go h = on_number (slot_at act x) (λ n. go (int_min n hi)) (λ n. h (int_min n hi))

  on_clock : (o : Option Value) (go : ℕ → Outcome) → ((k : ℕ) → Has j (go k)) → Has j (clock_in w a o go)
  on_clock None go h = tt
  on_clock (Some value.Unset) go h = tt
  on_clock (Some (value.Number n)) go h = tt
  on_clock (Some (value.Clock k)) go h = by (slice_get w.clocks k)
    where
      at : (q : Bool) → Has j (cond q (go k) (Wrong ClockUse))
      at true = h k
      at false = tt

      by : (o : Option Clock) → Has j (registered_on o a (go k))
      by None = tt
      by (Some c) = at (is_registered (standing_of c a))

  on_cell : (o : Option ℤ) (go : ℤ → Outcome) → ((n : ℤ) → Has j (go n)) → Has j (cell_in o go)
  on_cell None go h = tt
  on_cell (Some n) go h = h n

  on_put : (o : Option Value) (d : ℕ) (x : Value) (go : Activity → Outcome) → ((next : Activity) → Has j (go next))
      → Has j (put_in o act d x go)
  on_put None d x go h = tt
  on_put (Some old) d x go h = h (onward (with_slots act (set act.frame.slots d x)))

  on_arguments : (ps : List ParamKind) (xs : List ℕ) (go : List Value → Outcome) → ((values : List Value) → Has j (go values))
      → Has j (arguments_in w a act ps xs go)
  on_arguments [] [] go h = h []
  on_arguments [] (x ∷ xs) go h = tt
  on_arguments (p ∷ ps) [] go h = tt
  on_arguments (param.Number ∷ ps) (x ∷ xs) go h =
      on_number (slot_at act x) (λ n. arguments_in w a act ps xs (λ values. go (value.Number n ∷ values)))
      (λ n. on_arguments ps xs (λ values. go (value.Number n ∷ values)) (λ values. h (value.Number n ∷ values)))
  on_arguments (param.Clock ∷ ps) (x ∷ xs) go h =
      on_clock (slot_at act x) (λ k. arguments_in w a act ps xs (λ values. go (value.Clock k ∷ values)))
      (λ k. on_arguments ps xs (λ values. go (value.Clock k ∷ values)) (λ values. h (value.Clock k ∷ values)))

  on_begin : shows event.Local j ≡ true → (k : ℕ) (lo : ℤ) (t : ℕ) (top : ℤ) → Has j (beginning w a act k lo t top)
  on_begin h k lo t top = by (int_le lo top)
    where
      by : (q : Bool) → Has j
          (cond q (writing act k (value.Number lo) (λ next. done w a next none event.Local)) (done w a (going act t) none event.Local))
      by true = on_put (slot_at act k) k (value.Number lo) _ (λ next. h)
      by false = h

  on_turn : shows event.Local j ≡ true → (b : ℕ) (o : Option Loop) → Has j (turning w a act b o)
  on_turn h b None = tt
  on_turn h b (Some l) = on_number (slot_at act l.slot) _ (λ n. on_limit l.limit l.hi _ (λ top. h))

  on_close : shows event.Closed j ≡ true → (n : ℕ) → Has j (closing w a act n)
  on_close h zero = tt
  on_close h (suc n) = by (awaits w.activities (innermost a act))
    where
      by : (q : Bool) → Has j (cond q Blocked (done w a (left act n) none event.Closed))
      by true = tt
      by false = h

  on_call : shows event.Local j ≡ true → (m : ModuleValue) (t : ℕ) (args : List ℕ) (o : Option UnitValue)
      → Has j (calling m w a act t args o)
  on_call h m t args None = tt
  on_call h m t args (Some u) = by (is_method u.kind)
    where
      by : (q : Bool) → Has j
          (cond q (arguments_in w a act u.params args (λ values. done w a (called m act t values) none event.Local)) (Wrong OutOfRange))
      by true = on_arguments u.params args _ (λ values. h)
      by false = tt

  on_return : shows event.Local j ≡ true → shows event.Ended j ≡ true → (fs : List Frame) → Has j (returning w a act fs)
  on_return h g [] = g
  on_return h g (f ∷ fs) = h

  -- ---- instructions

  -- one that comes of two numbers
  on_two : (x y : ℕ) (go : ℤ → ℤ → Outcome) → ((p q : ℤ) → Has j (go p q))
      → Has j (number_in (slot_at act x) (λ p. number_in (slot_at act y) (λ q. go p q)))
  on_two x y go h = on_number (slot_at act x) _ (λ p. on_number (slot_at act y) _ (h p))

  instruction_event : (m : ModuleValue) (i : Instr) → j ≡ i → Has j (carried_out m w a act i)
  instruction_event m (instr.Lit d n) is = on_put (slot_at act d) d _ _ (λ next. ap (shows event.Local) is)
  instruction_event m (instr.Copy d x) is =
      on_number (slot_at act x) _ (λ n. on_put (slot_at act d) d _ _ (λ next. ap (shows event.Local) is))
  instruction_event m (instr.Add d x y) is = on_two x y _ (λ p q. on_put (slot_at act d) d _ _ (λ next. ap (shows event.Local) is))
  instruction_event m (instr.Sub d x y) is = on_two x y _ (λ p q. on_put (slot_at act d) d _ _ (λ next. ap (shows event.Local) is))
  instruction_event m (instr.Mul d x y) is = on_two x y _ (λ p q. on_put (slot_at act d) d _ _ (λ next. ap (shows event.Local) is))
  instruction_event m (instr.Unless op x y t) is = on_two x y _ (λ p q. ap (shows event.Local) is)
  instruction_event m (instr.Jump t) is = ap (shows event.Local) is
  instruction_event m (instr.For k lo hi e) is = on_put (slot_at act k) k _ _ (λ next. ap (shows event.Local) is)
  instruction_event m (instr.ForTo k lo x hi e) is = on_limit (Some x) hi _ (λ top. on_begin (ap (shows event.Local) is) k lo (e + 1) top)
  instruction_event m (instr.Next b) is =
      on_turn (ap (shows event.Local) is) b (option_and_then (loop_head b) (instruction_at m (record act.frame { place = b })))
  instruction_event m (instr.Finish e) is = ap (shows event.Opened) is
  instruction_event m (instr.EndFinish b) is = on_close (ap (shows event.Closed) is) act.opened
  instruction_event m (instr.Get d c) is =
      on_cell (slice_get w.cells c) _ (λ n. on_put (slot_at act d) d _ _ (λ next. ap (shows event.Got) is))
  instruction_event m (instr.Put c x) is =
      on_number (slot_at act x) _ (λ n. on_cell (slice_get w.cells c) _ (λ old. ap (shows event.Put) is))
  instruction_event m (instr.AddTo c x) is =
      on_number (slot_at act x) _ (λ n. on_cell (slice_get w.cells c) _ (λ old. ap (shows event.Added) is))
  instruction_event m (instr.Print x) is = on_number (slot_at act x) _ (λ n. ap (shows (event.Printed n)) is)
  instruction_event m (instr.Make k) is = on_put (slot_at act k) k _ _ (λ next. ap (shows event.Made) is)
  instruction_event m (instr.Resume k) is = on_clock (slot_at act k) _ (λ c. ap (shows event.Resumed) is)
  instruction_event m (instr.Drop k) is = on_clock (slot_at act k) _ (λ c. ap (shows event.Dropped) is)
  instruction_event m instr.Advance is = ap (shows event.Arrived) is
  instruction_event m (instr.Call t args) is = on_call (ap (shows event.Local) is) m t args (slice_get m.units t)
  instruction_event m (instr.Spawn t args) is =
      spawning_form (λ outcome. Has j (outcome (finishes_of w act))) (λ c. tt) w a act m t args (slice_get m.units t)
      (λ u values at given. ap (shows event.Spawned) is)
  instruction_event m instr.Ret is = on_return (ap (shows event.Local) is) (ap (shows event.Ended) is) act.callers

-- ---- steps

module _ (m : ModuleValue) (w u : World) (a : ℕ) (act : Activity) (e : Event) (found : slice_get w.activities a ≡ Some act)
    (takes : step m w a ≡ Stepped u e) where
  -- the step, by how its activity stands
  pub stepped_by : (st : Status) → act.status ≡ st → step_by m w a act st ≡ Stepped u e
  stepped_by st is = sym (ap (step_of m w a) found ∙ ap (step_by m w a act) is) ∙ takes

  -- One that runs stands at an instruction,
  pub stepped_at : act.status ≡ status.Running
      → (i : Instr) × (instruction_at m act.frame ≡ Some i) × (carried_out m w a act i ≡ Stepped u e)
  stepped_at runs = by (instruction_at m act.frame) refl
    where
      by : (o : Option Instr) → instruction_at m act.frame ≡ o
          → (i : Instr) × (instruction_at m act.frame ≡ Some i) × (carried_out m w a act i ≡ Stepped u e)
      by None here = absurd (true≢false (sym (ap is_step (ap (run_at m w a act) (sym here) ∙ stepped_by status.Running runs))))
      by (Some i) here = (i, here, ap (run_at m w a act) (sym here) ∙ stepped_by status.Running runs)

  -- and its step has an event of that one's.
  pub shown_at : act.status ≡ status.Running → (i : Instr) → instruction_at m act.frame ≡ Some i → shows e i ≡ true
  shown_at runs i here =
      subst (Has i) (ap (run_at m w a act) (sym here) ∙ stepped_by status.Running runs) (instruction_event i w a act m i refl)

-- ---- who passes

-- only one that has arrived passes an `advance`
pub passes_arrived : (m : ModuleValue) (w u : World) (a : ℕ) (act : Activity) → step m w a ≡ Stepped u event.Passed
    → slice_get w.activities a ≡ Some act
    → act.status ≡ status.Arrived
passes_arrived m w u a act takes found = by act.status refl
  where
    by : (st : Status) → act.status ≡ st → act.status ≡ status.Arrived
    by status.Running is =
        let i = stepped_at m w u a act event.Passed found takes is in
        absurd (true≢false (sym (shown_at m w u a act event.Passed found takes is i.0 i.1)))
    by status.Arrived is = is
    by status.Ended is = absurd (true≢false (sym (ap is_step (stepped_by m w u a act event.Passed found takes status.Ended is))))

-- and one that has arrived takes a step only where it waits for no clock
pub arrived_free : (m : ModuleValue) (w : World) (a : ℕ) (act : Activity) → slice_get w.activities a ≡ Some act
    → act.status ≡ status.Arrived → is_enabled m w a ≡ true
    → waits w a ≡ false
arrived_free m w a act at is enabled = by (waits w a) refl (sym (ap is_step (ap (step_of m w a) at ∙ ap (step_by m w a act) is)) ∙ enabled)
  where
    by : (q : Bool) → waits w a ≡ q → is_step (cond q Blocked (done w a (past act (w.steps + 1)) (all passed) event.Passed)) ≡ true
        → waits w a ≡ false
    by true h g = absurd (true≢false (sym g))
    by false h g = h
