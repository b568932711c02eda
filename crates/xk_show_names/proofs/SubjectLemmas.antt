-- What an activity carries out next, and the slots of its clock operations.
use Rattle.std.proofs.Common.{◌≡◌, ◌∙◌, ℕ, ◌<◌, true, false, not, length, Option, Some, None, slice_get, refl, sym, ap, subst}
use Rattle.std.specs.Option.{option_map_or}
use Rattle.std.proofs.lemmas.Option.{get_or_from_slice_get, slice_get_within}
use Rattle.xk_types.specs.declared.instr.Instr.{Instr}
use Rattle.xk_types.specs.declared.instr.Instr.TheVariants as instr
use Rattle.xk_types.specs.declared.world.Event.TheVariants as event
use Rattle.xk_types.specs.declared.world.Status.{Status}
use Rattle.xk_types.specs.declared.world.Status.TheVariants as status
use Rattle.xk_types.specs.declared.world.Value.{Value}
use Rattle.xk_types.specs.Code.{ModuleValue}
use Rattle.xk_types.specs.World.{Activity, World, instruction_at, is_ended}
use Rattle.xk_types.specs.Step.{Outcome, clock_in, done, dropped, onward, only, resumed, run_at, slot_at, step_by, step_of}
use Rattle.xk_types.specs.Schedule.{is_enabled, is_step}
use Rattle.xk_activity.specs.Activities.{act_at, nobody}
use Rattle.xk_core.specs.Core.{instruction_by, instruction_of, is_arrived, is_living, is_waiting, next_instruction}

-- the activity that is there
there : (w : World) (a : ℕ) (x : Activity) → slice_get w.activities a ≡ Some x → act_at w.activities a ≡ x
there w a x h = get_or_from_slice_get w.activities a x nobody h

-- ---- what is carried out next

-- one that has ended carries out nothing
pub idle : (m : ModuleValue) (w : World) (a : ℕ) → is_living w a ≡ false → next_instruction m w a ≡ None
idle m w a h = of (slice_get w.activities a) h
  where
    by : (x : Activity) (s : Status) → not (is_ended s) ≡ false → instruction_by m x s ≡ None
    by x status.Running g = cc
    by x status.Arrived g = refl
    by x status.Ended g = refl

    of : (o : Option Activity) → option_map_or (λ act. not (is_ended act.status)) o false ≡ false → instruction_of m o ≡ None
    of None g = refl
    of (Some x) g = by x x.status g

-- nor does one that waits at an `advance`
pub waiting : (m : ModuleValue) (w : World) (a : ℕ) → is_waiting w a ≡ true → next_instruction m w a ≡ None
waiting m w a h = of (slice_get w.activities a) h
  where
    by : (x : Activity) (s : Status) → is_arrived s ≡ true → instruction_by m x s ≡ None
    by x status.Running g = cc
    by x status.Arrived g = refl
    by x status.Ended g = cc

    of : (o : Option Activity) → option_map_or (λ act. is_arrived act.status) o false ≡ true → instruction_of m o ≡ None
    of None g = refl
    of (Some x) g = by x x.status g

-- any other runs
pub running : (m : ModuleValue) (w : World) (a : ℕ) → is_living w a ≡ true → is_waiting w a ≡ false
    → next_instruction m w a ≡ instruction_at m (act_at w.activities a).frame
running m w a lives h = of (slice_get w.activities a) refl lives h
  where
    by : (x : Activity) (s : Status) → not (is_ended s) ≡ true → is_arrived s ≡ false → instruction_by m x s ≡ instruction_at m x.frame
    by x status.Running f g = refl
    by x status.Arrived f g = cc
    by x status.Ended f g = cc

    of : (o : Option Activity) → slice_get w.activities a ≡ o → option_map_or (λ act. not (is_ended act.status)) o false ≡ true
        → option_map_or (λ act. is_arrived act.status) o false ≡ false → instruction_of m o ≡ instruction_at m (act_at w.activities a).frame
    of None e f g = cc
    of (Some x) e f g = by x x.status f g ∙ ap (λ (y : Activity). instruction_at m y.frame) (sym (there w a x e))

-- ---- the slots of clock operations

-- a slot that names a clock is there
names : (w : World) (a k : ℕ) (x : Activity) (go : ℕ → Outcome) → is_step (clock_in w a (slot_at x k) go) ≡ true → k < length x.frame.slots
names w a k x go h = of (slot_at x k) refl h
  where
    of : (o : Option Value) → slot_at x k ≡ o → is_step (clock_in w a o go) ≡ true → k < length x.frame.slots
    of None e g = cc
    of (Some v) e g = slice_get_within x.frame.slots k v e

-- where an instruction that names a clock is carried out next
carried : (m : ModuleValue) (w : World) (a k : ℕ) (i : Instr) (go : Activity → ℕ → Outcome) → is_enabled m w a ≡ true
    → next_instruction m w a ≡ Some i
    → ((x : Activity) → run_at m w a x (Some i) ≡ clock_in w a (slot_at x k) (go x)) → k < length (act_at w.activities a).frame.slots
carried m w a k i go able next is = of (slice_get w.activities a) refl able next
  where
    by : (x : Activity) (s : Status) → is_step (step_by m w a x s) ≡ true → instruction_by m x s ≡ Some i → k < length x.frame.slots
    by x status.Running f g = names w a k x (go x) (ap is_step (sym (is x)) ∙ ap (λ o. is_step (run_at m w a x o)) (sym g) ∙ f)
    by x status.Arrived f g = cc
    by x status.Ended f g = cc

    of : (o : Option Activity) → slice_get w.activities a ≡ o → is_step (step_of m w a o) ≡ true → instruction_of m o ≡ Some i
        → k < length (act_at w.activities a).frame.slots
    of None e f g = cc
    of (Some x) e f g = subst (λ (y : Activity). k < length y.frame.slots) (sym (there w a x e)) (by x x.status f g)

pub resumed_there : (m : ModuleValue) (w : World) (a k : ℕ) → is_enabled m w a ≡ true → next_instruction m w a ≡ Some (instr.Resume k)
    → k < length (act_at w.activities a).frame.slots
resumed_there m w a k able next =
    carried m w a k (instr.Resume k) (λ x c. done w a (onward x) (only c resumed) event.Resumed) able next (λ x. refl)

pub dropped_there : (m : ModuleValue) (w : World) (a k : ℕ) → is_enabled m w a ≡ true → next_instruction m w a ≡ Some (instr.Drop k)
    → k < length (act_at w.activities a).frame.slots
dropped_there m w a k able next =
    carried m w a k (instr.Drop k) (λ x c. done w a (onward x) (only c dropped) event.Dropped) able next (λ x. refl)
