-- A module with a finish that is accepted: main opens it, makes a clock inside, starts an activity with the clock, drops it, and at
-- the end of the finish waits until the activity has ended.
use Rattle.std.proofs.lemmas.List.{nil_from_length}
use Rattle.xk_types.specs.World.{opening}
use Rattle.xk_law_schedules.proofs.Examples.Opening.{fresh}
use Rattle.std.proofs.Common.{◌≡◌, ℕ, zero, suc, ◌≤◌, Bool, true, false, ◌&&◌, List, [], ◌∷◌, length, Option, Some, None, refl, sym, ap, ◌∙◌, subst, arith}
use Rattle.std.specs.Prelude.{slice_get}
use Rattle.std.specs.List.{list_all}
use Rattle.std.specs.Option.{option_map_or}
use Rattle.std.proofs.lemmas.Bool.{false≢true}
use Rattle.std.proofs.lemmas.Option.{none-some, same_Some, slice_get_past}
use Rattle.std.proofs.lemmas.List.Elements.{All-cons, All-nil, All-from_recursion}
use Rattle.xk_types.specs.declared.instr.Instr.TheVariants as instr
use Rattle.xk_types.specs.declared.unit.UnitKind.TheVariants as unit_kind
use Rattle.xk_types.specs.declared.unit.ParamKind.TheVariants as param
use Rattle.xk_types.specs.declared.rules.Kind.{Kind}
use Rattle.xk_types.specs.declared.rules.Kind.TheVariants as kind
use Rattle.xk_types.specs.Code.{UnitValue, ModuleValue, IsUnitWithinLimits, IsWithinLimits}
use Rattle.xk_types.specs.World.{Activity, World, is_ended}
use Rattle.xk_types.specs.Step.{step_of}
use Rattle.xk_types.specs.Schedule.{Course, Through, Held, Wronged, Leads, run, is_step, is_enabled, all_ended}
use Rattle.xk_types.specs.Bound.{steps_bound, activities_bound, clocks_bound}
use Rattle.xk_types.specs.Acceptance.{IsAccepted, EverySchedule}
use Rattle.xk_law_schedules.proofs.Examples.AcceptanceTest.{HasFewArguments, accepted_by}
use Rattle.xk_law_schedules.proofs.EveryScheduleLaw.{every_schedule}

-- main
abbrev main_unit : UnitValue
main_unit = record {
  kind = unit_kind.Main;
  params = [];
  slots = 1;
  code = instr.Finish 4 ∷ instr.Make 0 ∷ instr.Spawn 1 (0 ∷ []) ∷ instr.Drop 0 ∷ instr.EndFinish 0 ∷ instr.Ret ∷ [];
}

-- what it starts
abbrev body_unit : UnitValue
body_unit = record { kind = unit_kind.Body; params = param.Clock ∷ []; slots = 1; code = instr.Advance ∷ instr.Ret ∷ [] }

-- the module
abbrev pub finish_row : ModuleValue
finish_row = record { shared = []; units = main_unit ∷ body_unit ∷ [] }

-- ---- accepted

-- the kinds of main's slot at each place: the clock is out before the finish ends
abbrev main_kinds : ℕ → List Kind
main_kinds zero = kind.Unset ∷ []
main_kinds (suc zero) = kind.Unset ∷ []
main_kinds (suc (suc zero)) = kind.Live ∷ []
main_kinds (suc (suc (suc zero))) = kind.Live ∷ []
main_kinds (suc (suc (suc (suc at)))) = kind.Out ∷ []

-- of each unit's
abbrev kinds_at : ℕ → ℕ → ℕ → List Kind
kinds_at zero s at = main_kinds at
kinds_at (suc unit) s at = kind.Live ∷ kind.Resumed ∷ []

-- the module is accepted
pub finish_row_accepted : IsAccepted finish_row
unfolding Rattle.xk_types.specs.Bound.total_within Rattle.xk_types.specs.Bound.chain_within
finish_row_accepted = accepted_by finish_row kinds_at refl refl (record { steps = omega arith; activities = omega arith; clocks = omega arith; stack = omega arith })

-- it is within the limits
pub finish_row_limits : IsWithinLimits finish_row
finish_row_limits = record {
  some = omega arith;
  units = omega arith;
  shared = omega arith;
  each = All-cons IsUnitWithinLimits main_unit (body_unit ∷ [])
      (record { slots = omega arith; params = omega arith; code = omega arith; arguments = All-from_recursion HasFewArguments main_unit.code (omega arith) })
      (All-cons IsUnitWithinLimits body_unit []
      (record { slots = omega arith; params = omega arith; code = omega arith; arguments = All-from_recursion HasFewArguments body_unit.code (omega arith) })
      (All-nil IsUnitWithinLimits));
}

-- the law says something of it
pub finish_row_law : EverySchedule finish_row
finish_row_law = every_schedule finish_row finish_row_limits finish_row_accepted

-- its bounds
pub finish_row_bounds : (steps_bound finish_row ≡ 9) × (activities_bound finish_row ≡ 2) × (clocks_bound finish_row ≡ 1)
unfolding Rattle.xk_types.specs.Bound.total_within Rattle.xk_types.specs.Bound.chain_within
finish_row_bounds = (refl, refl, refl)

-- ---- main waits

-- a list that begins with the four steps that bring main to its `endfinish`
abbrev pub from_end : List ℕ → List ℕ
from_end rest = 0 ∷ 0 ∷ 0 ∷ 0 ∷ rest

-- whether main can take a step after the list, where the list is legal
abbrev main_goes : Course → Option Bool
main_goes (Through w) = Some (is_enabled finish_row w 0)
main_goes (Held w) = None
main_goes (Wronged w c) = None

-- main can't close the finish before the activity that it started has ended, and then it can
pub waits_at_end : (main_goes (run finish_row (from_end []) (fresh finish_row)) ≡ Some false)
    × (main_goes (run finish_row (from_end (1 ∷ [])) (fresh finish_row)) ≡ Some false)
    × (main_goes (run finish_row (from_end (1 ∷ 1 ∷ [])) (fresh finish_row)) ≡ Some false)
    × (main_goes (run finish_row (from_end (1 ∷ 1 ∷ 1 ∷ [])) (fresh finish_row)) ≡ Some true)
unfolding Rattle.xk_types.specs.Step.under_within
waits_at_end = (refl, refl, refl, refl)

-- a list that stops short leads nowhere
short : (v w : World) → Held v ≡ Through w → ⊥
short v w e = grind arith

-- main can take no step at the end of a run
abbrev main_stays : Course → Type 0
main_stays (Through w) = is_enabled finish_row w 0 ≡ false
main_stays (Held w) = Unit {0}
main_stays (Wronged w c) = Unit {0}

-- the activity that main started has ended at the end of a run
abbrev other_ended : Course → Bool
other_ended (Through w) = option_map_or (λ act. is_ended act.status) (slice_get w.activities 1) false
other_ended (Held w) = false
other_ended (Wronged w c) = false

-- where it is still on, that is not so
not_over : (w : World) (act : Activity) → slice_get w.activities 1 ≡ Some act → is_ended act.status ≡ false → other_ended (Through w) ≡ true → ⊥
not_over w act there on h = false≢true (sym on ∙ sym (ap (λ o. option_map_or (λ x. is_ended x.status) o false) there) ∙ h)

-- However a run goes on from there, main can't take a step before the activity that it started has ended.
pub waits_for_other : (rest : List ℕ) (w : World) → run finish_row (from_end rest) (fresh finish_row) ≡ Through w → (act : Activity) → slice_get w.activities 1 ≡ Some act
    → is_ended act.status ≡ false → is_enabled finish_row w 0 ≡ false
unfolding Rattle.xk_types.specs.Step.under_within
waits_for_other [] w h act there on = subst main_stays h refl
waits_for_other (zero ∷ r) w h act there on = absurd (short _ w h)
waits_for_other (suc (suc a) ∷ r) w h act there on = absurd (short _ w h)
waits_for_other (suc zero ∷ []) w h act there on = subst main_stays h refl
waits_for_other (suc zero ∷ zero ∷ r) w h act there on = absurd (short _ w h)
waits_for_other (suc zero ∷ suc (suc a) ∷ r) w h act there on = absurd (short _ w h)
waits_for_other (suc zero ∷ suc zero ∷ []) w h act there on = subst main_stays h refl
waits_for_other (suc zero ∷ suc zero ∷ zero ∷ r) w h act there on = absurd (short _ w h)
waits_for_other (suc zero ∷ suc zero ∷ suc (suc a) ∷ r) w h act there on = absurd (short _ w h)
waits_for_other (suc zero ∷ suc zero ∷ suc zero ∷ r) w h act there on = absurd (not_over w act there on (over r h))
  where
    -- it has ended, and stays so
    over : (r : List ℕ) → run finish_row (from_end (1 ∷ 1 ∷ 1 ∷ r)) (fresh finish_row) ≡ Through w → other_ended (Through w) ≡ true
    over [] e = subst (λ c. other_ended c ≡ true) e refl
    over (suc zero ∷ r) e = absurd (short _ w e)
    over (suc (suc a) ∷ r) e = absurd (short _ w e)
    over (zero ∷ []) e = subst (λ c. other_ended c ≡ true) e refl
    over (zero ∷ suc zero ∷ r) e = absurd (short _ w e)
    over (zero ∷ suc (suc a) ∷ r) e = absurd (short _ w e)
    over (zero ∷ zero ∷ []) e = subst (λ c. other_ended c ≡ true) e refl
    over (zero ∷ zero ∷ zero ∷ r) e = absurd (short _ w e)
    over (zero ∷ zero ∷ suc zero ∷ r) e = absurd (short _ w e)
    over (zero ∷ zero ∷ suc (suc a) ∷ r) e = absurd (short _ w e)

-- ---- nobody is stuck

-- an activity of number 2 or more is enabled in no world that is reached
beyond : (list : List ℕ) (w : World) → Leads finish_row list w → (a : ℕ) → is_enabled finish_row w (suc (suc a)) ≡ false
beyond list w h a =
    ap (λ o. is_step (step_of finish_row w (suc (suc a)) o))
    (slice_get_past w.activities (suc (suc a)) (let few = subst (λ n. length w.activities ≤ n) finish_row_bounds.1 (finish_row_law.activities list w h) in omega arith))

-- in every run, where main can't take a step and not all have ended, the activity that it started can
pub other_goes : (list : List ℕ) (w : World) → Leads finish_row list w → all_ended w ≡ false → is_enabled finish_row w 0 ≡ false → is_enabled finish_row w 1 ≡ true
other_goes list w h on main = go (is_enabled finish_row w 1) refl
  where
    go : (b : Bool) → is_enabled finish_row w 1 ≡ b → b ≡ true
    go true e = refl
    go false e = absurd (false≢true (sym on ∙ finish_row_law.ends list w h nobody))
      where
        nobody : (a : ℕ) → is_enabled finish_row w a ≡ false
        nobody zero = main
        nobody (suc zero) = e
        nobody (suc (suc a)) = beyond list w h a

-- an activity hasn't ended, so that not all have
not_all : (xs : List Activity) (k : ℕ) (act : Activity) → slice_get xs k ≡ Some act → is_ended act.status ≡ false → list_all (λ x. is_ended x.status) xs ≡ false
not_all [] k act there on = absurd (none-some act there)
not_all (x ∷ xs) zero act there on = rw (ap (λ y. is_ended y.status) (same_Some x act there) ∙ on) refl
not_all (x ∷ xs) (suc k) act there on = go (is_ended x.status) (not_all xs k act there on)
  where
    go : (b : Bool) → list_all (λ y. is_ended y.status) xs ≡ false → (b && list_all (λ y. is_ended y.status) xs) ≡ false
    go true rest = rest
    go false rest = refl

-- main takes nothing
from_fresh : (list : List ℕ) (w : World) → Leads finish_row list w → run finish_row list (fresh finish_row) ≡ Through w
from_fresh list w h = subst (λ args. run finish_row list (opening finish_row args) ≡ Through w) (nil_from_length w.arguments h.0) h.1

-- so while main waits, it waits for one that goes on
pub other_goes_on : (rest : List ℕ) (w : World) → Leads finish_row (from_end rest) w → (act : Activity) → slice_get w.activities 1 ≡ Some act
    → is_ended act.status ≡ false → is_enabled finish_row w 1 ≡ true
other_goes_on rest w h act there on = other_goes (from_end rest) w h (not_all w.activities 1 act there on) (waits_for_other rest w (from_fresh (from_end rest) w h) act there on)
