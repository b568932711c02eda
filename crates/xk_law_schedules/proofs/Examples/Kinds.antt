-- A module that is accepted, in whose runs an activity is signalled: main resumes a clock before the activity that it started does.
-- What walks tell of the clock's slot is so in each of its runs.
use Rattle.std.proofs.Common.{◌≡◌, ℕ, zero, suc, true, List, [], ◌∷◌, Some, refl, sym, ap, ◌∙◌, subst, arith}
use Rattle.std.specs.Prelude.{slice_get}
use Rattle.std.proofs.lemmas.Bool.{false≢true}
use Rattle.std.proofs.lemmas.List.Elements.{All-cons, All-nil, All-from_recursion}
use Rattle.std.proofs.lemmas.Option.{same_Some}
use Rattle.xk_types.specs.declared.instr.Instr.TheVariants as instr
use Rattle.xk_types.specs.declared.unit.UnitKind.TheVariants as unit_kind
use Rattle.xk_types.specs.declared.unit.ParamKind.TheVariants as param
use Rattle.xk_types.specs.declared.world.Value.TheVariants as value
use Rattle.xk_types.specs.declared.world.Status.TheVariants as status
use Rattle.xk_types.specs.declared.world.Standing.{Standing}
use Rattle.xk_types.specs.declared.world.Standing.TheVariants as standing
use Rattle.xk_types.specs.declared.rules.Kind.{Kind}
use Rattle.xk_types.specs.declared.rules.Kind.TheVariants as kind
use Rattle.xk_types.specs.Code.{UnitValue, ModuleValue, IsUnitWithinLimits, IsWithinLimits}
use Rattle.xk_types.specs.World.{Frame, Activity, World, root}
use Rattle.xk_types.specs.Schedule.{Leads}
use Rattle.xk_types.specs.Walk.{IsVisited}
use Rattle.xk_types.specs.Acceptance.{IsAccepted}
use Rattle.xk_types.specs.Kinds.{KindsAreSound, HasVisitedKinds, stands_on, kind_by}
use Rattle.xk_law_schedules.proofs.Examples.AcceptanceTest.{HasFewArguments, accepted_by, is_among, visited_among}
use Rattle.xk_law_schedules.proofs.EveryScheduleLaw.{kinds_sound}

-- main
abbrev main_unit : UnitValue
main_unit = record {
  kind = unit_kind.Main;
  params = [];
  slots = 1;
  code = instr.Make 0 ∷ instr.Spawn 1 (0 ∷ []) ∷ instr.Resume 0 ∷ instr.Advance ∷ instr.Drop 0 ∷ instr.Ret ∷ [];
}

-- what it starts
abbrev body_unit : UnitValue
body_unit = record { kind = unit_kind.Body; params = param.Clock ∷ []; slots = 1; code = instr.Advance ∷ instr.Ret ∷ [] }

-- the module
abbrev pub kinds_row : ModuleValue
kinds_row = record { shared = []; units = main_unit ∷ body_unit ∷ [] }

-- ---- accepted

-- the kinds of main's slot at each place
abbrev main_kinds : ℕ → List Kind
main_kinds zero = kind.Unset ∷ []
main_kinds (suc zero) = kind.Live ∷ []
main_kinds (suc (suc zero)) = kind.Live ∷ []
main_kinds (suc (suc (suc zero))) = kind.Resumed ∷ []
main_kinds (suc (suc (suc (suc zero)))) = kind.Live ∷ []
main_kinds (suc (suc (suc (suc (suc at))))) = kind.Out ∷ []

-- of each unit's
abbrev kinds_at : ℕ → ℕ → ℕ → List Kind
kinds_at zero s at = main_kinds at
kinds_at (suc unit) s at = kind.Live ∷ kind.Resumed ∷ []

-- the module is accepted
pub kinds_row_accepted : IsAccepted kinds_row
unfolding Rattle.xk_types.specs.Bound.total_within Rattle.xk_types.specs.Bound.chain_within
kinds_row_accepted = accepted_by kinds_row kinds_at refl refl (record { steps = omega arith; activities = omega arith; clocks = omega arith; stack = omega arith })

-- it is within the limits
pub kinds_row_limits : IsWithinLimits kinds_row
kinds_row_limits = record {
  some = omega arith;
  units = omega arith;
  shared = omega arith;
  each = All-cons IsUnitWithinLimits main_unit (body_unit ∷ [])
      (record { slots = omega arith; params = omega arith; code = omega arith; arguments = All-from_recursion HasFewArguments main_unit.code (omega arith) })
      (All-cons IsUnitWithinLimits body_unit []
      (record { slots = omega arith; params = omega arith; code = omega arith; arguments = All-from_recursion HasFewArguments body_unit.code (omega arith) })
      (All-nil IsUnitWithinLimits));
}

-- its kinds are sound
pub kinds_row_sound : KindsAreSound kinds_row
kinds_row_sound = kinds_sound kinds_row kinds_row_limits kinds_row_accepted

-- ---- what that says

-- in a frame of main, some walk comes with the kind of the clock's name
main_visited : (w : World) (a : ℕ) (f : Frame) (c : ℕ) → HasVisitedKinds kinds_row w.clocks a f → f.unit ≡ 0 → slice_get f.slots 0 ≡ Some (value.Clock c)
    → IsVisited kinds_row main_unit 0 (record { at = f.place; kind = kind_by (stands_on w.clocks a c) })
main_visited w a f c k runs named =
    subst (λ u. IsVisited kinds_row u 0 (record { at = f.place; kind = kind_by (stands_on w.clocks a c) }))
    (sym (same_Some main_unit k.u (sym (ap (λ unit. slice_get kinds_row.units unit) runs) ∙ k.found))) (k.visited 0 (value.Clock c) named)

-- a clock whose name is live is open
live_open : (st : Standing) → is_among (kind.Live ∷ []) (kind_by st) ≡ true → st ≡ standing.Open
live_open standing.Apart h = absurd (grind arith)
live_open standing.Open h = refl
live_open standing.Signalled h = absurd (grind arith)
live_open standing.Ahead h = absurd (grind arith)

-- In every run, who stands at main's `drop` is open on the clock that is dropped: it has passed since it resumed.
pub open_at_drop : (list : List ℕ) (w : World) → Leads kinds_row list w → (a : ℕ) (act : Activity) → slice_get w.activities a ≡ Some act
    → act.status ≡ status.Running → act.frame.unit ≡ 0 → act.frame.place ≡ 4 → (c : ℕ) → slice_get act.frame.slots 0 ≡ Some (value.Clock c)
    → stands_on w.clocks a c ≡ standing.Open
open_at_drop list w h a act there running runs at c named =
    let visited = main_visited w a act.frame c (kinds_row_sound list w h a act there running) runs named in
    live_open (stands_on w.clocks a c)
    (subst (λ p. is_among (main_kinds p) (kind_by (stands_on w.clocks a c)) ≡ true) at
    (visited_among kinds_row main_unit 0 main_kinds refl (record { at = act.frame.place; kind = kind_by (stands_on w.clocks a c) }) visited))

-- ---- a world where main is signalled

-- main has resumed the clock and stands at its `advance`; what it started has done nothing yet
abbrev pub signalled_world : World
signalled_world = record {
  activities = record { frame = record { unit = 0; place = 3; slots = value.Clock 0 ∷ [] }; callers = []; status = status.Running; since = 0; opened = 0; governed = root }
      ∷ record { frame = record { unit = 1; place = 0; slots = value.Clock 0 ∷ [] }; callers = []; status = status.Running; since = 0; opened = 0; governed = root } ∷ [];
  clocks = record { phase = 0; last = 0; standings = standing.Signalled ∷ standing.Open ∷ [] } ∷ [];
  cells = [];
  steps = 3;
  arguments = [];
}

-- a schedule leads there
pub signalled_reached : Leads kinds_row (0 ∷ 0 ∷ 0 ∷ []) signalled_world
signalled_reached = (refl, refl)

-- so a walk comes there with the kind resumed
pub signalled_resumed : IsVisited kinds_row main_unit 0 (record { at = 3; kind = kind.Resumed })
signalled_resumed = main_visited signalled_world 0 _ 0 (kinds_row_sound (0 ∷ 0 ∷ 0 ∷ []) signalled_world signalled_reached 0 _ refl refl) refl refl

-- and none with live: were a signalled clock's name live, the kinds wouldn't be sound
pub signalled_not_live : IsVisited kinds_row main_unit 0 (record { at = 3; kind = kind.Live }) → ⊥
signalled_not_live v = false≢true (visited_among kinds_row main_unit 0 main_kinds refl (record { at = 3; kind = kind.Live }) v)
