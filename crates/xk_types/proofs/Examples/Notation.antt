-- What the worked modules are written with, and what is looked at of their runs.
use Rattle.std.proofs.Common.{ℕ, List, [], ◌∷◌, Bool, Option, Some, None, map}
use Rattle.xk_types.specs.declared.instr.Instr.{Instr}
use Rattle.xk_types.specs.declared.unit.UnitKind.TheVariants as unit_kind
use Rattle.xk_types.specs.declared.rules.Kind.TheVariants as kind
use Rattle.xk_types.specs.Code.{ModuleValue, UnitValue}
use Rattle.xk_types.specs.World.{World, opening}
use Rattle.xk_types.specs.Step.{Cause}
use Rattle.xk_types.specs.Schedule.{Course, Through, Held, Wronged, all_ended}
use Rattle.xk_types.specs.declared.unit.ParamKind.{ParamKind}
use Rattle.xk_types.specs.declared.rules.Kind.{Kind}
use Rattle.xk_types.specs.declared.rules.Visit.{Visit}

-- main, with so many slots
abbrev pub main_with : ℕ → List Instr → UnitValue
main_with slots code = record { kind = unit_kind.Main; params = []; slots = slots; code = code }

-- a method
abbrev pub method_with : List ParamKind → ℕ → List Instr → UnitValue
method_with params slots code = record { kind = unit_kind.Method; params = params; slots = slots; code = code }

-- a body of an activity that is started
abbrev pub body_with : List ParamKind → ℕ → List Instr → UnitValue
body_with params slots code = record { kind = unit_kind.Body; params = params; slots = slots; code = code }

-- a module without shared numbers
abbrev pub module_with : List UnitValue → ModuleValue
module_with units = record { shared = []; units = units }

-- main alone
abbrev pub main_only : ℕ → List Instr → ModuleValue
main_only slots code = record { shared = []; units = main_with slots code ∷ [] }

-- the opening world of a module whose main takes nothing
abbrev pub fresh : ModuleValue → World
fresh m = opening m []

-- a stop of a walk
abbrev pub visit : ℕ → Kind → Visit
visit at k = record { at = at; kind = k }

-- what is looked at of the last world: whether all have ended, the steps taken, the phases and the last advances
abbrev pub looked : Option World → Option (Bool × ℕ × List (ℕ × ℕ))
looked None = None
looked (Some w) = Some (all_ended w, w.steps, map (λ c. (c.phase, c.last)) w.clocks)

-- why a run was wrong, where it was
abbrev pub cause_of : Course → Option Cause
cause_of (Through w) = None
cause_of (Held w) = None
cause_of (Wronged w c) = Some c

-- all kinds
abbrev pub each_kind : List Kind
each_kind = kind.Unset ∷ kind.Number ∷ kind.Live ∷ kind.Resumed ∷ kind.Out ∷ []
