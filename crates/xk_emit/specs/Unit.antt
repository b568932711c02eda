-- The unit of a method, or of the body of an `async`. This project's own.
use Rattle.std.specs.Prelude.{ℕ, suc, ◌+◌, max, List, [], ◌∷◌, ◌++◌, length, map, Option}
use Rattle.xk_types.specs.declared.instr.Instr.{Instr}
use Rattle.xk_types.specs.declared.instr.Instr.TheVariants as instr
use Rattle.xk_types.specs.declared.unit.ParamKind.{ParamKind}
use Rattle.xk_types.specs.declared.unit.ParamKind.TheVariants as param
use Rattle.xk_types.specs.declared.unit.UnitKind.{UnitKind}
use Rattle.xk_types.specs.declared.unit.UnitKind.TheVariants as unit_kind
use Rattle.xk_types.specs.Code.{UnitValue}
use Rattle.xk_tree.specs.Tree.{Clocks, ParamValue, MethodValue, Statement, Block}
use Rattle.xk_names.specs.Scope.{texts}
use Rattle.xk_names.specs.Uses.{clocks_listed}
use Rattle.xk_emit.specs.CodeOf.{Setting, Scope, body_params, captures_at, count, code_of}

-- one more than the slot that an instruction of an expression writes, which may be a temporary; the others write slots of names alone
abbrev pub written_slots : Instr → ℕ
written_slots (instr.Lit d n) = suc d
written_slots (instr.Copy d a) = suc d
written_slots (instr.Add d a b) = suc d
written_slots (instr.Sub d a b) = suc d
written_slots (instr.Mul d a b) = suc d
written_slots _ = 0

-- the slots of a unit: those of its parameters and names, and the temporaries that its code writes
abbrev pub slots_used : ℕ → List Instr → ℕ
slots_used t [] = t
slots_used t (i ∷ is) = max (written_slots i) (slots_used t is)

-- the scope of parameters, the first of which has slot n
abbrev pub scope_from : ℕ → List (List ℕ) → Scope
scope_from n [] = []
scope_from n (x ∷ xs) = (x, n) ∷ scope_from (n + 1) xs

-- the first temporary of a unit with these parameters
abbrev pub first_temporary : List (List ℕ) → Statement → ℕ
first_temporary xs s = length xs + count s

-- the code of a unit with these parameters
abbrev pub unit_code : Setting → List (List ℕ) → Statement → List Instr
unit_code cx xs s = code_of cx (first_temporary xs s) (scope_from 0 xs) (length xs) 0 s ++ instr.Ret ∷ []

-- the unit of a statement, with the names and the kinds of its parameters
abbrev pub unit_of : Setting → UnitKind → List (List ℕ) → List ParamKind → Statement → UnitValue
unit_of cx kind xs kinds s = record { kind = kind; params = kinds; slots = slots_used (first_temporary xs s) (unit_code cx xs s); code = unit_code cx xs s }

-- ---- methods and bodies

abbrev pub names_of_params : List ParamValue → List (List ℕ)
names_of_params ps = map (λ p. p.name.text) ps

abbrev pub kinds_of_params : List ParamValue → List ParamKind
kinds_of_params ps = map (λ p. p.takes.kind) ps

-- the unit of a method
abbrev pub unit_of_method : Setting → UnitKind → MethodValue → UnitValue
unit_of_method cx kind m = unit_of cx kind (names_of_params m.params) (kinds_of_params m.params) (Block m.close m.body)

-- what the parameters of the body of an `async` take: its clocks, and then numbers
abbrev pub body_kinds : Setting → ℕ → Option Clocks → List ParamKind
body_kinds cx at cs = map (λ _. param.Clock) (texts (clocks_listed cs)) ++ map (λ _. param.Number) (captures_at cx at)

-- the unit of the body of an `async`, by the offset of that word and the clocks that it lists
abbrev pub unit_of_body : Setting → ℕ → Option Clocks → Statement → UnitValue
unit_of_body cx at cs s = unit_of cx unit_kind.Body (body_params cx at cs) (body_kinds cx at cs) s
