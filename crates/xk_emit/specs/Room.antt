-- Room for code, and what an error says: names are wanting, or room. This project's own.
use Rattle.std.specs.Prelude.{ℕ, ◌+◌, ◌<◌, ◌≤◌, max, List, [], ◌∷◌, length, ⊤}
use Rattle.xk_types.specs.declared.instr.Instr.{Instr}
use Rattle.xk_types.specs.Code.{arguments_of}
use Rattle.xk_emit.specs.declared.error.CodeError.{CodeError}
use Rattle.xk_emit.specs.declared.error.CodeError.TheVariants as error
use Rattle.xk_emit.specs.CodeOf.{Scope}
use Rattle.xk_emit.specs.Unit.{slots_used}

-- the slots of names are below 64
abbrev pub AreLow : Scope → Type 0
AreLow [] = ⊤
AreLow (x ∷ xs) = (x.1 < 64) × AreLow xs

-- the most arguments that an instruction has
abbrev pub most_arguments : List Instr → ℕ
most_arguments [] = 0
most_arguments (i ∷ is) = max (length (arguments_of i)) (most_arguments is)

-- Behind `size` instructions these have room in a unit: no more than 4,096 come together, the slots of names and those that are written are
-- below 64, and no instruction has more than 64 arguments.
pub record HasRoom (scope : Scope) (size : ℕ) (more : List Instr) : Type 0 where
  pub low : AreLow scope
  pub code : size + length more ≤ 4096
  pub slots : slots_used 0 more ≤ 64
  pub arguments : most_arguments more ≤ 64

-- what an error says isn't so: that all names are there, or that there is room
abbrev pub Denies : CodeError → Type 0 → Type 0 → Type 0
Denies error.Name Names Room = Names → ⊥
Denies error.Table Names Room = Room → ⊥
Denies error.OutOfMemory Names Room = ⊤
