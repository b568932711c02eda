-- What a call that emits the code of a statement does. This project's own.
use Rattle.std.specs.Prelude.{◌≡◌, ℕ, ◌+◌, ◌≤◌, List, ◌++◌, length, Result, OnOk, IfOk, IfErr}
use Rattle.xk_types.specs.declared.instr.Instr.{Instr}
use Rattle.xk_tree.specs.Tree.{Statement}
use Rattle.xk_emit.specs.declared.error.CodeError.{CodeError}
use Rattle.xk_emit.specs.CodeOf.{Setting, Scope, count, declared, code_of}
use Rattle.xk_emit.specs.NameCoverage.{IsCovered}
use Rattle.xk_emit.specs.Room.{Denies, HasRoom}

-- an error says that the statement's names aren't all there, or that its code, behind `size` instructions, and its names have no room
abbrev pub DeniesCode : CodeError → Setting → ℕ → Scope → ℕ → ℕ → Statement → Type 0
DeniesCode err cx t scope n size s = Denies err (IsCovered cx scope n s) (HasRoom scope size (code_of cx t scope n size s) × (n + count s ≤ 64))

-- The statement's code is put behind `old`, which gives `new`; behind it the names in `seen` are visible, and the answer is the next slot. An error says
-- why not. t is the first temporary, `names` are visible before, and n is the next slot there.
pub record Emits (cx : Setting) (t : ℕ) (names : Scope) (n : ℕ) (s : Statement) (old new : List Instr) (seen : Scope) (answer : Result ℕ CodeError) : Type 0 where
  pub code : OnOk answer (new ≡ old ++ code_of cx t names n (length old) s)
  pub scope : OnOk answer (seen ≡ declared names n s)
  pub slots : IfOk answer (λ m. m ≡ n + count s)
  pub refused : IfErr answer (λ e. DeniesCode e cx t names n (length old) s)
