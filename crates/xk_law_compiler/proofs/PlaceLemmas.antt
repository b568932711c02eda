-- Where the code of a part's statements stands in the code of the part.
use Rattle.std.proofs.Common.{◌≡◌, ℕ, ◌+◌, true, List, length, int_le}
use Rattle.xk_types.specs.declared.instr.Comparison.{Comparison}
use Rattle.xk_types.specs.declared.instr.Instr.{Instr}
use Rattle.xk_tree.specs.declared.tree.Number.{Number}
use Rattle.xk_tree.specs.Tree.{Word, Expression, Bound, top, Statement, Block, If, IfElse, For, Finish, Statements, More}
use Rattle.xk_emit.specs.CodeOf.{Setting, Scope, both, before_bound, code_of}
use Rattle.xk_source_semantics.specs.Parts.{Part, OfMethod, OfBody}
use Rattle.xk_source_semantics.specs.Compilation.{unit_of_part}

-- the code of a part
abbrev pub code_in : Setting → Part → List Instr
code_in cx p = (unit_of_part cx p).code

-- the statement that it is the code of
abbrev pub body_of : Part → Statement
body_of (OfMethod m) = Block m.close m.body
body_of (OfBody at cs s) = s

mutual
  -- The code of a statement stands at a place in that of its part: the whole at the front, and each statement within another one where the code of that
  -- has it. That code's lengths hang on no temporary, scope or slot; so any will do here.
  pub data Lies (cx : Setting) (p : Part) : ℕ → Statement → Type 0 where
    is_whole : Lies cx p 0 (body_of p)
    is_first : (q : ℕ) (s : Statement) (ss : Statements) → LieAll cx p q (More s ss) → Lies cx p q s
    is_then : (t : ℕ) (scope : Scope) (q : ℕ) (at : ℕ) (l : Expression) (op : Comparison) (r : Expression) (s : Statement)
        → Lies cx p q (If at l op r s) → Lies cx p (q + length (both scope t l r) + 1) s
    is_either : (t : ℕ) (scope : Scope) (q : ℕ) (at : ℕ) (l : Expression) (op : Comparison) (r : Expression) (s u : Statement)
        → Lies cx p q (IfElse at l op r s u) → Lies cx p (q + length (both scope t l r) + 1) s
    is_else : (t : ℕ) (scope : Scope) (n q : ℕ) (at : ℕ) (l : Expression) (op : Comparison) (r : Expression) (s u : Statement)
        → Lies cx p q (IfElse at l op r s u)
        → Lies cx p (q + length (both scope t l r) + 1 + length (code_of cx t scope n (q + length (both scope t l r) + 1) s) + 1) u
    is_turn : (t : ℕ) (scope : Scope) (n q : ℕ) (at : ℕ) (i : Word) (lo : Number) (b : Bound) (s : Statement) → int_le lo.value (top b) ≡ true
        → Lies cx p q (For at i lo b s) → Lies cx p (q + length (before_bound scope t n b) + 1) s
    is_awaited : (q : ℕ) (at : ℕ) (s : Statement) → Lies cx p q (Finish at s) → Lies cx p (q + 1) s

  -- and that of statements, one after another
  pub data LieAll (cx : Setting) (p : Part) : ℕ → Statements → Type 0 where
    is_block : (q : ℕ) (close : ℕ) (ss : Statements) → Lies cx p q (Block close ss) → LieAll cx p q ss
    are_others : (t : ℕ) (scope : Scope) (n q : ℕ) (s : Statement) (ss : Statements)
        → LieAll cx p q (More s ss) → LieAll cx p (q + length (code_of cx t scope n q s)) ss
