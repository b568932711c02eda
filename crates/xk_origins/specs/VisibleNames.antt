-- Whether slots are called as the code of a unit has them: whatever is visible at a statement has a slot of its name. This project's own.
use Rattle.std.specs.Prelude.{◌≡◌, ℕ, ◌+◌, All, List, [], ◌∷◌, ◌++◌, length, Some, slice_get}
use Rattle.xk_tree.specs.Tree.{Statement, Statements, Done, More, Block, If, IfElse, For, Finish}
use Rattle.xk_emit.specs.CodeOf.{Scope, Setting, body_params, count, declared, loop_slots, within_loop}
use Rattle.xk_emit.specs.Unit.{first_temporary, names_of_params, scope_from}
use Rattle.xk_source_semantics.specs.Parts.{Part, OfMethod, OfBody}

abbrev mutual
  -- The scopes with which `code_of` goes over a statement, row by row, where n is the next slot: that of each statement in it, and what is visible behind
  -- each that holds none.
  pub scopes : Scope → ℕ → Statement → List Scope
  scopes scope n (Block close ss) = scopes_all scope n ss
  scopes scope n (If at l op r s) = scope ∷ scopes scope n s
  scopes scope n (IfElse at l op r s u) = scope ∷ (scopes scope n s ++ scopes scope (n + count s) u)
  scopes scope n (For at i lo b s) = scope ∷ scopes (within_loop scope n i b) (n + loop_slots b) s
  scopes scope n (Finish at s) = scope ∷ scopes scope n s
  scopes scope n s = scope ∷ declared scope n s ∷ []

  pub scopes_all : Scope → ℕ → Statements → List Scope
  scopes_all scope n Done = []
  scopes_all scope n (More s ss) = scopes scope n s ++ scopes_all (declared scope n s) (n + count s) ss

-- each name that is visible has a slot that is called by it
abbrev pub IsNamed : List (List ℕ) → Scope → Type 0
IsNamed slots scope = All (λ e. slice_get slots e.1 ≡ Some e.0) scope

-- the names of the parameters of a part's unit, and the statement that it is the code of
abbrev pub unit_params : Setting → Part → List (List ℕ)
unit_params cx (OfMethod m) = names_of_params m.params
unit_params cx (OfBody at cs s) = body_params cx at cs

abbrev pub unit_body : Part → Statement
unit_body (OfMethod m) = Block m.close m.body
unit_body (OfBody at cs s) = s

-- these are the names of the slots in the code of a part: those of whatever is visible, wherever it is, and behind them are temporaries
pub record AreSlotNames (cx : Setting) (p : Part) (slots : List (List ℕ)) : Type 0 where
  pub visible : All (IsNamed slots) (scopes (scope_from 0 (unit_params cx p)) (length (unit_params cx p)) (unit_body p))
  pub temporaries : length slots ≡ first_temporary (unit_params cx p) (unit_body p)
