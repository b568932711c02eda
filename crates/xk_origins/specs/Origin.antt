-- What each instruction of a unit is for. It goes beside `code_of` of xk_emit, row by row. This project's own.
use Rattle.std.specs.Prelude.{ℕ, List, [], ◌∷◌, ◌++◌, if◌then◌else◌}
use Rattle.xk_tree.specs.Tree.{Expression, Literal, Named, Paren, Negation, Binary, Source, Make, Value, Bound, UpTo, Least, has_turns, Statement, Statements, Done, More, Block, Empty, Declare, Assign, Atomic, If, IfElse, For, Async, Finish, Call, Resume, Drop, AdvanceAll, Print}
use Rattle.xk_names.specs.Scope.{has}
use Rattle.xk_source_semantics.specs.Parts.{Part, OfMethod, OfBody}

-- the innermost statement whose code holds an instruction, and what the instruction does for it
pub data Origin : Type 0 where
  -- it brings a number that the statement uses, or does the statement
  Does : Statement → Origin
  -- it ends a turn of a loop, or a `finish`, or jumps over the `else` of an `if`
  Ends : Statement → Origin
  -- it ends a method, or the body of an `async`
  Leaves : Part → Origin

-- ---- something for each instruction that brings an expression's number

-- wherever that is then, as `eval` of xk_emit does; a name's number is in the slot of the name
abbrev pub brings : {A : Type 0} → A → Expression → List A
brings o (Literal n) = o ∷ []
brings o (Named x) = []
brings o (Paren at e) = brings o e
brings o (Negation at e) = o ∷ (brings o e ++ o ∷ [])
brings o (Binary op l at r) = brings o l ++ (brings o r ++ o ∷ [])

-- into a slot that is given, as `before_into` and `last_into` do; a name's number is copied
abbrev pub puts : {A : Type 0} → A → Expression → List A
puts o (Named x) = o ∷ []
puts o (Paren at e) = puts o e
puts o e = brings o e

abbrev pub brings_all : {A : Type 0} → A → List Expression → List A
brings_all o [] = []
brings_all o (e ∷ es) = brings o e ++ brings_all o es

abbrev pub puts_source : {A : Type 0} → A → Source → List A
puts_source o (Make at v) = o ∷ []
puts_source o (Value e) = puts o e

abbrev pub puts_limit : {A : Type 0} → A → Bound → List A
puts_limit o (UpTo n) = []
puts_limit o (Least x v e n) = puts o e

-- ---- statements

-- Something for each instruction that brings the numbers of a statement or does it, where these are the names of the shared numbers. The statements that
-- it holds have their own.
abbrev pub own : {A : Type 0} → List (List ℕ) → A → Statement → List A
own shared o (Declare b x ty r) = puts_source o r
own shared o (Assign x e) = if has shared x.text then brings o e ++ o ∷ [] else puts o e
own shared o (Atomic x y at e) = brings o e ++ o ∷ []
own shared o (If at l op r s) = brings o l ++ (brings o r ++ o ∷ [])
own shared o (IfElse at l op r s u) = brings o l ++ (brings o r ++ o ∷ [])
own shared o (For at i lo b s) = puts_limit o b ++ o ∷ []
own shared o (Call f at es) = brings_all o es ++ o ∷ []
own shared o (Print at v e) = brings o e ++ o ∷ []
own shared o (Block close ss) = []
own shared o Empty = []
own shared o s = o ∷ []

abbrev pub does : List (List ℕ) → Statement → List Origin
does shared s = own shared (Does s) s

abbrev mutual
  -- the origins of a statement's code, instruction by instruction
  pub origins : List (List ℕ) → Statement → List Origin
  origins shared (Block close ss) = origins_all shared ss
  origins shared (If at l op r s) = does shared (If at l op r s) ++ origins shared s
  origins shared (IfElse at l op r s u) =
      does shared (IfElse at l op r s u) ++ (origins shared s ++ Ends (IfElse at l op r s u) ∷ origins shared u)
  origins shared (For at i lo b s) =
      if has_turns lo b then does shared (For at i lo b s) ++ (origins shared s ++ Ends (For at i lo b s) ∷ []) else []
  origins shared (Finish at s) = does shared (Finish at s) ++ (origins shared s ++ Ends (Finish at s) ∷ [])
  origins shared s = does shared s

  pub origins_all : List (List ℕ) → Statements → List Origin
  origins_all shared Done = []
  origins_all shared (More s ss) = origins shared s ++ origins_all shared ss

-- the origins of the code of a method, or of the body of an `async`
abbrev pub part_origins : List (List ℕ) → Part → List Origin
part_origins shared (OfMethod m) = origins_all shared m.body ++ Leaves (OfMethod m) ∷ []
part_origins shared (OfBody at cs s) = origins shared s ++ Leaves (OfBody at cs s) ∷ []

-- ---- where they stand in the text

-- where a statement stands; a block, and a `;` alone, have no instruction of their own
abbrev pub place_of : Statement → ℕ
place_of (Block close ss) = close
place_of Empty = 0
place_of (Declare b x ty r) = x.at
place_of (Assign x e) = x.at
place_of (Atomic x y at e) = x.at
place_of (If at l op r s) = at
place_of (IfElse at l op r s u) = at
place_of (For at i lo b s) = at
place_of (Async at cs s) = at
place_of (Finish at s) = at
place_of (Call f at es) = f.at
place_of (Resume c v) = c.at
place_of (Drop c v) = c.at
place_of (AdvanceAll at v) = at
place_of (Print at v e) = at

-- where that ends which stands at `at` and consists of a statement: at the `}` of a block; else where it stands
abbrev pub closed : ℕ → Statement → ℕ
closed at (Block close ss) = close
closed at _ = at

abbrev pub end_of : Statement → ℕ
end_of (For at i lo b s) = closed at s
end_of (Finish at s) = closed at s
end_of s = place_of s

abbrev pub part_end : Part → ℕ
part_end (OfMethod m) = m.close
part_end (OfBody at cs s) = closed at s

-- the offset of an origin in the text
abbrev pub offset_of : Origin → ℕ
offset_of (Does s) = place_of s
offset_of (Ends s) = end_of s
offset_of (Leaves p) = part_end p
