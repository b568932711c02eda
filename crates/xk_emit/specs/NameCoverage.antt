-- What code needs of names: each that it uses is found, and each that it declares is new. This project's own.
use Rattle.std.specs.Prelude.{ℕ, ◌+◌, List, [], ◌∷◌, ◌++◌, int_le, Option, Some, None, IsSome, IsNone, length, All, IsTrue, ⊤}
use Rattle.xk_tree.specs.Tree.{Word, Expression, Literal, Named, Paren, Negation, Binary, Source, Make, Value, Bound, UpTo, Least, top, Statement, Block, Empty, Declare, Assign, Atomic, If, IfElse, For, Async, Finish, Call, Resume, Drop, AdvanceAll, Print, Statements, Done, More}
use Rattle.xk_names.specs.Scope.{Table, find}
use Rattle.xk_emit.specs.CodeOf.{Setting, Scope, body_at, body_params, loop_slots, within_loop, count, declared, shared_alone}
use Rattle.xk_emit.specs.Unit.{scope_from}

-- a table has a number for the name
abbrev pub IsFound : Table ℕ → List ℕ → Type 0
IsFound table x = IsSome (find table x)

-- the name isn't visible yet
abbrev pub IsNew : Scope → List ℕ → Type 0
IsNew scope x = IsNone (find scope x)

-- each name of an expression is visible
abbrev pub IsKnown : Scope → Expression → Type 0
IsKnown scope (Literal n) = ⊤
IsKnown scope (Named x) = IsFound scope x.text
IsKnown scope (Paren at e) = IsKnown scope e
IsKnown scope (Negation at e) = IsKnown scope e
IsKnown scope (Binary o l at r) = IsKnown scope l × IsKnown scope r

-- so is each name of an expression that isn't a shared number alone
abbrev pub IsKnownUnless : Option ℕ → Scope → Expression → Type 0
IsKnownUnless (Some s) scope e = ⊤
IsKnownUnless None scope e = IsKnown scope e

abbrev pub IsValueKnown : Setting → Scope → Expression → Type 0
IsValueKnown cx scope e = IsKnownUnless (shared_alone cx e) scope e

abbrev pub IsSourceKnown : Setting → Scope → Source → Type 0
IsSourceKnown cx scope (Make at v) = ⊤
IsSourceKnown cx scope (Value e) = IsValueKnown cx scope e

-- an assignment to a name, which may be a shared number's
abbrev pub IsAssignable : Setting → Scope → Word → Expression → Option ℕ → Type 0
IsAssignable cx scope x e (Some s) = IsKnown scope e
IsAssignable cx scope x e None = IsFound scope x.text × IsValueKnown cx scope e

-- so is each name of a loop's bound
abbrev pub IsBoundKnown : Scope → Bound → Type 0
IsBoundKnown scope (UpTo hi) = ⊤
IsBoundKnown scope (Least x v e hi) = IsKnown scope e

-- the names of a loop aren't visible yet; n is the next slot
abbrev pub IsLoopNew : Scope → ℕ → Word → Bound → Type 0
IsLoopNew scope n i (UpTo hi) = IsNew scope i.text
IsLoopNew scope n i (Least x v e hi) = IsNew scope i.text × IsNew (scope ++ (i.text, n) ∷ []) x.text

abbrev mutual
  -- a statement's code needs no more names than there are; n is the next slot
  pub IsCovered : Setting → Scope → ℕ → Statement → Type 0
  IsCovered cx scope n (Block close ss) = AreCovered cx scope n ss
  IsCovered cx scope n Empty = ⊤
  IsCovered cx scope n (Declare b x ty r) = IsSourceKnown cx scope r × IsNew scope x.text
  IsCovered cx scope n (Assign x e) = IsAssignable cx scope x e (find cx.shared x.text)
  IsCovered cx scope n (Atomic x y at e) = IsFound cx.shared x.text × IsKnown scope e
  IsCovered cx scope n (If at l op r s) = IsKnown scope l × IsKnown scope r × IsCovered cx scope n s
  IsCovered cx scope n (IfElse at l op r s u) =
      IsKnown scope l × IsKnown scope r × IsCovered cx scope n s × IsCovered cx scope (n + count s) u
  IsCovered cx scope n (For at i lo b s) =
      IsTrue (int_le lo.value (top b)) → IsBoundKnown scope b × IsLoopNew scope n i b × IsCovered cx (within_loop scope n i b) (n + loop_slots b) s
  IsCovered cx scope n (Async at cs s) = IsSome (body_at cx at) × All (IsFound scope) (body_params cx at cs)
  IsCovered cx scope n (Finish at s) = IsCovered cx scope n s
  IsCovered cx scope n (Call f at es) = IsFound cx.methods f.text × All (IsKnown scope) es
  IsCovered cx scope n (Resume c v) = IsFound scope c.text
  IsCovered cx scope n (Drop c v) = IsFound scope c.text
  IsCovered cx scope n (AdvanceAll at v) = ⊤
  IsCovered cx scope n (Print at v e) = IsKnown scope e

  -- so do statements, one after another
  pub AreCovered : Setting → Scope → ℕ → Statements → Type 0
  AreCovered cx scope n Done = ⊤
  AreCovered cx scope n (More s ss) = IsCovered cx scope n s × AreCovered cx (declared scope n s) (n + count s) ss

-- ---- units

-- names that are declared one after another, the first with slot n: none of them is visible yet
abbrev pub AreNew : Scope → ℕ → List (List ℕ) → Type 0
AreNew scope n [] = ⊤
AreNew scope n (x ∷ xs) = IsNew scope x × AreNew (scope ++ (x, n) ∷ []) (n + 1) xs

-- the unit of a statement with these parameters, whose names are their own, needs no more names than there are
pub record IsUnitCovered (cx : Setting) (xs : List (List ℕ)) (s : Statement) : Type 0 where
  pub params : AreNew [] 0 xs
  pub body : IsCovered cx (scope_from 0 xs) (length xs) s
