-- A method's calls by the places where they stand, and in a list.
use Rattle.std.proofs.Common.{◌≡◌, inl, inr, ℕ, zero, suc, List, [], ◌∷◌, Some, slice_get, refl, sym, ap, subst}
use Rattle.xk_tree.specs.Tree.{Word, Expression, Statement, Statements, Done, More, Block, If, IfElse, For, Async, Finish, Call}
use Rattle.xk_names.specs.Scope.{Has}
use Rattle.xk_names.specs.Places.{Way, Here, First, Later, Inside, Else, Stands, StandsAmong}
use Rattle.xk_names.proofs.MembershipLemmas.{has_left, has_right, has_either}
use Rattle.xk_callgraph.specs.Callees.{callees, callees_all}

pub has_at : {A : Type 0} (xs : List A) (k : ℕ) (x : A) → slice_get xs k ≡ Some x → Has xs x
has_at [] k x e = absurd cc
has_at (y ∷ xs) zero x e = inl cc
has_at (y ∷ xs) (suc k) x e = inr (has_at xs k x e)

pub place_of : {A : Type 0} (xs : List A) (x : A) → Has xs x → (k : ℕ) × (slice_get xs k ≡ Some x)
place_of [] x h = absurd h
place_of (y ∷ xs) x (inl e) = (zero, ap Some (sym e))
place_of (y ∷ xs) x (inr h) = let r = place_of xs x h in (suc r.0, r.1)

-- a call of g stands there
pub record StandsIn (s : Statement) (g : Word) : Type 0 where
  pub way : Way
  pub paren : ℕ
  pub arguments : List Expression
  pub stands : Stands s way (Call g paren arguments)

pub record StandsInAll (ss : Statements) (g : Word) : Type 0 where
  pub way : Way
  pub paren : ℕ
  pub arguments : List Expression
  pub stands : StandsAmong ss way (Call g paren arguments)

mutual
  is_listed : (s : Statement) (w : Way) (g : Word) (p : ℕ) (es : List Expression) → Stands s w (Call g p es) → Has (callees s) g
  is_listed s Here g p es h = subst (λ (t : Statement). Has (callees t) g) (sym h) (inl refl)
  is_listed (Block close ss) (Inside w) g p es h = is_listed_among ss w g p es h
  is_listed (If at l c r s) (Inside w) g p es h = is_listed s w g p es h
  is_listed (IfElse at l c r s u) (Inside w) g p es h = has_left (callees s) (callees u) g (is_listed s w g p es h)
  is_listed (IfElse at l c r s u) (Else w) g p es h = has_right (callees s) (callees u) g (is_listed u w g p es h)
  is_listed (For at i lo hi s) (Inside w) g p es h = is_listed s w g p es h
  is_listed (Async at cs s) (Inside w) g p es h = is_listed s w g p es h
  is_listed (Finish at s) (Inside w) g p es h = is_listed s w g p es h
  is_listed _ _ g p es h = absurd h

  pub is_listed_among : (ss : Statements) (w : Way) (g : Word) (p : ℕ) (es : List Expression) → StandsAmong ss w (Call g p es) → Has (callees_all ss) g
  is_listed_among (More s ss) (First w) g p es h = has_left (callees s) (callees_all ss) g (is_listed s w g p es h)
  is_listed_among (More s ss) (Later w) g p es h = has_right (callees s) (callees_all ss) g (is_listed_among ss w g p es h)
  is_listed_among _ _ g p es h = absurd h

mutual
  stands_there : (s : Statement) (g : Word) → Has (callees s) g → StandsIn s g
  stands_there (Block close ss) g h = let r = stands_among ss g h in record { way = Inside r.way; paren = r.paren; arguments = r.arguments; stands = r.stands }
  stands_there (If at l c r s) g h = let q = stands_there s g h in record { way = Inside q.way; paren = q.paren; arguments = q.arguments; stands = q.stands }
  stands_there (IfElse at l c r s u) g h = elim (has_either (callees s) (callees u) g h) [
    | inl x ↦ let q = stands_there s g x in record { way = Inside q.way; paren = q.paren; arguments = q.arguments; stands = q.stands }
    | inr y ↦ let q = stands_there u g y in record { way = Else q.way; paren = q.paren; arguments = q.arguments; stands = q.stands }
  ]
  stands_there (For at i lo hi s) g h = let q = stands_there s g h in record { way = Inside q.way; paren = q.paren; arguments = q.arguments; stands = q.stands }
  stands_there (Async at cs s) g h = let q = stands_there s g h in record { way = Inside q.way; paren = q.paren; arguments = q.arguments; stands = q.stands }
  stands_there (Finish at s) g h = let q = stands_there s g h in record { way = Inside q.way; paren = q.paren; arguments = q.arguments; stands = q.stands }
  stands_there (Call f at es) g (inl e) = record { way = Here; paren = at; arguments = es; stands = ap (λ (n : Word). Call n at es) (sym e) }
  stands_there (Call f at es) g (inr h) = absurd h
  stands_there _ g h = absurd h

  pub stands_among : (ss : Statements) (g : Word) → Has (callees_all ss) g → StandsInAll ss g
  stands_among Done g h = absurd h
  stands_among (More s ss) g h = elim (has_either (callees s) (callees_all ss) g h) [
    | inl x ↦ let q = stands_there s g x in record { way = First q.way; paren = q.paren; arguments = q.arguments; stands = q.stands }
    | inr y ↦ let q = stands_among ss g y in record { way = Later q.way; paren = q.paren; arguments = q.arguments; stands = q.stands }
  ]
