-- What a list has: an element passes the tests that all pass, and none that none passes; and the elements of lists that are made of
-- others.
use Rattle.std.proofs.Common.{◌≡◌, Bool, true, false, ◌||◌, List, [], ◌∷◌, ◌++◌, map, inl, inr, refl, sym, ap, ◌∙◌, subst}
use Rattle.std.specs.List.{list_any, list_all}
use Rattle.std.proofs.lemmas.Bool.{and_parts, or_parts}
use Rattle.xk_types.specs.Order.{Has}

-- ---- tests

-- two tests that say the same
pub same_test : (a b : Bool) → (a ≡ true → b ≡ true) → (b ≡ true → a ≡ true) → a ≡ b
same_test true b h g = sym (h refl)
same_test false true h g = g refl
same_test false false h g = refl

-- what all of a list pass, its elements pass
pub all_has : {X : Type 0} (test : X → Bool) (xs : List X) (x : X) → list_all test xs ≡ true → Has xs x → test x ≡ true
all_has test [] x h g = absurd g
all_has test (y ∷ xs) x h (inl e) = subst (λ z. test z ≡ true) e (and_parts (test y) (list_all test xs) h).0
all_has test (y ∷ xs) x h (inr g) = all_has test xs x (and_parts (test y) (list_all test xs) h).1 g

-- no element passes a test that none passes
pub none_has : {X : Type 0} (test : X → Bool) (xs : List X) (x : X) → list_any test xs ≡ false → Has xs x → test x ≡ false
none_has test [] x h g = absurd g
none_has test (y ∷ xs) x h (inl e) = subst (λ z. test z ≡ false) e (or_parts (test y) (list_any test xs) h).0
none_has test (y ∷ xs) x h (inr g) = none_has test xs x (or_parts (test y) (list_any test xs) h).1 g

-- an element that passes is enough
pub has_any : {X : Type 0} (test : X → Bool) (xs : List X) (x : X) → Has xs x → test x ≡ true → list_any test xs ≡ true
has_any test [] x h e = absurd h
has_any test (y ∷ xs) x (inl q) e = rw (ap test q ∙ e) refl
has_any test (y ∷ xs) x (inr h) e = rest (test y) (has_any test xs x h e)
  where
    rest : (b : Bool) → list_any test xs ≡ true → (b || list_any test xs) ≡ true
    rest true g = refl
    rest false g = g

-- ---- lists made of others

-- an element of the first of two lists
pub has_left : {X : Type 0} (xs ys : List X) (x : X) → Has xs x → Has (xs ++ ys) x
has_left [] ys x h = absurd h
has_left (z ∷ xs) ys x (inl e) = inl e
has_left (z ∷ xs) ys x (inr h) = inr (has_left xs ys x h)

-- and of the second
pub has_right : {X : Type 0} (xs ys : List X) (x : X) → Has ys x → Has (xs ++ ys) x
has_right [] ys x h = h
has_right (z ∷ xs) ys x h = inr (has_right xs ys x h)

-- an element of a map
pub has_map : {X Y : Type 0} (f : X → Y) (xs : List X) (x : X) → Has xs x → Has (map f xs) (f x)
has_map f [] x h = absurd h
has_map f (y ∷ xs) x (inl e) = inl (ap f e)
has_map f (y ∷ xs) x (inr h) = inr (has_map f xs x h)

-- an element of a map is the value of an element
pub has_mapped : {X Y : Type 0} (f : X → Y) (xs : List X) (y : Y) → Has (map f xs) y → (x : X) × Has xs x × (f x ≡ y)
has_mapped f [] y h = absurd h
has_mapped f (x ∷ xs) y (inl e) = (x, inl refl, e)
has_mapped f (x ∷ xs) y (inr h) = let r = has_mapped f xs y h in (r.0, inr r.1, r.2)
