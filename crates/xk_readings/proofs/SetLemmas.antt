-- What is among some, and lists in which nothing is twice.
use Rattle.std.proofs.Common.{◌≡◌, ◌∙◌, ℕ, zero, suc, ◌≤◌, ◌⊎◌, inl, inr, List, [], ◌∷◌, ◌++◌, length, Some, refl, sym, ap, subst}
use Rattle.std.proofs.Common.{arith, slice_get}
use Rattle.std.proofs.lemmas.Option.{none-some, same_Some}
use Rattle.xk_readings.specs.Sets.{AreDifferent, Has}

pub has_append : {X : Type 0} (xs ys : List X) (x : X) → Has (xs ++ ys) x → Has xs x ⊎ Has ys x
has_append [] ys x h = inr h
has_append (z ∷ xs) ys x (inl same) = inl (inl same)
has_append (z ∷ xs) ys x (inr later) = by (has_append xs ys x later)
  where
    by : Has xs x ⊎ Has ys x → Has (z ∷ xs) x ⊎ Has ys x
    by (inl a) = inl (inr a)
    by (inr b) = inr b

pub has_left : {X : Type 0} (xs ys : List X) (x : X) → Has xs x → Has (xs ++ ys) x
has_left [] ys x h = absurd h
has_left (z ∷ xs) ys x (inl same) = inl same
has_left (z ∷ xs) ys x (inr later) = inr (has_left xs ys x later)

pub has_right : {X : Type 0} (xs ys : List X) (x : X) → Has ys x → Has (xs ++ ys) x
has_right [] ys x h = h
has_right (z ∷ xs) ys x h = inr (has_right xs ys x h)

-- what is at a place is among them
pub has_place : {X : Type 0} (xs : List X) (k : ℕ) (x : X) → slice_get xs k ≡ Some x → Has xs x
has_place [] k x h = absurd (none-some x h)
has_place (z ∷ xs) zero x h = inl (sym (same_Some z x h))
has_place (z ∷ xs) (suc k) x h = inr (has_place xs k x h)

-- with one that isn't among them they still differ
pub different_push : {X : Type 0} (xs : List X) (x : X) → AreDifferent xs → (Has xs x → ⊥) → AreDifferent (xs ++ x ∷ [])
different_push [] x are new = (λ h. h, tt)
different_push {X} (z ∷ xs) x are new = (first, different_push xs x are.1 (λ h. new (inr h)))
  where
    first : Has (xs ++ x ∷ []) z → ⊥
    first h = by (has_append xs (x ∷ []) z h)
      where
        by : Has xs z ⊎ Has (x ∷ []) z → ⊥
        by (inl a) = are.0 a
        by (inr (inl same)) = new (inl (sym same))
        by (inr (inr none)) = none

pub different_append : {X : Type 0} (xs ys : List X) → AreDifferent xs → AreDifferent ys → ((x : X) → Has xs x → Has ys x → ⊥)
    → AreDifferent (xs ++ ys)
different_append [] ys a b apart = b
different_append {X} (z ∷ xs) ys a b apart = (first, different_append xs ys a.1 b (λ x h k. apart x (inr h) k))
  where
    first : Has (xs ++ ys) z → ⊥
    first h = by (has_append xs ys z h)
      where
        by : Has xs z ⊎ Has ys z → ⊥
        by (inl x) = a.0 x
        by (inr y) = apart z (inl refl) y

-- ---- how many they are

-- the others
abbrev without : {X : Type 0} (ys : List X) (x : X) → Has ys x → List X
without [] x h = absurd h
without (y ∷ ys) x (inl same) = ys
without (y ∷ ys) x (inr later) = y ∷ without ys x later

without_length : {X : Type 0} (ys : List X) (x : X) (h : Has ys x) → length ys ≡ suc (length (without ys x h))
without_length [] x h = absurd h
without_length (y ∷ ys) x (inl same) = refl
without_length (y ∷ ys) x (inr later) = ap suc (without_length ys x later)

without_has : {X : Type 0} (ys : List X) (x z : X) (h : Has ys x) → (z ≡ x → ⊥) → Has ys z → Has (without ys x h) z
without_has [] x z h other there = absurd there
without_has (y ∷ ys) x z (inl same) other (inl is) = absurd (other (is ∙ sym same))
without_has (y ∷ ys) x z (inl same) other (inr later) = later
without_has (y ∷ ys) x z (inr h) other (inl is) = inl is
without_has (y ∷ ys) x z (inr h) other (inr later) = inr (without_has ys x z h other later)

-- different ones that are all among others are no more than these
pub no_more_than : {X : Type 0} (xs ys : List X) → AreDifferent xs → ((x : X) → Has xs x → Has ys x) → length xs ≤ length ys
no_more_than [] ys are there = omega arith
no_more_than (x ∷ xs) ys are there =
    let h = there x (inl refl) in
    let rest = no_more_than xs (without ys x h) are.1
    (λ z has. without_has ys x z h (λ same. are.0 (subst (Has xs) same has)) (there z (inr has))) in
    let count = without_length ys x h in
    omega (arith, rest, count)
