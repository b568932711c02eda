-- Elements of lists by number.
use Rattle.std.proofs.Common.{◌≡◌, ◌∙◌, ℕ, zero, suc, ◌+◌, ◌<◌, ◌⊎◌, inl, inr, List, [], ◌∷◌}
use Rattle.std.proofs.Common.{◌++◌, length, get_or, set, take, drop, Some, refl, ap, arith, slice_get}
use Rattle.std.specs.List.Sorted.{IsPermutation}
use Rattle.std.proofs.lemmas.List.Sorted.{Contains-permutation}
use Rattle.std.proofs.lemmas.Option.{none-some, same_Some, slice_get_within, slice_get-get_or, get_or_from_slice_get}

-- what is at a place of a list with one more at its end
pub place : {X : Type 0} (xs : List X) (o : X) (k : ℕ) (x : X) → slice_get (xs ++ o ∷ []) k ≡ Some x
    → (slice_get xs k ≡ Some x) ⊎ ((k ≡ length xs) × (o ≡ x))
place [] o zero x h = inr (refl, same_Some o x h)
place [] o (suc k) x h = absurd (none-some x h)
place (z ∷ xs) o zero x h = inl h
place (z ∷ xs) o (suc k) x h = by (place xs o k x h)
  where
    by : (slice_get xs k ≡ Some x) ⊎ ((k ≡ length xs) × (o ≡ x)) → (slice_get xs k ≡ Some x) ⊎ ((suc k ≡ suc (length xs)) × (o ≡ x))
    by (inl a) = inl a
    by (inr b) = inr (ap suc b.0, b.1)

-- the first ones alone
pub from_take : {X : Type 0} (n : ℕ) (xs : List X) (k : ℕ) (x : X) → slice_get (take n xs) k ≡ Some x → (k < n) × (slice_get xs k ≡ Some x)
from_take zero xs k x h = absurd (none-some x h)
from_take (suc n) [] k x h = absurd (none-some x h)
from_take (suc n) (z ∷ xs) zero x h = (omega arith, h)
from_take (suc n) (z ∷ xs) (suc k) x h =
    let rest = from_take n xs k x h in
    let less : k < n = rest.0 in
    (omega arith, rest.1)

pub in_take : {X : Type 0} (n : ℕ) (xs : List X) (k : ℕ) (x : X) → k < n → slice_get xs k ≡ Some x → slice_get (take n xs) k ≡ Some x
in_take zero xs k x less h = absurd (omega (arith, less))
in_take (suc n) [] k x less h = absurd (none-some x h)
in_take (suc n) (z ∷ xs) zero x less h = h
in_take (suc n) (z ∷ xs) (suc k) x less h = in_take n xs k x (omega (arith, less)) h

-- those behind the first ones
pub drop_at : {X : Type 0} (n : ℕ) (xs : List X) (k m : ℕ) → m ≡ n + k → slice_get (drop n xs) k ≡ slice_get xs m
drop_at zero xs k m e = (let same : k ≡ m = omega (arith, e) in ap (slice_get xs) same)
drop_at (suc n) [] k m e = refl
drop_at (suc n) (z ∷ xs) k zero e = absurd (omega (arith, e))
drop_at (suc n) (z ∷ xs) k (suc m) e = drop_at n xs k m (omega (arith, e))

-- one of them replaced
pub set_same : {X : Type 0} (xs : List X) (i : ℕ) (y x : X) → slice_get xs i ≡ Some x → slice_get (set xs i y) i ≡ Some y
set_same [] i y x h = absurd (none-some x h)
set_same (z ∷ xs) zero y x h = refl
set_same (z ∷ xs) (suc i) y x h = set_same xs i y x h

pub set_other : {X : Type 0} (xs : List X) (i k : ℕ) (y : X) → (i ≡ k → ⊥) → slice_get (set xs i y) k ≡ slice_get xs k
set_other [] i k y other = refl
set_other (z ∷ xs) zero zero y other = absurd (other refl)
set_other (z ∷ xs) zero (suc k) y other = refl
set_other (z ∷ xs) (suc i) zero y other = refl
set_other (z ∷ xs) (suc i) (suc k) y other = set_other xs i k y (λ same. other (ap suc same))

-- the one that is read, or else this
pub read : {X : Type 0} (xs : List X) (k : ℕ) (d : X) → k < length xs → slice_get xs k ≡ Some (get_or xs k d)
read xs k d less = slice_get-get_or xs k d less

-- an element in another order
pub permuted : {X : Type 0} (xs ys : List X) (k : ℕ) (x : X) → IsPermutation xs ys → slice_get xs k ≡ Some x
    → (j : ℕ) × (slice_get ys j ≡ Some x)
permuted xs ys k x moved there =
    let is = Contains-permutation xs ys x moved (k, slice_get_within xs k x there, get_or_from_slice_get xs k x x there) in
    (is.0, slice_get-get_or ys is.0 x is.1 ∙ ap Some is.2)
