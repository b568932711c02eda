-- Two lists, related element by element.
use Rattle.std.proofs.Common.{◌≡◌, ℕ, zero, suc, List, [], ◌∷◌, ◌++◌, map, length, Some, refl, sym, ap, subst}
use Rattle.std.specs.Prelude.{slice_get, slice_set}
use Rattle.std.proofs.lemmas.Option.{none-some, same_Some}

abbrev pub Pairs : {A B : Type 0} → (A → B → Type 0) → List A → List B → Type 0
Pairs R [] [] = Unit {0}
Pairs R [] (y ∷ ys) = ⊥
Pairs R (x ∷ xs) [] = ⊥
Pairs R (x ∷ xs) (y ∷ ys) = R x y × Pairs R xs ys

pub pair_at : {A B : Type 0} (R : A → B → Type 0) (xs : List A) (ys : List B) (a : ℕ) (x : A) → Pairs R xs ys → slice_get xs a ≡ Some x
    → (y : B) × (slice_get ys a ≡ Some y) × R x y
pair_at R [] ys a x h g = absurd (none-some x g)
pair_at R (z ∷ xs) [] a x h g = absurd h
pair_at R (z ∷ xs) (y ∷ ys) zero x h g = (y, refl, subst (λ u. R u y) (same_Some z x g) h.0)
pair_at R (z ∷ xs) (y ∷ ys) (suc a) x h g = pair_at R xs ys a x h.1 g

pub pairs_set : {A B : Type 0} (R : A → B → Type 0) (xs : List A) (ys : List B) (a : ℕ) (x : A) (y : B) → Pairs R xs ys → R x y
    → Pairs R (slice_set xs a x) (slice_set ys a y)
pairs_set R [] [] a x y h g = h
pairs_set R [] (w ∷ ys) a x y h g = absurd h
pairs_set R (z ∷ xs) [] a x y h g = absurd h
pairs_set R (z ∷ xs) (w ∷ ys) zero x y h g = (g, h.1)
pairs_set R (z ∷ xs) (w ∷ ys) (suc a) x y h g = (h.0, pairs_set R xs ys a x y h.1 g)

-- only the first changes
pub pairs_set_left : {A B : Type 0} (R : A → B → Type 0) (xs : List A) (ys : List B) (a : ℕ) (x : A) (y : B) → Pairs R xs ys → slice_get ys a ≡ Some y
    → R x y → Pairs R (slice_set xs a x) ys
pairs_set_left R [] [] a x y h at g = h
pairs_set_left R [] (w ∷ ys) a x y h at g = absurd h
pairs_set_left R (z ∷ xs) [] a x y h at g = absurd h
pairs_set_left R (z ∷ xs) (w ∷ ys) zero x y h at g = (subst (λ u. R x u) (sym (same_Some w y at)) g, h.1)
pairs_set_left R (z ∷ xs) (w ∷ ys) (suc a) x y h at g = (h.0, pairs_set_left R xs ys a x y h.1 at g)

pub pairs_push : {A B : Type 0} (R : A → B → Type 0) (xs : List A) (ys : List B) (x : A) (y : B) → Pairs R xs ys → R x y
    → Pairs R (xs ++ x ∷ []) (ys ++ y ∷ [])
pairs_push R [] [] x y h g = (g, tt)
pairs_push R [] (w ∷ ys) x y h g = absurd h
pairs_push R (z ∷ xs) [] x y h g = absurd h
pairs_push R (z ∷ xs) (w ∷ ys) x y h g = (h.0, pairs_push R xs ys x y h.1 g)

pub pairs_length : {A B : Type 0} (R : A → B → Type 0) (xs : List A) (ys : List B) → Pairs R xs ys → length xs ≡ length ys
pairs_length R [] [] h = refl
pairs_length R [] (w ∷ ys) h = absurd h
pairs_length R (z ∷ xs) [] h = absurd h
pairs_length R (z ∷ xs) (w ∷ ys) h = ap suc (pairs_length R xs ys h.1)

pub pairs_map : {A B C D : Type 0} (R : A → B → Type 0) (S : C → D → Type 0) (f : A → C) (g : B → D) → ((x : A) (y : B) → R x y → S (f x) (g y))
    → (xs : List A)
    (ys : List B) → Pairs R xs ys → Pairs S (map f xs) (map g ys)
pairs_map R S f g k [] [] h = tt
pairs_map R S f g k [] (w ∷ ys) h = absurd h
pairs_map R S f g k (z ∷ xs) [] h = absurd h
pairs_map R S f g k (z ∷ xs) (w ∷ ys) h = (k z w h.0, pairs_map R S f g k xs ys h.1)
