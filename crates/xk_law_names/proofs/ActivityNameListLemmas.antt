-- Lists in which two neighbours have changed places, and the numbers of elements there.
use Rattle.std.proofs.Common.{◌≡◌, ℕ, zero, suc, ◌<◌, ◌==◌, Bool, true, false, ◌||◌, ◌&&◌, List, [], ◌∷◌, ◌++◌, map, length, replicate, set, get_or, refl, sym, ap, ◌∙◌, arith, eqb-true, eq-eqb}
use Rattle.std.specs.Prelude.{slice_get}
use Rattle.std.specs.List.{list_any, list_all}
use Rattle.xk_types.proofs.MembershipLemmas.{same_test}
use Rattle.xk_law_names.specs.ActivityNames.{neighbours_swapped, renamed}

-- ---- numbers

pub renamed_twice : (k a : ℕ) → renamed k (renamed k a) ≡ a
renamed_twice zero zero = refl
renamed_twice zero (suc zero) = refl
renamed_twice zero (suc (suc a)) = refl
renamed_twice (suc k) zero = refl
renamed_twice (suc k) (suc a) = ap suc (renamed_twice k a)

-- two numbers are one, or aren't, by either names
pub renamed_same : (k a b : ℕ) → (renamed k a == renamed k b) ≡ (a == b)
renamed_same k a b = same_test (renamed k a == renamed k b) (a == b)
    (λ h. eq-eqb a b (sym (renamed_twice k a) ∙ ap (renamed k) (eqb-true (renamed k a) (renamed k b) h) ∙ renamed_twice k b))
    (λ h. eq-eqb (renamed k a) (renamed k b) (ap (renamed k) (eqb-true a b h)))

-- numbers below keep theirs
pub renamed_below : (k a : ℕ) → a < k → renamed k a ≡ a
renamed_below zero a h = absurd (omega arith)
renamed_below (suc k) zero h = refl
renamed_below (suc k) (suc a) h = ap suc (renamed_below k a (omega arith))

-- ---- lists

pub length-swapped : {X : Type 0} (k : ℕ) (xs : List X) → length (neighbours_swapped k xs) ≡ length xs
length-swapped k [] = refl
length-swapped zero (x ∷ []) = refl
length-swapped zero (x ∷ y ∷ xs) = refl
length-swapped (suc k) (x ∷ xs) = ap suc (length-swapped k xs)

pub map-swapped : {X Y : Type 0} (f : X → Y) (k : ℕ) (xs : List X) → map f (neighbours_swapped k xs) ≡ neighbours_swapped k (map f xs)
map-swapped f k [] = refl
map-swapped f zero (x ∷ []) = refl
map-swapped f zero (x ∷ y ∷ xs) = refl
map-swapped f (suc k) (x ∷ xs) = ap (λ zs. f x ∷ zs) (map-swapped f k xs)

pub replicate-swapped : {X : Type 0} (k n : ℕ) (x : X) → neighbours_swapped k (replicate n x) ≡ replicate n x
replicate-swapped k zero x = refl
replicate-swapped zero (suc zero) x = refl
replicate-swapped zero (suc (suc n)) x = refl
replicate-swapped (suc k) (suc n) x = ap (λ zs. x ∷ zs) (replicate-swapped k n x)

pub get-swapped : {X : Type 0} (k : ℕ) (xs : List X) (a : ℕ) → suc k < length xs
    → slice_get (neighbours_swapped k xs) (renamed k a) ≡ slice_get xs a
get-swapped k [] a h = absurd (omega arith)
get-swapped zero (x ∷ []) a h = absurd (omega arith)
get-swapped zero (x ∷ y ∷ xs) zero h = refl
get-swapped zero (x ∷ y ∷ xs) (suc zero) h = refl
get-swapped zero (x ∷ y ∷ xs) (suc (suc a)) h = refl
get-swapped (suc k) (x ∷ xs) zero h = refl
get-swapped (suc k) (x ∷ xs) (suc a) h = get-swapped k xs a (omega arith)

pub get_or-swapped : {X : Type 0} (k : ℕ) (xs : List X) (a : ℕ) (d : X) → suc k < length xs
    → get_or (neighbours_swapped k xs) (renamed k a) d ≡ get_or xs a d
get_or-swapped k [] a d h = absurd (omega arith)
get_or-swapped zero (x ∷ []) a d h = absurd (omega arith)
get_or-swapped zero (x ∷ y ∷ xs) zero d h = refl
get_or-swapped zero (x ∷ y ∷ xs) (suc zero) d h = refl
get_or-swapped zero (x ∷ y ∷ xs) (suc (suc a)) d h = refl
get_or-swapped (suc k) (x ∷ xs) zero d h = refl
get_or-swapped (suc k) (x ∷ xs) (suc a) d h = get_or-swapped k xs a d (omega arith)

pub set-swapped : {X : Type 0} (k : ℕ) (xs : List X) (a : ℕ) (y : X) → suc k < length xs
    → set (neighbours_swapped k xs) (renamed k a) y ≡ neighbours_swapped k (set xs a y)
set-swapped k [] a z h = absurd (omega arith)
set-swapped zero (x ∷ []) a z h = absurd (omega arith)
set-swapped zero (x ∷ y ∷ xs) zero z h = refl
set-swapped zero (x ∷ y ∷ xs) (suc zero) z h = refl
set-swapped zero (x ∷ y ∷ xs) (suc (suc a)) z h = refl
set-swapped (suc k) (x ∷ xs) zero z h = refl
set-swapped (suc k) (x ∷ xs) (suc a) z h = ap (λ zs. x ∷ zs) (set-swapped k xs a z (omega arith))

-- what stands behind both stays
pub append-swapped : {X : Type 0} (k : ℕ) (xs ys : List X) → suc k < length xs
    → neighbours_swapped k (xs ++ ys) ≡ neighbours_swapped k xs ++ ys
append-swapped k [] ys h = absurd (omega arith)
append-swapped zero (x ∷ []) ys h = absurd (omega arith)
append-swapped zero (x ∷ y ∷ xs) ys h = refl
append-swapped (suc k) (x ∷ xs) ys h = ap (λ zs. x ∷ zs) (append-swapped k xs ys (omega arith))

-- two that were pushed
pub pushed-swapped : {X : Type 0} (xs : List X) (x y : X)
    → neighbours_swapped (length xs) ((xs ++ x ∷ []) ++ y ∷ []) ≡ (xs ++ y ∷ []) ++ x ∷ []
pushed-swapped [] x y = refl
pushed-swapped (z ∷ xs) x y = ap (λ zs. z ∷ zs) (pushed-swapped xs x y)

pub any-swapped : {X : Type 0} (test : X → Bool) (k : ℕ) (xs : List X) → list_any test (neighbours_swapped k xs) ≡ list_any test xs
any-swapped test k [] = refl
any-swapped test zero (x ∷ []) = refl
any-swapped test zero (x ∷ y ∷ xs) = turned (test x) (test y) (list_any test xs)
  where
    turned : (p q r : Bool) → (q || (p || r)) ≡ (p || (q || r))
    turned true true r = refl
    turned true false r = refl
    turned false q r = refl
any-swapped test (suc k) (x ∷ xs) = ap (λ p. test x || p) (any-swapped test k xs)

pub all-swapped : {X : Type 0} (test : X → Bool) (k : ℕ) (xs : List X) → list_all test (neighbours_swapped k xs) ≡ list_all test xs
all-swapped test k [] = refl
all-swapped test zero (x ∷ []) = refl
all-swapped test zero (x ∷ y ∷ xs) = turned (test x) (test y) (list_all test xs)
  where
    turned : (p q r : Bool) → (q && (p && r)) ≡ (p && (q && r))
    turned true q r = refl
    turned false true r = refl
    turned false false r = refl
all-swapped test (suc k) (x ∷ xs) = ap (λ p. test x && p) (all-swapped test k xs)

pub swapped_twice : {X : Type 0} (k : ℕ) (xs : List X) → neighbours_swapped k (neighbours_swapped k xs) ≡ xs
swapped_twice k [] = refl
swapped_twice zero (x ∷ []) = refl
swapped_twice zero (x ∷ y ∷ xs) = refl
swapped_twice (suc k) (x ∷ xs) = ap (λ zs. x ∷ zs) (swapped_twice k xs)
