-- Where instructions stand in a stretch of code whose first one has place p.
use Rattle.std.proofs.Common.{◌≡◌, ℕ, zero, suc, ◌+◌, ◌<◌, ◌≤◌, List, [], ◌∷◌, ◌++◌, length, Some, inl, inr, ◌⊎◌, refl, ap, subst, arith, length-append}
use Rattle.std.specs.Prelude.{slice_get}
use Rattle.std.proofs.lemmas.Option.{none-some, same_Some}
use Rattle.xk_types.specs.declared.instr.Instr.{Instr}

-- instruction i stands at place `at`
abbrev pub Stands : ℕ → List Instr → ℕ → Instr → Type 0
Stands p [] at i = ⊥
Stands p (x ∷ xs) at i = ((at ≡ p) × (x ≡ i)) ⊎ Stands (p + 1) xs at i

-- a place in the stretch
pub stands_from : (p : ℕ) (xs : List Instr) (at : ℕ) (i : Instr) → Stands p xs at i → p ≤ at
stands_from p [] at i h = absurd h
stands_from p (x ∷ xs) at i (inl e) = omega (arith, e.0)
stands_from p (x ∷ xs) at i (inr h) = omega (arith, stands_from (p + 1) xs at i h)

pub stands_to : (p : ℕ) (xs : List Instr) (at : ℕ) (i : Instr) → Stands p xs at i → at < p + length xs
stands_to p [] at i h = absurd h
stands_to p (x ∷ xs) at i (inl e) = omega (arith, e.0)
stands_to p (x ∷ xs) at i (inr h) = omega (arith, stands_to (p + 1) xs at i h)

-- of two stretches, in the first or in the second
pub stands_in : (p q : ℕ) (xs ys : List Instr) (at : ℕ) (i : Instr) → q ≡ p + length xs → Stands p (xs ++ ys) at i → Stands p xs at i ⊎ Stands q ys at i
stands_in p q [] ys at i e h = inr (let same : p ≡ q = omega arith in subst (λ k. Stands k ys at i) same h)
stands_in p q (x ∷ xs) ys at i e (inl h) = inl (inl h)
stands_in p q (x ∷ xs) ys at i e (inr h) = go (stands_in (p + 1) q xs ys at i (omega arith) h)
  where
    go : Stands (p + 1) xs at i ⊎ Stands q ys at i → Stands p (x ∷ xs) at i ⊎ Stands q ys at i
    go (inl g) = inl (inr g)
    go (inr g) = inr g

pub stands_left : (p : ℕ) (xs ys : List Instr) (at : ℕ) (i : Instr) → Stands p xs at i → Stands p (xs ++ ys) at i
stands_left p [] ys at i h = absurd h
stands_left p (x ∷ xs) ys at i (inl e) = inl e
stands_left p (x ∷ xs) ys at i (inr h) = inr (stands_left (p + 1) xs ys at i h)

pub stands_right : (p q : ℕ) (xs ys : List Instr) (at : ℕ) (i : Instr) → q ≡ p + length xs → Stands q ys at i → Stands p (xs ++ ys) at i
stands_right p q [] ys at i e h = let same : q ≡ p = omega arith in subst (λ k. Stands k ys at i) same h
stands_right p q (x ∷ xs) ys at i e h = inr (stands_right (p + 1) q xs ys at i (omega arith) h)

-- as an element of the list
pub stands_at : (p k at : ℕ) (xs : List Instr) (i : Instr) → at ≡ p + k → slice_get xs k ≡ Some i → Stands p xs at i
stands_at p k at [] i e h = absurd (none-some i h)
stands_at p zero at (x ∷ xs) i e h = inl (omega arith, same_Some x i h)
stands_at p (suc k) at (x ∷ xs) i e h = inr (stands_at (p + 1) k at xs i (omega arith) h)

pub stands_got : (p k at : ℕ) (xs : List Instr) (i : Instr) → at ≡ p + k → Stands p xs at i → slice_get xs k ≡ Some i
stands_got p k at [] i e h = absurd h
stands_got p zero at (x ∷ xs) i e (inl h) = ap Some h.1
stands_got p zero at (x ∷ xs) i e (inr h) = absurd (omega (arith, stands_from (p + 1) xs at i h))
stands_got p (suc k) at (x ∷ xs) i e (inl h) = absurd (omega (arith, h.0))
stands_got p (suc k) at (x ∷ xs) i e (inr h) = stands_got (p + 1) k at xs i (omega arith) h

-- in a stretch that has one instruction before a body and one behind it: the first, in the body, the one behind it, or after that
abbrev pub Between : ℕ → Instr → List Instr → Instr → List Instr → ℕ → Instr → Type 0
Between p first body last rest at i =
    ((at ≡ p) × (first ≡ i)) ⊎ (Stands (p + 1) body at i ⊎ (((at ≡ p + 1 + length body) × (last ≡ i)) ⊎ Stands (p + 1 + length body + 1) rest at i))

pub between : (p : ℕ) (first : Instr) (body : List Instr) (last : Instr) (rest : List Instr) (at : ℕ) (i : Instr)
    → Stands p (first ∷ (body ++ last ∷ rest)) at i → Between p first body last rest at i
between p first body last rest at i (inl e) = inl e
between p first body last rest at i (inr h) = go (stands_in (p + 1) (p + 1 + length body) body (last ∷ rest) at i refl h)
  where
    go : Stands (p + 1) body at i ⊎ Stands (p + 1 + length body) (last ∷ rest) at i → Between p first body last rest at i
    go (inl g) = inr (inl g)
    go (inr g) = inr (inr g)

-- and the one behind the body stands there
pub stands_last : (p : ℕ) (first : Instr) (body : List Instr) (last : Instr) (rest : List Instr) → Stands p (first ∷ (body ++ last ∷ rest)) (p + 1 + length body) last
stands_last p first body last rest =
    inr (stands_right (p + 1) (p + 1 + length body) body (last ∷ rest) (p + 1 + length body) last refl (inl (refl, refl)))

-- how long it is
pub length_between : (first : Instr) (body : List Instr) (last : Instr) (rest : List Instr) → length (first ∷ (body ++ last ∷ rest)) ≡ 1 + length body + 1 + length rest
length_between first body last rest = omega (arith, length-append body (last ∷ rest))

-- ---- what holds of each instruction

abbrev pub Holds : (Instr → Type 0) → List Instr → Type 0
Holds P [] = Unit {0}
Holds P (i ∷ is) = P i × Holds P is

pub holds_both : (P : Instr → Type 0) (xs ys : List Instr) → Holds P xs → Holds P ys → Holds P (xs ++ ys)
holds_both P [] ys h g = g
holds_both P (x ∷ xs) ys h g = (h.0, holds_both P xs ys h.1 g)

pub holds_left : (P : Instr → Type 0) (xs ys : List Instr) → Holds P (xs ++ ys) → Holds P xs
holds_left P [] ys h = tt
holds_left P (x ∷ xs) ys h = (h.0, holds_left P xs ys h.1)

pub holds_right : (P : Instr → Type 0) (xs ys : List Instr) → Holds P (xs ++ ys) → Holds P ys
holds_right P [] ys h = h
holds_right P (x ∷ xs) ys h = holds_right P xs ys h.1

pub holds_at : (P : Instr → Type 0) (p : ℕ) (xs : List Instr) (at : ℕ) (i : Instr) → Holds P xs → Stands p xs at i → P i
holds_at P p [] at i h g = absurd g
holds_at P p (x ∷ xs) at i h (inl e) = subst P e.1 h.0
holds_at P p (x ∷ xs) at i h (inr g) = holds_at P (p + 1) xs at i h.1 g

pub holds_got : (P : Instr → Type 0) (xs : List Instr) (k : ℕ) (i : Instr) → Holds P xs → slice_get xs k ≡ Some i → P i
holds_got P [] k i h g = absurd (none-some i g)
holds_got P (x ∷ xs) zero i h g = subst P (same_Some x i g) h.0
holds_got P (x ∷ xs) (suc k) i h g = holds_got P xs k i h.1 g

pub holds_all : (P Q : Instr → Type 0) → ((i : Instr) → P i → Q i) → (xs : List Instr) → Holds P xs → Holds Q xs
holds_all P Q h [] r = tt
holds_all P Q h (x ∷ xs) r = (h x r.0, holds_all P Q h xs r.1)
