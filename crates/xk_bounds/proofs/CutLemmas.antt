-- Sums and products of numbers that are cut at a greatest one are the same when their parts are cut.
use Rattle.std.proofs.Common.{◌≡◌, ℕ, zero, suc, ◌*◌, min, List, [], ◌∷◌, Some, slice_get, inl, inr, sym, refl, ap, ◌∙◌, arith}
use Rattle.std.proofs.Math.Nat.{mul_comm, le-mul_of_pos_right}
use Rattle.std.proofs.lemmas.Bool.{cases_lt}
use Rattle.xk_types.specs.declared.instr.Instr.{Instr}
use Rattle.xk_types.specs.Bound.{sum_from}

-- a factor may be cut before
pub cut_left : (cut a b : ℕ) → min (min a cut * b) cut ≡ min (a * b) cut
cut_left cut a zero = omega arith
cut_left cut a (suc b) = elim (cases_lt cut a) [
  | inl above ↦
      let same : min a cut ≡ cut = omega arith in
      let p = le-mul_of_pos_right {m = suc b} cut (omega arith) in
      let q = le-mul_of_pos_right {m = suc b} a (omega arith) in
      ap (λ n. min (n * suc b) cut) same ∙ omega arith
  | inr below ↦ let same : min a cut ≡ a = omega arith in ap (λ n. min (n * suc b) cut) same
]

pub cut_right : (cut a b : ℕ) → min (a * min b cut) cut ≡ min (a * b) cut
cut_right cut a b = ap (λ n. min n cut) (mul_comm a (min b cut)) ∙ cut_left cut b a ∙ ap (λ n. min n cut) (mul_comm b a)

-- what is the same when it is cut, is so times a number
cut_same : (cut v x y : ℕ) → min x cut ≡ min y cut → min (v * x) cut ≡ min (v * y) cut
cut_same cut v x y e = sym (cut_right cut v x) ∙ ap (λ n. min (v * n) cut) e ∙ cut_right cut v y

-- terms that are equal at each instruction have the same sum, however often each is taken
pub sum_same : (v : ℕ → ℕ) (f g : Instr → ℕ) (n : ℕ) (xs : List Instr) → ((at : ℕ) (x : Instr) → slice_get xs at ≡ Some x → f x ≡ g x)
    → sum_from (λ at i. v at * f i) n xs ≡ sum_from (λ at i. v at * g i) n xs
sum_same v f g n [] same = refl
sum_same v f g n (x ∷ xs) same =
    let head = ap (λ y. v n * y) (same zero x refl) in
    let rest = sum_same v f g (suc n) xs (λ at y found. same (suc at) y found) in
    omega arith

-- terms that are the same when they are cut have the same sum when it is cut
pub sum_cut : (cut : ℕ) (v : ℕ → ℕ) (f g : Instr → ℕ) (n : ℕ) (xs : List Instr) → ((at : ℕ) (x : Instr) → slice_get xs at ≡ Some x → min (f x) cut ≡ min (g x) cut)
    → min (sum_from (λ at i. v at * f i) n xs) cut ≡ min (sum_from (λ at i. v at * g i) n xs) cut
sum_cut cut v f g n [] same = refl
sum_cut cut v f g n (x ∷ xs) same =
    let head = cut_same cut (v n) (f x) (g x) (same zero x refl) in
    let rest = sum_cut cut v f g (suc n) xs (λ at y found. same (suc at) y found) in
    omega arith
