-- Rows that are added up to a place.
use Rattle.std.proofs.Common.{◌≡◌, ◌∙◌, ℕ, zero, suc, ◌-◌, ◌<◌, ◌≤◌, List, [], ◌∷◌, ◌++◌, length, replicate, refl, sym, ap, arith}
use Rattle.std.proofs.lemmas.List.{append_assoc}

append_none : {X : Type 0} (xs : List X) → xs ≡ xs ++ []
append_none [] = refl
append_none (x ∷ xs) = ap (λ ys. x ∷ ys) (append_none xs)

one_more : {X : Type 0} (d : X) (n : ℕ) → replicate n d ++ d ∷ [] ≡ replicate (suc n) d
one_more d zero = refl
one_more d (suc n) = ap (λ xs. d ∷ xs) (one_more d n)

-- none where there are enough
pub long_enough : {X : Type 0} (d : X) (xs : List X) (k : ℕ) → k < length xs → xs ≡ xs ++ replicate (suc k - length xs) d
long_enough d xs k lt =
    let none : suc k - length xs ≡ 0 = omega (arith, lt) in
    append_none xs ∙ ap (λ n. xs ++ replicate n d) (sym none)

-- those before it, and one more
pub grown : {X : Type 0} (d : X) (xs : List X) (k : ℕ) → length xs ≤ k
    → (xs ++ replicate (k - length xs) d) ++ d ∷ [] ≡ xs ++ replicate (suc k - length xs) d
grown d xs k le =
    let more : suc (k - length xs) ≡ suc k - length xs = omega (arith, le) in
    append_assoc xs (replicate (k - length xs) d) (d ∷ [])
    ∙ ap (λ ys. xs ++ ys) (one_more d (k - length xs) ∙ ap (λ n. replicate n d) more)
