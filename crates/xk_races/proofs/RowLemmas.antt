-- What stands at a place of a row.
use Rattle.std.proofs.Common.{◌≡◌, ◌∙◌, ℕ, zero, suc, ◌-◌, ◌<◌, ◌≤◌, List, [], ◌∷◌, ◌++◌, length, replicate, get_or, max, ◌⊎◌, inl, inr, refl, sym, subst, arith, length-append}
use Rattle.std.proofs.lemmas.Bool.{cases_lt}
use Rattle.std.proofs.lemmas.List.{get_or-set_same, get_or-set_other, get_or_past, get_or-replicate, get_or-append_right, get_or_append_left, length-replicate}
use Rattle.std.proofs.Math.Seq.{get_or-append_seam}
use Rattle.xk_show_events.specs.Worlds.{each_below}
use Rattle.xk_races.specs.Lists.{number_at, with_at, joined}

filler : {X : Type 0} (d : X) (n i : ℕ) → get_or (replicate n d) i d ≡ d
filler d n i = of (cases_lt i n)
  where
    of : (i < n) ⊎ (n ≤ i) → get_or (replicate n d) i d ≡ d
    of (inl lt) = get_or-replicate n i d d lt
    of (inr ge) = get_or_past (replicate n d) i d (subst (λ k. k ≤ i) (sym (length-replicate n d)) ge)

pub padded : {X : Type 0} (d : X) (xs : List X) (n j : ℕ) → get_or (xs ++ replicate n d) j d ≡ get_or xs j d
padded d xs n j = of (cases_lt j (length xs))
  where
    of : (j < length xs) ⊎ (length xs ≤ j) → get_or (xs ++ replicate n d) j d ≡ get_or xs j d
    of (inl lt) = get_or_append_left xs (replicate n d) d j lt
    of (inr ge) = get_or-append_right xs (replicate n d) (length xs) j d refl ge ∙ filler d n (j - length xs) ∙ sym (get_or_past xs j d ge)

long : {X : Type 0} (d : X) (xs : List X) (k : ℕ) → k < length (xs ++ replicate (suc k - length xs) d)
long d xs k = omega (arith, length-append xs (replicate (suc k - length xs) d), length-replicate (suc k - length xs) d)

pub with_at_same : {X : Type 0} (d : X) (xs : List X) (k : ℕ) (x : X) → get_or (with_at d xs k x) k d ≡ x
with_at_same d xs k x = get_or-set_same (xs ++ replicate (suc k - length xs) d) k x d (long d xs k)

pub with_at_other : {X : Type 0} (d : X) (xs : List X) (k j : ℕ) (x : X) → (j ≡ k → ⊥) → get_or (with_at d xs k x) j d ≡ get_or xs j d
with_at_other d xs k j x ne = get_or-set_other (xs ++ replicate (suc k - length xs) d) k j x d ne ∙ padded d xs (suc k - length xs) j

below_length : (f : ℕ → ℕ) (n : ℕ) → length (each_below (λ k. f k ∷ []) n) ≡ n
below_length f zero = refl
below_length f (suc n) = omega (arith, length-append (each_below (λ k. f k ∷ []) n) (f n ∷ []), below_length f n)

below_at : (f : ℕ → ℕ) (n j : ℕ) → j < n → get_or (each_below (λ k. f k ∷ []) n) j 0 ≡ f j
below_at f zero j lt = absurd (omega (arith, lt))
below_at f (suc n) j lt = of (below_at f n j) (cases_lt j n)
  where
    of : (j < n → get_or (each_below (λ k. f k ∷ []) n) j 0 ≡ f j) → (j < n) ⊎ (n ≤ j) → get_or (each_below (λ k. f k ∷ []) n ++ f n ∷ []) j 0 ≡ f j
    of rest (inl less) = get_or_append_left (each_below (λ k. f k ∷ []) n) (f n ∷ []) 0 j (subst (λ m. j < m) (sym (below_length f n)) less) ∙ rest less
    of rest (inr ge) =
        let is : n ≡ j = omega (arith, lt, ge) in
        subst (λ i. get_or (each_below (λ k. f k ∷ []) n ++ f n ∷ []) i 0 ≡ f i) is
        (subst (λ i. get_or (each_below (λ k. f k ∷ []) n ++ f n ∷ []) i 0 ≡ f n) (below_length f n) (get_or-append_seam (each_below (λ k. f k ∷ []) n) (f n) [] 0))

pub joined_at : (r s : List ℕ) (j : ℕ) → number_at (joined r s) j ≡ max (number_at r j) (number_at s j)
joined_at r s j = of (cases_lt j (max (length r) (length s)))
  where
    of : (j < max (length r) (length s)) ⊎ (max (length r) (length s) ≤ j) → number_at (joined r s) j ≡ max (number_at r j) (number_at s j)
    of (inl lt) = below_at (λ k. max (number_at r k) (number_at s k)) (max (length r) (length s)) j lt
    of (inr ge) =
        let none = get_or_past (joined r s) j 0 (subst (λ m. m ≤ j) (sym (below_length (λ k. max (number_at r k) (number_at s k)) (max (length r) (length s)))) ge) in
        let left = get_or_past r j 0 (omega (arith, ge)) in
        let right = get_or_past s j 0 (omega (arith, ge)) in
        omega (arith, none, left, right)
