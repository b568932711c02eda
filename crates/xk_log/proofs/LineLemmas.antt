-- Lines, and where they end.
use Rattle.std.proofs.Common.{◌≡◌, ℕ, suc, ◌+◌, ◌<◌, eqb, false, List, [], ◌∷◌, ◌++◌, length, take, drop, ap, sym, ◌∙◌, arith, refl, subst, true≢false}
use Rattle.std.specs.List.{prefix_len}
use Rattle.std.proofs.lemmas.Bool.{and_parts, and_from, eq-eqb, not_from_true, not-false, eqb-true, cond_both}
use Rattle.std.proofs.lemmas.List.Folds.{list_all-append}
use Rattle.xk_log.specs.LogText.{isnt, Lacks}

-- the byte itself passes no such test
isnt_self : (s : ℕ) → isnt s s ≡ false
isnt_self s = not_from_true (eqb s s) (eq-eqb s s refl)

pub lacks_append : (s : ℕ) (a b : List ℕ) → Lacks s a → Lacks s b → Lacks s (a ++ b)
lacks_append s a b h k = list_all-append (isnt s) a b ∙ and_from _ _ h k

pub lacks_parts : (s : ℕ) (a b : List ℕ) → Lacks s (a ++ b) → Lacks s a × Lacks s b
lacks_parts s a b h = and_parts _ _ (sym (list_all-append (isnt s) a b) ∙ h)

-- it is there where it stands
pub lacks_none : (s : ℕ) (a b : List ℕ) → Lacks s (a ++ s ∷ b) → ⊥
lacks_none s a b h = true≢false (sym (and_parts _ _ (lacks_parts s a (s ∷ b) h).1).0 ∙ isnt_self s)

first_isnt : (s b : ℕ) (bs : List ℕ) → Lacks s (b ∷ bs) → s ≡ b → ⊥
first_isnt s b bs h e = true≢false (sym (and_parts _ _ h).0 ∙ ap (λ x. isnt s x) (sym e) ∙ isnt_self s)

head_of : (a b : ℕ) (x y : List ℕ) → a ∷ x ≡ b ∷ y → a ≡ b
head_of a b x y e = cc

tail_of : (a b : ℕ) (x y : List ℕ) → a ∷ x ≡ b ∷ y → x ≡ y
tail_of a b x y e = cc

-- what stands before the first s, and behind it, is determined
pub split_unique : (s : ℕ) (a x b y : List ℕ) → Lacks s a → Lacks s b → a ++ s ∷ x ≡ b ++ s ∷ y → (a ≡ b) × (x ≡ y)
split_unique s [] x [] y h k e = (refl, tail_of s s x y e)
split_unique s [] x (b ∷ bs) y h k e = absurd (first_isnt s b bs k (head_of s b x (bs ++ s ∷ y) e))
split_unique s (a ∷ ts) x [] y h k e = absurd (first_isnt s a ts h (sym (head_of a s (ts ++ s ∷ x) y e)))
split_unique s (a ∷ ts) x (b ∷ bs) y h k e =
    let rest = split_unique s ts x bs y (and_parts _ _ h).1 (and_parts _ _ k).1 (tail_of a b _ _ e) in
    (ap (λ l. a ∷ l) rest.0 ∙ ap (λ z. z ∷ bs) (head_of a b _ _ e), rest.1)

-- ---- the bytes before the first s

one_more : (n : ℕ) → 1 + n ≡ suc n
one_more n = omega arith

pub front_lacks : (s : ℕ) (xs : List ℕ) → Lacks s (take (prefix_len (isnt s) xs) xs)
front_lacks s [] = refl
front_lacks s (x ∷ xs) =
    let n = prefix_len (isnt s) xs in
    cond_both (isnt s x) (1 + n) 0 (λ k. Lacks s (take k (x ∷ xs)))
    (λ e. subst (λ k. Lacks s (take k (x ∷ xs))) (sym (one_more n)) (and_from _ _ e (front_lacks s xs)))
    (λ e. refl)

-- where s comes, the list is what stands before it, s, and the rest
pub front_ends : (s : ℕ) (xs : List ℕ) → prefix_len (isnt s) xs < length xs
    → xs ≡ take (prefix_len (isnt s) xs) xs ++ s ∷ drop (prefix_len (isnt s) xs + 1) xs
front_ends s [] = λ h. absurd (omega (arith, h))
front_ends s (x ∷ xs) =
    let n = prefix_len (isnt s) xs in
    cond_both (isnt s x) (1 + n) 0 (λ k. k < length (x ∷ xs) → x ∷ xs ≡ take k (x ∷ xs) ++ s ∷ drop (k + 1) (x ∷ xs))
    (λ e h. let m : 1 + n ≡ suc n = one_more n in let q : suc n + 1 ≡ suc (n + 1) = omega arith in
    let short : n < length xs = omega arith in
    subst (λ k. x ∷ xs ≡ take k (x ∷ xs) ++ s ∷ drop (k + 1) (x ∷ xs)) (sym m)
    (subst (λ k. x ∷ xs ≡ x ∷ (take n xs ++ s ∷ drop k (x ∷ xs))) (sym q) (ap (λ l. x ∷ l) (front_ends s xs short))))
    (λ e h. ap (λ z. z ∷ xs) (eqb-true x s (not-false (eqb x s) e)))
