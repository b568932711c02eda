-- The shares of one run more.
use Rattle.std.proofs.Common.{◌≡◌, ◌∙◌, ℕ, ℤ, zero, suc, ◌+◌, ◌≤◌, ◌<◌, ◌^◌, Bool, true, false, List, [], ◌∷◌, ◌++◌, length, Some, slice_get, refl, sym, ap, subst, arith}
use Rattle.std.specs.List.{AllByRecursion}
use Rattle.std.proofs.Math.Nat.{add-zero}
use Rattle.std.proofs.lemmas.List.Sums.{count_by-le-length, sum_by-append}
use Rattle.std.proofs.lemmas.Option.{none-some, same_Some}
use Rattle.xk_random.specs.Tally.{Share, are_same, count_of, others, seed_of, shares_from}
use Rattle.xk_random.specs.Shares.{HasRoom, noted}
use Rattle.xk_random.proofs.ShareLemmas.{noted_later, other_order, same_here, same_yes}

-- ---- how often a list stands there

count_more : (x : List ℤ) (lists : List (List ℤ)) (y : List ℤ) → count_of x (lists ++ y ∷ []) ≡ count_of x lists + count_of x (y ∷ [])
count_more x lists y = sum_by-append _ lists (y ∷ [])

-- ---- the others

others_noted : (seed : ℕ) (x : List ℤ) (shares : List Share) → others x (noted seed x shares) ≡ others x shares
others_noted seed x [] = rw (same_here x) refl
others_noted seed x (s ∷ shares) = by (others_noted seed x shares) (are_same s.numbers x) refl
  where
    by : others x (noted seed x shares) ≡ others x shares → (b : Bool) → are_same s.numbers x ≡ b
        → others x (noted seed x (s ∷ shares)) ≡ others x (s ∷ shares)
    by rest true e = simp e
    by rest false e = simp e (ap (λ l. s ∷ l) rest)

noted_others : (seed : ℕ) (x y : List ℤ) → are_same y x ≡ false → (shares : List Share)
    → others x (noted seed y shares) ≡ noted seed y (others x shares)
noted_others seed x y other [] = rw other refl
noted_others seed x y other (s ∷ shares) = by (noted_others seed x y other shares) (are_same s.numbers y) refl (are_same s.numbers x) refl
  where
    by : others x (noted seed y shares) ≡ noted seed y (others x shares) → (b : Bool) → are_same s.numbers y ≡ b → (k : Bool)
        → are_same s.numbers x ≡ k
        → others x (noted seed y (s ∷ shares)) ≡ noted seed y (others x (s ∷ shares))
    by rest true e k f =
        let differs : are_same s.numbers x ≡ false = ap (λ z. are_same z x) (same_yes s.numbers y e) ∙ other in
        simp (e, differs)
    by rest false e true f = simp (e, f) rest
    by rest false e false f = simp (e, f) (ap (λ l. s ∷ l) rest)

-- ---- one run more

noted_first : (seed n f : ℕ) (x : List ℤ) (shares : List Share)
    → noted seed x (record { numbers = x; first = f; runs = n } ∷ shares) ≡ record { numbers = x; first = f; runs = n + 1 } ∷ shares
noted_first seed n f x shares = rw (same_here x) refl

module _ (seed i j : ℕ) (x : List ℤ) (lists : List (List ℤ)) where
  -- the run more printed what the first one did
  more_same : shares_from seed (suc i) (lists ++ x ∷ []) ≡ noted (seed_of seed j) x (shares_from seed (suc i) lists)
      → shares_from seed i ((x ∷ lists) ++ x ∷ []) ≡ noted (seed_of seed j) x (shares_from seed i (x ∷ lists))
  more_same rest =
      let one : count_of x (x ∷ []) ≡ 1 = rw (same_here x) refl in
      let runs : count_of x ((x ∷ lists) ++ x ∷ []) ≡ count_of x (x ∷ lists) + 1 = count_more x (x ∷ lists) x ∙ ap (λ n. count_of x (x ∷ lists) + n) one in
      let behind = ap (others x) rest ∙ others_noted (seed_of seed j) x (shares_from seed (suc i) lists) in
      ap (λ n. record { numbers = x; first = seed_of seed i; runs = n } ∷ others x (shares_from seed (suc i) (lists ++ x ∷ []))) runs
      ∙ ap (λ l. record { numbers = x; first = seed_of seed i; runs = count_of x (x ∷ lists) + 1 } ∷ l) behind
      ∙ sym (noted_first (seed_of seed j) (count_of x (x ∷ lists)) (seed_of seed i) x (others x (shares_from seed (suc i) lists)))

  -- it printed something else
  more_other : (y : List ℤ) → are_same x y ≡ false
      → shares_from seed (suc i) (lists ++ y ∷ []) ≡ noted (seed_of seed j) y (shares_from seed (suc i) lists)
      → shares_from seed i ((x ∷ lists) ++ y ∷ []) ≡ noted (seed_of seed j) y (shares_from seed i (x ∷ lists))
  more_other y differs rest =
      let none : count_of x (y ∷ []) ≡ 0 = rw (other_order x y false differs) refl in
      let runs : count_of x ((x ∷ lists) ++ y ∷ []) ≡ count_of x (x ∷ lists) = count_more x (x ∷ lists) y ∙ ap (λ n. count_of x (x ∷ lists) + n) none ∙ add-zero (count_of x (x ∷ lists)) in
      let behind = ap (others x) rest ∙ noted_others (seed_of seed j) x y (other_order x y false differs) (shares_from seed (suc i) lists) in
      ap (λ n. record { numbers = x; first = seed_of seed i; runs = n } ∷ others x (shares_from seed (suc i) (lists ++ y ∷ []))) runs
      ∙ ap (λ l. record { numbers = x; first = seed_of seed i; runs = count_of x (x ∷ lists) } ∷ l) behind
      ∙ sym (noted_later (seed_of seed j) y (record { numbers = x; first = seed_of seed i; runs = count_of x (x ∷ lists) }) (others x (shares_from seed (suc i) lists)) differs)

  more_either : (y : List ℤ) → shares_from seed (suc i) (lists ++ y ∷ []) ≡ noted (seed_of seed j) y (shares_from seed (suc i) lists)
      → (b : Bool) → are_same x y ≡ b
      → shares_from seed i ((x ∷ lists) ++ y ∷ []) ≡ noted (seed_of seed j) y (shares_from seed i (x ∷ lists))
  more_either y rest true e =
      let same = same_yes x y e in
      subst (λ z. shares_from seed i ((x ∷ lists) ++ z ∷ []) ≡ noted (seed_of seed j) z (shares_from seed i (x ∷ lists))) same
      (more_same (subst (λ z. shares_from seed (suc i) (lists ++ z ∷ []) ≡ noted (seed_of seed j) z (shares_from seed (suc i) lists)) (sym same) rest))
  more_either y rest false e = more_other y e rest

-- one run more, which is run j, is noted behind the others
pub shares_more : (seed i j : ℕ) (lists : List (List ℤ)) (y : List ℤ) → j ≡ i + length lists
    → shares_from seed i (lists ++ y ∷ []) ≡ noted (seed_of seed j) y (shares_from seed i lists)
shares_more seed i j [] y at =
    let one : count_of y (y ∷ []) ≡ 1 = rw (same_here y) refl in
    let here : i ≡ j = omega (arith, at) in
    ap (λ n. record { numbers = y; first = seed_of seed i; runs = n } ∷ []) one ∙ ap (λ k. record { numbers = y; first = seed_of seed k; runs = 1 } ∷ []) here
shares_more seed i j (x ∷ lists) y at =
    more_either seed i j x lists y (shares_more seed (suc i) j lists y (omega (arith, at))) (are_same x y) refl

-- ---- how many runs a share has

few_others : (n : ℕ) (x : List ℤ) (shares : List Share) → AllByRecursion (λ s. s.runs ≤ n) shares
    → AllByRecursion (λ s. s.runs ≤ suc n) (others x shares)
few_others n x [] few = tt
few_others n x (s ∷ shares) few = by (are_same s.numbers x) refl (few_others n x shares few.1)
  where
    by : (b : Bool) → are_same s.numbers x ≡ b → AllByRecursion (λ t. t.runs ≤ suc n) (others x shares)
        → AllByRecursion (λ t. t.runs ≤ suc n) (others x (s ∷ shares))
    by true e rest = rw e rest
    by false e rest = rw e (let fits : s.runs ≤ suc n = omega (arith, few.0) in (fits, rest))

-- no more than there are
shares_few : (seed i : ℕ) (lists : List (List ℤ)) → AllByRecursion (λ s. s.runs ≤ length lists) (shares_from seed i lists)
shares_few seed i [] = tt
shares_few seed i (x ∷ lists) =
    (count_by-le-length (λ other. are_same other x) (x ∷ lists), few_others (length lists) x (shares_from seed (suc i) lists) (shares_few seed (suc i) lists))

few_at : (n : ℕ) (shares : List Share) → AllByRecursion (λ s. s.runs ≤ n) shares → (k : ℕ) (s : Share) → slice_get shares k ≡ Some s
    → s.runs ≤ n
few_at n [] few k s there = absurd (none-some s there)
few_at n (t ∷ shares) few zero s there = subst (λ (z : Share). z.runs ≤ n) (same_Some t s there) few.0
few_at n (t ∷ shares) few (suc k) s there = few_at n shares few.1 k s there

pub room_left : (seed runs : ℕ) (lists : List (List ℤ)) (shares : List Share) → shares ≡ shares_from seed 0 lists → length lists < runs
    → runs < 2 ^ 64 → HasRoom shares
room_left seed runs lists shares is less fits k s there =
    let few = few_at (length lists) shares (subst (AllByRecursion (λ t. t.runs ≤ length lists)) (sym is) (shares_few seed 0 lists)) k s there in
    omega (arith, few)
