-- How many rounds widths take, and rounds of these widths.
use Rattle.std.proofs.Common.{◌≡◌, ◌∙◌, ℕ, zero, suc, ◌+◌, ◌<◌, ◌≤◌, List, [], ◌∷◌, length, refl, sym, ap, arith}
use Rattle.std.proofs.lemmas.List.{get_or_past}
use Rattle.xk_races.specs.Lists.{number_at}
use Rattle.xk_span_summary.specs.Shares.{level_rounds, rounds_from, share}
use Rattle.xk_law_rounds.specs.Processors.{dealt_rounds}
use Rattle.xk_law_work.proofs.ShareLemmas.{share_is, share_least}

no_share : (p : ℕ) → 0 < p → share p 0 ≡ 0
no_share p some = let a = share_least p 0 0 some (omega arith) in omega (arith, a)

-- where all are 0, they take no round
none_more : (p : ℕ) → 0 < p → (xs : List ℕ) (n : ℕ) → ((k : ℕ) → number_at xs k ≡ 0) → rounds_from p n xs ≡ n
none_more p some [] n none = refl
none_more p some (x ∷ xs) n none =
    let e : n + share p x ≡ n = (let a = ap (share p) (none 0) ∙ no_share p some in omega (arith, a)) in
    ap (λ k. rounds_from p k xs) e ∙ none_more p some xs n (λ k. none (suc k))

past : (k : ℕ) → number_at [] k ≡ 0
past k = get_or_past [] k 0 (omega arith)

-- the same at each place take the same
same_rounds : (p : ℕ) → 0 < p → (xs ys : List ℕ) (n : ℕ) → ((k : ℕ) → number_at xs k ≡ number_at ys k)
    → rounds_from p n xs ≡ rounds_from p n ys
same_rounds p some [] ys n same = sym (none_more p some ys n (λ k. sym (same k) ∙ past k))
same_rounds p some (x ∷ xs) [] n same = none_more p some (x ∷ xs) n (λ k. same k ∙ past k)
same_rounds p some (x ∷ xs) (y ∷ ys) n same =
    ap (λ (k : ℕ). rounds_from p (n + share p k) xs) (same 0) ∙ same_rounds p some xs ys (n + share p y) (λ k. same (suc k))

-- so many steps in each of some rounds
abbrev pub sizes : List (List ℕ) → List ℕ
sizes [] = []
sizes (r ∷ rs) = length r ∷ sizes rs

sum_of : (p n : ℕ) (rounds : List (List ℕ)) → rounds_from p n (sizes rounds) ≡ n + dealt_rounds p rounds
sum_of p n [] = omega arith
sum_of p n (r ∷ rs) =
    let rest = sum_of p (n + share p (length r)) rs in
    let e = share_is p (length r) in
    omega (arith, rest, e)

pub size_past : (rounds : List (List ℕ)) (k : ℕ) → length rounds ≤ k → number_at (sizes rounds) k ≡ 0
size_past [] k le = past k
size_past (r ∷ rs) zero le = absurd (omega (arith, le))
size_past (r ∷ rs) (suc k) le = size_past rs k (omega (arith, le))

-- where round r, behind k others, is as wide as it has steps, and no others are, that's how many they take
pub level_is : (p : ℕ) → 0 < p → (widths : List ℕ) (rounds : List (List ℕ)) → number_at widths 0 ≡ 0
    → ((k : ℕ) → number_at widths (suc k) ≡ number_at (sizes rounds) k) → level_rounds p widths ≡ dealt_rounds p rounds
level_is p some widths rounds first later =
    let none = no_share p some in
    let start : 0 + share p 0 ≡ 0 = omega (arith, none) in
    let sum : 0 + dealt_rounds p rounds ≡ dealt_rounds p rounds = omega arith in
    same_rounds p some widths (0 ∷ sizes rounds) 0 same ∙ ap (λ k. rounds_from p k (sizes rounds)) start ∙ sum_of p 0 rounds ∙ sum
  where
    same : (k : ℕ) → number_at widths k ≡ number_at (0 ∷ sizes rounds) k
    same zero = first
    same (suc k) = later k
