-- The excerpt of those who pass a test, one number further.
use Rattle.std.proofs.Common.{◌≡◌, ◌∙◌, ℕ, zero, suc, ◌+◌, ◌≤◌, Bool, true, false, List, [], ◌∷◌}
use Rattle.std.proofs.Common.{◌++◌, length, take, refl, sym, ap, arith}
use Rattle.std.specs.Prelude.{nat_lt, if◌then◌else◌}
use Rattle.std.proofs.lemmas.Bool.{ltb-true, ltb-false}
use Rattle.std.proofs.lemmas.List.{append-nil, length_push, take_all, take-append-le}
use Rattle.xk_show_events.specs.Worlds.{those_below}
use Rattle.xk_show_where.specs.Excerpts.{excerpt_of, first_with, noted}

-- the first eight of a list that goes on
first_next : (acts : List ℕ) (a : ℕ) → first_with (take 8 acts) (length acts) a ≡ take 8 (acts ++ a ∷ [])
first_next acts a = of (nat_lt (length acts) 8) refl
  where
    of : (b : Bool) → nat_lt (length acts) 8 ≡ b → (if b then take 8 acts ++ a ∷ [] else take 8 acts) ≡ take 8 (acts ++ a ∷ [])
    of true e =
        let lt = ltb-true (length acts) 8 e in
        ap (λ l. l ++ a ∷ []) (take_all 8 acts (omega (arith, lt)))
        ∙ sym (take_all 8 (acts ++ a ∷ []) (let n = length_push acts a in omega (arith, lt, n)))
    of false e = sym (take-append-le 8 acts (a ∷ []) (ltb-false (length acts) 8 e))

excerpt_push : (acts : List ℕ) (a : ℕ) → noted true a (excerpt_of acts) ≡ excerpt_of (acts ++ a ∷ [])
excerpt_push acts a =
    ap (λ f. record { first = f; count = length acts + 1 }) (first_next acts a)
    ∙ ap (λ n. record { first = take 8 (acts ++ a ∷ []); count = n }) (sym (length_push acts a))

pub excerpt_suc : (test : ℕ → Bool) (n : ℕ) → excerpt_of (those_below test (suc n)) ≡ noted (test n) n (excerpt_of (those_below test n))
excerpt_suc test n = of (test n)
  where
    of : (b : Bool) → excerpt_of (those_below test n ++ (if b then n ∷ [] else [])) ≡ noted b n (excerpt_of (those_below test n))
    of true = sym (excerpt_push (those_below test n) n)
    of false = ap excerpt_of (append-nil (those_below test n))

pub excerpt_next : (test : ℕ → Bool) (n : ℕ) → excerpt_of (those_below test (n + 1)) ≡ noted (test n) n (excerpt_of (those_below test n))
excerpt_next test n = (let more : n + 1 ≡ suc n = omega arith in ap (λ k. excerpt_of (those_below test k)) more ∙ excerpt_suc test n)

-- they are no more than were asked
pub few_enough : (test : ℕ → Bool) (n : ℕ) → (excerpt_of (those_below test n)).count ≤ n
few_enough test zero = omega arith
few_enough test (suc n) = of (test n) (few_enough test n)
  where
    of : (b : Bool) → length (those_below test n) ≤ n → length (those_below test n ++ (if b then n ∷ [] else [])) ≤ suc n
    of true h = (let k = length_push (those_below test n) n in omega (arith, h, k))
    of false h = (let k = ap length (append-nil (those_below test n)) in omega (arith, h, k))
