-- How many numbers pass a test, where each that does is the clock that a value of a list names.
use Rattle.std.proofs.Common.{◌≡◌, ℕ, zero, suc, ◌+◌, ◌≤◌, Bool, true, false, cond, List, [], ◌∷◌, length, refl, arith}
use Rattle.std.proofs.lemmas.Bool.{false≢true}
use Rattle.std.proofs.lemmas.Option.{none-some, same_Some}
use Rattle.xk_types.specs.declared.world.Value.{Value}
use Rattle.xk_types.specs.declared.world.Value.TheVariants as value
use Rattle.xk_types.specs.Bound.{count_below}
use Rattle.xk_law_schedules.proofs.Invariant.{Names}

-- how many of the first n numbers pass the test
abbrev pub how_many : (ℕ → Bool) → ℕ → ℕ
how_many p zero = 0
how_many p (suc n) = cond (p 0) 1 0 + how_many (λ k. p (suc k)) n

-- they are as many, counted from the last one
last_one : (p : ℕ → Bool) (n : ℕ) → how_many p (suc n) ≡ cond (p n) 1 0 + how_many p n
last_one p zero = refl
last_one p (suc n) = let rest = last_one (λ k. p (suc k)) n in omega arith

pub below_is : (p : ℕ → Bool) (n : ℕ) → count_below p n ≡ how_many p n
below_is p zero = refl
below_is p (suc n) = let rest = below_is p n in let last = last_one p n in omega arith

-- the test, but for number c
abbrev without : (ℕ → Bool) → ℕ → ℕ → Bool
without p zero zero = false
without p zero (suc k) = p (suc k)
without p (suc c) zero = p 0
without p (suc c) (suc k) = without (λ j. p (suc j)) c k

without_passes : (p : ℕ → Bool) (c k : ℕ) → without p c k ≡ true → p k ≡ true
without_passes p zero zero h = absurd (false≢true h)
without_passes p zero (suc k) h = h
without_passes p (suc c) zero h = h
without_passes p (suc c) (suc k) h = without_passes (λ j. p (suc j)) c k h

without_differs : (p : ℕ → Bool) (c k : ℕ) → without p c k ≡ true → k ≡ c → ⊥
without_differs p zero zero h e = false≢true h
without_differs p zero (suc k) h e = absurd (omega arith)
without_differs p (suc c) zero h e = absurd (omega arith)
without_differs p (suc c) (suc k) h e = without_differs (λ j. p (suc j)) c k h (omega arith)

-- without one number there is at most one less
one_less : (p : ℕ → Bool) (c n : ℕ) → how_many p n ≤ how_many (without p c) n + 1
one_less p c zero = omega arith
one_less p zero (suc n) = go (p 0)
  where
    go : (b : Bool) → cond b 1 0 + how_many (λ k. p (suc k)) n ≤ 0 + how_many (λ k. p (suc k)) n + 1
    go true = omega arith
    go false = omega arith
one_less p (suc c) (suc n) = let later = one_less (λ k. p (suc k)) c n in omega arith

pub none : (p : ℕ → Bool) (n : ℕ) → ((k : ℕ) → p k ≡ true → ⊥) → how_many p n ≡ 0
none p zero never = refl
none p (suc n) never = go (p 0) (never 0) (none (λ k. p (suc k)) n (λ k. never (suc k)))
  where
    go : (b : Bool) → (b ≡ true → ⊥) → how_many (λ k. p (suc k)) n ≡ 0 → cond b 1 0 + how_many (λ k. p (suc k)) n ≡ 0
    go true h e = absurd (h refl)
    go false h e = omega arith

same_clock : (c d : ℕ) → value.Clock c ≡ value.Clock d → d ≡ c
same_clock c d e = cc

-- a clock that the first value doesn't name is named by one behind it
other : (x : Value) (xs : List Value) (k : ℕ) → (x ≡ value.Clock k → ⊥) → (s : ℕ) × Names (x ∷ xs) s k → (s : ℕ) × Names xs s k
other x xs k differs named = go named.0 named.1
  where
    go : (s : ℕ) → Names (x ∷ xs) s k → (t : ℕ) × Names xs t k
    go zero at = absurd (differs (same_Some x (value.Clock k) at))
    go (suc s) at = (s, at)

-- each value names one clock at most: so no more numbers pass than there are values
pub named_by : (xs : List Value) (p : ℕ → Bool) (n : ℕ) → ((k : ℕ) → p k ≡ true → (s : ℕ) × Names xs s k) → how_many p n ≤ length xs
named_by [] p n named = (let h = none p n (λ k e. none-some (value.Clock k) (named k e).1) in omega arith)
named_by (value.Unset ∷ xs) p n named = (let h = named_by xs p n (λ k e. other value.Unset xs k (λ q. absurd (grind arith)) (named k e)) in omega arith)
named_by (value.Number i ∷ xs) p n named = (let h = named_by xs p n (λ k e. other (value.Number i) xs k (λ q. absurd (grind arith)) (named k e)) in omega arith)
named_by (value.Clock c ∷ xs) p n named =
    let h = named_by xs (without p c) n
    (λ k e. other (value.Clock c) xs k (λ q. without_differs p c k e (same_clock c k q)) (named k (without_passes p c k e))) in
    let l = one_less p c n in
    omega arith
