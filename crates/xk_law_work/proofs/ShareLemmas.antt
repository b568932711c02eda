-- Shares of steps among processors.
use Rattle.std.proofs.Common.{◌≡◌, ℕ, zero, suc, ◌+◌, ◌*◌, ◌/◌, ◌%◌, ◌<◌, ◌≤◌, Bool, true, false, min, refl, sym, subst, arith}
use Rattle.std.proofs.Common.{eqb-true}
use Rattle.std.specs.Prelude.{nat_eq, if◌then◌else◌}
use Rattle.std.proofs.lemmas.Bool.{eqb-false}
use Rattle.std.proofs.lemmas.Grind.{div_ceil_times}
use Rattle.xk_span_summary.specs.Shares.{least_rounds, share}

-- a share is the quotient, rounded up
pub share_is : (p n : ℕ) → share p n ≡ n / p + min 1 (n % p)
share_is p n = by (nat_eq (n % p) 0) refl
  where
    by : (b : Bool) → nat_eq (n % p) 0 ≡ b → n / p + (if b then 0 else 1) ≡ n / p + min 1 (n % p)
    by true e = let none = eqb-true (n % p) 0 e in omega (arith, none)
    by false e = let some = eqb-false (n % p) 0 e in omega (arith, some)

-- k rounds of p steps have room for n: then k is no less than its share
pub share_least : (p n k : ℕ) → 0 < p → n ≤ p * k → share p n ≤ k
share_least p n k some room =
    let c : share p n * p < n + p = subst (λ x. x * p < n + p) (sym (share_is p n)) (div_ceil_times n p some).1 in
    below (share p n) k p (let e : p * k ≡ k * p = grind arith in omega (arith, c, room, e))
  where
    below : (a k p : ℕ) → a * p < k * p + p → a ≤ k
    below zero k p h = omega arith
    below (suc a) zero p h = absurd (let e : suc a * p ≡ p + a * p = grind arith in omega (arith, e, h))
    below (suc a) (suc k) p h =
        let rest = below a k p
        (let e : suc a * p ≡ p + a * p = grind arith in
        let f : suc k * p ≡ p + k * p = grind arith in
        omega (arith, e, f, h)) in
        omega (arith, rest)

pub least_of : (p work span k : ℕ) → 0 < p → work ≤ p * k → span ≤ k → least_rounds p work span ≤ k
least_of p work span k some room long = let a = share_least p work k some room in omega (arith, a, long)
