-- Steps one after the other.
use Rattle.std.proofs.Common.{◌≡◌, ◌⊎◌, inl, inr, ℕ, zero, suc, ◌+◌, ◌<◌, true, false, subst, ap, ◌∙◌, arith}
use Rattle.xk_activity.specs.Local.{OutcomeOf, Beyond, Stepped, then_step, ran, is_stepped, IsSafe, IsRight}

-- where a safe run has come to, the next step isn't wrong
pub safe_here : {X : Type 0} (step : X → OutcomeOf X) (start : X) (n : ℕ) (x : X) → IsSafe step start → ran step start n ≡ Stepped x → IsRight (step x)
safe_here step start n x safe e = subst (λ o. IsRight (then_step step o)) e (safe (suc n))

-- steps, and then as many more
pub ran_more : {X : Type 0} (step : X → OutcomeOf X) (start : X) (n m : ℕ) (x : X) → ran step start n ≡ Stepped x → ran step start (n + m) ≡ ran step x m
ran_more step start n zero x e = let z : n + 0 ≡ n = omega arith in ap (λ k. ran step start k) z ∙ e
ran_more step start n (suc m) x e = let z : n + suc m ≡ suc (n + m) = omega arith in ap (λ k. ran step start k) z ∙ ap (then_step step) (ran_more step start n m x e)

-- one step more
pub ran_on : {X : Type 0} (step : X → OutcomeOf X) (start : X) (n : ℕ) (x y : X) → ran step start n ≡ Stepped x → step x ≡ Stepped y → ran step start (n + 1) ≡ Stepped y
ran_on step start n x y e h = ran_more step start n 1 x e ∙ h

-- where a safe run has come to, it is safe to go on
pub safe_on : {X : Type 0} (step : X → OutcomeOf X) (start : X) (n : ℕ) (x : X) → IsSafe step start → ran step start n ≡ Stepped x → IsSafe step x
safe_on step start n x safe e m = subst (λ o. IsRight o) (ran_more step start n m x e) (safe (n + m))

-- where the first step is taken, and all that may be, there is a step
pub some_steps : {X : Type 0} (step : X → OutcomeOf X) (start new : X) (n max : ℕ) → 0 < max → is_stepped (step start) ≡ true → ran step start n ≡ Stepped new
    → (n ≡ max) ⊎ (step new ≡ Beyond) → 0 < n
some_steps step start new zero max some next e (inl all) = absurd (omega (arith, some, all))
some_steps step start new zero max some next e (inr end) =
    let here : start ≡ new = cc in
    let none : is_stepped (step start) ≡ false = ap (λ x. is_stepped (step x)) here ∙ ap is_stepped end in
    cc
some_steps step start new (suc n) max some next e stops = omega arith
