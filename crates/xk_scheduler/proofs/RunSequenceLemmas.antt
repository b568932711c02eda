-- A run goes on by another one: what the chooser names, and where it is left.
use Rattle.std.proofs.Common.{◌≡◌, ◌∙◌, ℕ, List, [], ◌∷◌, ◌++◌, sym, ap, subst}
use Rattle.xk_types.specs.Code.{ModuleValue}
use Rattle.xk_types.specs.World.{World}
use Rattle.xk_types.specs.Step.{step}
use Rattle.xk_types.specs.Schedule.{Through, run}
pub use Rattle.xk_types.proofs.RunLemmas.{run_then}
use Rattle.xk_law_schedules.proofs.ReachabilityLemmas.{same_through, first_step}
use Rattle.xk_scheduler.specs.Choosers.{enabled_in, Follows, goes_on, state_after, state_on}

-- where both follow the chooser, so do they together
pub follows_then : {S : Type 0} (answer : S → List ℕ → ℕ) (after : S → List ℕ → S) (m : ModuleValue) (xs ys : List ℕ) (s : S) (w v : World) → run m xs w ≡ Through v
    → Follows answer after m s w xs → Follows answer after m (state_after after m s w xs) v ys → Follows answer after m s w (xs ++ ys)
follows_then answer after m [] ys s w v h f g = subst (λ z. Follows answer after m s z ys) (sym (same_through w v h)) g
follows_then answer after m (a ∷ xs) ys s w v h f g =
    let t = first_step w v (step m w a) (run m xs) h in
    let next = after s (enabled_in m w) in
    let rest = subst (λ o. goes_on o (λ z. Follows answer after m next z xs)) t.2 f.1 in
    let there = subst (λ o. Follows answer after m (state_on o s (λ z. state_after after m next z xs)) v ys) t.2 g in
    (f.0, subst (λ o. goes_on o (λ z. Follows answer after m next z (xs ++ ys))) (sym t.2) (follows_then answer after m xs ys next t.0 v t.3 rest there))

-- and it is left where the other leaves it
pub state_then : {S : Type 0} (after : S → List ℕ → S) (m : ModuleValue) (xs ys : List ℕ) (s : S) (w v : World) → run m xs w ≡ Through v
    → state_after after m s w (xs ++ ys) ≡ state_after after m (state_after after m s w xs) v ys
state_then after m [] ys s w v h = ap (λ z. state_after after m s z ys) (same_through w v h)
state_then after m (a ∷ xs) ys s w v h =
    let t = first_step w v (step m w a) (run m xs) h in
    let next = after s (enabled_in m w) in
    ap (λ o. state_on o s (λ z. state_after after m next z (xs ++ ys))) t.2
    ∙ state_then after m xs ys next t.0 v t.3
    ∙ sym (ap (λ o. state_after after m (state_on o s (λ z. state_after after m next z xs)) v ys) t.2)
