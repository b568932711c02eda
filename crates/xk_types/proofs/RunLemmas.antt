-- Runs that come through.
use Rattle.std.proofs.Common.{◌≡◌, ℕ, List, [], ◌∷◌, ◌++◌, refl, ap, ◌∙◌, arith}
use Rattle.xk_types.specs.declared.world.Event.{Event}
use Rattle.xk_types.specs.Code.{ModuleValue}
use Rattle.xk_types.specs.World.{World}
use Rattle.xk_types.specs.Step.{Outcome, Blocked, Wrong, Stepped, step}
use Rattle.xk_types.specs.Schedule.{Course, Through, run, run_on}

-- two courses that come through come to one world
pub same_through : (w v : World) → Through w ≡ Through v → w ≡ v
same_through w v e = cc

-- a run that comes through took its first step
pub first_step : (w v : World) (o : Outcome) (go : World → Course) → run_on w o go ≡ Through v → (x : World) × (e : Event) × (o ≡ Stepped x e) × (go x ≡ Through v)
first_step w v Blocked go h = absurd (grind arith)
first_step w v (Wrong c) go h = absurd (grind arith)
first_step w v (Stepped x e) go h = (x, e, refl, h)

-- where the first of two lists leads, the other begins
pub run_then : (m : ModuleValue) (xs ys : List ℕ) (w v : World) → run m xs w ≡ Through v → run m (xs ++ ys) w ≡ run m ys v
run_then m [] ys w v h = ap (run m ys) (same_through w v h)
run_then m (a ∷ xs) ys w v h =
    let t = first_step w v (step m w a) (run m xs) h in
    ap (λ o. run_on w o (run m (xs ++ ys))) t.2 ∙ run_then m xs ys t.0 v t.3
