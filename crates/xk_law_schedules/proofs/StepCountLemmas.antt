-- Each step counts itself.
use Rattle.std.proofs.Common.{◌≡◌, ℕ, ◌+◌, refl, subst}
use Rattle.xk_types.specs.declared.world.Event.{Event}
use Rattle.xk_types.specs.Code.{ModuleValue}
use Rattle.xk_types.specs.World.{World}
use Rattle.xk_types.specs.Step.{Outcome, Blocked, Wrong, Stepped, step}
use Rattle.xk_law_schedules.proofs.StepFormLemmas.{step_kind}

-- the world that a step leads to has one step more
abbrev Counts : ℕ → Outcome → Type 0
Counts n Blocked = Unit {0}
Counts n (Wrong c) = Unit {0}
Counts n (Stepped v e) = v.steps ≡ n + 1

-- a step counts itself
pub step_counts : (m : ModuleValue) (w v : World) (a : ℕ) (e : Event) → step m w a ≡ Stepped v e → v.steps ≡ w.steps + 1
step_counts m w v a e h = subst (Counts w.steps) h (step_kind (Counts w.steps) m w a tt (λ c. tt) (λ act found alive. record {
  closed = λ n some nobody runs. refl;
  over = λ here alone. refl;
  arrives = refl;
  done = λ next change e on quiet rests. refl;
  made = λ next on. refl;
  stored = λ s n e on quiet. refl;
  spawned = λ t args values at on. refl;
}))
