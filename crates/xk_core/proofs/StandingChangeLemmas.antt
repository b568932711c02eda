-- Which changes of standings steps make.
use Rattle.std.proofs.Common.{◌≡◌, ℕ, map, List, sym, subst}
use Rattle.xk_types.specs.World.{Clock}
use Rattle.xk_types.specs.Step.{all, passed, settled_clock, moved}
use Rattle.xk_core.specs.declared.change.StandingChange.{StandingChange}
use Rattle.xk_core.specs.declared.change.StandingChange.TheVariants as standing_change
use Rattle.xk_core.specs.Change.{standing_after, AllowsChangeOn}
use Rattle.xk_registrations.specs.declared.affected_clocks.Which.{Which}
use Rattle.xk_registrations.specs.declared.affected_clocks.Which.TheVariants as which
use Rattle.xk_registrations.specs.Standings.{change_on}

-- a pass, and a step that changes nothing
pub pass_told : (now a : ℕ) (w : Which) (ch : StandingChange) (old new : List Clock) → ch ≡ standing_change.Pass → AllowsChangeOn old a w ch
    → ((now : ℕ) → new ≡ map (settled_clock now) (moved a (all passed) old)) → new ≡ map (settled_clock now) (moved a (change_on w (standing_after ch)) old)
pass_told now a w ch old new is allowed each =
    let h : AllowsChangeOn old a w standing_change.Pass = subst (AllowsChangeOn old a w) is allowed in
    subst (λ x. new ≡ map (settled_clock now) (moved a (change_on x (standing_after ch)) old)) (sym h.0)
    (subst (λ x. new ≡ map (settled_clock now) (moved a (change_on which.All (standing_after x)) old)) (sym is) (each now))
