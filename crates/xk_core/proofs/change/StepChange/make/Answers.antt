use Rattle.std.proofs.Common.{◌≡◌, map, sym, subst}
use Rattle.xk_types.specs.Step.{settled_clock, moved}
use Rattle.xk_registrations.specs.Standings.{told_of}
use Rattle.xk_core.specs.declared.change.StepChange.{StepChange}
use Rattle.xk_core.specs.Change.{standing_after_step}
use Rattle.xk_core.proofs.change.StepChange.make.Goals as goal

pub returns-in-Nothing-clause-told : goal.returns-in-Nothing-clause-told
returns-in-Nothing-clause-told c =
    subst (λ (x : StepChange). told_of c.args.standings.now ≡ map (settled_clock c.args.now) (moved c.args.a (standing_after_step x) (told_of c.args.standings.now)))
    (sym c.in-Nothing.is) (sym (c.rest.ensures c.args.now c.args.a))
