use Rattle.std.proofs.Common.{ap, ◌∙◌, [], ◌∷◌}
use Rattle.xk_types.specs.World.{root}
use Rattle.xk_finishes.specs.Tree.{fresh_node}
use Rattle.xk_core.proofs.FinishTreeLemmas.{opened}
use Rattle.xk_core.proofs.machine.Core.open.Goals as goal

pub invariant_of-result : goal.invariant_of-result
invariant_of-result c =
    opened c.args.verified.now c.in_ok-state.state.module_run c.args.arguments.now c.in_ok-finishes.finishes c.in_ok-state.state.world c.module-program.ensures.limits c.module-program.ensures.accepted
    c.requires c.in_ok-state.ensures.module c.in_ok-state.ensures.world (c.in_ok-finishes.ensures ∙ ap (λ r. fresh_node root r ∷ []) c.room.ensures.finishes)
