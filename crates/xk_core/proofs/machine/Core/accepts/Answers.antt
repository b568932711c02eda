use Rattle.std.proofs.Common.{List, subst}
use Rattle.std.specs.Bool.{Decides}
use Rattle.xk_types.specs.Code.{ModuleValue}
use Rattle.xk_types.specs.World.{Activity}
use Rattle.xk_activity.specs.Ticket.{Fits}
use Rattle.xk_core.specs.TicketAcceptance.{Accepts}
use Rattle.xk_core.proofs.FinishTreeLemmas.{held}
use Rattle.xk_core.proofs.TicketLemmas.{decided}
use Rattle.xk_core.proofs.machine.Core.accepts.Goals as goal

pub returns : goal.returns
returns c =
    let m = c.self.inside.state.module_run in
    let ns = c.self.inside.finishes in
    let w = c.self.inside.state.world in
    decided m ns w (held m ns w c.self.invariant) c.args.ticket.now c.args.self.now c.self.view_is c.accepts.result
    (subst (λ (k : ModuleValue). Decides c.accepts.result (Accepts (record { module_run = k; world = w }) c.args.ticket.now)) c.activities.ensures.module
    (subst (λ (l : List Activity). Decides c.accepts.result (Fits (record c.activities.result.now { list = l }) c.args.ticket.now)) c.activities.ensures.list c.accepts.ensures))
