use Rattle.std.proofs.Common.{length, refl}
use Rattle.xk_activity.specs.Activities.{act_at}
use Rattle.xk_registrations.specs.Standings.{rooms_of}
use Rattle.xk_core.proofs.ReservationLemmas.{kept_by, takes_base}
use Rattle.xk_core.proofs.state.State.local.Goals as goal

pub invariant_of-self : goal.invariant_of-self
invariant_of-self c =
    let v = c.self.inside.activities in
    let new = c.local-next.new.self in
    let n = length c.self.inside.standings.held in
    let r = rooms_of c.self.inside.standings in
    kept_by v new n n r r c.args.a (act_at new.list c.args.a) c.self.invariant c.local-next.ensures.others refl refl
    (takes_base v.module_run (act_at v.list c.args.a) (act_at new.list c.args.a) c.local-next.result c.local-next.ensures.takes)
