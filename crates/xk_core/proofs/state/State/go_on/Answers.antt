use Rattle.std.proofs.Common.{subst, sym, length, refl}
use Rattle.xk_activity.specs.Activities.{Stands, act_at}
use Rattle.xk_core.specs.State.{StateValue}
use Rattle.xk_core.proofs.ReservationLemmas.{kept_on}
use Rattle.xk_registrations.specs.Standings.{rooms_of}
use Rattle.xk_core.proofs.state.State.go_on.Goals as goal

pub go_on-requires-clause-stands : goal.go_on-requires-clause-stands
go_on-requires-clause-stands c =
    subst (λ (v : StateValue). Stands v.module_run (act_at v.world.activities c.args.a)) (sym c.self.view_is) c.requires.room.stands

pub invariant_of-self : goal.invariant_of-self
invariant_of-self c =
    kept_on c.self.inside.activities c.go_on.new.self (length c.self.inside.standings.held) (rooms_of c.self.inside.standings) c.args.a _ c.self.invariant c.go_on.ensures refl refl
