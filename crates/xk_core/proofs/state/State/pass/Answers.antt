use Rattle.std.proofs.Common.{length, refl}
use Rattle.xk_registrations.specs.Standings.{rooms_of}
use Rattle.xk_core.proofs.ReservationLemmas.{kept_on}
use Rattle.xk_core.proofs.state.State.pass.Goals as goal

pub invariant_of-self : goal.invariant_of-self
invariant_of-self c =
    kept_on c.self.inside.activities c.pass.new.self (length c.self.inside.standings.held) (rooms_of c.self.inside.standings) c.args.a _ c.self.invariant c.pass.ensures refl refl
