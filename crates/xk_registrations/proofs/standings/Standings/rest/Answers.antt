use Rattle.std.proofs.Common.{◌≡◌, map, subst}
use Rattle.xk_types.specs.Step.{none, settled_clock, moved}
use Rattle.xk_registrations.specs.Standings.{StandingsValue, told_of, lists}
use Rattle.xk_registrations.proofs.AllRegistrationsLemmas.{rest_in}
use Rattle.xk_registrations.proofs.standings.Standings.rest.Goals as goal

pub returns : goal.returns
returns c = λ now a.
    subst (λ (s : StandingsValue). map (settled_clock now) (moved a none (told_of s)) ≡ told_of s) c.self.view_is
    (rest_in now a c.self.inside.clocks.lasts (lists c.self.inside.held.items) c.self.inside.clocks.table.clocks c.self.invariant)
