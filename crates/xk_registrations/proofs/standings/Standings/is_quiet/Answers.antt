use Rattle.std.proofs.Common.{◌==◌, not, ap, ◌∙◌}
use Rattle.std.specs.List.{list_all}
use Rattle.xk_types.specs.World.{Clock}
use Rattle.xk_registrations.specs.Standings.{StandingsValue, told_of, lists}
use Rattle.xk_registrations.proofs.AllRegistrationsLemmas.{quiet_in}
use Rattle.xk_registrations.proofs.standings.Standings.is_quiet.Goals as goal

pub returns : goal.returns
returns c =
    c.is_quiet.ensures
    ∙ quiet_in c.args.step c.self.inside.clocks.lasts (lists c.self.inside.held.items) c.self.inside.clocks.table.clocks c.self.invariant
    ∙ ap (λ (s : StandingsValue). list_all (λ (k : Clock). not (k.last == c.args.step)) (told_of s)) c.self.view_is
