use Rattle.xk_registrations.proofs.PartLemmas.{inside_clocks, last_of}
use Rattle.xk_registrations.proofs.standings.Standings.last.Goals as goal

pub last-requires : goal.last-requires
last-requires c = inside_clocks _ _ c.args.clock c.self.view_is c.requires

pub returns : goal.returns
returns c = last_of _ _ c.args.clock c.last.result c.self.view_is c.requires c.last.ensures
