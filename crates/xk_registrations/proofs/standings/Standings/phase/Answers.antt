use Rattle.xk_registrations.proofs.PartLemmas.{inside_clocks, phase_of}
use Rattle.xk_registrations.proofs.standings.Standings.phase.Goals as goal

pub phase-requires : goal.phase-requires
phase-requires c = inside_clocks _ _ c.args.clock c.self.view_is c.requires

pub returns : goal.returns
returns c = phase_of _ _ c.args.clock c.phase.result c.self.view_is c.requires c.phase.ensures
