use Rattle.std.proofs.Common.{rules, ◌≡◌, Some, None, refl}
use Rattle.xk_registrations.specs.View.{reg_on}
use Rattle.xk_registrations.proofs.PartLemmas.{inside_clocks, stands_of, stands_some}
use Rattle.xk_registrations.proofs.standings.Standings.standing.Goals as goal

pub phase-phase-requires : goal.phase-phase-requires
phase-phase-requires c = inside_clocks _ _ c.args.clock c.self.view_is c.requires.clock

pub returns-in-Some : goal.returns-in-Some
returns-in-Some c =
    let found : Some c.in-Some.registration ≡ reg_on c.index-registrations.result.now.list c.args.clock = search rules in
    stands_some _ _ c.self.inside.held.items c.args.a c.args.clock c.phase-phase.result c.index-registrations.result.now c.in-Some.registration c.standing.result
    c.self.view_is refl c.requires.activity c.index-registrations.ensures c.requires.clock found c.phase-phase.ensures c.standing.ensures

pub returns-in-None : goal.returns-in-None
returns-in-None c =
    let found : None ≡ reg_on c.index-registrations.result.now.list c.args.clock = search rules in
    stands_of _ _ c.self.inside.held.items c.args.a c.args.clock c.index-registrations.result.now None
    c.self.view_is refl c.requires.activity c.index-registrations.ensures c.requires.clock found
