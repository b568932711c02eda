use Rattle.std.proofs.Common.{◌≤◌, length, sym, ap, ◌∙◌, subst, arith}
use Rattle.std.specs.Vec.{vec_capacity}
use Rattle.xk_registrations.specs.Standings.{StandingsValue, told_of, lists, advanced_in}
use Rattle.xk_registrations.proofs.AllRegistrationsLemmas.{length-told, noted_told}
use Rattle.xk_registrations.proofs.standings.Standings.list_advanced.Goals as goal

pub list_advanced-requires : goal.list_advanced-requires
list_advanced-requires c =
    let roomy = subst (λ (s : StandingsValue). length (told_of s) ≤ vec_capacity c.args.list.now) (sym c.self.view_is) c.requires in
    omega (
      arith,
      roomy,
      c.self.invariant.lasts,
      length-told c.self.inside.clocks.lasts (lists c.self.inside.held.items) c.self.inside.clocks.table.clocks,
    )

pub returns-clause-items : goal.returns-clause-items
returns-clause-items c =
    c.list_advanced.ensures.items
    ∙ noted_told c.args.step c.self.inside.clocks.lasts (lists c.self.inside.held.items) c.self.inside.clocks.table.clocks c.self.invariant
    ∙ ap (λ (s : StandingsValue). advanced_in (told_of s) c.args.step) c.self.view_is
