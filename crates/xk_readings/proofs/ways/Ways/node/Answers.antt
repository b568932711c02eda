use Rattle.std.proofs.Common.{◌∙◌, ◌<◌, length, ap, arith, subst, sym}
use Rattle.xk_readings.specs.Ways.{Standing, WaysValue, at}
use Rattle.xk_readings.specs.Stands.{standings}
use Rattle.xk_readings.proofs.StandLemmas.{first_way, last_edge, many_ways}
use Rattle.xk_readings.proofs.ways.Ways.node.Goals as goal

pub returns-then-number-eq0 : goal.returns-then-number-eq0
returns-then-number-eq0 c =
    let stands = c.self.inside.stands.items in
    sym (ap (λ (s : Standing). s.node) (ap (at (standings stands)) c.if-number-eq0.true ∙ first_way stands))
    ∙ ap (λ (w : WaysValue). (at w.all c.args.number).node) c.self.view_is

pub index-requires : goal.index-requires
index-requires c =
    let stands = c.self.inside.stands.items in
    let many = many_ways stands in
    let kept = c.self.inside.stands.ok.0 in
    let inside : c.args.number < length (standings stands) = subst (λ (w : WaysValue). c.args.number < length w.all)
    (sym c.self.view_is) c.requires in
    omega (arith, many, kept, inside)

pub returns : goal.returns
returns c =
    let stands = c.self.inside.stands.items in
    let number = c.args.number in
    let many = many_ways stands in
    let inside : number < length (standings stands) = subst (λ (w : WaysValue). number < length w.all) (sym c.self.view_is) c.requires in
    let is = last_edge stands number c.index.result.now c.self.invariant.behind (omega (arith, many, inside))
    (omega (arith, c.if-number-eq0.false)) c.index.ensures in
    sym (ap (λ (s : Standing). s.node) is.1) ∙ ap (λ (w : WaysValue). (at w.all number).node) c.self.view_is
