use Rattle.std.proofs.Common.{◌≡◌, ◌∙◌, ◌+◌, ◌-◌, ◌≤◌, length, take, ap, arith, subst, sym}
use Rattle.xk_readings.specs.NodeSets.{HasNode, NodeSetValue}
use Rattle.xk_readings.specs.Stands.{AreBehind, standings}
use Rattle.xk_readings.specs.Ways.{WaysValue}
use Rattle.xk_readings.proofs.StandLemmas.{behind_take, many_ways, none_here, ways_take}
use Rattle.xk_readings.proofs.ways.Ways.truncate.Goals as goal

pub invariant_of-self : goal.invariant_of-self
invariant_of-self c = record {
  behind = subst AreBehind (sym c.truncate.ensures.items) (behind_take c.self.inside.stands.items
      (c.args.number - 1) c.self.invariant.behind);
  here = λ m has. none_here (standings c.truncate.new.self.items) c.args.number m
      (subst (λ (s : NodeSetValue). HasNode s.nodes m) c.clear.ensures has);
}

pub returns-clause-all : goal.returns-clause-all
returns-clause-all c =
    let stands = c.self.inside.stands.items in
    let number = c.args.number in
    let many = many_ways stands in
    let inside : number ≤ length (standings stands) = subst (λ (w : WaysValue). number ≤ length w.all)
    (sym c.self.view_is) c.requires.within in
    let some = c.requires.some in
    let same : (number - 1) + 1 ≡ number = omega (arith, some) in
    ap standings c.truncate.ensures.items ∙ ways_take stands (number - 1) (omega (arith, many, inside, some))
    ∙ ap (λ n. take n (standings stands)) same
    ∙ ap (λ (w : WaysValue). take number w.all) c.self.view_is

pub returns-clause-room : goal.returns-clause-room
returns-clause-room c = ap (λ (s : NodeSetValue). s.room) c.clear.ensures ∙ ap (λ (w : WaysValue). w.here.room) c.self.view_is
