use Rattle.std.proofs.Common.{ℕ, List, subst, sym, arith}
use Rattle.std.specs.Bool.{Decides}
use Rattle.std.proofs.lemmas.Option.{slice_get_within}
use Rattle.xk_readings.specs.Automata.{AreNodes, HasEndNode}
use Rattle.xk_readings.proofs.AutomatonLemmas.{end_more}
use Rattle.xk_readings.proofs.automaton.ends_of.Goals as goal

pub has_end-requires : goal.has_end-requires
has_end-requires c =
    subst (AreNodes c.args.graph.now) (sym c.deref.ensures.value)
    (c.requires.nodes c.loop-number.number c.in_ok-nodes.nodes.items c.in_ok-nodes.ensures).0

pub loop-number-preserved : goal.loop-number-preserved
loop-number-preserved c =
    let m = end_more c.args.graph.now c.args.states.now c.loop-number.ends.items c.push.new.self.items c.loop-number.number c.in_ok-nodes.nodes.items
    c.has_end.result c.in_ok-push.ensures.items c.in_ok-nodes.ensures
    (subst (λ (l : List ℕ). Decides c.has_end.result (HasEndNode c.args.graph.now l)) c.deref.ensures.value c.has_end.ensures)
    c.loop-number.invariant.many c.loop-number.invariant.each in
    record { many = m.0; each = m.1 }

pub returns : goal.returns
returns c =
    let over = c.loop-number-test.false in
    let most = c.loop-number.auto in
    record {
      many = (let many = c.loop-number.invariant.many in omega (arith, many, over, most));
      each = λ i s there. (let inside = slice_get_within c.args.states.now i s there in c.loop-number.invariant.each i s
          (omega (arith, inside, over)) there);
    }
