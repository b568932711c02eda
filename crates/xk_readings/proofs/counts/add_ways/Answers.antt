use Rattle.std.proofs.Common.{◌∙◌, List, get_or, set, subst, sym, take}
use Rattle.std.proofs.lemmas.List.{length-set, take_more}
use Rattle.xk_readings.specs.declared.edge.Edge.{Edge}
use Rattle.xk_readings.specs.Paths.{AreWaysOf, Path, all_extended}
use Rattle.xk_readings.proofs.CountLemmas.{extended_more, ways_more}
use Rattle.xk_readings.proofs.ListLemmas.{read}
use Rattle.xk_readings.proofs.UsefulLemmas.{no_edge}
use Rattle.xk_readings.proofs.counts.add_ways.Goals as goal

pub loop-e-preserved : goal.loop-e-preserved
loop-e-preserved c =
    let moves = c.args.moves.now in
    let at = c.loop-e.e-index in
    let e = get_or moves at no_edge in
    let next = c.loop-e.next in
    let inside = c.requires.between at e (read moves at no_edge c.loop-e-test.true) in
    let many = c.loop-e.invariant.many ∙ c.requires.many in
    record {
      many = length-set next e.to c.sum.result ∙ c.loop-e.invariant.many;
      ways = λ paths are.
          subst (λ (l : List Edge). AreWaysOf (all_extended l paths) (set next e.to c.sum.result)) (sym (take_more moves at no_edge c.loop-e-test.true))
          (subst (λ (l : List Path). AreWaysOf l (set next e.to c.sum.result)) (sym (extended_more (take at moves) e paths))
          (ways_more (all_extended (take at moves) paths) paths e c.args.now.now next c.sum.result (c.loop-e.invariant.ways paths are) are many inside.0 inside.1
          c.sum.ensures));
    }
