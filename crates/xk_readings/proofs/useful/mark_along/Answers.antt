use Rattle.std.proofs.Common.{◌-◌, true, false, not, get_or, ap, arith}
use Rattle.std.specs.Prelude.{count_by}
use Rattle.std.proofs.lemmas.Bool.{true≢false}
use Rattle.xk_readings.specs.Graphs.{graph}
use Rattle.xk_readings.proofs.ListLemmas.{read}
use Rattle.xk_readings.proofs.UsefulLemmas.{edge_within, followed_more, marked_fewer, marked_kept, marked_readable, no_edge}
use Rattle.xk_readings.proofs.useful.mark_along.Goals as goal

pub mark-requires-clause-from : goal.mark-requires-clause-from
mark-requires-clause-from c =
    let edges = c.args.edges.now in
    let some = c.loop-at-test.true in
    let most = c.loop-at.invariant.within in
    let is = edge_within edges c.args.ends.now (c.loop-at.at - 1) (get_or edges (c.loop-at.at - 1) no_edge) c.requires.within
    (read edges (c.loop-at.at - 1) no_edge (omega (arith, some, most))) in
    let from = is.0 in
    let many = c.requires.many in
    let same = c.loop-at.auto.useful in
    omega (arith, from, many, same)

pub mark-requires-clause-to : goal.mark-requires-clause-to
mark-requires-clause-to c =
    let edges = c.args.edges.now in
    let some = c.loop-at-test.true in
    let most = c.loop-at.invariant.within in
    let is = edge_within edges c.args.ends.now (c.loop-at.at - 1) (get_or edges (c.loop-at.at - 1) no_edge) c.requires.within
    (read edges (c.loop-at.at - 1) no_edge (omega (arith, some, most))) in
    let to = is.1 in
    let many = c.requires.many in
    let same = c.loop-at.auto.useful in
    omega (arith, to, many, same)

pub loop-at-preserved-then-mark : goal.loop-at-preserved-then-mark
loop-at-preserved-then-mark c =
    let edges = c.args.edges.now in
    let g = graph edges c.args.ends.now in
    let at = c.loop-at.at - 1 in
    let e = get_or edges at no_edge in
    let old = c.loop-at.useful in
    let new = c.mark.new.useful in
    let some = c.loop-at-test.true in
    let most = c.loop-at.invariant.within in
    let there = read edges at no_edge (omega (arith, some, most)) in
    let fewer = marked_fewer g e old new c.if-mark.ensures in
    let before = c.loop-at.invariant.most in
    record {
      within = omega (arith, some, most);
      readable = marked_readable g e old new true c.if-mark.ensures (at, there) c.loop-at.invariant.readable;
      kept = λ k h. marked_kept g e old new true c.if-mark.ensures k (c.loop-at.invariant.kept k h);
      followed = λ no_more. absurd (true≢false no_more);
      fewer = λ _. omega (arith, fewer, before);
      most = omega (arith, fewer, before);
    }

pub loop-at-preserved : goal.loop-at-preserved
loop-at-preserved c =
    let edges = c.args.edges.now in
    let g = graph edges c.args.ends.now in
    let at = c.loop-at.at - 1 in
    let e = get_or edges at no_edge in
    let old = c.loop-at.useful in
    let new = c.mark.new.useful in
    let some = c.loop-at-test.true in
    let most = c.loop-at.invariant.within in
    let there = read edges at no_edge (omega (arith, some, most)) in
    let same = ap (count_by not) c.if-mark.ensures.0 in
    let before = c.loop-at.invariant.most in
    record {
      within = omega (arith, some, most);
      readable = marked_readable g e old new false c.if-mark.ensures (at, there) c.loop-at.invariant.readable;
      kept = λ k h. marked_kept g e old new false c.if-mark.ensures k (c.loop-at.invariant.kept k h);
      followed = λ no_more. followed_more edges at e old new c.if-mark.ensures there
          (λ j f from. c.loop-at.invariant.followed no_more j f (omega (arith, some, from)));
      fewer = λ more. (let less = c.loop-at.invariant.fewer more in omega (arith, less, same));
      most = omega (arith, same, before);
    }

pub returns-clause-followed : goal.returns-clause-followed
returns-clause-followed c no_more j e = c.loop-at.invariant.followed no_more j e (omega arith)
