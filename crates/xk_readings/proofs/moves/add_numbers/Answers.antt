use Rattle.std.proofs.Common.{◌≡◌, ℤ, get_or, Some, arith}
use Rattle.std.proofs.lemmas.Option.{slice_get_within}
use Rattle.xk_readings.specs.declared.edge.Edge.{Edge}
use Rattle.xk_readings.specs.Sets.{Has}
use Rattle.xk_readings.proofs.BranchLemmas.{one_later}
use Rattle.xk_readings.proofs.ListLemmas.{read}
use Rattle.xk_readings.proofs.MoveLemmas.{printed_more}
use Rattle.xk_readings.proofs.UsefulLemmas.{no_edge}
use Rattle.xk_readings.proofs.moves.add_numbers.Goals as goal

pub returns-in_err-add_printed-clause-only : goal.returns-in_err-add_printed-clause-only
returns-in_err-add_printed-clause-only c =
    let edges = c.edges_from-edge-items.result.now in
    let at = c.loop-edge.edge-index in
    let e = get_or edges at no_edge in
    let known = c.edges_from-edge-items.ensures.each at e (read edges at no_edge c.loop-edge-test.true) in
    printed_more c.args.graph.now c.args.node c.args.numbers.now.items c.loop-edge.numbers.items c.add_printed.new.numbers.items e known.0
    known.1 c.loop-edge.invariant.only c.add_printed.ensures.only

pub loop-edge-preserved : goal.loop-edge-preserved
loop-edge-preserved c =
    let edges = c.edges_from-edge-items.result.now in
    let at = c.loop-edge.edge-index in
    let e = get_or edges at no_edge in
    let known = c.edges_from-edge-items.ensures.each at e (read edges at no_edge c.loop-edge-test.true) in
    let is = c.loop-edge.invariant in
    let new = c.add_printed.new.numbers.items in
    record {
      different = λ d. c.add_printed.ensures.different (is.different d);
      kept = λ x h. c.add_printed.ensures.kept x (is.kept x h);
      there = λ j f x less h. one_later edges at e (read edges at no_edge c.loop-edge-test.true)
          (λ (z : Edge). (x : ℤ) → z.printed ≡ Some x → Has new x) c.in_ok-add_printed.ensures.there
          (λ i z before h x prints. c.add_printed.ensures.kept x (is.there i z x before h prints)) j f less h x;
      only = printed_more c.args.graph.now c.args.node c.args.numbers.now.items c.loop-edge.numbers.items new e known.0 known.1 is.only
          c.add_printed.ensures.only;
    }

pub returns-clause-there : goal.returns-clause-there
returns-clause-there c e x has begins prints =
    let edges = c.edges_from-edge-items.result.now in
    let h = c.edges_from-edge-items.ensures.all e has begins in
    let inside = slice_get_within edges h.0 e h.1 in
    let over = c.loop-edge-test.false in
    c.loop-edge.invariant.there h.0 e x (omega (arith, inside, over)) h.1 prints
