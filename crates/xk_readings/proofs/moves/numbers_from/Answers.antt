use Rattle.std.proofs.Common.{◌≡◌, ℤ, get_or, refl, Some, arith}
use Rattle.std.proofs.lemmas.Option.{slice_get_within}
use Rattle.xk_readings.specs.declared.edge.Edge.{Edge}
use Rattle.xk_readings.specs.Graphs.{HasEdge}
use Rattle.xk_readings.specs.Sets.{Has}
use Rattle.xk_readings.proofs.ListLemmas.{read}
use Rattle.xk_readings.proofs.MoveLemmas.{node_later, printed_from_more}
use Rattle.xk_readings.proofs.moves.numbers_from.Goals as goal

pub loop-node-preserved : goal.loop-node-preserved
loop-node-preserved c =
    let nodes = c.args.nodes.now in
    let at = c.loop-node.node-index in
    let is = c.loop-node.invariant in
    let new = c.add_numbers.new.numbers.items in
    record {
      different = c.add_numbers.ensures.different is.different;
      there = λ j k e x less h. node_later nodes at 0
          (λ m. (e : Edge) (x : ℤ) → HasEdge c.args.graph.now e → e.from ≡ m → e.printed ≡ Some x → Has new x) c.loop-node-test.true
          c.in_ok-add_numbers.ensures.there
          (λ i m before h e x has begins prints. c.add_numbers.ensures.kept x (is.there i m e x before h has begins prints)) j k less h e x;
      only = printed_from_more c.args.graph.now nodes at (get_or nodes at 0) c.loop-node.numbers.items new
          (read nodes at 0 c.loop-node-test.true) is.only c.add_numbers.ensures.only;
    }

pub returns-clause-there : goal.returns-clause-there
returns-clause-there c e x has node prints =
    let inside = slice_get_within c.args.nodes.now node.0 e.from node.1 in
    let over = c.loop-node-test.false in
    c.loop-node.invariant.there node.0 e.from e x (omega (arith, inside, over)) node.1 has refl prints
