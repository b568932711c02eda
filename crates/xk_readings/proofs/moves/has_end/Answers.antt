use Rattle.std.proofs.Common.{◌≡◌, ◌∙◌, get_or, refl, sym, slice_get, Some, false, true, arith}
use Rattle.std.proofs.lemmas.Bool.{false≢true, true≢false}
use Rattle.std.proofs.lemmas.Option.{same_Some, slice_get_within}
use Rattle.xk_readings.proofs.ListLemmas.{read}
use Rattle.xk_readings.proofs.MoveLemmas.{node_later}
use Rattle.xk_readings.proofs.moves.has_end.Goals as goal

pub may_end-requires : goal.may_end-requires
may_end-requires c =
    let nodes = c.args.nodes.now in
    let at = c.loop-node.node-index in
    c.requires (get_or nodes at 0) (at, read nodes at 0 c.loop-node-test.true)

pub returns-then-may_end : goal.returns-then-may_end
returns-then-may_end c =
    let nodes = c.args.nodes.now in
    let at = c.loop-node.node-index in
    (λ _. (get_or nodes at 0, (at, read nodes at 0 c.loop-node-test.true), c.if-may_end.ensures), λ _. refl)

pub loop-node-preserved : goal.loop-node-preserved
loop-node-preserved c =
    node_later c.args.nodes.now c.loop-node.node-index 0 (λ k. slice_get c.args.graph.now.ends k ≡ Some false) c.loop-node-test.true
    c.if-may_end.ensures c.loop-node.invariant

pub returns : goal.returns
returns c = (
  λ h. absurd (false≢true h),
  λ h.
      let inside = slice_get_within c.args.nodes.now h.1.0 h.0 h.1.1 in
      let over = c.loop-node-test.false in
      absurd (true≢false (same_Some true false (sym h.2 ∙ c.loop-node.invariant h.1.0 h.0 (omega (arith, inside, over)) h.1.1))),
)
