use Rattle.std.proofs.Common.{◌≡◌, ℕ, List, slice_index, length, ap, sym, ◌∙◌, arith}
use Rattle.xk_callgraph.specs.CallGraph.{adjacency}
use Rattle.xk_callgraph.specs.TopologicalOrder.{pending, times}
use Rattle.xk_callgraph.proofs.NumberingLemmas.{length-adjacency}
use Rattle.xk_callgraph.proofs.PendingCallLemmas.{pending_on, pending_off, times_at_most}
use Rattle.xk_callgraph.proofs.topological_order.count_callers.Goals as goal
use Rattle.xk_callgraph.proofs.topological_order.count_callers.Goals.{then-left-i-ne0, else-left-i-ne0}

pub loop-i-preserved : goal.loop-i-preserved
loop-i-preserved c = λ j. elim c.if-left-i-ne0.branch [
  | then-left-i-ne0 w ↦
      let new = ap (λ (xs : List ℕ). slice_index xs j) w.awaited-is in
      let row = ap (λ (xs : List ℕ). times (length xs) xs j) w.called_by.ensures in
      let more = pending_on c.loop-i.i (adjacency c.args.calls.now) c.args.left.now j w.if-left-i-ne0.true in
      let most = times_at_most (length w.called_by.result.now) w.called_by.result.now j in
      let short = w.called_by.type_inv.0 in
      (omega (arith, new, row, more, w.count_called.ensures j, (c.loop-i.invariant j).0), omega (arith, new, w.count_called.ensures j, (c.loop-i.invariant j).1, most, short))
  | else-left-i-ne0 w ↦
      let new = ap (λ (xs : List ℕ). slice_index xs j) w.awaited-is in
      let more = pending_off c.loop-i.i (adjacency c.args.calls.now) c.args.left.now j w.if-left-i-ne0.false in
      (omega (arith, new, more, (c.loop-i.invariant j).0), omega (arith, new, (c.loop-i.invariant j).1))
]

pub returns : goal.returns
returns c = λ j.
    let n : length (adjacency c.args.calls.now) ≡ c.loop-i.i = omega (arith, length-adjacency c.args.calls.now) in
    (c.loop-i.invariant j).0 ∙ ap (λ m. pending m (adjacency c.args.calls.now) c.args.left.now j) (sym n)
