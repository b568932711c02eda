use Rattle.std.proofs.Common.{◌≡◌, ◌≢◌, ◌<◌, ℕ, List, length, set, slice_get, Some, subst, ap, arith}
use Rattle.xk_callgraph.specs.CallGraph.{adjacency, IsCall}
use Rattle.xk_callgraph.specs.TopologicalOrder.{times, pending}
use Rattle.xk_callgraph.proofs.NumberingLemmas.{length-adjacency}
use Rattle.xk_callgraph.proofs.ReachabilityLemmas.{set_other, within_full}
use Rattle.xk_callgraph.proofs.PendingCallLemmas.{pending_less, pending_some}
use Rattle.xk_callgraph.proofs.topological_order.place.Goals as goal

pub release-requires-clause-counted : goal.release-requires-clause-counted
release-requires-clause-counted c = λ j.
    let calls = adjacency c.args.calls.now in
    let b = within_full c.args.left.now c.args.i c.requires.left in
    let h : c.args.i < length calls = omega (arith, length-adjacency c.args.calls.now) in
    let less = pending_less (length calls) calls c.args.left.now c.args.i j h c.requires.left in
    let row = ap (λ (xs : List ℕ). times (length xs) xs j) c.called_by.ensures in
    omega (arith, less, row, c.requires.counts j)

pub returns-clause-counts : goal.returns-clause-counts
returns-clause-counts c = λ j.
    let calls = adjacency c.args.calls.now in
    let b = within_full c.args.left.now c.args.i c.requires.left in
    let h : c.args.i < length calls = omega (arith, length-adjacency c.args.calls.now) in
    let less = pending_less (length calls) calls c.args.left.now c.args.i j h c.requires.left in
    let row = ap (λ (xs : List ℕ). times (length xs) xs j) c.called_by.ensures in
    omega (arith, less, row, c.requires.counts j, c.in_ok-release.ensures.awaited j)

pub returns-clause-ready : goal.returns-clause-ready
returns-clause-ready c =
    let calls = adjacency c.args.calls.now in
    let b = within_full c.args.left.now c.args.i c.requires.left in
    let h : c.args.i < length calls = omega (arith, length-adjacency c.args.calls.now) in
    c.in_ok-release.ensures.ready (set c.args.left.now c.args.i 0) c.requires.ready (λ k j e.
    let call : IsCall calls c.args.i k j = subst (λ (xs : List ℕ). slice_get xs k ≡ Some j) c.called_by.ensures e in
    let there = c.requires.called k j call in
    let own = pending_some (length calls) calls c.args.left.now c.args.i k j h c.requires.left call in
    let other : j ≢ c.args.i = λ same. let f = ap (pending (length calls) calls c.args.left.now) same in absurd (omega (arith, c.requires.counts c.args.i)) in
    let kept = set_other c.args.left.now c.args.i 0 j other in
    omega arith)
