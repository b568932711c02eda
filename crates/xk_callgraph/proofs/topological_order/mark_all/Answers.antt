use Rattle.std.proofs.Common.{◌≡◌, ◌<◌, ℕ, List, [], length, slice_get, Some, refl, subst, sym, arith}
use Rattle.xk_callgraph.specs.CallGraph.{adjacency, Reaches}
use Rattle.xk_callgraph.specs.TopologicalOrder.{IsSearch}
use Rattle.xk_callgraph.proofs.NumberingLemmas.{read_is}
use Rattle.xk_callgraph.proofs.ReachabilityLemmas.{search_none, search_done, search_all, within_full}
use Rattle.xk_callgraph.proofs.topological_order.mark_all.Goals as goal

pub loop-done-init : goal.loop-done-init
loop-done-init c =
    let self : Reaches (adjacency c.args.calls.now) c.args.start c.args.start = ([], refl) in
    record {
      search = c.in_ok-mark.ensures.search (adjacency c.args.calls.now) c.args.start 0
          (subst (λ (xs : List ℕ). IsSearch (adjacency c.args.calls.now) c.args.start c.args.seen.now xs 0) (sym c.new-reached.ensures.items)
          (search_none (adjacency c.args.calls.now) c.args.start c.args.seen.now c.requires.fresh))
          (omega arith) self;
      first = c.in_ok-mark.ensures.marked;
      done = omega arith;
    }

pub loop-done-preserved : goal.loop-done-preserved
loop-done-preserved c =
    let i = c.index-i.result.now in
    let h : c.loop-done.done < length c.loop-done.reached.items = omega (arith, c.len.ensures, c.loop-done.reached.ok) in
    let here : slice_get c.loop-done.reached.items c.loop-done.done ≡ Some i = read_is c.loop-done.reached.items c.loop-done.done i h c.index-i.ensures in
    let old = c.loop-done.invariant.search in
    let r = old.sound i (old.marked c.loop-done.done i here) in
    record {
      search = search_done (adjacency c.args.calls.now) c.args.start c.mark_called.new.seen c.mark_called.new.reached.items c.loop-done.done i
          (c.in_ok-mark_called.ensures.search c.args.start c.loop-done.done old (omega arith) r) (c.in_ok-mark_called.ensures.same c.loop-done.done i here)
          c.in_ok-mark_called.ensures.marked;
      first = c.in_ok-mark_called.ensures.more c.args.start c.loop-done.invariant.first;
      done = omega (arith, c.len.ensures, c.in_ok-mark_called.ensures.longer);
    }

pub mark_called-requires-clause-method : goal.mark_called-requires-clause-method
mark_called-requires-clause-method c =
    let i = c.index-i.result.now in
    let h : c.loop-done.done < length c.loop-done.reached.items = omega (arith, c.len.ensures, c.loop-done.reached.ok) in
    let here : slice_get c.loop-done.reached.items c.loop-done.done ≡ Some i = read_is c.loop-done.reached.items c.loop-done.done i h c.index-i.ensures in
    let w = within_full c.loop-done.seen i (c.loop-done.invariant.search.marked c.loop-done.done i here) in
    omega arith

pub loop-done-smaller : goal.loop-done-smaller
loop-done-smaller c = omega (arith, c.len.ensures, c.in_ok-mark_called.ensures.longer, c.in_ok-mark_called.ensures.left)

pub returns : goal.returns
returns c = search_all (adjacency c.args.calls.now) c.args.start c.loop-done.seen c.loop-done.reached.items c.loop-done.done c.loop-done.invariant.search
    (omega (arith, c.len.ensures, c.loop-done.reached.ok)) c.loop-done.invariant.first
