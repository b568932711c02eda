use Rattle.std.proofs.Common.{rules, ◌<◌, ◌-◌, ℕ, length, set, slice_index, refl, subst, sym, arith}
use Rattle.std.specs.BTreeSet.{BTreeSet}
use Rattle.xk_callgraph.specs.TopologicalOrder.{AreReady}
use Rattle.xk_callgraph.proofs.NumberingLemmas.{here_is}
use Rattle.xk_callgraph.proofs.ReachabilityLemmas.{set_other}
use Rattle.xk_callgraph.proofs.PendingCallLemmas.{times_below, taken_off, ready_more, ready_same}
use Rattle.xk_callgraph.proofs.topological_order.release.Goals as goal
use Rattle.xk_callgraph.proofs.topological_order.release.Goals.{then-awaited-j-eq0+in_ok-insert, else-awaited-j-eq0}

pub overflow_sub-awaited : goal.overflow_sub-awaited
overflow_sub-awaited c =
    let j = slice_index c.args.called.now c.loop-k.k in
    let a = c.loop-k.invariant.awaited j in
    let b = times_below (length c.args.called.now) c.args.called.now c.loop-k.k j c.loop-k-test.true refl in
    omega (arith, a, b, c.requires.counted j)

pub bounds-awaited-j-in-loop-k : goal.bounds-awaited-j-in-loop-k
bounds-awaited-j-in-loop-k c =
    let h = c.requires.within c.loop-k.k (slice_index c.args.called.now c.loop-k.k) (here_is c.args.called.now c.loop-k.k c.loop-k-test.true) in
    omega arith

pub offset_bounds-awaited-j-in-loop-k : goal.offset_bounds-awaited-j-in-loop-k
offset_bounds-awaited-j-in-loop-k c =
    let h = c.requires.within c.loop-k.k (slice_index c.args.called.now c.loop-k.k) (here_is c.args.called.now c.loop-k.k c.loop-k-test.true) in
    search rules

pub bounds-awaited-j-in-loop-k-2 : goal.bounds-awaited-j-in-loop-k-2
bounds-awaited-j-in-loop-k-2 c =
    let h = c.requires.within c.loop-k.k (slice_index c.args.called.now c.loop-k.k) (here_is c.args.called.now c.loop-k.k c.loop-k-test.true) in
    search rules

pub loop-k-preserved : goal.loop-k-preserved
loop-k-preserved c =
    let called = c.args.called.now in
    let awaited = c.loop-k.awaited in
    let j = slice_index called c.loop-k.k in
    let in_list = here_is called c.loop-k.k c.loop-k-test.true in
    let h : j < length awaited = (let b = c.requires.within c.loop-k.k j in_list in omega arith) in
    let below = times_below (length called) called c.loop-k.k j c.loop-k-test.true refl in
    let full : 0 < slice_index awaited j = omega (arith, c.loop-k.invariant.awaited j, below, c.requires.counted j) in
    let next = set awaited j (slice_index awaited j - 1) in
    record {
      awaited = taken_off awaited c.args.awaited.now called c.loop-k.k h full c.loop-k.invariant.awaited;
      ready = λ left old there.
          let before = c.loop-k.invariant.ready left old there in
          elim c.if-awaited-j-eq0.branch [
            | then-awaited-j-eq0+in_ok-insert w ↦
                subst (λ (s : BTreeSet ℕ). AreReady left next s) (sym w.ready-is)
                (ready_more left awaited next c.loop-k.ready w.insert.new.self j before w.in_ok-insert.ensures.updates (there c.loop-k.k j in_list)
                w.if-awaited-j-eq0.true (set_other awaited j (slice_index awaited j - 1)))
            | else-awaited-j-eq0 w ↦
                subst (λ (s : BTreeSet ℕ). AreReady left next s) (sym w.ready-is)
                (ready_same left awaited next c.loop-k.ready j before full w.if-awaited-j-eq0.false (set_other awaited j (slice_index awaited j - 1)))
          ];
    }
