use Rattle.std.proofs.Common.{ℕ, slice_index, subst}
use Rattle.xk_callgraph.specs.CallGraph.{adjacency, Reaches}
use Rattle.xk_callgraph.proofs.NumberingLemmas.{reaches_on, call_at}
use Rattle.xk_callgraph.proofs.numbering.add_called.Goals as goal

pub returns-then-n-wanted-clause-found : goal.returns-then-n-wanted-clause-found
returns-then-n-wanted-clause-found c = λ _ start r.
    let call = call_at (adjacency c.args.calls.now) c.args.from c.loop-k.k c.called_by-called.result.now c.called_by-called.ensures c.loop-k-test.true in
    subst (λ (n : ℕ). Reaches (adjacency c.args.calls.now) start n) c.if-n-wanted.true
    (reaches_on (adjacency c.args.calls.now) start c.args.from (slice_index c.called_by-called.result.now c.loop-k.k) c.loop-k.k r call)

pub loop-k-preserved : goal.loop-k-preserved
loop-k-preserved c = λ start old r.
    let call = call_at (adjacency c.args.calls.now) c.args.from c.loop-k.k c.called_by-called.result.now c.called_by-called.ensures c.loop-k-test.true in
    c.in_ok-add.ensures (adjacency c.args.calls.now) start (c.loop-k.invariant start old r)
    (reaches_on (adjacency c.args.calls.now) start c.args.from (slice_index c.called_by-called.result.now c.loop-k.k) c.loop-k.k r call)
