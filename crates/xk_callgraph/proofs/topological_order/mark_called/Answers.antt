use Rattle.std.proofs.Common.{◌≡◌, ◌<◌, ℕ, List, slice_get, slice_index, Some, inl, inr, subst, sym, ap, ◌∙◌, arith}
use Rattle.std.proofs.lemmas.Bool.{cases_eq}
use Rattle.std.proofs.lemmas.Option.{slice_get_within}
use Rattle.xk_callgraph.specs.CallGraph.{adjacency}
use Rattle.xk_callgraph.proofs.NumberingLemmas.{call_at, reaches_on, awaited_at}
use Rattle.xk_callgraph.proofs.topological_order.mark_called.Goals as goal

pub loop-k-preserved : goal.loop-k-preserved
loop-k-preserved c =
    let row = c.called_by-called.result.now in
    let new = slice_index row c.loop-k.k in
    let call = call_at (adjacency c.args.calls.now) c.args.i c.loop-k.k row c.called_by-called.ensures c.loop-k-test.true in
    record {
      marked = λ k j below e. elim (cases_eq k c.loop-k.k) [
        | inl same ↦
            let this : new ≡ j = ap (slice_index row) (sym same) ∙ awaited_at row k j e in
            subst (λ (x : ℕ). 0 < slice_index c.mark.new.seen x) this c.in_ok-mark.ensures.marked
        | inr other ↦ c.in_ok-mark.ensures.more j (c.loop-k.invariant.marked k j (omega arith) e)
      ];
      more = λ j m. c.in_ok-mark.ensures.more j (c.loop-k.invariant.more j m);
      same = λ n m e. c.in_ok-mark.ensures.same n m (c.loop-k.invariant.same n m e);
      left = omega (arith, c.in_ok-mark.ensures.left);
      longer = omega (arith, c.in_ok-mark.ensures.longer);
      search = λ start done old le r.
          c.in_ok-mark.ensures.search (adjacency c.args.calls.now) start done (c.loop-k.invariant.search start done old le r) (omega (arith, le))
          (reaches_on (adjacency c.args.calls.now) start c.args.i new c.loop-k.k r call);
    }

pub returns-clause-marked : goal.returns-clause-marked
returns-clause-marked c = λ k j call.
    let e : slice_get c.called_by-called.result.now k ≡ Some j = subst (λ (xs : List ℕ). slice_get xs k ≡ Some j) (sym c.called_by-called.ensures) call in
    let h = slice_get_within c.called_by-called.result.now k j e in
    c.loop-k.invariant.marked k j (omega arith) e
