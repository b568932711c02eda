use Rattle.std.proofs.Common.{◌≡◌, ◌<◌, ℕ, List, length, set, slice_index, slice_get, subst, sym, Some, arith}
use Rattle.xk_callgraph.specs.CallGraph.{adjacency, IsCall}
use Rattle.xk_callgraph.proofs.NumberingLemmas.{zeros_set, lead_on, lead_same, length-adjacency, awaited_at}
use Rattle.xk_callgraph.proofs.numbering.walk_round.Goals as goal

pub loop-seen-smaller : goal.loop-seen-smaller
loop-seen-smaller c =
    let h : c.loop-seen.here < length c.loop-seen.seen = omega (arith, c.loop-seen.auto.seen, c.requires.unseen, c.requires.all, c.loop-seen.invariant.within) in
    let e = zeros_set c.loop-seen.seen c.loop-seen.here 1 h c.loop-seen.invariant.new (omega arith) in
    omega (arith, e)

pub loop-seen-preserved : goal.loop-seen-preserved
loop-seen-preserved c =
    let h : c.loop-seen.here < length c.loop-seen.seen = omega (arith, c.loop-seen.auto.seen, c.requires.unseen, c.requires.all, c.loop-seen.invariant.within) in
    let k = slice_index c.args.awaited.now c.loop-seen.here in
    let st = c.requires.stuck c.loop-seen.here c.loop-seen.invariant.within c.loop-seen.invariant.none in
    let j = slice_index c.called_by.result.now k in
    let w = awaited_at c.called_by.result.now k st.0 (subst (λ (xs : List ℕ). slice_get xs k ≡ Some st.0) (sym c.called_by.ensures) st.1) in
    let call : IsCall (adjacency c.args.calls.now) c.loop-seen.here k j = subst (λ (n : ℕ). IsCall (adjacency c.args.calls.now) c.loop-seen.here k n) (sym w) st.1 in
    record {
      within = (let b = c.requires.within c.loop-seen.here k j call in omega (arith, b, length-adjacency c.args.calls.now, c.requires.all));
      none = subst (λ (n : ℕ). slice_index c.args.numbers.now n ≡ 0) (sym w) st.2;
      new = c.if-seen-next-ne0.false;
      lead = lead_on (adjacency c.args.calls.now) (set c.loop-seen.seen c.loop-seen.here 1) c.loop-seen.here j k call
          (lead_same (adjacency c.args.calls.now) c.loop-seen.seen c.loop-seen.here h c.loop-seen.invariant.lead);
    }
