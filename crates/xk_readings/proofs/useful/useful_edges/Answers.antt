use Rattle.std.proofs.Common.{◌≡◌, ◌∙◌, ◌+◌, ◌<◌, ℕ, List, get_or, slice_get, Some, true, false, ap, sym, subst, arith}
use Rattle.std.proofs.lemmas.Option.{slice_get_within}
use Rattle.xk_readings.specs.declared.edge.Edge.{Edge}
use Rattle.xk_readings.proofs.ListLemmas.{read}
use Rattle.xk_readings.proofs.UsefulLemmas.{all_dropped, all_kept, each_kept, no_edge}
use Rattle.xk_readings.proofs.useful.useful_edges.Goals.{then-useful-edge+in_ok-push, else-useful-edge}
use Rattle.xk_readings.proofs.useful.useful_edges.Goals as goal

pub bounds-useful-edge : goal.bounds-useful-edge
bounds-useful-edge c =
    let edges = c.args.edges.now in
    c.requires c.loop-edge.edge-index (get_or edges c.loop-edge.edge-index no_edge)
    (read edges c.loop-edge.edge-index no_edge c.loop-edge-test.true)

pub loop-edge-preserved : goal.loop-edge-preserved
loop-edge-preserved c =
    let edges = c.args.edges.now in
    let useful = c.args.useful.now in
    let at = c.loop-edge.edge-index in
    let e = get_or edges at no_edge in
    let there = read edges at no_edge c.loop-edge-test.true in
    let inside = c.requires at e there in
    let kept = c.loop-edge.kept.items in
    elim c.if-useful-edge.branch [
      | then-useful-edge+in_ok-push w ↦ (
          let one = ap (λ v. v.items) w.kept-is ∙ w.in_ok-push.ensures.items in
          let marked = read useful e.to false inside ∙ ap Some w.if-useful-edge.true in
          record {
            each = each_kept edges useful kept c.if-useful-edge.kept.items at e there one marked c.loop-edge.invariant.each;
            all = all_kept edges useful kept c.if-useful-edge.kept.items at e there one c.loop-edge.invariant.all;
          })
      | else-useful-edge w ↦ (
          let same = ap (λ v. v.items) w.kept-is in
          let unmarked = read useful e.to false inside ∙ ap Some w.if-useful-edge.false in
          record {
            each = subst (λ (l : List Edge). (i : ℕ) (f : Edge) → slice_get l i ≡ Some f
                → ((j : ℕ) × (slice_get edges j ≡ Some f)) × (slice_get useful f.to ≡ Some true)) (sym same)
                c.loop-edge.invariant.each;
            all = subst (λ (l : List Edge). (j : ℕ) (f : Edge) → j < at + 1 → slice_get edges j ≡ Some f
                → slice_get useful f.to ≡ Some true → (i : ℕ) × (slice_get l i ≡ Some f)) (sym same)
                (all_dropped edges useful kept kept at e there unmarked c.loop-edge.invariant.all);
          })
    ]

pub returns : goal.returns
returns c = record {
  each = c.loop-edge.invariant.each;
  all = λ j e there. (let over = c.loop-edge-test.false in let inside = slice_get_within c.args.edges.now j e there in
      c.loop-edge.invariant.all j e (omega (arith, over, inside)) there);
}
