use Rattle.std.proofs.Common.{◌≡◌, ◌∙◌, ◌++◌, ◌∷◌, [], ◌<◌, ℕ, ℤ, List, length, get_or, slice_get, Some, ap, sym, subst, arith}
use Rattle.std.proofs.lemmas.Option.{slice_get_within}
use Rattle.xk_readings.specs.declared.edge.Edge.{Edge}
use Rattle.xk_readings.specs.declared.branches.Branch.{Branch}
use Rattle.xk_readings.specs.Graphs.{HasEdge}
use Rattle.xk_readings.specs.Ways.{at as at_way}
use Rattle.xk_readings.specs.Branches.{HasBranch, IsBranch}
use Rattle.xk_readings.proofs.BranchLemmas.{branch_last, branch_stays, each_branch, has_branch, made, none_made, one_later}
use Rattle.xk_readings.proofs.ListLemmas.{read}
use Rattle.xk_readings.proofs.UsefulLemmas.{no_edge}
use Rattle.xk_readings.proofs.branches.add_branches.Goals.{in-Some+in_ok-push, in_default}
use Rattle.xk_readings.proofs.branches.add_branches.Goals as goal

pub loop-edge-preserved : goal.loop-edge-preserved
loop-edge-preserved c =
    let g = c.args.graph.now in
    let all = c.args.ways.now.all in
    let edges = c.edges_from-edge-items.result.now in
    let at = c.loop-edge.edge-index in
    let e = get_or edges at no_edge in
    let there = read edges at no_edge c.loop-edge-test.true in
    let known = c.edges_from-edge-items.ensures.each at e there in
    let branches = c.loop-edge.branches.items in
    let more = c.match-branch_of.branches.items in
    elim c.match-branch_of.branch [
      | in-Some+in_ok-push w ↦ (
          let b = w.in-Some.branch in
          let made_of = made c.args.before e b w.in-Some.ensures in
          let one : more ≡ branches ++ b ∷ [] = ap (λ v. v.items) w.branches-is ∙ w.in_ok-push.ensures.items in
          let is : IsBranch g all b = record {
            before = subst (λ m. m < length all) made_of.1 c.requires;
            there = subst (HasEdge g) made_of.0 known.0;
            from = ap (λ (z : Edge). z.from) (sym made_of.0) ∙ known.1 ∙ c.node.ensures ∙ ap (λ m. (at_way all m).node) made_of.1;
            prints = ap (λ (z : Edge). z.printed) (sym made_of.0) ∙ made_of.2;
          } in
          record {
            kept = λ i d h. branch_stays g all branches more b one i d (c.loop-edge.invariant.kept i d h);
            each = each_branch g all branches more b one c.args.before (length c.args.branches.now.items) is
                (sym made_of.1) c.loop-edge.invariant.each;
            there = λ j f x less h. one_later edges at e there (λ (z : Edge). (x : ℤ) → z.printed ≡ Some x → HasBranch more z)
                (λ x prints. (length branches, b, branch_last g all branches more b one, sym made_of.0))
                (λ i z before h x prints. has_branch g all branches more b one z (c.loop-edge.invariant.there i z x before h prints)) j f
                less h x;
          })
      | in_default w ↦ (
          let same : more ≡ branches = ap (λ v. v.items) w.branches-is in
          let stays : (i : ℕ) (d : Branch) → slice_get branches i ≡ Some d
          → slice_get more i ≡ Some d = λ i d h. ap (λ (l : List Branch). slice_get l i) same ∙ h in
          record {
            kept = λ i d h. stays i d (c.loop-edge.invariant.kept i d h);
            each = λ i d h. c.loop-edge.invariant.each i d (ap (λ (l : List Branch). slice_get l i) (sym same) ∙ h);
            there = λ j f x less h. one_later edges at e there (λ (z : Edge). (x : ℤ) → z.printed ≡ Some x → HasBranch more z)
                (λ x prints. absurd (none_made c.args.before e w.in_default.ensures x prints))
                (λ i z before h x prints. (let was = c.loop-edge.invariant.there i z x before h prints in
                (was.0, was.1, stays was.0 was.1 was.2, was.3))) j f less h x;
          })
    ]

pub returns : goal.returns
returns c = record {
  kept = c.loop-edge.invariant.kept;
  each = c.loop-edge.invariant.each;
  there = λ e x has begins prints.
      let edges = c.edges_from-edge-items.result.now in
      let h = c.edges_from-edge-items.ensures.all e has (begins ∙ sym c.node.ensures) in
      let inside = slice_get_within edges h.0 e h.1 in
      let over = c.loop-edge-test.false in
      c.loop-edge.invariant.there h.0 e x (omega (arith, inside, over)) h.1 prints;
}
