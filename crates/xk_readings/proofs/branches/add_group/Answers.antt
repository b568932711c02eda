use Rattle.std.proofs.Common.{◌≡◌, ◌∙◌, ℕ, ◌-◌, ◌<◌, ◌≤◌, ◌⊎◌, inl, inr, length, get_or, slice_get, sym, ap, subst, refl, arith}
use Rattle.std.proofs.lemmas.Bool.{cases_lt, false≢true}
use Rattle.std.proofs.lemmas.Option.{same_Some}
use Rattle.xk_readings.specs.declared.branches.Branch.{Branch}
use Rattle.xk_readings.specs.Branches.{IsAlong}
use Rattle.xk_readings.specs.Ways.{HasStanding, along, at}
use Rattle.xk_readings.proofs.BranchLemmas.{each_more, no_branch, one_earlier}
use Rattle.xk_readings.proofs.GrowthLemmas.{kept_grown, many_grown, standing_kept}
use Rattle.xk_readings.proofs.ListLemmas.{read}
use Rattle.xk_readings.proofs.branches.add_group.Goals as goal

pub loop-at-preserved : goal.loop-at-preserved
loop-at-preserved c =
    let branches = c.args.branches.now in
    let place = c.loop-at.at - 1 in
    let b = get_or branches place no_branch in
    let last = get_or branches (c.args.end - 1) no_branch in
    let old = c.args.ways.now.all in
    let now = c.loop-at.ways.all in
    let new = c.lengthen.new.self.all in
    let some = c.loop-at-test.true in
    let most = c.loop-at.invariant.within in
    let end = c.requires.within in
    let there = read branches place no_branch (omega (arith, some, most, end)) in
    let before = (c.requires.before place b there).0 in
    let number = c.if-not-print_same.ensures.0 refl in
    let longer = along b.edge (at now b.before) in
    let grows = c.lengthen.ensures.all in
    let many = c.loop-at.invariant.many in
    let more = many_grown now new longer grows in
    let since = c.lengthen.ensures.since ∙ c.loop-at.invariant.since in
    record {
      within = omega (arith, some, most);
      since = since;
      room = c.lengthen.ensures.room ∙ c.loop-at.invariant.room;
      many = omega (arith, many, more);
      kept = λ k s h. kept_grown now new longer grows k s (c.loop-at.invariant.kept k s h);
      each = each_more branches old now new place b last.number there number before c.loop-at.invariant.kept grows c.loop-at.invariant.each;
      same = one_earlier branches place c.args.end b there (λ (f : Branch). f.number ≡ last.number) number
          (λ i f from. c.loop-at.invariant.same i f (omega (arith, some, from)));
      there = one_earlier branches place c.args.end b there (λ (f : Branch). HasStanding new (length old) f.edge.to)
          (subst (λ m. HasStanding new m b.edge.to) since c.in_ok-lengthen.ensures.there)
          (λ i f from less h. standing_kept now new (length old) f.edge.to (kept_grown now new longer grows)
          (c.loop-at.invariant.there i f (omega (arith, some, from)) less h));
    }

pub returns-then-not-print_same : goal.returns-then-not-print_same
returns-then-not-print_same c =
    let branches = c.args.branches.now in
    let start = c.loop-at.at in
    let b = get_or branches (start - 1) no_branch in
    let last = get_or branches (c.args.end - 1) no_branch in
    let is = c.loop-at.invariant in
    let most = is.within in
    let some = c.loop-at-test.true in
    let inside = c.requires.within in
    let differ : b.number ≡ last.number → ⊥ = λ same. false≢true (c.if-not-print_same.ensures.1 same) in
    let less : start < c.args.end = below start c.args.end most (λ same. differ
    (ap (λ k. (get_or branches (k - 1) no_branch).number) same)) in
    let here : start ≤ start = omega arith in
    record {
      less = less;
      room = is.room;
      many = is.many;
      kept = is.kept;
      each = λ k s d from there first.
          subst (λ x. IsAlong branches c.args.ways.now.all x s) (sym (is.same start d here less first)) (is.each k s from there);
      same = λ i d e from before at_i at_start. is.same i d from before at_i ∙ sym (is.same start e here less at_start);
      other = λ i d e next at_i at_start same.
          let place : i ≡ start - 1 = omega (arith, next) in
          let at_place = ap (slice_get branches) (sym place) ∙ at_i in
          let one = same_Some b d (sym (read branches (start - 1) no_branch (omega (arith, some, most, inside))) ∙ at_place) in
          differ (ap (λ (z : Branch). z.number) one ∙ same ∙ is.same start e here less at_start);
      there = is.there;
    }
  where
    below : (m n : ℕ) → m ≤ n → (m ≡ n → ⊥) → m < n
    below m n most other = by (cases_lt m n)
      where
        by : (m < n) ⊎ (n ≤ m) → m < n
        by (inl less) = less
        by (inr least) = absurd (other (omega (arith, most, least)))
