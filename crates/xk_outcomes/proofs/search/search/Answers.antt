use Rattle.std.proofs.Common.{◌∙◌, ◌<◌, length, ap, arith, refl, subst, sym}
use Rattle.xk_types.specs.Code.{ModuleValue}
use Rattle.xk_core.specs.Core.{CoreValue}
use Rattle.xk_outcomes.specs.Alikeness.{Alikeness, counted}
use Rattle.xk_outcomes.specs.Links.{AreLinked}
use Rattle.xk_outcomes.specs.Search.{AreExpanded, IsExpanded}
use Rattle.xk_outcomes.proofs.SearchLemmas.{expanded_more, longer}
use Rattle.xk_outcomes.proofs.search.search.Goals as goal

pub loop-next-init : goal.loop-next-init
loop-next-init c = record {
  start = refl;
  like = refl;
  grown = λ k x h. h;
  linked = λ h. h;
  expanded = λ k x less there. absurd (omega (arith, less));
  within = omega arith;
}

pub expand-requires-clause-footprints : goal.expand-requires-clause-footprints
expand-requires-clause-footprints c = c.requires ∙ sym (ap (λ (s : CoreValue). s.module_run) c.loop-next.invariant.start)

pub loop-next-preserved : goal.loop-next-preserved
loop-next-preserved c =
    let old = c.loop-next.all.all in
    let new = c.expand.new.all.all in
    let links = c.loop-next.links.items in
    let more = c.expand.new.links.items in
    let like = c.expand.new.all.like in
    let m = c.args.all.now.start.module_run in
    let at = c.loop-next.next in
    let before = c.loop-next-test.true in
    let many = c.len.ensures.count in
    let inside : at < length old = omega (arith, before, many) in
    let still = longer old new at c.expand.ensures.grown inside in
    let same_module = ap (λ (s : CoreValue). s.module_run) c.loop-next.invariant.start in
    record {
      start = c.expand.ensures.start ∙ c.loop-next.invariant.start;
      like = c.expand.ensures.like ∙ c.loop-next.invariant.like;
      grown = λ k x h. c.expand.ensures.grown k x (c.loop-next.invariant.grown k x h);
      linked = λ h. subst (λ (k : ModuleValue). AreLinked (counted like) k c.expand.new.all.ways new more) same_module
          (c.in_ok-expand.ensures.linked (subst (λ (k : ModuleValue). AreLinked (counted c.loop-next.all.like) k c.loop-next.all.ways old
          links) (sym same_module) (c.loop-next.invariant.linked h)));
      expanded = expanded_more m like old new links more at inside c.expand.ensures.grown c.expand.ensures.more
          (subst (λ (o : Alikeness). AreExpanded m o old links at) (sym c.expand.ensures.like) c.loop-next.invariant.expanded) (λ x there.
          subst (λ (k : ModuleValue). IsExpanded k like new more at x) same_module (c.in_ok-expand.ensures.expanded x there));
      within = omega (arith, still);
    }
