use Rattle.std.proofs.Common.{◌≡◌, ◌∙◌, ℕ, true, length, ap, arith, refl, subst, sym}
use borrow.Author.Count.{below_more}
use Rattle.xk_outcomes.specs.Alikeness.{Alikeness}
use Rattle.xk_outcomes.specs.Found.{FoundValue}
use Rattle.xk_outcomes.specs.Ways.{is_tried}
use Rattle.xk_outcomes.specs.Search.{HasAfter}
use Rattle.xk_outcomes.proofs.SearchLemmas.{after_grown, after_all}
use Rattle.xk_outcomes.proofs.search.look_by.Goals as goal

pub loop-a-init : goal.loop-a-init
loop-a-init c = record {
  start = refl;
  like = refl;
  grown = λ k x h. h;
  more = λ k x h. h;
  linked = λ h. h;
  after = λ a less. absurd (omega (arith, less));
}

pub loop-a-preserved : goal.loop-a-preserved
loop-a-preserved c =
    let here = c.args.here.now in
    let m = here.core.module_run in
    let like = c.try_one.new.all.like in
    let old = c.loop-a.all.all in
    let new = c.try_one.new.all.all in
    let links = c.loop-a.links.items in
    let more = c.try_one.new.links.items in
    let set = c.args.members.now in
    record {
      start = c.try_one.ensures.start ∙ c.loop-a.invariant.start;
      like = c.try_one.ensures.like ∙ c.loop-a.invariant.like;
      grown = λ k x h. c.try_one.ensures.grown k x (c.loop-a.invariant.grown k x h);
      more = λ k x h. c.try_one.ensures.more k x (c.loop-a.invariant.more k x h);
      linked = λ h. c.in_ok-try_one.ensures.linked (c.loop-a.invariant.linked h);
      after = below_more (λ (a : ℕ). is_tried set a ≡ true → HasAfter m like new more c.args.number here a) c.loop-a.a
          (λ a less tried. after_grown m like old new links more c.args.number here a c.try_one.ensures.grown c.try_one.ensures.more
          (subst (λ (o : Alikeness). HasAfter m o old links c.args.number here a) (sym c.try_one.ensures.like) (c.loop-a.invariant.after a less tried)))
          c.in_ok-try_one.ensures.after;
    }

pub returns-clause-after : goal.returns-clause-after
returns-clause-after c =
    let here = c.args.here.now in
    let same : length c.here.inside.core.world.activities ≡ length here.core.world.activities = ap (λ (x : FoundValue). length x.core.world.activities) c.here.view_is in
    let many = c.activities-a-end.ensures.count in
    let over = c.loop-a-test.false in
    after_all here.core.module_run c.loop-a.all.like c.loop-a.all.all c.loop-a.links.items c.args.number here (is_tried c.args.members.now) c.loop-a.a c.loop-a.invariant.after
    (omega (arith, same, many, over))
