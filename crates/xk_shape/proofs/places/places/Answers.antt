-- one place more
use Rattle.std.proofs.Common.{◌≡◌, length, ap, ◌∙◌, arith, subst}
use Rattle.xk_types.specs.Code.{UnitValue}
use Rattle.xk_shape.specs.Nesting.{AreNestedBelow}
use Rattle.xk_shape.specs.Places.{LiesSo}
use Rattle.xk_shape.proofs.NestingLemmas.{nested_all}
use Rattle.xk_shape.proofs.PlaceLemmas.{place_first, below_none}
use Rattle.xk_shape.proofs.TableListLemmas.{each_of_none, each_more, long_more}
use Rattle.xk_shape.proofs.places.places.Goals as goal

pub loop-at-init : goal.loop-at-init
loop-at-init c = (ap length c.new-found.ensures.items, each_of_none (LiesSo c.args.u.now) c.new-found.ensures.items, place_first c.args.u.now, below_none c.args.u.now)

pub behind-requires-clause-known : goal.behind-requires-clause-known
behind-requires-clause-known c =
    each_more (LiesSo c.args.u.now) c.loop-at.at c.loop-at.found.items c.deref.result.now c.loop-at.here (c.deref.ensures.value ∙ c.in_ok-push.ensures.items)
    c.loop-at.invariant.1 c.loop-at.invariant.0 c.loop-at.invariant.2

pub loop-at-preserved : goal.loop-at-preserved
loop-at-preserved c = (
  long_more c.loop-at.at c.loop-at.found.items c.push.new.self.items c.loop-at.here c.in_ok-push.ensures.items c.loop-at.invariant.0,
  each_more (LiesSo c.args.u.now) c.loop-at.at c.loop-at.found.items c.push.new.self.items c.loop-at.here c.in_ok-push.ensures.items
      c.loop-at.invariant.1 c.loop-at.invariant.0 c.loop-at.invariant.2,
  c.in-Some.ensures.0,
  c.in-Some.ensures.1,
)

pub returns : goal.returns
returns c =
    let u = c.args.u.now in
    let same = ap (λ (x : UnitValue). length x.code) c.u.view_is in
    let all : c.loop-at.at ≡ length u.code = omega arith in
    (nested_all u (subst (AreNestedBelow u) all c.loop-at.invariant.3), (c.loop-at.invariant.0 ∙ all, c.loop-at.invariant.1))
