-- unit after unit
use Rattle.std.proofs.Common.{◌≡◌, ℕ, false, length, Some, slice_get, sym, ap, subst, arith}
use Rattle.xk_types.specs.Shape.{breaks_in}
use Rattle.xk_shape.proofs.UnitLemmas.{unit_at, unbroken_in}
use Rattle.xk_shape.proofs.BreachLemmas.{AreUnbroken, units_more, units_all, least_in}
use Rattle.xk_shape.proofs.rules.least_breach.Goals as goal

pub first_place-requires-clause-earlier : goal.first_place-requires-clause-earlier
first_place-requires-clause-earlier c =
    let m = c.args.m.now in
    let u = c.u-item.result in
    let listed = unit_at c.units-u-items.result.now m c.loop-u.u-index u c.units-u-items.ensures.listed c.loop-u-test.true c.u-item.is in
    let found = subst (λ n. slice_get m.units n ≡ Some u) (sym c.loop-u.invariant.0) listed in
    λ q at lt. unbroken_in m u q c.loop-u.unit (c.requires.earlier q lt) found at

pub returns-in-Some : goal.returns-in-Some
returns-in-Some c =
    let m = c.args.m.now in
    let u = c.u-item.result in
    let listed = unit_at c.units-u-items.result.now m c.loop-u.u-index u c.units-u-items.ensures.listed c.loop-u-test.true c.u-item.is in
    let found = subst (λ n. slice_get m.units n ≡ Some u) (sym c.loop-u.invariant.0) listed in
    let before = subst (AreUnbroken m c.args.rule) (sym c.loop-u.invariant.0) c.loop-u.invariant.1 in
    least_in m c.args.rule c.loop-u.unit u found before c.in-Some.at c.in-Some.ensures.0 c.in-Some.ensures.1

pub loop-u-preserved : goal.loop-u-preserved
loop-u-preserved c =
    let m = c.args.m.now in
    let u = c.u-item.result in
    let found = unit_at c.units-u-items.result.now m c.loop-u.u-index u c.units-u-items.ensures.listed c.loop-u-test.true c.u-item.is in
    let here = subst (λ n. (at : ℕ) → breaks_in m c.args.rule n u at ≡ false) c.loop-u.invariant.0 c.in_default.ensures in
    (omega (arith, c.loop-u.invariant.0), units_more m c.args.rule c.loop-u.u-index u found c.loop-u.invariant.1 here)

pub returns : goal.returns
returns c =
    let m = c.args.m.now in
    units_all m c.args.rule c.loop-u.u-index (omega (arith, ap length c.units-u-items.ensures.listed)) c.loop-u.invariant.1
