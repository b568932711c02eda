-- unit after unit, up to the first that has a slot that is refused
use Rattle.std.proofs.Common.{◌≡◌, ◌+◌, [], ◌∷◌, length, length-append, Some, slice_get, inl, inr, ap, sym, ◌∙◌, subst, arith}
use Rattle.std.proofs.lemmas.Option.{slice_get_within, same_Some}
use Rattle.std.proofs.lemmas.Bool.{cases_lt}
use Rattle.std.proofs.lemmas.Result.{err_from_is_err_and}
use Rattle.xk_types.specs.Code.{UnitValue}
use Rattle.xk_shape.proofs.UnitLemmas.{blocks_of_shape}
use Rattle.xk_typestate.specs.LeastRefusal.{IsNeverRefusedIn}
use Rattle.xk_typestate.specs.KindTable.{IsKindTable}
use Rattle.xk_typestate.proofs.ListLemmas.{each_more}
use Rattle.xk_typestate.proofs.UnitLemmas.{fails_module, never_refused, found_unit}
use Rattle.xk_typestate.proofs.SuccessorRangeLemmas.{closed_from}
use Rattle.xk_typestate.proofs.kind_check.check_units.Goals as goal

pub check_unit-requires-clause-closed : goal.check_unit-requires-clause-closed
check_unit-requires-clause-closed c =
    let m = c.args.m.now in
    let u = c.u-item.result in
    let n = c.loop-u.u-index in
    closed_from m c.requires n u (found_unit m c.units-u-items.result.now n u c.units-u-items.ensures.listed c.loop-u-test.true c.u-item.is)

pub check_unit-requires-clause-blocks : goal.check_unit-requires-clause-blocks
check_unit-requires-clause-blocks c =
    let m = c.args.m.now in
    let u = c.u-item.result in
    let n = c.loop-u.u-index in
    blocks_of_shape m u n c.units-u-items.ensures.limits c.requires (found_unit m c.units-u-items.result.now n u c.units-u-items.ensures.listed c.loop-u-test.true c.u-item.is)

pub returns-in_err-of_unit : goal.returns-in_err-of_unit
returns-in_err-of_unit c =
    let m = c.args.m.now in
    let u = c.u-item.result in
    let inv = c.loop-u.invariant in
    let e = c.in_err-of_unit.field-0.0 in
    let found = found_unit m c.units-u-items.result.now c.loop-u.u-index u c.units-u-items.ensures.listed c.loop-u-test.true c.u-item.is in
    let here : slice_get m.units c.loop-u.unit ≡ Some u = ap (slice_get m.units) inv.unit ∙ found in
    let fails = fails_module m c.loop-u.unit u e here (λ k v lt at. inv.below k v (omega (arith, inv.unit)) at) c.in_err-of_unit.ensures in
    let p = err_from_is_err_and c.from_residual.result c.from_residual.ensures.1 in rw (p.1, p.2) fails

pub loop-u-preserved : goal.loop-u-preserved
loop-u-preserved c =
    let m = c.args.m.now in
    let u = c.u-item.result in
    let n = c.loop-u.u-index in
    let inv = c.loop-u.invariant in
    let xs = c.loop-u.tables.items in
    let y = c.in_ok-of_unit.of_unit in
    let pushed = c.in-Ok.ensures.items in
    let found = found_unit m c.units-u-items.result.now n u c.units-u-items.ensures.listed c.loop-u-test.true c.u-item.is in
    let one : (v : UnitValue) → slice_get m.units n ≡ Some v → u ≡ v = λ v at. same_Some u v (sym found ∙ at) in
    record {
      unit = ap (λ x. x + 1) inv.unit;
      long = omega (arith, ap length pushed, length-append xs (y ∷ []), inv.long);
      below = λ k v lt at. elim (cases_lt k n) [
        | inl before ↦ inv.below k v before at
        | inr last ↦
            let same : k ≡ n = omega arith in
            subst (λ x. IsNeverRefusedIn m x) (one v (ap (slice_get m.units) (sym same) ∙ at)) c.in_ok-of_unit.ensures.0
      ];
      each = each_more (λ k t. (v : UnitValue) → slice_get m.units k ≡ Some v → IsKindTable m v t) xs c.push.new.self.items y [] n inv.long pushed inv.each
          (λ v at. subst (λ x. IsKindTable m x y) (one v at) c.in_ok-of_unit.ensures.1);
    }

pub returns : goal.returns
returns c =
    let m = c.args.m.now in
    let inv = c.loop-u.invariant in
    let as_long : length c.units-u-items.result.now ≡ length m.units = ap length c.units-u-items.ensures.listed in
    record {
      never = never_refused m (λ k u found. let lt = slice_get_within m.units k u found in inv.below k u (omega arith) found);
      kinds = record {
        units = omega (arith, inv.long);
        each = λ k u found. let lt = slice_get_within m.units k u found in inv.each k (omega arith) u found;
      };
    }
