-- unit after unit
use Rattle.std.proofs.Common.{◌≡◌, [], ◌∷◌, length, length-append, Some, slice_get, ap, sym, ◌∙◌, subst, arith}
use Rattle.std.proofs.lemmas.Option.{slice_get_within, same_Some}
use Rattle.xk_types.specs.Code.{UnitValue}
use Rattle.xk_shape.proofs.UnitLemmas.{blocks_of_shape}
use Rattle.xk_typestate.specs.KindTable.{IsKindTable}
use Rattle.xk_typestate.proofs.ListLemmas.{each_more}
use Rattle.xk_typestate.proofs.SuccessorRangeLemmas.{closed_from}
use Rattle.xk_typestate.proofs.module_kinds.tables_of.Goals as goal
use Rattle.xk_typestate.proofs.UnitLemmas.{found_unit}

pub table_of-requires-clause-closed : goal.table_of-requires-clause-closed
table_of-requires-clause-closed c =
    let m = c.args.m.now in
    let u = c.u-item.result in
    let n = c.loop-u.u-index in
    closed_from m c.requires n u (found_unit m c.units-u-items.result.now n u c.units-u-items.ensures.listed c.loop-u-test.true c.u-item.is)

pub table_of-requires-clause-blocks : goal.table_of-requires-clause-blocks
table_of-requires-clause-blocks c =
    let m = c.args.m.now in
    let u = c.u-item.result in
    let n = c.loop-u.u-index in
    blocks_of_shape m u n c.units-u-items.ensures.limits c.requires (found_unit m c.units-u-items.result.now n u c.units-u-items.ensures.listed c.loop-u-test.true c.u-item.is)

pub loop-u-preserved : goal.loop-u-preserved
loop-u-preserved c =
    let m = c.args.m.now in
    let u = c.u-item.result in
    let n = c.loop-u.u-index in
    let inv = c.loop-u.invariant in
    let xs = c.loop-u.tables.items in
    let y = c.in_ok-table_of.field-0 in
    let pushed = c.in_ok-push.ensures.items in
    let found = found_unit m c.units-u-items.result.now n u c.units-u-items.ensures.listed c.loop-u-test.true c.u-item.is in
    let one : (v : UnitValue) → slice_get m.units n ≡ Some v → u ≡ v = λ v at. same_Some u v (sym found ∙ at) in
    record {
      long = omega (arith, ap length pushed, length-append xs (y ∷ []), inv.long);
      each = each_more (λ k t. (v : UnitValue) → slice_get m.units k ≡ Some v → IsKindTable m v t) xs c.push.new.self.items y [] n inv.long pushed inv.each
          (λ v at. subst (λ x. IsKindTable m x y) (one v at) c.in_ok-table_of.ensures);
    }

pub returns : goal.returns
returns c =
    let m = c.args.m.now in
    let inv = c.loop-u.invariant in
    let as_long : length c.units-u-items.result.now ≡ length m.units = ap length c.units-u-items.ensures.listed in
    record {
      units = omega (arith, inv.long);
      each = λ k u found. let lt = slice_get_within m.units k u found in inv.each k (omega arith) u found;
    }
