-- one unit more, from the last on
use Rattle.std.proofs.Common.{◌≡◌, ℕ, ◌-◌, ◌<◌, min, List, length, refl, Some, slice_get, slice_index, inl, inr, sym, ap, ◌∙◌, subst, arith, get_or-set_other, get_or-set_same}
use Rattle.std.proofs.Math.ListN.{length-set, set}
use Rattle.std.proofs.lemmas.Bool.{cases_lt}
use Rattle.std.proofs.lemmas.Option.{slice_get_read}
use Rattle.xk_types.specs.Bound.{total}
use Rattle.xk_bounds.specs.declared.bounds.TheConstants.{CUT}
use Rattle.xk_shape.proofs.UnitLemmas.{blocks_of_shape}
use Rattle.xk_bounds.specs.Measure.{added_by, weight_of}
use Rattle.xk_bounds.proofs.TotalLemmas.{total_cut}
use Rattle.xk_bounds.proofs.bounds.most.Goals as goal

pub most_of-requires : goal.most_of-requires
most_of-requires c =
    let m = c.args.m.now in
    let unit = c.loop-unit.unit - 1 in
    let units = c.units-units.result.now in
    let u = c.index-units-unit.result in
    let inv = c.loop-unit.invariant in
    let as_long : length units ≡ length m.units = ap length c.units-units.ensures.listed in
    let lt : unit < length units = omega (arith, inv.0) in
    (blocks_of_shape m u unit c.units-units.ensures.limits c.requires
    (ap (λ us. slice_get us unit) (sym c.units-units.ensures.listed) ∙ slice_get_read units (length units) unit u refl lt c.index-units-unit.is)).orderly

pub loop-unit-preserved : goal.loop-unit-preserved
loop-unit-preserved c =
    let m = c.args.m.now in
    let weight = weight_of c.args.counted in
    let unit = c.loop-unit.unit - 1 in
    let table = c.loop-unit.table.items in
    let most = c.in_ok-most.most in
    let inv = c.loop-unit.invariant in
    let units = c.units-units.result.now in
    let u = c.index-units-unit.result in
    let as_long : length units ≡ length m.units = ap length c.units-units.ensures.listed in
    let lt : unit < length units = omega (arith, inv.0) in
    let found : slice_get m.units unit ≡ Some u = ap (λ us. slice_get us unit) (sym c.units-units.ensures.listed) ∙ slice_get_read units (length units) unit u refl lt
    c.index-units-unit.is in
    let R : List ℕ → Type 0 = λ xs. most ≡ min (added_by weight (slice_index xs) u) CUT in
    let read : most ≡ min (added_by weight (slice_index table) u) CUT = subst R c.deref.ensures.value c.in_ok-most.ensures in
    let here = read ∙ total_cut weight m c.requires CUT table unit u found (λ t above inside. inv.1 t (omega arith) inside) in (
      length-set table unit most ∙ inv.0,
      λ t from inside. elim (cases_lt unit t) [
        | inl above ↦ get_or-set_other table unit t most 0 (λ e. omega arith) ∙ inv.1 t (omega arith) inside
        | inr at ↦
            let same : unit ≡ t = omega arith in
            let S : ℕ → Type 0 = λ n. slice_index (set table unit most) n ≡ min (total weight m n) CUT in
            subst S same (get_or-set_same table unit most 0 (omega (arith, inv.0)) ∙ here)
      ],
    )
