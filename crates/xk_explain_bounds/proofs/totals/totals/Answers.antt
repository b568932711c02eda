-- one unit more, from the last on
use Rattle.std.proofs.Common.{◌≡◌, ℕ, ◌-◌, ◌<◌, List, length, refl, Some, slice_get, slice_index, inl, inr, sym, ap, ◌∙◌, subst, arith, get_or-set_other, get_or-set_same}
use Rattle.std.proofs.Math.ListN.{length-set, set}
use Rattle.std.proofs.lemmas.Bool.{cases_lt}
use Rattle.std.proofs.lemmas.Option.{slice_get_read}
use Rattle.xk_explain_bounds.specs.Amounts.{comes_to, comes_to_by, kept}
use Rattle.xk_explain_bounds.proofs.UnitTotalLemmas.{table_next}
use Rattle.xk_explain_bounds.proofs.UpwardLemmas.{runs_upward}
use Rattle.xk_explain_bounds.proofs.totals.totals.Goals as goal

pub loop-unit-preserved : goal.loop-unit-preserved
loop-unit-preserved c =
    let m = c.args.m.now in
    let s = c.args.subject in
    let unit = c.loop-unit.unit - 1 in
    let table = c.loop-unit.table.items in
    let total = c.in_ok-total.total in
    let inv = c.loop-unit.invariant in
    let units = c.units-units.result.now in
    let u = c.index-units-unit.result in
    let as_long : length units ≡ length m.units = ap length c.units-units.ensures.listed in
    let lt : unit < length units = omega (arith, inv.0) in
    let found : slice_get m.units unit ≡ Some u = ap (λ us. slice_get us unit) (sym c.units-units.ensures.listed) ∙ slice_get_read units (length units) unit u refl lt
    c.index-units-unit.is in
    let R : List ℕ → Type 0 = λ xs. total ≡ kept (comes_to_by s (slice_index xs) u) in
    let read : total ≡ kept (comes_to_by s (slice_index table) u) = subst R c.deref.ensures.value c.in_ok-total.ensures in
    let here = read ∙ table_next s m (runs_upward m c.requires) table unit u found inv.0 (λ t above inside. inv.1 t (omega arith) inside) in (
      length-set table unit total ∙ inv.0,
      λ t from inside. elim (cases_lt unit t) [
        | inl above ↦ get_or-set_other table unit t total 0 (λ e. omega arith) ∙ inv.1 t (omega arith) inside
        | inr at ↦
            let same : unit ≡ t = omega arith in
            let S : ℕ → Type 0 = λ n. slice_index (set table unit total) n ≡ kept (comes_to s m n) in
            subst S same (get_or-set_same table unit total 0 (omega (arith, inv.0)) ∙ here)
      ],
    )
