-- one instruction more
use Rattle.std.proofs.Common.{◌≡◌, ◌<◌, List, length, slice_index, refl, sym, ap, subst, ◌∙◌, arith, get_or}
use Rattle.xk_types.specs.declared.instr.Instr.{Instr}
use Rattle.xk_types.specs.Code.{UnitValue}
use Rattle.xk_types.specs.Bound.{visits}
use Rattle.xk_bounds.specs.Measure.{added, added_at}
use Rattle.xk_explain_bounds.specs.Amounts.{kept, weight_of}
use Rattle.xk_explain_bounds.proofs.AmountLemmas.{sum_more}
use Rattle.xk_explain_bounds.proofs.totals.sum_by.Goals as goal

pub loop-at-preserved : goal.loop-at-preserved
loop-at-preserved c =
    let weight = weight_of c.args.subject in
    let table = slice_index c.args.table.now in
    let u = c.args.u.now in
    let at = c.loop-at.at in
    let i = c.instr-item.result in
    let items = c.deref-instr-items.result.now in
    let listed : items ≡ u.code = c.deref-instr-items.ensures.value ∙ ap (λ (x : UnitValue). x.code) c.u.view_is in
    let inside : at < length u.code = subst (λ (l : List Instr). at < length l) listed c.loop-at-test.true in
    let read : i ≡ get_or u.code at i = c.instr-item.is ∙ ap (λ l. get_or l at i) listed in
    record {
      so_far =
          sum_more (added_at weight table u) c.loop-at.sum c.sum-sum.result _ c.once.result c.product-added.result (visits u at) (added weight table i) at i u.code
          inside read refl (c.requires.each at inside) c.once.ensures c.product-added.ensures c.sum-sum.ensures
          ∙ c.loop-at.invariant.so_far;
      small = let is = c.sum-sum.ensures in omega (arith, is);
    }
