-- one instruction more
use Rattle.std.proofs.Common.{◌≡◌, ℕ, suc, ◌+◌, List, length, Some, slice_get, slice_index, refl, sym, ap, ◌∙◌, subst, arith}
use Rattle.std.proofs.lemmas.Option.{slice_get_read}
use Rattle.xk_types.specs.Code.{UnitValue}
use Rattle.xk_bounds.specs.declared.bounds.TheConstants.{CUT}
use Rattle.xk_bounds.specs.Measure.{weight_of, visits_next}
use Rattle.xk_bounds.proofs.WeightSumLemmas.{IsMeasured, measured_start, measured_next}
use Rattle.xk_bounds.proofs.bounds.most_of.Goals as goal

pub loop-instr-init : goal.loop-instr-init
loop-instr-init c = measured_start (weight_of c.args.counted) (slice_index c.args.table.now) c.args.u.now CUT (omega arith) c.in_ok-before.before.items c.in_ok-before.ensures.items

pub loop-instr-preserved : goal.loop-instr-preserved
loop-instr-preserved c =
    let weight = weight_of c.args.counted in
    let table = slice_index c.args.table.now in
    let u = c.args.u.now in
    let at = c.loop-instr.instr-index in
    let i = c.instr-item.result in
    let before = c.loop-instr.before.items in
    let after = c.push.new.self.items in
    let items = c.deref-instr-items.result.now in
    let listed : items ≡ u.code = c.deref-instr-items.ensures.value ∙ ap (λ (x : UnitValue). x.code) c.u.view_is in
    let found : slice_get u.code at ≡ Some i = ap (λ is. slice_get is at) (sym listed) ∙ slice_get_read items (length items) at i refl c.loop-instr-test.true c.instr-item.is in
    let P : List ℕ → Type 0 = λ xs. c.visits_next-here.result ≡ visits_next CUT xs c.loop-instr.here i in
    let beyond = subst P c.deref.ensures.value c.visits_next-here.ensures in
    let next : suc at ≡ at + 1 = omega arith in
    subst (λ n. IsMeasured weight table u CUT n after c.visits_next-here.result c.cut_sum-most.result) next
    (measured_next weight table u CUT at i before after c.loop-instr.here c.visits_next-here.result c.loop-instr.most c.once.result c.cut_product.result c.cut_sum-most.result
    c.requires found
    c.in_ok-push.ensures.items beyond c.once.ensures c.cut_product.ensures c.cut_sum-most.ensures c.loop-instr.invariant)
