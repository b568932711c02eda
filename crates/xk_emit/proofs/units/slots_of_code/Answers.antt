use Rattle.std.proofs.Common.{◌+◌, max, drop, sym, ap, ◌∙◌, arith}
use Rattle.std.proofs.lemmas.List.{at_drop_more}
use Rattle.xk_emit.specs.Unit.{slots_used, written_slots}
use Rattle.xk_emit.proofs.SlotLemmas.{used_first}
use Rattle.xk_emit.proofs.units.slots_of_code.Goals as goal

pub loop-instr-preserved : goal.loop-instr-preserved
loop-instr-preserved c =
    let code = c.args.code.now in
    let at = c.loop-instr.instr-index in
    let most = c.loop-instr.most in
    let item = c.instr-item.result in
    let rest = drop (at + 1) code in
    ap (λ k. slots_used k rest) c.larger-most.ensures
    ∙ used_first most c.written.result rest
    ∙ ap (λ k. max k (slots_used most rest)) (c.written.ensures ∙ ap written_slots c.instr-item.is)
    ∙ sym (at_drop_more (slots_used most) code at item (omega arith))
    ∙ c.loop-instr.invariant
