-- one kind is left, or what the end of a block leaves
use Rattle.std.proofs.Common.{rules, ◌≡◌, ◌+◌, Bool, sym, ap, ◌∙◌, subst, if◌then◌else◌}
use Rattle.xk_types.specs.declared.instr.Instr.{Instr}
use Rattle.xk_types.specs.Code.{UnitValue}
use Rattle.xk_types.specs.Blocks.{block_at, homes, is_here}
use Rattle.xk_types.specs.Walk.{after, becomes, let_go}
use Rattle.xk_typestate.specs.Transfer.{IsRow}
use Rattle.xk_typestate.proofs.TransferLemmas.{one_row}
use Rattle.xk_typestate.proofs.transfer.kinds_after.Goals as goal

pub returns-in-Advance : goal.returns-in-Advance
returns-in-Advance c = one_row _ c.awake.result c.of.result (search rules) c.of.ensures

pub returns-in-Jump : goal.returns-in-Jump
returns-in-Jump c = one_row _ c.args.kind c.of-in-Jump.result (search rules) c.of-in-Jump.ensures

pub returns-in-EndFinish : goal.returns-in-EndFinish
returns-in-EndFinish c =
    let u = c.args.u.now in
    let s = c.args.slot in
    let k = c.args.kind in
    let place = c.in-EndFinish.first + 1 in
    let home : c.is_home.result ≡ is_here (block_at u place) (homes u s) = c.is_home.ensures ∙ ap (λ (x : UnitValue). is_here (block_at x place) (homes x s)) c.requires in
    let P : Bool → Type 0 = λ h. IsRow (if h then let_go k (becomes k) else becomes k) c.after_endfinish.result in
    let Q : Instr → Type 0 = λ i. IsRow (after c.args.m.now u i s k) c.after_endfinish.result in
    subst Q (sym c.in-EndFinish.is) (subst P home c.after_endfinish.ensures)

pub returns-in-Call : goal.returns-in-Call
returns-in-Call c =
    subst (λ (i : Instr). IsRow (after c.args.m.now c.args.u.now i c.args.slot c.args.kind) c.call.result) (sym c.in-Call.is) c.call.ensures
