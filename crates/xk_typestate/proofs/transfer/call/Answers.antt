-- what the arguments ask, and then what the method leaves
use Rattle.std.proofs.Common.{ap, ◌∙◌}
use Rattle.xk_typestate.proofs.CallTransferLemmas.{GivesCalled, call_row}
use Rattle.xk_typestate.proofs.transfer.call.Goals as goal

pub returns : goal.returns
returns c =
    let given : GivesCalled c.args.m.now c.args.called c.args.args.now c.new-arguments.result = record {
      params = ap (λ a. a.params) c.new-arguments.ensures ∙ c.params_of.ensures;
      slots = ap (λ a. a.slots) c.new-arguments.ensures ∙ c.slots.ensures;
    }
    in
    call_row c.args.m.now c.args.called c.args.slot c.args.args.now c.args.kind c.new-arguments.result c.has_clock-lent.result c.kinds_across.result given
    c.has_clock-lent.ensures c.in_ok-give.ensures c.kinds_across.ensures
