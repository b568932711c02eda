-- one kind is left
use Rattle.std.proofs.Common.{ap, sym, ◌∙◌, if◌then◌else◌}
use Rattle.xk_types.specs.Walk.{becomes, overwritten}
use Rattle.xk_typestate.proofs.TransferLemmas.{one_row}
use Rattle.xk_typestate.proofs.transfer.after_ret.Goals as goal

pub returns-else-is_own : goal.returns-else-is_own
returns-else-is_own c =
    let k = c.args.kind in
    one_row _ k c.of.result (ap (λ own. if own then overwritten k (becomes k) else becomes k) (sym c.is_own.ensures ∙ c.if-is_own.false)) c.of.ensures
