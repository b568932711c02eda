-- one kind is left
use Rattle.std.proofs.Common.{rules}
use Rattle.xk_typestate.proofs.TransferLemmas.{one_row}
use Rattle.xk_typestate.proofs.transfer.after_endfinish.Goals as goal

pub returns-else-home : goal.returns-else-home
returns-else-home c = one_row _ c.args.kind c.of.result (search rules) c.of.ensures
