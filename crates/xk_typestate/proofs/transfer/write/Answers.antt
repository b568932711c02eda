-- one kind is left
use Rattle.std.proofs.Common.{rules}
use Rattle.xk_typestate.proofs.TransferLemmas.{one_row}
use Rattle.xk_typestate.proofs.transfer.write.Goals as goal

pub returns-else-slot-d : goal.returns-else-slot-d
returns-else-slot-d c = one_row _ c.args.kind c.of.result (search rules) c.of.ensures
