-- the kind stays
use Rattle.std.proofs.Common.{rules}
use Rattle.xk_typestate.proofs.TransferLemmas.{one_row}
use Rattle.xk_typestate.proofs.transfer.only_read.Goals as goal

pub returns : goal.returns
returns c = one_row _ c.args.kind c.of.result (search rules) c.of.ensures
