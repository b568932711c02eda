-- one kind is left
use Rattle.std.proofs.Common.{rules}
use Rattle.xk_typestate.proofs.TransferLemmas.{one_row}
use Rattle.xk_typestate.proofs.transfer.overwrite.Goals as goal

pub returns-in-Unset : goal.returns-in-Unset
returns-in-Unset c = one_row _ c.args.new c.of.result (search rules) c.of.ensures
