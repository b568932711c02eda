-- one kind is left
use Rattle.std.proofs.Common.{rules}
use Rattle.xk_typestate.proofs.TransferLemmas.{one_row}
use Rattle.xk_typestate.proofs.transfer.use_clock.Goals as goal

pub returns-then-slot-c : goal.returns-then-slot-c
returns-then-slot-c c = one_row _ c.args.kind c.of.result (search rules) c.of.ensures

pub returns-in-Live : goal.returns-in-Live
returns-in-Live c = one_row _ c.args.new c.of-in-Live.result (search rules) c.of-in-Live.ensures
