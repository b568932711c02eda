-- one kind is left, or two
use Rattle.std.proofs.Common.{rules}
use Rattle.xk_types.specs.declared.rules.Kind.TheVariants as kind
use Rattle.xk_typestate.proofs.TransferLemmas.{one_row, two_row}
use Rattle.xk_typestate.proofs.transfer.kinds_across.Goals as goal

pub returns-in-Live : goal.returns-in-Live
returns-in-Live c = one_row _ c.args.kind c.of.result (search rules) c.of.ensures

pub returns-in-Unset : goal.returns-in-Unset
returns-in-Unset c = one_row _ c.args.kind c.of-in-Unset.result (search rules) c.of-in-Unset.ensures

pub returns-in-Live-2 : goal.returns-in-Live-2
returns-in-Live-2 c = two_row _ kind.Live kind.Resumed c.of-in-Live-2.result c.with.result (search rules) c.of-in-Live-2.ensures c.with.ensures.has
