-- sets are the same where their bits are
use Rattle.std.proofs.Common.{rules}
use Rattle.xk_typestate.proofs.KindBitLemmas.{same_bits}
use Rattle.xk_typestate.proofs.kind_set.KindSetPartialEq.eq.Goals as goal

pub returns : goal.returns
returns c = search (same_bits, rules)
