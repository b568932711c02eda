-- no kind is one of the set where no bit is on
use Rattle.xk_typestate.proofs.KindBitLemmas.{empty_is_0}
use Rattle.xk_typestate.proofs.kind_set.KindSet.is_empty.Goals as goal

pub returns : goal.returns
returns c = empty_is_0 c.self.inside.bits c.args.self c.self.invariant c.self.view_is
