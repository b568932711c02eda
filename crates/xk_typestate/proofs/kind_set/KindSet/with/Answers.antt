-- one bit more
use Rattle.std.proofs.Common.{◌<◌, sym, subst}
use Rattle.std.proofs.lemmas.Nat.{or_lt}
use Rattle.xk_typestate.proofs.KindBitLemmas.{bit_small, with_bit, has_with}
use Rattle.xk_typestate.proofs.kind_set.KindSet.with.Goals as goal

pub invariant_of-result : goal.invariant_of-result
invariant_of-result c = or_lt 5 c.self.inside.bits c.bit.result c.self.invariant (subst (λ r. r < 32) (sym c.bit.ensures) (bit_small c.args.kind))

pub returns-clause-made : goal.returns-clause-made
returns-clause-made c = with_bit c.self.inside.bits c.bit.result c.args.kind c.args.self c.bit.ensures c.self.view_is

pub returns-clause-has : goal.returns-clause-has
returns-clause-has c = has_with c.self.inside.bits c.bit.result c.args.kind c.args.self c.bit.ensures c.self.view_is
