use Rattle.std.proofs.Common.{arith, ◌/◌}
use Rattle.xk_collections.proofs.BitLemmas.{next_none, next_some}
use Rattle.xk_collections.proofs.bit_words.next_in_word.Goals as goal

pub returns-then-rest-eq0 : goal.returns-then-rest-eq0
returns-then-rest-eq0 c = next_none c.args.words.now c.args.i c.if-rest-eq0.true

pub returns-else-rest-eq0 : goal.returns-else-rest-eq0
returns-else-rest-eq0 c = next_some c.args.words.now c.args.i (omega (arith, c.type_inv.words (c.args.i / 64))) (omega (arith, c.if-rest-eq0.false))
