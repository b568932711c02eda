use Rattle.std.proofs.Common.{arith}
use Rattle.xk_collections.proofs.BitLemmas.{last_some}
use Rattle.xk_collections.proofs.bit_words.last_in_word.Goals as goal

pub returns-else-word-eq0 : goal.returns-else-word-eq0
returns-else-word-eq0 c = last_some c.args.words.now c.args.k (omega (arith, c.type_inv.words c.args.k)) (omega (arith, c.if-word-eq0.false))
