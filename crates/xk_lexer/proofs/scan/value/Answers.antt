use Rattle.xk_lexer.proofs.PieceLengthLemmas.{too_great}
use Rattle.xk_lexer.proofs.scan.value.Goals as goal

pub returns-then-value : goal.returns-then-value
returns-then-value c = too_great c.args.digits.now c.loop-rest.value c.loop-rest.rest.now c.in-len1-up.len_at_least c.if-value.true c.loop-rest.invariant
