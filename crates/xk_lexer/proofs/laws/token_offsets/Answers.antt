use Rattle.xk_lexer.proofs.OffsetLemmas.{lexed_increasing, lexed_within}
use Rattle.xk_lexer.proofs.laws.token_offsets.Goals as goal

pub returns-clause-rising : goal.returns-clause-rising
returns-clause-rising c = lexed_increasing

pub returns-clause-within : goal.returns-clause-within
returns-clause-within c = lexed_within
