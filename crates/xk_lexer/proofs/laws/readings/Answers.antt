use Rattle.std.proofs.Common.{subst}
use Rattle.xk_lexer.specs.Pieces.{IsReadAs}
use Rattle.xk_lexer.proofs.LexingLemmas.{lexed_reading, reading_lexed}
use Rattle.xk_lexer.proofs.laws.readings.Goals as goal

pub returns : goal.returns
returns c = λ text tokens. (reading_lexed text tokens, λ e. subst (IsReadAs text) e (lexed_reading text))
