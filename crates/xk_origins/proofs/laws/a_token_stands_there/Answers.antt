use Rattle.xk_origins.proofs.TokenLemmas.{at_tokens}
use Rattle.xk_origins.proofs.laws.a_token_stands_there.Goals as goal

pub returns : goal.returns
returns c = at_tokens
