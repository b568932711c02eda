use Rattle.std.proofs.Common.{sym, ◌∙◌}
use Rattle.xk_lexer.proofs.LexingLemmas.{spelled_lexed, spelled_have_none}
use Rattle.xk_lexer.proofs.laws.spelled_tokens.Goals as goal

pub returns-clause-again : goal.returns-clause-again
returns-clause-again c = spelled_lexed

pub returns-clause-none_stray : goal.returns-clause-none_stray
returns-clause-none_stray c = spelled_have_none

pub returns-clause-one_list : goal.returns-clause-one_list
returns-clause-one_list c = λ text a b h k. sym (spelled_lexed text a h) ∙ spelled_lexed text b k
