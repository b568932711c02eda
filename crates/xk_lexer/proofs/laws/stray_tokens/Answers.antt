use Rattle.std.proofs.Common.{sym, ap, ◌∙◌, true≢false}
use Rattle.xk_lexer.specs.Pieces.{has_stray}
use Rattle.xk_lexer.proofs.LexingLemmas.{spelled_lexed, spelled_have_none, spelled_from_none, strayed_from_one}
use Rattle.xk_lexer.proofs.laws.stray_tokens.Goals as goal

pub returns-clause-none : goal.returns-clause-none
returns-clause-none c = spelled_from_none

pub returns-clause-one : goal.returns-clause-one
returns-clause-one c = strayed_from_one

pub returns-clause-spells_none : goal.returns-clause-spells_none
returns-clause-spells_none c = λ text tokens one h. true≢false (sym one ∙ ap has_stray (spelled_lexed text tokens h) ∙ spelled_have_none text tokens h)
