use Rattle.xk_serve.proofs.AnswerUniquenessLemmas.{done_once, one_answer, one_source_answer, told_once}
use Rattle.xk_serve.proofs.laws.one_answer.Goals as goal

pub returns-clause-answer : goal.returns-clause-answer
returns-clause-answer c = one_answer

pub returns-clause-source : goal.returns-clause-source
returns-clause-source c = one_source_answer

pub returns-clause-done : goal.returns-clause-done
returns-clause-done c = done_once

pub returns-clause-told : goal.returns-clause-told
returns-clause-told c = told_once
