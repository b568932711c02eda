use Rattle.std.proofs.Common.{◌∙◌, ap, inl, inr}
use Rattle.xk_cli.specs.CommandLine.{texts}
use Rattle.x10clock.proofs.WordLemmas.{asked, last_line, refused}
use Rattle.x10clock.proofs.on_words.Goals as goal

pub returns-in-Ok-read_job-clause-told : goal.returns-in-Ok-read_job-clause-told
returns-in-Ok-read_job-clause-told g c =
    inl (asked c.in-Ok-read_job.request (texts c.deref.result.now) _ _ (ap texts c.deref.ensures.value ∙ c.in-Ok.ensures.same)
    c.in-Ok-read_job.ensures.understood
    c.in-Ok-read_job.ensures.job c.on_asked.ensures.given)

pub returns-clause-told : goal.returns-clause-told
returns-clause-told g c =
    let same = ap texts c.deref.ensures.value ∙ c.in-Ok.ensures.same in
    inr (inl (c.in-Err.fault, refused (texts c.deref.result.now) _ c.in-Err.fault same c.in-Err.ensures.refused, c.tell_words-in-Err.ensures))

pub returns-in-Ok-read_job-clause-memory_err : goal.returns-in-Ok-read_job-clause-memory_err
returns-in-Ok-read_job-clause-memory_err g c = λ memory.
    last_line c.in-Ok-read_job.request (texts c.deref.result.now) _ _ _ _ (ap texts c.deref.ensures.value ∙ c.in-Ok.ensures.same) c.in-Ok-read_job.ensures.understood c.in-Ok-read_job.ensures.job
    (c.on_asked.ensures.memory_err memory)
