use Rattle.std.proofs.Common.{◌≡◌, ◌⊎◌, inl, inr, [], List, Option, Bool, true, refl, sym, subst, ap, ◌∙◌}
use Rattle.std.proofs.lemmas.Result.{err_from_is_err_and, IfErr-weaker, IfOk-weaker}
use Rattle.clap.specs.Words.{App, IsAmong, Kinds, Text, app_of, fault_of, is_simple, is_simple_and_free, subcommand_of, subcommand_rows_of}
use Rattle.clap.specs.declared.error.kind.ErrorKind.{ErrorKind}
use Rattle.clap.specs.declared.error.kind.ErrorKind.TheVariants as kind
use Rattle.xk_cli.specs.declared.words_fault.WordsFault.{WordsFault}
use Rattle.xk_cli.specs.declared.words_fault.WordsFault.TheVariants as fault
use Rattle.xk_jobs.specs.Tasks.{Asked}
use Rattle.xk_cli.specs.CommandLine.{FitsKind, IsRefused, Names, asked_in, command_line, faults_in, job_of, misfits_by, misfits_in, texts}
use Rattle.xk_cli.specs.declared.misfit.Misfit.{Misfit}
use Rattle.xk_cli.proofs.CommandLineLemmas.{some_names}
use Rattle.xk_cli.proofs.request.read_job.Goals as goal

-- a fault that fits the kind of an error fits what may be the kind
refused_by : (kinds : Kinds) (asked : Option Asked) (misfits : Misfit → Bool) (k : ErrorKind) (f : WordsFault)
    → (k ≡ kind.OutOfMemory) ⊎ IsAmong k kinds → FitsKind k f → IsRefused kinds asked misfits f
refused_by kinds asked misfits k (fault.Help text) (inl e) (inl h) = cc
refused_by kinds asked misfits k (fault.Help text) (inl e) (inr h) = cc
refused_by kinds asked misfits k (fault.Help text) (inr among) (inl h) = inl (rw h at among)
refused_by kinds asked misfits k (fault.Help text) (inr among) (inr h) = inr (rw h at among)
refused_by kinds asked misfits k (fault.NotUnderstood text) (inl e) fits = absurd (fits.2 e)
refused_by kinds asked misfits k (fault.NotUnderstood text) (inr among) fits = inl (k, among, fits.0, fits.1)
refused_by kinds asked misfits k (fault.Misfit m) has fits = absurd fits
refused_by kinds asked misfits k fault.OutOfMemory has fits = tt

simple : (names : Names) → is_simple (command_line names) ≡ true
simple names = refl

free : (names : Names) → is_simple_and_free (command_line names) ≡ true
free names = refl

-- what a parse by the command line found, as a job
job_is : (names : Names) (a : App) (words : List Text) (found : Option (Text × List _))
    → a ≡ command_line names → found ≡ subcommand_of a words → asked_in found ≡ job_of names words
unfolding job_of
job_is names a words found e h = ap asked_in (h ∙ ap (λ b. subcommand_of b words) e)

faults_are : (names : Names) (a : App) (words : List Text) → a ≡ command_line names → fault_of a words ≡ faults_in names words
unfolding faults_in
faults_are names a words e = ap (λ b. fault_of b words) e

-- why what a parse by the command line found is no job, as why the words ask for none
refusal_is : (names : Names) (a : App) (words : List Text) (found : Option (Text × List _)) (f : WordsFault)
    → a ≡ command_line names → found ≡ subcommand_of a words
    → IsRefused (faults_in names words) (asked_in found) (misfits_by found) f
    → IsRefused (faults_in names words) (job_of names words) (misfits_in names words) f
unfolding job_of misfits_in
refusal_is names a words found f e h refused =
    subst (λ s. IsRefused (faults_in names words) (asked_in s) (misfits_by s) f) (h ∙ ap (λ b. subcommand_of b words) e) refused

pub returns-in-Ok-clause-job : goal.returns-in-Ok-clause-job
returns-in-Ok-clause-job c =
    let line = c.in_ok-command_line.ensures in
    IfOk-weaker c.asked.result _ _
    (λ job h. (
      line.0,
      line.1,
      sym (job_is line.0 (app_of c.in_ok-command_line.command_line) (texts c.args.words.now) (subcommand_rows_of c.in-Ok.matches)
          line.2 (c.in-Ok.ensures.matches (ap is_simple line.2 ∙ simple line.0)).1)
          ∙ h,
    ))
    c.asked.ensures.job

pub returns-in-Ok-clause-understood : goal.returns-in-Ok-clause-understood
returns-in-Ok-clause-understood c =
    let line = c.in_ok-command_line.ensures in
    IfOk-weaker c.asked.result _ _
    (λ job h. (
      line.0,
      line.1,
      sym (faults_are line.0 (app_of c.in_ok-command_line.command_line) (texts c.args.words.now) line.2)
          ∙ c.in-Ok.ensures.kinds (ap is_simple_and_free line.2 ∙ free line.0),
    ))
    c.asked.ensures.job

pub returns-in-Ok-clause-refused : goal.returns-in-Ok-clause-refused
returns-in-Ok-clause-refused c =
    let line = c.in_ok-command_line.ensures in
    let words = texts c.args.words.now in
    let found = (c.in-Ok.ensures.matches (ap is_simple line.2 ∙ simple line.0)).1 in
    let no_fault : faults_in line.0 words ≡ [] =
    sym (faults_are line.0 (app_of c.in_ok-command_line.command_line) words line.2) ∙ c.in-Ok.ensures.kinds (ap is_simple_and_free line.2 ∙ free line.0) in
    IfErr-weaker c.asked.result _ _
    (λ f h. (
      line.0,
      line.1,
      refusal_is line.0 (app_of c.in_ok-command_line.command_line) words (subcommand_rows_of c.in-Ok.matches) f line.2 found (rw no_fault h),
    ))
    c.asked.ensures.refused

pub returns-in-Err-clause-refused : goal.returns-in-Err-clause-refused
returns-in-Err-clause-refused c =
    let line = c.in_ok-command_line.ensures in
    let e = faults_are line.0 (app_of c.in_ok-command_line.command_line) (texts c.args.words.now) line.2 in (
      line.0,
      line.1,
      refused_by (faults_in line.0 (texts c.args.words.now)) (job_of line.0 (texts c.args.words.now)) (misfits_in line.0 (texts c.args.words.now)) _
          c.words_fault.result (rw e at (c.in-Err.ensures.kinds (ap is_simple_and_free line.2 ∙ free line.0))) c.words_fault.ensures,
    )

pub returns-in_err-command_line-clause-refused : goal.returns-in_err-command_line-clause-refused
returns-in_err-command_line-clause-refused c =
    let p = err_from_is_err_and c.from_residual.result c.from_residual.ensures.1 in
    rw (p.1, p.2) some_names
