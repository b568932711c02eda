-- Words that were read are those that were given.
use Rattle.std.proofs.Common.{◌≡◌, ℕ, ◌⊎◌, inl, inr, List, Option, None, Some, refl, subst}
use Rattle.std.specs.Io.KnownBytes.{Appends}
use Rattle.xk_jobs.specs.Tasks.{asked_value}
use Rattle.xk_cli.specs.CommandLine.{IsRefused, WithOrders, faults_in, job_of, misfits_in}
use Rattle.xk_jobs.specs.declared.job.Request.{Request}
use Rattle.xk_jobs.specs.declared.job.Request.TheVariants as request
use Rattle.xk_cli.specs.declared.words_fault.WordsFault.{WordsFault}
use Rattle.x10clock.specs.CommandLine.{AreNoJob, AreUnderstood, AskFor, AskForHand}
use Rattle.x10clock.specs.Requests.{EndsIn, IsLastLine}

-- they ask for this
pub asked : (r : Request) (found given : List (List ℕ)) (P : Request → Type 0) → found ≡ given → AreUnderstood found
    → WithOrders (λ names. job_of names found ≡ Some (asked_value r)) → P r → AskFor given P
asked r found given P e understood h served =
    let said = subst (λ words. WithOrders (λ names. job_of names words ≡ Some (asked_value r))) e h in
    (subst AreUnderstood e understood, (said.0, said.1, (r, said.2, served)))

-- where somebody is asked, the line that tells a fault stands behind what is
pub last_line : (r : Request) (found given : List (List ℕ)) (line : List ℕ) (old new : Option (List ℕ)) → found ≡ given → AreUnderstood found
    → WithOrders (λ names. job_of names found ≡ Some (asked_value r)) → EndsIn r None None line old new
    → Appends old new line ⊎ (AskForHand given × IsLastLine line old new)
last_line (request.Job job) found given line old new e understood h ends = inl ends
last_line (request.ByHand run) found given line old new e understood h ends =
    let said = subst (λ words. WithOrders (λ names. job_of names words ≡ Some (asked_value (request.ByHand run)))) e h in
    inr ((subst AreUnderstood e understood, (said.0, said.1, (asked_value (request.ByHand run), _, said.2, refl))), (ends.0, ends.2))

-- they are no job for this reason
pub refused : (found given : List (List ℕ)) (f : WordsFault) → found ≡ given
    → WithOrders (λ names. IsRefused (faults_in names found) (job_of names found) (misfits_in names found) f)
    → AreNoJob given f
refused found given f e h = subst (λ words. AreNoJob words f) e h
