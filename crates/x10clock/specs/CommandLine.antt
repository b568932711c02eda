-- What the program makes of words, and of files that it can't open. This project's own.
use Rattle.std.specs.Prelude.{◌≡◌, ◌⊎◌, ℕ, List, [], Option, Some, codes}
use Rattle.std.specs.IoError.{error_kind}
use Rattle.std.specs.declared.io.Error.{Error}
use Rattle.std.specs.declared.io.ErrorKind.TheVariants as kind
use Rattle.xk_jobs.specs.Tasks.{Asked, ByHand, asked_value}
use Rattle.xk_cli.specs.CommandLine.{IsRefused, WithOrders, faults_in, job_of, misfits_in}
use Rattle.xk_jobs.specs.declared.job.Request.{Request}
use Rattle.xk_cli.specs.declared.words_fault.WordsFault.{WordsFault}
use Rattle.xk_cli.specs.declared.words_fault.WordsFault.TheVariants as words

-- the system had no memory for what was asked of it
abbrev pub IsWantOfMemory : Error → Type 0
IsWantOfMemory e = error_kind e ≡ kind.OutOfMemory

-- the line where a word is no text
abbrev pub no_text_line : List ℕ
no_text_line = codes "x10clock: a word is not in UTF-8\n"

-- `clap` finds no mistake in these words, and no request for help
abbrev pub AreUnderstood : List (List ℕ) → Type 0
AreUnderstood given = WithOrders (λ names. faults_in names given ≡ [])

-- these words ask for this, of which that holds
abbrev pub AskFor : List (List ℕ) → (Request → Type 0) → Type 0
AskFor given P = AreUnderstood given × WithOrders (λ names. (r : Request) × (job_of names given ≡ Some (asked_value r)) × P r)

-- they ask for a run by hand
abbrev pub AskForHand : List (List ℕ) → Type 0
AskForHand given = AreUnderstood given × WithOrders (λ names. (job : Asked) × (log : Option (List ℕ)) × (job_of names given ≡ Some job) × (job.task ≡ ByHand log))

-- they are no job, for this reason
abbrev pub AreNoJob : List (List ℕ) → WordsFault → Type 0
AreNoJob given f = WithOrders (λ names. IsRefused (faults_in names given) (job_of names given) (misfits_in names given) f)

-- What words ask for is served so; words that ask for no job are told as that, for a reason that they have; or want of memory is told.
abbrev pub AreTold : List (List ℕ) → (Request → Type 0) → (WordsFault → Type 0) → Type 0
AreTold given Served Told = AskFor given Served ⊎ (((f : WordsFault) × AreNoJob given f × Told f) ⊎ Told words.OutOfMemory)
