-- That the answer of `explain` is one to its task, what stands against it stands against the task, and is said of it.
use Rattle.std.proofs.Common.{◌≡◌, ℕ, Bool, true, List, Option, Result, Ok, Err, IfOk, IfErr, inl, inr, refl, sym, ap, subst}
use Rattle.xk_log.specs.SomeBytes.{OfSome}
use Rattle.xk_types.specs.Code.{ModuleValue}
use Rattle.xk_answers.specs.declared.explanation.Refused.{Refused}
use Rattle.xk_answers.specs.declared.job_result.Done.{Done}
use Rattle.xk_answers.specs.Explanation.{IsExplanation}
use Rattle.xk_answers.specs.Refusals.{IsUnaccepted}
use Rattle.xk_answers.specs.Results.{Explain, IsTelling, IsText}
use Rattle.xk_serve.specs.Answer.{FailsBy, IsSaidBy, IsSaidOf, Succeeds, Task, asks_verifier}
use Rattle.xk_serve.specs.Devices.{AgainstLog, read_of}
use Rattle.xk_program.specs.declared.fault.Fault.{Fault}
use Rattle.xk_program.specs.Programs.{Gives}
use Rattle.xk_answers.proofs.LogLemmas.{some_any}
use Rattle.xk_serve.proofs.TaskLemmas.{against_any, no_module_fails, refusal_fails, tells}

pub done_of_verdict : (t : Task) (bytes : List ℕ) (known : Option (List ℕ)) (json : Bool) (r : Result Done Refused) → t.doing ≡ Explain json
    → ((logged : List ℕ) → IfOk r (λ d. (m : ModuleValue) × Gives t.form bytes m × IsText (IsTelling (Explain json) t.form t.file bytes m t.arguments logged) d))
    → IfOk r (λ d. OfSome (read_of t known) (λ logged. Succeeds t bytes logged d))
done_of_verdict t bytes known json (Ok d) is h =
    some_any _ (read_of t known) (λ logged. tells t bytes logged (h logged).0 (Explain json) t.arguments d is refl (h logged).1 (h logged).2)
done_of_verdict t bytes known json (Err x) is h = tt

unaccepted_fails : (t : Task) (bytes : List ℕ) (f : Fault) → asks_verifier t.doing ≡ true → IsUnaccepted t.form bytes f
    → (logged : List ℕ) → FailsBy t bytes logged f
unaccepted_fails t bytes f asks (inl h) logged = no_module_fails t bytes f h logged
unaccepted_fails t bytes f asks (inr h) logged = refusal_fails t bytes logged h.0 f asks h.1 h.2

-- no log is read for it
pub against_verdict : (t : Task) (bytes : List ℕ) (known : Option (List ℕ)) (n : ℕ) (json : Bool) (r : Result Done Refused)
    → t.doing ≡ Explain json → IfErr r (λ x. IsUnaccepted t.form bytes x.fault) → IfErr r (λ x. AgainstLog t bytes known n n x.fault)
against_verdict t bytes known n json (Ok d) is h = tt
against_verdict t bytes known n json (Err x) is h =
    against_any t bytes known n n x.fault refl (unaccepted_fails t bytes x.fault (ap asks_verifier is) h)

pub said_of_verdict : (t : Task) (bytes : List ℕ) (json : Bool) (r : Result Done Refused) → t.doing ≡ Explain json
    → IfErr r (λ x. IsExplanation json t.form t.file bytes x.fault x.said.items) → IfErr r (λ x. IsSaidOf t bytes x.fault x.said.items)
said_of_verdict t bytes json (Ok d) is h = tt
said_of_verdict t bytes json (Err x) is h = subst (λ what. IsSaidBy what t.form t.file bytes x.fault x.said.items) (sym is) h
