-- What `explain` says of a fault, and that its answer is one to its task.
use Rattle.std.proofs.Common.{◌≡◌, ℕ, Bool, List, [], Some, Result, Ok, Err, IfOk, OnErr, sym, subst}
use Rattle.xk_bounds.specs.declared.refusal.Refusal.{Refusal}
use Rattle.xk_bounds.specs.declared.refusal.Refusal.TheVariants as refusal
use Rattle.xk_jobs.specs.declared.job.Form.{Form}
use Rattle.xk_answers.specs.declared.explanation.Refused.{Refused}
use Rattle.xk_program.specs.declared.fault.Fault.{Fault}
use Rattle.xk_program.specs.declared.fault.Fault.TheVariants as fault
use Rattle.xk_program.specs.Origins.{GiveProgram, Program}
use Rattle.xk_answers.specs.Explanation.{IsExplanation, refusal_said}
use Rattle.xk_program.specs.Faults.{of_refusal}
use Rattle.xk_answers.proofs.ExplanationLemmas.{unsaid}

-- what holds of a fault with its text, and of want of memory with none, holds of a fault that is told with its text, or as want of memory
pub told_so : {V E : Type 0} (items : V → List ℕ) (P : Fault → List ℕ → Type 0) (f : Fault) (said : Result V E) (r : Refused) → P fault.OutOfMemory []
    → IfOk said (λ s. P f (items s)) → IfOk said (λ s. (r.fault ≡ f) × (r.said.items ≡ items s))
    → OnErr said ((r.fault ≡ fault.OutOfMemory) × (r.said.items ≡ [])) → P r.fault r.said.items
told_so items P f (Ok s) r none h told memory = subst (λ x. P x r.said.items) (sym told.0) (subst (P f) (sym told.1) h)
told_so items P f (Err e) r none h told memory = subst (λ x. P x r.said.items) (sym memory.0) (subst (P fault.OutOfMemory) (sym memory.1) none)

pub always : {V E P : Type 0} (r : Result V E) → P → IfOk r (λ s. P)
always (Ok s) h = h
always (Err e) h = tt

-- ---- what is said

pub refusal_explained : (json : Bool) (kind : Form) (file bytes said : List ℕ) (r : Refusal) (p : Program) → GiveProgram kind bytes (Some p)
    → said ≡ refusal_said json file bytes r (Some p) → IsExplanation json kind file bytes (of_refusal r) said
refusal_explained json kind file bytes said (refusal.Shape f) p given h = (Some p, given, h)
refusal_explained json kind file bytes said (refusal.Kind f) p given h = (Some p, given, h)
refusal_explained json kind file bytes said (refusal.Bound f) p given h = (Some p, given, h)
refusal_explained json kind file bytes said refusal.OutOfMemory p given h = unsaid json file bytes said (Some p) h
