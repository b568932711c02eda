-- Of want of memory and of devices nothing is said on standard output.
use Rattle.std.proofs.Common.{ℕ, Bool, List, inl, inr}
use Rattle.xk_bounds.specs.declared.refusal.Refusal.TheVariants as refusal
use Rattle.xk_jobs.specs.declared.job.Form.{Form}
use Rattle.xk_module.specs.declared.fault.ModuleFault.TheVariants as text
use Rattle.xk_program.specs.declared.fault.Fault.{Fault}
use Rattle.xk_program.specs.declared.fault.Fault.TheVariants as fault
use Rattle.xk_answers.specs.Results.{Check, Compile, Count, Doing, Draw, Expected, Explain, Listing}
use Rattle.xk_answers.specs.Results.{Json, OutcomePage, Outcomes, Races, Replay, Run, Tally, Where}
use Rattle.xk_serve.specs.Answer.{IsSaidBy, IsSaidOf, Task}
use Rattle.xk_answers.specs.Explanation.{IsExplanation}
use Rattle.xk_serve.specs.Devices.{IsQuiet}
use Rattle.xk_answers.proofs.ExplanationLemmas.{unsaid}

quiet_explanation : (json : Bool) (kind : Form) (file bytes said : List ℕ) (f : Fault) → IsExplanation json kind file bytes f said → IsQuiet f said
quiet_explanation json kind file bytes said (fault.Text text.NotJson) h (inl e) = cc
quiet_explanation json kind file bytes said (fault.Text text.NotJson) h (inr e) = cc
quiet_explanation json kind file bytes said (fault.Text text.NotAModule) h (inl e) = cc
quiet_explanation json kind file bytes said (fault.Text text.NotAModule) h (inr e) = cc
quiet_explanation json kind file bytes said (fault.Text text.Limit) h (inl e) = cc
quiet_explanation json kind file bytes said (fault.Text text.Limit) h (inr e) = cc
quiet_explanation json kind file bytes said (fault.Text text.OutOfMemory) h e = h
quiet_explanation json kind file bytes said (fault.Front f) h (inl e) = cc
quiet_explanation json kind file bytes said (fault.Front f) h (inr e) = cc
quiet_explanation json kind file bytes said (fault.Refused (refusal.Shape r)) h (inl e) = cc
quiet_explanation json kind file bytes said (fault.Refused (refusal.Shape r)) h (inr e) = cc
quiet_explanation json kind file bytes said (fault.Refused (refusal.Kind r)) h (inl e) = cc
quiet_explanation json kind file bytes said (fault.Refused (refusal.Kind r)) h (inr e) = cc
quiet_explanation json kind file bytes said (fault.Refused (refusal.Bound r)) h (inl e) = cc
quiet_explanation json kind file bytes said (fault.Refused (refusal.Bound r)) h (inr e) = cc
quiet_explanation json kind file bytes said (fault.Refused refusal.OutOfMemory) h e = unsaid json file bytes said h.0 h.2
quiet_explanation json kind file bytes said (fault.Arguments wants has) h e = h
quiet_explanation json kind file bytes said (fault.Grammar line) h e = h
quiet_explanation json kind file bytes said fault.Truncated h e = h
quiet_explanation json kind file bytes said (fault.NotEnabled i) h e = h
quiet_explanation json kind file bytes said fault.NotEnded h e = h
quiet_explanation json kind file bytes said (fault.NoOutcome line) h e = h
quiet_explanation json kind file bytes said fault.OutOfMemory h e = h
quiet_explanation json kind file bytes said fault.Device h e = h

quiet_by : (what : Doing) (kind : Form) (file bytes said : List ℕ) (f : Fault) → IsSaidBy what kind file bytes f said → IsQuiet f said
quiet_by (Explain json) kind file bytes said f h = quiet_explanation json kind file bytes said f h
quiet_by Check kind file bytes said f h = λ e. h
quiet_by Compile kind file bytes said f h = λ e. h
quiet_by Listing kind file bytes said f h = λ e. h
quiet_by (Run way kept) kind file bytes said f h = λ e. h
quiet_by Replay kind file bytes said f h = λ e. h
quiet_by (Draw picture) kind file bytes said f h = λ e. h
quiet_by (Where json at) kind file bytes said f h = λ e. h
quiet_by (Races json) kind file bytes said f h = λ e. h
quiet_by (Tally seed runs) kind file bytes said f h = λ e. h
quiet_by (OutcomePage window limit pick) kind file bytes said f h = λ e. h
quiet_by (Outcomes sets limit pick kept) kind file bytes said f h = λ e. h
quiet_by (Count sets limit) kind file bytes said f h = λ e. h
quiet_by (Expected sets limit) kind file bytes said f h = λ e. h
quiet_by (Json s) kind file bytes said f h = λ e. h

pub quiet_of : (t : Task) (bytes : List ℕ) (f : Fault) (said : List ℕ) → IsSaidOf t bytes f said → IsQuiet f said
quiet_of t bytes f said h = quiet_by t.doing t.form t.file bytes said f h
