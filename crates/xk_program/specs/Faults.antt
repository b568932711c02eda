-- What stands against a job, of what the readers, the compiler or the verifier say. Want of memory is one fault, whoever met it. This
-- project's own.
use Rattle.std.specs.Prelude.{◌≡◌, ℕ, ⊤, List}
use Rattle.xk_jobs.specs.declared.job.Form.{Form}
use Rattle.xk_jobs.specs.declared.job.Form.TheVariants as forms
use Rattle.xk_module.specs.declared.fault.ModuleFault.{ModuleFault}
use Rattle.xk_module.specs.declared.fault.ModuleFault.TheVariants as text
use Rattle.xk_tree.specs.declared.fault.FrontError.{FrontError}
use Rattle.xk_tree.specs.declared.fault.FrontError.TheVariants as error
use Rattle.xk_log.specs.declared.fault.LogFault.{LogFault}
use Rattle.xk_log.specs.declared.fault.LogFault.TheVariants as log
use Rattle.xk_replay.specs.declared.fault.ReplayFault.{ReplayFault}
use Rattle.xk_replay.specs.declared.fault.ReplayFault.TheVariants as replay
use Rattle.xk_bounds.specs.declared.refusal.Refusal.{Refusal}
use Rattle.xk_bounds.specs.declared.refusal.Refusal.TheVariants as refusal
use Rattle.xk_program.specs.declared.fault.Fault.{Fault}
use Rattle.xk_program.specs.declared.fault.Fault.TheVariants as fault
use Rattle.xk_program.specs.Programs.{IsNoModule, IsNoSource}

abbrev pub of_text : ModuleFault → Fault
of_text text.OutOfMemory = fault.OutOfMemory
of_text f = fault.Text f

abbrev pub of_front : FrontError → Fault
of_front (error.Fault f) = fault.Front f
of_front error.OutOfMemory = fault.OutOfMemory

abbrev pub of_refusal : Refusal → Fault
of_refusal refusal.OutOfMemory = fault.OutOfMemory
of_refusal r = fault.Refused r

abbrev pub of_log : LogFault → Fault
of_log log.Device = fault.Device
of_log log.OutOfMemory = fault.OutOfMemory
of_log (log.Grammar line) = fault.Grammar line
of_log log.Truncated = fault.Truncated

abbrev pub of_replay : ReplayFault → Fault
of_replay replay.OutOfMemory = fault.OutOfMemory
of_replay (replay.NotEnabled entry) = fault.NotEnabled entry
of_replay replay.NotEnded = fault.NotEnded

-- the bytes of such a text give no module, for this reason; of want of memory nothing is claimed
abbrev pub GivesNoModule : Form → List ℕ → Fault → Type 0
GivesNoModule form bytes (fault.Text f) = (form ≡ forms.Module) × IsNoModule bytes f
GivesNoModule form bytes (fault.Front f) = (form ≡ forms.Source) × IsNoSource bytes f
GivesNoModule form bytes fault.OutOfMemory = ⊤
GivesNoModule form bytes _ = ⊥
