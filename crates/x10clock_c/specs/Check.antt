-- The verdict on a source text, as numbers. This project's own.
use Rattle.std.specs.Prelude.{◌≡◌, ℕ, ◌⊎◌, List, Option, None, Some}
use Rattle.xk_types.specs.Acceptance.{IsAccepted}
use Rattle.xk_types.specs.Bound.{activities_bound, clocks_bound, steps_bound}
use Rattle.xk_types.specs.Code.{ModuleValue}
use Rattle.xk_types.specs.RuleNames.{rule_number}
use Rattle.xk_types.specs.declared.rules.Rule.{Rule}
use Rattle.xk_bounds.specs.declared.refusal.Refusal.{Refusal}
use Rattle.xk_bounds.specs.declared.refusal.Refusal.TheVariants as refusal
use Rattle.xk_jobs.specs.declared.job.Form.TheVariants as form
use Rattle.xk_program.specs.Faults.{GivesNoModule}
use Rattle.xk_program.specs.Programs.{Gives}
use Rattle.xk_program.specs.Refusals.{IsRefusal}
use Rattle.xk_program.specs.declared.fault.Fault.{Fault}
use Rattle.xk_program.specs.declared.fault.Fault.TheVariants as fault
use Rattle.xk_tree.specs.Fault.{front_number}
use Rattle.xk_tree.specs.declared.fault.FrontFault.{FrontFault}
use Rattle.x10clock_c.specs.declared.verdict.Checked.{Checked}
use Rattle.x10clock_c.specs.declared.verdict.Verdict.{Verdict}
use Rattle.x10clock_c.specs.declared.verdict.Verdict.TheVariants as verdict

-- where memory ran out
abbrev pub nothing_told : Checked
nothing_told = record { steps = 0; at = 0; activities = 0; clocks = 0; family = 0; number = 0; unit = 0 }

-- the bounds on the runs of a module
abbrev pub bounds_told : ModuleValue → Checked
bounds_told m = record nothing_told { steps = steps_bound m; activities = activities_bound m; clocks = clocks_bound m }

-- a rule on source texts, at an offset in the text
abbrev pub front_told : FrontFault → Checked
front_told f = record nothing_told { at = f.at; family = 1; number = front_number f.rule }

-- a rule of the verifier's, at an instruction of a unit
abbrev pub rule_told : Rule → ℕ → ℕ → Checked
rule_told r unit at = record nothing_told { at = at; family = 2; number = rule_number r; unit = unit }

-- a bound over its limit has no place
abbrev pub refusal_told : Refusal → Option Checked
refusal_told (refusal.Shape f) = Some (rule_told f.rule f.unit f.at)
refusal_told (refusal.Kind f) = Some (rule_told f.rule f.unit f.at)
refusal_told (refusal.Bound f) = Some (rule_told f.rule 0 0)
refusal_told refusal.OutOfMemory = None

-- a rule that is broken, if the fault is one
abbrev pub fault_told : Fault → Option Checked
fault_told (fault.Front f) = Some (front_told f)
fault_told (fault.Refused r) = refusal_told r
fault_told _ = None

-- the text gives no module, or the verifier refuses the one that it gives; of want of memory nothing is claimed
abbrev pub StandsInText : List ℕ → Fault → Type 0
StandsInText program f = GivesNoModule form.Source program f ⊎ ((m : ModuleValue) × Gives form.Source program m × IsRefusal m f)

-- the text is accepted, and these are the bounds on its runs
abbrev pub AcceptsAs : List ℕ → Checked → Type 0
AcceptsAs program told = (m : ModuleValue) × Gives form.Source program m × IsAccepted m × (told ≡ bounds_told m)

-- the text breaks this rule there
abbrev pub RefusesAs : List ℕ → Checked → Type 0
RefusesAs program told = (f : Fault) × StandsInText program f × (fault_told f ≡ Some told)

-- what the verifier says of the text
abbrev pub IsVerdict : List ℕ → Verdict → Type 0
IsVerdict program (verdict.Accepted told) = AcceptsAs program told
IsVerdict program (verdict.Refused told) = RefusesAs program told
