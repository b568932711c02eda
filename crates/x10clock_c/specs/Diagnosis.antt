-- The verdict on a source text, with the line and the column of what is wrong. This project's own.
use Rattle.std.specs.Prelude.{◌≡◌, ℕ, ◌⊎◌, List, Option, None, Some, option_and_then, option_map, slice_get, if◌then◌else◌}
use Rattle.std.specs.Option.{option_map_or}
use Rattle.xk_types.specs.Acceptance.{IsAccepted}
use Rattle.xk_types.specs.Code.{ModuleValue}
use Rattle.xk_bounds.specs.declared.refusal.Refusal.{Refusal}
use Rattle.xk_bounds.specs.declared.refusal.Refusal.TheVariants as refusal
use Rattle.xk_jobs.specs.declared.job.Form.TheVariants as form
use Rattle.xk_lines.specs.declared.lines.Position.{Position}
use Rattle.xk_lines.specs.Lines.{position_of}
use Rattle.xk_unit_origins.specs.UnitOrigins.{UnitOrigins}
use Rattle.xk_explain.specs.Explanations.{has_place, shown_at}
use Rattle.xk_explain.specs.SourceExplanations.{origin_at}
use Rattle.xk_program.specs.Faults.{GivesNoModule}
use Rattle.xk_program.specs.Origins.{HaveOrigins}
use Rattle.xk_program.specs.Programs.{Gives}
use Rattle.xk_program.specs.Refusals.{IsRefusal}
use Rattle.xk_program.specs.declared.fault.Fault.{Fault}
use Rattle.xk_program.specs.declared.fault.Fault.TheVariants as fault
use Rattle.xk_tree.specs.declared.fault.FrontFault.{FrontFault}
use Rattle.x10clock_c.specs.Check.{bounds_told, front_told, nothing_told, refusal_told}
use Rattle.x10clock_c.specs.declared.verdict.Checked.{Checked}
use Rattle.x10clock_c.specs.declared.diagnosis.Diagnosis.{Diagnosis}
use Rattle.x10clock_c.specs.declared.diagnosis.Diagnosed.{Diagnosed}
use Rattle.x10clock_c.specs.declared.diagnosis.Diagnosed.TheVariants as diagnosed

-- ---- where it is shown, as `explain` shows it

-- a fault of a text; a text that is too long has no place, nor has a method that isn't there
abbrev pub front_position : List ℕ → FrontFault → Option Position
front_position text f = if has_place f.rule then Some (position_of text (shown_at text f)) else None

-- what an instruction of a unit comes from
abbrev pub code_position : List ℕ → Option (List UnitOrigins) → ℕ → ℕ → Option Position
code_position text origins unit at =
    option_map (λ u. position_of text (origin_at text u at)) (option_and_then (λ units. slice_get units unit) origins)

-- a fault of a module; a bound over its limit has no place
abbrev pub refusal_position : List ℕ → Option (List UnitOrigins) → Refusal → Option Position
refusal_position text origins (refusal.Shape f) = code_position text origins f.unit f.at
refusal_position text origins (refusal.Kind f) = code_position text origins f.unit f.at
refusal_position text origins (refusal.Bound f) = None
refusal_position text origins refusal.OutOfMemory = None

-- ---- what is told

-- the verdict, and the line and the column of this place, or 0 where there is none
abbrev pub placed : Checked → Option Position → Diagnosis
placed told p = record {
  steps = told.steps;
  at = told.at;
  line = option_map_or (λ q. q.line) p 0;
  column = option_map_or (λ q. q.column) p 0;
  activities = told.activities;
  clocks = told.clocks;
  family = told.family;
  number = told.number;
  unit = told.unit;
}

-- where memory ran out
abbrev pub nothing_diagnosed : Diagnosis
nothing_diagnosed = placed nothing_told None

-- the text is accepted, and these are the bounds on its runs
abbrev pub AcceptsSo : List ℕ → Diagnosis → Type 0
AcceptsSo program told = (m : ModuleValue) × Gives form.Source program m × IsAccepted m × (told ≡ placed (bounds_told m) None)

-- the text gives no module, for it breaks this rule there
abbrev pub IsFrontDiagnosis : List ℕ → Diagnosis → Type 0
IsFrontDiagnosis program told =
    (f : FrontFault) × GivesNoModule form.Source program (fault.Front f) × (told ≡ placed (front_told f) (front_position program f))

-- the text gives a module whose instructions have these origins, and this stands against it
abbrev pub RefusesCode : List ℕ → Option (List UnitOrigins) → Fault → Type 0
RefusesCode program origins f = (m : ModuleValue) × Gives form.Source program m × HaveOrigins form.Source program origins × IsRefusal m f

-- the verifier refuses the text's module, whose instructions have these origins
pub record IsCodeDiagnosis (program : List ℕ) (told : Diagnosis) : Type 0 where
  pub origins : Option (List UnitOrigins)
  pub found : Refusal
  pub refuses : RefusesCode program origins (fault.Refused found)
  pub checked : Checked
  pub rule : refusal_told found ≡ Some checked
  pub is : told ≡ placed checked (refusal_position program origins found)

-- the text breaks this rule there
abbrev pub RefusesSo : List ℕ → Diagnosis → Type 0
RefusesSo program told = IsFrontDiagnosis program told ⊎ IsCodeDiagnosis program told

-- what is found out about the text
abbrev pub IsDiagnosed : List ℕ → Diagnosed → Type 0
IsDiagnosed program (diagnosed.Accepted told) = AcceptsSo program told
IsDiagnosed program (diagnosed.Refused told) = RefusesSo program told
