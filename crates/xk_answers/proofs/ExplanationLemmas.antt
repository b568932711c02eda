-- Of want of memory and of devices nothing is said on standard output.
use Rattle.std.proofs.Common.{◌≡◌, ℕ, Bool, true, false, List, [], Option, Some, None}
use Rattle.xk_bounds.specs.declared.refusal.Refusal.TheVariants as refusal
use Rattle.xk_unit_origins.specs.UnitOrigins.{UnitOrigins}
use Rattle.xk_explain.specs.Notes.{NoteValue}
use Rattle.xk_explain_bounds.specs.Notes.{module_notes, refusal_notes}
use Rattle.xk_answers.specs.Explanation.{plain_said, refusal_said, source_said}
use Rattle.xk_program.specs.Origins.{Program}

-- want of memory, told by whomever
plain_unsaid : (json : Bool) (file said : List ℕ) (notes : List NoteValue) → said ≡ plain_said json file refusal.OutOfMemory notes → said ≡ []
plain_unsaid false file said notes h = h
plain_unsaid true file said notes h = h

source_unsaid : (json : Bool) (file bytes said : List ℕ) (origins : List UnitOrigins) (notes : List NoteValue)
    → said ≡ source_said json file bytes refusal.OutOfMemory origins notes → said ≡ []
source_unsaid false file bytes said origins notes h = h
source_unsaid true file bytes said origins notes h = h

pub unsaid : (json : Bool) (file bytes said : List ℕ) (p : Option Program) → said ≡ refusal_said json file bytes refusal.OutOfMemory p → said ≡ []
unsaid json file bytes said None h = plain_unsaid json file said [] h
unsaid json file bytes said (Some (m, None)) h = plain_unsaid json file said (module_notes m refusal.OutOfMemory) h
unsaid json file bytes said (Some (m, Some origins)) h = source_unsaid json file bytes said origins (refusal_notes m origins refusal.OutOfMemory) h
