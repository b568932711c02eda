-- The notes on what the verifier says of a module: beside what it refuses, where else that comes from; and of a sum its parts. This project's own.
use Rattle.std.specs.Prelude.{List, [], Some, None, map}
use Rattle.std.specs.Option.{option_map_or}
use Rattle.xk_types.specs.Code.{ModuleValue}
use Rattle.xk_bounds.specs.declared.refusal.Refusal.{Refusal}
use Rattle.xk_bounds.specs.declared.refusal.Refusal.TheVariants as refusal
use Rattle.xk_unit_origins.specs.UnitOrigins.{UnitOrigins}
use Rattle.xk_explain.specs.Notes.{NoteValue}
use Rattle.xk_explain_bounds.specs.declared.remark.Remark.{Remark}
use Rattle.xk_explain_bounds.specs.declared.remark.Subject.TheVariants as subject
use Rattle.xk_explain_bounds.specs.OtherPlaces.{kind_remarks, shape_remarks}
use Rattle.xk_explain_bounds.specs.Parts.{subject_of, sum_remarks}
use Rattle.xk_explain_bounds.specs.Words.{note_of}

-- what is told beside a refusal; of want of memory nothing
abbrev pub refusal_remarks : ModuleValue → Refusal → List Remark
refusal_remarks m (refusal.Shape f) = shape_remarks m f
refusal_remarks m (refusal.Kind f) = kind_remarks m f
refusal_remarks m (refusal.Bound f) = option_map_or (λ s. sum_remarks s m) (subject_of f.rule) []
refusal_remarks m refusal.OutOfMemory = []

-- the notes on what the verifier has against a module whose units have these origins
abbrev pub refusal_notes : ModuleValue → List UnitOrigins → Refusal → List NoteValue
refusal_notes m origins r = map (note_of origins) (refusal_remarks m r)

-- where it isn't known where they come from: by unit and place
abbrev pub module_notes : ModuleValue → Refusal → List NoteValue
module_notes m r = refusal_notes m [] r

-- the notes on the numbers of a module that is accepted
abbrev pub accepted_notes : ModuleValue → List UnitOrigins → List NoteValue
accepted_notes m origins = map (note_of origins) (sum_remarks subject.Accepted m)
