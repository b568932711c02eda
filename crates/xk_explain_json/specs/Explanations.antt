-- What `explain --json` says of a program: one JSON object. Its members come in groups, of which refusals of one sort share some. This project's own.
use Rattle.std.specs.Prelude.{ℕ, min, nat_eq, Bool, true, false, List, [], ◌∷◌, ◌++◌, length, Option, Some, None, slice_get, codes, decimal}
use Rattle.std.specs.Prelude.{if◌then◌else◌}
use Rattle.std.specs.Option.{option_map_or}
use Rattle.serde_json.specs.Data.{Data, null, boolean, string}
use Rattle.xk_types.specs.declared.rules.Rule.{Rule}
use Rattle.xk_types.specs.declared.rules.Kind.{Kind}
use Rattle.xk_types.specs.declared.rules.Visit.{Visit}
use Rattle.xk_types.specs.RuleNames.{rule_number, rule_name, kind_name}
use Rattle.xk_tree.specs.declared.fault.FrontFault.{FrontFault}
use Rattle.xk_tree.specs.Fault.{front_number, front_name}
use Rattle.xk_shape.specs.declared.fault.ShapeFault.{ShapeFault}
use Rattle.xk_typestate.specs.declared.fault.KindFault.{KindFault}
use Rattle.xk_bounds.specs.declared.refusal.BoundFault.{BoundFault}
use Rattle.xk_bounds.specs.declared.refusal.Refusal.{Refusal}
use Rattle.xk_bounds.specs.declared.refusal.Refusal.TheVariants as refusal
use Rattle.xk_lines.specs.declared.lines.Position.{Position}
use Rattle.xk_lines.specs.Lines.{position_of}
use Rattle.xk_unit_origins.specs.UnitOrigins.{Head, UnitOrigins}
use Rattle.xk_explain.specs.declared.module_rule.ModuleRule.{ModuleRule}
use Rattle.xk_explain.specs.Messages.{front_message, kind_message, module_message, module_name, module_number, module_repair, rule_message}
use Rattle.xk_explain.specs.Messages.{rule_repair, source_message}
use Rattle.xk_explain.specs.FrontRepairs.{repair_of}
use Rattle.xk_explain.specs.Explanations.{has_place, shown_at}
use Rattle.xk_explain.specs.SourceExplanations.{is_name, mark_end, origin_at, slot_name}
use Rattle.xk_explain.specs.Notes.{NoteValue, place_title}
use Rattle.xk_json.specs.Objects.{array_of, bytes_value, number_value, object_of, Group}

-- ---- groups of members

-- a refusal: the file, the rule by its number and its name, and what is wrong
abbrev pub refused : List ℕ → List ℕ → List ℕ → List ℕ → Group
refused file rule name message =
    (codes "accepted", boolean false)
    ∷ (codes "file", string file)
    ∷ (codes "message", string message)
    ∷ (codes "name", string name)
    ∷ (codes "rule", string rule)
    ∷ []

-- how it is usually repaired
abbrev pub repair_member : List ℕ → Group
repair_member repair = (codes "repair", string repair) ∷ []

-- by a rule on source texts
abbrev pub refused_by_front : List ℕ → FrontFault → Group
refused_by_front file f = refused file (codes "F" ++ decimal (front_number f.rule)) (front_name f.rule) (front_message f.rule)

-- with the repair for what stands there
abbrev pub front_repair_member : List ℕ → FrontFault → List NoteValue → Group
front_repair_member text f notes = (codes "repair", bytes_value (repair_of text f.rule (shown_at text f) notes)) ∷ []

-- by a rule on module texts
abbrev pub refused_by_module : List ℕ → ModuleRule → Group
refused_by_module file r =
    refused file (codes "M" ++ decimal (module_number r)) (module_name r) (module_message r) ++ repair_member (module_repair r)

-- by a rule of the verifier, with what is wrong
abbrev pub refused_by : List ℕ → Rule → List ℕ → Group
refused_by file r message = refused file (codes "V" ++ decimal (rule_number r)) (rule_name r) message ++ repair_member (rule_repair r)

abbrev pub position_members : Position → Group
position_members p = (codes "column", number_value p.column) ∷ (codes "line", number_value p.line) ∷ []

abbrev pub end_members : Position → Group
end_members p = (codes "end_column", number_value p.column) ∷ (codes "end_line", number_value p.line) ∷ []

-- where an offset lies, and where that ends which carets mark from there on
abbrev pub place_members : List ℕ → ℕ → Group
place_members text at = position_members (position_of text at) ++ end_members (position_of text (mark_end text at))

-- the same no further than where the text ends
abbrev pub place_in : List ℕ → ℕ → Group
place_in text at = place_members text (min at (length text))

-- ---- notes

abbrev pub words : List ℕ → Group
words text = (codes "text", bytes_value text) ∷ []

-- what is told beside a fault, with its place in the text, if it has one
abbrev pub note_in : List ℕ → NoteValue → Data
note_in text n = object_of (option_map_or (place_in text) n.at [] ∷ words n.text ∷ [])

-- the same where there is no source text
abbrev pub note_alone : NoteValue → Data
note_alone n = object_of (words n.text ∷ [])

abbrev pub notes_in : List ℕ → List NoteValue → Group
notes_in text notes = (codes "notes", array_of (note_in text) notes) ∷ []

abbrev pub notes_alone : List NoteValue → Group
notes_alone notes = (codes "notes", array_of note_alone notes) ∷ []

-- ---- source texts

-- where a fault is shown; a text that is too long has no such place, nor has a method that isn't there
abbrev pub front_place : List ℕ → FrontFault → Group
front_place text f = if has_place f.rule then place_members text (shown_at text f) else []

abbrev pub front_groups : List ℕ → List ℕ → FrontFault → List NoteValue → List Group
front_groups file text f notes = notes_in text notes ∷ refused_by_front file f ∷ front_repair_member text f notes ∷ front_place text f ∷ []

-- all that is said of a fault of a source text
abbrev pub front_value : List ℕ → List ℕ → FrontFault → List NoteValue → Data
front_value file text f notes = object_of (front_groups file text f notes)

-- a fault, and the notes on it
abbrev pub FindingValue : Type 0
FindingValue = FrontFault × List NoteValue

abbrev pub finding_value : List ℕ → List ℕ → FindingValue → Data
finding_value file text x = front_value file text x.0 x.1

-- faults behind the first, if there are such, and whether there are more behind them
abbrev pub further_members : List ℕ → List ℕ → List FindingValue → Bool → Group
further_members file text further more =
    if nat_eq (length further) 0 then [] else
    (codes "further", array_of (finding_value file text) further) ∷ (codes "more", boolean more) ∷ []

-- all that is said of a fault of a source text, and of faults behind it
abbrev pub fronts_value : List ℕ → List ℕ → FrontFault → List NoteValue → List FindingValue → Bool → Data
fronts_value file text f notes further more = object_of (further_members file text further more ∷ front_groups file text f notes)

-- ---- module texts

-- all that is said of bytes that are no module, by the rule that they break
abbrev pub module_value : List ℕ → ModuleRule → Data
module_value file r = object_of (refused_by_module file r ∷ [])

-- ---- programs that the verifier refuses, by unit and place

-- the instruction that is refused
abbrev pub instruction_members : ℕ → ℕ → Group
instruction_members unit at = (codes "place", number_value at) ∷ (codes "unit", number_value unit) ∷ []

-- the slot in question, and what it may hold there
abbrev pub slot_members : ℕ → Kind → Group
slot_members slot k =
    (codes "holds", string (kind_message k)) ∷ (codes "kind", string (kind_name k)) ∷ (codes "slot", number_value slot) ∷ []

-- one stop of a walk: the instruction, and the slot's kind before it
abbrev pub stop_members : Visit → Group
stop_members v = (codes "kind", string (kind_name v.kind)) ∷ (codes "place", number_value v.at) ∷ []

abbrev pub stop_alone : Visit → Data
stop_alone v = object_of (stop_members v ∷ [])

abbrev pub walk_alone : List Visit → Group
walk_alone walk = (codes "walk", array_of stop_alone walk) ∷ []

-- the most that a rule on sums allows
abbrev pub limit_member : ℕ → Group
limit_member limit = (codes "limit", number_value limit) ∷ []

abbrev pub shape_groups : List ℕ → ShapeFault → List Group
shape_groups file f = refused_by file f.rule (rule_message f.rule) ∷ instruction_members f.unit f.at ∷ []

abbrev pub kind_groups : List ℕ → KindFault → List Group
kind_groups file f =
    refused_by file f.rule (rule_message f.rule)
    ∷ instruction_members f.unit f.at
    ∷ slot_members f.slot f.kind
    ∷ walk_alone f.walk.items
    ∷ []

abbrev pub bound_groups : List ℕ → BoundFault → List Group
bound_groups file f = refused_by file f.rule (rule_message f.rule) ∷ limit_member f.limit ∷ []

abbrev pub refusal_groups : List ℕ → Refusal → List Group
refusal_groups file (refusal.Shape f) = shape_groups file f
refusal_groups file (refusal.Kind f) = kind_groups file f
refusal_groups file (refusal.Bound f) = bound_groups file f
refusal_groups file refusal.OutOfMemory = []

abbrev pub is_memory : Refusal → Bool
is_memory (refusal.Shape f) = false
is_memory (refusal.Kind f) = false
is_memory (refusal.Bound f) = false
is_memory refusal.OutOfMemory = true

-- of want of memory nothing is said
abbrev pub unless_memory : Refusal → Data → Option Data
unless_memory r d = if is_memory r then None else Some d

-- all that is said of what the verifier has against a module
abbrev pub refusal_value : List ℕ → Refusal → List NoteValue → Option Data
refusal_value file r notes = unless_memory r (object_of (notes_alone notes ∷ refusal_groups file r))

-- ---- the same in the lines and names of a source text

-- a method by its name, a body by the place of its `async`
abbrev pub unit_name : List ℕ → Head → List ℕ
unit_name text h = option_map_or (λ name. name) h.name (codes "async at " ++ place_title (position_of text (min h.at (length text))))

-- the unit by its name, and where the instruction comes from
abbrev pub origin_members : List ℕ → UnitOrigins → ℕ → Group
origin_members text u at = (codes "in", bytes_value (unit_name text u.head)) ∷ place_members text (origin_at text u at)

-- the name of the slot in question, if it has one in the text
abbrev pub slot_name_value : List ℕ → Data
slot_name_value name = if is_name name then bytes_value name else null

abbrev pub slot_name_member : List (List ℕ) → ℕ → Group
slot_name_member names slot = (codes "slot_name", slot_name_value (slot_name names slot)) ∷ []

abbrev pub stop_in : List ℕ → UnitOrigins → Visit → Data
stop_in text u v = object_of (position_members (position_of text (origin_at text u v.at)) ∷ stop_members v ∷ [])

abbrev pub walk_in : List ℕ → UnitOrigins → List Visit → Group
walk_in text u walk = (codes "walk", array_of (stop_in text u) walk) ∷ []

abbrev pub shape_in_source : List ℕ → List ℕ → ShapeFault → UnitOrigins → List Group
shape_in_source file text f u =
    refused_by file f.rule (source_message f.rule) ∷ instruction_members f.unit f.at ∷ origin_members text u f.at ∷ []

abbrev pub kind_in_source : List ℕ → List ℕ → KindFault → UnitOrigins → List Group
kind_in_source file text f u =
    refused_by file f.rule (source_message f.rule)
    ∷ instruction_members f.unit f.at
    ∷ origin_members text u f.at
    ∷ slot_members f.slot f.kind
    ∷ slot_name_member u.slots f.slot
    ∷ walk_in text u f.walk.items
    ∷ []

-- (Each unit has origins; of one that hadn't, the refusal would be told by its number.)
abbrev pub source_groups : List ℕ → List ℕ → List UnitOrigins → Refusal → List Group
source_groups file text origins (refusal.Shape f) =
    option_map_or (shape_in_source file text f) (slice_get origins f.unit) (shape_groups file f)
source_groups file text origins (refusal.Kind f) =
    option_map_or (kind_in_source file text f) (slice_get origins f.unit) (kind_groups file f)
source_groups file text origins (refusal.Bound f) = bound_groups file f
source_groups file text origins refusal.OutOfMemory = []

-- all that is said of what the verifier has against the module of a source text, whose units have these origins
abbrev pub source_value : List ℕ → List ℕ → List UnitOrigins → Refusal → List NoteValue → Option Data
source_value file text origins r notes = unless_memory r (object_of (notes_in text notes ∷ source_groups file text origins r))

-- ---- programs that are accepted

-- the most that a run takes, starts and makes
abbrev pub accepted : List ℕ → ℕ → ℕ → ℕ → Group
accepted file steps activities clocks =
    (codes "accepted", boolean true)
    ∷ (codes "activities", number_value activities)
    ∷ (codes "clocks", number_value clocks)
    ∷ (codes "file", string file)
    ∷ (codes "steps", number_value steps)
    ∷ []

-- notes, with their places where there is a source text
abbrev pub notes_of : Option (List ℕ) → List NoteValue → Group
notes_of None notes = notes_alone notes
notes_of (Some text) notes = notes_in text notes

-- all that is said of a program that is accepted
abbrev pub accepted_value : List ℕ → Option (List ℕ) → ℕ → ℕ → ℕ → List NoteValue → Data
accepted_value file text steps activities clocks notes = object_of (notes_of text notes ∷ accepted file steps activities clocks ∷ [])
