-- What `explain` says of a source text that the verifier refuses: in the text's own lines and names. This project's own.
use Rattle.std.specs.Prelude.{ℕ, ◌+◌, nat_eq, nat_le, Bool, false, not, List, [], ◌∷◌, ◌++◌, length, take, drop, min, Option, Some, None}
use Rattle.std.specs.Prelude.{slice_get, unwrap_or, codes, if◌then◌else◌}
use Rattle.std.specs.List.{list_any}
use Rattle.std.specs.Option.{option_map_or}
use Rattle.xk_types.specs.declared.rules.Rule.{Rule}
use Rattle.xk_types.specs.declared.rules.Kind.{Kind}
use Rattle.xk_types.specs.declared.rules.Visit.{Visit}
use Rattle.xk_shape.specs.declared.fault.ShapeFault.{ShapeFault}
use Rattle.xk_typestate.specs.declared.fault.KindFault.{KindFault}
use Rattle.xk_bounds.specs.declared.refusal.Refusal.{Refusal}
use Rattle.xk_bounds.specs.declared.refusal.Refusal.TheVariants as refusal
use Rattle.xk_lines.specs.declared.lines.Position.{Position}
use Rattle.xk_lines.specs.Lines.{position_of, words_at}
use Rattle.xk_lines.specs.Signs.{signs, shown_signs}
use Rattle.xk_unit_origins.specs.UnitOrigins.{Head, UnitOrigins}
use Rattle.xk_explain_words.specs.Names.{told_name}
use Rattle.xk_explain.specs.Notes.{NoteValue, note_lines, place_title}
use Rattle.xk_explain.specs.Messages.{kind_message, rule_repair, source_message}
use Rattle.xk_explain.specs.Explanations.{bound_explanation, excerpt_lines, head_at, kind_explanation, marked_from, repair_line, rule_title}
use Rattle.xk_explain.specs.Explanations.{shape_explanation}
use Rattle.xk_explain.specs.Explanations.{ways_line}

-- ---- places and names

-- the offset that an instruction of a unit comes from, no further than where the text ends
abbrev pub origin_at : List ℕ → UnitOrigins → ℕ → ℕ
origin_at text u at = min (unwrap_or (slice_get u.offsets at) 0) (length text)

-- behind what is marked from an offset on: the name or number that begins there, or one sign; no further than where the text ends
abbrev pub mark_end : List ℕ → ℕ → ℕ
mark_end text at = at + min (marked_from (drop at text)) (length (drop at text))

-- `in main`, `in f`, ``in the `async` at 3:5``
unfoldable pub unit_title : List ℕ → Head → List ℕ
unit_title text h =
    option_map_or (λ name. codes "in " ++ told_name name) h.name (codes "in the `async` at " ++ place_title (position_of text (min h.at (length text))))

-- a name of the text, and none of those that no text has, which are of blanks
abbrev pub is_name : List ℕ → Bool
is_name name = list_any (λ b. not (nat_eq b 32)) name

-- the name of a slot; temporaries have none
abbrev pub slot_name : List (List ℕ) → ℕ → List ℕ
slot_name names slot = unwrap_or (slice_get names slot) []

unfoldable pub quoted : List ℕ → List ℕ
quoted name = (codes "`" ++ name) ++ codes "`"

-- a slot by its name, in quotes, no more than 60 letters of it; the text has none for the clock of a `clocked finish`
abbrev pub slot_title : List (List ℕ) → ℕ → List ℕ
slot_title names slot =
    if is_name (slot_name names slot) then quoted (told_name (slot_name names slot)) else codes "the clock without a name"

-- a rule, and the unit in which it is broken: `V11 Use, in main`
abbrev pub title_in : List ℕ → Rule → Head → List ℕ
title_in text r h = (rule_title r ++ codes ", ") ++ unit_title text h

-- ---- walks

-- the line of an offset as it is shown, without the blanks that it begins with, and no more than 60 signs of it
unfoldable pub line_text : List ℕ → ℕ → List ℕ
line_text text at = shown_signs (take 60 (signs (words_at text at)))

-- what is said of one stop: `     8:9  a clock, dropped: c.drop();`
unfoldable pub stop_head : Position → Kind → List ℕ
stop_head p k = codes "     " ++ (place_title p ++ (codes "  " ++ (kind_message k ++ codes ": ")))

unfoldable pub stop_line : List ℕ → ℕ → Kind → List ℕ
stop_line text at k = (stop_head (position_of text at) k ++ line_text text at) ++ codes "\n"

-- of one behind which a loop begins again: `     9:5  a clock, dropped, and then the next turn`
unfoldable pub turn_text : Position → Kind → List ℕ
turn_text p k = codes "     " ++ (place_title p ++ (codes "  " ++ (kind_message k ++ codes ", and then the next turn\n")))

abbrev pub turn_line : List ℕ → ℕ → Kind → List ℕ
turn_line text at k = turn_text (position_of text at) k

-- a walk goes back from a stop to the one behind it: that is the next turn of a loop
abbrev pub goes_back : Visit → List Visit → Bool
goes_back v [] = false
goes_back v (w ∷ vs) = nat_le w.at v.at

-- The statement that was told last isn't told again. A stop before it in the text is the end of a branch, a loop or a finish that has no brace there, or
-- what a `clocked finish` does with its clock: it is told only where the walk ends.
abbrev pub is_told : Option ℕ → ℕ → List Visit → Bool
is_told None at vs = false
is_told (Some told) at [] = nat_eq told at
is_told (Some told) at (w ∷ vs) = nat_le at told

abbrev pub one_stop : List ℕ → Option ℕ → ℕ → Visit → List Visit → List ℕ
one_stop text told at v vs =
    if goes_back v vs then turn_line text at v.kind else (if is_told told at vs then [] else stop_line text at v.kind)

-- where the statement stands that was told last, behind a stop; none behind a turn, since the walk is further up in the text then
abbrev pub told_behind : Option ℕ → ℕ → Visit → List Visit → Option ℕ
told_behind told at v vs = if goes_back v vs then None else (if is_told told at vs then told else Some at)

-- the stops of a walk, statement by statement, where this was told last
abbrev pub stops : List ℕ → UnitOrigins → Option ℕ → List Visit → List ℕ
stops text u told [] = []
stops text u told (v ∷ vs) =
    one_stop text told (origin_at text u v.at) v vs ++ stops text u (told_behind told (origin_at text u v.at) v vs) vs

-- the line before them
unfoldable pub stops_head : List (List ℕ) → ℕ → List ℕ
stops_head names slot = (codes "   = a way to it, and what " ++ slot_title names slot) ++ codes " holds before each statement:\n"

-- ---- refusals

-- a place of a unit that breaks a rule, up to the line with carets
abbrev pub place_lines : List ℕ → List ℕ → UnitOrigins → Rule → ℕ → List ℕ
place_lines file text u r at =
    head_at file (position_of text (origin_at text u at)) (title_in text r u.head) (source_message r) ++ excerpt_lines text (origin_at text u at)

-- all that is said of a place that breaks a rule on shape, with these lines of notes
abbrev pub shape_in_source : List ℕ → List ℕ → ShapeFault → List ℕ → UnitOrigins → List ℕ
shape_in_source file text f notes u = (place_lines file text u f.rule f.at ++ notes) ++ repair_line (rule_repair f.rule)

-- the walk to it
abbrev pub walk_in_source : List ℕ → KindFault → UnitOrigins → List ℕ
walk_in_source text f u = stops_head u.slots f.slot ++ stops text u None f.walk.items

abbrev pub kind_in_source : List ℕ → List ℕ → KindFault → List ℕ → UnitOrigins → List ℕ
kind_in_source file text f notes u =
    (((place_lines file text u f.rule f.at ++ notes) ++ walk_in_source text f u) ++ ways_line) ++ repair_line (rule_repair f.rule)

-- All of it, where these are the lines of notes. (Each unit has origins; of one that hadn't, the refusal would be told by its number.)
abbrev pub explanation_in_source : List ℕ → List ℕ → List UnitOrigins → Refusal → List ℕ → List ℕ
explanation_in_source file text origins (refusal.Shape f) notes =
    option_map_or (shape_in_source file text f notes) (slice_get origins f.unit) (shape_explanation file f notes)
explanation_in_source file text origins (refusal.Kind f) notes =
    option_map_or (kind_in_source file text f notes) (slice_get origins f.unit) (kind_explanation file f notes)
explanation_in_source file text origins (refusal.Bound f) notes = bound_explanation file f notes
explanation_in_source file text origins refusal.OutOfMemory notes = []

-- all that is said of what the verifier has against the module of a source text, whose units have these origins, with these notes
abbrev pub source_explanation : List ℕ → List ℕ → List UnitOrigins → Refusal → List NoteValue → List ℕ
source_explanation file text origins r notes = explanation_in_source file text origins r (note_lines text notes)
