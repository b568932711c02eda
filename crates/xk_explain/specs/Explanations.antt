-- What `explain` says of what stands against a program, on standard output: where it is, the line with carets, what is wrong, and how it is usually
-- repaired. The first line has the form that editors read, `FILE:LINE:COLUMN: ..`. This project's own.
use Rattle.std.specs.Prelude.{ℕ, ◌-◌, min, max, Bool, true, false, nat_le, nat_lt, ◌&&◌, ◌||◌, ◌==◌, List, [], ◌∷◌, ◌++◌, length, drop}
use Rattle.std.specs.Prelude.{flat_map, codes, decimal, if◌then◌else◌}
use Rattle.std.specs.List.{prefix_len}
use Rattle.xk_types.specs.declared.rules.Rule.{Rule}
use Rattle.xk_types.specs.declared.rules.Visit.{Visit}
use Rattle.xk_types.specs.RuleNames.{rule_number, rule_name, kind_name}
use Rattle.xk_tree.specs.declared.fault.FrontFault.{FrontFault}
use Rattle.xk_tree.specs.declared.fault.FrontRule.{FrontRule}
use Rattle.xk_tree.specs.declared.fault.FrontRule.TheVariants as front
use Rattle.xk_tree.specs.Fault.{front_number, front_name}
use Rattle.xk_shape.specs.declared.fault.ShapeFault.{ShapeFault}
use Rattle.xk_typestate.specs.declared.fault.KindFault.{KindFault}
use Rattle.xk_bounds.specs.declared.refusal.BoundFault.{BoundFault}
use Rattle.xk_bounds.specs.declared.refusal.Refusal.{Refusal}
use Rattle.xk_bounds.specs.declared.refusal.Refusal.TheVariants as refusal
use Rattle.xk_lines.specs.declared.lines.Position.{Position}
use Rattle.xk_lines.specs.Lines.{position_of}
use Rattle.xk_lines.specs.Excerpts.{excerpt}
use Rattle.xk_lines.specs.Signs.{signs, shown_signs}
use Rattle.xk_explain_words.specs.Comments.{to_sign}
use Rattle.xk_explain_words.specs.Signs.{is_unseen}
use Rattle.xk_explain.specs.FrontRepairs.{repair_of}
use Rattle.xk_explain.specs.declared.module_rule.ModuleRule.{ModuleRule}
use Rattle.xk_explain.specs.Notes.{NoteValue, note_lines, plain_lines}
use Rattle.xk_explain.specs.Messages.{front_message, front_repair, kind_message, module_message, module_name, module_number, module_repair}
use Rattle.xk_explain.specs.Messages.{rule_message, rule_repair}

-- ---- lines

-- the rule with its number: `F2 Syntax`, `V9 Registers`, `M1 NotJson`
abbrev pub front_title : FrontRule → List ℕ
front_title r = codes "F" ++ (decimal (front_number r) ++ (codes " " ++ front_name r))

abbrev pub rule_title : Rule → List ℕ
rule_title r = codes "V" ++ (decimal (rule_number r) ++ (codes " " ++ rule_name r))

abbrev pub module_title : ModuleRule → List ℕ
module_title r = codes "M" ++ (decimal (module_number r) ++ (codes " " ++ module_name r))

-- a line of its own behind the first one: `   = usual repair: ..`
unfoldable pub repair_line : List ℕ → List ℕ
repair_line repair = (codes "   = usual repair: " ++ repair) ++ codes "\n"

-- FILE as it is shown: nothing in its name moves a terminal
abbrev pub shown_file : List ℕ → List ℕ
shown_file file = shown_signs (signs file)

-- the first line of what has no place in a text: `FILE: M1 NotJson: ..`
unfoldable pub head : List ℕ → List ℕ → List ℕ → List ℕ
head file title message = shown_file file ++ (codes ": " ++ (title ++ (codes ": " ++ (message ++ codes "\n"))))

-- of what has one: `FILE:3:5: `, the title, and `: ..`
unfoldable pub place_head : List ℕ → Position → List ℕ
place_head file p = shown_file file ++ (codes ":" ++ (decimal p.line ++ (codes ":" ++ (decimal p.column ++ codes ": "))))

unfoldable pub message_tail : List ℕ → List ℕ
message_tail message = codes ": " ++ (message ++ codes "\n")

abbrev pub head_at : List ℕ → Position → List ℕ → List ℕ → List ℕ
head_at file p title message = (place_head file p ++ title) ++ message_tail message

-- ---- source texts

-- a byte of names and numbers
abbrev pub is_word_byte : ℕ → Bool
is_word_byte b = (nat_le 48 b && nat_le b 57) || ((nat_le 65 b && nat_le b 90) || ((nat_le 97 b && nat_le b 122) || b == 95))

-- how many signs are marked from a place on: the name or number that begins there, and one sign where none does
abbrev pub marked_from : List ℕ → ℕ
marked_from text = max (prefix_len is_word_byte text) 1

-- where a fault is shown: where it was found, and no further than where the text ends
abbrev pub shown_at : List ℕ → FrontFault → ℕ
shown_at text f = min f.at (length text)

-- whether faults of a rule have a place: a text that is too long has none, nor has a method that isn't there
abbrev pub has_place : FrontRule → Bool
has_place front.TooLong = false
has_place front.NoMain = false
has_place _ = true

-- the line of a place with carets
unfoldable pub excerpt_lines : List ℕ → ℕ → List ℕ
excerpt_lines text at = excerpt text at (marked_from (drop at text)) ++ codes "\n"

-- where the carets of a fault begin: where it is, or at the last sign of the tokens, if the text ends there
abbrev pub seen_at : List ℕ → ℕ → ℕ
seen_at text at = if nat_lt at (length text) then at else length (to_sign text) - 1

-- how many signs they mark: of one that can't be seen also the next one
abbrev pub marked_at : List ℕ → ℕ → ℕ
marked_at text at = if is_unseen (drop at text) then 2 else marked_from (drop (seen_at text at) text)

-- the line of a fault with carets
unfoldable pub fault_lines : List ℕ → ℕ → List ℕ
fault_lines text at = excerpt text (seen_at text at) (marked_at text at) ++ codes "\n"

-- all that is said of a fault of a source text that has a place in it, with these notes
abbrev pub placed_explanation : List ℕ → List ℕ → FrontFault → List NoteValue → List ℕ
placed_explanation file text f notes =
    ((head_at file (position_of text (shown_at text f)) (front_title f.rule) (front_message f.rule) ++ fault_lines text (shown_at text f))
    ++ note_lines text notes) ++ repair_line (repair_of text f.rule (shown_at text f) notes)

-- all that is said of one that has none
abbrev pub unplaced_explanation : List ℕ → List ℕ → FrontRule → List NoteValue → List ℕ
unplaced_explanation file text r notes =
    (head file (front_title r) (front_message r) ++ note_lines text notes) ++ repair_line (front_repair r)

-- all that is said of a fault of a source text
abbrev pub front_explanation : List ℕ → List ℕ → FrontFault → List NoteValue → List ℕ
front_explanation file text f notes =
    if has_place f.rule then placed_explanation file text f notes else unplaced_explanation file text f.rule notes

-- ---- module texts

-- all that is said of bytes that are no module, by the rule that they break
abbrev pub module_explanation : List ℕ → ModuleRule → List ℕ
module_explanation file r = head file (module_title r) (module_message r) ++ repair_line (module_repair r)

-- ---- programs that the verifier refuses, by unit and place

-- `unit 0 at 2`
abbrev pub place_text : ℕ → ℕ → List ℕ
place_text unit at = codes "unit " ++ (decimal unit ++ (codes " at " ++ decimal at))

-- a rule at a place: `V9 Registers, unit 0 at 2`
abbrev pub title_at : Rule → ℕ → ℕ → List ℕ
title_at r unit at = rule_title r ++ (codes ", " ++ place_text unit at)

-- one stop of a walk: `     at 4  out: a clock, dropped`
unfoldable pub visit_line : Visit → List ℕ
visit_line v =
    codes "     at " ++ (decimal v.at ++ (codes "  " ++ (kind_name v.kind ++ (codes ": " ++ (kind_message v.kind ++ codes "\n")))))

-- the walk on which a slot comes to the place refused
unfoldable pub walk_head : ℕ → List ℕ
walk_head slot = codes "   = a way to it, and what slot " ++ (decimal slot ++ codes " holds before each instruction:\n")

abbrev pub walk_lines : ℕ → List Visit → List ℕ
walk_lines slot walk = walk_head slot ++ flat_map visit_line walk

-- ways don't count
unfoldable pub ways_line : List ℕ
ways_line = codes "   = ways go round loops and into both branches, whatever the numbers are\n"

-- the most that a rule on sums allows
unfoldable pub limit_line : ℕ → List ℕ
limit_line limit = codes "   = at most " ++ (decimal limit ++ codes " are allowed\n")

-- all that is said of a place that breaks a rule on shape, with these lines of notes
abbrev pub shape_explanation : List ℕ → ShapeFault → List ℕ → List ℕ
shape_explanation file f notes =
    (head file (title_at f.rule f.unit f.at) (rule_message f.rule) ++ notes) ++ repair_line (rule_repair f.rule)

abbrev pub kind_explanation : List ℕ → KindFault → List ℕ → List ℕ
kind_explanation file f notes =
    (((head file (title_at f.rule f.unit f.at) (rule_message f.rule) ++ notes) ++ walk_lines f.slot f.walk.items) ++ ways_line)
    ++ repair_line (rule_repair f.rule)

abbrev pub bound_explanation : List ℕ → BoundFault → List ℕ → List ℕ
bound_explanation file f notes =
    ((head file (rule_title f.rule) (rule_message f.rule) ++ limit_line f.limit) ++ notes) ++ repair_line (rule_repair f.rule)

abbrev pub explanation_with : List ℕ → Refusal → List ℕ → List ℕ
explanation_with file (refusal.Shape f) notes = shape_explanation file f notes
explanation_with file (refusal.Kind f) notes = kind_explanation file f notes
explanation_with file (refusal.Bound f) notes = bound_explanation file f notes
explanation_with file refusal.OutOfMemory notes = []

-- all that is said of what the verifier has against a program, with these notes; of want of memory nothing
abbrev pub refusal_explanation : List ℕ → Refusal → List NoteValue → List ℕ
refusal_explanation file r notes = explanation_with file r (plain_lines notes)
