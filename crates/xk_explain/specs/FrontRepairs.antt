-- The repair of a fault of a source text that has a place. This project's own.
use Rattle.std.specs.Prelude.{ℕ, List, [], ◌∷◌, Option, Some, None, unwrap_or, if◌then◌else◌}
use Rattle.xk_tree.specs.declared.fault.FrontRule.{FrontRule}
use Rattle.xk_explain_repairs.specs.declared.advice.Advice.{Advice}
use Rattle.xk_explain_repairs.specs.Advice.{advice_text, is_usual}
use Rattle.xk_explain_repairs.specs.Repairs.{advice_at, further_advice_at}
use Rattle.xk_explain.specs.Notes.{NoteValue}

-- the one, if there is one, or else the other
abbrev pub or_else : Option (List ℕ) → Option (List ℕ) → Option (List ℕ)
or_else None other = other
or_else (Some repair) other = Some repair

-- the first repair that one of these notes calls for
abbrev pub called_for : List NoteValue → Option (List ℕ)
called_for [] = None
called_for (n ∷ notes) = or_else n.repair (called_for notes)

-- what is advised first; where that is what is usual, what the notes call for; and where they call for nothing, what is advised further
abbrev pub repair_by : Advice → Advice → FrontRule → List NoteValue → List ℕ
repair_by a further r notes = if is_usual a then unwrap_or (called_for notes) (advice_text further r) else advice_text a r

-- the repair of a fault of this rule at an offset, with these notes
abbrev pub repair_of : List ℕ → FrontRule → ℕ → List NoteValue → List ℕ
repair_of text r at notes = repair_by (advice_at text r at) (further_advice_at text r at) r notes
