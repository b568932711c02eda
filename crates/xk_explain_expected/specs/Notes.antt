-- The notes beside a token that can't stand where it stands. This project's own.
use Rattle.std.specs.Prelude.{ℕ, min, Bool, List, [], ◌∷◌, length, Option, Some, None, codes, if◌then◌else◌}
use Rattle.xk_lexer.specs.Tokens.{TokenValue}
use Rattle.xk_lexer.specs.Lexing.{lexed}
use Rattle.xk_tree.specs.declared.fault.FrontFault.{FrontFault}
use Rattle.xk_tree.specs.declared.fault.FrontRule.TheVariants as rule
use Rattle.xk_explain_repairs.specs.Advice.{is_usual}
use Rattle.xk_explain_repairs.specs.Repairs.{further_advice_at}
use Rattle.xk_explain_brackets.specs.Brackets.{bracket_notes, bracket_repair, closes_nothing}
use Rattle.xk_explain.specs.FrontRepairs.{or_else}
use Rattle.xk_explain.specs.Notes.{NoteValue}
use Rattle.xk_explain_expected.specs.declared.grammar.Symbol.{Symbol}
use Rattle.xk_explain_expected.specs.Expected.{choices, is_misplaced, only_text, stack_at, stack_text}
use Rattle.xk_explain_expected.specs.Missing.{first_terminal, missing, missing_text, second_terminal, tokens_from}

-- ---- the repair

-- take away a `)` that closes nothing, write a `}` where it is missing, one sign that is missing, or the one token that could stand, if
-- nothing is advised for what stands there
abbrev pub only_if : Bool → List Symbol → Option (List ℕ)
only_if usual stack = if usual then only_text (choices stack) else None

abbrev pub token_repair : Bool → List Symbol → List TokenValue → Option (List ℕ)
token_repair usual stack next = or_else (missing_text (missing stack (first_terminal next) (second_terminal next))) (only_if usual stack)

-- where the text ends, there is no token to write it before
abbrev pub sign_repair : Bool → List Symbol → List TokenValue → Option (List ℕ)
sign_repair usual stack [] = None
sign_repair usual stack (t ∷ ts) = token_repair usual stack (t ∷ ts)

abbrev pub stack_repair : List ℕ → ℕ → List TokenValue → List Symbol → List TokenValue → Option (List ℕ)
stack_repair text at ts stack next =
    if closes_nothing text at ts then Some (codes "take this `)` away: no `(` is open")
    else or_else (bracket_repair text at ts) (sign_repair (is_usual (further_advice_at text rule.Syntax (min at (length text)))) stack next)

-- ---- the notes

-- what could stand on a stack, at no place, for it is that of the fault
abbrev pub stack_note : List Symbol → Option (List ℕ) → NoteValue
stack_note stack repair = record { at = None; text = stack_text stack; repair = repair }

abbrev pub stack_notes : List ℕ → ℕ → List TokenValue → Option (List Symbol) → List NoteValue
stack_notes text at ts None = []
stack_notes text at ts (Some stack) =
    stack_note stack (stack_repair text at ts stack (tokens_from at ts)) ∷ bracket_notes text at ts

-- Beside a fault: what could stand there, if the tokens before it can stand so; and where the text ends there, or goes on with another method, the
-- bracket that isn't closed.
abbrev pub expected_notes : List ℕ → FrontFault → List NoteValue
expected_notes text f = if is_misplaced f.rule then stack_notes text f.at (lexed text) (stack_at text f.at) else []
