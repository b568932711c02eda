-- Brackets that are open at a place of a text. This project's own.
use Rattle.std.specs.Prelude.{ℕ, ◌-◌, min, nat_le, nat_lt, Bool, true, false, not, ◌&&◌, ◌||◌, List, [], ◌∷◌, ◌++◌, length}
use Rattle.std.specs.Prelude.{take, drop, slice_get, Option, Some, None, option_map, unwrap_or, codes, if◌then◌else◌}
use Rattle.std.specs.List.{prefix_len}
use Rattle.std.specs.Str.{bytes_eq}
use Rattle.xk_lexer.specs.Tokens.{TokenValue}
use Rattle.xk_lines.specs.Lines.{is_blank, line_start, position_of}
use Rattle.xk_explain_words.specs.Words.{begins, first_word}
use Rattle.xk_explain.specs.Notes.{NoteValue, place_title}

-- ---- which are open

-- a bracket opens, or closes one
abbrev pub opens : List ℕ → Bool
opens rest = begins rest (codes "(") || begins rest (codes "{")

abbrev pub closes : List ℕ → Bool
closes rest = begins rest (codes ")") || begins rest (codes "}")

-- the offsets of those that are open behind a token, which the text goes on with, the last one last
abbrev pub open_after : List ℕ → List ℕ → ℕ → List ℕ
open_after rest opened at = if opens rest then opened ++ at ∷ [] else if closes rest then take (length opened - 1) opened else opened

-- behind those tokens that stand before an offset
abbrev pub open_before : List ℕ → ℕ → List ℕ → List TokenValue → List ℕ
open_before text at opened [] = opened
open_before text at opened (t ∷ ts) =
    if nat_lt t.at at then open_before text at (open_after (drop t.at text) opened t.at) ts else opened

-- the last one
abbrev pub last_open : List ℕ → Option ℕ
last_open opened = slice_get opened (length opened - 1)

-- ---- a `{` whose `}` stands further left than the line in which it stands

-- with how many blanks the line of an offset begins
abbrev pub indent : List ℕ → ℕ → ℕ
indent text at = prefix_len is_blank (drop (line_start text at) text)

abbrev pub is_left_of : List ℕ → ℕ → Option ℕ → Bool
is_left_of text at None = false
is_left_of text at (Some opened) = nat_lt (indent text at) (indent text opened)

-- the first such `{`, if there is one
abbrev pub left_by : List ℕ → Option ℕ → ℕ → Option ℕ
left_by text opened at = if begins (drop at text) (codes "}") && is_left_of text at opened then opened else None

abbrev pub left_after : List ℕ → Option ℕ → List ℕ → ℕ → Option ℕ
left_after text (Some left) opened at = Some left
left_after text None opened at = left_by text (last_open opened) at

abbrev pub left_before : List ℕ → ℕ → Option ℕ → List ℕ → List TokenValue → Option ℕ
left_before text at left opened [] = left
left_before text at left opened (t ∷ ts) =
    if nat_lt t.at at
    then left_before text at (left_after text left opened t.at) (open_after (drop t.at text) opened t.at) ts
    else left

-- ---- what is told

-- the text ends there, or goes on with another method
unfoldable pub ends_all : List ℕ → Bool
ends_all [] = true
ends_all (b ∷ bs) = bytes_eq (first_word (b ∷ bs)) (codes "def")

abbrev pub is_brace_at : List ℕ → ℕ → Bool
is_brace_at text at = begins (drop at text) (codes "{")

-- the bracket that isn't closed: the last one that is open, and of braces one whose `}` stands further left
abbrev pub unclosed : List ℕ → Option ℕ → Option ℕ → Option ℕ
unclosed text left None = None
unclosed text left (Some opened) = if is_brace_at text opened then Some (unwrap_or left opened) else Some opened

-- ``this `{` is not closed``
abbrev pub unclosed_text : List ℕ → ℕ → List ℕ
unclosed_text text at = if is_brace_at text at then codes "this `{` is not closed" else codes "this `(` is not closed"

abbrev pub unclosed_note : List ℕ → Option ℕ → List NoteValue
unclosed_note text None = []
unclosed_note text (Some at) = record { at = Some at; text = unclosed_text text at; repair = None } ∷ []

-- ---- where the `}` is missing of a `{` whose `}` stands further left

-- a line begins behind an offset, and no further right than the line of that
abbrev pub stands_back : List ℕ → ℕ → ℕ → Bool
stands_back text opened at = nat_lt opened (line_start text at) && nat_le (indent text at) (indent text opened)

-- the first token of the first such line
abbrev pub first_back : List ℕ → ℕ → List TokenValue → Option ℕ
first_back text opened [] = None
first_back text opened (t ∷ ts) = if stands_back text opened t.at then Some t.at else first_back text opened ts

abbrev pub missing_by : List ℕ → List TokenValue → Option ℕ → Option ℕ → Option ℕ
missing_by text ts None opened = None
missing_by text ts (Some left) None = None
missing_by text ts (Some left) (Some opened) = if is_brace_at text opened then first_back text left ts else None

abbrev pub missing_before : List ℕ → ℕ → List TokenValue → Option ℕ
missing_before text at ts =
    if ends_all (drop at text) then missing_by text ts (left_before text at None [] ts) (last_open (open_before text at [] ts)) else None

abbrev pub missing_notes : Option ℕ → List NoteValue
missing_notes None = []
missing_notes (Some at) =
    record { at = Some at; text = codes "its `}` is missing before this line, which begins no further right"; repair = None } ∷ []

-- ``write `}` before 4:5``
unfoldable pub missing_text : List ℕ → ℕ → List ℕ
missing_text text at = codes "write `}` before " ++ place_title (position_of text (min at (length text)))

-- the repair, where it is known where that `}` is missing
abbrev pub bracket_repair : List ℕ → ℕ → List TokenValue → Option (List ℕ)
bracket_repair text at ts = option_map (missing_text text) (missing_before text at ts)

-- ---- beside a fault at an offset, where these are the tokens

abbrev pub unclosed_notes : List ℕ → ℕ → List TokenValue → List NoteValue
unclosed_notes text at ts =
    if ends_all (drop at text) then unclosed_note text (unclosed text (left_before text at None [] ts) (last_open (open_before text at [] ts))) else []

abbrev pub bracket_notes : List ℕ → ℕ → List TokenValue → List NoteValue
bracket_notes text at ts = unclosed_notes text at ts ++ missing_notes (missing_before text at ts)

-- a `)` stands where no `(` is open
abbrev pub is_paren : List ℕ → Option ℕ → Bool
is_paren text None = false
is_paren text (Some opened) = begins (drop opened text) (codes "(")

abbrev pub closes_nothing : List ℕ → ℕ → List TokenValue → Bool
closes_nothing text at ts = begins (drop at text) (codes ")") && not (is_paren text (last_open (open_before text at [] ts)))
