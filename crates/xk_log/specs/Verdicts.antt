-- What a text is, if it isn't a log's: which of its lines is the first that doesn't fit its place, or that it ends too early. This
-- project's own.
use Rattle.std.specs.Prelude.{◌≡◌, ℕ, ◌+◌, ◌<◌, ◌≤◌, ◌⊎◌, List, [], ◌∷◌, ◌++◌, length, take}
use Rattle.xk_types.specs.declared.world.Entry.{Entry}
use Rattle.xk_log.specs.LogText.{Lacks, line_feed, head_line, entry_line, end_line, ended, entry_lines, log_text, most_entries, FitsEntry, IsLog}

-- ---- places

-- Where the first lines of a text leave off: before the first line, behind the lines of these entries, or behind the
-- last line of a log of these entries.
pub data Place : Type 0 where
  Start : Place
  Within : List Entry → Place
  Behind : List Entry → Place

-- the lines before a place
abbrev pub before : Place → List ℕ
before Start = []
before (Within es) = ended head_line ++ entry_lines es
before (Behind es) = log_text es

-- the entries are those of a log
abbrev pub IsPlace : Place → Type 0
IsPlace Start = Unit {0}
IsPlace (Within es) = IsLog es
IsPlace (Behind es) = IsLog es

-- the number of the line that begins there, the first one being 1
abbrev pub line_at : Place → ℕ
line_at Start = 1
line_at (Within es) = length es + 2
line_at (Behind es) = length es + 3

-- the line of one more entry, where there may be one
pub record IsEntryLine (count : ℕ) (line : List ℕ) : Type 0 where
  pub entry : Entry
  pub room : count < most_entries
  pub fits : FitsEntry entry
  pub spelled : line ≡ entry_line entry

-- the lines that may stand at a place; behind the last there is none
abbrev pub Fits : Place → List ℕ → Type 0
Fits Start line = line ≡ head_line
Fits (Within es) line = IsEntryLine (length es) line ⊎ (line ≡ end_line (length es))
Fits (Behind es) line = ⊥

-- ---- texts

-- no line feed is among the bytes
abbrev pub IsOneLine : List ℕ → Type 0
IsOneLine bytes = Lacks line_feed bytes

abbrev pub longest_line : ℕ
longest_line = 21

-- The line that begins a rest is wrong at this place: it is ended and doesn't fit, or it has no end where the longest
-- line would have one, or it is behind the last.
pub data IsWrong (p : Place) (rest : List ℕ) : Type 0 where
  Misfit : (line more : List ℕ) → IsOneLine line → rest ≡ line ++ line_feed ∷ more → ¬ Fits p line → IsWrong p rest
  TooLong : longest_line < length rest → IsOneLine (take (longest_line + 1) rest) → IsWrong p rest
  Surplus : (es : List Entry) → p ≡ Behind es → 0 < length rest → IsWrong p rest

-- the lines before this number fit their places, and that line is wrong
pub record IsWrongAt (text : List ℕ) (line : ℕ) : Type 0 where
  pub place : Place
  pub rest : List ℕ
  pub split : text ≡ before place ++ rest
  pub fits : IsPlace place
  pub number : line ≡ line_at place
  pub wrong : IsWrong place rest

-- more lines must come
abbrev pub IsOpen : Place → Type 0
IsOpen Start = Unit {0}
IsOpen (Within es) = Unit {0}
IsOpen (Behind es) = ⊥

-- all lines fit their places, the last is missing, and the line that isn't ended is no longer than a line may be
pub record IsTruncated (text : List ℕ) : Type 0 where
  pub place : Place
  pub rest : List ℕ
  pub split : text ≡ before place ++ rest
  pub fits : IsPlace place
  pub open_yet : IsOpen place
  pub one_line : IsOneLine rest
  pub short : length rest ≤ longest_line

-- ---- what a reader may answer

pub data Verdict : Type 0 where
  Whole : List Entry → Verdict
  Wrong : ℕ → Verdict
  Cut : Verdict

-- what a verdict says of a text: it is that log's, the line with that number is the first wrong one, it ends too early
abbrev pub Says : Verdict → List ℕ → Type 0
Says (Whole es) text = IsLog es × (text ≡ log_text es)
Says (Wrong line) text = IsWrongAt text line
Says Cut text = IsTruncated text
