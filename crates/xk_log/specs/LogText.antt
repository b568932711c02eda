-- The text of a log. The format is this project's own.
use Rattle.std.specs.Prelude.{ℕ, ◌^◌, ◌<◌, ◌≤◌, ◌==◌, Bool, not, IsTrue, List, [], ◌∷◌, ◌++◌, length, flat_map, codes, decimal}
use Rattle.std.specs.List.{AllByRecursion, list_all}
use Rattle.xk_types.specs.declared.world.Entry.{Entry}

-- ---- bytes

abbrev pub isnt : ℕ → ℕ → Bool
isnt s b = not (b == s)

-- the byte s isn't among these
abbrev pub Lacks : ℕ → List ℕ → Type 0
Lacks s bytes = IsTrue (list_all (isnt s) bytes)

-- ---- lines, without the line feed that ends each

abbrev pub line_feed : ℕ
line_feed = 10

abbrev pub blank : ℕ
blank = 32

-- the first line
abbrev pub head_line : List ℕ
head_line = codes "x10log 1"

-- an entry: the activity, and how many steps it took
abbrev pub entry_line : Entry → List ℕ
entry_line e = decimal e.act ++ blank ∷ decimal e.steps

-- the last line: `end` and the number of entries
abbrev pub end_line : ℕ → List ℕ
end_line n = 101 ∷ 110 ∷ 100 ∷ blank ∷ decimal n

-- ---- the text

-- a line with its line feed
abbrev pub ended : List ℕ → List ℕ
ended line = line ++ line_feed ∷ []

-- the lines of entries
abbrev pub entry_lines : List Entry → List ℕ
entry_lines es = flat_map (λ e. ended (entry_line e)) es

-- the text of a log of these entries
abbrev pub log_text : List Entry → List ℕ
log_text es = ended head_line ++ (entry_lines es ++ ended (end_line (length es)))

-- ---- limits

abbrev pub most_entries : ℕ
most_entries = 1_000_000_000

-- both numbers are of 32 bits
pub record FitsEntry (e : Entry) : Type 0 where
  pub act : e.act < 2 ^ 32
  pub steps : e.steps < 2 ^ 32

-- what has a text as a log
pub record IsLog (es : List Entry) : Type 0 where
  pub short : length es ≤ most_entries
  pub each : AllByRecursion FitsEntry es
