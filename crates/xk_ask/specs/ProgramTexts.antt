-- What is known of the program whose run is asked for, and how things are told by it. This project's own.
use Rattle.std.specs.Prelude.{ℕ, ℤ, ◌-◌, nat_lt, min, Bool, true, false, List, [], ◌∷◌, ◌++◌, length, take, drop, flat_map, Option, Some, None, slice_get, codes, if◌then◌else◌}
use Rattle.std.specs.Fmt.{signed_decimal}
use Rattle.xk_types.specs.Code.{ModuleValue}
use Rattle.xk_types.specs.World.{World}
use Rattle.xk_lines.specs.Lines.{words_at}
use Rattle.xk_lines.specs.Signs.{signs, shown_signs}
use Rattle.xk_unit_origins.specs.UnitOrigins.{UnitOrigins, offsets_at}
use Rattle.xk_show_events.specs.Events.{PlacesValue, no_text, places_of}
use Rattle.xk_show_where.specs.Where.{named_standings_text, standings_text}

-- ---- what is known

-- A source text with the origins of its units, and the names of its shared numbers. Of a module alone none of these is known.
pub record ProgramTextValue : Type 0 where
  pub places : PlacesValue
  pub shared : List (List ℕ)
  pub is_known : Bool

abbrev pub known_text : List ℕ → List UnitOrigins → List (List ℕ) → ProgramTextValue
known_text text origins shared = record { places = places_of text origins; shared = shared; is_known = true }

abbrev pub no_source : ProgramTextValue
no_source = record { places = no_text; shared = []; is_known = false }

-- ---- how things are

-- what `where` says of a world, in which no step of a log is left: by names, if they are known, and else by numbers
abbrev pub standings : ProgramTextValue → ModuleValue → World → List ℕ
standings p m w = if p.is_known then named_standings_text p.places p.shared m w None else standings_text p.places m w None

-- ---- a line of the text

-- the line of an offset without the blanks that it begins with, as it is shown, up to 60 signs
unfoldable pub line_front : List ℕ → ℕ → List ℕ
line_front text at = shown_signs (take 60 (signs (words_at text at)))

abbrev pub statement_by : List ℕ → Option ℕ → List ℕ
statement_by text None = []
statement_by text (Some at) = codes ": " ++ line_front text (min at (length text))

-- `: Console.OUT.println(1);`: the line that an instruction comes from, no further than where the text ends, if the origins say it
abbrev pub statement : PlacesValue → ℕ → ℕ → List ℕ
statement p unit place = statement_by p.text (slice_get (offsets_at p.origins unit) place)

-- ---- numbers that were printed

-- how many are told at most
abbrev pub most_told : ℕ
most_told = 20

abbrev pub number_word : ℤ → List ℕ
number_word n = codes " " ++ signed_decimal n

-- what stands for those that are left out, where there are more
abbrev pub left_out : List ℤ → List ℕ
left_out ns = if nat_lt most_told (length ns) then codes " .." else []

-- ` 1 2 11`: the last of these numbers, in their order
abbrev pub number_words : List ℤ → List ℕ
number_words ns = left_out ns ++ flat_map number_word (drop (length ns - most_told) ns)

-- `printed 1 2 11`; nothing where none was
abbrev pub printed_line : List ℤ → List ℕ
printed_line [] = []
printed_line (n ∷ ns) = (codes "printed" ++ number_words (n ∷ ns)) ++ codes "\n"
