-- The fields of a listing's lines: slots by their names, the kinds of clocks, places and lines of a text. This project's own.
use Rattle.std.specs.Prelude.{ℕ, zero, suc, ◌-◌, nat_eq, nat_lt, Bool, true, not, ◌||◌, List, [], ◌∷◌, ◌++◌, length, take, min, flat_map, replicate, slice_get, unwrap_or, codes, decimal, if◌then◌else◌}
use Rattle.std.specs.List.{list_any}
use Rattle.xk_types.specs.declared.rules.Kind.{Kind}
use Rattle.xk_types.specs.declared.rules.Kind.TheVariants as kind
use Rattle.xk_types.specs.RuleNames.{kind_name}
use Rattle.xk_lines.specs.Lines.{position_of, words_at}
use Rattle.xk_lines.specs.declared.lines.Position.{Position}
use Rattle.xk_lines.specs.Signs.{signs, shown_signs}
use Rattle.xk_typestate.specs.KindSet.{KindsValue, kinds_have}
use Rattle.xk_typestate.specs.KindTable.{kinds_at}

-- ---- in general

-- something for each number below this one, in order
abbrev pub each_below : (ℕ → List ℕ) → ℕ → List ℕ
each_below told zero = []
each_below told (suc n) = each_below told n ++ told n

abbrev pub blanks : ℕ → List ℕ
blanks n = replicate n 32

-- a field of this width at least, what it says at its left, or at its right
unfoldable pub at_left : ℕ → List ℕ → List ℕ
at_left width field = field ++ blanks (width - length field)

unfoldable pub at_right : ℕ → List ℕ → List ℕ
at_right width field = blanks (width - length field) ++ field

-- ---- slots

-- a name of the text, and none of those that no text has, which are of blanks
abbrev pub is_name : List ℕ → Bool
is_name name = list_any (λ b. not (nat_eq b 32)) name

-- the name of a slot; temporaries have none
abbrev pub slot_name : List (List ℕ) → ℕ → List ℕ
slot_name names slot = unwrap_or (slice_get names slot) []

-- a name where it isn't declared: no more than 60 letters of it, and `..` for the others
abbrev pub cut_name : List ℕ → List ℕ
cut_name name = take 60 name ++ (if nat_lt 60 (length name) then codes ".." else [])

-- a slot by its name, or by its number where the text has no name for it
abbrev pub slot_title : List (List ℕ) → ℕ → List ℕ
slot_title names slot = if is_name (slot_name names slot) then cut_name (slot_name names slot) else decimal slot

-- `:c`, as a whole where the unit doesn't take it from outside, but declares it
abbrev pub name_item : List ℕ → Bool → List ℕ
name_item name taken = if is_name name then codes ":" ++ (if taken then cut_name name else name) else []

-- ` 0:c`, ` 3`, where so many first slots are taken from outside
abbrev pub slot_item : List (List ℕ) → ℕ → ℕ → List ℕ
slot_item names taken slot = (codes " " ++ decimal slot) ++ name_item (slot_name names slot) (nat_lt slot taken)

-- `slots 0:c 1:me 2:p 3`
abbrev pub slots_field : List (List ℕ) → ℕ → ℕ → List ℕ
slots_field names taken count = codes "slots" ++ each_below (slot_item names taken) count

-- ---- kinds

abbrev pub all_kinds : List Kind
all_kinds = kind.Unset ∷ kind.Number ∷ kind.Live ∷ kind.Resumed ∷ kind.Out ∷ []

abbrev pub if_in : KindsValue → Kind → List Kind
if_in set k = if kinds_have set k then k ∷ [] else []

-- the kinds of a set, in their order
abbrev pub kinds_in : KindsValue → List Kind
kinds_in set = flat_map (if_in set) all_kinds

-- the slot holds a clock, or may
abbrev pub may_be_clock : KindsValue → Bool
may_be_clock set = set.live || (set.resumed || set.out)

abbrev pub next_kind : Kind → List ℕ
next_kind k = codes "|" ++ kind_name k

-- `live|resumed`
abbrev pub kinds_text : List Kind → List ℕ
kinds_text [] = []
kinds_text (k ∷ ks) = kind_name k ++ flat_map next_kind ks

-- ` c:live|resumed`
abbrev pub clock_item : List (List ℕ) → ℕ → KindsValue → List ℕ
clock_item names slot set = (codes " " ++ slot_title names slot) ++ (codes ":" ++ kinds_text (kinds_in set))

abbrev pub clock_if_any : List (List ℕ) → ℕ → KindsValue → List ℕ
clock_if_any names slot set = if may_be_clock set then clock_item names slot set else []

unfoldable pub clock_at : List (List ℕ) → List (List (List KindsValue)) → ℕ → ℕ → ℕ → List ℕ
clock_at names tables unit at slot = clock_if_any names slot (kinds_at tables unit at slot)

-- the slots of a unit that may hold clocks before an instruction, out of so many
abbrev pub clocks_field : List (List ℕ) → List (List (List KindsValue)) → ℕ → ℕ → ℕ → List ℕ
clocks_field names tables unit at count = each_below (clock_at names tables unit at) count

-- ---- the text

-- `3:5`
unfoldable pub place_title : Position → List ℕ
place_title p = decimal p.line ++ (codes ":" ++ decimal p.column)

-- the offset that an instruction of a unit comes from, no further than where the text ends
abbrev pub origin_at : List ℕ → List ℕ → ℕ → ℕ
origin_at text offsets at = min (unwrap_or (slice_get offsets at) 0) (length text)

-- the instruction comes from another place than the one before it
abbrev pub is_first : List ℕ → List ℕ → ℕ → Bool
is_first text offsets zero = true
is_first text offsets (suc at) = not (nat_eq (origin_at text offsets at) (origin_at text offsets (suc at)))

-- the line of an offset as it is shown, without the blanks that it begins with, and no more than 60 signs of it
unfoldable pub line_text : List ℕ → ℕ → List ℕ
line_text text at = shown_signs (take 60 (signs (words_at text at)))

-- where an instruction comes from, and the first one of a statement with the line there: `5:13     if (p <= me) c.drop();`
abbrev pub place_field : List ℕ → ℕ → Bool → List ℕ
place_field text at first =
    if first then at_left 7 (place_title (position_of text at)) ++ (codes "  " ++ line_text text at) else place_title (position_of text at)

-- the same behind two blanks, up to the end of the line
unfoldable pub origin_field : List ℕ → List ℕ → ℕ → List ℕ
origin_field text offsets at = codes "  " ++ (place_field text (origin_at text offsets at) (is_first text offsets at) ++ codes "\n")
