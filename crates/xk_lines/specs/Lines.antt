-- Lines and columns of a text's bytes, both counted from 1. This project's own.
use Rattle.std.specs.Prelude.{ℕ, ◌+◌, ◌-◌, ◌==◌, nat_eq, nat_lt, Bool, false, not, ◌&&◌, ◌||◌, List, [], ◌∷◌, take, drop, count_by, slice_range, if◌then◌else◌}
use Rattle.std.specs.List.{prefix_len, suffix_len}
use Rattle.xk_lines.specs.declared.lines.Position.{Position}

-- ---- bytes

abbrev pub line_feed : ℕ
line_feed = 10

abbrev pub carriage_return : ℕ
carriage_return = 13

abbrev pub is_line_feed : ℕ → Bool
is_line_feed b = b == line_feed

abbrev pub isnt_line_feed : ℕ → Bool
isnt_line_feed b = not (b == line_feed)

-- a byte that takes a column: all but those of UTF-8 that continue a character, in whatever text they stand
abbrev pub begins_column : ℕ → Bool
begins_column b = nat_lt b 128 || nat_lt 191 b

-- ---- places

-- how many columns these bytes of a line take: a tab is one
abbrev pub columns : List ℕ → ℕ
columns bytes = count_by begins_column bytes

-- where the line of the byte at an offset begins: behind the last line feed before it, or at 0
abbrev pub line_start : List ℕ → ℕ → ℕ
line_start text at = at - suffix_len isnt_line_feed (take at text)

-- the bytes of that line before the offset
abbrev pub before_in_line : List ℕ → ℕ → List ℕ
before_in_line text at = slice_range text (line_start text at) at

-- the line and the column of an offset: that of the text's end, too
abbrev pub position_of : List ℕ → ℕ → Position
position_of text at = record {
  line = 1 + count_by is_line_feed (take at text);
  column = 1 + columns (before_in_line text at);
}

-- ---- lines

-- a line ends at a line feed, and a carriage return before that belongs to the end
abbrev pub ends_line : List ℕ → Bool
ends_line [] = false
ends_line (a ∷ []) = a == line_feed
ends_line (a ∷ b ∷ bs) = a == line_feed || (a == carriage_return && b == line_feed)

-- the first line of a text, without its end
abbrev pub first_line : List ℕ → List ℕ
first_line [] = []
first_line (b ∷ bs) = if ends_line (b ∷ bs) then [] else b ∷ first_line bs

-- the line of the byte at an offset
abbrev pub line_at : List ℕ → ℕ → List ℕ
line_at text at = first_line (drop (line_start text at) text)

-- where lines begin behind the first one of a text whose first byte is at an offset
abbrev pub later_starts : ℕ → List ℕ → List ℕ
later_starts at [] = []
later_starts at (b ∷ bs) = if is_line_feed b then (at + 1) ∷ later_starts (at + 1) bs else later_starts (at + 1) bs

-- where the lines of a text begin
abbrev pub line_starts : List ℕ → List ℕ
line_starts text = 0 ∷ later_starts 0 text

-- a blank or a tab
abbrev pub is_blank : ℕ → Bool
is_blank b = nat_eq b 32 || nat_eq b 9

-- the line of the byte at an offset, without the blanks that it begins with
abbrev pub words_at : List ℕ → ℕ → List ℕ
words_at text at = let line = line_at text at in drop (prefix_len is_blank line) line
