-- Fields of a line, and lines without blanks at their end. This project's own.
use Rattle.std.specs.Prelude.{ℕ, ◌-◌, max, List, [], ◌∷◌, ◌++◌, length, take, replicate, codes}
use Rattle.std.specs.List.{suffix_len}
use Rattle.std.specs.Char.{is_ascii_whitespace}

-- how long the longest of these is
abbrev pub longest : List (List ℕ) → ℕ
longest [] = 0
longest (x ∷ xs) = max (length x) (longest xs)

abbrev pub blanks : ℕ → List ℕ
blanks n = replicate n 32

-- a field of this width at least, what it says at its left, or at its right
unfoldable pub at_left : ℕ → List ℕ → List ℕ
at_left width field = field ++ blanks (width - length field)

unfoldable pub at_right : ℕ → List ℕ → List ℕ
at_right width field = blanks (width - length field) ++ field

-- without the blanks at its end
abbrev pub trimmed : List ℕ → List ℕ
trimmed l = take (length l - suffix_len is_ascii_whitespace l) l

-- a line without blanks at its end
unfoldable pub whole_line : List ℕ → List ℕ
whole_line l = trimmed l ++ codes "\n"
