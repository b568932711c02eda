-- Names that are one slip of the hand apart. This project's own.
use Rattle.std.specs.Prelude.{ℕ, ◌==◌, nat_le, Bool, false, ◌&&◌, ◌||◌, List, [], ◌∷◌, length, drop, if◌then◌else◌}
use Rattle.std.specs.Str.{bytes_eq, str_eq_ignore_ascii_case}

-- two signs at the front are those of the other, the other way round, and the rest is the same
abbrev pub are_swapped : List ℕ → List ℕ → Bool
are_swapped (a ∷ b ∷ xs) (c ∷ d ∷ ys) = (a == d && b == c) && bytes_eq xs ys
are_swapped _ _ = false

-- At the front of the one stands a sign that the other doesn't have, or has another one for, or that changes places with the next one; the rest is the
-- same.
abbrev pub is_edited : List ℕ → List ℕ → Bool
is_edited xs ys = (bytes_eq (drop 1 xs) ys || bytes_eq xs (drop 1 ys)) || (bytes_eq (drop 1 xs) (drop 1 ys) || are_swapped xs ys)

-- one edit at most makes the one of the other: it stands where they part
abbrev pub is_one_edit : List ℕ → List ℕ → Bool
is_one_edit [] ys = is_edited [] ys
is_one_edit (a ∷ xs) [] = is_edited (a ∷ xs) []
is_one_edit (a ∷ xs) (b ∷ ys) = if a == b then is_one_edit xs ys else is_edited (a ∷ xs) (b ∷ ys)

-- shorter names are all alike
abbrev pub are_long : List ℕ → List ℕ → Bool
are_long xs ys = nat_le 3 (length xs) && nat_le 3 (length ys)

-- They differ by small letters and large ones alone, or are three signs long at least, and one edit apart.
abbrev pub is_near : List ℕ → List ℕ → Bool
is_near xs ys = str_eq_ignore_ascii_case xs ys || (are_long xs ys && is_one_edit xs ys)
