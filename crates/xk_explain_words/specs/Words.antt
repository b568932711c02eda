-- Words, and what stands between them. This project's own.
use Rattle.std.specs.Prelude.{ℕ, ◌-◌, ◌==◌, nat_eq, nat_le, Bool, ◌&&◌, ◌||◌, List, length, take, drop}
use Rattle.std.specs.List.{prefix_len, suffix_len, starts_with}

abbrev pub is_digit : ℕ → Bool
is_digit b = nat_le 48 b && nat_le b 57

-- a byte of names and numbers
abbrev pub is_word_byte : ℕ → Bool
is_word_byte b = is_digit b || ((nat_le 65 b && nat_le b 90) || ((nat_le 97 b && nat_le b 122) || b == 95))

-- a space, a tab or the end of a line
abbrev pub is_space : ℕ → Bool
is_space b = (b == 32 || b == 9) || (b == 10 || b == 13)

abbrev pub begins : List ℕ → List ℕ → Bool
begins text front = starts_with nat_eq text front

-- the name or number that a text begins with, and that it ends with
abbrev pub first_word : List ℕ → List ℕ
first_word text = take (prefix_len is_word_byte text) text

abbrev pub last_word : List ℕ → List ℕ
last_word text = drop (length text - suffix_len is_word_byte text) text
