-- A line as it is shown: character by character, and each byte or mark that can't be shown by its number. This project's own.
use Rattle.std.specs.Prelude.{ℕ, zero, suc, ◌+◌, ◌-◌, ◌*◌, ◌/◌, ◌%◌, ◌==◌, nat_lt, nat_le, Bool, false, not, ◌&&◌, ◌||◌, List, [], ◌∷◌, length, take, flat_map, slice_index, if◌then◌else◌}
use Rattle.std.specs.Str.{continuation_len, is_utf8}

-- ---- signs: the bytes of a character, or a single byte that belongs to none

-- a control sign of two bytes, U+0080 to U+009F
abbrev pub is_control_pair : List ℕ → Bool
is_control_pair [] = false
is_control_pair (a ∷ []) = false
is_control_pair (a ∷ b ∷ bs) = a == 0xC2 && nat_lt b 0xA0

-- the bytes are a character of UTF-8, and none of those control signs
abbrev pub is_character : List ℕ → Bool
is_character bytes = is_utf8 bytes && not (is_control_pair bytes)

-- as many of the first bytes as a character has that begins with the first
abbrev pub front : List ℕ → List ℕ
front bytes = take (continuation_len (slice_index bytes 0) + 1) bytes

-- how many bytes the first sign has
abbrev pub sign_len : List ℕ → ℕ
sign_len bytes = if is_character (front bytes) then length (front bytes) else 1

-- the signs of a text of which the first k bytes belong to a sign before
abbrev pub signs_behind : ℕ → List ℕ → List (List ℕ)
signs_behind k [] = []
signs_behind zero (b ∷ bs) = take (sign_len (b ∷ bs)) (b ∷ bs) ∷ signs_behind (sign_len (b ∷ bs) - 1) bs
signs_behind (suc k) (b ∷ bs) = signs_behind k bs

-- the signs of a text
unfoldable pub signs : List ℕ → List (List ℕ)
signs text = signs_behind 0 text

-- ---- how they are shown

abbrev pub hex_digit : ℕ → ℕ
hex_digit d = if nat_lt d 10 then d + 48 else d + 87

-- a byte by its number, as `\x1b`
abbrev pub told : ℕ → List ℕ
told b = 92 ∷ 120 ∷ hex_digit (b / 16) ∷ hex_digit (b % 16) ∷ []

-- a byte for itself: a tab is shown as one blank, control signs and what is no ASCII are told
abbrev pub shown_byte : ℕ → List ℕ
shown_byte b = if b == 9 then 32 ∷ [] else if nat_le 32 b && nat_lt b 127 then b ∷ [] else told b

-- U+2028 to U+202E and U+2066 to U+2069: where they are shown as they are, a line ends, or letters stand in another order
abbrev pub is_layout_mark : ℕ → ℕ → ℕ → Bool
is_layout_mark a b c = a == 0xE2 && ((b == 0x80 && (nat_le 0xA8 c && nat_le c 0xAE)) || (b == 0x81 && (nat_le 0xA6 c && nat_le c 0xA9)))

-- how far its number is above U+2000
abbrev pub mark_number : ℕ → ℕ → ℕ
mark_number b c = (b % 2) * 64 + c % 64

-- a mark by its number, as `\u{202e}`
abbrev pub told_mark : ℕ → ℕ → List ℕ
told_mark b c = let n = mark_number b c in 92 ∷ 117 ∷ 123 ∷ 50 ∷ 48 ∷ hex_digit (n / 16) ∷ hex_digit (n % 16) ∷ 125 ∷ []

-- a character of three bytes: such marks are told
abbrev pub shown_three : ℕ → ℕ → ℕ → List ℕ
shown_three a b c = if is_layout_mark a b c then told_mark b c else a ∷ b ∷ c ∷ []

-- a sign: another character of several bytes is shown as it is
abbrev pub shown_sign : List ℕ → List ℕ
shown_sign (b ∷ []) = shown_byte b
shown_sign (a ∷ b ∷ c ∷ []) = shown_three a b c
shown_sign sign = sign

abbrev pub shown_signs : List (List ℕ) → List ℕ
shown_signs ss = flat_map shown_sign ss
