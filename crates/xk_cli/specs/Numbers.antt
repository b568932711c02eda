-- Numbers in words. This project's own.
use Rattle.std.specs.Prelude.{ℕ, ℤ, pos, negsuc, ◌^◌, ◌&&◌, nat_lt, Bool, List, [], ◌∷◌, length, Option, Some, None, option_and_then, option_map, if◌then◌else◌}
use Rattle.std.specs.Char.{is_digit}
use Rattle.std.specs.List.{list_all}
use Rattle.std.specs.Str.Parse.{digits_value, signed_digits_value, without_leading_plus, without_leading_sign}
use Rattle.clap.specs.ValueTests.{fits_i64}

-- the least and the greatest number of 64 bits
abbrev pub least_number : ℤ
least_number = negsuc 9223372036854775807

abbrev pub most_number : ℤ
most_number = pos 9223372036854775807

-- a digit or more, and nothing else
abbrev pub is_numeral : List ℕ → Bool
is_numeral ds = nat_lt 0 (length ds) && list_all (λ c. is_digit c 10) ds

-- the number that a numeral says, before which a sign may stand, if it has 64 bits at most
abbrev pub number_named : List ℕ → Option ℤ
number_named text = let n = signed_digits_value 10 text in if is_numeral (without_leading_sign text) && fits_i64 n then Some n else None

-- the numbers of texts, in order, if each names one
abbrev pub numbers_named : List (List ℕ) → Option (List ℤ)
numbers_named [] = Some []
numbers_named (text ∷ more) = option_and_then (λ n. option_map (λ ns. n ∷ ns) (numbers_named more)) (number_named text)

-- the greatest whole number of 64 bits
abbrev pub most_count : ℕ
most_count = 18446744073709551615

-- the whole number that a numeral says, before which a plus may stand, if it has 64 bits at most
abbrev pub count_named : List ℕ → Option ℕ
count_named text = let ds = without_leading_plus text in if is_numeral ds && nat_lt (digits_value 10 ds) (2 ^ 64) then Some (digits_value 10 ds) else None
