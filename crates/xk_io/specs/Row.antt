-- Numbers in a row. This project's own.
use Rattle.std.specs.Prelude.{ℕ, ℤ, List, ◌++◌, flat_map, codes}
use Rattle.std.specs.Fmt.{signed_decimal}

-- a number, after a blank
abbrev pub number_text : ℤ → List ℕ
number_text n = codes " " ++ signed_decimal n

-- numbers, each after a blank
abbrev pub numbers_text : List ℤ → List ℕ
numbers_text numbers = flat_map number_text numbers
