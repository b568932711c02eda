-- Numbers of 32 bits, read from left to right. This project's own.
use Rattle.std.specs.Prelude.{ℕ, ◌+◌, ◌-◌, ◌*◌, ◌^◌, nat_lt, List, [], ◌∷◌, Option, Some, None, if◌then◌else◌}
use Rattle.std.specs.Char.{is_ascii_digit}

-- the number so far, with one digit more
abbrev pub with_digit : ℕ → ℕ → ℕ
with_digit value digit = value * 10 + (digit - 48)

-- what digits are worth behind those of the number so far, if it is of 32 bits
abbrev pub value_from : ℕ → List ℕ → Option ℕ
value_from value [] = Some value
value_from value (d ∷ ds) =
    if is_ascii_digit d then
    (if nat_lt (with_digit value d) (2 ^ 32) then value_from (with_digit value d) ds else None)
    else None
