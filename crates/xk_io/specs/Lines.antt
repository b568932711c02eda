-- Numbers, a line each. This project's own.
use Rattle.std.specs.Prelude.{ℕ, ℤ, List, ◌++◌, flat_map, codes}
use Rattle.std.specs.Fmt.{signed_decimal}

-- each number on a line of its own
abbrev pub number_lines : List ℤ → List ℕ
number_lines numbers = flat_map (λ n. signed_decimal n ++ codes "\n") numbers
