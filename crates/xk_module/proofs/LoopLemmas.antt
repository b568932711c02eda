-- Reading each of a list, as a loop does.
use Rattle.std.proofs.Common.{List, ◌++◌, Option, option_map}

-- what was read before, and what is still read
abbrev pub with_front : {A : Type 0} → List A → Option (List A) → Option (List A)
with_front front rest = option_map (λ others. front ++ others) rest
