-- What is told of a list of activities: its first ones, and how many there are.
use Rattle.std.specs.Prelude.{ℕ, ◌+◌, nat_lt, Bool, true, false, List, [], ◌∷◌, ◌++◌, length, take, if◌then◌else◌}

-- the first eight, and how many there are
pub record ExcerptValue : Type 0 where
  pub first : List ℕ
  pub count : ℕ

abbrev pub excerpt_of : List ℕ → ExcerptValue
excerpt_of acts = record { first = take 8 acts; count = length acts }

-- the first eight, where so many came before this one
abbrev pub first_with : List ℕ → ℕ → ℕ → List ℕ
first_with first n a = if nat_lt n 8 then first ++ a ∷ [] else first

-- of the list that goes on with this activity, if it belongs there
abbrev pub noted : Bool → ℕ → ExcerptValue → ExcerptValue
noted true a e = record { first = first_with e.first e.count a; count = e.count + 1 }
noted false a e = e
