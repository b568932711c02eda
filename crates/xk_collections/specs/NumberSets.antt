-- Sets of numbers, seen as the rising lists of their members. This project's own.
use Rattle.std.specs.Prelude.{◌≡◌, ℕ, zero, suc, ◌<◌, nat_le, nat_lt, Bool, if◌then◌else◌, ◌++◌, List, [], ◌∷◌, length, filter, Some, slice_get, All}

-- each is smaller than the next
abbrev pub IsRising : List ℕ → Type 0
IsRising xs = (i x y : ℕ) → slice_get xs i ≡ Some x → slice_get xs (suc i) ≡ Some y → x < y

-- each is less than this number
abbrev pub AreBelow : ℕ → List ℕ → Type 0
AreBelow number xs = (i x : ℕ) → slice_get xs i ≡ Some x → x < number

-- so many numbers, from a on
abbrev pub numbers_from : ℕ → ℕ → List ℕ
numbers_from a zero = []
numbers_from a (suc n) = a ∷ numbers_from (suc a) n

-- a rising list, with number b in it or not
abbrev pub with_member : ℕ → Bool → List ℕ → List ℕ
with_member b is_in xs = filter (λ x. nat_lt x b) xs ++ ((if is_in then b ∷ [] else []) ++ filter (λ x. nat_lt b x) xs)

-- the place of the first in a rising list that is greater than this number; beyond the end where none is
abbrev pub place_above : ℕ → List ℕ → ℕ
place_above number xs = length (filter (λ x. nat_le x number) xs)

-- a set: its members, rising, all of them below its room
pub record SetValue : Type 0 where
  pub members : List ℕ
  pub room : ℕ

-- the members of a set that has this room
pub record AreMembers (xs : List ℕ) (room : ℕ) : Type 0 where
  pub rise : IsRising xs
  pub within : All (λ x. x < room) xs
