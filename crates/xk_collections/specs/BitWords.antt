-- Sets of numbers as words of 64 bits, and the words that say which words have members. This project's own.
use Rattle.std.specs.Prelude.{◌≡◌, ℕ, ◌+◌, ◌*◌, ◌/◌, ◌%◌, ◌^◌, ◌<◌, ◌≤◌, ◌==◌, Bool, true, false, List, length, filter, Option, Some, None, bit_and, bit_or, slice_set, slice_index_or}
use Rattle.std.specs.Int.{bit_at, bit_not, w64}
use Rattle.xk_collections.specs.NumberSets.{numbers_from}

-- number i is a member: bit i, counted over all words, is set
abbrev pub has : List ℕ → ℕ → Bool
has words i = bit_at (slice_index_or words (i / 64) 0) (i % 64) == 1

-- the members, rising
abbrev pub members_of : List ℕ → List ℕ
members_of words = filter (has words) (numbers_from 0 (length words * 64))

-- bit i set, and cleared
abbrev pub with_bit : List ℕ → ℕ → List ℕ
with_bit words i = slice_set words (i / 64) (bit_or (slice_index_or words (i / 64) 0) (1 * 2 ^ (i % 64) % 2 ^ 64))

abbrev pub without_bit : List ℕ → ℕ → List ℕ
without_bit words i = slice_set words (i / 64) (bit_and (slice_index_or words (i / 64) 0) (bit_not w64 (1 * 2 ^ (i % 64) % 2 ^ 64)))

-- the least from i on, before end, that passes the test; or none of them does
abbrev pub IsNext : (ℕ → Bool) → ℕ → ℕ → Option ℕ → Type 0
IsNext test i end None = (j : ℕ) → i ≤ j → j < end → test j ≡ false
IsNext test i end (Some r) = (i ≤ r) × (r < end) × (test r ≡ true) × ((j : ℕ) → i ≤ j → j < r → test j ≡ false)

-- the greatest from i on, before end, that passes the test; or none of them does
abbrev pub IsLast : (ℕ → Bool) → ℕ → ℕ → Option ℕ → Type 0
IsLast test i end None = (j : ℕ) → i ≤ j → j < end → test j ≡ false
IsLast test i end (Some r) = (i ≤ r) × (r < end) × (test r ≡ true) × ((j : ℕ) → r < j → j < end → test j ≡ false)

-- word k has a member
abbrev pub HasMember : List ℕ → ℕ → Type 0
HasMember words k = (j : ℕ) × (k * 64 ≤ j) × (j < k * 64 + 64) × (has words j ≡ true)

-- bit k of the sums says whether word k has a member; beyond the words there are none
pub record IsSumOf (words : List ℕ) (sums : List ℕ) : Type 0 where
  pub none : (k : ℕ) → has sums k ≡ false → slice_index_or words k 0 ≡ 0
  pub some : (k : ℕ) → has sums k ≡ true → (k < length words) × HasMember words k

-- words, the words that say which of these have members, and one word that says which of those have
pub record IsSummed (low : List ℕ) (mid : List ℕ) (top : List ℕ) : Type 0 where
  pub covered : length low ≤ length mid * 64
  pub few : length mid ≤ 64
  pub one : length top ≡ 1
  pub low_sums : IsSumOf low mid
  pub mid_sums : IsSumOf mid top
