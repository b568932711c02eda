-- A set of kinds, as what it says of each. This project's own.
use Rattle.std.specs.Prelude.{ℕ, ◌+◌, Bool, true, false, not, ◌==◌, bit_and, if◌then◌else◌}
use Rattle.xk_types.specs.declared.rules.Kind.{Kind}
use Rattle.xk_types.specs.declared.rules.Kind.TheVariants as kind

-- for each kind, whether it is one of the set
pub record KindsValue : Type 0 where
  pub unset : Bool
  pub number : Bool
  pub live : Bool
  pub resumed : Bool
  pub out : Bool

-- the kind is one of the set
abbrev pub kinds_have : KindsValue → Kind → Bool
kinds_have s kind.Unset = s.unset
kinds_have s kind.Number = s.number
kinds_have s kind.Live = s.live
kinds_have s kind.Resumed = s.resumed
kinds_have s kind.Out = s.out

-- the set without a kind
abbrev pub no_kinds : KindsValue
no_kinds = record { unset = false; number = false; live = false; resumed = false; out = false }

-- the set with one kind more
abbrev pub kinds_with : KindsValue → Kind → KindsValue
kinds_with s kind.Unset = record s { unset = true }
kinds_with s kind.Number = record s { number = true }
kinds_with s kind.Live = record s { live = true }
kinds_with s kind.Resumed = record s { resumed = true }
kinds_with s kind.Out = record s { out = true }

-- the bit that stands for a kind
abbrev pub kind_bit : Kind → ℕ
kind_bit kind.Unset = 1
kind_bit kind.Number = 2
kind_bit kind.Live = 4
kind_bit kind.Resumed = 8
kind_bit kind.Out = 16

-- the bits of the number have that one
abbrev pub is_on : ℕ → ℕ → Bool
is_on n bit = not (bit_and n bit == 0)

-- the kinds whose bits the number has
abbrev pub kinds_of : ℕ → KindsValue
kinds_of n = record { unset = is_on n 1; number = is_on n 2; live = is_on n 4; resumed = is_on n 8; out = is_on n 16 }

-- the number that has the bits of these kinds
abbrev pub bits_of : KindsValue → ℕ
bits_of s = (if s.unset then 1 else 0) + (if s.number then 2 else 0) + (if s.live then 4 else 0) + (if s.resumed then 8 else 0) + (if s.out then 16 else 0)
