-- How the slots of a frame are kept: a word for each, and a mark for each that has a number. This project's own.
use Rattle.std.specs.Prelude.{ℕ, zero, suc, ℤ, pos, ◌-ℤ◌, ◌≡◌, ◌≤◌, ◌<◌, ◌==◌, ◌++◌, ◌&&◌, int_le, nat_abs, Bool, true, false, List, [], ◌∷◌, length, if◌then◌else◌}
use Rattle.std.specs.Int.{bit_at}
use Rattle.xk_types.specs.declared.world.Value.{Value}
use Rattle.xk_types.specs.declared.world.Value.TheVariants as value
use Rattle.xk_activity.specs.declared.marks.Marks.{Marks}

-- slot s is marked
abbrev pub is_marked : Marks → ℕ → Bool
is_marked marks s = bit_at marks.bits s == 1

-- what a word stands for that has no mark: a clock, one less than the word, or nothing
abbrev pub unmarked : ℤ → Value
unmarked n = if int_le (pos 1) n && int_le n (pos 4294967296) then value.Clock (nat_abs (n -ℤ pos 1)) else value.Unset

-- what a word stands for that has a mark or none
abbrev pub value_of : Bool → ℤ → Value
value_of true n = value.Number n
value_of false n = unmarked n

-- what words stand for, where the test says which of them have a mark
abbrev pub values_by : (ℕ → Bool) → List ℤ → List Value
values_by marked [] = []
values_by marked (n ∷ ns) = value_of (marked zero) n ∷ values_by (λ s. marked (suc s)) ns

-- what the words of a frame stand for
abbrev pub values_of : Marks → List ℤ → List Value
values_of marks ns = values_by (is_marked marks) ns

-- slot s has a mark now, or has none, and the others are as before
pub record IsMarkedSo (s : ℕ) (b : Bool) (old new : Marks) : Type 0 where
  pub here : is_marked new s ≡ b
  pub others : (k : ℕ) → k < 64 → (k ≡ s → ⊥) → is_marked new k ≡ is_marked old k

-- words were put behind others, which stand for these values; no slot beyond them has a mark
pub record AreLaid (old new : List ℤ) (marks : Marks) (values : List Value) : Type 0 where
  pub fresh : List ℤ
  pub items : new ≡ old ++ fresh
  pub hold : values_of marks fresh ≡ values
  pub above : (s : ℕ) → length fresh ≤ s → s < 64 → is_marked marks s ≡ false
