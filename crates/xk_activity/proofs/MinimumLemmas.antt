-- A number reaches the lesser of two where it reaches both.
use Rattle.std.proofs.Common.{◌≡◌, ℤ, ◌&&◌, int_le, int_lt, arith}
use Rattle.std.specs.Int.{int_min}
use Rattle.std.proofs.lemmas.Int.{ints, clamps}

pub le_min : (v n hi : ℤ) → int_le v (int_min n hi) ≡ (int_le v hi && int_le v n)
le_min v n hi = grind (arith, ints, clamps)

pub lt_min : (v n hi : ℤ) → int_lt v (int_min n hi) ≡ (int_lt v hi && int_lt v n)
lt_min v n hi = grind (arith, ints, clamps)
