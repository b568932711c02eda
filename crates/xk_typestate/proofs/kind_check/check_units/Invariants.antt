-- no unit so far has a slot that is refused, and their tables are kept
use Rattle.std.proofs.Common.{◌≡◌, ℕ, ◌<◌, [], Some, length, get_or, slice_get}
use Rattle.xk_types.specs.Code.{UnitValue}
use Rattle.xk_typestate.specs.KindTable.{IsKindTable}
use Rattle.xk_typestate.proofs.UnitLemmas.{IsUnrefusedBelow}
use Rattle.xk_typestate.proofs.kind_check.check_units.Given as goal

abbrev pub invariant-loop-u : goal.invariant-loop-u
invariant-loop-u l = record {
  unit : l.unit ≡ l.u-index;
  long : length l.tables.items ≡ l.u-index;
  below : IsUnrefusedBelow l.m l.u-index;
  each : (n : ℕ) → n < l.u-index → (u : UnitValue) → slice_get l.m.units n ≡ Some u → IsKindTable l.m u (get_or l.tables.items n []);
}
