-- the tables of the units so far are kept
use Rattle.std.proofs.Common.{◌≡◌, ℕ, ◌<◌, [], Some, length, get_or, slice_get}
use Rattle.xk_types.specs.Code.{UnitValue}
use Rattle.xk_typestate.specs.KindTable.{IsKindTable}
use Rattle.xk_typestate.proofs.module_kinds.tables_of.Given as goal

abbrev pub invariant-loop-u : goal.invariant-loop-u
invariant-loop-u l = record {
  long : length l.tables.items ≡ l.u-index;
  each : (n : ℕ) → n < l.u-index → (u : UnitValue) → slice_get l.m.units n ≡ Some u → IsKindTable l.m u (get_or l.tables.items n []);
}
