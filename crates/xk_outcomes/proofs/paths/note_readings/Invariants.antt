use Rattle.std.proofs.Common.{◌≤◌, length}
use Rattle.std.specs.Prelude.{max}
use Rattle.xk_outcomes.specs.declared.order.Order.TheVariants as order
use Rattle.xk_outcomes.specs.Outcomes.{AreDistinct}
use Rattle.xk_outcomes.specs.Listing.{AreOf, AreReadingsPut, KeepsListed}
use Rattle.xk_readings.specs.Rising.{AreRising}
use Rattle.xk_outcomes.specs.Numbering.{AreAddedFrom, ArePlayedAll, AreRisingFrom}
use Rattle.xk_outcomes.proofs.paths.note_readings.Given as goal

-- those before this one were listed
abbrev pub invariant-loop-reading : goal.invariant-loop-reading
invariant-loop-reading l = record {
  of : AreOf order.Printed l.all.start l.fn.list l.list;
  kept : KeepsListed l.fn.list l.list;
  distinct : AreDistinct l.fn.list → AreDistinct l.list;
  listed : AreReadingsPut l.all.start l.all.ways l.found l.reading-index l.list;
  added : ArePlayedAll l.all.start l.all.ways l.found → AreAddedFrom l.found l.reading-index (length l.fn.list) l.list;
  rising : ArePlayedAll l.all.start l.all.ways l.found → AreRising l.found → AreRisingFrom (length l.fn.list) l.list;
  few : length l.list ≤ max l.limit (length l.fn.list);
}
