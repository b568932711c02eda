use Rattle.std.proofs.Common.{◌≤◌, length}
use Rattle.std.specs.Prelude.{max}
use Rattle.xk_outcomes.specs.Outcomes.{AreDistinct}
use Rattle.xk_outcomes.specs.Listing.{AreOf, AreNoted, KeepsListed}
use Rattle.xk_outcomes.proofs.listing.list_outcomes.Given as goal

-- those before this one were listed
abbrev pub invariant-loop-number : goal.invariant-loop-number
invariant-loop-number l = record {
  of : AreOf l.order l.all.start l.fn.list l.list;
  kept : KeepsListed l.fn.list l.list;
  distinct : AreDistinct l.fn.list → AreDistinct l.list;
  noted : AreNoted l.order l.all.all l.number l.list;
  few : length l.list ≤ max l.limit (length l.fn.list);
}
