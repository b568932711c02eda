use Rattle.std.proofs.Common.{◌≡◌, ◌≤◌, drop}
use Rattle.std.specs.Vec.{vec_capacity}
use Rattle.xk_collections.specs.Chains.{AreApart}
use Rattle.xk_collections.proofs.ListRemovalLemmas.{IsTaking}
use Rattle.xk_collections.proofs.waiting_lists.take_each.Given as goal

abbrev pub invariant-loop-clock : goal.invariant-loop-clock
invariant-loop-clock l = record {
  taking : IsTaking l.fn.shown.items l.fn.lists.lists l.clocks (drop l.clock-index l.clocks) l.shown.items l.lists.lists;
  apart : AreApart l.fn.lists.room l.shown.items l.lists.lists;
  room : l.lists.room ≡ l.fn.lists.room;
  capacity : vec_capacity l.fn.shown ≤ vec_capacity l.shown;
}
