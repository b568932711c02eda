use Rattle.std.proofs.Common.{◌≡◌, ℕ, ◌+◌, ◌≤◌, List, drop, length}
use Rattle.xk_collections.specs.WaitingLists.{times, times_in_all}
use Rattle.xk_scheduler.specs.Waiters.{AreAsked}
use Rattle.xk_scheduler.proofs.roster.ask_each.Given as goal

-- what is left of them is asked
abbrev pub invariant-loop-act : goal.invariant-loop-act
invariant-loop-act l = record {
  asked : (next : List ℕ) (later : List (List ℕ)) → AreAsked l.core.world (drop l.act-index l.acts) l.enabled.members l.waiting.lists next later
      → AreAsked l.core.world l.acts l.initial.enabled.members l.initial.waiting.lists next later;
  once : (b : ℕ) → times b (drop l.act-index l.acts) + times_in_all b l.waiting.lists ≤ 1;
  kept : l.enabled.room ≡ l.initial.enabled.room;
  room : l.waiting.room ≡ l.initial.waiting.room;
  clocks : length l.waiting.lists ≡ length l.initial.waiting.lists;
}
