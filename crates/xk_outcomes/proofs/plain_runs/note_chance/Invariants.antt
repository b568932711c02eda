use Rattle.std.proofs.Common.{◌≤◌, ℕ}
use Rattle.xk_scheduler.specs.WholeRuns.{IsRunBy}
use Rattle.xk_random.specs.Chance.{chance_after, chance_answer, chance_of}
use Rattle.xk_outcomes.specs.PlainRuns.{IsListedIn, ListsMore, OfPrinted}
use Rattle.xk_outcomes.proofs.plain_runs.note_chance.Given as goal

-- what the runs of so many seeds print is listed
abbrev pub invariant-loop-i : goal.invariant-loop-i
invariant-loop-i l = record {
  more : ListsMore l.order l.verified l.arguments l.i l.fn.list l.list;
  listed : (seed : ℕ) → 1 ≤ seed → seed ≤ l.i
      → OfPrinted (IsRunBy chance_answer chance_after l.verified l.arguments (chance_of seed)) (IsListedIn l.order l.list);
}
