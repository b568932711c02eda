use Rattle.std.proofs.Common.{◌≡◌, ◌≤◌, ◌-◌, length}
use Rattle.xk_outcomes.specs.Alikeness.{counted}
use Rattle.xk_outcomes.specs.Links.{AreLinked}
use Rattle.xk_outcomes.specs.Search.{AreExpanded, IsGrown}
use Rattle.xk_outcomes.proofs.search.search.Given as goal

-- those before this index were looked at
abbrev pub invariant-loop-next : goal.invariant-loop-next
invariant-loop-next l = record {
  start : l.all.start ≡ l.fn.all.start;
  like : l.all.like ≡ l.fn.all.like;
  grown : IsGrown l.fn.all.all l.all.all;
  linked : AreLinked (counted l.fn.all.like) l.fn.all.start.module_run l.fn.all.ways l.fn.all.all l.fn.links.items
      → AreLinked (counted l.all.like) l.fn.all.start.module_run l.all.ways l.all.all l.links.items;
  expanded : AreExpanded l.fn.all.start.module_run l.all.like l.all.all l.links.items l.next;
  within : l.next ≤ length l.all.all;
}

abbrev pub decreases-loop-next : goal.decreases-loop-next
decreases-loop-next l = l.limit - l.next
