use Rattle.std.proofs.Common.{◌≡◌, ◌<◌, ℕ, true}
use Rattle.xk_outcomes.specs.Alikeness.{counted}
use Rattle.xk_outcomes.specs.Links.{AreLinked}
use Rattle.xk_outcomes.specs.Ways.{is_tried}
use Rattle.xk_outcomes.specs.Search.{HasAfter, IsGrown}
use Rattle.xk_outcomes.proofs.search.look_by.Given as goal

-- what the steps of those before this activity lead to is there, if they are tried
abbrev pub invariant-loop-a : goal.invariant-loop-a
invariant-loop-a l = record {
  start : l.all.start ≡ l.fn.all.start;
  like : l.all.like ≡ l.fn.all.like;
  grown : IsGrown l.fn.all.all l.all.all;
  more : IsGrown l.fn.links.items l.links.items;
  linked : AreLinked (counted l.fn.all.like) l.here.core.module_run l.fn.all.ways l.fn.all.all l.fn.links.items
      → AreLinked (counted l.all.like) l.here.core.module_run l.all.ways l.all.all l.links.items;
  after : (a : ℕ) → a < l.a → is_tried l.members a ≡ true
      → HasAfter l.here.core.module_run l.all.like l.all.all l.links.items l.number l.here a;
}
