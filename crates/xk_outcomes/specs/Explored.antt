-- What a search from the beginning of runs found. This project's own.
use Rattle.std.specs.Prelude.{◌≡◌, ℕ, ◌<◌, true, false, length, Some, slice_get}
use Rattle.xk_ranks.specs.Reads.{IsCounting}
use Rattle.xk_core.specs.Core.{CoreValue}
use Rattle.xk_outcomes.specs.declared.order.Order.{Order}
use Rattle.xk_outcomes.specs.declared.search.Explored.{Explored}
use Rattle.xk_outcomes.specs.Alikeness.{counted}
use Rattle.xk_outcomes.specs.Found.{first_found}
use Rattle.xk_outcomes.specs.Links.{AreLinked}
use Rattle.xk_outcomes.specs.Search.{AreAllFound, AreAtRest, AreDifferent, AreFound}

-- It is found from this start, told apart in this order and linked: each at rest, and no two of them the same. If nothing
-- is left to look at, whatever a run prints stands along links; else more are kept than the limit says.
pub record IsExplored (order : Order) (start : CoreValue) (limit : ℕ) (x : Explored) : Type 0 where
  pub begun : x.found.start ≡ start
  pub told : x.found.like.order ≡ order
  pub begins : slice_get x.found.all 0 ≡ Some (first_found start)
  pub found : AreFound start x.found.all
  pub counting : IsCounting start.module_run (counted x.found.like)
  pub linked : AreLinked (counted x.found.like) start.module_run x.found.ways x.found.all x.links.items
  pub rest : AreAtRest x.found.all
  pub different : AreDifferent x.found.like x.found.all
  pub all : x.complete ≡ true → AreAllFound order start x.found.all x.links.items
  pub beyond : x.complete ≡ false → limit < length x.found.all
