use Rattle.std.proofs.Common.{◌≡◌, ℕ, length}
use Rattle.xk_outcomes.specs.Found.{FoundValue}
use Rattle.xk_outcomes.specs.Ways.{IsTrip}
use Rattle.xk_outcomes.proofs.search.go_alone.Given as goal

-- what was a trip is one still
abbrev pub invariant-loop-turn : goal.invariant-loop-turn
invariant-loop-turn l = record {
  same : l.to.core.module_run ≡ l.fn.to.core.module_run;
  trip : (x : FoundValue) (a : ℕ) → length x.printed ≡ l.before → x.core.module_run ≡ l.fn.to.core.module_run
      → IsTrip x.core.module_run x a l.fn.way.items l.fn.to
      → IsTrip x.core.module_run x a l.way.items l.to;
}
