-- it stands nowhere so far
use Rattle.std.proofs.Common.{ℕ, ◌<◌}
use Rattle.xk_typestate.specs.SearchStops.{IsPlaceOf}
use Rattle.xk_typestate.proofs.walk.place_of.Given as goal

abbrev pub invariant-loop-i : goal.invariant-loop-i
invariant-loop-i l = (n : ℕ) → n < l.i → IsPlaceOf l.found l.stop n → ⊥
