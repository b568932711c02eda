-- the stops so far go on from the next place
use Rattle.std.proofs.Common.{◌≡◌, ℕ, ◌+◌, ◌<◌, length, Some}
use Rattle.std.specs.Option.{option_map_or}
use Rattle.xk_types.specs.Code.{UnitValue, ModuleValue}
use Rattle.xk_typestate.specs.SearchStops.{HasCome, StopsBack}
use Rattle.xk_typestate.proofs.WalkBackLemmas.{IsBack}
use Rattle.xk_typestate.proofs.walk.walk_back.Given as goal

abbrev pub invariant-loop-next : goal.invariant-loop-next
invariant-loop-next l = record {
  inside : (n : ℕ) → l.next ≡ Some n → n < length l.found;
  stops : (n : ℕ) → StopsBack l.found l.next n → StopsBack l.found (Some l.place) (n + length l.walk.items);
  back : (m : ModuleValue) (u : UnitValue) (s : ℕ) → HasCome m u s l.found → IsBack m u s l.found l.place l.walk.items l.next;
}

abbrev pub decreases-loop-next : goal.decreases-loop-next
decreases-loop-next l = option_map_or (λ n. n + 1) l.next 0
