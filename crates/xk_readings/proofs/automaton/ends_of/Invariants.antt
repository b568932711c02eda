use Rattle.std.proofs.Common.{◌≡◌, ◌<◌, ℕ, Bool, List, length, slice_get, Some}
use Rattle.std.specs.Bool.{Decides}
use Rattle.xk_readings.specs.Automata.{HasEndNode}
use Rattle.xk_readings.proofs.automaton.ends_of.Given as goal

-- it is known of the sets before this one
abbrev pub invariant-loop-number : goal.invariant-loop-number
invariant-loop-number l = record {
  many : length l.ends.items ≡ l.number;
  each : (i : ℕ) (s : List ℕ) → i < l.number → slice_get l.states i ≡ Some s
      → (b : Bool) × (slice_get l.ends.items i ≡ Some b) × Decides b (HasEndNode l.graph s);
}
