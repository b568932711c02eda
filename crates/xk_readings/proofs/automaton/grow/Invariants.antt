use Rattle.std.proofs.Common.{◌≡◌, ◌+◌, ◌-◌, ◌≤◌}
use Rattle.xk_readings.specs.Automata.{AreMoves, AreStates}
use Rattle.xk_readings.proofs.automaton.grow.Given as goal

-- the moves from the sets before this place are there
abbrev pub invariant-loop-at : goal.invariant-loop-at
invariant-loop-at l = record {
  room : l.set.room ≡ l.fn.set.room;
  states : AreStates l.graph l.automaton.states;
  moves : AreMoves l.graph l.automaton.states l.automaton.moves.items l.at;
  within : l.at ≤ l.limit + 1;
}

abbrev pub decreases-loop-at : goal.decreases-loop-at
decreases-loop-at l = l.limit + 1 - l.at
