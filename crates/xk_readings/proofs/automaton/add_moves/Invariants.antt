use Rattle.std.proofs.Common.{◌≡◌, take}
use Rattle.xk_readings.specs.Automata.{AreStates, KeepsStates}
use Rattle.xk_readings.proofs.AutomatonLemmas.{AreMovesBy}
use Rattle.xk_readings.proofs.automaton.add_moves.Given as goal

-- the moves by the numbers before this place were added
abbrev pub invariant-loop-number : goal.invariant-loop-number
invariant-loop-number l = record {
  room : l.set.room ≡ l.fn.set.room;
  kept : KeepsStates l.fn.automaton.states l.automaton.states;
  states : AreStates l.graph l.automaton.states;
  moves : AreMovesBy l.graph l.automaton.states l.automaton.moves.items l.from l.nodes.items (take l.number-index l.number-items);
}
