use Rattle.std.proofs.Common.{◌∙◌, ℕ, ℤ, List, get_or, pos, refl, rules, take, subst, sym, arith}
use Rattle.std.proofs.lemmas.List.{take_all, take_more}
use mir.Val.{SFits, of_z, to_z}
use Rattle.std.specs.Int.{w64}
use Rattle.std.proofs.lemmas.Int.{to_z-of_z}
use Rattle.std.proofs.lemmas.Option.{slice_get_within}
use Rattle.xk_readings.specs.Automata.{HasMoved}
use Rattle.xk_readings.specs.Beginnings.{IsPrintedFrom}
use Rattle.xk_readings.specs.NodeSets.{HasNode}
use Rattle.xk_readings.specs.Sets.{AreDifferent, Has}
use Rattle.xk_readings.proofs.AutomatonLemmas.{AreMovesBy, fresh_at, longer_kept, moves_all, moves_by_none, moves_more}
use Rattle.xk_readings.proofs.ListLemmas.{read}
use Rattle.xk_readings.proofs.SetLemmas.{has_place}
use Rattle.xk_readings.proofs.automaton.add_moves.Goals as goal

pub loop-number-init : goal.loop-number-init
loop-number-init c = record {
  room = refl;
  kept = λ i s there. there;
  states = c.requires.states;
  moves = moves_by_none c.args.graph.now c.args.automaton.now.states c.args.automaton.now.moves.items c.args.from c.in_ok-nodes.nodes.items
      c.requires.moves;
}

pub add_move-requires-clause-printed : goal.add_move-requires-clause-printed
add_move-requires-clause-printed c =
    let g = c.args.graph.now in
    let nodes = c.in_ok-nodes.nodes.items in
    let numbers = c.deref-number-items.result.now in
    let at = c.loop-number.number-index in
    let x = get_or numbers at (pos 0) in
    let there = read numbers at (pos 0) c.loop-number-test.true in
    let fits : SFits w64 x = search rules in
    let has = subst (λ (l : List ℤ). Has l x) c.deref-number-items.ensures.value (has_place numbers at x there) in
    subst (λ (l : List ℕ). IsPrintedFrom g l (to_z w64 (of_z w64 x))) (sym c.deref-in-loop-number.ensures.value)
    (subst (IsPrintedFrom g nodes) (sym (to_z-of_z w64 x fits))
    (subst (λ (l : List ℕ). IsPrintedFrom g l x) c.deref.ensures.value (c.in_ok-numbers.ensures.only x has)))

pub returns-in_err-add_move-clause-longer : goal.returns-in_err-add_move-clause-longer
returns-in_err-add_move-clause-longer c =
    longer_kept c.args.automaton.now.states c.add_move.new.automaton.states
    (λ i s there. c.add_move.ensures.kept i s (c.loop-number.invariant.kept i s there))

pub loop-number-preserved : goal.loop-number-preserved
loop-number-preserved c =
    let g = c.args.graph.now in
    let old = c.loop-number.automaton in
    let new = c.add_move.new.automaton in
    let nodes = c.in_ok-nodes.nodes.items in
    let numbers = c.deref-number-items.result.now in
    let at = c.loop-number.number-index in
    let inside = c.loop-number-test.true in
    let x = get_or numbers at (pos 0) in
    let there = read numbers at (pos 0) inside in
    let fits : SFits w64 x = search rules in
    let begins = c.loop-number.invariant.kept c.args.from nodes c.in_ok-nodes.ensures in
    let less = slice_get_within old.states c.args.from nodes begins in
    let different = subst AreDifferent (sym c.deref-number-items.ensures.value) c.in_ok-numbers.ensures.different in
    record {
      room = c.add_move.ensures.room ∙ c.loop-number.invariant.room;
      kept = λ i s h. c.add_move.ensures.kept i s (c.loop-number.invariant.kept i s h);
      states = c.add_move.ensures.states;
      moves = subst (AreMovesBy g new.states new.moves.items c.args.from nodes) (sym (take_more numbers at (pos 0) inside))
          (moves_more g old.states new.states old.moves.items new.moves.items c.args.from nodes (take at numbers) x c.loop-number.invariant.moves
          c.add_move.ensures.kept less begins
          (subst (HasMoved g new.states old.moves.items new.moves.items c.args.from nodes) (to_z-of_z w64 x fits)
          (subst (λ (l : List ℕ). HasMoved g new.states old.moves.items new.moves.items c.args.from l (to_z w64 (of_z w64 x))) c.deref-in-loop-number.ensures.value
          c.in_ok-add_move.ensures.moved)) (fresh_at numbers at x different there));
    }

pub returns-clause-longer : goal.returns-clause-longer
returns-clause-longer c = longer_kept c.args.automaton.now.states c.loop-number.automaton.states c.loop-number.invariant.kept

pub returns-clause-moves : goal.returns-clause-moves
returns-clause-moves c =
    let g = c.args.graph.now in
    let states = c.loop-number.automaton.states in
    let nodes = c.in_ok-nodes.nodes.items in
    let numbers = c.deref-number-items.result.now in
    let begins = c.loop-number.invariant.kept c.args.from nodes c.in_ok-nodes.ensures in
    let over = c.loop-number-test.false in
    moves_all g states c.loop-number.automaton.moves.items c.args.from nodes numbers
    (subst (AreMovesBy g states c.loop-number.automaton.moves.items c.args.from nodes)
    (take_all c.loop-number.number-index numbers (omega (arith, over))) c.loop-number.invariant.moves) begins
    (c.loop-number.invariant.states.nodes c.args.from nodes begins).1
    (λ e x has node prints. subst (λ (l : List ℤ). Has l x) (sym c.deref-number-items.ensures.value)
    (c.in_ok-numbers.ensures.there e x has (subst (λ (l : List ℕ). HasNode l e.from) (sym c.deref.ensures.value) node) prints))
