use Rattle.std.proofs.Common.{subst, sym}
use Rattle.std.specs.Int.{w64}
use Rattle.std.proofs.lemmas.Int.{to_z-of_z}
use Rattle.xk_readings.specs.Beginnings.{IsPrintedFrom}
use Rattle.xk_readings.proofs.AutomatonLemmas.{behind_more, states_more}
use Rattle.xk_readings.proofs.automaton.add_move.Goals as goal

pub returns-in_err-to-clause-states : goal.returns-in_err-to-clause-states
returns-in_err-to-clause-states c =
    let behind = c.in_ok-behind.behind.items in
    states_more c.args.graph.now c.args.automaton.now.states c.number_of.new.self behind c.requires.states
    c.number_of.ensures.kept c.number_of.ensures.each c.in_ok-behind.ensures.moved.nodes c.in_ok-behind.ensures.moved.shut
    (behind_more c.args.graph.now c.args.automaton.now.states c.args.from c.args.nodes.now behind _ c.requires.states
    c.requires.there c.in_ok-behind.ensures.moved
    (subst (IsPrintedFrom c.args.graph.now c.args.nodes.now) (sym (to_z-of_z w64 c.args.number (record { sfits = c.ranges.number.sfits })))
    c.requires.printed))

pub returns-in_err-push-clause-states : goal.returns-in_err-push-clause-states
returns-in_err-push-clause-states c =
    let behind = c.in_ok-behind.behind.items in
    states_more c.args.graph.now c.args.automaton.now.states c.number_of.new.self behind c.requires.states
    c.number_of.ensures.kept c.number_of.ensures.each c.in_ok-behind.ensures.moved.nodes c.in_ok-behind.ensures.moved.shut
    (behind_more c.args.graph.now c.args.automaton.now.states c.args.from c.args.nodes.now behind _ c.requires.states
    c.requires.there c.in_ok-behind.ensures.moved
    (subst (IsPrintedFrom c.args.graph.now c.args.nodes.now) (sym (to_z-of_z w64 c.args.number (record { sfits = c.ranges.number.sfits })))
    c.requires.printed))

pub returns-clause-states : goal.returns-clause-states
returns-clause-states c =
    let behind = c.in_ok-behind.behind.items in
    states_more c.args.graph.now c.args.automaton.now.states c.number_of.new.self behind c.requires.states
    c.number_of.ensures.kept c.number_of.ensures.each c.in_ok-behind.ensures.moved.nodes c.in_ok-behind.ensures.moved.shut
    (behind_more c.args.graph.now c.args.automaton.now.states c.args.from c.args.nodes.now behind _ c.requires.states
    c.requires.there c.in_ok-behind.ensures.moved
    (subst (IsPrintedFrom c.args.graph.now c.args.nodes.now) (sym (to_z-of_z w64 c.args.number (record { sfits = c.ranges.number.sfits })))
    c.requires.printed))
