use Rattle.xk_readings.proofs.AutomatonLemmas.{first_state}
use Rattle.xk_readings.proofs.automaton.beginning.Goals as goal

pub returns-clause-states : goal.returns-clause-states
returns-clause-states c =
    first_state c.args.graph.now c.new-states.result c.number_of.new.self c.in_ok-first.first.items c.in_ok-number_of.field-0 c.new-states.ensures
    c.in_ok-number_of.ensures.there c.number_of.ensures.each c.in_ok-first.ensures.nodes c.in_ok-first.ensures.shut c.in_ok-first.ensures.reads
    c.in_ok-first.ensures.first c.in_ok-first.ensures.behind
