use Rattle.std.proofs.Common.{ℤ, subst}
use Rattle.std.specs.Int.{w64}
use Rattle.std.proofs.lemmas.Int.{to_z-of_z}
use Rattle.std.proofs.lemmas.Result.{IfOk-weaker}
use Rattle.xk_readings.specs.Automata.{IsMove}
use Rattle.xk_readings.proofs.BeginningLemmas.{behind_move}
use Rattle.xk_readings.proofs.MoveLemmas.{is_move, started_within}
use Rattle.xk_readings.proofs.moves.nodes_behind.Goals as goal

pub shut-requires-clause-nodes : goal.shut-requires-clause-nodes
shut-requires-clause-nodes c =
    started_within c.args.graph.now c.args.nodes.now c.start_from.new.set.nodes _ c.requires.within c.start_from.ensures.each

pub returns-clause-moved : goal.returns-clause-moved
returns-clause-moved c =
    IfOk-weaker c.sorted.result _ _ (λ v is.
    subst (λ (x : ℤ). IsMove c.args.graph.now c.args.nodes.now x v.items) (to_z-of_z w64 c.args.number (record { sfits = c.ranges.number.sfits }))
    (is_move c.args.graph.now c.args.nodes.now c.start_from.new.set.nodes c.shut.new.set.nodes v.items _ c.requires.shut
    c.in_ok-start_from.ensures.there c.start_from.ensures.each c.shut.ensures.kept c.shut.ensures.nodes c.in_ok-shut.ensures.shut
    c.shut.ensures.reads is.0
    (behind_move c.args.graph.now c.args.nodes.now c.start_from.new.set.nodes c.shut.new.set.nodes v.items _
    c.in_ok-start_from.ensures.there c.start_from.ensures.each c.shut.ensures.kept c.in_ok-shut.ensures.shut is.0
    c.shut.ensures.read_to is.1)))
    c.sorted.ensures
