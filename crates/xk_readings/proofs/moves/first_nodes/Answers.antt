use Rattle.std.proofs.Common.{[], ◌∷◌, ap}
use Rattle.std.proofs.lemmas.Result.{IfOk-weaker}
use Rattle.xk_readings.specs.NodeSets.{NodeSetValue}
use Rattle.xk_readings.proofs.BeginningLemmas.{behind_first}
use Rattle.xk_readings.proofs.MoveLemmas.{reads_same, shut_same, zero_read}
use Rattle.xk_readings.proofs.moves.first_nodes.Goals as goal

pub returns-clause-nodes : goal.returns-clause-nodes
returns-clause-nodes c =
    IfOk-weaker c.sorted.result _ _ (λ v is k h. c.shut.ensures.nodes k (is.0.back k h)) c.sorted.ensures

pub returns-clause-shut : goal.returns-clause-shut
returns-clause-shut c =
    IfOk-weaker c.sorted.result _ _ (λ v is. shut_same c.args.graph.now c.shut.new.set.nodes v.items is.0 c.in_ok-shut.ensures.shut)
    c.sorted.ensures

pub returns-clause-reads : goal.returns-clause-reads
returns-clause-reads c =
    IfOk-weaker c.sorted.result _ _ (λ v is. reads_same c.args.graph.now c.shut.new.set.nodes v.items (0 ∷ []) is.0
    (λ numbers r. zero_read c.args.graph.now c.clear.new.self.nodes c.put.new.self.nodes (ap (λ (s : NodeSetValue). s.nodes) c.clear.ensures)
    c.put.ensures.each numbers (c.shut.ensures.reads numbers r))) c.sorted.ensures

pub returns-clause-behind : goal.returns-clause-behind
returns-clause-behind c =
    IfOk-weaker c.sorted.result _ _ (λ v is. behind_first c.args.graph.now c.clear.new.self.nodes c.put.new.self.nodes
    c.shut.new.set.nodes v.items (ap (λ (s : NodeSetValue). s.nodes) c.clear.ensures) c.put.ensures.each c.in_ok-put.ensures.there
    c.shut.ensures.kept c.in_ok-shut.ensures.shut is.0 c.shut.ensures.read_to is.1)
    c.sorted.ensures
