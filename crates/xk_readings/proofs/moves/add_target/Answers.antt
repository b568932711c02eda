use Rattle.std.proofs.Common.{◌≡◌, ◌⊎◌, inl, inr}
use Rattle.xk_readings.specs.NodeSets.{HasNode}
use Rattle.xk_readings.proofs.MoveLemmas.{each_grown, kept_grown}
use Rattle.xk_readings.proofs.moves.add_target.Goals as goal

pub returns-clause-kept : goal.returns-clause-kept
returns-clause-kept c = kept_grown c.args.set.now.nodes c.put.new.self.nodes c.args.edge.now.to c.put.ensures.each

pub returns-clause-each : goal.returns-clause-each
returns-clause-each c k h = by (each_grown c.args.set.now.nodes c.put.new.self.nodes c.args.edge.now.to k c.put.ensures.each h)
  where
    by : HasNode c.args.set.now.nodes k ⊎ (c.args.edge.now.to ≡ k)
        → HasNode c.args.set.now.nodes k ⊎ ((c.args.edge.now.printed ≡ c.args.printed) × (c.args.edge.now.to ≡ k))
    by (inl was) = inl was
    by (inr is) = inr (c.does_print-prints.ensures.0 c.if-not-prints.false, is)
