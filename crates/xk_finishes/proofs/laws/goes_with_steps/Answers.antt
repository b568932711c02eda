use Rattle.xk_finishes.proofs.ActivityLemmas.{awaits_same, nodes_kept, entered_nodes, left_nodes, spawned_nodes, ended_nodes}
use Rattle.xk_finishes.proofs.laws.goes_with_steps.Goals as goal

pub returns-clause-awaited : goal.returns-clause-awaited
returns-clause-awaited c = awaits_same

pub returns-clause-entered : goal.returns-clause-entered
returns-clause-entered c = entered_nodes

pub returns-clause-left : goal.returns-clause-left
returns-clause-left c = left_nodes

pub returns-clause-spawned : goal.returns-clause-spawned
returns-clause-spawned c = spawned_nodes

pub returns-clause-ended : goal.returns-clause-ended
returns-clause-ended c = ended_nodes

pub returns-clause-others : goal.returns-clause-others
returns-clause-others c = nodes_kept
