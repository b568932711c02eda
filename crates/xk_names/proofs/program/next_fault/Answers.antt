use Rattle.xk_tree.specs.Program.{tree_value}
use Rattle.xk_names.proofs.ProgramFaultLemmas.{next_found}
use Rattle.xk_names.proofs.program.next_fault.Goals as goal

pub returns-clause-next : goal.returns-clause-next
returns-clause-next c = next_found (tree_value c.args.tree.now) c.args.fault c.in_ok-next.next c.in_ok-next.ensures.worst
