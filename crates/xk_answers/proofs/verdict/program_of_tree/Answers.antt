use Rattle.std.proofs.Common.{Some, inr, refl}
use Rattle.std.proofs.lemmas.Result.{IfOk-weaker}
use Rattle.xk_jobs.specs.declared.job.Form.TheVariants as form
use Rattle.xk_tree.specs.Program.{tree_value}
use Rattle.xk_program.specs.declared.fault.Fault.TheVariants as found
use Rattle.xk_answers.specs.Explanation.{IsExplanation}
use Rattle.xk_program.specs.Faults.{GivesNoModule}
use Rattle.xk_answers.proofs.VerdictLemmas.{always, told_so}
use Rattle.xk_answers.proofs.verdict.program_of_tree.Goals as goal

pub returns-in-Err-Fault-clause-fault : goal.returns-in-Err-Fault-clause-fault
returns-in-Err-Fault-clause-fault c =
    told_so (λ s. s.items) (λ f said. GivesNoModule form.Source c.args.bytes.now f) (found.Front c.in-Err-Fault.fault) c.fault_of_tree-said.result c.told.result tt
    (always c.fault_of_tree-said.result (refl, inr (inr (inr (tree_value c.args.tree.now, c.requires.source, c.compile.ensures.fault c.in-Err-Fault.fault (cc))))))
    c.told.ensures.told c.told.ensures.memory

pub returns-in-Err-Fault-clause-said : goal.returns-in-Err-Fault-clause-said
returns-in-Err-Fault-clause-said c =
    told_so (λ s. s.items) (IsExplanation c.args.json form.Source c.args.file.now c.args.bytes.now) (found.Front c.in-Err-Fault.fault) c.fault_of_tree-said.result c.told.result refl
    (IfOk-weaker c.fault_of_tree-said.result _ _ (λ said h. (Some (tree_value c.args.tree.now), c.requires.source, h)) c.fault_of_tree-said.ensures)
    c.told.ensures.told c.told.ensures.memory
