use Rattle.std.proofs.Common.{sym, ap, ◌∙◌}
use Rattle.xk_module.specs.declared.fault.ModuleFault.TheVariants as fault
use Rattle.xk_module.specs.Faults.{fault_label}
use Rattle.xk_explain.proofs.TitleLemmas.{titled}
use Rattle.xk_explain.proofs.module_rule.ModuleRule.of.Goals as goal

pub returns-in-NotJson-clause-label : goal.returns-in-NotJson-clause-label
returns-in-NotJson-clause-label c = titled fault.NotJson ∙ ap fault_label (sym c.in-NotJson.is)

pub returns-in-NotAModule-clause-label : goal.returns-in-NotAModule-clause-label
returns-in-NotAModule-clause-label c = titled fault.NotAModule ∙ ap fault_label (sym c.in-NotAModule.is)

pub returns-in-Limit-clause-label : goal.returns-in-Limit-clause-label
returns-in-Limit-clause-label c = titled fault.Limit ∙ ap fault_label (sym c.in-Limit.is)
