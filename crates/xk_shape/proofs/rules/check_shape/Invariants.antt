-- the rules so far are broken nowhere
use Rattle.std.proofs.Common.{◌≤◌}
use Rattle.xk_types.specs.declared.rules.Rule.{Rule}
use Rattle.xk_types.specs.RuleNames.{rule_number}
use Rattle.xk_shape.specs.Breach.{IsNowhereBroken}
use Rattle.xk_shape.proofs.rules.check_shape.Given as goal

abbrev pub invariant-loop-rule : goal.invariant-loop-rule
invariant-loop-rule l = (r : Rule) → rule_number r ≤ l.rule-index → IsNowhereBroken l.m r
