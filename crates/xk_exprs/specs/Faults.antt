-- What the faults of readers are among the faults of texts and trees. This project's own.
use Rattle.xk_tree.specs.declared.fault.FrontRule.{FrontRule}
use Rattle.xk_tree.specs.declared.fault.FrontRule.TheVariants as front
use Rattle.xk_tree.specs.declared.fault.FrontError.{FrontError}
use Rattle.xk_tree.specs.declared.fault.FrontError.TheVariants as error
use Rattle.xk_exprs.specs.declared.fault.SyntaxRule.{SyntaxRule}
use Rattle.xk_exprs.specs.declared.fault.SyntaxRule.TheVariants as rule
use Rattle.xk_exprs.specs.declared.fault.SyntaxError.{SyntaxError}
use Rattle.xk_exprs.specs.declared.fault.SyntaxError.TheVariants as syntax

abbrev pub front_rule : SyntaxRule → FrontRule
front_rule rule.Token = front.Token
front_rule rule.Syntax = front.Syntax
front_rule rule.TooDeep = front.TooDeep
front_rule rule.Literal = front.Literal

abbrev pub front_error : SyntaxError → FrontError
front_error (syntax.Fault f) = error.Fault (record { rule = front_rule f.rule; at = f.at })
front_error syntax.OutOfMemory = error.OutOfMemory
