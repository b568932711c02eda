-- A fault of a text means that it spells no tree, and is of a rule on texts. The faults are this project's own.
use Rattle.std.specs.Prelude.{ℕ, ⊤, List, Result, Err}
use Rattle.xk_tree.specs.declared.tree.Tree.{Tree}
use Rattle.xk_tree.specs.declared.fault.FrontRule.{FrontRule}
use Rattle.xk_tree.specs.declared.fault.FrontRule.TheVariants as rule
use Rattle.xk_tree.specs.declared.fault.FrontError.{FrontError}
use Rattle.xk_tree.specs.declared.fault.FrontError.TheVariants as error
use Rattle.xk_tree.specs.Tree.{TreeValue}
use Rattle.xk_syntax.specs.Spelling.{SpellsTree}

-- where there is a fault, and not only too little memory, no tree is spelled
abbrev pub IsRefused : List ℕ → Result Tree FrontError → Type 0
IsRefused text (Err (error.Fault fault)) = (tree : TreeValue) → ¬ SpellsTree text tree
IsRefused text _ = Unit {0}

-- The rules that are about texts, F1 to F4 and F13. All others are about trees, and a text that spells none breaks none of them.
abbrev pub IsTextRule : FrontRule → Type 0
IsTextRule rule.Token = ⊤
IsTextRule rule.Syntax = ⊤
IsTextRule rule.TooDeep = ⊤
IsTextRule rule.TooLong = ⊤
IsTextRule rule.Literal = ⊤
IsTextRule _ = ⊥
