-- The numbers and names of rules and kinds, as a refusal prints them. This project's own.
use Rattle.std.specs.Prelude.{ℕ, List, codes}
use Rattle.xk_types.specs.declared.rules.Rule.{Rule}
use Rattle.xk_types.specs.declared.rules.Rule.TheVariants as rule
use Rattle.xk_types.specs.declared.rules.Kind.{Kind}
use Rattle.xk_types.specs.declared.rules.Kind.TheVariants as kind

-- the number of a rule: V1 has the number 1
abbrev pub rule_number : Rule → ℕ
rule_number rule.Target = 1
rule_number rule.Block = 2
rule_number rule.Slot = 3
rule_number rule.Unit = 4
rule_number rule.Cell = 5
rule_number rule.Loop = 6
rule_number rule.End = 7
rule_number rule.Home = 8
rule_number rule.Registers = 9
rule_number rule.SameClock = 10
rule_number rule.Use = 11
rule_number rule.Held = 12
rule_number rule.Leak = 13
rule_number rule.Steps = 14
rule_number rule.Activities = 15
rule_number rule.Clocks = 16
rule_number rule.Stack = 17

-- the name of a rule, as it is printed behind its number
abbrev pub rule_name : Rule → List ℕ
rule_name rule.Target = codes "Target"
rule_name rule.Block = codes "Block"
rule_name rule.Slot = codes "Slot"
rule_name rule.Unit = codes "Unit"
rule_name rule.Cell = codes "Cell"
rule_name rule.Loop = codes "Loop"
rule_name rule.End = codes "End"
rule_name rule.Home = codes "Home"
rule_name rule.Registers = codes "Registers"
rule_name rule.SameClock = codes "SameClock"
rule_name rule.Use = codes "Use"
rule_name rule.Held = codes "Held"
rule_name rule.Leak = codes "Leak"
rule_name rule.Steps = codes "Steps"
rule_name rule.Activities = codes "Activities"
rule_name rule.Clocks = codes "Clocks"
rule_name rule.Stack = codes "Stack"

-- the name of a kind
abbrev pub kind_name : Kind → List ℕ
kind_name kind.Unset = codes "unset"
kind_name kind.Number = codes "number"
kind_name kind.Live = codes "live"
kind_name kind.Resumed = codes "resumed"
kind_name kind.Out = codes "out"

-- where a kind stands among the five
abbrev pub kind_place : Kind → ℕ
kind_place kind.Unset = 0
kind_place kind.Number = 1
kind_place kind.Live = 2
kind_place kind.Resumed = 3
kind_place kind.Out = 4
