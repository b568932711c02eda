-- What is said of each rule that is broken: what is wrong, and how it is usually repaired. This project's own.
use Rattle.std.specs.Prelude.{ℕ, List, Option, Some, None, codes}
use Rattle.xk_types.specs.declared.rules.Rule.{Rule}
use Rattle.xk_types.specs.declared.rules.Rule.TheVariants as rule
use Rattle.xk_types.specs.declared.rules.Kind.{Kind}
use Rattle.xk_types.specs.declared.rules.Kind.TheVariants as kind
use Rattle.xk_tree.specs.declared.fault.FrontRule.{FrontRule}
use Rattle.xk_tree.specs.declared.fault.FrontRule.TheVariants as front
use Rattle.xk_module.specs.declared.fault.ModuleFault.{ModuleFault}
use Rattle.xk_module.specs.declared.fault.ModuleFault.TheVariants as fault
use Rattle.xk_explain.specs.declared.module_rule.ModuleRule.{ModuleRule}
use Rattle.xk_explain.specs.declared.module_rule.ModuleRule.TheVariants as text
pub use Rattle.xk_explain_repairs.specs.Rules.{front_repair}

-- ---- source texts

-- what is wrong with a text
abbrev pub front_message : FrontRule → List ℕ
front_message front.Token = codes "no token begins here, or a comment isn't closed"
front_message front.Syntax = codes "this can't stand here"
front_message front.TooDeep = codes "more than 64 statements, parentheses and negations in one another, or 64 operators in one expression"
front_message front.TooLong = codes "the text has more than 1048576 bytes"
front_message front.UnknownName = codes "no such name is visible here, or there is no such method"
front_message front.DuplicateName = codes "this name is visible here already, or another method has it"
front_message front.WrongKind = codes "something of another kind is wanted here"
front_message front.NotCaptured = codes "the body of an `async` doesn't see this name from outside"
front_message front.NoMain = codes "there is no method `main`, or one of its parameters is a clock"
front_message front.Recursive = codes "this call comes back to the method that it stands in, or calls `main`"
front_message front.Arity = codes "the method has more or fewer parameters than this call has arguments"
front_message front.SameClockTwice = codes "this clock is given twice"
front_message front.Literal = codes "this number begins with a needless 0, or has more than 64 bits"
front_message front.Table = codes "too many shared numbers (over 256), units (over 1024), or in one unit slots (over 64), instructions (over 4096) or arguments (over 64)"
front_message front.NoHiddenClock = codes "no `clocked finish` has its clock here"

-- ---- programs that the verifier refuses

-- what is wrong with a program
abbrev pub rule_message : Rule → List ℕ
rule_message rule.Target =
    codes "a jump, or the end of a loop or a finish, doesn't lie ahead and inside the code, or the beginning of one doesn't lie before"
rule_message rule.Block = codes "a loop or a finish isn't paired with its end, overlaps another one in part, or is jumped into or out of"
rule_message rule.Slot = codes "the unit has no such slot"
rule_message rule.Unit = codes "the unit that is called or started doesn't fit, or main isn't unit 0 alone, or main takes a clock"
rule_message rule.Cell = codes "there is no such shared number"
rule_message rule.Loop = codes "the loop's bounds aren't in order, or its slot is its limit, or one of them is written inside of it"
rule_message rule.End = codes "the last instruction isn't `ret`, or another one is"
rule_message rule.Home =
    codes "a method drops a clock that it is lent, or one is made in a parameter, or a slot takes its clocks in more than one block"
rule_message rule.Registers = codes "a clock is handed on inside a finish and made outside of it, or the other way round"
rule_message rule.SameClock = codes "one clock is handed on twice"
rule_message rule.Use = codes "a slot may hold something else here than what is wanted"
rule_message rule.Held = codes "the finish that the clock is made in ends while it is still held"
rule_message rule.Leak = codes "a clock is lost that is still held"
rule_message rule.Steps = codes "a run may take too many steps"
rule_message rule.Activities = codes "a run may start too many activities"
rule_message rule.Clocks = codes "a run may make too many clocks"
rule_message rule.Stack = codes "methods that call one another have too many slots together"

-- the same of the program of a source text, which has no slots
abbrev pub source_message : Rule → List ℕ
source_message rule.Home = codes "a method drops a clock that it is lent, or one is made under a name that has another"
source_message rule.Use = codes "a clock may be used that the activity isn't registered on"
source_message r = rule_message r

-- the usual repair
abbrev pub rule_repair : Rule → List ℕ
rule_repair rule.Target =
    codes "let it name a place behind the instruction, and before the code's end; where a loop or a finish begins lies before it"
rule_repair rule.Block = codes "let the two name each other, and jumps go no further than to the `next` or the `endfinish`"
rule_repair rule.Slot = codes "slots are counted from 0; give the unit more of them"
rule_repair rule.Unit = codes "call a method, start a body, of greater number, with as many arguments as it has parameters"
rule_repair rule.Cell = codes "shared numbers are counted from 0; add one"
rule_repair rule.Loop = codes "let the lower bound come first, and take another slot inside of the loop"
rule_repair rule.End = codes "end the code with `ret`, and jump to it from elsewhere"
rule_repair rule.Home = codes "let the caller drop it; in a module, make each clock in a slot of its own"
rule_repair rule.Registers =
    codes "make the clock in the finish and drop it before its end, as `clocked finish` does; or hand it on outside of the finish"
rule_repair rule.SameClock = codes "name each clock once"
rule_repair rule.Use = codes "drop a clock once, behind its last use, in the block of its `val` or `async`"
rule_repair rule.Held = codes "drop it before the end of the finish, on every way; the clock of a `clocked finish` needs no drop"
rule_repair rule.Leak = codes "drop it before it is made anew, and before the end of the method"
rule_repair rule.Steps = codes "loops in one another multiply their turns: have fewer, or smaller bounds"
rule_repair rule.Activities = codes "start fewer, each with more to do: an `async` in a loop counts in each turn"
rule_repair rule.Clocks = codes "make the clock outside of the loop: it can be used in many phases"
rule_repair rule.Stack = codes "call them one after another, or give the inner ones fewer names"

-- what a slot of a kind holds
abbrev pub kind_message : Kind → List ℕ
kind_message kind.Unset = codes "nothing"
kind_message kind.Number = codes "a number"
kind_message kind.Live = codes "a clock, registered"
kind_message kind.Resumed = codes "a clock, registered and resumed"
kind_message kind.Out = codes "a clock, dropped"

-- ---- module texts

-- the rule that bytes break which are no module; want of memory says nothing of them
abbrev pub module_rule : ModuleFault → Option ModuleRule
module_rule fault.NotJson = Some text.NotJson
module_rule fault.NotAModule = Some text.NotAModule
module_rule fault.Limit = Some text.Limit
module_rule fault.OutOfMemory = None

abbrev pub module_number : ModuleRule → ℕ
module_number text.NotJson = 1
module_number text.NotAModule = 2
module_number text.Limit = 3

abbrev pub module_name : ModuleRule → List ℕ
module_name text.NotJson = codes "NotJson"
module_name text.NotAModule = codes "NotAModule"
module_name text.Limit = codes "Limit"

-- what is wrong with the bytes of a module
abbrev pub module_message : ModuleRule → List ℕ
module_message text.NotJson = codes "this is no JSON text"
module_message text.NotAModule = codes "this is JSON, and names no module"
module_message text.Limit = codes "the module goes beyond a limit"

-- the usual repair
abbrev pub module_repair : ModuleRule → List ℕ
module_repair text.NotJson = codes "`x10clock compile` prints modules as they are read; without --module a file is a source text"
module_repair text.NotAModule = codes "`x10clock compile` prints modules as they are read"
module_repair text.Limit = codes "it has 1 to 1024 units of 64 slots, 4096 instructions and 64 arguments at most, and 256 shared numbers"
