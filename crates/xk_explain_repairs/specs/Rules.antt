-- The usual repair of each rule on source texts, whatever stands there. This project's own.
use Rattle.std.specs.Prelude.{ℕ, List, codes}
use Rattle.xk_tree.specs.declared.fault.FrontRule.{FrontRule}
use Rattle.xk_tree.specs.declared.fault.FrontRule.TheVariants as front

abbrev pub front_repair : FrontRule → List ℕ
front_repair front.Token = codes "names and numbers are of letters, digits and `_` of ASCII; a `/*` needs its `*/`"
front_repair front.Syntax = codes "look right before it for what is missing, as a `;`, a `)` or a `}`"
front_repair front.TooDeep = codes "move a part into a method, or name a part of the expression by a `val`"
front_repair front.TooLong = codes "write a shorter one: a method is written once, however often it is called"
front_repair front.UnknownName = codes "look for another spelling, or declare it before it is used, and further out, as by `var n = 0;`"
front_repair front.DuplicateName = codes "take another name"
front_repair front.WrongKind =
    codes "a parameter that is a clock is given a clock, by its name alone, and one that is a number is given no clock"
front_repair front.NotCaptured =
    codes "hand a clock on by `async clocked (c)`; in place of a `var` take a `val` of it before the `async`, or a shared number"
front_repair front.NoMain = codes "write `def main() { .. }`: it takes numbers alone, and makes its clocks"
front_repair front.Recursive = codes "say by a `for` how often something is done, or write a method for each level"
front_repair front.Arity = codes "give one argument for each parameter, in their order"
front_repair front.SameClockTwice = codes "name each clock once"
front_repair front.Literal = codes "a number is from -9223372036854775808 to 9223372036854775807"
front_repair front.Table = codes "move a part into a method of its own"
front_repair front.NoHiddenClock =
    codes "put a `clocked finish` around it, with no `finish` or `async` without a clock between them; or name a clock: `async clocked (c)`"
