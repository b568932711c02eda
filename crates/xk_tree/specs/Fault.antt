-- The numbers and names of the faults of a text or its tree, as the program prints them. The faults are this project's own.
use Rattle.std.specs.Prelude.{ℕ, List, codes}
use Rattle.xk_tree.specs.declared.fault.FrontRule.{FrontRule}
use Rattle.xk_tree.specs.declared.fault.FrontRule.TheVariants as rule

abbrev pub front_number : FrontRule → ℕ
front_number rule.Token = 1
front_number rule.Syntax = 2
front_number rule.TooDeep = 3
front_number rule.TooLong = 4
front_number rule.UnknownName = 5
front_number rule.DuplicateName = 6
front_number rule.WrongKind = 7
front_number rule.NotCaptured = 8
front_number rule.NoMain = 9
front_number rule.Recursive = 10
front_number rule.Arity = 11
front_number rule.SameClockTwice = 12
front_number rule.Literal = 13
front_number rule.Table = 14
front_number rule.NoHiddenClock = 15

abbrev pub front_name : FrontRule → List ℕ
front_name rule.Token = codes "Token"
front_name rule.Syntax = codes "Syntax"
front_name rule.TooDeep = codes "TooDeep"
front_name rule.TooLong = codes "TooLong"
front_name rule.UnknownName = codes "UnknownName"
front_name rule.DuplicateName = codes "DuplicateName"
front_name rule.WrongKind = codes "WrongKind"
front_name rule.NotCaptured = codes "NotCaptured"
front_name rule.NoMain = codes "NoMain"
front_name rule.Recursive = codes "Recursive"
front_name rule.Arity = codes "Arity"
front_name rule.SameClockTwice = codes "SameClockTwice"
front_name rule.Literal = codes "Literal"
front_name rule.Table = codes "Table"
front_name rule.NoHiddenClock = codes "NoHiddenClock"
