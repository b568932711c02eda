-- The rules that have a page, by their codes. (tests/prover/rule_pages.py writes this file, from docs/REFUSALS.md.) This project's own.
use Rattle.std.specs.Prelude.{ℕ, List, Option, Some, None, codes, if◌then◌else◌}
use Rattle.std.specs.Str.{bytes_eq}
use Rattle.xk_rules.specs.declared.page.RulePage.{RulePage}
use Rattle.xk_rules.specs.declared.page.RulePage.TheVariants as page

-- the code of a rule
abbrev pub page_code : RulePage → List ℕ
page_code page.Token = codes "F1"
page_code page.Syntax = codes "F2"
page_code page.TooDeep = codes "F3"
page_code page.TooLong = codes "F4"
page_code page.UnknownName = codes "F5"
page_code page.DuplicateName = codes "F6"
page_code page.WrongKind = codes "F7"
page_code page.NotCaptured = codes "F8"
page_code page.NoMain = codes "F9"
page_code page.Recursive = codes "F10"
page_code page.Arity = codes "F11"
page_code page.SameClockTwice = codes "F12"
page_code page.Literal = codes "F13"
page_code page.Table = codes "F14"
page_code page.NoHiddenClock = codes "F15"
page_code page.NotJson = codes "M1"
page_code page.NotAModule = codes "M2"
page_code page.Limit = codes "M3"
page_code page.Target = codes "V1"
page_code page.Block = codes "V2"
page_code page.Slot = codes "V3"
page_code page.Unit = codes "V4"
page_code page.Cell = codes "V5"
page_code page.Loop = codes "V6"
page_code page.End = codes "V7"
page_code page.Home = codes "V8"
page_code page.Registers = codes "V9"
page_code page.SameClock = codes "V10"
page_code page.Use = codes "V11"
page_code page.Held = codes "V12"
page_code page.Leak = codes "V13"
page_code page.Steps = codes "V14"
page_code page.Activities = codes "V15"
page_code page.Clocks = codes "V16"
page_code page.Stack = codes "V17"
page_code page.Arguments = codes "A1"
page_code page.Grammar = codes "L1"
page_code page.Truncated = codes "L2"
page_code page.Device = codes "L3"
page_code page.NotEnabled = codes "L4"
page_code page.NotEnded = codes "L5"
page_code page.NoOutcome = codes "L6"

-- the rule of a code: each family's, or those behind it
abbrev pub run_named : List ℕ → Option RulePage
run_named code =
    if bytes_eq code (codes "A1") then Some page.Arguments
    else if bytes_eq code (codes "L1") then Some page.Grammar
    else if bytes_eq code (codes "L2") then Some page.Truncated
    else if bytes_eq code (codes "L3") then Some page.Device
    else if bytes_eq code (codes "L4") then Some page.NotEnabled
    else if bytes_eq code (codes "L5") then Some page.NotEnded
    else if bytes_eq code (codes "L6") then Some page.NoOutcome
    else None

abbrev pub verifier_named : List ℕ → Option RulePage
verifier_named code =
    if bytes_eq code (codes "V1") then Some page.Target
    else if bytes_eq code (codes "V2") then Some page.Block
    else if bytes_eq code (codes "V3") then Some page.Slot
    else if bytes_eq code (codes "V4") then Some page.Unit
    else if bytes_eq code (codes "V5") then Some page.Cell
    else if bytes_eq code (codes "V6") then Some page.Loop
    else if bytes_eq code (codes "V7") then Some page.End
    else if bytes_eq code (codes "V8") then Some page.Home
    else if bytes_eq code (codes "V9") then Some page.Registers
    else if bytes_eq code (codes "V10") then Some page.SameClock
    else if bytes_eq code (codes "V11") then Some page.Use
    else if bytes_eq code (codes "V12") then Some page.Held
    else if bytes_eq code (codes "V13") then Some page.Leak
    else if bytes_eq code (codes "V14") then Some page.Steps
    else if bytes_eq code (codes "V15") then Some page.Activities
    else if bytes_eq code (codes "V16") then Some page.Clocks
    else if bytes_eq code (codes "V17") then Some page.Stack
    else run_named code

abbrev pub module_named : List ℕ → Option RulePage
module_named code =
    if bytes_eq code (codes "M1") then Some page.NotJson
    else if bytes_eq code (codes "M2") then Some page.NotAModule
    else if bytes_eq code (codes "M3") then Some page.Limit
    else verifier_named code

abbrev pub page_named : List ℕ → Option RulePage
page_named code =
    if bytes_eq code (codes "F1") then Some page.Token
    else if bytes_eq code (codes "F2") then Some page.Syntax
    else if bytes_eq code (codes "F3") then Some page.TooDeep
    else if bytes_eq code (codes "F4") then Some page.TooLong
    else if bytes_eq code (codes "F5") then Some page.UnknownName
    else if bytes_eq code (codes "F6") then Some page.DuplicateName
    else if bytes_eq code (codes "F7") then Some page.WrongKind
    else if bytes_eq code (codes "F8") then Some page.NotCaptured
    else if bytes_eq code (codes "F9") then Some page.NoMain
    else if bytes_eq code (codes "F10") then Some page.Recursive
    else if bytes_eq code (codes "F11") then Some page.Arity
    else if bytes_eq code (codes "F12") then Some page.SameClockTwice
    else if bytes_eq code (codes "F13") then Some page.Literal
    else if bytes_eq code (codes "F14") then Some page.Table
    else if bytes_eq code (codes "F15") then Some page.NoHiddenClock
    else module_named code
