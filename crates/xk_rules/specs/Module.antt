-- The pages on module texts. (tests/prover/rule_pages.py writes this file, from docs/REFUSALS.md.) This project's own.
use Rattle.std.specs.Prelude.{ℕ, List, codes}
use Rattle.xk_rules.specs.declared.page.RulePage.{RulePage}
use Rattle.xk_rules.specs.declared.page.RulePage.TheVariants as page

unfoldable pub m1 : List ℕ
m1 = codes "M1 NotJson\n\ncheck --module: x10clock: M1 NotJson\n\n    {\"version\":1,\"shared\":[],\"units\":[{\"kind\":\"main\",\"params\":\"\",\"slots\":0,\"code\":[[\"ret\"]]}]\n\nThe bytes are no JSON value that is read: here a `}` is missing at the end.\nValues nested more than 127 deep, and numbers beyond a float's range, aren't\nread either. Perhaps the file is a source text: leave `--module` out.\n\ncheck --module: accepted steps 1 activities 1 clocks 0\n\n    {\"version\":1,\"shared\":[],\"units\":[{\"kind\":\"main\",\"params\":\"\",\"slots\":0,\"code\":[[\"ret\"]]}]}\n"

unfoldable pub m2 : List ℕ
m2 = codes "M2 NotAModule\n\ncheck --module: x10clock: M2 NotAModule\n\n    {\"version\":1,\"shared\":[],\"units\":[{\"kind\":\"main\",\"params\":\"\",\"slots\":1,\"code\":[[\"print\"],[\"ret\"]]}]}\n\nThe value isn't a module: a key is missing or is one too many, an instruction\nisn't known or has more or fewer operands, a number isn't whole, the version is\nneither 1 nor 2. Here `print` wants a slot. And here the version is 1, which has\nno `forto`; with `\"version\":2` this module is accepted:\n\ncheck --module: x10clock: M2 NotAModule\n\n    {\"version\":1,\"shared\":[],\"units\":[\n      {\"kind\":\"main\",\"params\":\"n\",\"slots\":2,\"code\":[[\"forto\",1,1,0,3,1],[\"next\",0],[\"ret\"]]}]}\n\ncheck --module: accepted steps 5 activities 1 clocks 0\nrun --module --arg 2: ended steps 4\n\n    {\"version\":2,\"shared\":[],\"units\":[\n      {\"kind\":\"main\",\"params\":\"n\",\"slots\":2,\"code\":[[\"forto\",1,1,0,3,1],[\"next\",0],[\"ret\"]]}]}\n"

unfoldable pub m3 : List ℕ
m3 = codes "M3 Limit\n\ncheck --module: x10clock: M3 Limit\n\n    {\"version\":1,\"shared\":[],\"units\":[{\"kind\":\"main\",\"params\":\"\",\"slots\":65,\"code\":[[\"ret\"]]}]}\n\nA table is too long: see F14. A unit has no more parameters than slots. A text\nof more than 268,435,456 bytes is too long, whatever it says; no more of it is\nread.\n\ncheck --module: accepted steps 1 activities 1 clocks 0\n\n    {\"version\":1,\"shared\":[],\"units\":[{\"kind\":\"main\",\"params\":\"\",\"slots\":64,\"code\":[[\"ret\"]]}]}\n"

-- the page on a rule; of others none is here
abbrev pub module_page : RulePage → List ℕ → List ℕ
module_page page.NotJson other = m1
module_page page.NotAModule other = m2
module_page page.Limit other = m3
module_page _ other = other
