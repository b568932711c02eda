-- The pages on arguments and logs. (tests/prover/rule_pages.py writes this file, from docs/REFUSALS.md.) This project's own.
use Rattle.std.specs.Prelude.{ℕ, List, codes}
use Rattle.xk_rules.specs.declared.page.RulePage.{RulePage}
use Rattle.xk_rules.specs.declared.page.RulePage.TheVariants as page

unfoldable pub a1 : List ℕ
a1 = codes "A1 Arguments\n\ncheck: accepted steps 23 activities 1 clocks 0\nrun: x10clock: A1 Arguments wants 1 has 0\nrun --arg 3: 1, 2, 3, ended steps 9\nrun --arg 3 --arg 4: x10clock: A1 Arguments wants 1 has 2\n\n    def main(n: Long) {\n        for (i in 1..Math.min(n, 10)) Console.OUT.println(i);\n    }\n\n`main` takes more numbers than the call has `--arg`, or fewer: it wants one for\neach of its parameters, in their order. `check` takes none, as its answer holds\nfor all. A1 is reported once the program is accepted, before a step is taken and\nbefore a log is read. A negative number is written `--arg=-5`, since `-5` by\nitself looks like an option; one that isn't whole, or has more than 64 bits, is\na word that isn't understood.\n"

unfoldable pub l1 : List ℕ
l1 = codes "L1 Grammar\n\nA needless zero; an entry that was taken out by hand, while the last line still\nsays that there are nineteen; ones without end:\n\n    $ sed 's/^1 1$/1 01/' run.log > changed.log; x10clock replay examples/two-in-step.x10 changed.log\n    x10clock: L1 Grammar line 8\n    $ sed 5d run.log > changed.log; x10clock chart examples/two-in-step.x10 changed.log\n    x10clock: L1 Grammar line 20\n    $ tr '\\0' 1 < /dev/zero | x10clock replay examples/two-in-step.x10 /dev/stdin\n    x10clock: L1 Grammar line 1\n\nThe line, counted from 1, is the first that doesn't fit its place. Most often it\nis one of these: a space too many, a line end of two bytes, a number of steps\nthat is 0 or has more than 32 bits, a last line that has another number of\nentries than there are, or something after it. A line that goes on for more than\n21 bytes is one without a look at the rest.\n"

unfoldable pub l2 : List ℕ
l2 = codes "L2 Truncated\n\n    $ sed '$d' run.log > changed.log; x10clock replay examples/two-in-step.x10 changed.log\n    x10clock: L2 Truncated\n\nNo line is wrong, and the text ends before its last line, or before that line's\nline feed. It can't be repaired: nobody knows the later steps. A run that is\nrefused or runs out of memory leaves an empty file, and one whose log finds no\nroom a beginning of it.\n"

unfoldable pub l3 : List ℕ
l3 = codes "L3 Device\n\n    $ x10clock replay examples/two-in-step.x10 examples\n    x10clock: device\n\nThe log can't be opened, or a read of it failed. As for any file that fails, the\nline has no number, and the status is 5.\n"

unfoldable pub l4 : List ℕ
l4 = codes "L4 NotEnabled\n\nActivity 1 would take a fourth step, and has to wait for main at the clock; the\nlog of another program:\n\n    $ printf 'x10log 1\\n0 3\\n1 4\\nend 2\\n' > changed.log; x10clock replay examples/two-in-step.x10 changed.log\n    x10clock: L4 NotEnabled entry 1\n    $ x10clock replay examples/one-async.x10 run.log\n    x10clock: L4 NotEnabled entry 9\n\nThe entry, counted from 0, is the first that has a step which can't be taken:\nits activity hasn't been started yet, waits at a clock or at the end of a\nfinish, or has ended. Entry K is line K + 2. A log is that of a module and of\nits arguments: where the program's text has changed since, by as little as one\nstatement, run it anew. Give the command that reads the log the same `--arg` as\nthe run, since the log has none.\n"

unfoldable pub l5 : List ℕ
l5 = codes "L5 NotEnded\n\n    $ printf 'x10log 1\\n0 3\\n1 3\\nend 2\\n' > changed.log; x10clock chart examples/two-in-step.x10 changed.log\n    x10clock: L5 NotEnded\n\nEach step can be taken, and after the last one somebody hasn't ended: the log is\nthat of a run's beginning. In a log by hand add entries until nobody is left.\n"

unfoldable pub l6 : List ℕ
l6 = codes "L6 NoOutcome\n\n    $ printf 'outcome 1 prints 1 2\\n2 1\\n' > by-hand.list; x10clock outcomes --expect by-hand.list examples/two-in-step.x10\n    x10clock: L6 NoOutcome line 2\n\nA list of outcomes has lines as `outcomes` prints them: `outcome K prints` and\nthe numbers, with one blank before each and none after the last. This line,\ncounted from 1, is the first that is no such line, nor an empty one, nor one\nthat begins with `outcomes `. K may be any number.\n"

-- the page on a rule; of others none is here
abbrev pub run_page : RulePage → List ℕ → List ℕ
run_page page.Arguments other = a1
run_page page.Grammar other = l1
run_page page.Truncated other = l2
run_page page.Device other = l3
run_page page.NotEnabled other = l4
run_page page.NotEnded other = l5
run_page page.NoOutcome other = l6
run_page _ other = other
