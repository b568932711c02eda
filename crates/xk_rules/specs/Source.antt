-- The pages on source texts. (tests/prover/rule_pages.py writes this file, from docs/REFUSALS.md.) This project's own.
use Rattle.std.specs.Prelude.{ℕ, List, codes}
use Rattle.xk_rules.specs.declared.page.RulePage.{RulePage}
use Rattle.xk_rules.specs.declared.page.RulePage.TheVariants as page

unfoldable pub f1 : List ℕ
f1 = codes "F1 Token\n\ncheck: x10clock: F1 Token at 39\n\n    def main() {\n        Console.OUT.println(7 % 2);\n    }\n\nNo token begins with this character, or a `/*` is never closed. Comments may\nhave any character. Where nothing is to be seen `at 0`, there is a byte order\nmark: save as UTF-8 without one, or `tail -c +4 FILE`. There is no remainder and\nno division; half of a number is found by a loop:\n\nrun --arg 7: 3, ended steps 407\n\n    def main(n: Long) {\n        var half = 0;\n        for (i in 1..100) if (2 * i <= n) half = i;\n        Console.OUT.println(half);\n    }\n"

unfoldable pub f2 : List ℕ
f2 = codes "F2 Syntax\n\ncheck: x10clock: F2 Syntax at 31\n\n    def main() {\n        val n = 1\n        Console.OUT.println(n);\n    }\n\nThe token at the offset can't be there; look right before it for what is\nmissing, here a `;` after `1`. Where the text ends too early, mostly for want of\na `}`, the offset is its length. The words\n`shared def val var if else for in async clocked finish atomic Clock Long Console`\ncan't be names; any other word is one. So a word that is misspelt, or that only\nother languages have, is reported at the token after it.\n\n- `for (i in 0..4-1)` (reported at the `-`): `for (i in 0..3)`\n- `for (i in n..9)` (reported at `n`): `for (i in 1..9) if (i >= n)`: the lower bound is a number\n- `1..Math.min(100, n)` (reported at `n`): `1..Math.min(n, 100)`: the number comes last\n- `1..Math.max(n, 1)` (reported at `max`): `1..Math.min(n, 100)`\n- `break;` (reported at the `;`): an `if` around the rest of the turn, and a `var` that says it is over\n- `if (0 < a < 3)` (reported at the second `<`): `if (0 < a) if (a < 3)`\n- `a > 0 ? 1 : 2` (reported at the `>`): `var b = 2; if (a > 0) b = 1;`\n- `+1` (reported at the `+`): `1`\n- `var` outside of a method (reported at it): `shared s = 0;` in front of the methods\n- `atomic s = s - 1;` (reported at the `-`): `atomic s = s + -1;`\n- `def main(args: Rail[String])` (reported at `Rail`): `def main(n: Long)`: a number for each `--arg`\n- `asynk clocked(c) {` (reported at `clocked`): `async clocked(c) {`\n- `Console.OUT.println(1, 2)` (reported at the `,`): one number a call: `10 * a + b` puts two into one\n\nWith its `;` the program above runs:\n\nrun: 1, ended steps 3\n\n    def main() {\n        val n = 1;\n        Console.OUT.println(n);\n    }\n"

unfoldable pub f3 : List ℕ
f3 = codes "F3 TooDeep\n\ncheck: x10clock: F3 TooDeep at 77\n\n    def main() {\n    {{{{{{{{{{{{{{{{{{{{{{{{{{{{{{{{{{{{{{{{{{{{{{{{{{{{{{{{{{{{{{{{{\n    }}}}}}}}}}}}}}}}}}}}}}}}}}}}}}}}}}}}}}}}}}}}}}}}}}}}}}}}}}}}}}}}}}}\n    }\n\nMore than 64 statements, parentheses and negations are nested, or an expression\nhas more than 64 operators. Move a part into a method, or name a part of the\nexpression by a `val`:\n\nrun: 15, ended steps 15\n\n    def inner(n: Long) {\n        if (n > 3) Console.OUT.println(n);\n    }\n\n    def main() {\n        val part = 1 + 2 + 3;\n        inner(part + 4 + 5);\n    }\n"

unfoldable pub f4 : List ℕ
f4 = codes "F4 TooLong\n\n    $ head -c 1048577 /dev/zero | tr '\\0' ' ' | x10clock check -\n    x10clock: F4 TooLong at 0\n\nA text has at most 1,048,576 bytes. What is written again and again can be a\nmethod, and called in a loop:\n\nrun: 1, 2, 3, ended steps 14\n\n    def step(n: Long) {\n        Console.OUT.println(n);\n    }\n\n    def main() {\n        for (i in 1..3) step(i);\n    }\n"

unfoldable pub f5 : List ℕ
f5 = codes "F5 UnknownName\n\ncheck: x10clock: F5 UnknownName at 93\n\n    def main() {\n        for (i in 1..3) {\n            val square = i * i;\n        }\n        Console.OUT.println(square);\n    }\n\nNo such name is visible there, or there is no such method: perhaps it is\nmisspelt. Large letters and small ones differ, to print is\n`Console.OUT.println`, with all three words, and to wait `Clock.advanceAll`.\nThere is no `true`: take 1. A number has a `val` or a `var` where it comes\nfirst. A name is visible from the end of its declaration to the end of the\nblock, the loop or the single statement that it is in. Declare it further out:\n\nrun: 9, ended steps 10\n\n    def main() {\n        var square = 0;\n        for (i in 1..3) {\n            square = i * i;\n        }\n        Console.OUT.println(square);\n    }\n"

unfoldable pub f6 : List ℕ
f6 = codes "F6 DuplicateName\n\ncheck: x10clock: F6 DuplicateName at 54\n\n    def main() {\n        val who = 1;\n        async {\n            val who = 2;\n            Console.OUT.println(who);\n        }\n    }\n\nA name of this spelling is visible there already, perhaps from outside an\n`async`, or as a shared number; or a second method has the name, and then the\noffset is at the name of the second. Take another name. Names that aren't\nvisible at the same place may be alike.\n\nrun: 2, ended steps 7\n\n    def main() {\n        val who = 1;\n        async {\n            val other = who + 1;\n            Console.OUT.println(other);\n        }\n    }\n"

unfoldable pub f7 : List ℕ
f7 = codes "F7 WrongKind\n\ncheck: x10clock: F7 WrongKind at 40\n\n    shared sum = 0;\n\n    def main() {\n        sum = sum + 1;\n    }\n\nSomething of another kind is wanted here: a clock for a number, a number for a\nclock (perhaps the arguments are out of order), or one of the cases below. The\noffset is at the name, the type, the `Clock` of a `var`'s make, or the argument.\nA shared number is read only alone after the `=` of a `val` or a `var`, or of an\nassignment to a `var`, so that one sees where others may come between. Nobody\ncomes between in an `atomic` addition:\n\nrun: 1, ended steps 5\n\n    shared sum = 0;\n\n    def main() {\n        atomic sum = sum + 1;\n        val now = sum;\n        Console.OUT.println(now);\n    }\n\nSo `if (sum == 1)`, `println(sum)` and `atomic n = n + sum;` are refused at the\n`sum`: read it into a `val` in front of them. Where a loop goes up to a shared\nnumber, too, write that `val` into the `Math.min`.\n\ncheck: x10clock: F7 WrongKind at 50\n\n    def main() {\n        val c = Clock.make();\n        val d: Clock = c;\n        d.resume();\n    }\n\nA clock has one name, a `val`. It can be handed to a method or to an `async`,\nbut not be copied or compared; a `var c = Clock.make();` is refused at the\n`Clock`.\n\ncheck: x10clock: F7 WrongKind at 32\n\n    def main() {\n        val n = 1;\n        n = 2;\n    }\n\nOnly a `var` and a shared number are assigned to: write `var n`. A loop's number\nand a parameter stay, too.\n"

unfoldable pub f8 : List ℕ
f8 = codes "F8 NotCaptured\n\ncheck: x10clock: F8 NotCaptured at 73\n\n    def main() {\n        var n = 1;\n        n = n + 1;\n        async Console.OUT.println(n);\n    }\n\nThe body of an `async` has its own activity, which may run when `n` is something\nelse, or when main has ended. So it sees no `var` from outside; it takes along\nthe number of a `val`:\n\nrun: 2, ended steps 8\n\n    def main() {\n        var n = 1;\n        n = n + 1;\n        val now = n;\n        async Console.OUT.println(now);\n    }\n\nActivities that add to a number that all of them see need a shared one, and\nnobody in between:\n\ncheck: x10clock: F8 NotCaptured at 65\n\n    def main() {\n        var sum = 0;\n        finish for (i in 1..3) async { sum = sum + i; }\n        Console.OUT.println(sum);\n    }\n\nrun: 6, ended steps 18\n\n    shared sum = 0;\n\n    def main() {\n        finish for (i in 1..3) async atomic sum = sum + i;\n        val all = sum;\n        Console.OUT.println(all);\n    }\n\ncheck: x10clock: F8 NotCaptured at 79\n\n    def main() {\n        val c = Clock.make();\n        async Clock.advanceAll();\n        async c.drop();\n    }\n\nA clock has to be in the list of the `async`, and then the activity is\nregistered on it: `async clocked (c) c.drop();`. So has one that the activity\nhands on: an activity that isn't on a clock can't register others on it.\n"

unfoldable pub f9 : List ℕ
f9 = codes "F9 NoMain\n\ncheck: x10clock: F9 NoMain at 0\n\n    def mian() {\n    }\n\nThere is no method `main`, in small letters, or one of its parameters is a\nclock:\n\ncheck: x10clock: F9 NoMain at 0\n\n    def main(n: Long, c: Clock) {\n        Clock.advanceAll();\n    }\n\n`main` is given numbers alone (`--arg`). It makes its clocks by `Clock.make()`:\n\nrun --arg 3: 3, ended steps 5\n\n    def main(n: Long) {\n        val c = Clock.make();\n        Clock.advanceAll();\n        Console.OUT.println(n);\n    }\n"

unfoldable pub f10 : List ℕ
f10 = codes "F10 Recursive\n\ncheck: x10clock: F10 Recursive at 17\n\n    def down() {\n        up();\n    }\n\n    def up() {\n        async down();\n    }\n\n    def main() {\n        up();\n    }\n\nThe method called comes back to the one that calls it, here through an `async`;\nor it is `main`. How many steps a program takes has to be known beforehand. Say\nby a loop how often something is done. Where calls branch, as in\n`fib(n - 1); fib(n - 2);`, write a method for each level of the tree, of which\neach calls the next one:\n\nrun: 7, 5, 6, 4, ended steps 46\n\n    def leaf(n: Long) {\n        Console.OUT.println(n);\n    }\n\n    def twig(n: Long) {\n        async leaf(2 * n);\n        leaf(2 * n + 1);\n    }\n\n    def branch(n: Long) {\n        finish {\n            async twig(2 * n);\n            twig(2 * n + 1);\n        }\n    }\n\n    def main() {\n        branch(1);\n    }\n"

unfoldable pub f11 : List ℕ
f11 = codes "F11 Arity\n\ncheck: x10clock: F11 Arity at 96\n\n    def show(who: Long, what: Long) {\n        Console.OUT.println(10 * who + what);\n    }\n\n    def main() {\n        show(1);\n    }\n\nThe method takes more arguments, or fewer: as many as the parameters of its\n`def`, clocks among them.\n\nrun: 12, ended steps 9\n\n    def show(who: Long, what: Long) {\n        Console.OUT.println(10 * who + what);\n    }\n\n    def main() {\n        show(1, 2);\n    }\n"

unfoldable pub f12 : List ℕ
f12 = codes "F12 SameClockTwice\n\ncheck: x10clock: F12 SameClockTwice at 125\n\n    def both(a: Clock, b: Clock) {\n        a.resume();\n        Clock.advanceAll();\n    }\n\n    def main() {\n        val c = Clock.make();\n        both(c, c);\n    }\n\nOne clock would have two names there. Hand it on once, or make another one:\n\nrun: ended steps 8\n\n    def both(a: Clock, b: Clock) {\n        a.resume();\n        Clock.advanceAll();\n    }\n\n    def main() {\n        val c = Clock.make();\n        val d = Clock.make();\n        both(c, d);\n    }\n"

unfoldable pub f13 : List ℕ
f13 = codes "F13 Literal\n\ncheck: x10clock: F13 Literal at 37\n\n    def main() {\n        Console.OUT.println(9223372036854775808);\n    }\n\nNumbers are whole ones from -9223372036854775808 to 9223372036854775807, without\na needless 0 before them. Sums beyond them wrap:\n\nrun: -9223372036854775808, ended steps 5\n\n    def main() {\n        Console.OUT.println(9223372036854775807 + 1);\n    }\n"

unfoldable pub f14 : List ℕ
f14 = codes "F14 Table\n\n    $ { echo 'def main() {'; seq -f 'val x%.0f = 0;' 65; echo '}'; } | x10clock check -\n    x10clock: F14 Table at 4\n\nToo many of something: 256 shared numbers, 1,024 units (main, each method that\nit reaches, each `async`), and in a unit 64 slots (parameters, what an `async`\ntakes from outside, each `val`, `var` and loop, and room for the parts of an\nexpression), 4,096 instructions, or 64 arguments. A loop with `Math.min` has two\nslots, a `clocked finish` one. The offset is at the name of the method, at the\n`async`, or at the shared number that is one too many. Move a part into a\nmethod, which has slots of its own:\n\nrun: 1, 4, 9, ended steps 17\n\n    def part(n: Long) {\n        val square = n * n;\n        Console.OUT.println(square);\n    }\n\n    def main() {\n        for (i in 1..3) part(i);\n    }\n"

unfoldable pub f15 : List ℕ
f15 = codes "F15 NoHiddenClock\n\ncheck: x10clock: F15 NoHiddenClock at 17\n\n    def main() {\n        clocked async {\n            Clock.advanceAll();\n            Console.OUT.println(2);\n        }\n        Clock.advanceAll();\n        Console.OUT.println(1);\n    }\n\n`clocked async` starts an activity on the clock of the `clocked finish` around\nit, and here is none. Put it into one, with all that is to be in step:\n\nrun: 1, 2, ended steps 15\n\n    def main() {\n        clocked finish {\n            clocked async {\n                Clock.advanceAll();\n                Console.OUT.println(2);\n            }\n            Clock.advanceAll();\n            Console.OUT.println(1);\n        }\n    }\n\nA plain `finish`, a plain `async` and an `async clocked (..)` in between hide\nthe clock: in there it can't be handed on.\n\ncheck: x10clock: F15 NoHiddenClock at 62\n\n    def main() {\n        clocked finish {\n            async {\n                clocked async Console.OUT.println(2);\n            }\n            Clock.advanceAll();\n            Console.OUT.println(1);\n        }\n    }\n\nAn activity that isn't on a clock can't start others on it: write\n`clocked async` at each step on the way. In a plain `finish` nobody could be\nstarted on a clock from outside, with a name or without (V9): leave the inner\n`finish` out, or write `clocked finish`, with a clock of its own.\n\nA method doesn't know from where it is called, and has no hidden clock at its\nhead:\n\ncheck: x10clock: F15 NoHiddenClock at 17\n\n    def work() {\n        clocked async Clock.advanceAll();\n        Clock.advanceAll();\n    }\n\n    def main() {\n        clocked finish work();\n    }\n\nLet the method have a `clocked finish` of its own, or start all activities where\nthe clock is, and let them call methods: `clocked async part(1);`. Or give the\nclock a name, and lend it:\n\nrun: ended steps 13\n\n    def work(c: Clock) {\n        async clocked (c) Clock.advanceAll();\n        Clock.advanceAll();\n    }\n\n    def main() {\n        finish {\n            val c = Clock.make();\n            work(c);\n            c.drop();\n        }\n    }\n"

-- the page on a rule; of others none is here
abbrev pub source_page : RulePage → List ℕ → List ℕ
source_page page.Token other = f1
source_page page.Syntax other = f2
source_page page.TooDeep other = f3
source_page page.TooLong other = f4
source_page page.UnknownName other = f5
source_page page.DuplicateName other = f6
source_page page.WrongKind other = f7
source_page page.NotCaptured other = f8
source_page page.NoMain other = f9
source_page page.Recursive other = f10
source_page page.Arity other = f11
source_page page.SameClockTwice other = f12
source_page page.Literal other = f13
source_page page.Table other = f14
source_page page.NoHiddenClock other = f15
source_page _ other = other
