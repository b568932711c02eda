-- The pages on programs. (tests/prover/rule_pages.py writes this file, from docs/REFUSALS.md.) This project's own.
use Rattle.std.specs.Prelude.{ℕ, List, codes}
use Rattle.xk_rules.specs.declared.page.RulePage.{RulePage}
use Rattle.xk_rules.specs.declared.page.RulePage.TheVariants as page

unfoldable pub v1 : List ℕ
v1 = codes "V1 Target\n\ncheck --module: x10clock: V1 Target unit 0 at 0\n\n    {\"version\":1,\"shared\":[],\"units\":[{\"kind\":\"main\",\"params\":\"\",\"slots\":0,\"code\":[[\"jump\",0],[\"ret\"]]}]}\n\nThe targets of jumps, and the ends of loops and finishes, lie ahead and inside\nthe code; the beginnings lie before. Loops alone come back.\n\ncheck --module: accepted steps 2 activities 1 clocks 0\n\n    {\"version\":1,\"shared\":[],\"units\":[{\"kind\":\"main\",\"params\":\"\",\"slots\":0,\"code\":[[\"jump\",1],[\"ret\"]]}]}\n"

unfoldable pub v2 : List ℕ
v2 = codes "V2 Block\n\ncheck --module: x10clock: V2 Block unit 0 at 1\n\n    {\"version\":1,\"shared\":[],\"units\":[\n      {\"kind\":\"main\",\"params\":\"\",\"slots\":1,\"code\":[[\"for\",0,1,3,2],[\"jump\",3],[\"next\",0],[\"ret\"]]}]}\n\nA `for` or `forto` and its `next`, a `finish` and its `endfinish`, name each\nother, and don't overlap others in part; no jump goes into one or out of it.\nFrom inside, a jump may go to the `next` or the `endfinish`:\n\ncheck --module: accepted steps 8 activities 1 clocks 0\n\n    {\"version\":1,\"shared\":[],\"units\":[\n      {\"kind\":\"main\",\"params\":\"\",\"slots\":1,\"code\":[[\"for\",0,1,3,2],[\"jump\",2],[\"next\",0],[\"ret\"]]}]}\n"

unfoldable pub v3 : List ℕ
v3 = codes "V3 Slot\n\ncheck --module: x10clock: V3 Slot unit 0 at 0\n\n    {\"version\":1,\"shared\":[],\"units\":[{\"kind\":\"main\",\"params\":\"\",\"slots\":1,\"code\":[[\"lit\",1,5],[\"ret\"]]}]}\n\nThe unit has no such slot. Slots are counted from 0.\n\ncheck --module: accepted steps 2 activities 1 clocks 0\n\n    {\"version\":1,\"shared\":[],\"units\":[{\"kind\":\"main\",\"params\":\"\",\"slots\":1,\"code\":[[\"lit\",0,5],[\"ret\"]]}]}\n"

unfoldable pub v4 : List ℕ
v4 = codes "V4 Unit\n\ncheck --module: x10clock: V4 Unit unit 0 at 0\n\n    {\"version\":1,\"shared\":[],\"units\":[\n      {\"kind\":\"main\",\"params\":\"\",\"slots\":0,\"code\":[[\"spawn\",1,[]],[\"ret\"]]},\n      {\"kind\":\"method\",\"params\":\"\",\"slots\":0,\"code\":[[\"ret\"]]}]}\n\nUnit 0 is the only main, and takes no clock. A `call` names a method, a `spawn`\na body, each of greater number than the own unit, with as many arguments as\nparameters.\n\ncheck --module: accepted steps 3 activities 2 clocks 0\n\n    {\"version\":1,\"shared\":[],\"units\":[\n      {\"kind\":\"main\",\"params\":\"\",\"slots\":0,\"code\":[[\"spawn\",1,[]],[\"ret\"]]},\n      {\"kind\":\"body\",\"params\":\"\",\"slots\":0,\"code\":[[\"ret\"]]}]}\n"

unfoldable pub v5 : List ℕ
v5 = codes "V5 Cell\n\ncheck --module: x10clock: V5 Cell unit 0 at 0\n\n    {\"version\":1,\"shared\":[7],\"units\":[{\"kind\":\"main\",\"params\":\"\",\"slots\":1,\"code\":[[\"get\",0,1],[\"ret\"]]}]}\n\nThere is no such shared number. They are counted from 0.\n\ncheck --module: accepted steps 2 activities 1 clocks 0\n\n    {\"version\":1,\"shared\":[7],\"units\":[{\"kind\":\"main\",\"params\":\"\",\"slots\":1,\"code\":[[\"get\",0,0],[\"ret\"]]}]}\n"

unfoldable pub v6 : List ℕ
v6 = codes "V6 Loop\n\ncheck --module: x10clock: V6 Loop unit 0 at 1\n\n    {\"version\":1,\"shared\":[],\"units\":[\n      {\"kind\":\"main\",\"params\":\"\",\"slots\":1,\"code\":[[\"for\",0,1,3,2],[\"lit\",0,1],[\"next\",0],[\"ret\"]]}]}\n\nA loop's bounds are in order, and nothing in it writes its slot, so that it\nends. The loop of a `forto` goes no further than the number in a slot that isn't\nits own, and that nothing in it writes either: here it would be its own.\n\ncheck --module: x10clock: V6 Loop unit 0 at 0\n\n    {\"version\":2,\"shared\":[],\"units\":[\n      {\"kind\":\"main\",\"params\":\"\",\"slots\":1,\"code\":[[\"forto\",0,1,0,3,1],[\"next\",0],[\"ret\"]]}]}\n\nWith a slot of its own, what is written in the loop is free:\n\ncheck --module: accepted steps 8 activities 1 clocks 0\n\n    {\"version\":1,\"shared\":[],\"units\":[\n      {\"kind\":\"main\",\"params\":\"\",\"slots\":2,\"code\":[[\"for\",0,1,3,2],[\"lit\",1,1],[\"next\",0],[\"ret\"]]}]}\n"

unfoldable pub v7 : List ℕ
v7 = codes "V7 End\n\ncheck --module: x10clock: V7 End unit 0 at 0\n\n    {\"version\":1,\"shared\":[],\"units\":[{\"kind\":\"main\",\"params\":\"\",\"slots\":0,\"code\":[[\"ret\"],[\"advance\"]]}]}\n\nThe last instruction of a unit is `ret`, and no other is.\n\ncheck --module: accepted steps 3 activities 1 clocks 0\n\n    {\"version\":1,\"shared\":[],\"units\":[{\"kind\":\"main\",\"params\":\"\",\"slots\":0,\"code\":[[\"advance\"],[\"ret\"]]}]}\n"

unfoldable pub v8 : List ℕ
v8 = codes "V8 Home\n\ncheck: x10clock: V8 Home unit 1 at 2\n\n    def last(c: Clock) {\n        Console.OUT.println(1);\n        c.drop();\n    }\n\n    def main() {\n        val c = Clock.make();\n        last(c);\n        Clock.advanceAll();\n    }\n\nA method drops a clock that it is lent. Its caller goes on with that clock, and\nwould meet a ClockUseException. Let the caller drop it:\n\nrun: 1, ended steps 8\n\n    def last(c: Clock) {\n        Console.OUT.println(1);\n        c.resume();\n    }\n\n    def main() {\n        val c = Clock.make();\n        last(c);\n        c.drop();\n    }\n\nIn a module V8 also says that a slot takes its clocks in one block, and a\nparameter in none. A block is the unit, or the inside of a finish.\n"

unfoldable pub v9 : List ℕ
v9 = codes "V9 Registers\n\ncheck: x10clock: V9 Registers unit 0 at 2\n\n    def main() {\n        val c = Clock.make();\n        finish {\n            async clocked (c) Clock.advanceAll();\n        }\n        Clock.advanceAll();\n    }\n\nIn a finish a clock from outside is handed on. The activity could wait on the\nclock for main, and main at the end of the finish for the activity: for ever.\nMake the clock in the finish, and drop it before its end (as `clocked finish`\nand `clocked async` do, without a name):\n\nrun: ended steps 11\n\n    def main() {\n        finish {\n            val c = Clock.make();\n            async clocked (c) Clock.advanceAll();\n            c.drop();\n        }\n        Clock.advanceAll();\n    }\n\nor start the activity outside of the finish. To lend a clock from outside to a\nmethod is refused in a finish too. In a module V9 also says that a clock which\nis made in a finish isn't handed on outside of it.\n"

unfoldable pub v10 : List ℕ
v10 = codes "V10 SameClock\n\ncheck --module: x10clock: V10 SameClock unit 0 at 1\n\n    {\"version\":1,\"shared\":[],\"units\":[\n      {\"kind\":\"main\",\"params\":\"\",\"slots\":1,\"code\":[[\"make\",0],[\"spawn\",1,[0,0]],[\"ret\"]]},\n      {\"kind\":\"body\",\"params\":\"cc\",\"slots\":2,\"code\":[[\"ret\"]]}]}\n\nOne clock is handed on twice at once (a source text gets F12).\n\ncheck --module: accepted steps 5 activities 2 clocks 2\n\n    {\"version\":1,\"shared\":[],\"units\":[\n      {\"kind\":\"main\",\"params\":\"\",\"slots\":2,\"code\":[[\"make\",0],[\"make\",1],[\"spawn\",1,[0,1]],[\"ret\"]]},\n      {\"kind\":\"body\",\"params\":\"cc\",\"slots\":2,\"code\":[[\"ret\"]]}]}\n"

unfoldable pub v11 : List ℕ
v11 = codes "V11 Use\n\ncheck: x10clock: V11 Use unit 0 at 3 slot 0 out walk 0 1 2 3 4 2 3\n\n    def main() {\n        val c = Clock.make();\n        for (turn in 1..3) {\n            Clock.advanceAll();\n            c.drop();\n        }\n    }\n\nA clock is resumed, dropped or handed on by an activity that isn't registered on\nit, on some walk: a ClockUseException. Here the walk goes round the loop once\nand comes to the `drop` with a clock that is `out`. Drop it after the loop:\n\nrun: ended steps 13\n\n    def main() {\n        val c = Clock.make();\n        for (turn in 1..3) {\n            Clock.advanceAll();\n        }\n        c.drop();\n    }\n\nWalks go into both branches, whatever the numbers are: if one branch drops the\nclock, nobody may use it after the `if`.\n\ncheck: x10clock: V11 Use unit 0 at 5 slot 0 out walk 0 1 2 3 4 5\n\n    def main() {\n        val c = Clock.make();\n        val n = 1;\n        if (n == 2) c.drop();\n        c.resume();\n    }\n\nSo a drop in a loop is refused also where its condition holds in the last turn\nalone: walks don't count turns. Let the loop have the turns in which the clock\nis used, and drop it after the loop. If each activity is on it for another\nnumber of phases, take that number as the loop's bound:\n\ncheck: x10clock: V11 Use unit 1 at 4 slot 0 out walk 0 1 4 5 1 4\n\n    def main() {\n        val c = Clock.make();\n        for (me in 1..3) async clocked(c) {\n            for (p in 1..3) {\n                if (p <= me) Clock.advanceAll(); else c.drop();\n            }\n        }\n    }\n\nrun: ended steps 39\n\n    def main() {\n        val c = Clock.make();\n        for (me in 1..3) async clocked(c) {\n            for (p in 1..Math.min(me, 3)) Clock.advanceAll();\n            c.drop();\n        }\n    }\n"

unfoldable pub v12 : List ℕ
v12 = codes "V12 Held\n\ncheck: x10clock: V12 Held unit 0 at 3 slot 0 live walk 0 1 2 3\n\n    def main() {\n        finish {\n            val c = Clock.make();\n            async clocked (c) Clock.advanceAll();\n        }\n        Console.OUT.println(1);\n    }\n\nA clock that is made in a finish is still held at its end: main would wait there\nfor the activity, and the activity on the clock for main. Drop it before the\nend, on every walk:\n\nrun: 1, ended steps 11\n\n    def main() {\n        finish {\n            val c = Clock.make();\n            async clocked (c) Clock.advanceAll();\n            c.drop();\n        }\n        Console.OUT.println(1);\n    }\n\nA `clocked finish` drops its own clock, so that this can't be forgotten:\n\nrun: 1, ended steps 11\n\n    def main() {\n        clocked finish clocked async Clock.advanceAll();\n        Console.OUT.println(1);\n    }\n"

unfoldable pub v13 : List ℕ
v13 = codes "V13 Leak\n\ncheck: x10clock: V13 Leak unit 0 at 1 slot 1 live walk 0 1 2 3 4 1\n\n    def main() {\n        for (day in 1..2) {\n            val c = Clock.make();\n            async clocked (c) Clock.advanceAll();\n            Clock.advanceAll();\n        }\n    }\n\nThe only name of a clock is lost while the activity is registered on it: the\nnext turn would write over it, or it goes with the end of a method. Nobody could\ndrop the clock any more, and each `advanceAll` would go on resuming it. Drop it:\n\nrun: ended steps 20\n\n    def main() {\n        for (day in 1..2) {\n            val c = Clock.make();\n            async clocked (c) Clock.advanceAll();\n            Clock.advanceAll();\n            c.drop();\n        }\n    }\n\nMain and the bodies of `async` need not drop theirs at their own end, with which\nthey are registered nowhere.\n"

unfoldable pub v14 : List ℕ
v14 = codes "V14 Steps\n\ncheck: x10clock: V14 Steps over 1000000000\n\n    def main() {\n        for (i in 1..1000) for (j in 1..1000) for (k in 1..1000) ;\n    }\n\nA run may take more than 1,000,000,000 steps. Loops in one another multiply\ntheir turns: have fewer, or give the bounds that are wanted.\n\ncheck: accepted steps 1002002 activities 1 clocks 0\n\n    def main() {\n        for (i in 1..1000) for (j in 1..1000) ;\n    }\n"

unfoldable pub v15 : List ℕ
v15 = codes "V15 Activities\n\ncheck: x10clock: V15 Activities over 100000\n\n    def main() {\n        for (i in 1..100000) async { }\n    }\n\nThere may be more than 100,000 activities, main among them. Start fewer, each\nwith more to do: an `async` in a loop counts as often as the loop turns.\n\ncheck: accepted steps 100402 activities 101 clocks 0\n\n    def main() {\n        for (i in 1..100) async for (j in 1..1000) ;\n    }\n"

unfoldable pub v16 : List ℕ
v16 = codes "V16 Clocks\n\ncheck: x10clock: V16 Clocks over 100000\n\n    def main() {\n        for (i in 1..100001) {\n            val c = Clock.make();\n            c.drop();\n        }\n    }\n\nMore than 100,000 clocks may be made. A clock can be used in many phases: make\nit outside of the loop.\n\ncheck: accepted steps 300007 activities 1 clocks 1\n\n    def main() {\n        val c = Clock.make();\n        for (i in 1..100001) Clock.advanceAll();\n        c.drop();\n    }\n"

unfoldable pub v17 : List ℕ
v17 = codes "V17 Stack\n\n    $ seq 65 | awk '{v=\"\"; for(x=0;x<64;)v=v\"val x\"x++\"=0;\"; print \"def m\"$1\"(){\"v ($1<65?\"m\"$1+1\"();\":\"\")\"}\"}' > m.x10\n    $ echo 'def main() { m1(); }' | cat m.x10 - | x10clock check -\n    x10clock: V17 Stack over 4096\n\nMethods that call one another have more than 4,096 slots together: here 65\nmethods of 64 slots each. A method's slots are given back at its end, so methods\nthat are called one after the other don't add up:\n\ncheck: accepted steps 11 activities 1 clocks 0\n\n    def first(n: Long) {\n        Console.OUT.println(n);\n    }\n\n    def second(n: Long) {\n        Console.OUT.println(n + 1);\n    }\n\n    def main() {\n        first(1);\n        second(1);\n    }\n"

-- the page on a rule; of others none is here
abbrev pub verifier_page : RulePage → List ℕ → List ℕ
verifier_page page.Target other = v1
verifier_page page.Block other = v2
verifier_page page.Slot other = v3
verifier_page page.Unit other = v4
verifier_page page.Cell other = v5
verifier_page page.Loop other = v6
verifier_page page.End other = v7
verifier_page page.Home other = v8
verifier_page page.Registers other = v9
verifier_page page.SameClock other = v10
verifier_page page.Use other = v11
verifier_page page.Held other = v12
verifier_page page.Leak other = v13
verifier_page page.Steps other = v14
verifier_page page.Activities other = v15
verifier_page page.Clocks other = v16
verifier_page page.Stack other = v17
verifier_page _ other = other
