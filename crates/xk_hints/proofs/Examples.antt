-- Small programs: what is told of them, by evaluation.
use Rattle.std.proofs.Common.{◌≡◌, ℕ, pos, List, [], ◌∷◌, refl, Option, Some, None}
use Rattle.std.specs.Prelude.{codes}
use Rattle.xk_tree.specs.declared.tree.Binding.TheVariants as binding
use Rattle.xk_tree.specs.declared.tree.Number.{Number}
use Rattle.xk_tree.specs.declared.tree.Verb.{Verb}
use Rattle.xk_tree.specs.declared.tree.Written.TheVariants as written
use Rattle.xk_tree.specs.Tree.{Word, Clocks, Literal, Named, Make, Value, UpTo, MethodValue, SharedValue, TreeValue}
use Rattle.xk_tree.specs.Tree.{Statement, Statements, Done, More, Block, Declare, Assign, For, Async, Finish, Drop, AdvanceAll, Print}
use Rattle.xk_hints.specs.declared.access.Act.TheVariants as act
use Rattle.xk_hints.specs.declared.remark.Matter.TheVariants as matter
use Rattle.xk_hints.specs.Deeds.{some_in_method}
use Rattle.xk_hints.specs.Hints.{here, method_remarks, on, remarks, shared_remarks}
use Rattle.xk_hints.specs.Meetings.{method_meetings}
use Rattle.xk_hints.specs.Words.{hints, words}

abbrev verb : Verb
verb = record { at = 0; paren = 0 }

abbrev number : ℕ → Number
number n = record { minus = None; at = 0; value = pos n }

abbrev named : ℕ → List ℕ → Word
named at text = record { at = at; text = text }

abbrev main : Statements → MethodValue
main body = record { name = named 4 (codes "main"); paren = 8; params = []; body = body; close = 90 }

abbrev program : List SharedValue → Statements → TreeValue
program shared body = record { shared = shared; methods = main body ∷ [] }

-- ---- `clocked finish async Clock.advanceAll();`, and with `clocked async`

abbrev hidden : Word
hidden = named 12 (codes "  ")

abbrev clocked_finish : Option Clocks → TreeValue
clocked_finish clocks =
    program [] (More (Finish 20 (Block 20
    (More (Declare binding.Hidden hidden None (Make 12 verb)) (More (Async 30 clocks (AdvanceAll 36 verb))
    (More (Drop hidden verb) Done))))) Done)

forgotten : remarks (clocked_finish None) ≡ here matter.UnjoinedFinish 12 ∷ here matter.Clockless 36 ∷ []
unfolding method_remarks
forgotten = refl

joined : remarks (clocked_finish (Some (record { written = written.Ahead 22; names = hidden ∷ [] }))) ≡ []
unfolding method_remarks
joined = refl

-- ---- names

abbrev x : Word
x = named 20 (codes "x")

-- `val x = 1;`, and this behind it
abbrev declared : Statements → TreeValue
declared behind = program [] (More (Declare binding.Val x None (Value (Literal (number 1)))) behind)

unused : hints (declared Done) ≡ record { at = 20; text = codes "hint: `x` is never used" } ∷ []
unfolding words method_remarks
unused = refl

used : remarks (declared (More (Print 30 verb (Named x)) Done)) ≡ []
unfolding method_remarks
used = refl

-- `var x = 1; x = 2;`
unread : remarks (program [] (More (Declare binding.Var x None (Value (Literal (number 1)))) (More (Assign x (Literal (number 2))) Done)))
    ≡ on matter.Unread x ∷ []
unfolding method_remarks
unread = refl

-- `shared x = 1;`
never : remarks (program (record { name = x; start = number 1 } ∷ []) Done) ≡ on matter.Unused x ∷ []
unfolding shared_remarks method_remarks some_in_method method_meetings
never = refl

-- ---- `for (y in 3..1) Console.OUT.println(y);`, and `for (y in 3..3)`

abbrev y : Word
y = named 40 (codes "y")

abbrev counted : ℕ → TreeValue
counted last = program [] (More (For 39 y (number 3) (UpTo (number last)) (Print 50 verb (Named y))) Done)

turnless : remarks (counted 1) ≡ here matter.Turnless 39 ∷ []
unfolding method_remarks
turnless = refl

one_turn : remarks (counted 3) ≡ []
unfolding method_remarks
one_turn = refl

-- ---- `shared x = 0;`, and two activities: `async x = 1;` or `finish async x = 1;`, and then `async { val t = x; }`

abbrev t : Word
t = named 60 (codes "t")

abbrev x_at : ℕ → Word
x_at at = named at (codes "x")

abbrev writer : Statement
writer = Async 30 None (Assign (x_at 36) (Literal (number 1)))

abbrev reader : Statement
reader = Async 50 None (Block 70 (More (Declare binding.Val t None (Value (Named (x_at 64)))) Done))

abbrev behind : Statement → TreeValue
behind s = program (record { name = x; start = number 0 } ∷ []) (More s (More reader Done))

beside : remarks (behind writer) ≡ on matter.Unused t ∷ on (matter.Unordered act.Read act.Write) (x_at 64) ∷ []
unfolding shared_remarks method_remarks some_in_method method_meetings
beside = refl

waited_for : remarks (behind (Finish 24 writer)) ≡ on matter.Unused t ∷ []
unfolding shared_remarks method_remarks some_in_method method_meetings
waited_for = refl
