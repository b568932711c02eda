-- Small programs, and what their runs show, by evaluation. Where a module stands beside a program, its run has the same moments.
use Rattle.std.proofs.Common.{◌≡◌, ℕ, ℤ, true, false, pos, List, [], ◌∷◌, codes, Option, Some, None, map, refl}
use Rattle.xk_types.specs.declared.instr.Comparison.TheVariants as comparison
use Rattle.xk_types.specs.declared.instr.Instr.TheVariants as instr
use Rattle.xk_types.specs.declared.unit.UnitKind.TheVariants as unit_kind
use Rattle.xk_types.specs.declared.unit.ParamKind.TheVariants as param
use Rattle.xk_types.specs.declared.world.Event.{Event}
use Rattle.xk_types.specs.declared.world.Event.TheVariants as event
use Rattle.xk_types.specs.declared.world.Standing.TheVariants as standing
use Rattle.xk_types.specs.declared.world.Value.TheVariants as value
use Rattle.xk_types.specs.Code.{ModuleValue, module_of}
use Rattle.xk_types.specs.World.{opening}
use Rattle.xk_types.specs.Step.{Blocked, Wrong, Stepped, ClockUse, step, under_within}
use Rattle.xk_tree.specs.declared.tree.Binding.TheVariants as binding
use Rattle.xk_tree.specs.declared.tree.Written.TheVariants as written
use Rattle.xk_tree.specs.declared.tree.Operator.TheVariants as operator
use Rattle.xk_tree.specs.declared.tree.Number.{Number}
use Rattle.xk_tree.specs.declared.tree.Verb.{Verb}
use Rattle.xk_tree.specs.Tree.{Word, Clocks, Expression, Literal, Named, Paren, Binary, Make, Value, UpTo, Least, Statement, Statements, Done, More, Block, Empty, Declare, Assign, Atomic, IfElse, For, Async, Finish, Call, Resume, Drop, AdvanceAll, Print, ParamValue, MethodValue, SharedValue, TreeValue}
use Rattle.xk_emit.specs.CodeOf.{Setting}
use Rattle.xk_source_semantics.specs.Parts.{OfMethod, parts}
use Rattle.xk_source_semantics.specs.Compilation.{taken, unit_of_part}
use Rattle.xk_source_semantics.specs.Source.{Do, Close, Doing, SourceWorld, SourceOutcome, source_step, source_opening}
use Rattle.xk_source_semantics.specs.Meaning.{Moment, moments, have_ended}

-- ---- trees, where offsets don't matter

abbrev pub w : List ℕ → Word
w text = record { at = 0; text = text }

abbrev number : ℤ → Number
number n = record { minus = None; at = 0; value = n }

abbrev verb : Verb
verb = record { at = 0; paren = 0 }

abbrev pub lit : ℕ → Expression
lit n = Literal (number (pos n))

abbrev pub var : List ℕ → Expression
var x = Named (w x)

abbrev plus : Expression → Expression → Expression
plus l r = Binary operator.Plus l 0 r

abbrev times : Expression → Expression → Expression
times l r = Binary operator.Times l 0 r

abbrev pub val_is : List ℕ → Expression → Statement
val_is x e = Declare binding.Val (w x) None (Value e)

abbrev var_is : List ℕ → Expression → Statement
var_is x e = Declare binding.Var (w x) None (Value e)

abbrev val_makes : List ℕ → Statement
val_makes c = Declare binding.Val (w c) None (Make 0 verb)

abbrev pub print : Expression → Statement
print e = Print 0 verb e

abbrev advance : Statement
advance = AdvanceAll 0 verb

abbrev clocked : List ℕ → Option Clocks
clocked c = Some (record { written = written.Listed 0 0; names = w c ∷ [] })

abbrev row_of : List Statement → Statements
row_of [] = Done
row_of (s ∷ ss) = More s (row_of ss)

abbrev pub block : List Statement → Statement
block ss = Block 0 (row_of ss)

abbrev method : List ℕ → List ParamValue → List Statement → MethodValue
method f ps ss = record { name = w f; paren = 0; params = ps; body = row_of ss; close = 0 }

abbrev shared : List ℕ → ℕ → SharedValue
shared s n = record { name = w s; start = number (pos n) }

abbrev program : List SharedValue → List MethodValue → TreeValue
program ss ms = record { shared = ss; methods = ms }

abbrev main : List Statement → MethodValue
main ss = method (codes "main") [] ss

abbrev run_of : TreeValue → List ℕ → List Moment
run_of t list = moments (source_step t) list (source_opening t [])

abbrev events_of : List Moment → List Event
events_of ms = map (λ x. x.event) ms

-- the world that a list of activity numbers leads to, or the one before a step that isn't taken
abbrev on_from : SourceWorld → SourceOutcome → (SourceWorld → SourceWorld) → SourceWorld
on_from v Blocked go = v
on_from v (Wrong c) go = v
on_from v (Stepped next e) go = go next

abbrev world_after : TreeValue → List ℕ → SourceWorld → SourceWorld
world_after t [] v = v
world_after t (a ∷ list) v = on_from v (source_step t v a) (world_after t list)

abbrev after : TreeValue → List ℕ → SourceWorld
after t list = world_after t list (source_opening t [])

-- what each activity has in progress
abbrev list_doing : SourceWorld → List Doing
list_doing v = map (λ act. act.frame) v.activities

-- ---- one activity

-- `var x = 2; ; if (x < 3) { x = x * 2 + 1; println(x + (1)); } else println(0); for (i in 1..2) println(i); for (j in 2..1) println(j);`
abbrev alone : TreeValue
alone = program [] (main (
    var_is (codes "x") (lit 2)
    ∷ Empty
    ∷ IfElse 0 (var (codes "x")) comparison.Lt (lit 3)
    (block (Assign (w (codes "x")) (plus (times (var (codes "x")) (lit 2)) (lit 1)) ∷ print (plus (var (codes "x")) (Paren 0 (lit 1))) ∷ []))
    (print (lit 0))
    ∷ For 0 (w (codes "i")) (number (pos 1)) (UpTo (number (pos 2))) (print (var (codes "i")))
    ∷ For 0 (w (codes "j")) (number (pos 2)) (UpTo (number (pos 1))) (print (var (codes "j")))
    ∷ []) ∷ [])

-- declaration, branch, assignment, print, the loop's beginning, a turn and its end twice, the end of main
alone_run : events_of (run_of alone (0 ∷ 0 ∷ 0 ∷ 0 ∷ 0 ∷ 0 ∷ 0 ∷ 0 ∷ 0 ∷ 0 ∷ []))
    ≡ event.Printed (pos 6) ∷ event.Printed (pos 1) ∷ event.Printed (pos 2) ∷ event.Ended ∷ []
alone_run = refl

-- ---- a limit, and an argument

abbrev takes : List ℕ → ParamValue
takes x = record { name = w x; takes = record { at = 0; kind = param.Number } }

abbrev given_run : TreeValue → List ℤ → List ℕ → List Moment
given_run t args list = moments (source_step t) list (source_opening t args)

abbrev minus : Expression → Expression → Expression
minus l r = Binary operator.Minus l 0 r

-- `var m = n; for (i in 1..Math.min(m, 10)) { m = m - 1; println(i); }` in `main(n: Long)`: m falls, and the limit stays
abbrev falling : TreeValue
falling = program [] (method (codes "main") (takes (codes "n") ∷ []) (
    var_is (codes "m") (var (codes "n"))
    ∷ For 0 (w (codes "i")) (number (pos 1)) (Least (w (32 ∷ [])) verb (var (codes "m")) (number (pos 10)))
    (block (Assign (w (codes "m")) (minus (var (codes "m")) (lit 1)) ∷ print (var (codes "i")) ∷ []))
    ∷ []) ∷ [])

-- the declaration, the loop's beginning, four turns of three steps, the end of main
falling_run : events_of (given_run falling (pos 4 ∷ []) (0 ∷ 0 ∷ 0 ∷ 0 ∷ 0 ∷ 0 ∷ 0 ∷ 0 ∷ 0 ∷ 0 ∷ 0 ∷ 0 ∷ 0 ∷ 0 ∷ 0 ∷ []))
    ≡ event.Printed (pos 1) ∷ event.Printed (pos 2) ∷ event.Printed (pos 3) ∷ event.Printed (pos 4) ∷ event.Ended ∷ []
falling_run = refl

-- no turn: the loop is passed over in one step
falling_none : events_of (given_run falling (pos 0 ∷ []) (0 ∷ 0 ∷ 0 ∷ [])) ≡ event.Ended ∷ []
falling_none = refl

-- more than ten
falling_most : events_of (given_run falling (pos 11 ∷ []) (0 ∷ 0 ∷ 0 ∷ 0 ∷ [])) ≡ event.Printed (pos 1) ∷ []
falling_most = refl

-- the code takes m once into a slot of the limit's own, and not again before `next`
abbrev falling_code : ModuleValue
falling_code = module_of [] (
    record {
      kind = unit_kind.Main;
      params = param.Number ∷ [];
      slots = 5;
      code = instr.Copy 1 0 ∷ instr.Copy 3 1 ∷ instr.ForTo 2 (pos 1) 3 (pos 10) 6 ∷ instr.Lit 4 (pos 1) ∷ instr.Sub 1 1 4 ∷ instr.Print 2 ∷ instr.Next 2 ∷ instr.Ret ∷ [];
    }
    ∷ [])

falling_is : map (unit_of_part (record { shared = []; methods = []; bodies = [] })) (parts falling) ≡ falling_code.units
falling_is = refl

-- its run, where the module has steps more
falling_same : moments (step falling_code) (0 ∷ 0 ∷ 0 ∷ 0 ∷ 0 ∷ 0 ∷ 0 ∷ 0 ∷ 0 ∷ 0 ∷ 0 ∷ 0 ∷ 0 ∷ 0 ∷ 0 ∷ 0 ∷ 0 ∷ 0 ∷ 0 ∷ 0 ∷ []) (opening falling_code (pos 4 ∷ []))
    ≡ given_run falling (pos 4 ∷ []) (0 ∷ 0 ∷ 0 ∷ 0 ∷ 0 ∷ 0 ∷ 0 ∷ 0 ∷ 0 ∷ 0 ∷ 0 ∷ 0 ∷ 0 ∷ 0 ∷ 0 ∷ [])
falling_same = refl

-- `var t = 0; for (i in 1..Math.min(n * n, 10)) { t = t + i; } println(t);`
abbrev squares : MethodValue
squares = method (codes "main") (takes (codes "n") ∷ []) (
    var_is (codes "t") (lit 0)
    ∷ For 0 (w (codes "i")) (number (pos 1)) (Least (w (32 ∷ [])) verb (times (var (codes "n")) (var (codes "n"))) (number (pos 10)))
    (block (Assign (w (codes "t")) (plus (var (codes "t")) (var (codes "i"))) ∷ []))
    ∷ print (var (codes "t"))
    ∷ [])

squares_code : unit_of_part (record { shared = []; methods = []; bodies = [] }) (OfMethod squares) ≡ record {
  kind = unit_kind.Main;
  params = param.Number ∷ [];
  slots = 4;
  code = instr.Lit 1 (pos 0) ∷ instr.Mul 3 0 0 ∷ instr.ForTo 2 (pos 1) 3 (pos 10) 4 ∷ instr.Add 1 1 2 ∷ instr.Next 2 ∷ instr.Print 1 ∷ instr.Ret ∷ [];
}
squares_code = refl

-- ---- two activities on a clock

-- `val c = Clock.make(); async clocked (c) { Clock.advanceAll(); println(2); } Clock.advanceAll(); println(1);`
abbrev together : TreeValue
together = program [] (main (
    val_makes (codes "c")
    ∷ Async 0 (clocked (codes "c")) (block (advance ∷ print (lit 2) ∷ []))
    ∷ advance
    ∷ print (lit 1)
    ∷ []) ∷ [])

abbrev together_code : ModuleValue
together_code = module_of [] (
    record {
      kind = unit_kind.Main;
      params = [];
      slots = 2;
      code = instr.Make 0 ∷ instr.Spawn 1 (0 ∷ []) ∷ instr.Advance ∷ instr.Lit 1 (pos 1) ∷ instr.Print 1 ∷ instr.Ret ∷ [];
    }
    ∷ record {
      kind = unit_kind.Body;
      params = param.Clock ∷ [];
      slots = 2;
      code = instr.Advance ∷ instr.Lit 1 (pos 2) ∷ instr.Print 1 ∷ instr.Ret ∷ [];
    }
    ∷ [])

together_run : run_of together (0 ∷ 0 ∷ 1 ∷ 0 ∷ 0 ∷ 0 ∷ 1 ∷ 0 ∷ 1 ∷ 1 ∷ [])
    ≡ record { activity = 0; event = event.Made; after = record { clocks = record { phase = 0; standings = standing.Open ∷ [] } ∷ []; cells = [] } }
    ∷ record { activity = 0; event = event.Spawned; after = record { clocks = record { phase = 0; standings = standing.Open ∷ standing.Open ∷ [] } ∷ []; cells = [] } }
    ∷ record { activity = 1; event = event.Arrived; after = record { clocks = record { phase = 0; standings = standing.Open ∷ standing.Signalled ∷ [] } ∷ []; cells = [] } }
    ∷ record { activity = 0; event = event.Arrived; after = record { clocks = record { phase = 1; standings = standing.Ahead ∷ standing.Ahead ∷ [] } ∷ []; cells = [] } }
    ∷ record { activity = 0; event = event.Passed; after = record { clocks = record { phase = 1; standings = standing.Open ∷ standing.Ahead ∷ [] } ∷ []; cells = [] } }
    ∷ record { activity = 0; event = event.Printed (pos 1); after = record { clocks = record { phase = 1; standings = standing.Open ∷ standing.Ahead ∷ [] } ∷ []; cells = [] } }
    ∷ record { activity = 1; event = event.Passed; after = record { clocks = record { phase = 1; standings = standing.Open ∷ standing.Open ∷ [] } ∷ []; cells = [] } }
    ∷ record { activity = 0; event = event.Ended; after = record { clocks = record { phase = 1; standings = standing.Apart ∷ standing.Open ∷ [] } ∷ []; cells = [] } }
    ∷ record { activity = 1; event = event.Printed (pos 2); after = record { clocks = record { phase = 1; standings = standing.Apart ∷ standing.Open ∷ [] } ∷ []; cells = [] } }
    ∷ record { activity = 1; event = event.Ended; after = record { clocks = record { phase = 1; standings = standing.Apart ∷ standing.Apart ∷ [] } ∷ []; cells = [] } }
    ∷ []
together_run = refl

-- the module's run; it has a step more for each number that is printed
together_same : moments (step together_code) (0 ∷ 0 ∷ 1 ∷ 0 ∷ 0 ∷ 0 ∷ 0 ∷ 1 ∷ 0 ∷ 1 ∷ 1 ∷ 1 ∷ []) (opening together_code [])
    ≡ run_of together (0 ∷ 0 ∷ 1 ∷ 0 ∷ 0 ∷ 0 ∷ 1 ∷ 0 ∷ 1 ∷ 1 ∷ [])
together_same = refl

-- the one that has arrived waits for the other
together_waits : source_step together (after together (0 ∷ 0 ∷ 1 ∷ [])) 1 ≡ Blocked
together_waits = refl

-- ---- a hidden clock

-- the name of a clock that is hidden, which no text has
abbrev hidden : Word
hidden = w (32 ∷ [])

-- `clocked async BODY`
abbrev clocked_async : List Statement → Statement
clocked_async ss = Async 0 (Some (record { written = written.Ahead 0; names = hidden ∷ [] })) (block ss)

abbrev make_hidden : Statement
make_hidden = Declare binding.Hidden hidden None (Make 0 verb)

abbrev drop_hidden : Statement
drop_hidden = Drop hidden verb

-- `clocked finish BODY`
abbrev clocked_finish : List Statement → Statement
clocked_finish ss = Finish 0 (block (make_hidden ∷ block ss ∷ drop_hidden ∷ []))

abbrev second_goes : Statement
second_goes = clocked_async (advance ∷ print (lit 2) ∷ [])

-- `clocked finish { clocked async { Clock.advanceAll(); println(2); } Clock.advanceAll(); println(1); } println(3);`
abbrev hiding : TreeValue
hiding = program [] (main (
    clocked_finish (second_goes ∷ advance ∷ print (lit 1) ∷ [])
    ∷ print (lit 3)
    ∷ []) ∷ [])

abbrev hiding_code : ModuleValue
hiding_code = module_of [] (
    record {
      kind = unit_kind.Main;
      params = [];
      slots = 2;
      code =
          instr.Finish 7 ∷ instr.Make 0 ∷ instr.Spawn 1 (0 ∷ []) ∷ instr.Advance ∷ instr.Lit 1 (pos 1) ∷ instr.Print 1 ∷ instr.Drop 0 ∷ instr.EndFinish 0
          ∷ instr.Lit 1 (pos 3) ∷ instr.Print 1 ∷ instr.Ret ∷ [];
    }
    ∷ record {
      kind = unit_kind.Body;
      params = param.Clock ∷ [];
      slots = 2;
      code = instr.Advance ∷ instr.Lit 1 (pos 2) ∷ instr.Print 1 ∷ instr.Ret ∷ [];
    }
    ∷ [])

-- what its code refers to: main, and the body of the `async`, which takes nothing from outside but its clock
abbrev hiding_setting : Setting
hiding_setting = record {
  shared = [];
  methods = (codes "main", 0) ∷ [];
  bodies = (0, record { unit = 1; captures = taken hiding (block (advance ∷ print (lit 2) ∷ [])) }) ∷ [];
}

hiding_is : map (unit_of_part hiding_setting) (parts hiding) ≡ hiding_code.units
hiding_is = refl

-- one step opens the finish, and leaves to be done: making the clock, the body, the drop, and the finish's end
hiding_opens : list_doing (after hiding (0 ∷ []))
    ≡ record {
      todo = Do make_hidden ∷ Do second_goes ∷ Do advance ∷ Do (print (lit 1)) ∷ Do drop_hidden ∷ Close ∷ Do (print (lit 3)) ∷ [];
      names = [];
    } ∷ []
hiding_opens = refl

-- a next one makes the clock, and its name stands for it
hiding_makes : list_doing (after hiding (0 ∷ 0 ∷ []))
    ≡ record {
      todo = Do second_goes ∷ Do advance ∷ Do (print (lit 1)) ∷ Do drop_hidden ∷ Close ∷ Do (print (lit 3)) ∷ [];
      names = (hidden.text, value.Clock 0) ∷ [];
    } ∷ []
hiding_makes = refl

-- the finish opens before the clock is made, and closes behind its drop
hiding_run : run_of hiding (0 ∷ 0 ∷ 0 ∷ 0 ∷ 1 ∷ 0 ∷ 0 ∷ 0 ∷ 1 ∷ 1 ∷ 1 ∷ 0 ∷ 0 ∷ 0 ∷ [])
    ≡ record { activity = 0; event = event.Opened; after = record { clocks = []; cells = [] } }
    ∷ record { activity = 0; event = event.Made; after = record { clocks = record { phase = 0; standings = standing.Open ∷ [] } ∷ []; cells = [] } }
    ∷ record { activity = 0; event = event.Spawned; after = record { clocks = record { phase = 0; standings = standing.Open ∷ standing.Open ∷ [] } ∷ []; cells = [] } }
    ∷ record { activity = 0; event = event.Arrived; after = record { clocks = record { phase = 0; standings = standing.Signalled ∷ standing.Open ∷ [] } ∷ []; cells = [] } }
    ∷ record { activity = 1; event = event.Arrived; after = record { clocks = record { phase = 1; standings = standing.Ahead ∷ standing.Ahead ∷ [] } ∷ []; cells = [] } }
    ∷ record { activity = 0; event = event.Passed; after = record { clocks = record { phase = 1; standings = standing.Open ∷ standing.Ahead ∷ [] } ∷ []; cells = [] } }
    ∷ record { activity = 0; event = event.Printed (pos 1); after = record { clocks = record { phase = 1; standings = standing.Open ∷ standing.Ahead ∷ [] } ∷ []; cells = [] } }
    ∷ record { activity = 0; event = event.Dropped; after = record { clocks = record { phase = 1; standings = standing.Apart ∷ standing.Ahead ∷ [] } ∷ []; cells = [] } }
    ∷ record { activity = 1; event = event.Passed; after = record { clocks = record { phase = 1; standings = standing.Apart ∷ standing.Open ∷ [] } ∷ []; cells = [] } }
    ∷ record { activity = 1; event = event.Printed (pos 2); after = record { clocks = record { phase = 1; standings = standing.Apart ∷ standing.Open ∷ [] } ∷ []; cells = [] } }
    ∷ record { activity = 1; event = event.Ended; after = record { clocks = record { phase = 1; standings = standing.Apart ∷ standing.Apart ∷ [] } ∷ []; cells = [] } }
    ∷ record { activity = 0; event = event.Closed; after = record { clocks = record { phase = 1; standings = standing.Apart ∷ standing.Apart ∷ [] } ∷ []; cells = [] } }
    ∷ record { activity = 0; event = event.Printed (pos 3); after = record { clocks = record { phase = 1; standings = standing.Apart ∷ standing.Apart ∷ [] } ∷ []; cells = [] } }
    ∷ record { activity = 0; event = event.Ended; after = record { clocks = record { phase = 1; standings = standing.Apart ∷ standing.Apart ∷ [] } ∷ []; cells = [] } }
    ∷ []
unfolding under_within
hiding_run = refl

-- the module's run, with a step more for each number that is printed
hiding_same : moments (step hiding_code) (0 ∷ 0 ∷ 0 ∷ 0 ∷ 1 ∷ 0 ∷ 0 ∷ 0 ∷ 0 ∷ 1 ∷ 1 ∷ 1 ∷ 1 ∷ 0 ∷ 0 ∷ 0 ∷ 0 ∷ []) (opening hiding_code [])
    ≡ run_of hiding (0 ∷ 0 ∷ 0 ∷ 0 ∷ 1 ∷ 0 ∷ 0 ∷ 0 ∷ 1 ∷ 1 ∷ 1 ∷ 0 ∷ 0 ∷ 0 ∷ [])
unfolding under_within
hiding_same = refl

hiding_ends : have_ended (after hiding (0 ∷ 0 ∷ 0 ∷ 0 ∷ 1 ∷ 0 ∷ 0 ∷ 0 ∷ 1 ∷ 1 ∷ 1 ∷ 0 ∷ 0 ∷ 0 ∷ [])) ≡ true
unfolding under_within
hiding_ends = refl

-- the finish waits for who goes on on its clock
hiding_waits : source_step hiding (after hiding (0 ∷ 0 ∷ 0 ∷ 0 ∷ 1 ∷ 0 ∷ 0 ∷ 0 ∷ [])) 0 ≡ Blocked
unfolding under_within
hiding_waits = refl

-- ---- a shared number

-- `finish { async s = 5; } val x = s; atomic s = s + x; println(x);`, behind `shared r = 7; shared s = 0;`
abbrev sharing : TreeValue
sharing = program (shared (codes "r") 7 ∷ shared (codes "s") 0 ∷ []) (main (
    Finish 0 (block (Async 0 None (Assign (w (codes "s")) (lit 5)) ∷ []))
    ∷ val_is (codes "x") (var (codes "s"))
    ∷ Atomic (w (codes "s")) (w (codes "s")) 0 (var (codes "x"))
    ∷ print (var (codes "x"))
    ∷ []) ∷ [])

abbrev sharing_code : ModuleValue
sharing_code = module_of (pos 7 ∷ pos 0 ∷ []) (
    record {
      kind = unit_kind.Main;
      params = [];
      slots = 1;
      code = instr.Finish 2 ∷ instr.Spawn 1 [] ∷ instr.EndFinish 0 ∷ instr.Get 0 1 ∷ instr.AddTo 1 0 ∷ instr.Print 0 ∷ instr.Ret ∷ [];
    }
    ∷ record { kind = unit_kind.Body; params = []; slots = 1; code = instr.Lit 0 (pos 5) ∷ instr.Put 1 0 ∷ instr.Ret ∷ [] }
    ∷ [])

sharing_run : run_of sharing (0 ∷ 0 ∷ 1 ∷ 1 ∷ 0 ∷ 0 ∷ 0 ∷ 0 ∷ 0 ∷ [])
    ≡ record { activity = 0; event = event.Opened; after = record { clocks = []; cells = pos 7 ∷ pos 0 ∷ [] } }
    ∷ record { activity = 0; event = event.Spawned; after = record { clocks = []; cells = pos 7 ∷ pos 0 ∷ [] } }
    ∷ record { activity = 1; event = event.Put; after = record { clocks = []; cells = pos 7 ∷ pos 5 ∷ [] } }
    ∷ record { activity = 1; event = event.Ended; after = record { clocks = []; cells = pos 7 ∷ pos 5 ∷ [] } }
    ∷ record { activity = 0; event = event.Closed; after = record { clocks = []; cells = pos 7 ∷ pos 5 ∷ [] } }
    ∷ record { activity = 0; event = event.Got; after = record { clocks = []; cells = pos 7 ∷ pos 5 ∷ [] } }
    ∷ record { activity = 0; event = event.Added; after = record { clocks = []; cells = pos 7 ∷ pos 10 ∷ [] } }
    ∷ record { activity = 0; event = event.Printed (pos 5); after = record { clocks = []; cells = pos 7 ∷ pos 10 ∷ [] } }
    ∷ record { activity = 0; event = event.Ended; after = record { clocks = []; cells = pos 7 ∷ pos 10 ∷ [] } }
    ∷ []
unfolding under_within
sharing_run = refl

sharing_same : moments (step sharing_code) (0 ∷ 0 ∷ 1 ∷ 1 ∷ 1 ∷ 0 ∷ 0 ∷ 0 ∷ 0 ∷ 0 ∷ []) (opening sharing_code [])
    ≡ run_of sharing (0 ∷ 0 ∷ 1 ∷ 1 ∷ 0 ∷ 0 ∷ 0 ∷ 0 ∷ 0 ∷ [])
unfolding under_within
sharing_same = refl

-- the finish waits for what was started in it
sharing_waits : source_step sharing (after sharing (0 ∷ 0 ∷ 1 ∷ [])) 0 ≡ Blocked
unfolding under_within
sharing_waits = refl

-- ---- a call, and a clock that was let go

-- `def twice(k: Clock, n: Long) { k.drop(); println(n + n); }`, and in main `val c = Clock.make(); twice(c, 4); c.resume();`
abbrev letting_go : TreeValue
letting_go = program [] (
    method (codes "twice")
    (record { name = w (codes "k"); takes = record { at = 0; kind = param.Clock } } ∷ record { name = w (codes "n"); takes = record { at = 0; kind = param.Number } } ∷ [])
    (Drop (w (codes "k")) verb ∷ print (plus (var (codes "n")) (var (codes "n"))) ∷ [])
    ∷ main (val_makes (codes "c") ∷ Call (w (codes "twice")) 0 (var (codes "c") ∷ lit 4 ∷ []) ∷ Resume (w (codes "c")) verb ∷ [])
    ∷ [])

letting_go_run : events_of (run_of letting_go (0 ∷ 0 ∷ 0 ∷ 0 ∷ 0 ∷ [])) ≡ event.Made ∷ event.Dropped ∷ event.Printed (pos 8) ∷ []
letting_go_run = refl

letting_go_wrong : source_step letting_go (after letting_go (0 ∷ 0 ∷ 0 ∷ 0 ∷ 0 ∷ [])) 0 ≡ Wrong ClockUse
letting_go_wrong = refl

-- nobody has ended yet; of `alone` everybody has
letting_go_stands : have_ended (after letting_go (0 ∷ 0 ∷ 0 ∷ 0 ∷ 0 ∷ [])) ≡ false
letting_go_stands = refl

alone_ends : have_ended (after alone (0 ∷ 0 ∷ 0 ∷ 0 ∷ 0 ∷ 0 ∷ 0 ∷ 0 ∷ 0 ∷ 0 ∷ [])) ≡ true
alone_ends = refl

-- ---- a shared number that is written between two reads

-- `async { s = 5; } val r = s; val q = s; println(r); println(q);`, behind `shared s = 0;`
abbrev pub reading_main : MethodValue
reading_main = main (
    Async 0 None (block (Assign (w (codes "s")) (lit 5) ∷ []))
    ∷ val_is (codes "r") (var (codes "s"))
    ∷ val_is (codes "q") (var (codes "s"))
    ∷ print (var (codes "r"))
    ∷ print (var (codes "q"))
    ∷ [])

abbrev pub reading : TreeValue
reading = program (shared (codes "s") 0 ∷ []) (reading_main ∷ [])

abbrev pub reading_code : ModuleValue
reading_code = module_of (pos 0 ∷ []) (
    record {
      kind = unit_kind.Main;
      params = [];
      slots = 2;
      code = instr.Spawn 1 [] ∷ instr.Get 0 0 ∷ instr.Get 1 0 ∷ instr.Print 0 ∷ instr.Print 1 ∷ instr.Ret ∷ [];
    }
    ∷ record { kind = unit_kind.Body; params = []; slots = 1; code = instr.Lit 0 (pos 5) ∷ instr.Put 0 0 ∷ instr.Ret ∷ [] }
    ∷ [])

-- what its code refers to: the shared number, main, and the body of the `async`, which takes nothing from outside
abbrev pub reading_setting : Setting
reading_setting = record {
  shared = (codes "s", 0) ∷ [];
  methods = (codes "main", 0) ∷ [];
  bodies = (0, record { unit = 1; captures = taken reading (block (Assign (w (codes "s")) (lit 5) ∷ [])) }) ∷ [];
}

-- the definition of the code gives these units: main, and behind it the body that it starts
pub reading_is : map (unit_of_part reading_setting) (parts reading) ≡ reading_code.units
reading_is = refl

-- the second activity writes between the two reads of the first
reading_run : run_of reading (0 ∷ 0 ∷ 1 ∷ 0 ∷ 0 ∷ 0 ∷ 0 ∷ 1 ∷ [])
    ≡ record { activity = 0; event = event.Spawned; after = record { clocks = []; cells = pos 0 ∷ [] } }
    ∷ record { activity = 0; event = event.Got; after = record { clocks = []; cells = pos 0 ∷ [] } }
    ∷ record { activity = 1; event = event.Put; after = record { clocks = []; cells = pos 5 ∷ [] } }
    ∷ record { activity = 0; event = event.Got; after = record { clocks = []; cells = pos 5 ∷ [] } }
    ∷ record { activity = 0; event = event.Printed (pos 0); after = record { clocks = []; cells = pos 5 ∷ [] } }
    ∷ record { activity = 0; event = event.Printed (pos 5); after = record { clocks = []; cells = pos 5 ∷ [] } }
    ∷ record { activity = 0; event = event.Ended; after = record { clocks = []; cells = pos 5 ∷ [] } }
    ∷ record { activity = 1; event = event.Ended; after = record { clocks = []; cells = pos 5 ∷ [] } }
    ∷ []
reading_run = refl

-- the module's run has a step more, which brings the 5 into a slot, and nobody sees it
reading_same : moments (step reading_code) (0 ∷ 0 ∷ 1 ∷ 1 ∷ 0 ∷ 0 ∷ 0 ∷ 0 ∷ 1 ∷ []) (opening reading_code [])
    ≡ run_of reading (0 ∷ 0 ∷ 1 ∷ 0 ∷ 0 ∷ 0 ∷ 0 ∷ 1 ∷ [])
reading_same = refl

reading_ends : have_ended (after reading (0 ∷ 0 ∷ 1 ∷ 0 ∷ 0 ∷ 0 ∷ 0 ∷ 1 ∷ [])) ≡ true
reading_ends = refl
