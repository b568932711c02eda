-- Small programs, and the units that they have, by evaluation.
use Rattle.std.proofs.Common.{◌≡◌, ℕ, ℤ, pos, List, [], ◌∷◌, codes, Option, Some, None, refl}
use Rattle.std.proofs.lemmas.List.Elements.{All-from_recursion}
use Rattle.xk_types.specs.declared.instr.Comparison.TheVariants as comparison
use Rattle.xk_types.specs.declared.instr.Instr.TheVariants as instr
use Rattle.xk_types.specs.declared.unit.UnitKind.TheVariants as unit_kind
use Rattle.xk_types.specs.declared.unit.ParamKind.TheVariants as param
use Rattle.xk_types.specs.Code.{UnitValue}
use Rattle.xk_tree.specs.declared.tree.Binding.TheVariants as binding
use Rattle.xk_tree.specs.declared.tree.Written.TheVariants as written
use Rattle.xk_tree.specs.declared.tree.Operator.TheVariants as operator
use Rattle.xk_tree.specs.declared.tree.Number.{Number}
use Rattle.xk_tree.specs.declared.tree.Verb.{Verb}
use Rattle.xk_tree.specs.Tree.{Word, Clocks, Expression, Literal, Named, Paren, Negation, Binary, Make, Value, Bound, UpTo, Least, Statement, Statements, Done, More, Block, Empty, Declare, Assign, Atomic, If, IfElse, For, Async, Finish, Call, Resume, Drop, AdvanceAll, Print}
use Rattle.xk_emit.specs.CodeOf.{Setting}
use Rattle.xk_emit.specs.Unit.{unit_of_body, unit_of_method}
use Rattle.xk_emit.specs.NameCoverage.{IsFound, IsUnitCovered}

-- ---- trees, where offsets don't matter

abbrev w : List ℕ → Word
w text = record { at = 0; text = text }

abbrev number : ℤ → Number
number n = record { minus = None; at = 0; value = n }

abbrev verb : Verb
verb = record { at = 0; paren = 0 }

abbrev lit : ℤ → Expression
lit n = Literal (number n)

abbrev var : List ℕ → Expression
var x = Named (w x)

abbrev val_is : List ℕ → Expression → Statement
val_is x e = Declare binding.Val (w x) None (Value e)

abbrev val_makes : List ℕ → Statement
val_makes c = Declare binding.Val (w c) None (Make 0 verb)

abbrev print : Expression → Statement
print e = Print 0 verb e

abbrev clocked : List ℕ → Option Clocks
clocked c = Some (record { written = written.Listed 0 0; names = w c ∷ [] })

abbrev main_unit : Setting → Statements → UnitValue
main_unit cx ss = unit_of_method cx unit_kind.Main (record { name = w (codes "main"); paren = 0; params = []; body = ss; close = 0 })

-- ---- an activity that is handed a clock

abbrev with_body : Setting
with_body = record { shared = []; methods = []; bodies = (7, record { unit = 1; captures = [] }) ∷ [] }

abbrev hands : Statement
hands = Block 0 (More (AdvanceAll 0 verb) (More (print (lit (pos 2))) Done))

main_hands : main_unit with_body (More (val_makes (codes "c")) (More (Async 7 (clocked (codes "c")) hands) (More (AdvanceAll 0 verb) (More (print (lit (pos 1))) Done))))
    ≡ record {
      kind = unit_kind.Main;
      params = [];
      slots = 2;
      code =
          instr.Make 0 ∷ instr.Spawn 1 (0 ∷ []) ∷ instr.Advance ∷ instr.Lit 1 (pos 1) ∷ instr.Print 1 ∷ instr.Ret ∷ [];
    }
main_hands = refl

body_handed : unit_of_body with_body 7 (clocked (codes "c")) hands
    ≡ record { kind = unit_kind.Body; params = param.Clock ∷ []; slots = 2; code = instr.Advance ∷ instr.Lit 1 (pos 2) ∷ instr.Print 1 ∷ instr.Ret ∷ [] }
body_handed = refl

-- ---- a comparison

abbrev bare : Setting
bare = record { shared = []; methods = []; bodies = [] }

main_compares : main_unit bare (More (val_makes (codes "c")) (More (val_is (codes "n") (lit (pos 1)))
    (More (If 0 (var (codes "n")) comparison.Eq (lit (pos 1)) (Block 0 (More (Drop (w (codes "c")) verb) Done))) (More (Resume (w (codes "c")) verb) Done))))
    ≡ record {
      kind = unit_kind.Main;
      params = [];
      slots = 3;
      code =
          instr.Make 0 ∷ instr.Lit 1 (pos 1) ∷ instr.Lit 2 (pos 1) ∷ instr.Unless comparison.Eq 1 2 5 ∷ instr.Drop 0 ∷ instr.Resume 0 ∷ instr.Ret ∷ [];
    }
main_compares = refl

-- the same with an `else`
main_chooses : main_unit bare (More (val_is (codes "n") (lit (pos 2)))
    (More (IfElse 0 (var (codes "n")) comparison.Eq (lit (pos 1)) (Block 0 (More (print (lit (pos 1))) Done)) (Block 0 (More (print (lit (pos 0))) Done))) Done))
    ≡ record {
      kind = unit_kind.Main;
      params = [];
      slots = 2;
      code =
          instr.Lit 0 (pos 2) ∷ instr.Lit 1 (pos 1) ∷ instr.Unless comparison.Eq 0 1 6 ∷ instr.Lit 1 (pos 1) ∷ instr.Print 1 ∷ instr.Jump 8
          ∷ instr.Lit 1 (pos 0) ∷ instr.Print 1 ∷ instr.Ret ∷ [];
    }
main_chooses = refl

-- ---- a loop in a finish, and a shared number

abbrev adding : Setting
adding = record { shared = (codes "s", 0) ∷ []; methods = []; bodies = (9, record { unit = 1; captures = codes "i" ∷ [] }) ∷ [] }

abbrev adds : Statement
adds = Block 0 (More (Atomic (w (codes "s")) (w (codes "s")) 0 (var (codes "i"))) Done)

abbrev adding_main : Statements
adding_main = More (Finish 0 (Block 0 (More (For 0 (w (codes "i")) (number (pos 1)) (UpTo (number (pos 3))) (Async 9 None adds)) Done)))
    (More (val_is (codes "r") (var (codes "s"))) (More (print (var (codes "r"))) Done))

main_adds : main_unit adding adding_main
    ≡ record {
      kind = unit_kind.Main;
      params = [];
      slots = 2;
      code =
          instr.Finish 4 ∷ instr.For 0 (pos 1) (pos 3) 3 ∷ instr.Spawn 1 (0 ∷ []) ∷ instr.Next 1 ∷ instr.EndFinish 0 ∷ instr.Get 1 0 ∷ instr.Print 1 ∷ instr.Ret ∷ [];
    }
main_adds = refl

-- every name that it needs is found, and every name that it declares is new
main_is_covered : IsUnitCovered adding [] (Block 0 adding_main)
main_is_covered = record {
  params = tt;
  body = ((λ _. (tt, refl, (refl, All-from_recursion (IsFound ((codes "i", 0) ∷ [])) (codes "i" ∷ []) (refl, tt))), tt), ((tt, refl), (refl, tt)));
}

body_adds : unit_of_body adding 9 None adds
    ≡ record { kind = unit_kind.Body; params = param.Number ∷ []; slots = 1; code = instr.AddTo 0 0 ∷ instr.Ret ∷ [] }
body_adds = refl

-- ---- temporaries, and shared numbers that are written

abbrev calling : Setting
calling = record { shared = (codes "s", 0) ∷ []; methods = (codes "f", 1) ∷ []; bodies = [] }

-- each argument has the next free temporary; the last instruction of an assignment writes the name's own slot
main_calls : main_unit calling (More (Declare binding.Var (w (codes "x")) None (Value (lit (pos 1))))
    (More (Call (w (codes "f")) 0 (lit (pos 5) ∷ var (codes "x") ∷ Binary operator.Plus (var (codes "x")) 0 (lit (pos 2)) ∷ []))
    (More (Assign (w (codes "x")) (Binary operator.Times (Paren 0 (Binary operator.Minus (var (codes "x")) 0 (lit (pos 3)))) 0 (Negation 0 (var (codes "x")))))
    (More (Assign (w (codes "s")) (Paren 0 (var (codes "x")))) (More (Assign (w (codes "x")) (var (codes "s"))) Done)))))
    ≡ record {
      kind = unit_kind.Main;
      params = [];
      slots = 3;
      code =
          instr.Lit 0 (pos 1)
          ∷ instr.Lit 1 (pos 5) ∷ instr.Lit 2 (pos 2) ∷ instr.Add 2 0 2 ∷ instr.Call 1 (1 ∷ 0 ∷ 2 ∷ [])
          ∷ instr.Lit 1 (pos 3) ∷ instr.Sub 1 0 1 ∷ instr.Lit 2 (pos 0) ∷ instr.Sub 2 2 0 ∷ instr.Mul 0 1 2
          ∷ instr.Put 0 0 ∷ instr.Get 0 0 ∷ instr.Ret ∷ [];
    }
main_calls = refl

-- ---- a loop with a limit

abbrev times : Expression → Expression → Expression
times l r = Binary operator.Times l 0 r

abbrev plus : Expression → Expression → Expression
plus l r = Binary operator.Plus l 0 r

-- a name that no text has, as the limit of a loop and a hidden clock have
abbrev hidden : Word
hidden = w (32 ∷ [])

-- the bound `Math.min(e, n)`
abbrev least : Expression → ℤ → Bound
least e n = Least hidden verb e (number n)

-- `def main(n: Long) { var t = 0; for (i in 1..Math.min(n * n, 10)) { t = t + i; } println(t); }`
abbrev squares_main : Statements
squares_main = More (Declare binding.Var (w (codes "t")) None (Value (lit (pos 0))))
    (More (For 0 (w (codes "i")) (number (pos 1)) (least (times (var (codes "n")) (var (codes "n"))) (pos 10))
    (Block 0 (More (Assign (w (codes "t")) (plus (var (codes "t")) (var (codes "i")))) Done)))
    (More (print (var (codes "t"))) Done))

-- its limit is brought to the slot behind that of its name, once, before the loop begins
main_squares : unit_of_method bare unit_kind.Main (record {
  name = w (codes "main");
  paren = 0;
  params = record { name = w (codes "n"); takes = record { at = 0; kind = param.Number } } ∷ [];
  body = squares_main;
  close = 0;
}) ≡ record {
  kind = unit_kind.Main;
  params = param.Number ∷ [];
  slots = 4;
  code =
      instr.Lit 1 (pos 0) ∷ instr.Mul 3 0 0 ∷ instr.ForTo 2 (pos 1) 3 (pos 10) 4 ∷ instr.Add 1 1 2 ∷ instr.Next 2 ∷ instr.Print 1 ∷ instr.Ret ∷ [];
}
main_squares = refl

squares_is_covered : IsUnitCovered bare (codes "n" ∷ []) (Block 0 squares_main)
squares_is_covered = record {
  params = (refl, tt);
  body = ((tt, refl), ((λ _. ((refl, refl), (refl, refl), ((refl, (refl, refl)), tt))), (refl, tt)));
}

-- the limit of a loop within another: each has the two next slots, and a temporary stands behind the slots of all names
main_nests : main_unit bare
    (More (For 0 (w (codes "i")) (number (pos 1)) (least (lit (pos 2)) (pos 3))
    (For 0 (w (codes "j")) (number (pos 0)) (Least (w (32 ∷ 32 ∷ [])) verb (plus (Paren 0 (times (var (codes "i")) (var (codes "i")))) (lit (pos 1))) (number (pos 9)))
    (print (var (codes "j"))))) Done)
    ≡ record {
      kind = unit_kind.Main;
      params = [];
      slots = 6;
      code =
          instr.Lit 1 (pos 2) ∷ instr.ForTo 0 (pos 1) 1 (pos 3) 8
          ∷ instr.Mul 4 0 0 ∷ instr.Lit 5 (pos 1) ∷ instr.Add 3 4 5 ∷ instr.ForTo 2 (pos 0) 3 (pos 9) 7 ∷ instr.Print 2 ∷ instr.Next 5
          ∷ instr.Next 1 ∷ instr.Ret ∷ [];
    }
main_nests = refl

-- ---- no turn

-- a loop with no turn has no code, and its names have their slots
main_skips : main_unit bare (More (For 0 (w (codes "i")) (number (pos 1)) (UpTo (number (pos 0))) (val_is (codes "x") (lit (pos 1))))
    (More Empty (More (val_is (codes "y") (Paren 0 (lit (pos 3)))) Done)))
    ≡ record { kind = unit_kind.Main; params = []; slots = 3; code = instr.Lit 2 (pos 3) ∷ instr.Ret ∷ [] }
main_skips = refl

-- nor has one with a limit, which isn't taken then, and has its slot too
main_skips_limit : main_unit bare (More (For 0 (w (codes "i")) (number (pos 4)) (least (lit (pos 7)) (pos 3)) Empty)
    (More (val_is (codes "y") (lit (pos 3))) Done))
    ≡ record { kind = unit_kind.Main; params = []; slots = 3; code = instr.Lit 2 (pos 3) ∷ instr.Ret ∷ [] }
main_skips_limit = refl

-- ---- a hidden clock

-- `clocked async BODY`, on the clock that is hidden under this name
abbrev clocked_on : Word → Option Clocks
clocked_on h = Some (record { written = written.Ahead 0; names = h ∷ [] })

-- `clocked finish BODY`
abbrev clocked_finish : Word → Statement → Statement
clocked_finish h s = Finish 0 (Block 0 (More (Declare binding.Hidden h None (Make 0 verb)) (More s (More (Drop h verb) Done))))

-- `clocked finish { clocked async { Clock.advanceAll(); println(2); } Clock.advanceAll(); println(1); } println(3);`
abbrev hiding_main : Statements
hiding_main = More (clocked_finish hidden (Block 0 (More (Async 7 (clocked_on hidden) hands) (More (AdvanceAll 0 verb) (More (print (lit (pos 1))) Done)))))
    (More (print (lit (pos 3))) Done)

-- the clock is made behind the finish's beginning and dropped before its end
main_hides : main_unit with_body hiding_main
    ≡ record {
      kind = unit_kind.Main;
      params = [];
      slots = 2;
      code =
          instr.Finish 7 ∷ instr.Make 0 ∷ instr.Spawn 1 (0 ∷ []) ∷ instr.Advance ∷ instr.Lit 1 (pos 1) ∷ instr.Print 1 ∷ instr.Drop 0 ∷ instr.EndFinish 0
          ∷ instr.Lit 1 (pos 3) ∷ instr.Print 1 ∷ instr.Ret ∷ [];
    }
main_hides = refl

-- the body takes it, as it would one with a name
body_hidden : unit_of_body with_body 7 (clocked_on hidden) hands ≡ unit_of_body with_body 7 (clocked (codes "c")) hands
body_hidden = refl

hiding_is_covered : IsUnitCovered with_body [] (Block 0 hiding_main)
hiding_is_covered = record {
  params = tt;
  body = (((tt, refl), (((refl, All-from_recursion (IsFound ((hidden.text, 0) ∷ [])) (hidden.text ∷ []) (refl, tt)), (tt, (tt, tt))), (refl, tt))), (tt, tt));
}

-- the clock of one `clocked finish` within another has a name with fewer spaces
abbrev outer : Word
outer = w (32 ∷ 32 ∷ [])

abbrev nesting : Setting
nesting = record {
  shared = [];
  methods = [];
  bodies = (7, record { unit = 1; captures = [] }) ∷ (8, record { unit = 2; captures = codes "b" ∷ [] }) ∷ [];
}

-- `val a = 1; clocked finish { val b = a; clocked finish clocked async { .. } clocked async println(b); } val z = 3;`: hidden clocks have slots
-- among those of other names, in the order of the text, and each body is given its own
main_hides_two : main_unit nesting (More (val_is (codes "a") (lit (pos 1)))
    (More (clocked_finish outer (Block 0 (More (val_is (codes "b") (var (codes "a")))
    (More (clocked_finish hidden (Async 7 (clocked_on hidden) hands))
    (More (Async 8 (clocked_on outer) (print (var (codes "b")))) Done)))))
    (More (val_is (codes "z") (lit (pos 3))) Done)))
    ≡ record {
      kind = unit_kind.Main;
      params = [];
      slots = 5;
      code =
          instr.Lit 0 (pos 1) ∷ instr.Finish 11 ∷ instr.Make 1 ∷ instr.Copy 2 0
          ∷ instr.Finish 8 ∷ instr.Make 3 ∷ instr.Spawn 1 (3 ∷ []) ∷ instr.Drop 3 ∷ instr.EndFinish 4
          ∷ instr.Spawn 2 (1 ∷ 2 ∷ []) ∷ instr.Drop 1 ∷ instr.EndFinish 1 ∷ instr.Lit 4 (pos 3) ∷ instr.Ret ∷ [];
    }
main_hides_two = refl

-- its clock stands before the numbers that a body takes
body_hidden_takes : unit_of_body nesting 8 (clocked_on outer) (print (var (codes "b")))
    ≡ record { kind = unit_kind.Body; params = param.Clock ∷ param.Number ∷ []; slots = 2; code = instr.Print 1 ∷ instr.Ret ∷ [] }
body_hidden_takes = refl
