-- Small bodies of `async`, and what each takes from outside.
use Rattle.std.proofs.Common.{◌≡◌, ℕ, pos, List, [], ◌∷◌, refl, Some, None}
use Rattle.std.specs.Prelude.{codes}
use Rattle.xk_types.specs.declared.unit.ParamKind.TheVariants as param
use Rattle.xk_tree.specs.declared.tree.Number.{Number}
use Rattle.xk_tree.specs.declared.tree.Operator.TheVariants as operator
use Rattle.xk_tree.specs.declared.tree.Binding.TheVariants as binding
use Rattle.xk_tree.specs.declared.tree.Written.TheVariants as written
use Rattle.xk_tree.specs.declared.tree.Verb.{Verb}
use Rattle.xk_tree.specs.Tree.{Word, Expression, Named, Binary, Value, Make, UpTo, Least, Statement, Done, More, Block, Declare, Assign, Atomic, For, Async, Finish, Call, Drop, Print}
use Rattle.xk_names.specs.Uses.{Signatures}
use Rattle.xk_names.specs.Captures.{captures}

abbrev x : Word
x = record { at = 0; text = codes "x" }

abbrev y : Word
y = record { at = 0; text = codes "y" }

abbrev z : Word
z = record { at = 0; text = codes "z" }

abbrev s : Word
s = record { at = 0; text = codes "s" }

abbrev c : Word
c = record { at = 0; text = codes "c" }

abbrev m : Word
m = record { at = 0; text = codes "m" }

abbrev verb : Verb
verb = record { at = 0; paren = 0 }

abbrev number : ℕ → Number
number n = record { minus = None; at = 0; value = pos n }

abbrev print : Expression → Statement
print e = Print 0 verb e

abbrev val : Word → Expression → Statement
val w e = Declare binding.Val w None (Value e)

abbrev async : List Word → Statement → Statement
async cs b = Async 0 (Some (record { written = written.Listed 0 0; names = cs })) b

-- `method` takes a clock and a number, and `s` is a shared number
abbrev methods : Signatures
methods = (codes "m", record { name = c; takes = record { kind = param.Clock; at = 0 } } ∷ record { name = y; takes = record { kind = param.Number; at = 0 } } ∷ []) ∷ []

abbrev taken : Statement → List (List ℕ)
taken b = captures methods (codes "s" ∷ []) b

-- `{ println(y + x); println(y); }`: each once, in the order of first use
once_each : taken (Block 0 (More (print (Binary operator.Plus (Named y) 0 (Named x))) (More (print (Named y)) Done))) ≡ codes "y" ∷ codes "x" ∷ []
once_each = refl

-- `{ async { async { println(x); } } println(y); println(x); }`: what an inner body uses is taken where that body stands
inner_bodies : taken (Block 0 (More (async [] (Block 0 (More (async [] (Block 0 (More (print (Named x)) Done))) Done)))
    (More (print (Named y)) (More (print (Named x)) Done)))) ≡ codes "x" ∷ codes "y" ∷ []
inner_bodies = refl

-- `{ val z = s; atomic s = s + x; s = y; }` with a shared number `s`
shared_not : taken (Block 0 (More (val z (Named s)) (More (Atomic s s 0 (Named x)) (More (Assign s (Named y)) Done)))) ≡ codes "x" ∷ codes "y" ∷ []
shared_not = refl

-- `{ val z = x; println(z); async { println(z + y); } }`: what the body declares isn't taken, and not by bodies within either
own_not : taken (Block 0 (More (val z (Named x)) (More (print (Named z)) (More (async [] (Block 0 (More (print (Binary operator.Plus (Named z) 0 (Named y))) Done))) Done))))
    ≡ codes "x" ∷ codes "y" ∷ []
own_not = refl

-- `{ { val z = x; } println(z); }`: behind the inner block its `z` is gone, and the other `z` is one from outside
out_of_scope : taken (Block 0 (More (Block 0 (More (val z (Named x)) Done)) (More (print (Named z)) Done))) ≡ codes "x" ∷ codes "z" ∷ []
out_of_scope = refl

-- `{ for (z in 2..1) println(z + x); println(z); }`: a loop's name isn't taken, and is gone behind the loop; a loop without a turn counts
loop_name : taken (Block 0 (More (For 0 z (number 2) (UpTo (number 1)) (print (Binary operator.Plus (Named z) 0 (Named x)))) (More (print (Named z)) Done)))
    ≡ codes "x" ∷ codes "z" ∷ []
loop_name = refl

-- `for (z in 1..Math.min(z + x, 2)) println(z + y);`: a loop's name isn't visible in its bound, so that another `z` is taken there
limit_words : taken (For 0 z (number 1) (Least (record { at = 0; text = codes " " }) verb (Binary operator.Plus (Named z) 0 (Named x)) (number 2))
    (print (Binary operator.Plus (Named z) 0 (Named y)))) ≡ codes "z" ∷ codes "x" ∷ codes "y" ∷ []
limit_words = refl

-- `{ m(c, x); async clocked(c) m(c, y); }`: clocks stand in lists
clocks_not : taken (Block 0 (More (Call m 0 (Named c ∷ Named x ∷ [])) (More (async (c ∷ []) (Call m 0 (Named c ∷ Named y ∷ []))) Done))) ≡ codes "x" ∷ codes "y" ∷ []
clocks_not = refl

-- a clock that is hidden, with a name that no text has
abbrev hidden : Word
hidden = record { at = 0; text = codes " " }

abbrev clocked_async : Statement → Statement
clocked_async b = Async 0 (Some (record { written = written.Ahead 0; names = hidden ∷ [] })) b

-- `clocked async println(x);`: nor is a hidden clock taken
hidden_not : taken (clocked_async (print (Named x))) ≡ codes "x" ∷ []
hidden_not = refl

-- `clocked finish clocked async println(x);`
hidden_within : taken (Finish 0 (Block 0 (More (Declare binding.Hidden hidden None (Make 0 verb)) (More (clocked_async (print (Named x))) (More (Drop hidden verb) Done)))))
    ≡ codes "x" ∷ []
hidden_within = refl
