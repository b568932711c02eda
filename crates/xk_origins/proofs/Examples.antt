-- Small programs: where their instructions come from, and what their slots are called, by evaluation.
use Rattle.std.proofs.Common.{◌≡◌, ℕ, ℤ, pos, List, [], ◌∷◌, map, codes, Some, None, refl}
use Rattle.xk_types.specs.declared.instr.Comparison.TheVariants as comparison
use Rattle.xk_types.specs.declared.instr.Instr.TheVariants as instr
use Rattle.xk_types.specs.declared.unit.ParamKind.TheVariants as param
use Rattle.xk_types.specs.declared.unit.UnitKind.TheVariants as unit_kind
use Rattle.xk_tree.specs.declared.tree.Binding.TheVariants as binding
use Rattle.xk_tree.specs.declared.tree.Operator.TheVariants as operator
use Rattle.xk_tree.specs.declared.tree.Number.{Number}
use Rattle.xk_tree.specs.declared.tree.Verb.{Verb}
use Rattle.xk_tree.specs.Tree.{Word, Expression, Literal, Named, Binary, Value, UpTo, Least, Statement, Done, More, Block, Declare, Assign, IfElse, For, Async, Finish, Print, MethodValue, TreeValue}
use Rattle.xk_emit.specs.CodeOf.{Setting, code_of}
use Rattle.xk_source_semantics.specs.Parts.{OfMethod, OfBody}
use Rattle.xk_origins.specs.Origin.{Does, Ends, offset_of, origins}
use Rattle.xk_origins.specs.UnitOrigins.{slot_names, unit_origins}

-- ---- trees

abbrev w : ℕ → List ℕ → Word
w at text = record { at = at; text = text }

abbrev number : ℤ → Number
number n = record { minus = None; at = 0; value = n }

abbrev verb : Verb
verb = record { at = 0; paren = 0 }

abbrev lit : ℤ → Expression
lit n = Literal (number n)

abbrev print : ℕ → Expression → Statement
print at e = Print at verb e

abbrev bare : Setting
bare = record { shared = []; methods = []; bodies = [] }

-- ---- an `if` with an `else`: if (n == 1) OUT.println(n); else { OUT.println(n + 2); }

abbrev n : Expression
n = Named (w 4 (codes "n"))

abbrev then_part : Statement
then_part = print 20 n

abbrev else_part : Statement
else_part = Block 70 (More (print 50 (Binary operator.Plus n 60 (lit (pos 2)))) Done)

abbrev test : Statement
test = IfElse 3 n comparison.Eq (lit (pos 1)) then_part else_part

-- the code, and for each instruction what it is for
test_code : code_of bare 1 ((codes "n", 0) ∷ []) 1 0 test
    ≡ instr.Lit 1 (pos 1) ∷ instr.Unless comparison.Eq 0 1 4 ∷ instr.Print 0 ∷ instr.Jump 7 ∷ instr.Lit 1 (pos 2) ∷ instr.Add 1 0 1 ∷ instr.Print 1 ∷ []
test_code = refl

test_origins : origins [] test
    ≡ Does test ∷ Does test ∷ Does then_part ∷ Ends test
    ∷ Does (print 50 (Binary operator.Plus n 60 (lit (pos 2)))) ∷ Does (print 50 (Binary operator.Plus n 60 (lit (pos 2))))
    ∷ Does (print 50 (Binary operator.Plus n 60 (lit (pos 2)))) ∷ []
test_origins = refl

test_offsets : map offset_of (origins [] test) ≡ 3 ∷ 3 ∷ 20 ∷ 3 ∷ 50 ∷ 50 ∷ 50 ∷ []
test_offsets = refl

-- ---- a loop up to the lesser of two: for (i in 0..Math.min(n, 8)) { var x = i; s = x; }, where s is a shared number

abbrev x_is_i : Statement
x_is_i = Declare binding.Var (w 30 (codes "x")) None (Value (Named (w 34 (codes "i"))))

abbrev s_is_x : Statement
s_is_x = Assign (w 37 (codes "s")) (Named (w 41 (codes "x")))

abbrev counts : Statement
counts = For 5 (w 6 (codes "i")) (number (pos 0)) (Least (w 15 (codes " ")) verb n (number (pos 8))) (Block 44 (More x_is_i (More s_is_x Done)))

-- the limit's copy, the head, x, s, and the end of a turn at the `}`
counts_offsets : map offset_of (origins (codes "s" ∷ []) counts) ≡ 5 ∷ 5 ∷ 30 ∷ 37 ∷ 44 ∷ []
counts_offsets = refl

-- where s is a `var`, its number is copied: as many
counts_alone : map offset_of (origins [] counts) ≡ 5 ∷ 5 ∷ 30 ∷ 37 ∷ 44 ∷ []
counts_alone = refl

-- a sum that is put into a shared number takes one more than one that is put into a `var`
abbrev sum : Statement
sum = Assign (w 7 (codes "s")) (Binary operator.Plus n 9 n)

sum_put : map offset_of (origins (codes "s" ∷ []) sum) ≡ 7 ∷ 7 ∷ []
sum_put = refl

sum_assigned : map offset_of (origins [] sum) ≡ 7 ∷ []
sum_assigned = refl

-- a loop that has no turn has no code
idle : origins [] (For 5 (w 6 (codes "i")) (number (pos 2)) (UpTo (number (pos 1))) x_is_i) ≡ []
idle = refl

-- ---- a `finish` with an `async`: def main() { finish async { OUT.println(y); } }, where y is a `val` of main

abbrev body : Statement
body = Block 60 (More (print 45 (Named (w 54 (codes "y")))) Done)

abbrev spawn : Statement
spawn = Async 30 None body

abbrev wait : Statement
wait = Finish 23 spawn

abbrev main : MethodValue
main = record {
  name = w 4 (codes "main");
  paren = 8;
  params = [];
  body = More (Declare binding.Val (w 15 (codes "y")) None (Value (lit (pos 1)))) (More wait Done);
  close = 62;
}

abbrev program : TreeValue
program = record { shared = []; methods = main ∷ [] }

-- The `finish` holds no block, so its end is told where it stands itself; and the end of `main` at its `}`.
main_unit : unit_origins program (OfMethod main)
    ≡ record {
      head = record { at = 4; kind = unit_kind.Main; name = Some (codes "main") };
      offsets = 15 ∷ 23 ∷ 30 ∷ 23 ∷ 62 ∷ [];
      slots = codes "y" ∷ [];
    }
main_unit = refl

-- the body of the `async` takes y from outside, and ends at its own `}`
body_unit : unit_origins program (OfBody 30 None body)
    ≡ record { head = record { at = 30; kind = unit_kind.Body; name = None }; offsets = 45 ∷ 60 ∷ []; slots = codes "y" ∷ [] }
body_unit = refl

-- parameters are first, then names in the order of the text, where a loop has one for itself and one for its limit
abbrev f : MethodValue
f = record {
  name = w 4 (codes "f");
  paren = 5;
  params = record { name = w 6 (codes "n"); takes = record { at = 8; kind = param.Number } } ∷ [];
  body = More counts (More (Declare binding.Val (w 50 (codes "z")) None (Value n)) Done);
  close = 62;
}

f_slots : slot_names program (OfMethod f) ≡ codes "n" ∷ codes "i" ∷ codes " " ∷ codes "x" ∷ codes "z" ∷ []
f_slots = refl
