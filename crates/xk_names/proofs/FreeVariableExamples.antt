-- Small trees with bodies of `async`: what each takes, and the occurrences of names that are free in it and that aren't.
use Rattle.std.proofs.Common.{◌≡◌, inl, ℕ, ◌≤◌, pos, List, [], ◌∷◌, refl, sym, subst, ap, ◌∙◌, Some, None, arith}
use Rattle.std.specs.Prelude.{codes}
use Rattle.xk_types.specs.declared.unit.ParamKind.TheVariants as param
use Rattle.xk_tree.specs.declared.tree.Binding.TheVariants as binding
use Rattle.xk_tree.specs.Tree.{Word, Expression, Literal, Named, Value, MethodValue, TreeValue, Statement, Statements, Done, More, Block, Declare, Assign, Async, Print}
use Rattle.xk_names.specs.declared.binding.Known.{Known}
use Rattle.xk_names.specs.declared.binding.NameKind.TheVariants as kind
use Rattle.xk_names.specs.declared.binding.Want.TheVariants as want
use Rattle.xk_names.specs.Scope.{Has, known}
use Rattle.xk_names.specs.Uses.{use_as}
use Rattle.xk_names.specs.Places.{Here, First, Later, Inside}
use Rattle.xk_names.specs.FaultList.{own, name_faults}
use Rattle.xk_names.specs.FreeVariables.{Body, Occurrence, IsFree, OccursFree, IsEarlier, captured, HasNoNameFault}
use Rattle.xk_names.proofs.TreeFaultLemmas.{fault_listed}

abbrev word : ℕ → List ℕ → Word
word at text = record { at = at; text = text }

abbrev x : ℕ → Word
x at = word at (codes "x")

abbrev y : ℕ → Word
y at = word at (codes "y")

abbrev s : ℕ → Word
s at = word at (codes "s")

abbrev one : Expression
one = Literal (record { minus = None; at = 0; value = pos 1 })

abbrev print : Expression → Statement
print e = Print 0 (record { at = 0; paren = 0 }) e

abbrev val : Word → Expression → Statement
val w e = Declare binding.Val w None (Value e)

abbrev async : Statements → Statement
async ss = Async 0 None (Block 0 ss)

-- a number parameter `x` of main, and a shared number `s`
abbrev main : Statements → MethodValue
main body = record { name = word 0 (codes "main"); paren = 0; params = record { name = x 1; takes = record { kind = param.Number; at = 0 } } ∷ []; body = body; close = 0 }

abbrev program : Statements → TreeValue
program body = record { shared = record { name = s 0; start = record { minus = None; at = 0; value = pos 1 } } ∷ []; methods = main body ∷ [] }

-- `def main(x: Int) { async { val y = x; s = y; } }`
abbrev within : Statements
within = More (val (y 2) (Named (x 3))) (More (Assign (s 4) (Named (y 5))) Done)

abbrev declares_within : TreeValue
declares_within = program (More (async within) Done)

abbrev its_body : Body declares_within
its_body = record { method = main (More (async within) Done); there = inl refl; way = First Here; at = 0; clocks = None; statement = Block 0 within; stands = refl }

nothing_listed : name_faults declares_within ≡ []
unfolding own
nothing_listed = refl

no_fault : HasNoNameFault declares_within
no_fault f h = subst (λ k. Has k f) nothing_listed (fault_listed declares_within f h)

-- the parameter is taken, and neither the shared number nor what is declared within
takes_x : captured declares_within its_body ≡ codes "x" ∷ []
takes_x = refl

abbrev x_is_free : OccursFree declares_within its_body (codes "x")
x_is_free = record {
  place = record {
    way = Inside (First Here);
    statement = val (y 2) (Named (x 3));
    stands = refl;
    before = [];
    used = use_as want.Readable (x 3);
    after = [];
    uses_are = refl;
  };
  free = record { known = known kind.Val 0; means = refl; stays = refl; outside = omega arith };
  name = refl;
}

abbrev y_used : Occurrence declares_within its_body
y_used = record {
  way = Inside (Later (First Here));
  statement = Assign (s 4) (Named (y 5));
  stands = refl;
  before = use_as want.Assigned (s 4) ∷ [];
  used = use_as want.Number (y 5);
  after = [];
  uses_are = refl;
}

some_is : (a b : Known) → Some a ≡ Some b → a ≡ b
some_is a b e = cc

y_is_not : IsFree declares_within its_body y_used → ⊥
y_is_not f =
    let within_one : 1 ≤ 0 = subst (λ (k : Known). k.depth ≤ 0) (sym (some_is (known kind.Val 1) f.known f.means)) f.outside in absurd (omega arith)

abbrev s_used : Occurrence declares_within its_body
s_used = record {
  way = Inside (Later (First Here));
  statement = Assign (s 4) (Named (y 5));
  stands = refl;
  before = [];
  used = use_as want.Assigned (s 4);
  after = use_as want.Number (y 5) ∷ [];
  uses_are = refl;
}

s_is_not : IsFree declares_within its_body s_used → ⊥
s_is_not f = let never : kind.Shared ≡ kind.Val = ap (λ (k : Known). k.kind) (some_is (known kind.Shared 0) f.known f.means) ∙ f.stays in absurd cc

-- `def main(x: Int) { val y = 1; async { async { println(y); } println(x); println(y); } }`
abbrev inner : Statements
inner = More (print (Named (y 5))) Done

abbrev outer : Statements
outer = More (async inner) (More (print (Named (x 3))) (More (print (Named (y 4))) Done))

abbrev whole : Statements
whole = More (val (y 2) one) (More (async outer) Done)

abbrev two_bodies : TreeValue
two_bodies = program whole

abbrev outer_body : Body two_bodies
outer_body = record { method = main whole; there = inl refl; way = Later (First Here); at = 0; clocks = None; statement = Block 0 outer; stands = refl }

abbrev inner_body : Body two_bodies
inner_body = record { method = main whole; there = inl refl; way = Later (First (Inside (Inside (First Here)))); at = 0; clocks = None; statement = Block 0 inner; stands = refl }

nothing_listed_either : name_faults two_bodies ≡ []
unfolding own
nothing_listed_either = refl

no_fault_either : HasNoNameFault two_bodies
no_fault_either f h = subst (λ k. Has k f) nothing_listed_either (fault_listed two_bodies f h)

-- what the inner body uses comes first
takes_both : captured two_bodies outer_body ≡ codes "y" ∷ codes "x" ∷ []
takes_both = refl

takes_y : captured two_bodies inner_body ≡ codes "y" ∷ []
takes_y = refl

abbrev y_is_free_inside : OccursFree two_bodies outer_body (codes "y")
y_is_free_inside = record {
  place = record {
    way = Inside (First (Inside (Inside (First Here))));
    statement = print (Named (y 5));
    stands = refl;
    before = [];
    used = use_as want.Number (y 5);
    after = [];
    uses_are = refl;
  };
  free = record { known = known kind.Val 0; means = refl; stays = refl; outside = omega arith };
  name = refl;
}

abbrev x_is_free_behind : OccursFree two_bodies outer_body (codes "x")
x_is_free_behind = record {
  place = record {
    way = Inside (Later (First Here));
    statement = print (Named (x 3));
    stands = refl;
    before = [];
    used = use_as want.Number (x 3);
    after = [];
    uses_are = refl;
  };
  free = record { known = known kind.Val 0; means = refl; stays = refl; outside = omega arith };
  name = refl;
}

y_before_x : IsEarlier two_bodies outer_body y_is_free_inside.place x_is_free_behind.place
y_before_x = tt

not_x_before_y : IsEarlier two_bodies outer_body x_is_free_behind.place y_is_free_inside.place → ⊥
not_x_before_y h = h

-- the `y` of the inner body alone is free there too
abbrev y_is_free_in_inner : OccursFree two_bodies inner_body (codes "y")
y_is_free_in_inner = record {
  place = record {
    way = Inside (First Here);
    statement = print (Named (y 5));
    stands = refl;
    before = [];
    used = use_as want.Number (y 5);
    after = [];
    uses_are = refl;
  };
  free = record { known = known kind.Val 0; means = refl; stays = refl; outside = omega arith };
  name = refl;
}
