-- Small programs, each with a fault of names that it has.
use Rattle.std.proofs.Common.{◌≡◌, inl, inr, ℕ, ◌+◌, true, false, pos, List, [], ◌∷◌, refl, subst, Option, Some, None, arith}
use Rattle.std.specs.Prelude.{codes}
use Rattle.xk_types.specs.declared.unit.ParamKind.{ParamKind}
use Rattle.xk_types.specs.declared.unit.ParamKind.TheVariants as param
use Rattle.xk_tree.specs.declared.fault.FrontRule.TheVariants as rule
use Rattle.xk_tree.specs.declared.fault.FrontFault.{FrontFault}
use Rattle.xk_tree.specs.declared.tree.Binding.TheVariants as binding
use Rattle.xk_tree.specs.declared.tree.Written.TheVariants as written
use Rattle.xk_tree.specs.declared.tree.Verb.{Verb}
use Rattle.xk_tree.specs.Tree.{Word, Clocks, Expression, Literal, Named, Paren, Make, Value, Least, ParamValue, MethodValue, SharedValue, TreeValue, Statement, Statements, Done, More, Block, Empty, Declare, Assign, For, Async, Finish, Call, Resume, Drop, Print}
use Rattle.xk_names.specs.declared.binding.NameKind.TheVariants as kind
use Rattle.xk_names.specs.declared.binding.Want.TheVariants as want
use Rattle.xk_names.specs.Scope.{Has, known}
use Rattle.xk_names.specs.Uses.{use_as}
use Rattle.xk_names.specs.Places.{Here, First, Later, Inside}
use Rattle.xk_names.specs.Faults.{fault, NotVisible, OtherKind, NotSeen, DeclaredAgain, Misfit, NoMethod, OtherCount, ClockAgain, scope_in, HasNameFault, InMethods, InParams, InBody, HasFault, HasMain, no_main}
use Rattle.xk_names.specs.FaultList.{own, name_faults}
use Rattle.xk_names.proofs.TreeFaultLemmas.{fault_listed}

abbrev named : ℕ → List ℕ → Word
named at text = record { at = at; text = text }

abbrev c : ℕ → Word
c at = named at (codes "c")

abbrev x : ℕ → Word
x at = named at (codes "x")

abbrev verb : ℕ → Verb
verb at = record { at = at; paren = at + 1 }

abbrev one : ℕ → Expression
one at = Literal (record { minus = None; at = at; value = pos 1 })

abbrev method : Word → List ParamValue → Statements → MethodValue
method name params body = record { name = name; paren = 0; params = params; body = body; close = 0 }

abbrev main : Statements → MethodValue
main body = method (named 4 (codes "main")) [] body

abbrev program : List SharedValue → List MethodValue → TreeValue
program shared methods = record { shared = shared; methods = methods }

abbrev alone : Statements → TreeValue
alone body = program [] (main body ∷ [])

-- `println(x);` without a declaration of x
not_visible : HasNameFault (alone (More (Print 1 (verb 2) (Named (x 13))) Done)) (fault rule.UnknownName 13)
not_visible = InBody (main (More (Print 1 (verb 2) (Named (x 13))) Done)) (inl refl)
    (record { way = First Here; statement = Print 1 (verb 2) (Named (x 13)); stands = refl; breaks = NotVisible (use_as want.Number (x 13)) (inl refl) refl refl })

-- `val c = Clock.make(); println(c);`
abbrev other_kind_body : Statements
other_kind_body = More (Declare binding.Val (c 17) None (Make 21 (verb 27))) (More (Print 36 (verb 48) (Named (c 56))) Done)

other_kind : HasNameFault (alone other_kind_body) (fault rule.WrongKind 56)
other_kind = InBody (main other_kind_body) (inl refl) (record {
  way = Later (First Here);
  statement = Print 36 (verb 48) (Named (c 56));
  stands = refl;
  breaks = OtherKind (use_as want.Number (c 56)) (known kind.Clock 0) (inl refl) refl refl refl;
})

-- `var x = 1; async { x = 2; }`
abbrev not_seen_body : Statements
not_seen_body = More (Declare binding.Var (x 17) None (Value (one 21))) (More (Async 24 None (Block 0 (More (Assign (x 32) (one 36)) Done))) Done)

not_seen : HasNameFault (alone not_seen_body) (fault rule.NotCaptured 32)
not_seen = InBody (main not_seen_body) (inl refl) (record {
  way = Later (First (Inside (Inside (First Here))));
  statement = Assign (x 32) (one 36);
  stands = refl;
  breaks = NotSeen (use_as want.Assigned (x 32)) (known kind.Var 0) (inl refl) refl refl refl;
})

-- what that place sees: `x`, from outside of the one body that holds it
not_seen_scope : scope_in (alone not_seen_body) (main not_seen_body) (Later (First (Inside (Inside
    (First Here))))) ≡ record { names = (codes "x", known kind.Var 0) ∷ []; bodies = [] ∷ [] }
not_seen_scope = refl

-- `val c = Clock.make(); async { c.resume(); }`: the body isn't given the clock
abbrev clock_body : Option Clocks → Statements
clock_body cs = More (Declare binding.Val (c 17) None (Make 21 (verb 27))) (More (Async 35 cs (Block 0 (More (Resume (c 43) (verb 45)) Done))) Done)

clock_not_seen : HasNameFault (alone (clock_body None)) (fault rule.NotCaptured 43)
clock_not_seen = InBody (main (clock_body None)) (inl refl) (record {
  way = Later (First (Inside (Inside (First Here))));
  statement = Resume (c 43) (verb 45);
  stands = refl;
  breaks = NotSeen (use_as want.Clock (c 43)) (known kind.Clock 0) (inl refl) refl refl refl;
})

-- `val x = 1; async { val x = 2; }`: a name that is visible isn't declared anew, in a body of `async` neither
abbrev again_body : Statements
again_body = More (Declare binding.Val (x 17) None (Value (one 21))) (More (Async 24 None (Block 0 (More (Declare binding.Val (x 36) None (Value (one 40))) Done))) Done)

declared_again : HasNameFault (alone again_body) (fault rule.DuplicateName 36)
declared_again = InBody (main again_body) (inl refl) (record {
  way = Later (First (Inside (Inside (First Here))));
  statement = Declare binding.Val (x 36) None (Value (one 40));
  stands = refl;
  breaks = DeclaredAgain (record { name = x 36; known = known kind.Val 1 }) (known kind.Val 0) (inl refl) refl refl;
})

-- `{ val x = 1; } println(x);`: the scope of a declaration ends with its block
abbrev ended_body : Statements
ended_body = More (Block 0 (More (Declare binding.Val (x 19) None (Value (one 23))) Done)) (More (Print 28 (verb 40) (Named (x 48))) Done)

ended_scope : HasNameFault (alone ended_body) (fault rule.UnknownName 48)
ended_scope = InBody (main ended_body) (inl refl) (record {
  way = Later (First Here);
  statement = Print 28 (verb 40) (Named (x 48));
  stands = refl;
  breaks = NotVisible (use_as want.Number (x 48)) (inl refl) refl refl;
})

-- `for (x in 1..Math.min(x, 2)) ;`: a loop's name isn't visible in its bound
abbrev limited : Word → Statement
limited limit = For 14 (x 15) (record { minus = None; at = 20; value = pos 1 }) (Least limit (record { at = 28; paren = 31 }) (Named (x 32))
    (record { minus = None; at = 34; value = pos 2 })) Empty

abbrev in_main : Statement → MethodValue
in_main s = main (More s Done)

not_in_its_bound : HasNameFault (program [] (in_main (limited (named 23 (codes " "))) ∷ [])) (fault rule.UnknownName 32)
not_in_its_bound = InBody (in_main (limited (named 23 (codes " ")))) (inl refl) (record {
  way = First Here;
  statement = limited (named 23 (codes " "));
  stands = refl;
  breaks = NotVisible (use_as want.Number (x 32)) (inl refl) refl refl;
})

-- a tree that no text spells: the limit has the loop's own name
limit_named_so : HasNameFault (program [] (in_main (limited (x 23)) ∷ [])) (fault rule.WrongKind 23)
limit_named_so = InBody (in_main (limited (x 23))) (inl refl) (record {
  way = First Here;
  statement = limited (x 23);
  stands = refl;
  breaks = Misfit 23 (inl refl) refl;
})

-- `shared s = 0; shared t = 0; def main() { s = t; }`
abbrev two_shared : TreeValue
two_shared = program (record { name = named 7 (codes "s"); start = record { minus = None; at = 11; value = pos 0 } } ∷ record {
  name = named 21 (codes "t");
  start = record { minus = None; at = 25; value = pos 0 };
} ∷ [])
    (main (More (Assign (named 41 (codes "s")) (Named (named 45 (codes "t")))) Done) ∷ [])

shared_to_shared : HasNameFault two_shared (fault rule.WrongKind 45)
shared_to_shared = InBody (main (More (Assign (named 41 (codes "s")) (Named (named 45 (codes "t")))) Done)) (inl refl)
    (record {
      way = First Here;
      statement = Assign (named 41 (codes "s")) (Named (named 45 (codes "t")));
      stands = refl;
      breaks = OtherKind (use_as want.Number (named 45 (codes "t"))) (known kind.Shared 0) (inr (inl refl)) refl refl refl;
    })

-- `var x: Long = Clock.make();`: neither the type nor the `var` fits
abbrev type_body : Statements
type_body = More (Declare binding.Var (x 17) (Some (record { at = 20; kind = param.Number })) (Make 27 (verb 33))) Done

type_misfit : HasNameFault (alone type_body) (fault rule.WrongKind 20)
type_misfit = InBody (main type_body) (inl refl) (record {
  way = First Here;
  statement = Declare binding.Var (x 17) (Some (record { at = 20; kind = param.Number })) (Make 27 (verb 33));
  stands = refl;
  breaks = Misfit 20 (inl refl) refl;
})

make_misfit : HasNameFault (alone type_body) (fault rule.WrongKind 27)
make_misfit = InBody (main type_body) (inl refl) (record {
  way = First Here;
  statement = Declare binding.Var (x 17) (Some (record { at = 20; kind = param.Number })) (Make 27 (verb 33));
  stands = refl;
  breaks = Misfit 27 (inr (inl refl)) refl;
})

-- `def f(c: Clock, x: Clock) { } def main() { val c = Clock.make(); f(BODY); }`
abbrev taker : MethodValue
taker = method (named 4 (codes "f")) (record { name = c 6; takes = record { at = 9; kind = param.Clock } } ∷ record {
  name = x 16;
  takes = record { at = 19; kind = param.Clock };
} ∷ []) Done

abbrev call : List Expression → Statement
call es = Call (named 64 (codes "f")) 65 es

abbrev caller : List Expression → MethodValue
caller es = main (More (Declare binding.Val (c 47) None (Make 51 (verb 57))) (More (call es) Done))

abbrev calling : List Expression → TreeValue
calling es = program [] (taker ∷ caller es ∷ [])

clock_again : HasNameFault (calling (Named (c 66) ∷ Named (c 69) ∷ [])) (fault rule.SameClockTwice 69)
clock_again = InBody (caller (Named (c 66) ∷ Named (c 69) ∷ [])) (inr (inl refl)) (record {
  way = Later (First Here);
  statement = call (Named (c 66) ∷ Named (c 69) ∷ []);
  stands = refl;
  breaks = ClockAgain (c 66 ∷ []) (c 69) [] refl refl refl;
})

-- `(c)` is no bare name, and a clock where a number is wanted besides
not_bare : HasNameFault (calling (Named (c 66) ∷ Paren 69 (Named (c 70)) ∷ [])) (fault rule.WrongKind 69)
not_bare = InBody (caller (Named (c 66) ∷ Paren 69 (Named (c 70)) ∷ [])) (inr (inl refl)) (record {
  way = Later (First Here);
  statement = call (Named (c 66) ∷ Paren 69 (Named (c 70)) ∷ []);
  stands = refl;
  breaks = Misfit 69 (inl refl) refl;
})

other_count : HasNameFault (calling (Named (c 66) ∷ [])) (fault rule.Arity 64)
other_count = InBody (caller (Named (c 66) ∷ [])) (inr (inl refl)) (record {
  way = Later (First Here);
  statement = call (Named (c 66) ∷ []);
  stands = refl;
  breaks = OtherCount (named 64 (codes "f")) (Named (c 66) ∷ []) taker.params refl refl (λ e. absurd (omega (arith, e))) refl;
})

-- `f();` without a method f
no_method : HasNameFault (alone (More (Call (named 13 (codes "f")) 14 []) Done)) (fault rule.UnknownName 13)
no_method = InBody (main (More (Call (named 13 (codes "f")) 14 []) Done)) (inl refl) (record {
  way = First Here;
  statement = Call (named 13 (codes "f")) 14 [];
  stands = refl;
  breaks = NoMethod (named 13 (codes "f")) [] refl refl refl;
})

-- a second method of a name, also where it is never called
method_again : HasNameFault (program [] (taker ∷ taker ∷ main Done ∷ [])) (fault rule.DuplicateName 4)
method_again = InMethods (record { before = taker ∷ []; method = taker; after = main Done ∷ []; stands = refl; again = refl; is = refl })

-- `def f(c: Clock, c: Clock) { }`
abbrev twice : MethodValue
twice = method (named 4 (codes "f")) (record { name = c 6; takes = record { at = 9; kind = param.Clock } } ∷ record {
  name = c 16;
  takes = record { at = 19; kind = param.Clock };
} ∷ []) Done

param_again : HasNameFault (program [] (twice ∷ main Done ∷ [])) (fault rule.DuplicateName 16)
param_again = InParams twice (inl refl) (record {
  before = record { name = c 6; known = known kind.Clock 0 } ∷ [];
  declaration = record { name = c 16; known = known kind.Clock 0 };
  after = [];
  stands = refl;
  again = refl;
  is = refl;
})

-- a clock that is hidden, with a name that no text has
abbrev hidden : ℕ → Word
hidden at = named at (codes " ")

-- `clocked finish BODY`
abbrev clocked_finish : ℕ → Statement → Statement
clocked_finish at s = let verb : Verb = record { at = at; paren = at } in
    Finish (at + 8) (Block (at + 8) (More (Declare binding.Hidden (hidden at) None (Make at verb)) (More s (More (Drop (hidden at) verb) Done))))

-- `clocked async BODY`
abbrev clocked_async : Word → Statement → Statement
clocked_async clock s = Async (clock.at + 8) (Some (record { written = written.Ahead clock.at; names = clock ∷ [] })) s

-- `clocked finish clocked async clocked async { }`: each body is given the hidden clock
abbrev all_given : TreeValue
all_given = alone (More (clocked_finish 13 (clocked_async (hidden 28) (clocked_async (hidden 42) (Block 0 Done)))) Done)

no_faults : name_faults all_given ≡ []
unfolding own
no_faults = refl

hidden_given : (f : FrontFault) → HasFault all_given f → ⊥
hidden_given f (inl h) = absurd (subst (λ fs. Has fs f) no_faults (fault_listed all_given f h))
hidden_given f (inr h) = h.0 refl

-- `clocked async { }`, where no clock is hidden
abbrev none_hidden_body : Statements
none_hidden_body = More (clocked_async (named 13 []) (Block 0 Done)) Done

none_hidden : HasNameFault (alone none_hidden_body) (fault rule.NoHiddenClock 13)
none_hidden = InBody (main none_hidden_body) (inl refl) (record {
  way = First Here;
  statement = clocked_async (named 13 []) (Block 0 Done);
  stands = refl;
  breaks = NotVisible (use_as want.Clock (named 13 [])) (inl refl) refl refl;
})

-- and it has no other fault
none_hidden_alone : name_faults (alone none_hidden_body) ≡ fault rule.NoHiddenClock 13 ∷ []
unfolding own
none_hidden_alone = refl

-- `clocked finish async clocked async { }`: the first body isn't given the hidden clock, so that none is hidden in it
not_hidden_within : name_faults (alone (More (clocked_finish 13 (Async 28 None (clocked_async (named 34 []) (Block 0 Done)))) Done)) ≡ fault rule.NoHiddenClock 34 ∷ []
unfolding own
not_hidden_within = refl

-- a tree that no text spells: that body gives the clock which it isn't given itself
hidden_not_seen : name_faults (alone (More (clocked_finish 13 (Async 28 None (clocked_async (hidden 34) (Block 0 Done)))) Done)) ≡ fault rule.NotCaptured 34 ∷ []
unfolding own
hidden_not_seen = refl

-- no method is called `main`, or it has a parameter that takes a clock
no_method_main : HasFault (program [] (taker ∷ [])) no_main
no_method_main = inr (λ e. e, refl)

abbrev main_with : ParamKind → MethodValue
main_with k = method (named 4 (codes "main")) (record { name = x 9; takes = record { at = 12; kind = k } } ∷ []) Done

main_with_clock : HasFault (program [] (main_with param.Clock ∷ [])) no_main
main_with_clock = inr (λ e. true_false e, refl)
  where
    true_false : true ≡ false → ⊥
    true_false e = cc

main_with_number : HasMain (program [] (main_with param.Number ∷ []))
main_with_number = refl

main_there : HasMain (program [] (main Done ∷ main_with param.Clock ∷ []))
main_there = refl
