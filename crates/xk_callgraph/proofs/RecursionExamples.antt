-- Small programs with and without recursion.
use Rattle.std.proofs.Common.{◌≡◌, inl, inr, ℕ, zero, suc, ◌+◌, pos, List, [], ◌∷◌, refl, sym, subst, None}
use Rattle.std.specs.Prelude.{codes}
use Rattle.xk_callgraph.specs.CallGraph.{Path, IsCall}
use Rattle.xk_tree.specs.declared.fault.FrontRule.TheVariants as rule
use Rattle.xk_tree.specs.declared.fault.FrontFault.{FrontFault}
use Rattle.xk_tree.specs.declared.tree.Number.{Number}
use Rattle.xk_tree.specs.Tree.{Word, MethodValue, TreeValue, UpTo, Statement, Statements, Done, More, For, Async, Call}
use Rattle.xk_names.specs.Places.{Here, First, Inside}
use Rattle.xk_names.specs.Faults.{fault}
use Rattle.xk_callgraph.specs.Recursion.{HasCall, HasRecursion}
use Rattle.xk_callgraph.specs.Callees.{graph}
use Rattle.xk_callgraph.proofs.CallGraphLemmas.{is_main_uncalled, is_recursive}

abbrev named : ℕ → List ℕ → Word
named at text = record { at = at; text = text }

abbrev f : ℕ → Word
f at = named at (codes "f")

abbrev g : ℕ → Word
g at = named at (codes "g")

abbrev h : ℕ → Word
h at = named at (codes "h")

abbrev main : ℕ → Word
main at = named at (codes "main")

abbrev call : Word → ℕ → Statement
call name paren = Call name paren []

abbrev method : Word → Statements → MethodValue
method name body = record { name = name; paren = name.at + 1; params = []; body = body; close = 0 }

abbrev program : List MethodValue → TreeValue
program methods = record { shared = []; methods = methods }

abbrev one : Statement → Statements
one s = More s Done

abbrev number : ℕ → ℕ → Number
number at n = record { minus = None; at = at; value = pos n }

-- `def f() { g(); } def g() { f(); } def main() { f(); }`
abbrev mutual_calls : TreeValue
mutual_calls = program (method (f 4) (one (call (g 10) 11)) ∷ method (g 21) (one (call (f 27) 28)) ∷ method (main 38) (one (call (f 47) 48)) ∷ [])

first_call : HasCall mutual_calls 0 (g 10)
first_call = record { method = method (f 4) (one (call (g 10) 11)); is = refl; way = First Here; paren = 11; arguments = []; stands = refl }

second_call : HasCall mutual_calls 1 (f 27)
second_call = record { method = method (g 21) (one (call (f 27) 28)); is = refl; way = First Here; paren = 28; arguments = []; stands = refl }

mutual_recursion : HasRecursion mutual_calls (fault rule.Recursive 10)
mutual_recursion = inr (record {
  caller = 0;
  called = 1;
  name = g 10;
  calls = (first_call, refl);
  reaches = (0 ∷ [], ((f 27, (second_call, refl)), refl));
  is = refl;
})

-- `def f() { main(); } def main() { }`
abbrev calls_main : TreeValue
calls_main = program (method (f 4) (one (call (main 10) 14)) ∷ method (main 24) Done ∷ [])

main_called : HasRecursion calls_main (fault rule.Recursive 10)
main_called = inl (record {
  caller = 0;
  name = main 10;
  has_call = record { method = method (f 4) (one (call (main 10) 14)); is = refl; way = First Here; paren = 14; arguments = []; stands = refl };
  is_main = refl;
  is = refl;
})

-- `def f() { for (i in 2..1) async f(); } def main() { }`: in the body of an `async`, in a loop without a turn
abbrev hidden : Statements
hidden = one (For 14 (named 15 (codes "i")) (number 20 2) (UpTo (number 23 1)) (Async 26 None (call (f 32) 33)))

abbrev calls_inside : TreeValue
calls_inside = program (method (f 4) hidden ∷ method (main 43) Done ∷ [])

called_inside : HasRecursion calls_inside (fault rule.Recursive 32)
called_inside = inr (record {
  caller = 0;
  called = 0;
  name = f 32;
  calls = (record { method = method (f 4) hidden; is = refl; way = First (Inside (Inside Here)); paren = 33; arguments = []; stands = refl }, refl);
  reaches = ([], refl);
  is = refl;
})

-- `def f() { } def main() { f(); h(); }`: a method that doesn't exist calls nobody
abbrev plain : TreeValue
plain = program (method (f 4) Done ∷ method (main 16) (More (call (f 25) 26) (one (call (h 30) 31))) ∷ [])

nobody_from : (c i : ℕ) (ns : List ℕ) → ((k n : ℕ) → IsCall (graph plain.methods) c k n → ⊥) → Path (graph plain.methods) ns c i → c ≡ i
nobody_from c i [] none p = p
nobody_from c i (n ∷ ns) none p = absurd (none p.0.0 n p.0.1)

none_from_first : (k n : ℕ) → IsCall (graph plain.methods) 0 k n → ⊥
none_from_first k n e = cc

none_from_last : (k n : ℕ) → IsCall (graph plain.methods) 2 k n → ⊥
none_from_last k n e = cc

no_call_back : (i k c : ℕ) → IsCall (graph plain.methods) i k c → (ns : List ℕ) → Path (graph plain.methods) ns c i → ⊥
no_call_back zero k c e ns p = cc
no_call_back (suc zero) zero c e ns p =
    let called : 0 ≡ c = cc in
    let same = nobody_from 0 1 ns none_from_first (subst (λ (n : ℕ). Path (graph plain.methods) ns n 1) (sym called) p) in
    cc
no_call_back (suc zero) (suc zero) c e ns p =
    let called : 2 ≡ c = cc in
    let same = nobody_from 2 1 ns none_from_last (subst (λ (n : ℕ). Path (graph plain.methods) ns n 1) (sym called) p) in
    cc
no_call_back (suc zero) (suc (suc k)) c e ns p = cc
no_call_back (suc (suc zero)) k c e ns p = cc
no_call_back (suc (suc (suc i))) k c e ns p = cc

no_recursion : (fault : FrontFault) → HasRecursion plain fault → ⊥
no_recursion fault (inl m) = is_main_uncalled plain fault refl m
no_recursion fault (inr b) = let r = is_recursive plain fault b in no_call_back b.caller r.0 r.1.called r.1.is_call r.1.comes_back.0 r.1.comes_back.1
