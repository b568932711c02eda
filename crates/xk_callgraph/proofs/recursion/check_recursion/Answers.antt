use Rattle.std.proofs.Common.{◌≡◌, ◌∙◌, inl, inr, ap, sym, subst, map, Ok, Err, Result}
use Rattle.xk_tree.specs.declared.fault.FrontError.{FrontError}
use Rattle.xk_tree.specs.declared.fault.FrontError.TheVariants as error
use Rattle.xk_tree.specs.declared.fault.FrontRule.TheVariants as rule
use Rattle.xk_tree.specs.declared.fault.FrontFault.{FrontFault}
use Rattle.xk_tree.specs.Tree.{method_value, words}
use Rattle.xk_tree.specs.Program.{tree_value}
use Rattle.xk_names.specs.Faults.{fault}
use Rattle.xk_callgraph.specs.Recursion.{HasRecursion}
use Rattle.xk_callgraph.specs.Callees.{all_callees, main_in}
use Rattle.xk_callgraph.proofs.CallGraphLemmas.{is_main_called, is_main_uncalled}
use Rattle.xk_callgraph.proofs.recursion.check_recursion.Goals as goal

fault_of : (f g : FrontFault) → ◌≡◌ {A = Result (Unit {0}) FrontError} (Err (error.Fault f)) (Err (error.Fault g)) → f ≡ g
fault_of f g e = cc

pub returns-in-None-clause-none : goal.returns-in-None-clause-none
returns-in-None-clause-none c = λ f h.
    let main : main_in (all_callees (map method_value c.args.tree.now.methods.items)) ≡ c.call_of_main.result =
    sym (c.call_of_main.ensures ∙ ap (λ ns. main_in (map (λ names. words names.items) ns)) c.deref-3.ensures.value ∙ ap main_in c.in_ok-called.ensures
    ∙ ap (λ ms. main_in (all_callees (map method_value ms))) c.deref.ensures.value) in
    elim h [
      | inl m ↦ is_main_uncalled (tree_value c.args.tree.now) f (main ∙ c.in-None.ensures.one.0) m
      | inr b ↦ c.in_ok-back.ensures.none (ap Ok c.in-None.ensures.one.1) f b
    ]

pub returns-clause-found : goal.returns-clause-found
returns-clause-found c = λ f e.
    let main : main_in (all_callees (map method_value c.args.tree.now.methods.items)) ≡ c.call_of_main.result =
    sym (c.call_of_main.ensures ∙ ap (λ ns. main_in (map (λ names. words names.items) ns)) c.deref-3.ensures.value ∙ ap main_in c.in_ok-called.ensures
    ∙ ap (λ ms. main_in (all_callees (map method_value ms))) c.deref.ensures.value) in
    let same : fault rule.Recursive c.in-Some.at ≡ f = fault_of (fault rule.Recursive c.in-Some.at) f e in
    subst (λ (g : FrontFault). HasRecursion (tree_value c.args.tree.now) g) same (elim c.in-Some.ensures.one [
      | inl a ↦ inl (is_main_called (tree_value c.args.tree.now) c.in-Some.at (main ∙ a))
      | inr b ↦ inr (rw b at c.in_ok-back.ensures.found)
    ])
