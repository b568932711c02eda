use Rattle.std.proofs.Common.{◌∙◌, ap, sym, subst, map, List, ℕ, arith}
use Rattle.std.proofs.lemmas.List.{length-map}
use Rattle.std.proofs.lemmas.Option.{slice_get_within}
use Rattle.xk_callgraph.specs.CallGraph.{adjacency, AreWithin, IsRecursive}
use Rattle.xk_tree.specs.declared.fault.FrontRule.TheVariants as rule
use Rattle.xk_tree.specs.Tree.{words}
use Rattle.xk_tree.specs.Program.{tree_value}
use Rattle.xk_names.specs.Faults.{fault}
use Rattle.xk_callgraph.specs.Recursion.{ComesBack}
use Rattle.xk_callgraph.proofs.CallGraphLemmas.{within, is_recursive, Found, found, is_within}
use Rattle.xk_callgraph.proofs.recursion.call_back.Goals as goal

pub numbers_by_calls-requires : goal.numbers_by_calls-requires
numbers_by_calls-requires c =
    subst (λ (r : List (List ℕ)). AreWithin r) (sym (ap adjacency c.deref.ensures.value ∙ c.in_ok-numbers.ensures)) (within (tree_value c.args.tree.now))

pub returns-in-Ok-clause-none : goal.returns-in-Ok-clause-none
returns-in-Ok-clause-none c = λ _ f b.
    let r = is_recursive (tree_value c.args.tree.now) f b in
    let none = rw c.in-Ok.is at c.in_ok-numbered.ensures.none in
    none b.caller r.0 (subst (λ (rs : List (List ℕ)). IsRecursive rs b.caller r.0) (sym (ap adjacency c.deref.ensures.value ∙ c.in_ok-numbers.ensures)) r.1)

pub call_at-requires : goal.call_at-requires
call_at-requires c =
    let i = c.in-Err.place.caller in
    let k = c.in-Err.place.index in
    let lists = map (λ names. words names.items) c.args.called.now in
    let q : Found (tree_value c.args.tree.now) lists i k = found (tree_value c.args.tree.now) lists i k c.requires
    (subst (λ (rs : List (List ℕ)). IsRecursive rs i k) (ap adjacency c.deref.ensures.value ∙ c.in_ok-numbers.ensures) (rw c.in-Err.is at c.in_ok-numbered.ensures.found)) in
    let len = length-map c.args.called.now (λ names. words names.items) in
    let h = slice_get_within lists i q.names q.list in
    record { caller = omega arith; index = λ gs e. is_within (tree_value c.args.tree.now) lists i k q gs e }

pub returns-clause-found : goal.returns-clause-found
returns-clause-found c =
    let i = c.in-Err.place.caller in
    let k = c.in-Err.place.index in
    let lists = map (λ names. words names.items) c.args.called.now in
    let q : Found (tree_value c.args.tree.now) lists i k = found (tree_value c.args.tree.now) lists i k c.requires
    (subst (λ (rs : List (List ℕ)). IsRecursive rs i k) (ap adjacency c.deref.ensures.value ∙ c.in_ok-numbers.ensures) (rw c.in-Err.is at c.in_ok-numbered.ensures.found)) in
    subst (λ (n : ℕ). ComesBack (tree_value c.args.tree.now) (fault rule.Recursive n)) (sym (c.call_at.ensures q.names q.name q.list q.at)) q.back
