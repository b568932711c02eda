use Rattle.std.proofs.Common.{◌≡◌, ◌+◌, ◌<◌, ◌++◌, List, length, map, drop, get_or, ap, sym, subst, ◌∙◌, append_assoc}
use Rattle.std.specs.List.{flat_map}
use Rattle.xk_tree.specs.declared.tree.Method.{Method}
use Rattle.xk_tree.specs.Tree.{MethodValue, method_value}
use Rattle.xk_source_semantics.specs.Parts.{Part, method_parts}
use Rattle.xk_numbering.specs.Views.{part}
use Rattle.xk_numbering.proofs.ListLemmas.{methods_left}
use Rattle.xk_numbering.proofs.parts.parts.Goals as goal

pub loop-method-preserved : goal.loop-method-preserved
loop-method-preserved c =
    let i = c.loop-method.method-index in
    let ms = c.args.tree.now.methods.items in
    let m = c.method-item.result in
    let before = map part c.loop-method.found.items in
    let same = c.deref-method-items.ensures.value in
    let within = subst (λ (l : List Method). i < length l) same c.loop-method-test.true in
    let at = subst (λ (l : List Method). m ≡ get_or l i m) same c.method-item.is in
    let rest = flat_map method_parts (map method_value (drop (i + 1) ms)) in
    ap (λ (l : List Part). l ++ rest) c.in_ok-add_method.ensures
    ∙ append_assoc before (method_parts (method_value m)) rest
    ∙ ap (λ (l : List MethodValue). before ++ flat_map method_parts l) (sym (methods_left ms i m within at))
    ∙ c.loop-method.invariant
