use Rattle.std.proofs.Common.{ℕ, ◌+◌, Option, Some, cond, map, drop, sym, ap, ◌∙◌, add-one}
use Rattle.std.specs.Option.{option_or}
use Rattle.xk_tree.specs.Tree.{method_value}
use Rattle.xk_names.specs.Scope.{find, is_text}
use Rattle.xk_callgraph.specs.Recursion.{number_among}
use Rattle.xk_callgraph.proofs.NameNumberLemmas.{put_number, left_at}
use Rattle.xk_callgraph.proofs.callees.numbers_by_name.Goals as goal

pub loop-i-preserved : goal.loop-i-preserved
loop-i-preserved c = λ x.
    let i = c.loop-i.i in
    let left : ℕ → Option ℕ = λ j. number_among j (map method_value (drop j c.args.methods.now)) x in
    ap (λ t. option_or (find t x) (left (i + 1))) c.in_ok-put.ensures.entry
    ∙ put_number c.loop-i.table c.index-methods-i.result.name.text.now x i (left (i + 1))
    ∙ ap (λ j. option_or (find c.loop-i.table x) (cond (is_text x c.index-methods-i.result.name.text.now) (Some i) (left j))) (add-one i)
    ∙ ap (option_or (find c.loop-i.table x)) (sym (left_at c.args.methods.now i i c.index-methods-i.result x c.loop-i-test.true c.index-methods-i.is))
    ∙ c.loop-i.invariant x
