use Rattle.std.proofs.Common.{ℕ, ◌+◌, Some, cond, ◌∷◌, Option, option_map, ap, sym, ◌∙◌, add-one}
use Rattle.std.proofs.lemmas.Result.{on_ok_weaker}
use Rattle.std.specs.Option.{option_or}
use Rattle.xk_names.specs.Scope.{find, is_text}
use Rattle.xk_names.specs.FaultList.{put}
use Rattle.xk_callgraph.proofs.NameNumberLemmas.{put_number}
use Rattle.xk_source_semantics.specs.Parts.{Part, method_among}
use Rattle.xk_source_semantics.specs.Compilation.{unit_number}
use Rattle.xk_numbering.specs.Views.{part}
use Rattle.xk_codegen.proofs.ListLemmas.{numbered_or}
use Rattle.xk_codegen.proofs.setting.add_method.Goals as goal

pub returns-in-Method : goal.returns-in-Method
returns-in-Method c = on_ok_weaker c.put.result (λ h rest x.
    let i = c.args.i in
    let table = c.args.table.now in
    let text = c.in-Method.method.now.name.text.now in
    let left : ℕ → Option ℕ = λ j. method_among j rest x in
    ap (λ t. option_or (find t x) (option_map unit_number (left (i + 1)))) h
    ∙ ap (λ n. option_or (find (put table text n) x) (option_map unit_number (left (i + 1)))) c.unit_number.ensures
    ∙ put_number table text x (unit_number i) (option_map unit_number (left (i + 1)))
    ∙ ap (option_or (find table x)) (numbered_or (is_text x text) unit_number i (left (i + 1)))
    ∙ ap (λ j. option_or (find table x) (option_map unit_number (cond (is_text x text) (Some i) (left j)))) (add-one i)
    ∙ ap (λ (p : Part). option_or (find table x) (option_map unit_number (method_among i (p ∷ rest) x))) (sym (ap part c.in-Method.is)))
    c.put.ensures.entry
