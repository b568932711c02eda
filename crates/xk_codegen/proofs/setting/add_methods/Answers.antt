use Rattle.std.proofs.Common.{◌+◌, List, map, drop, option_map, ap, sym, ◌∙◌, refl}
use Rattle.std.specs.Option.{option_or}
use Rattle.xk_names.specs.Scope.{find}
use Rattle.xk_source_semantics.specs.Parts.{Part, method_among}
use Rattle.xk_source_semantics.specs.Compilation.{unit_number}
use Rattle.xk_numbering.specs.Views.{part}
use Rattle.xk_numbering.proofs.ListLemmas.{parts_left}
use Rattle.xk_codegen.proofs.setting.add_methods.Goals as goal

pub loop-i-preserved : goal.loop-i-preserved
loop-i-preserved c = λ x.
    let i = c.loop-i.i in
    c.in_ok-add_method.ensures (map part (drop (i + 1) c.args.units.now)) x
    ∙ ap (λ (ps : List Part). option_or (find c.loop-i.table x) (option_map unit_number (method_among i ps x)))
    (sym (parts_left c.args.units.now i c.index-units-i.result _ c.loop-i-test.true c.index-units-i.is refl))
    ∙ c.loop-i.invariant x
