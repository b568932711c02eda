use Rattle.std.proofs.Common.{◌+◌, List, map, drop, ap, sym, ◌∙◌, refl}
use Rattle.std.specs.Prelude.{nat_eq}
use Rattle.std.specs.Map.{lookup}
use Rattle.std.specs.Option.{option_or}
use Rattle.xk_tree.specs.Program.{tree_value}
use Rattle.xk_source_semantics.specs.Parts.{Part}
use Rattle.xk_source_semantics.specs.Compilation.{settled_body}
use Rattle.xk_numbering.specs.Views.{part}
use Rattle.xk_numbering.proofs.ListLemmas.{parts_left}
use Rattle.xk_codegen.proofs.setting.add_bodies.Goals as goal

pub loop-i-preserved : goal.loop-i-preserved
loop-i-preserved c = λ at.
    let i = c.loop-i.i in
    c.in_ok-add_body.ensures (map part (drop (i + 1) c.args.units.now)) at
    ∙ ap (λ (ps : List Part). option_or (lookup (nat_eq at) c.loop-i.table.entries) (settled_body (tree_value c.args.tree.now) i ps at))
    (sym (parts_left c.args.units.now i c.index-units-i.result _ c.loop-i-test.true c.index-units-i.is refl))
    ∙ c.loop-i.invariant at
