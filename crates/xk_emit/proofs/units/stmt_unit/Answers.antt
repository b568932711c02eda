use Rattle.std.proofs.Common.{map, subst, sym, ap, ◌∙◌}
use Rattle.std.proofs.lemmas.Result.{IfErr-weaker, IfOk-weaker}
use Rattle.xk_types.specs.Code.{IsUnitWithinLimits}
use Rattle.xk_tree.specs.Tree.{statement, statements}
use Rattle.xk_emit.proofs.UnitLemmas.{covered_alone, unit_alone}
use Rattle.xk_emit.proofs.units.stmt_unit.Goals as goal

pub returns-clause-made : goal.returns-clause-made
returns-clause-made c =
    let alone =
    unit_alone c.args.setting.now c.args.kind (map (λ x. x.now) c.args.names.now) c.args.kinds.items
    (statements c.from_ref.result.now) (statement c.args.s.now) (ap statements c.from_ref.ensures.value) in
    IfOk-weaker c.block_unit.result _ _ (λ unit is. is ∙ alone) c.block_unit.ensures.made

pub returns-clause-name : goal.returns-clause-name
returns-clause-name c =
    IfErr-weaker c.block_unit.result _ _ (λ e h name covered.
    h name (covered_alone c.args.setting.now (map (λ x. x.now) c.args.names.now)
    (statements c.from_ref.result.now) (statement c.args.s.now) (ap statements c.from_ref.ensures.value) covered)) c.block_unit.ensures.name

pub returns-clause-table : goal.returns-clause-table
returns-clause-table c =
    let alone =
    unit_alone c.args.setting.now c.args.kind (map (λ x. x.now) c.args.names.now) c.args.kinds.items
    (statements c.from_ref.result.now) (statement c.args.s.now) (ap statements c.from_ref.ensures.value) in
    IfErr-weaker c.block_unit.result _ _ (λ e h table limits. h table (subst IsUnitWithinLimits (sym alone) limits)) c.block_unit.ensures.table
