-- what the mark tells, and what stands behind it
use Rattle.std.proofs.Common.{◌≡◌, ◌+◌, ◌/◌, ◌≤◌, length, refl, ap, subst, sym, take, ◌∙◌, arith}
use Rattle.xk_lines.specs.Lines.{columns}
use Rattle.xk_lines.proofs.ColumnLemmas.{before_is, columns_few}
use Rattle.xk_lines.proofs.columns.ColumnMarks.before.Goals as goal

pub overflow_add-result : goal.overflow_add-result
overflow_add-result c =
    let text = c.self.inside.text.now in
    let all = before_is text c.self.inside.marks.items c.args.at (c.args.at / 64) c.index.result.now c.columns.result c.self.invariant
    (subst (λ t. c.args.at ≤ length t) (sym c.self.view_is) c.requires) refl c.index.ensures c.columns.ensures.count in
    let few = columns_few text c.args.at in
    omega (arith, all, few)

pub returns-clause-count : goal.returns-clause-count
returns-clause-count c =
    before_is c.self.inside.text.now c.self.inside.marks.items c.args.at (c.args.at / 64) c.index.result.now c.columns.result c.self.invariant
    (subst (λ t. c.args.at ≤ length t) (sym c.self.view_is) c.requires) refl c.index.ensures c.columns.ensures.count
    ∙ ap (λ t. columns (take c.args.at t)) c.self.view_is

pub returns-clause-within : goal.returns-clause-within
returns-clause-within c =
    let text = c.self.inside.text.now in
    let all = before_is text c.self.inside.marks.items c.args.at (c.args.at / 64) c.index.result.now c.columns.result c.self.invariant
    (subst (λ t. c.args.at ≤ length t) (sym c.self.view_is) c.requires) refl c.index.ensures c.columns.ensures.count in
    let few = columns_few text c.args.at in
    omega (arith, all, few)
