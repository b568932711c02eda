-- those before the one, and those before the other
use Rattle.std.proofs.Common.{arith}
use Rattle.xk_lines.proofs.ColumnLemmas.{columns_between}
use Rattle.xk_lines.proofs.columns.ColumnMarks.between.Goals as goal

pub overflow_sub-result : goal.overflow_sub-result
overflow_sub-result c =
    let all = columns_between c.args.self.now c.args.from c.args.to c.requires.order in
    let to = c.before-2.ensures.count in
    let from = c.before-3.ensures.count in
    omega (arith, all, to, from)

pub returns-clause-count : goal.returns-clause-count
returns-clause-count c =
    let all = columns_between c.args.self.now c.args.from c.args.to c.requires.order in
    let to = c.before-2.ensures.count in
    let from = c.before-3.ensures.count in
    omega (arith, all, to, from)
