use Rattle.std.proofs.Common.{refl, arith}
use Rattle.xk_show_rounds.specs.RoundRows.{shown_at}
use Rattle.xk_show_rounds.proofs.RowLemmas.{rows_next, rows_stop}
use Rattle.xk_show_rounds.proofs.rows.go_through.Goals as goal

pub loop-last-preserved : goal.loop-last-preserved
loop-last-preserved c =
    let s = c.args.sheet.now in
    let so = c.loop-last.invariant in
    let told = c.in_ok-go_on.ensures in
    let rows = rows_next (shown_at s.grid s.names.now s.table.now) s.width c.args.rounds c.loop-last.last _ _ _ _ _ _ _
    c.loop-last-test.true so.1 refl told.rows so.2 in
    (told.shown, told.last, rows)

pub returns-clause-rows : goal.returns-clause-rows
returns-clause-rows c =
    let s = c.args.sheet.now in
    let so = c.loop-last.invariant in
    rows_stop (shown_at s.grid s.names.now s.table.now) s.width c.args.rounds c.loop-last.last _ _ _ _
    (let end = c.loop-last-test.false in omega arith) so.1 so.2
