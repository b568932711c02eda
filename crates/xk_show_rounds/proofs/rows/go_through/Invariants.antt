use Rattle.std.proofs.Common.{◌≡◌, ◌-◌, ◌++◌, ℕ, List}
use Rattle.xk_show_rounds.specs.RoundRows.{rows_from, shown_at}
use Rattle.xk_show_rounds.proofs.rows.go_through.Given as goal

-- the same stands up to this round, and with the rows behind it what was added comes to all
abbrev pub invariant-loop-last : goal.invariant-loop-last
invariant-loop-last l =
    let show : ℕ → List ℕ = shown_at l.sheet.grid l.sheet.names.now l.sheet.table.now in
    (l.stretch.shown.items ≡ show l.stretch.first)
    × (l.stretch.last ≡ l.last)
    × (l.out.items ++ rows_from (l.rounds - l.last) l.sheet.width show l.stretch.first l.last
    ≡ l.fn.out.items ++ rows_from (l.rounds - 1) l.sheet.width show l.fn.stretch.first 1)
