use Rattle.std.proofs.Common.{take}
use Rattle.xk_show_rounds.specs.RoundRows.{AreByRounds}
use Rattle.xk_show_rounds.proofs.table.table_of.Given as goal

-- those so far, each in its round
abbrev pub invariant-loop-account : goal.invariant-loop-account
invariant-loop-account l = AreByRounds l.rounds (take l.account-index l.steps) l.table.items
