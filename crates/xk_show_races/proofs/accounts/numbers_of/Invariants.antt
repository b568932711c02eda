use Rattle.std.proofs.Common.{take}
use Rattle.xk_show_races.specs.Accounts.{AreNumbers}
use Rattle.xk_show_races.proofs.accounts.numbers_of.Given as goal

-- those of the races so far
abbrev pub invariant-loop-race : goal.invariant-loop-race
invariant-loop-race l = AreNumbers l.numbers (take l.race-index l.races)
