use Rattle.std.proofs.Common.{take}
use Rattle.xk_show_races.specs.Accounts.{AreByNumber}
use Rattle.xk_show_races.proofs.accounts.by_number.Given as goal

-- the steps so far
abbrev pub invariant-loop-account : goal.invariant-loop-account
invariant-loop-account l = AreByNumber l.steps (take l.account-index l.accounts)
