use Rattle.std.proofs.Common.{◌≡◌, drop}
use Rattle.xk_show_names.specs.Accounts.{writer}
use Rattle.xk_why.proofs.lines.writer.Given as goal

-- the last of those so far, and the rest
abbrev pub invariant-loop-account : goal.invariant-loop-account
invariant-loop-account l = writer l.number l.last (drop l.account-index l.steps) ≡ writer l.number 0 l.steps
