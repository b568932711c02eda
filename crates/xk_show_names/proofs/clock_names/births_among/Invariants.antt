use Rattle.std.proofs.Common.{◌≡◌, take}
use Rattle.xk_show_names.specs.ClockNames.{births_among}
use Rattle.xk_show_names.proofs.clock_names.births_among.Given as goal

-- those of the steps so far
abbrev pub invariant-loop-account : goal.invariant-loop-account
invariant-loop-account l = l.list.items ≡ births_among l.program (take l.account-index l.steps)
