use Rattle.std.proofs.Common.{◌≡◌, take}
use Rattle.xk_types.specs.Logs.{schedule_of}
use Rattle.xk_outcomes.proofs.listing.log_of.Given as goal

abbrev pub invariant-loop-act : goal.invariant-loop-act
invariant-loop-act l = schedule_of l.log.items ≡ take l.act-index l.schedule
