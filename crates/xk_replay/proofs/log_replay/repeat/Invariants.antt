use Rattle.std.proofs.Common.{◌≡◌, ◌≤◌}
use Rattle.xk_replay.specs.Replay.{GoesOn}
use Rattle.xk_replay.proofs.log_replay.repeat.Given as goal

-- so many steps of the entry were taken
abbrev pub invariant-loop-turn : goal.invariant-loop-turn
invariant-loop-turn l =
    GoesOn l.fn.core l.fn.printed.items l.fn.entry.act l.done l.core l.printed.items
    × (l.core.module_run ≡ l.fn.core.module_run) × (l.turn ≤ l.done) × (l.done ≤ l.fn.entry.steps)
