use Rattle.std.proofs.Common.{◌≡◌, ◌≤◌, ◌<◌, ◌^◌, ◌-◌, length}
use Rattle.xk_activity.specs.Local.{Stepped, ran, turn, spot_at}
use Rattle.xk_activity.specs.Slots.{values_of}
use Rattle.xk_activity.proofs.interpreter.run_instructions.Given as goal

abbrev pub invariant-loop-left : goal.invariant-loop-left
invariant-loop-left l =
    (ran (turn l.code) (spot_at l.fn.start (values_of l.initial.marks l.initial.words)) (l.fn.max - l.left) ≡ Stepped (spot_at l.place (values_of l.now l.words)))
    × (l.left ≤ l.fn.max) × (l.place < 2 ^ 32) × (length l.words ≡ length l.initial.words)

abbrev pub decreases-loop-left : goal.decreases-loop-left
decreases-loop-left l = l.left
