-- The digest of what is left, as the loop makes it: activity by activity.
use Rattle.std.specs.Prelude.{ℕ, ℤ, List, fold, if◌then◌else◌}
use Rattle.xk_types.specs.World.{Activity, World, is_ended}
use Rattle.xk_liveness.specs.Liveness.{SlotTable, live_activity}
use Rattle.xk_digests.specs.Digest.{with_activity, with_numbers}

-- the digest with an activity more, if it hasn't ended
abbrev pub with_going : SlotTable → ℕ → Activity → ℕ
with_going live digest x = if is_ended x.status then digest else with_activity digest (live_activity live x)

abbrev pub stepwise_digest : SlotTable → World → List ℤ → ℕ
stepwise_digest live w numbers = fold (with_going live) (with_numbers (with_numbers 0 numbers) w.cells) w.activities
