use Rattle.std.proofs.Common.{◌≡◌, ℕ, ◌≤◌, length, slice_index_or}
use Rattle.xk_finishes.proofs.counters.Depths.make_place.Given as goal

-- only counters that are 0 were pushed, and there are as many as were gone through
abbrev pub invariant-loop : goal.invariant-loop
invariant-loop l =
    ((d : ℕ) → slice_index_or l.self-inside.counts.items d 0 ≡ slice_index_or l.initial.self-inside.counts.items d 0)
    × (l.counter ≤ length l.self-inside.counts.items)
