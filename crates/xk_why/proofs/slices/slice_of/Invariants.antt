use Rattle.std.proofs.Common.{◌≡◌, ◌++◌, ◌-◌, length}
use Rattle.xk_why.specs.Slices.{slice_from, slice_of}
use Rattle.xk_why.proofs.slices.slice_of.Given as goal

-- those so far, and those that are still to come, are all
abbrev pub invariant-loop-done : goal.invariant-loop-done
invariant-loop-done l =
    (l.count ≡ length l.flows)
    × (l.list.items ++ slice_from l.flows (l.count - l.done) l.wanted.items ≡ slice_of l.flows l.fn.wanted.items)
