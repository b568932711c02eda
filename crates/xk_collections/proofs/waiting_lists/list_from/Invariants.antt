use Rattle.std.proofs.Common.{◌++◌, ◌-◌, ◌≤◌, length}
use Rattle.std.specs.Vec.{vec_capacity}
use Rattle.xk_collections.specs.Chains.{chain}
use Rattle.xk_collections.proofs.WaitingListingLemmas.{IsListing}
use Rattle.xk_collections.proofs.waiting_lists.list_from.Given as goal

abbrev pub invariant-loop-at : goal.invariant-loop-at
invariant-loop-at l =
    IsListing l.next (l.fn.shown.items ++ chain l.next (length l.next) l.fn.start) l.shown.items l.at
    × (length (l.fn.shown.items ++ chain l.next (length l.next) l.fn.start) ≤ vec_capacity l.shown) × (vec_capacity l.fn.shown ≤ vec_capacity l.shown)

-- those that aren't listed yet
abbrev pub decreases-loop-at : goal.decreases-loop-at
decreases-loop-at l = length (l.fn.shown.items ++ chain l.next (length l.next) l.fn.start) - length l.shown.items
