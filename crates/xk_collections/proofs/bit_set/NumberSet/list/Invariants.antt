use Rattle.std.proofs.Common.{◌-◌, ◌≤◌, length}
use Rattle.std.specs.Vec.{vec_capacity}
use Rattle.xk_collections.specs.NumberSets.{IsRising}
use Rattle.xk_collections.proofs.MemberListLemmas.{IsListing}
use Rattle.xk_collections.proofs.bit_set.NumberSet.list.Given as goal

-- those listed so far are the first of the members
abbrev pub invariant-loop-next : goal.invariant-loop-next
invariant-loop-next l = IsListing l.self.members l.list.items (vec_capacity l.list) l.next × IsRising l.self.members × (vec_capacity l.fn.list ≤ vec_capacity l.list)

-- members that aren't listed yet
abbrev pub decreases-loop-next : goal.decreases-loop-next
decreases-loop-next l = length l.self.members - length l.list.items
