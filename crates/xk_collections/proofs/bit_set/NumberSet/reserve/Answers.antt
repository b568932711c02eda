use Rattle.std.proofs.Common.{arith, ◌-◌, length}
use Rattle.xk_collections.proofs.SetChangeLemmas.{members_same, summed_longer}
use Rattle.xk_collections.proofs.bit_set.NumberSet.reserve.Goals as goal

pub invariant_of-self-2 : goal.invariant_of-self-2
invariant_of-self-2 c =
    rw (c.fill.ensures, c.fill-2.ensures, c.make_room.ensures.same, c.make_room-2.ensures.same)
    (summed_longer c.self.inside.low.items c.self.inside.mid.items c.self.inside.top.items
    (c.div_ceil-words.result - length c.self.inside.low.items) (c.div_ceil-sums.result - length c.self.inside.mid.items)
    (omega (arith, c.div_ceil-words.ensures, c.div_ceil-sums.ensures, c.self.invariant.covered))
    (omega (arith, c.div_ceil-words.ensures, c.div_ceil-sums.ensures, c.self.invariant.few, c.requires))
    c.self.invariant)

pub returns-clause-members : goal.returns-clause-members
returns-clause-members c =
    rw (c.fill.ensures, c.make_room.ensures.same, ← c.self.view_is)
    (members_same c.self.inside.low.items (c.div_ceil-words.result - length c.self.inside.low.items))
