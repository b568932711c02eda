use Rattle.std.proofs.Common.{arith}
use Rattle.xk_collections.proofs.SetChangeLemmas.{members_with, summed_with}
use Rattle.xk_collections.proofs.bit_set.NumberSet.insert.Goals as goal

pub invariant_of-self : goal.invariant_of-self
invariant_of-self c =
    rw (c.put.ensures, c.put-2.ensures, c.put-3.ensures)
    (summed_with c.self.inside.low.items c.self.inside.mid.items c.self.inside.top.items c.args.number (rw (← c.self.view_is) at c.requires) c.self.invariant)

pub returns-clause-members : goal.returns-clause-members
returns-clause-members c =
    rw (c.put.ensures, ← c.self.view_is) (members_with c.self.inside.low.items c.args.number (let r = (rw (← c.self.view_is) at c.requires) in omega (arith, r)))
