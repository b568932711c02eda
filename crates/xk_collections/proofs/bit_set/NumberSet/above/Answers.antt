use Rattle.std.proofs.Common.{◌*◌, length, Some, None}
use Rattle.xk_collections.specs.BitWords.{has}
use Rattle.xk_collections.proofs.MemberSearchLemmas.{above_of}
use Rattle.xk_collections.proofs.bit_set.NumberSet.above.Goals as goal

pub returns-in-Some : goal.returns-in-Some
returns-in-Some c =
    rw (← c.self.view_is)
    (above_of (has c.self.inside.low.items) c.args.number (length c.self.inside.low.items * 64) (Some c.in-Some.i) (rw c.deref.ensures.value at c.in-Some.ensures))

pub returns-in-None : goal.returns-in-None
returns-in-None c =
    rw (← c.self.view_is) (above_of (has c.self.inside.low.items) c.args.number (length c.self.inside.low.items * 64) None (rw c.deref.ensures.value at c.in-None.ensures))
