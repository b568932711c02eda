use Rattle.xk_collections.proofs.EmptySetLemmas.{empty_is}
use Rattle.xk_collections.proofs.bit_set.NumberSet.is_empty.Goals as goal

pub returns : goal.returns
returns c =
    rw (← c.self.view_is) (empty_is c.self.inside.low.items c.self.inside.mid.items c.self.inside.top.items c.next_in_word.result c.is_none.result c.self.invariant
    (rw c.deref.ensures.value at c.next_in_word.ensures) c.is_none.ensures)
