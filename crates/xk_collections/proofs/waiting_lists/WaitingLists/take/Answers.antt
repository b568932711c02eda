use Rattle.xk_collections.specs.Chains.{lists_of}
use Rattle.xk_collections.proofs.ChainLayoutLemmas.{laid_apart}
use Rattle.xk_collections.proofs.waiting_lists.WaitingLists.take.Goals as goal

pub take_each-requires-clause-apart : goal.take_each-requires-clause-apart
take_each-requires-clause-apart c =
    let first = c.self.inside.first.items in
    let next = c.self.inside.next.items in
    rw (← c.self.view_is) (laid_apart first next c.self.inside.room (lists_of first next) c.clear.new.self.items c.self.invariant.0 c.self.invariant.1 c.clear.ensures.items)
