use Rattle.xk_collections.specs.Chains.{lists_of}
use Rattle.xk_collections.proofs.ChainLayoutLemmas.{take_laid, seen, seen_laid, set_first}
use Rattle.xk_collections.proofs.waiting_lists.WaitingLists.take_one.Goals as goal

pub invariant_of-self : goal.invariant_of-self
invariant_of-self c =
    let first = c.self.inside.first.items in
    let next = c.self.inside.next.items in (
      seen_laid _ _ _ (take_laid first next (lists_of first next) c.args.clock c.self.invariant.0 (rw (← c.self.view_is) at c.requires.clock)),
      set_first first next c.self.inside.room c.args.clock _ c.self.invariant.1,
    )

pub returns-clause-lists : goal.returns-clause-lists
returns-clause-lists c =
    let first = c.self.inside.first.items in
    let next = c.self.inside.next.items in
    rw (← c.self.view_is) (seen _ _ _ (take_laid first next (lists_of first next) c.args.clock c.self.invariant.0 (rw (← c.self.view_is) at c.requires.clock)))
