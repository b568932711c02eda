use Rattle.std.proofs.Common.{◌<◌, length, arith}
use Rattle.xk_collections.specs.Chains.{lists_of}
use Rattle.xk_collections.proofs.ChainLayoutLemmas.{put_laid_by, seen, seen_laid, set_places}
use Rattle.xk_collections.proofs.waiting_lists.WaitingLists.put.Goals as goal

pub invariant_of-self : goal.invariant_of-self
invariant_of-self c =
    let first = c.self.inside.first.items in
    let next = c.self.inside.next.items in
    let clock = rw (← c.self.view_is) at c.requires.clock in
    let place : c.args.act < length next =
    omega (arith, rw (← c.self.view_is) at c.requires.act, c.self.invariant.1 (omega (arith, clock, c.self.invariant.0.clocks))) in (
      seen_laid _ _ _ (put_laid_by first next (lists_of first next) c.args.clock c.args.act c.index.result.now c.self.invariant.0 c.index.ensures
          clock place (rw (← c.self.view_is) at c.requires.nowhere)),
      set_places first next c.self.inside.room c.args.clock c.args.act _ _ c.self.invariant.1,
    )

pub returns-clause-lists : goal.returns-clause-lists
returns-clause-lists c =
    let first = c.self.inside.first.items in
    let next = c.self.inside.next.items in
    let clock = rw (← c.self.view_is) at c.requires.clock in
    let place : c.args.act < length next =
    omega (arith, rw (← c.self.view_is) at c.requires.act, c.self.invariant.1 (omega (arith, clock, c.self.invariant.0.clocks))) in
    rw (← c.self.view_is)
    (seen _ _ _ (put_laid_by first next (lists_of first next) c.args.clock c.args.act c.index.result.now c.self.invariant.0 c.index.ensures
    clock place (rw (← c.self.view_is) at c.requires.nowhere)))
