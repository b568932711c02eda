use Rattle.std.proofs.Common.{◌/◌, ◌<◌, ◌*◌, length, arith}
use Rattle.std.specs.Prelude.{slice_index_or}
use Rattle.xk_collections.specs.BitWords.{without_bit}
use Rattle.xk_collections.proofs.SetChangeLemmas.{members_without, gone_of, left_of, summed_kept, summed_word_gone, summed_group_gone}
use Rattle.xk_collections.proofs.bit_set.NumberSet.remove.Goals as goal

pub invariant_of-self : goal.invariant_of-self
invariant_of-self c =
    let low = c.self.inside.low.items in
    let i = c.args.number in
    let inside : i < length low * 64 = (rw (← c.self.view_is) at c.requires) in
    rw c.clear.ensures.cleared
    (summed_kept low c.self.inside.mid.items c.self.inside.top.items i inside (rw c.clear.ensures.cleared at c.clear.ensures.word)
    (left_of c.clear.result (slice_index_or (without_bit low i) (i / 64) 0) (rw c.clear.ensures.cleared at c.clear.ensures.empty) c.if-not-clear.true)
    c.self.invariant)

pub returns-then-not-clear-clause-members : goal.returns-then-not-clear-clause-members
returns-then-not-clear-clause-members c =
    rw (c.clear.ensures.cleared, ← c.self.view_is) (members_without c.self.inside.low.items c.args.number (let r = (rw (← c.self.view_is) at c.requires) in omega (arith, r)))

pub invariant_of-self-then-not-clear-2 : goal.invariant_of-self-then-not-clear-2
invariant_of-self-then-not-clear-2 c =
    let low = c.self.inside.low.items in
    let mid = c.self.inside.mid.items in
    let i = c.args.number in
    let inside : i < length low * 64 = (rw (← c.self.view_is) at c.requires) in
    rw (c.clear.ensures.cleared, c.clear-2.ensures.cleared)
    (summed_word_gone low mid c.self.inside.top.items i inside
    (gone_of c.clear.result (slice_index_or (without_bit low i) (i / 64) 0) (rw c.clear.ensures.cleared at c.clear.ensures.empty) c.if-not-clear.false)
    (rw c.clear-2.ensures.cleared at c.clear-2.ensures.word)
    (left_of c.clear-2.result (slice_index_or (without_bit mid (i / 64)) (i / 64 / 64) 0) (rw c.clear-2.ensures.cleared at c.clear-2.ensures.empty) c.if-not-clear-2.true)
    c.self.invariant)

pub returns-then-not-clear-2-clause-members : goal.returns-then-not-clear-2-clause-members
returns-then-not-clear-2-clause-members c =
    rw (c.clear.ensures.cleared, ← c.self.view_is) (members_without c.self.inside.low.items c.args.number (let r = (rw (← c.self.view_is) at c.requires) in omega (arith, r)))

pub invariant_of-self-2 : goal.invariant_of-self-2
invariant_of-self-2 c =
    let low = c.self.inside.low.items in
    let mid = c.self.inside.mid.items in
    let i = c.args.number in
    let inside : i < length low * 64 = (rw (← c.self.view_is) at c.requires) in
    rw (c.clear.ensures.cleared, c.clear-2.ensures.cleared, c.clear-3.ensures.cleared)
    (summed_group_gone low mid c.self.inside.top.items i inside
    (gone_of c.clear.result (slice_index_or (without_bit low i) (i / 64) 0) (rw c.clear.ensures.cleared at c.clear.ensures.empty) c.if-not-clear.false)
    (gone_of c.clear-2.result (slice_index_or (without_bit mid (i / 64)) (i / 64 / 64) 0) (rw c.clear-2.ensures.cleared at c.clear-2.ensures.empty) c.if-not-clear-2.false)
    c.self.invariant)

pub returns-clause-members : goal.returns-clause-members
returns-clause-members c =
    rw (c.clear.ensures.cleared, ← c.self.view_is) (members_without c.self.inside.low.items c.args.number (let r = (rw (← c.self.view_is) at c.requires) in omega (arith, r)))
