use Rattle.std.proofs.Common.{◌*◌, length, Some, None}
use Rattle.xk_collections.specs.BitWords.{has}
use Rattle.xk_collections.proofs.RisingListLemmas.{filter_rises}
use Rattle.xk_collections.proofs.EmptySetLemmas.{few_members}
use Rattle.xk_collections.proofs.MemberSearchLemmas.{first_in}
use Rattle.xk_collections.proofs.bit_set.NumberSet.first.Goals as goal

pub returns-in-Some-clause-first : goal.returns-in-Some-clause-first
returns-in-Some-clause-first c =
    rw (← c.self.view_is) (first_in (has c.self.inside.low.items) (length c.self.inside.low.items * 64) (Some c.in-Some.i) (rw c.deref.ensures.value at c.in-Some.ensures))

pub returns-in-None-clause-first : goal.returns-in-None-clause-first
returns-in-None-clause-first c = rw (← c.self.view_is) (first_in (has c.self.inside.low.items) (length c.self.inside.low.items * 64) None (rw c.deref.ensures.value at c.in-None.ensures))

pub returns-in-Some-clause-rising : goal.returns-in-Some-clause-rising
returns-in-Some-clause-rising c = rw (← c.self.view_is) (filter_rises (has c.self.inside.low.items) (length c.self.inside.low.items * 64))

pub returns-in-None-clause-rising : goal.returns-in-None-clause-rising
returns-in-None-clause-rising c = rw (← c.self.view_is) (filter_rises (has c.self.inside.low.items) (length c.self.inside.low.items * 64))

pub returns-in-Some-clause-few : goal.returns-in-Some-clause-few
returns-in-Some-clause-few c = rw (← c.self.view_is) (few_members c.self.inside.low.items c.self.inside.mid.items c.self.inside.top.items c.self.invariant)

pub returns-in-None-clause-few : goal.returns-in-None-clause-few
returns-in-None-clause-few c = rw (← c.self.view_is) (few_members c.self.inside.low.items c.self.inside.mid.items c.self.inside.top.items c.self.invariant)
