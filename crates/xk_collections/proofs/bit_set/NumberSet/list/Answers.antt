use Rattle.std.proofs.Common.{ℕ, Option, List, subst, sym, arith, ◌≤◌}
use Rattle.std.specs.Vec.{vec_capacity}
use Rattle.xk_collections.proofs.MemberListLemmas.{IsListing, goes_on, ends_where}
use Rattle.xk_collections.proofs.bit_set.NumberSet.list.Goals as goal

pub loop-next-preserved : goal.loop-next-preserved
loop-next-preserved c =
    let members = c.args.self.now.members in
    let old = c.loop-next.list in
    let so : IsListing members old.items (vec_capacity old) c.loop-next.next = c.loop-next.invariant.0 in
    let grown : vec_capacity old ≤ vec_capacity c.push.new.self = c.push.ensures.capacity in (
      subst (λ (l : List ℕ). IsListing members l (vec_capacity c.push.new.self) c.above-next.result)
          (sym (rw c.if-is_err.ensures.negation at c.push.ensures.items))
          (goes_on members old.items (vec_capacity old) (vec_capacity c.push.new.self) c.in-Some.number c.above-next.result c.loop-next.invariant.1
          (subst (λ (o : Option ℕ). IsListing members old.items (vec_capacity old) o) c.in-Some.is so) grown c.above-next.ensures),
      c.loop-next.invariant.1,
      omega (arith, c.loop-next.invariant.2, grown),
    )

pub returns-clause-items : goal.returns-clause-items
returns-clause-items c =
    ends_where c.args.self.now.members c.loop-next.list.items (vec_capacity c.loop-next.list) c.loop-next.next c.loop-next.invariant.0 c.in_default.not-Some
