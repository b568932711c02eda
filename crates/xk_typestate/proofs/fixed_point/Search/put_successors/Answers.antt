-- way after way
use Rattle.std.proofs.Common.{ℕ, inl, inr, sym, subst, arith}
use Rattle.xk_types.specs.Order.{Has}
use Rattle.xk_typestate.specs.Transfer.{places, way_kinds}
use Rattle.xk_typestate.specs.KindSet.{KindsValue}
use Rattle.xk_typestate.specs.Search.{HasPut, CanCome}
use Rattle.xk_typestate.proofs.SearchLemmas.{can_come_on, has_put_on}
use Rattle.xk_typestate.proofs.ResultLemmas.{ok_by_two}
use Rattle.xk_typestate.proofs.SuccessorLemmas.{has_one, has_first, has_second, one_of_two}
use Rattle.xk_typestate.proofs.fixed_point.Search.put_successors.Goals as goal

pub put_all-requires : goal.put_all-requires
put_all-requires c = record { inside = c.requires.inside c.in-One.to (has_one c.args.successors c.in-One.to c.in-One.is) }

pub put_all-requires-in-Two : goal.put_all-requires-in-Two
put_all-requires-in-Two c = record { inside = c.requires.inside c.in-Two.first (has_first c.args.successors c.in-Two.first c.in-Two.second c.in-Two.is) }

pub put_all-requires-in-Two-2 : goal.put_all-requires-in-Two-2
put_all-requires-in-Two-2 c =
    let inside = c.requires.inside c.in-Two.second (has_second c.args.successors c.in-Two.first c.in-Two.second c.in-Two.is) in
    record { inside = omega (arith, c.in_ok-put_all-in-Two.ensures.grown.long) }

pub returns-in-One-clause-searched : goal.returns-in-One-clause-searched
returns-in-One-clause-searched c = λ m u s done so_far come.
    c.put_all.ensures.searched m u s done so_far (subst (λ k. CanCome m u s done c.args.self.now c.in-One.to k c.args.from) (sym c.way.ensures)
    (come c.in-One.to (has_one c.args.successors c.in-One.to c.in-One.is)))

pub returns-in_ok-put_all-in-Two-clause-searched : goal.returns-in_ok-put_all-in-Two-clause-searched
returns-in_ok-put_all-in-Two-clause-searched c = λ m u s done so_far come.
    let first = c.in-Two.first in
    let second = c.in-Two.second in
    let before = c.in_ok-put_all-in-Two.ensures in
    let to_first = subst (λ k. CanCome m u s done c.args.self.now first k c.args.from) (sym c.way-in-Two.ensures) (come first (has_first c.args.successors first second c.in-Two.is)) in
    let to_second = subst (λ k. CanCome m u s done c.args.self.now second k c.args.from) (sym c.way-in-Two-2.ensures) (come second (has_second c.args.successors first second c.in-Two.is)) in
    c.put_all-in-Two-2.ensures.searched m u s done
    (before.searched m u s done so_far to_first)
    (can_come_on m u s done c.args.self.now c.put_all-in-Two.new.self second c.way-in-Two-2.result c.args.from before.grown (before.latest to_first.latest) to_second)

pub returns-in_ok-put_all-in-Two-clause-put : goal.returns-in_ok-put_all-in-Two-clause-put
returns-in_ok-put_all-in-Two-clause-put c =
    let first = c.in-Two.first in
    let second = c.in-Two.second in
    let on_way : ℕ → KindsValue = λ to. way_kinds c.args.instr.now to c.args.kinds c.args.past in
    let mid = c.put_all-in-Two.new.self in
    let now = c.put_all-in-Two-2.new.self in
    let before = c.in_ok-put_all-in-Two.ensures in
    ok_by_two _ _ _ (λ _. (to : ℕ) → Has (places c.args.successors) to → HasPut now to (on_way to)) c.put_all-in-Two-2.ensures.grown c.put_all-in-Two-2.ensures.put
    (λ _ grown put to h. elim (one_of_two c.args.successors first second to c.in-Two.is h) [
      | inl is ↦ subst (λ x. HasPut now x (on_way x)) is (subst (λ k. HasPut now first k) c.way-in-Two.ensures (has_put_on mid now first c.way-in-Two.result grown before.put))
      | inr is ↦ subst (λ x. HasPut now x (on_way x)) is (subst (λ k. HasPut now second k) c.way-in-Two-2.ensures put)
    ])
