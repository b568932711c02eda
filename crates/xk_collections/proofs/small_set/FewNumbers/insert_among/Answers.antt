use Rattle.std.proofs.Common.{rules, ◌≡◌, ◌<◌, ◌∙◌, length, true, refl, sym, ap, subst, arith, ℕ, List, Ok, nat_cmp, insert}
use Rattle.std.specs.List.Sorted.{IsBinarySearchResult}
use Rattle.std.specs.Vec.{vec_capacity, vec_len}
use Rattle.xk_collections.specs.NumberSets.{with_member, SetValue}
use Rattle.xk_collections.proofs.SmallSetLemmas.{missing}
use Rattle.xk_collections.proofs.RisingListLemmas.{found_stays_in}
use Rattle.xk_collections.proofs.small_set.FewNumbers.insert_among.Goals as goal

pub unreachable-requires : goal.unreachable-requires
unreachable-requires c =
    let below : c.args.number < vec_capacity c.self.inside.numbers = subst (λ (v : SetValue). c.args.number < v.room) (sym c.self.view_is) c.requires in
    let here = missing c.args.number c.self.inside.numbers.items c.deref.result.now c.in-Err.place (vec_capacity c.self.inside.numbers) below c.self.invariant
    c.deref.ensures.value c.in-Err.ensures.bound c.in-Err.ensures.position
    in let fits : vec_len c.self.inside.numbers < vec_capacity c.self.inside.numbers = omega (arith, here.fits, c.deref.ensures.len, ap length c.deref.ensures.value)
    in let ok = c.insert.ensures.succeeds fits in search rules

pub invariant_of-self : goal.invariant_of-self
invariant_of-self c =
    let below : c.args.number < vec_capacity c.self.inside.numbers = subst (λ (v : SetValue). c.args.number < v.room) (sym c.self.view_is) c.requires in
    let here = missing c.args.number c.self.inside.numbers.items c.deref.result.now c.in-Err.place (vec_capacity c.self.inside.numbers) below c.self.invariant
    c.deref.ensures.value c.in-Err.ensures.bound c.in-Err.ensures.position
    in let fits : vec_len c.self.inside.numbers < vec_capacity c.self.inside.numbers = omega (arith, here.fits, c.deref.ensures.len, ap length c.deref.ensures.value)
    in let items : c.insert.new.self.items ≡ insert c.self.inside.numbers.items c.in-Err.place c.args.number = rw c.if-is_err.ensures.negation at c.insert.ensures.items
    in let room : vec_capacity c.insert.new.self ≡ vec_capacity c.self.inside.numbers = (c.insert.ensures.in_place fits).1.0
    in rw (items, room) here.keeps

pub returns-else-is_err-clause-members : goal.returns-else-is_err-clause-members
returns-else-is_err-clause-members c =
    let below : c.args.number < vec_capacity c.self.inside.numbers = subst (λ (v : SetValue). c.args.number < v.room) (sym c.self.view_is) c.requires in
    let here = missing c.args.number c.self.inside.numbers.items c.deref.result.now c.in-Err.place (vec_capacity c.self.inside.numbers) below c.self.invariant
    c.deref.ensures.value c.in-Err.ensures.bound c.in-Err.ensures.position
    in let fits : vec_len c.self.inside.numbers < vec_capacity c.self.inside.numbers = omega (arith, here.fits, c.deref.ensures.len, ap length c.deref.ensures.value)
    in let items : c.insert.new.self.items ≡ insert c.self.inside.numbers.items c.in-Err.place c.args.number = rw c.if-is_err.ensures.negation at c.insert.ensures.items
    in subst (λ (v : SetValue). c.insert.new.self.items ≡ with_member c.args.number true v.members) c.self.view_is (items ∙ here.puts)

pub returns-else-is_err-clause-room : goal.returns-else-is_err-clause-room
returns-else-is_err-clause-room c =
    let below : c.args.number < vec_capacity c.self.inside.numbers = subst (λ (v : SetValue). c.args.number < v.room) (sym c.self.view_is) c.requires in
    let here = missing c.args.number c.self.inside.numbers.items c.deref.result.now c.in-Err.place (vec_capacity c.self.inside.numbers) below c.self.invariant
    c.deref.ensures.value c.in-Err.ensures.bound c.in-Err.ensures.position
    in let fits : vec_len c.self.inside.numbers < vec_capacity c.self.inside.numbers = omega (arith, here.fits, c.deref.ensures.len, ap length c.deref.ensures.value)
    in subst (λ (v : SetValue). vec_capacity c.insert.new.self ≡ v.room) c.self.view_is ((c.insert.ensures.in_place fits).1.0)

pub returns-in_default-clause-members : goal.returns-in_default-clause-members
returns-in_default-clause-members c =
    subst (λ (v : SetValue). v.members ≡ with_member c.args.number true v.members) c.self.view_is
    (found_stays_in c.args.number true c.self.inside.numbers.items c.in_default.field-0 refl c.self.invariant.rise
    (subst (λ (l : List ℕ). IsBinarySearchResult (λ y. nat_cmp y c.args.number) l (Ok c.in_default.field-0)) c.deref.ensures.value c.in_default.ensures.position))
