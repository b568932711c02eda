use Rattle.std.proofs.Common.{◌≡◌, ◌∙◌, false, refl, subst, ℕ, List, Ok, Err, nat_cmp}
use Rattle.std.specs.List.Sorted.{IsBinarySearchResult}
use Rattle.std.specs.Vec.{vec_capacity}
use Rattle.xk_collections.specs.NumberSets.{with_member, SetValue}
use Rattle.xk_collections.proofs.SmallSetLemmas.{are_members_without}
use Rattle.xk_collections.proofs.RisingListLemmas.{found_taken_out, missing_stays_out}
use Rattle.xk_collections.proofs.small_set.FewNumbers.remove.Goals as goal

pub invariant_of-self : goal.invariant_of-self
invariant_of-self c =
    let found = found_taken_out c.args.number false c.self.inside.numbers.items c.in-Ok.place refl c.self.invariant.rise
    (subst (λ (l : List ℕ). IsBinarySearchResult (λ y. nat_cmp y c.args.number) l (Ok c.in-Ok.place)) c.deref.ensures.value c.in-Ok.ensures.position)
    in let room : vec_capacity c.remove.new.self ≡ vec_capacity c.self.inside.numbers = c.remove.ensures.capacity
    in rw (c.remove.ensures.items, found, room) (are_members_without c.args.number c.self.inside.numbers.items (vec_capacity c.self.inside.numbers) c.self.invariant)

pub returns-in-Ok-clause-members : goal.returns-in-Ok-clause-members
returns-in-Ok-clause-members c =
    let found = found_taken_out c.args.number false c.self.inside.numbers.items c.in-Ok.place refl c.self.invariant.rise
    (subst (λ (l : List ℕ). IsBinarySearchResult (λ y. nat_cmp y c.args.number) l (Ok c.in-Ok.place)) c.deref.ensures.value c.in-Ok.ensures.position)
    in subst (λ (v : SetValue). c.remove.new.self.items ≡ with_member c.args.number false v.members) c.self.view_is (c.remove.ensures.items ∙ found)

pub returns-in_default-clause-members : goal.returns-in_default-clause-members
returns-in_default-clause-members c =
    subst (λ (v : SetValue). v.members ≡ with_member c.args.number false v.members) c.self.view_is
    (missing_stays_out c.args.number false c.self.inside.numbers.items c.in_default.field-0 refl c.self.invariant.rise
    (subst (λ (l : List ℕ). IsBinarySearchResult (λ y. nat_cmp y c.args.number) l (Err c.in_default.field-0)) c.deref.ensures.value c.in_default.ensures.position))
