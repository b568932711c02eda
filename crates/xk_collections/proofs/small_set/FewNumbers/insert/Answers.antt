use Rattle.std.proofs.Common.{rules, ◌≡◌, ◌∙◌, ◌<◌, true, sym, subst}
use Rattle.std.specs.Vec.{vec_capacity}
use Rattle.xk_collections.specs.NumberSets.{AreBelow, SetValue, with_member}
use Rattle.xk_collections.proofs.SmallSetLemmas.{IsLast, put_last}
use Rattle.xk_collections.proofs.small_set.FewNumbers.insert.Goals as goal

-- what the call knows of itself
known : (c : goal.After-push_reserved-arg-1) → IsLast c.args.number c.self.inside.numbers.items (vec_capacity c.self.inside.numbers)
known c =
    put_last c.args.number c.self.inside.numbers.items (vec_capacity c.self.inside.numbers)
    (subst (λ (v : SetValue). c.args.number < v.room) (sym c.self.view_is) c.requires) c.self.invariant
    (subst (λ (v : SetValue). AreBelow c.args.number v.members) (sym c.self.view_is) (c.is_below.ensures c.if-is_below.true))

pub push_reserved-requires : goal.push_reserved-requires
push_reserved-requires c = let fits = (known c).fits in search rules

pub invariant_of-self : goal.invariant_of-self
invariant_of-self c =
    let last = put_last c.args.number c.self.inside.numbers.items (vec_capacity c.self.inside.numbers)
    (subst (λ (v : SetValue). c.args.number < v.room) (sym c.self.view_is) c.requires) c.self.invariant
    (subst (λ (v : SetValue). AreBelow c.args.number v.members) (sym c.self.view_is) (c.is_below.ensures c.if-is_below.true))
    in rw (c.push_reserved.ensures.items, c.push_reserved.ensures.capacity) last.keeps

pub returns-then-is_below-clause-members : goal.returns-then-is_below-clause-members
returns-then-is_below-clause-members c =
    let last = put_last c.args.number c.self.inside.numbers.items (vec_capacity c.self.inside.numbers)
    (subst (λ (v : SetValue). c.args.number < v.room) (sym c.self.view_is) c.requires) c.self.invariant
    (subst (λ (v : SetValue). AreBelow c.args.number v.members) (sym c.self.view_is) (c.is_below.ensures c.if-is_below.true))
    in subst (λ (v : SetValue). c.push_reserved.new.self.items ≡ with_member c.args.number true v.members) c.self.view_is
    (c.push_reserved.ensures.items ∙ last.puts)
