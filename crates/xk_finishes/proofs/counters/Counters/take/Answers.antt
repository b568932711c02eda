use Rattle.std.proofs.Common.{◌≡◌, ◌<◌, ℕ, List, Some, length, sym, ap, ◌∙◌, subst, arith}
use Rattle.xk_finishes.specs.Counters.{count_in}
use Rattle.xk_finishes.proofs.CounterListLemmas.{there_some, own_some}
use Rattle.xk_finishes.proofs.counters.Counters.take.Goals as goal

pub index_mut-requires : goal.index_mut-requires
index_mut-requires c =
    let owned : c.args.finish.owner ≡ Some c.owner-in-Some.inside.0 = sym c.owner.ensures ∙ c.in-Some.is ∙ ap Some (sym c.owner-in-Some.view_is) in
    let there = there_some c.args.self.now c.owner-in-Some.inside.0 c.args.finish.depth (c.requires.some c.owner-in-Some.inside.0 owned) in
    omega (arith, there.0, ap length c.self.view_is)

pub take-requires-clause-there : goal.take-requires-clause-there
take-requires-clause-there c =
    let owned : c.args.finish.owner ≡ Some c.owner-in-Some.inside.0 = sym c.owner.ensures ∙ c.in-Some.is ∙ ap Some (sym c.owner-in-Some.view_is) in
    let some = subst (λ (lists : List (List ℕ)). 0 < count_in lists c.owner-in-Some.inside.0 c.args.finish.depth) (sym c.self.view_is)
    (c.requires.some c.owner-in-Some.inside.0 owned) in
    let own = own_some c.self.inside.owners.items c.owner-in-Some.inside.0 c.args.finish.depth c.index_mut.result.now some c.index_mut.ensures.value in
    rw c.depth.ensures own.0

pub take-requires-clause-some : goal.take-requires-clause-some
take-requires-clause-some c =
    let owned : c.args.finish.owner ≡ Some c.owner-in-Some.inside.0 = sym c.owner.ensures ∙ c.in-Some.is ∙ ap Some (sym c.owner-in-Some.view_is) in
    let some = subst (λ (lists : List (List ℕ)). 0 < count_in lists c.owner-in-Some.inside.0 c.args.finish.depth) (sym c.self.view_is)
    (c.requires.some c.owner-in-Some.inside.0 owned) in
    let own = own_some c.self.inside.owners.items c.owner-in-Some.inside.0 c.args.finish.depth c.index_mut.result.now some c.index_mut.ensures.value in
    rw c.depth.ensures own.1
