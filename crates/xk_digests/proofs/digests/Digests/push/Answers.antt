use Rattle.std.proofs.Common.{◌≡◌, ◌∙◌, ◌+◌, ◌++◌, ◌∷◌, [], ℕ, List, length, ap, subst}
use Rattle.xk_digests.specs.Digests.{IsLast}
use Rattle.xk_digests.proofs.DigestListLemmas.{linked_pushed}
use Rattle.xk_digests.proofs.digests.Digests.push.Goals as goal

pub invariant_of-self-3 : goal.invariant_of-self-3
invariant_of-self-3 c =
    let all = c.self.inside.all.items in
    let digest = c.args.digest in
    let place = c.last-before.result in
    let last = subst (λ (l : List ℕ). IsLast l digest (length l) place) c.reserve.ensures.items c.last-before.ensures in
    let next : c.len.result + 1 ≡ length all + 1 = ap (λ n. n + 1) (c.len.ensures ∙ c.reserve.ensures.len ∙ c.self.inside.all.ok.0) in
    linked_pushed all c.self.inside.before.items c.push_reserved-2.new.self.items c.push_reserved.new.self.items
    digest place (c.len.result + 1) c.self.inside.last c.insert.new.self c.self.invariant last next c.in_ok-insert.ensures.updates
    (c.push_reserved-2.ensures.items ∙ ap (λ (l : List ℕ). l ++ digest ∷ []) c.reserve.ensures.items)
    (c.push_reserved.ensures.items ∙ ap (λ (l : List ℕ). l ++ place ∷ []) c.reserve-2.ensures.items)
