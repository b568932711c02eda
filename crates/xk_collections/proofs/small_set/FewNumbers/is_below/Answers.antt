use Rattle.std.proofs.Common.{◌≡◌, ◌∙◌, ◌-◌, ℕ, List, length, Some, slice_get, option_copied, sym, ap, subst}
use Rattle.std.proofs.lemmas.Bool.{ltb-true}
use Rattle.xk_collections.specs.NumberSets.{AreBelow, SetValue}
use Rattle.xk_collections.proofs.SmallSetLemmas.{below_last}
use Rattle.xk_collections.proofs.small_set.FewNumbers.is_below.Goals as goal

pub returns-in-Some : goal.returns-in-Some
returns-in-Some c =
    let last : slice_get c.self.inside.numbers.items (length c.self.inside.numbers.items - 1) ≡ Some c.in-Some.last.now =
    subst (λ (l : List ℕ). slice_get l (length l - 1) ≡ Some c.in-Some.last.now) c.deref.ensures.value (sym c.last.ensures.value ∙ ap option_copied c.in-Some.is) in
    λ less. subst (λ (v : SetValue). AreBelow c.args.number v.members) c.self.view_is
    (below_last c.args.number c.self.inside.numbers.items c.in-Some.last.now c.self.invariant.rise last (ltb-true c.in-Some.last.now c.args.number less))
