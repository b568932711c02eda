-- The places that an instruction leads to.
use Rattle.std.proofs.Common.{◌≡◌, ℕ, ◌⊎◌, inl, inr, refl, sym, subst}
use Rattle.xk_types.specs.Order.{Has}
use Rattle.xk_typestate.specs.Transfer.{places}
use Rattle.xk_typestate.specs.declared.transfer.Successors.{Successors}
use Rattle.xk_typestate.specs.declared.transfer.Successors.TheVariants.{One, Two}

pub has_one : (w : Successors) (to : ℕ) → w ≡ One to → Has (places w) to
has_one w to e = subst (λ x. Has (places x) to) (sym e) (inl refl)

pub has_first : (w : Successors) (a b : ℕ) → w ≡ Two a b → Has (places w) a
has_first w a b e = subst (λ x. Has (places x) a) (sym e) (inl refl)

pub has_second : (w : Successors) (a b : ℕ) → w ≡ Two a b → Has (places w) b
has_second w a b e = subst (λ x. Has (places x) b) (sym e) (inr (inl refl))

pub one_of_two : (w : Successors) (a b to : ℕ) → w ≡ Two a b → Has (places w) to → (a ≡ to) ⊎ (b ≡ to)
one_of_two w a b to e h =
    elim (subst (λ x. Has (places x) to) e h) [
      | inl first ↦ inl first
      | inr rest ↦ elim rest [ inl second ↦ inr second | inr never ↦ absurd never ]
    ]
