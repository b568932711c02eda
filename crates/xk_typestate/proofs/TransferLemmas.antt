-- Rows of the table of kinds that leave one kind, or two.
use Rattle.std.proofs.Common.{◌≡◌, ◌↔◌, [], ◌∷◌, Ok, IsTrue, ◌⊎◌, inl, inr, sym}
use Rattle.xk_types.specs.declared.rules.Kind.{Kind}
use Rattle.xk_types.specs.Walk.{After, To}
use Rattle.xk_typestate.specs.KindSet.{KindsValue, kinds_have}
use Rattle.xk_typestate.specs.Transfer.{IsRow}

pub one_row : (a : After) (k : Kind) (set : KindsValue) → a ≡ To (k ∷ []) → ((x : Kind) → IsTrue (kinds_have set x) ↔ (x ≡ k)) → IsRow a (Ok set)
one_row a k set e h =
    (k ∷ [], e, λ x. (λ t. inl (sym ((h x).0 t)), λ w. elim w [ inl f ↦ (h x).1 (sym f) | inr never ↦ absurd never ]))

-- two kinds, the second of them added to the first
pub two_row : (a : After) (j k : Kind) (one set : KindsValue) → a ≡ To (j ∷ k ∷ []) → ((x : Kind) → IsTrue (kinds_have one x) ↔ (x ≡ j))
    → ((x : Kind) → IsTrue (kinds_have set x) ↔ ((x ≡ k) ⊎ IsTrue (kinds_have one x))) → IsRow a (Ok set)
two_row a j k one set e h more = (
  j ∷ k ∷ [],
  e,
  λ x. (
    λ t. elim ((more x).0 t) [ inl second ↦ inr (inl (sym second)) | inr first ↦ inl (sym ((h x).0 first)) ],
    λ w. elim w [
      | inl first ↦ (more x).1 (inr ((h x).1 (sym first)))
      | inr rest ↦ elim rest [ inl second ↦ (more x).1 (inl (sym second)) | inr never ↦ absurd never ]
    ],
  ),
)
