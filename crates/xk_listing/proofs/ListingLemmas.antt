-- A program has one listing.
use Rattle.std.proofs.Common.{◌≡◌, ℕ, List, Some, inl, inr, sym, ap, ◌∙◌}
use Rattle.xk_types.specs.Code.{ModuleValue}
use Rattle.xk_typestate.proofs.KindTableLemmas.{same_kind_tables}
use Rattle.xk_unit_origins.specs.UnitOrigins.{UnitOrigins}
use Rattle.xk_listing.specs.Listing.{IsListing, listing}

pub one_listing : (text : List ℕ) (origins : List UnitOrigins) (m : ModuleValue) (a b : List ℕ) → IsListing text origins m a → IsListing text origins m b → a ≡ b
one_listing text origins m a b (inl x) (inl y) =
    x.1.is ∙ (ap (λ t. listing text origins m (Some t)) (same_kind_tables m x.1.tables y.1.tables x.1.are y.1.are) ∙ sym y.1.is)
one_listing text origins m a b (inl x) (inr y) = absurd (y.0 x.0)
one_listing text origins m a b (inr x) (inl y) = absurd (x.0 y.0)
one_listing text origins m a b (inr x) (inr y) = x.1 ∙ sym y.1
