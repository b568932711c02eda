-- where there is no more there is no clock
use Rattle.std.proofs.Common.{◌≡◌, ℕ, ◌⊎◌, List, [], ◌∷◌, inl, inr, refl, ap, ◌∙◌}
use Rattle.xk_types.specs.declared.unit.ParamKind.{ParamKind}
use Rattle.xk_types.specs.Code.{clock_arguments}
use Rattle.xk_shape.proofs.arguments.Arguments.take_clock.Goals as goal

no_slots : (ps : List ParamKind) → clock_arguments ps [] ≡ []
no_slots [] = refl
no_slots (p ∷ ps) = refl

no_clocks : (ps : List ParamKind) (xs : List ℕ) → (ps ≡ []) ⊎ (xs ≡ []) → clock_arguments ps xs ≡ []
no_clocks ps xs (inl none) = ap (λ qs. clock_arguments qs xs) none
no_clocks ps xs (inr none) = ap (clock_arguments ps) none ∙ no_slots ps

pub returns : goal.returns
returns c = c.loop-param.invariant ∙ no_clocks c.loop-param.self.params c.loop-param.self.slots c.in_default.ensures
