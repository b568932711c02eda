-- where there is no more nothing is given
use Rattle.std.proofs.Common.{◌≡◌, ℕ, ◌⊎◌, List, [], ◌∷◌, inl, inr, refl, ap, ◌∙◌}
use Rattle.xk_types.specs.declared.rules.Kind.{Kind}
use Rattle.xk_types.specs.declared.unit.ParamKind.{ParamKind}
use Rattle.xk_types.specs.Walk.{After, gives}
use Rattle.xk_typestate.proofs.transfer.give.Goals as goal

nothing_given : (ps : List ParamKind) (s : ℕ) (k : Kind) (go : After) → gives ps [] s k go ≡ go
nothing_given [] s k go = refl
nothing_given (p ∷ ps) s k go = refl

none_given : (ps : List ParamKind) (xs : List ℕ) (s : ℕ) (k : Kind) (go : After) → (ps ≡ []) ⊎ (xs ≡ []) → gives ps xs s k go ≡ go
none_given ps xs s k go (inl none) = ap (λ qs. gives qs xs s k go) none
none_given ps xs s k go (inr none) = ap (λ ys. gives ps ys s k go) none ∙ nothing_given ps s k go

pub returns : goal.returns
returns c = λ go.
    c.loop-param.invariant go ∙ none_given c.loop-param.arguments.params c.loop-param.arguments.slots c.args.slot c.args.kind go c.in_default.ensures
