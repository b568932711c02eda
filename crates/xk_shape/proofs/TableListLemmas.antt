-- Lists that are right as far as they go: one more at the end.
use Rattle.std.proofs.Common.{◌≡◌, ℕ, ◌+◌, List, [], ◌∷◌, ◌++◌, length, slice_get, sym, ap, ◌∙◌, subst, arith, length-append}
use Rattle.std.proofs.lemmas.Option.{none-some}
use Rattle.xk_types.proofs.ListLemmas.{Each, each_push}

-- none yet
pub each_of_none : {X : Type 0} (P : ℕ → X → Type 0) {xs : List X} → xs ≡ [] → Each P xs
each_of_none P none k x h = absurd (none-some x (ap (λ ys. slice_get ys k) (sym none) ∙ h))

-- one more at the end
pub each_more : {X : Type 0} (P : ℕ → X → Type 0) (n : ℕ) (xs ys : List X) (x : X) → ys ≡ xs ++ x ∷ [] → Each P xs → length xs ≡ n → P n x → Each P ys
each_more P n xs ys x is all long here = subst (Each P) (sym is) (each_push P xs x all (subst (λ k. P k x) (sym long) here))

pub long_more : {X : Type 0} (n : ℕ) (xs ys : List X) (x : X) → ys ≡ xs ++ x ∷ [] → length xs ≡ n → length ys ≡ n + 1
long_more n xs ys x is long = omega (arith, ap length is, length-append xs (x ∷ []))
