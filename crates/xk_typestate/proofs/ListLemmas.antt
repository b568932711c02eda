-- What holds of each place of a list still does with one element more.
use Rattle.std.proofs.Common.{◌≡◌, ℕ, ◌+◌, ◌<◌, List, [], ◌∷◌, ◌++◌, length, get_or, inl, inr, sym, subst, arith}
use Rattle.std.proofs.lemmas.List.{get_or_push, get_or_append_left}
use Rattle.std.proofs.lemmas.Bool.{cases_lt}

-- what holds of each place still does with one more
pub each_more : {X : Type 0} (P : ℕ → X → Type 0) (xs new : List X) (y d : X) (n : ℕ) → length xs ≡ n → new ≡ xs ++ y ∷ []
    → ((k : ℕ) → k < n → P k (get_or xs k d)) → P n y → (k : ℕ) → k < n + 1 → P k (get_or new k d)
each_more P xs new y d n long is each here k lt =
    subst (λ zs. P k (get_or zs k d)) (sym is)
    (elim (cases_lt k n) [
      | inl before ↦ subst (P k) (sym (get_or_append_left xs (y ∷ []) d k (omega arith))) (each k before)
      | inr last ↦
          let same : n ≡ k = omega arith in
          subst (λ j. P j (get_or (xs ++ y ∷ []) j d)) same (subst (P n) (sym (get_or_push xs y d n long)) here)
    ])
