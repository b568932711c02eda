-- One element more of a list that is told element by element.
use Rattle.std.proofs.Common.{◌≡◌, ℕ, suc, ◌+◌, ◌<◌, List, [], ◌++◌, length, get_or, slice_get, append_assoc, refl, ap, sym, ◌∙◌, arith}
use Rattle.std.proofs.lemmas.Option.{slice_get_read}
use Rattle.std.specs.Option.{option_map_or}
use Rattle.xk_listing.specs.Fields.{each_below}

-- what is told of the first elements of a list
abbrev pub told_below : {X : Type 0} → (ℕ → X → List ℕ) → List X → ℕ → List ℕ
told_below F xs n = each_below (λ k. option_map_or (F k) (slice_get xs k) []) n

pub one_more : {X : Type 0} (F : ℕ → X → List ℕ) (xs : List X) (base old new : List ℕ) (n : ℕ) (x : X) → n < length xs → x ≡ get_or xs n x
    → old ≡ base ++ told_below F xs n → new ≡ old ++ F n x
    → new ≡ base ++ told_below F xs (n + 1)
one_more F xs base old new n x lt read inv pushed =
    let here : option_map_or (F n) (slice_get xs n) [] ≡ F n x = ap (λ o. option_map_or (F n) o []) (slice_get_read xs (length xs) n x refl lt read) in
    let next : suc n ≡ n + 1 = omega arith in
    pushed
    ∙ (ap (λ l. l ++ F n x) inv
    ∙ (append_assoc base (told_below F xs n) (F n x)
    ∙ (ap (λ l. base ++ (told_below F xs n ++ l)) (sym here)
    ∙ ap (λ k. base ++ told_below F xs k) next)))
