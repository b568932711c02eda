-- The lines of a question, one by one.
use Rattle.std.proofs.Common.{◌≡◌, ◌∙◌, ℕ, ◌+◌, Bool, true, false, List, [], ◌∷◌, ◌++◌, refl, ap, append-nil}
use Rattle.std.specs.Prelude.{filter, flat_map, if◌then◌else◌}
use Rattle.std.proofs.lemmas.Grind.{flat_map-append}
use Rattle.std.proofs.lemmas.List.Elements.{filter-append}
use Rattle.xk_collections.specs.NumberSets.{numbers_from}
use Rattle.xk_collections.proofs.RisingListLemmas.{numbers_more}

line_of : (f : ℕ → List ℕ) (test : ℕ → Bool) (n : ℕ) → flat_map f (filter test (n ∷ [])) ≡ (if test n then f n else [])
line_of f test n = by (test n)
  where
    by : (b : Bool) → flat_map f (if b then n ∷ [] else []) ≡ (if b then f n else [])
    by true = append-nil (f n)
    by false = refl

-- the lines of those below one number more
pub lines_more : (f : ℕ → List ℕ) (test : ℕ → Bool) (n : ℕ)
    → flat_map f (filter test (numbers_from 0 (n + 1))) ≡ flat_map f (filter test (numbers_from 0 n)) ++ (if test n then f n else [])
lines_more f test n =
    ap (λ l. flat_map f (filter test l)) (numbers_more n)
    ∙ ap (flat_map f) (filter-append test (numbers_from 0 n) (n ∷ []))
    ∙ flat_map-append f (filter test (numbers_from 0 n)) (filter test (n ∷ []))
    ∙ ap (λ l. flat_map f (filter test (numbers_from 0 n)) ++ l) (line_of f test n)
