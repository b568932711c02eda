-- Worlds that were found are looked for among those of one digest, the last one first.
use Rattle.std.proofs.Common.{◌≡◌, ◌⊎◌, inl, inr, ◌∙◌, ℕ, suc, ◌-◌, ◌<◌}
use Rattle.std.proofs.Common.{◌≤◌, List, length, map, Some, option_map, slice_get, sym, ap, arith}
use Rattle.std.proofs.lemmas.List.{length-map}
use Rattle.std.proofs.lemmas.Option.{slice_get-map, slice_get_within}
use Rattle.xk_digests.specs.Digests.{IsLast}
use Rattle.xk_outcomes.specs.Alikeness.{Alikeness}
use Rattle.xk_outcomes.specs.Found.{FoundValue}
use Rattle.xk_outcomes.specs.Search.{IsAt, found_digest}
use Rattle.xk_outcomes.proofs.SearchLemmas.{same_digests}

-- none is like this one where none has its digest
none_like : (like : Alikeness) (all : List FoundValue) (new : FoundValue) (n at : ℕ)
    → IsLast (map (found_digest like) all) (found_digest like new) n at
    → (j : ℕ) → at ≤ j → j < n → (y : FoundValue) → slice_get all j ≡ Some y → IsAt like y new.core.world new.printed → ⊥
none_like like all new n at is j from less y there found =
    is.none j from less (slice_get-map (found_digest like) all j ∙ ap (option_map (found_digest like)) there
    ∙ ap Some (same_digests like y new found))

-- none behind the last place is
pub none_behind : (like : Alikeness) (all : List FoundValue) (new : FoundValue) (at : ℕ)
    → IsLast (map (found_digest like) all) (found_digest like new) (length (map (found_digest like) all)) at
    → (j : ℕ) → at ≤ j → (y : FoundValue) → slice_get all j ≡ Some y → IsAt like y new.core.world new.printed → ⊥
none_behind like all new at is j from y there found =
    let inside = slice_get_within all j y there in
    let many : length (map (found_digest like) all) ≡ length all = length-map all (found_digest like) in
    none_like like all new (length (map (found_digest like) all)) at is j from (omega (arith, inside, many)) y there found

-- so it is from one place to the one before
pub none_between : (like : Alikeness) (all : List FoundValue) (new : FoundValue) (at next : ℕ) → 0 < at
    → ((j : ℕ) → at ≤ j → (y : FoundValue) → slice_get all j ≡ Some y → IsAt like y new.core.world new.printed → ⊥)
    → ((y : FoundValue) → slice_get all (at - 1) ≡ Some y → IsAt like y new.core.world new.printed → ⊥)
    → IsLast (map (found_digest like) all) (found_digest like new) (at - 1) next
    → (j : ℕ) → next ≤ j → (y : FoundValue) → slice_get all j ≡ Some y → IsAt like y new.core.world new.printed → ⊥
none_between like all new at next some behind here is j from y there found = by (split j at some)
  where
    split : (i n : ℕ) → 0 < n → (n ≤ i) ⊎ ((i ≡ n - 1) ⊎ (i < n - 1))
    split i n some = grind arith

    by : (at ≤ j) ⊎ ((j ≡ at - 1) ⊎ (j < at - 1)) → ⊥
    by (inl over) = behind j over y there found
    by (inr (inl same)) = here y (ap (slice_get all) (sym same) ∙ there) found
    by (inr (inr less)) = none_like like all new (at - 1) next is j from less y there found

-- the one before a place that isn't 0
pub one_before : (at : ℕ) → 0 < at → at ≡ suc (at - 1)
one_before at some = grind arith

-- it is among those that were found
pub within : (like : Alikeness) (all : List FoundValue) (d k : ℕ) → slice_get (map (found_digest like) all) k ≡ Some d → k < length all
within like all d k there =
    let inside = slice_get_within (map (found_digest like) all) k d there in
    let many : length (map (found_digest like) all) ≡ length all = length-map all (found_digest like) in
    omega (arith, inside, many)
