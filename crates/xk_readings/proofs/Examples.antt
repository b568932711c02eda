-- What can be read in a graph that goes two ways to one end.
use Rattle.std.proofs.Common.{◌≡◌, ◌∙◌, ℕ, ℤ, zero, suc, pos, true, false, List, [], ◌∷◌, length}
use Rattle.std.proofs.Common.{Some, None, slice_get, refl, ap, subst, arith}
use Rattle.std.proofs.lemmas.Option.{none-some, same_Some}
use Rattle.xk_readings.specs.declared.edge.Edge.{Edge}
use Rattle.xk_readings.specs.Graphs.{GraphValue}
use Rattle.xk_readings.specs.Readings.{Reads}
use Rattle.xk_readings.specs.Beginnings.{HasMoreSets, IsBehind, IsReadTo, LeadAlike, ReadsTo}

abbrev one : Edge
one = record { from = 0; act = 0; printed = Some (pos 1); to = 1 }

abbrev two : Edge
two = record { from = 0; act = 1; printed = Some (pos 2); to = 2 }

abbrev from_one : Edge
from_one = record { from = 1; act = 1; printed = None; to = 3 }

abbrev from_two : Edge
from_two = record { from = 2; act = 0; printed = None; to = 3 }

abbrev diamond : GraphValue
diamond = record { edges = one ∷ two ∷ from_one ∷ from_two ∷ []; ends = false ∷ false ∷ false ∷ true ∷ [] }

reads_one : Reads diamond 2 0 (0 ∷ 1 ∷ []) (pos 1 ∷ [])
reads_one = (one, (0, refl), refl, 1 ∷ [], [], (from_one, (2, refl), refl, [], [], (refl, refl, refl), refl, refl), refl, refl)

reads_two : Reads diamond 2 0 (1 ∷ 0 ∷ []) (pos 2 ∷ [])
reads_two = (two, (1, refl), refl, 0 ∷ [], [], (from_two, (3, refl), refl, [], [], (refl, refl, refl), refl, refl), refl, refl)

-- no reading ends on the way
not_between : Reads diamond 0 1 [] [] → ⊥
not_between r = (let ends : Some false ≡ Some true = r.0 in cc)

end_of : (f e : Edge) → Some f ≡ Some e → e.to ≡ 0 → f.to ≡ 0
end_of f e is to = ap (λ (x : Edge). x.to) (same_Some f e is) ∙ to

-- no edge leads to the first node
never_back : (n : ℕ) (numbers : List ℤ) → ReadsTo diamond (suc n) numbers 0 → ⊥
never_back n numbers (e, (zero, is), to, before, r, whole) = (let back = end_of one e is to in omega (arith, back))
never_back n numbers (e, (suc zero, is), to, before, r, whole) = (let back = end_of two e is to in omega (arith, back))
never_back n numbers (e, (suc (suc zero), is), to, before, r, whole) = (let back = end_of from_one e is to in omega (arith, back))
never_back n numbers (e, (suc (suc (suc zero)), is), to, before, r, whole) = (let back = end_of from_two e is to in omega (arith, back))
never_back n numbers (e, (suc (suc (suc (suc j))), is), to, before, r, whole) = absurd (none-some e is)

-- so one stands on other nodes behind a 1 than before any number: these are two sets
two_sets : HasMoreSets diamond 1
two_sets = record {
  beginnings = [] ∷ (pos 1 ∷ []) ∷ [];
  some = some;
  apart = apart;
  more = omega arith;
}
  where
    before : IsBehind diamond [] 0
    before = ((0, (refl, refl)), (2, 0 ∷ 1 ∷ [], pos 1 ∷ [], reads_one))

    behind : IsBehind diamond (pos 1 ∷ []) 1
    behind = (
      (1, (one, (0, refl), refl, [], (refl, refl), refl)),
      (1, 1 ∷ [], [], (from_one, (2, refl), refl, [], [], (refl, refl, refl), refl, refl)),
    )

    some : (i : ℕ) (xs : List ℤ) → slice_get ([] ∷ (pos 1 ∷ []) ∷ []) i ≡ Some xs → (k : ℕ) × IsBehind diamond xs k
    some zero xs h = (0, subst (λ l. IsBehind diamond l 0) (same_Some [] xs h) before)
    some (suc zero) xs h = (1, subst (λ l. IsBehind diamond l 1) (same_Some (pos 1 ∷ []) xs h) behind)
    some (suc (suc i)) xs h = absurd (none-some xs h)

    never : (xs ys : List ℤ) → [] ≡ xs → pos 1 ∷ [] ≡ ys → LeadAlike diamond xs ys → ⊥
    never xs ys hx hy alike = by (((alike 0).0 (subst (λ l. IsBehind diamond l 0) hx before)).0)
      where
        by : IsReadTo diamond ys 0 → ⊥
        by (zero, r) = (let count = ap length (hy ∙ r.1) in omega (arith, count))
        by (suc n, r) = never_back n ys r

    apart : (i j : ℕ) (xs ys : List ℤ) → slice_get ([] ∷ (pos 1 ∷ []) ∷ []) i ≡ Some xs → slice_get ([] ∷ (pos 1 ∷ []) ∷ []) j ≡ Some ys
        → LeadAlike diamond xs ys → i ≡ j
    apart zero zero xs ys hx hy alike = refl
    apart zero (suc zero) xs ys hx hy alike = absurd (never xs ys (same_Some [] xs hx) (same_Some (pos 1 ∷ []) ys hy) alike)
    apart zero (suc (suc j)) xs ys hx hy alike = absurd (none-some ys hy)
    apart (suc zero) zero xs ys hx hy alike =
        absurd (never ys xs (same_Some [] ys hy) (same_Some (pos 1 ∷ []) xs hx) (λ k. ((alike k).1, (alike k).0)))
    apart (suc zero) (suc zero) xs ys hx hy alike = refl
    apart (suc zero) (suc (suc j)) xs ys hx hy alike = absurd (none-some ys hy)
    apart (suc (suc i)) j xs ys hx hy alike = absurd (none-some xs hx)
