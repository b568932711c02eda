-- Who is left, where the lists of some clocks are taken out.
use Rattle.std.proofs.Common.{◌≡◌, ◌∙◌, ℕ, suc, ◌+◌, ◌<◌, List, [], ◌∷◌, length, slice_set, inl, inr, refl, sym, ap, arith}
use Rattle.std.proofs.lemmas.Bool.{cases_eq, cases_lt}
use Rattle.std.proofs.lemmas.List.{get_or-set_same, get_or-set_other, length-set}
use Rattle.xk_collections.specs.WaitingLists.{times, times_in_all, waiters, taken, left}
use Rattle.xk_collections.proofs.ListRemovalLemmas.{append_times}
use Rattle.xk_collections.proofs.OccurrenceLemmas.{first_times, other_times, set_times}

-- who is taken and who is left are all
pub left_times : (a : ℕ) (lists : List (List ℕ)) (clocks : List ℕ) → ((c : ℕ) → 0 < times c clocks → c < length lists)
    → times a (taken lists clocks) + times_in_all a (left lists clocks) ≡ times_in_all a lists
left_times a lists [] there = omega arith
left_times a lists (c ∷ clocks) there =
    let here : c < length lists = there c (omega (arith, first_times c clocks)) in
    let later = left_times a (slice_set lists c []) clocks (λ d some. omega (arith, length-set lists c [], there d (omega (arith, some)))) in
    omega (arith, later, append_times a (waiters lists c) (taken (slice_set lists c []) clocks), set_times a c lists [] here)

pub left_length : (lists : List (List ℕ)) (clocks : List ℕ) → length (left lists clocks) ≡ length lists
left_length lists [] = refl
left_length lists (c ∷ clocks) = left_length (slice_set lists c []) clocks ∙ length-set lists c []

-- the list of a clock that isn't among these is as it was, and who is left in one is in such a list
pub left_stands : (a : ℕ) (lists : List (List ℕ)) (clocks : List ℕ) → ((c : ℕ) → 0 < times c clocks → c < length lists)
    → (d : ℕ) → 0 < times a (waiters (left lists clocks) d) → (0 < times a (waiters lists d)) × (times d clocks ≡ 0)
left_stands a lists [] there d some = (some, refl)
left_stands a lists (c ∷ clocks) there d some =
    let here : c < length lists = there c (omega (arith, first_times c clocks)) in
    let later = left_stands a (slice_set lists c []) clocks (λ e some. omega (arith, length-set lists c [], there e (omega (arith, some)))) d some in
    elim (cases_eq d c) [
      | inl same ↦
          absurd
          (let none : times a (waiters (slice_set lists c []) d) ≡ 0 = ap (λ k. times a (waiters (slice_set lists c []) k)) same ∙ ap (times a) (get_or-set_same lists c [] [] here) in
          omega (arith, none, later.0))
      | inr differs ↦
          (let same : times a (waiters (slice_set lists c []) d) ≡ times a (waiters lists d) = ap (times a) (get_or-set_other lists c d [] [] differs) in
          (omega (arith, same, later.0), omega (arith, later.1, other_times d c clocks (λ e. differs (sym e)))))
    ]

-- who stands in one of the lists stands in that of a clock
pub stands_in : (a : ℕ) (lists : List (List ℕ)) → 0 < times_in_all a lists → (c : ℕ) × (0 < times a (waiters lists c))
stands_in a [] some = absurd (omega arith)
stands_in a (l ∷ lists) some = elim (cases_lt 0 (times a l)) [
  | inl here ↦ (0, here)
  | inr none ↦ (let later = stands_in a lists (omega arith) in (suc later.0, later.1))
]
