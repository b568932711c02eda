-- Small graphs: what the definitions say of their orders, by evaluation.
use Rattle.std.proofs.Common.{◌≡◌, ◌<◌, ℕ, zero, suc, List, [], ◌∷◌, inl, inr, slice_get, Some, refl, arith}
use Rattle.xk_callgraph.specs.CallGraph.{IsCall, Reaches, AreReached}
use Rattle.xk_callgraph.specs.TopologicalOrder.{IsInOrder, IsOnce, HasPlace, IsReady, AreLeast}
use Rattle.xk_callgraph.proofs.ReachabilityLemmas.{last_call}

-- ---- method 0 calls 2 and then 1, and both call 3; 4 calls 3 too, and nobody calls 4

abbrev diamond : List (List ℕ)
diamond = (2 ∷ 1 ∷ []) ∷ (3 ∷ []) ∷ (3 ∷ []) ∷ [] ∷ (3 ∷ []) ∷ []

abbrev right : List ℕ
right = 0 ∷ 1 ∷ 2 ∷ 3 ∷ []

right_in_order : IsInOrder diamond right
right_in_order zero zero zero j e call = (2, omega arith, call)
right_in_order zero zero (suc zero) j e call = (1, omega arith, call)
right_in_order zero zero (suc (suc k)) j e call = absurd cc
right_in_order zero (suc i) k j e call = absurd cc
right_in_order (suc zero) zero k j e call = absurd cc
right_in_order (suc zero) (suc zero) zero j e call = (3, omega arith, call)
right_in_order (suc zero) (suc zero) (suc k) j e call = absurd cc
right_in_order (suc zero) (suc (suc i)) k j e call = absurd cc
right_in_order (suc (suc zero)) zero k j e call = absurd cc
right_in_order (suc (suc zero)) (suc zero) k j e call = absurd cc
right_in_order (suc (suc zero)) (suc (suc zero)) zero j e call = (3, omega arith, call)
right_in_order (suc (suc zero)) (suc (suc zero)) (suc k) j e call = absurd cc
right_in_order (suc (suc zero)) (suc (suc (suc i))) k j e call = absurd cc
right_in_order (suc (suc (suc zero))) zero k j e call = absurd cc
right_in_order (suc (suc (suc zero))) (suc zero) k j e call = absurd cc
right_in_order (suc (suc (suc zero))) (suc (suc zero)) k j e call = absurd cc
right_in_order (suc (suc (suc zero))) (suc (suc (suc zero))) k j e call = absurd cc
right_in_order (suc (suc (suc zero))) (suc (suc (suc (suc i)))) k j e call = absurd cc
right_in_order (suc (suc (suc (suc a)))) i k j e call = absurd cc

right_is_least : AreLeast diamond 0 right
right_is_least zero zero j e r = omega arith
right_is_least zero (suc i) j e r = absurd cc
right_is_least (suc zero) i zero e r = absurd (r.placeless (0, omega arith, refl))
right_is_least (suc zero) zero (suc j) e r = omega arith
right_is_least (suc zero) (suc zero) (suc j) e r = omega arith
right_is_least (suc zero) (suc (suc i)) (suc j) e r = absurd cc
right_is_least (suc (suc zero)) i zero e r = absurd (r.placeless (0, omega arith, refl))
right_is_least (suc (suc zero)) i (suc zero) e r = absurd (r.placeless (1, omega arith, refl))
right_is_least (suc (suc zero)) zero (suc (suc j)) e r = omega arith
right_is_least (suc (suc zero)) (suc zero) (suc (suc j)) e r = omega arith
right_is_least (suc (suc zero)) (suc (suc zero)) (suc (suc j)) e r = omega arith
right_is_least (suc (suc zero)) (suc (suc (suc i))) (suc (suc j)) e r = absurd cc
right_is_least (suc (suc (suc zero))) i zero e r = absurd (r.placeless (0, omega arith, refl))
right_is_least (suc (suc (suc zero))) i (suc zero) e r = absurd (r.placeless (1, omega arith, refl))
right_is_least (suc (suc (suc zero))) i (suc (suc zero)) e r = absurd (r.placeless (2, omega arith, refl))
right_is_least (suc (suc (suc zero))) zero (suc (suc (suc j))) e r = omega arith
right_is_least (suc (suc (suc zero))) (suc zero) (suc (suc (suc j))) e r = omega arith
right_is_least (suc (suc (suc zero))) (suc (suc zero)) (suc (suc (suc j))) e r = omega arith
right_is_least (suc (suc (suc zero))) (suc (suc (suc zero))) (suc (suc (suc j))) e r = omega arith
right_is_least (suc (suc (suc zero))) (suc (suc (suc (suc i)))) (suc (suc (suc j))) e r = absurd cc
right_is_least (suc (suc (suc (suc k)))) i j e r = absurd cc

-- 2 may not come before 1, although 0 calls it first
abbrev two_first : List ℕ
two_first = 0 ∷ 2 ∷ 1 ∷ 3 ∷ []

one_may_be_next : IsReady diamond 0 two_first 1 1
one_may_be_next = record {
  reached = (1 ∷ [], ((1, refl), refl));
  placeless = alone;
  callers = mine;
}
  where
    alone : HasPlace two_first 1 1 → ⊥
    alone p = at p.0 p.1 p.2
      where
        at : (a : ℕ) → a < 1 → slice_get two_first a ≡ Some 1 → ⊥
        at zero h e = cc
        at (suc a) h e = omega arith

    mine : (i c : ℕ) → Reaches diamond 0 i → IsCall diamond i c 1 → HasPlace two_first 1 i
    mine zero c r call = (0, omega arith, refl)
    mine (suc zero) zero r call = absurd cc
    mine (suc zero) (suc c) r call = absurd cc
    mine (suc (suc zero)) zero r call = absurd cc
    mine (suc (suc zero)) (suc c) r call = absurd cc
    mine (suc (suc (suc zero))) c r call = absurd cc
    mine (suc (suc (suc (suc zero)))) zero r call = absurd cc
    mine (suc (suc (suc (suc zero)))) (suc c) r call = absurd cc
    mine (suc (suc (suc (suc (suc i))))) c r call = absurd cc

two_comes_too_early : AreLeast diamond 0 two_first → ⊥
two_comes_too_early least = let e = least 1 2 1 refl one_may_be_next in omega arith

-- 4 has no place, since it isn't reached
four_is_not_reached : Reaches diamond 0 4 → ⊥
four_is_not_reached r = elim (last_call diamond r.0 0 4 r.1) [
  | inl same ↦ absurd (omega arith)
  | inr l ↦ uncalled l.0 l.1 l.3
]
  where
    uncalled : (m k : ℕ) → IsCall diamond m k 4 → ⊥
    uncalled zero zero call = cc
    uncalled zero (suc zero) call = cc
    uncalled zero (suc (suc k)) call = cc
    uncalled (suc zero) zero call = cc
    uncalled (suc zero) (suc k) call = cc
    uncalled (suc (suc zero)) zero call = cc
    uncalled (suc (suc zero)) (suc k) call = cc
    uncalled (suc (suc (suc zero))) k call = cc
    uncalled (suc (suc (suc (suc zero)))) zero call = cc
    uncalled (suc (suc (suc (suc zero)))) (suc k) call = cc
    uncalled (suc (suc (suc (suc (suc m))))) k call = cc

four_has_no_place : AreReached diamond 0 (0 ∷ 1 ∷ 2 ∷ 4 ∷ 3 ∷ []) → ⊥
four_has_no_place reached = four_is_not_reached (reached 3 4 refl)

-- ---- 1 is called by 3 and by 4, and has to wait for both

abbrev late : List (List ℕ)
late = (4 ∷ 2 ∷ []) ∷ [] ∷ (3 ∷ []) ∷ (1 ∷ []) ∷ (1 ∷ []) ∷ []

abbrev one_waited_once : List ℕ
one_waited_once = 0 ∷ 2 ∷ 3 ∷ 1 ∷ 4 ∷ []

one_comes_too_early : IsInOrder late one_waited_once → ⊥
one_comes_too_early later = let w = later 4 4 0 1 refl refl in at w.0 w.1 w.2
  where
    at : (b : ℕ) → 4 < b → slice_get one_waited_once b ≡ Some 1 → ⊥
    at zero h e = omega arith
    at (suc zero) h e = omega arith
    at (suc (suc zero)) h e = omega arith
    at (suc (suc (suc zero))) h e = omega arith
    at (suc (suc (suc (suc zero)))) h e = omega arith
    at (suc (suc (suc (suc (suc b))))) h e = cc

-- ---- methods that call each other have no order

abbrev round : List (List ℕ)
round = (1 ∷ []) ∷ (0 ∷ []) ∷ []

no_order : (order : List ℕ) → slice_get order 0 ≡ Some 0 → IsInOrder round order → IsOnce order → ⊥
no_order order first later once =
    let one = later 0 0 0 1 first refl in
    let back = later one.0 1 0 0 one.2 refl in
    let same = once 0 back.0 0 first back.2 in
    let a = one.1 in
    let b = back.1 in
    omega arith
