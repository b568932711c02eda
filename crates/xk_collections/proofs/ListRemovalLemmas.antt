-- Lists that are taken out one after the other.
use Rattle.std.proofs.Common.{◌≡◌, ◌∙◌, ℕ, ◌+◌, ◌<◌, ◌≤◌, List, [], ◌∷◌, ◌++◌, length, get_or, drop, slice_set, sym, ap, subst, arith, length-append, append_assoc, add-one, drop-cons}
use Rattle.std.proofs.lemmas.List.{length-set}
use Rattle.xk_collections.specs.Chains.{AreApart}
use Rattle.xk_collections.specs.WaitingLists.{times, waiters, taken, left}
use Rattle.xk_collections.proofs.OccurrenceLemmas.{list_times, set_times, few}

pub append_times : (a : ℕ) (xs ys : List ℕ) → times a (xs ++ ys) ≡ times a xs + times a ys
append_times a [] ys = omega arith
append_times a (x ∷ xs) ys = let later = append_times a xs ys in omega arith

-- a list goes over into the list of those who are taken
apart_taken : (room : ℕ) (acts : List ℕ) (lists : List (List ℕ)) (c : ℕ) → AreApart room acts lists → c < length lists
    → AreApart room (acts ++ waiters lists c) (slice_set lists c [])
apart_taken room acts lists c apart there = record {
  once = λ a. omega (arith, apart.once a, append_times a acts (waiters lists c), set_times a c lists [] there);
  within = λ a some. apart.within a (omega (arith, some, append_times a acts (waiters lists c), set_times a c lists [] there));
}

-- and there is room for it
pub apart_fits : (room : ℕ) (acts : List ℕ) (lists : List (List ℕ)) (c : ℕ) → AreApart room acts lists → length acts + length (waiters lists c) ≤ room
apart_fits room acts lists c apart = omega (
  arith,
  length-append acts (waiters lists c),
  few room (acts ++ waiters lists c)
      (λ a. omega (arith, apart.once a, append_times a acts (waiters lists c), list_times a c lists))
      (λ a some. apart.within a (omega (arith, some, append_times a acts (waiters lists c), list_times a c lists))),
)

-- ---- the loop over clocks

-- these are taken, and the lists are left so: what is taken and left behind the clocks that are to come is what is of all
pub record IsTaking (before : List ℕ) (lists : List (List ℕ)) (clocks rest shown : List ℕ) (now : List (List ℕ)) : Type 0 where
  pub shown_is : shown ++ taken now rest ≡ before ++ taken lists clocks
  pub lists_are : left now rest ≡ left lists clocks
  pub same : length now ≡ length lists

taking_goes_on : (before : List ℕ) (lists : List (List ℕ)) (clocks rest shown : List ℕ) (now : List (List ℕ)) (c : ℕ) → IsTaking before lists clocks (c ∷ rest) shown now
    → IsTaking before lists clocks rest (shown ++ waiters now c) (slice_set now c [])
taking_goes_on before lists clocks rest shown now c h = record {
  shown_is = append_assoc shown (waiters now c) (taken (slice_set now c []) rest) ∙ h.shown_is;
  lists_are = h.lists_are;
  same = length-set now c [] ∙ h.same;
}

pub taking_more : (before : List ℕ) (lists : List (List ℕ)) (clocks : List ℕ) (i : ℕ) (shown more : List ℕ) (now next : List (List ℕ)) → i < length clocks
    → IsTaking before lists clocks (drop i clocks) shown now → more ≡ shown ++ waiters now (get_or clocks i 0) → next ≡ slice_set now (get_or clocks i 0) []
    → IsTaking before lists clocks (drop (i + 1) clocks) more next
taking_more before lists clocks i shown more now next lt h more_is next_is =
    rw (more_is, next_is) (taking_goes_on before lists clocks (drop (i + 1) clocks) shown now (get_or clocks i 0)
    (subst (λ (l : List ℕ). IsTaking before lists clocks l shown now) (drop-cons clocks i 0 lt ∙ ap (λ j. get_or clocks i 0 ∷ drop j clocks) (sym (add-one i))) h))

pub apart_more : (room : ℕ) (shown more : List ℕ) (now next : List (List ℕ)) (c : ℕ) → AreApart room shown now → c < length now
    → more ≡ shown ++ waiters now c → next ≡ slice_set now c [] → AreApart room more next
apart_more room shown more now next c apart there more_is next_is = rw (more_is, next_is) (apart_taken room shown now c apart there)
