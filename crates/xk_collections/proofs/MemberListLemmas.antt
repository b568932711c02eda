-- The members are listed one after the other.
use Rattle.std.proofs.Common.{◌≡◌, ◌∙◌, ℕ, zero, suc, ◌+◌, ◌<◌, ◌≤◌, nat_le, List, [], ◌∷◌, ◌++◌, length, take, get_or, Option, Some, None, slice_get, refl, sym, ap, arith}
use Rattle.std.proofs.lemmas.Bool.{le-leb, lt-leb}
use Rattle.std.proofs.lemmas.Option.{none-some, same_Some, slice_get-get_or}
use Rattle.std.proofs.lemmas.List.{length-take-le, length-append, take_more, take_all}
use Rattle.xk_collections.specs.NumberSets.{IsRising, place_above}
use Rattle.xk_collections.proofs.RisingListLemmas.{filter_front, rising_far, rising_up}

-- those listed so far are the first of the members, and the next one is known
pub record IsListing (members list : List ℕ) (room : ℕ) (next : Option ℕ) : Type 0 where
  pub so_far : list ≡ take (length list) members
  pub next_is : next ≡ slice_get members (length list)
  pub roomy : length members ≤ room

pub there : (xs : List ℕ) (i k : ℕ) → slice_get xs i ≡ Some k → i < length xs
there [] i k e = absurd (none-some k e)
there (x ∷ xs) zero k e = omega arith
there (x ∷ xs) (suc i) k e = let h : i < length xs = there xs i k e in omega arith

pub at : (xs : List ℕ) (i k : ℕ) → slice_get xs i ≡ Some k → get_or xs i 0 ≡ k
at xs i k e = same_Some (get_or xs i 0) k (sym (slice_get-get_or xs i 0 (there xs i k e)) ∙ e)

-- behind a member stands the least one above it
pub place_behind : (xs : List ℕ) (i k : ℕ) → IsRising xs → slice_get xs i ≡ Some k → place_above k xs ≡ suc i
place_behind xs i k up e =
    let inside : i < length xs = there xs i k e in
    let here : get_or xs i 0 ≡ k = at xs i k e in
    ap length (filter_front (λ a. nat_le a k) xs (suc i)
    (λ j lt j_inside. let h : get_or xs j 0 ≤ get_or xs i 0 = rising_up xs up j i (omega arith) inside in le-leb (get_or xs j 0) k (omega arith))
    (λ j le j_inside. let h : get_or xs i 0 < get_or xs j 0 = rising_far xs up i j (omega arith) j_inside in lt-leb (get_or xs j 0) k (omega arith)))
    ∙ length-take-le (suc i) xs (omega arith)

below : (members list : List ℕ) (room k : ℕ) → IsListing members list room (Some k) → length list < length members
below members list room k h = there members (length list) k (sym h.next_is)

pub goes_on : (members list : List ℕ) (room more k : ℕ) (next : Option ℕ) → IsRising members → IsListing members list room (Some k) → room ≤ more
    → next ≡ slice_get members (place_above k members) → IsListing members (list ++ k ∷ []) more next
goes_on members list room more k next up h le e =
    let n : length (list ++ k ∷ []) ≡ length list + 1 = length-append list (k ∷ []) in
    let inside : length list < length members = below members list room k h in
    record {
      so_far =
          ap (λ l. l ++ k ∷ []) h.so_far
          ∙ ap (λ x. take (length list) members ++ x ∷ []) (sym (at members (length list) k (sym h.next_is)))
          ∙ sym (take_more members (length list) 0 inside)
          ∙ ap (λ x. take x members) (sym n);
      next_is = e ∙ ap (slice_get members) (place_behind members (length list) k up (sym h.next_is) ∙ omega (arith, n));
      roomy = let r = h.roomy in omega arith;
    }

pub nobody : (xs : List ℕ) (i : ℕ) → slice_get xs i ≡ None → length xs ≤ i
nobody [] i e = omega arith
nobody (x ∷ xs) zero e = cc
nobody (x ∷ xs) (suc i) e = let h : length xs ≤ i = nobody xs i e in omega arith

ends : (members list : List ℕ) (room : ℕ) → IsListing members list room None → list ≡ members
ends members list room h = h.so_far ∙ take_all (length list) members (nobody members (length list) (sym h.next_is))

pub ends_where : (members list : List ℕ) (room : ℕ) (next : Option ℕ) → IsListing members list room next → ((k : ℕ) → next ≡ Some k → ⊥) → list ≡ members
ends_where members list room None h left = ends members list room h
ends_where members list room (Some k) h left = absurd (left k refl)
