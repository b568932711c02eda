-- All lists, laid out as chains.
use Rattle.std.proofs.Common.{◌≡◌, ℕ, zero, suc, ◌<◌, ◌≤◌, List, [], ◌∷◌, length, map, replicate, slice_set, get_or, Option, Some, None, ◌⊎◌, inl, inr, refl, sym, ap, subst, arith}
use Rattle.std.proofs.lemmas.Bool.{cases_eq}
use Rattle.std.proofs.lemmas.List.{get_or-set_same, get_or-set_other, length-set, length-replicate}
use Rattle.xk_collections.specs.Chains.{at, chain, lists_of, AreApart, IsChain, AreLaid, HasPlaces}
use Rattle.xk_collections.specs.WaitingLists.{times, times_in_all, waiters}
use Rattle.xk_collections.proofs.ChainLemmas.{untouched, found, chain_within}
use Rattle.xk_collections.proofs.RemainderLemmas.{stands_in}
use Rattle.xk_collections.proofs.OccurrenceLemmas.{first_times, other_times, list_times, set_times, none_times, few}

-- the lists are those that the chains give
same_lists : (next : List (Option ℕ)) (n : ℕ) (first : List (Option ℕ)) (lists : List (List ℕ)) → length lists ≡ length first
    → ((c : ℕ) → IsChain next (at first c) (waiters lists c)) → ((c : ℕ) → length (waiters lists c) ≤ n) → map (chain next n) first ≡ lists
same_lists next n [] [] same chained short = refl
same_lists next n [] (l ∷ lists) same chained short = absurd (omega arith)
same_lists next n (f ∷ first) [] same chained short = absurd (omega arith)
same_lists next n (f ∷ first) (l ∷ lists) same chained short =
    rw (found next n f l (chained 0) (short 0))
    (ap (λ ls. l ∷ ls) (same_lists next n first lists (omega arith) (λ c. chained (suc c)) (λ c. short (suc c))))

list_once : (lists : List (List ℕ)) → ((a : ℕ) → times_in_all a lists ≤ 1) → (c a : ℕ) → times a (waiters lists c) ≤ 1
list_once lists once c a = omega (arith, list_times a c lists, once a)

short : (first next : List (Option ℕ)) (lists : List (List ℕ)) → AreLaid first next lists → (c : ℕ) → length (waiters lists c) ≤ length next
short first next lists laid c =
    few (length next) (waiters lists c) (list_once lists laid.once c) (chain_within next (at first c) (waiters lists c) (laid.chained c))

-- what is laid is seen
pub seen : (first next : List (Option ℕ)) (lists : List (List ℕ)) → AreLaid first next lists → lists_of first next ≡ lists
seen first next lists laid = same_lists next (length next) first lists laid.clocks laid.chained (short first next lists laid)

pub seen_laid : (first next : List (Option ℕ)) (lists : List (List ℕ)) → AreLaid first next lists → AreLaid first next (lists_of first next)
seen_laid first next lists laid = subst (λ (ls : List (List ℕ)). AreLaid first next ls) (sym (seen first next lists laid)) laid

-- ---- nobody yet

no_first : (n c : ℕ) → at (replicate n None) c ≡ None
no_first zero c = refl
no_first (suc n) zero = refl
no_first (suc n) (suc c) = no_first n c

no_list : (n c : ℕ) → waiters (replicate n []) c ≡ []
no_list zero c = refl
no_list (suc n) zero = refl
no_list (suc n) (suc c) = no_list n c

pub empty_laid : (clocks acts : ℕ) → AreLaid (replicate clocks None) (replicate acts None) (replicate clocks [])
empty_laid clocks acts = record {
  clocks = omega (arith, length-replicate {A = List ℕ} clocks [], length-replicate {A = Option ℕ} clocks None);
  chained = λ c. rw (no_list clocks c) (no_first clocks c);
  once = λ a. omega (arith, none_times a clocks);
}

pub empty_places : (clocks acts room : ℕ) → (0 < clocks → acts ≡ room) → HasPlaces (replicate clocks None) (replicate acts None) room
empty_places clocks acts room is some = omega (
  arith,
  is (omega (arith, some, length-replicate {A = Option ℕ} clocks None)),
  length-replicate {A = Option ℕ} acts None,
)

-- ---- somebody is put before a list

abbrev with_first : List (List ℕ) → ℕ → ℕ → List (List ℕ)
with_first lists c act = slice_set lists c (act ∷ waiters lists c)

put_chained : (first next : List (Option ℕ)) (lists : List (List ℕ)) (c act : ℕ) → AreLaid first next lists → c < length lists → act < length next
    → times_in_all act lists ≡ 0 → (d : ℕ) → IsChain (slice_set next act (at first c)) (at (slice_set first c (Some act)) d) (waiters (with_first lists c act) d)
put_chained first next lists c act laid there room nowhere d = of (cases_eq d c)
  where
    old : (e : ℕ) → IsChain (slice_set next act (at first c)) (at first e) (waiters lists e)
    old e = untouched next act (at first c) (at first e) (waiters lists e) (laid.chained e) (omega (arith, nowhere, list_times act e lists))

    of : (d ≡ c) ⊎ (d ≡ c → ⊥) → IsChain (slice_set next act (at first c)) (at (slice_set first c (Some act)) d) (waiters (with_first lists c act) d)
    of (inl e) =
        subst (λ (k : ℕ). IsChain (slice_set next act (at first c)) (at (slice_set first c (Some act)) k) (waiters (with_first lists c act) k)) (sym e)
        (subst (λ (f : Option ℕ). IsChain (slice_set next act (at first c)) f (waiters (with_first lists c act) c)) (sym (get_or-set_same first c (Some act) None (omega (arith, there, laid.clocks))))
        (subst (λ (l : List ℕ). IsChain (slice_set next act (at first c)) (Some act) l) (sym (get_or-set_same lists c (act ∷ waiters lists c) [] there)) (
          refl,
          omega (arith, room, length-set next act (at first c)),
          subst (λ (f : Option ℕ). IsChain (slice_set next act (at first c)) f (waiters lists c)) (sym (get_or-set_same next act (at first c) None room)) (old c),
        )))
    of (inr ne) =
        subst (λ (f : Option ℕ). IsChain (slice_set next act (at first c)) f (waiters (with_first lists c act) d)) (sym (get_or-set_other first c d (Some act) None ne))
        (subst (λ (l : List ℕ). IsChain (slice_set next act (at first c)) (at first d) l) (sym (get_or-set_other lists c d (act ∷ waiters lists c) [] ne)) (old d))

put_laid : (first next : List (Option ℕ)) (lists : List (List ℕ)) (c act : ℕ) → AreLaid first next lists → c < length lists → act < length next
    → times_in_all act lists ≡ 0 → AreLaid (slice_set first c (Some act)) (slice_set next act (at first c)) (with_first lists c act)
put_laid first next lists c act laid there room nowhere = record {
  clocks = omega (arith, laid.clocks, length-set lists c (act ∷ waiters lists c), length-set first c (Some act));
  chained = put_chained first next lists c act laid there room nowhere;
  once = λ a. once a (cases_eq act a);
}
  where
    once : (a : ℕ) → (act ≡ a) ⊎ (act ≡ a → ⊥) → times_in_all a (with_first lists c act) ≤ 1
    once a (inl e) = subst (λ (b : ℕ). times_in_all b (with_first lists c act) ≤ 1) e
        (omega (arith, set_times act c lists (act ∷ waiters lists c) there, first_times act (waiters lists c), nowhere))
    once a (inr ne) = omega (arith, set_times a c lists (act ∷ waiters lists c) there, other_times a act (waiters lists c) ne, laid.once a)

-- what was read of a row
read : (row : List (Option ℕ)) (c : ℕ) (v : Option ℕ) → c < length row → v ≡ get_or row c v → v ≡ at row c
read [] c v lt e = absurd (omega arith)
read (f ∷ row) zero v lt e = e
read (f ∷ row) (suc c) v lt e = read row c v (omega arith) e

pub put_laid_by : (first next : List (Option ℕ)) (lists : List (List ℕ)) (c act : ℕ) (v : Option ℕ) → AreLaid first next lists → v ≡ get_or first c v
    → c < length lists → act < length next → times_in_all act lists ≡ 0 → AreLaid (slice_set first c (Some act)) (slice_set next act v) (with_first lists c act)
put_laid_by first next lists c act v laid e there room nowhere =
    subst (λ (f : Option ℕ). AreLaid (slice_set first c (Some act)) (slice_set next act f) (with_first lists c act))
    (sym (read first c v (omega (arith, there, laid.clocks)) e))
    (put_laid first next lists c act laid there room nowhere)

-- ---- a list is taken out

pub take_laid : (first next : List (Option ℕ)) (lists : List (List ℕ)) (c : ℕ) → AreLaid first next lists → c < length lists
    → AreLaid (slice_set first c None) next (slice_set lists c [])
take_laid first next lists c laid there = record {
  clocks = omega (arith, laid.clocks, length-set lists c [], length-set first c None);
  chained = λ d. chained d (cases_eq d c);
  once = λ a. omega (arith, set_times a c lists [] there, laid.once a);
}
  where
    chained : (d : ℕ) → (d ≡ c) ⊎ (d ≡ c → ⊥) → IsChain next (at (slice_set first c None) d) (waiters (slice_set lists c []) d)
    chained d (inl e) =
        subst (λ (k : ℕ). IsChain next (at (slice_set first c None) k) (waiters (slice_set lists c []) k)) (sym e)
        (subst (λ (l : List ℕ). IsChain next (at (slice_set first c None) c) l) (sym (get_or-set_same lists c [] [] there))
        (get_or-set_same first c None None (omega (arith, there, laid.clocks))))
    chained d (inr ne) =
        subst (λ (f : Option ℕ). IsChain next f (waiters (slice_set lists c []) d)) (sym (get_or-set_other first c d None None ne))
        (subst (λ (l : List ℕ). IsChain next (at first d) l) (sym (get_or-set_other lists c d [] [] ne)) (laid.chained d))

-- who stands in a list stands in one of them
some_list : (a : ℕ) (lists : List (List ℕ)) → 0 < times_in_all a lists → 0 < length lists
some_list a [] some = absurd (omega (arith, some))
some_list a (l ∷ lists) some = omega arith

-- nobody is taken yet
pub laid_apart : (first next : List (Option ℕ)) (room : ℕ) (lists : List (List ℕ)) (shown : List ℕ) → AreLaid first next lists → HasPlaces first next room → shown ≡ []
    → AreApart room shown lists
laid_apart first next room lists shown laid places none = rw none (record {
  once = λ a. omega (arith, laid.once a);
  within = λ a some. (
      let c = stands_in a lists (omega (arith, some)) in
      omega (
        arith,
        chain_within next (at first c.0) (waiters lists c.0) (laid.chained c.0) a c.1,
        places (omega (arith, some_list a lists (omega (arith, some)), laid.clocks)),
      )
      );
})

-- a place of a row is written
pub set_places : (first next : List (Option ℕ)) (room c act : ℕ) (f v : Option ℕ) → HasPlaces first next room → HasPlaces (slice_set first c f) (slice_set next act v) room
set_places first next room c act f v places some = omega (arith, places (omega (arith, some, length-set first c f)), length-set next act v)

pub set_first : (first next : List (Option ℕ)) (room c : ℕ) (f : Option ℕ) → HasPlaces first next room → HasPlaces (slice_set first c f) next room
set_first first next room c f places some = places (omega (arith, some, length-set first c f))
