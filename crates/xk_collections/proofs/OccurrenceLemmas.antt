-- How often somebody stands in lists.
use Rattle.std.proofs.Common.{◌≡◌, ℕ, zero, suc, ◌+◌, ◌<◌, ◌≤◌, true, false, cond, nat_eq, nat_lt, List, [], ◌∷◌, length, replicate, slice_set, refl, arith}
use Rattle.std.proofs.lemmas.Bool.{lt-ltb, le-ltb}
use Rattle.xk_collections.specs.WaitingLists.{times, times_in_all, waiters}

same_test : (a : ℕ) → nat_eq a a ≡ true
same_test a = grind arith

other_test : (a b : ℕ) → (a ≡ b → ⊥) → nat_eq a b ≡ false
other_test a b ne = grind arith

-- who begins a list stands in it once more
pub first_times : (act : ℕ) (acts : List ℕ) → times act (act ∷ acts) ≡ suc (times act acts)
first_times act acts = rw (same_test act) (omega arith)

-- and nobody else does
pub other_times : (a act : ℕ) (acts : List ℕ) → (act ≡ a → ⊥) → times a (act ∷ acts) ≡ times a acts
other_times a act acts ne = rw (other_test act a ne) (omega arith)

-- one clock's list has nobody oftener than all lists
pub list_times : (a c : ℕ) (lists : List (List ℕ)) → times a (waiters lists c) ≤ times_in_all a lists
list_times a c [] = omega arith
list_times a zero (l ∷ lists) = omega arith
list_times a (suc c) (l ∷ lists) = let later = list_times a c lists in omega arith

-- another list for one clock
pub set_times : (a c : ℕ) (lists : List (List ℕ)) (l : List ℕ) → c < length lists
    → times_in_all a (slice_set lists c l) + times a (waiters lists c) ≡ times_in_all a lists + times a l
set_times a c [] l lt = absurd (omega arith)
set_times a zero (k ∷ lists) l lt = omega arith
set_times a (suc c) (k ∷ lists) l lt = let later = set_times a c lists l (omega arith) in omega arith

pub none_times : (a n : ℕ) → times_in_all a (replicate n []) ≡ 0
none_times a zero = refl
none_times a (suc n) = let later = none_times a n in omega arith

-- ---- no more activities than there are numbers

abbrev below : ℕ → List ℕ → ℕ
below n [] = 0
below n (a ∷ acts) = cond (nat_lt a n) 1 0 + below n acts

one_more : (a n : ℕ) → cond (nat_lt a (suc n)) 1 0 ≡ cond (nat_lt a n) 1 0 + cond (nat_eq a n) 1 0
one_more a n = grind arith

below_more : (n : ℕ) (acts : List ℕ) → below (suc n) acts ≡ below n acts + times n acts
below_more n [] = refl
below_more n (a ∷ acts) = let here = one_more a n in let later = below_more n acts in omega arith

below_none : (acts : List ℕ) → below 0 acts ≡ 0
below_none [] = refl
below_none (a ∷ acts) = rw (le-ltb a 0 (omega arith)) (let later = below_none acts in omega arith)

below_few : (n : ℕ) (acts : List ℕ) → ((a : ℕ) → times a acts ≤ 1) → below n acts ≤ n
below_few zero acts once = let none = below_none acts in omega arith
below_few (suc n) acts once = let less = below_few n acts once in omega (arith, below_more n acts, once n)

later_times : (a b : ℕ) (acts : List ℕ) → times a acts ≤ times a (b ∷ acts)
later_times a b acts = omega arith

below_all : (n : ℕ) (acts : List ℕ) → ((a : ℕ) → 0 < times a acts → a < n) → below n acts ≡ length acts
below_all n [] within = refl
below_all n (a ∷ acts) within =
    let first : a < n = within a (omega (arith, first_times a acts)) in
    rw (lt-ltb a n first)
    (let later = below_all n acts (λ b some. within b (omega (arith, some, later_times b a acts))) in omega arith)

-- a list in which nobody stands twice is no longer than there are numbers for those in it
pub few : (n : ℕ) (acts : List ℕ) → ((a : ℕ) → times a acts ≤ 1) → ((a : ℕ) → 0 < times a acts → a < n) → length acts ≤ n
few n acts once within = omega (arith, below_few n acts once, below_all n acts within)
