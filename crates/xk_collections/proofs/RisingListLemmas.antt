-- Lists that rise, and who is in them.
use Rattle.std.proofs.Common.{◌≡◌, ◌∙◌, ℕ, zero, suc, ◌+◌, ◌<◌, ◌≤◌, Bool, true, false, cond, nat_lt, nat_le, List, [], ◌∷◌, ◌++◌, length, get_or, take, drop, insert, remove, filter, Some, slice_get, Ok, Err, ◌⊎◌, inl, inr, refl, sym, ap, subst, arith, add-one}
use Rattle.std.specs.List.Sorted.{IsBinarySearchResult, IsNonDecreasing, IsPartitionPoint}
use Rattle.std.specs.Ordering.{nat_cmp}
use Rattle.std.proofs.lemmas.Bool.{cases_eq, lt-ltb, le-ltb, ltb-true}
use Rattle.std.proofs.lemmas.Option.{none-some, same_Some, slice_get-get_or}
use Rattle.std.proofs.lemmas.List.{take-append-drop, length-take, append-nil}
use Rattle.std.proofs.lemmas.List.Elements.{filter-append}
use Rattle.std.proofs.lemmas.List.Sorted.{IsNonDecreasingBy-from_default, searched}
use Rattle.xk_collections.specs.NumberSets.{IsRising, numbers_from, with_member, place_above}

-- ---- rising lists

-- what follows the first rises
rises_on : (x : ℕ) (xs : List ℕ) → IsRising (x ∷ xs) → IsRising xs
rises_on x xs up i = up (suc i)

-- the first is below all others
first_below : (x : ℕ) (xs : List ℕ) → IsRising (x ∷ xs) → (k y : ℕ) → slice_get xs k ≡ Some y → x < y
first_below x [] up k y e = absurd (none-some y e)
first_below x (z ∷ xs) up zero y e = up 0 x y refl e
first_below x (z ∷ xs) up (suc k) y e =
    let a : x < z = up 0 x z refl refl in
    let b : z < y = first_below z xs (rises_on x (z ∷ xs) up) k y e in
    omega arith

-- who is below all others goes before them
rises_from : (x : ℕ) (xs : List ℕ) → ((k y : ℕ) → slice_get xs k ≡ Some y → x < y) → IsRising xs → IsRising (x ∷ xs)
rises_from x xs above up zero u v e f =
    let s : x ≡ u = same_Some x u e in
    let b : x < v = above 0 v f in
    omega arith
rises_from x xs above up (suc i) u v e f = up i u v e f

-- of two places in a rising list the later has the greater number
pub rising_far : (xs : List ℕ) → IsRising xs → (i j : ℕ) → i < j → j < length xs → get_or xs i 0 < get_or xs j 0
rising_far [] up i j lt inside = absurd (omega arith)
rising_far (x ∷ xs) up i zero lt inside = absurd (omega arith)
rising_far (x ∷ xs) up zero (suc j) lt inside = first_below x xs up j (get_or xs j 0) (slice_get-get_or xs j 0 (omega arith))
rising_far (x ∷ xs) up (suc i) (suc j) lt inside = rising_far xs (rises_on x xs up) i j (omega arith) (omega arith)

-- and no later place has the lesser number
pub rising_up : (xs : List ℕ) → IsRising xs → (i j : ℕ) → i ≤ j → j < length xs → get_or xs i 0 ≤ get_or xs j 0
rising_up xs up i j le inside = of (cases_eq i j)
  where
    of : (i ≡ j) ⊎ (i ≡ j → ⊥) → get_or xs i 0 ≤ get_or xs j 0
    of (inl e) = rw e (omega arith)
    of (inr ne) = let h : i < j = omega arith in let g : get_or xs i 0 < get_or xs j 0 = rising_far xs up i j h inside in omega arith

pub rising_non_decreasing : (xs : List ℕ) → IsRising xs → IsNonDecreasing xs
rising_non_decreasing xs up = IsNonDecreasingBy-from_default (λ x. x) xs 0 (rising_up xs up)

-- ---- what a test leaves of a list

filter_none : (p : ℕ → Bool) (xs : List ℕ) → ((k y : ℕ) → slice_get xs k ≡ Some y → p y ≡ false) → filter p xs ≡ []
filter_none p [] failed = refl
filter_none p (x ∷ xs) failed = rw (failed 0 x refl) (filter_none p xs (λ k. failed (suc k)))

filter_all : (p : ℕ → Bool) (xs : List ℕ) → ((k y : ℕ) → slice_get xs k ≡ Some y → p y ≡ true) → filter p xs ≡ xs
filter_all p [] passed = refl
filter_all p (x ∷ xs) passed = rw (passed 0 x refl) (ap (λ l. x ∷ l) (filter_all p xs (λ k. passed (suc k))))

-- a test that passes what stands before a place, and nothing from there on
pub filter_front : (p : ℕ → Bool) (xs : List ℕ) (i : ℕ) → ((k : ℕ) → k < i → k < length xs → p (get_or xs k 0) ≡ true)
    → ((k : ℕ) → i ≤ k → k < length xs → p (get_or xs k 0) ≡ false) → filter p xs ≡ take i xs
filter_front p [] zero passed failed = refl
filter_front p [] (suc i) passed failed = refl
filter_front p (x ∷ xs) zero passed failed =
    rw (failed 0 (omega arith) (omega arith)) (filter_front p xs zero (λ k lt. absurd (omega arith)) (λ k le lt. failed (suc k) (omega arith) (omega arith)))
filter_front p (x ∷ xs) (suc i) passed failed =
    rw (passed 0 (omega arith) (omega arith))
    (ap (λ l. x ∷ l) (filter_front p xs i (λ k a b. passed (suc k) (omega arith) (omega arith)) (λ k a b. failed (suc k) (omega arith) (omega arith))))

-- one that passes nothing before a place, and all from there on
filter_back : (p : ℕ → Bool) (xs : List ℕ) (i : ℕ) → ((k : ℕ) → k < i → k < length xs → p (get_or xs k 0) ≡ false)
    → ((k : ℕ) → i ≤ k → k < length xs → p (get_or xs k 0) ≡ true) → filter p xs ≡ drop i xs
filter_back p [] zero failed passed = refl
filter_back p [] (suc i) failed passed = refl
filter_back p (x ∷ xs) zero failed passed =
    rw (passed 0 (omega arith) (omega arith)) (ap (λ l. x ∷ l) (filter_back p xs zero (λ k lt. absurd (omega arith)) (λ k le lt. passed (suc k) (omega arith) (omega arith))))
filter_back p (x ∷ xs) (suc i) failed passed =
    rw (failed 0 (omega arith) (omega arith)) (filter_back p xs i (λ k a b. failed (suc k) (omega arith) (omega arith)) (λ k a b. passed (suc k) (omega arith) (omega arith)))

-- ---- one number in a rising list, or not

-- a number that would stand at a place: all before it are less, and all from there on greater
pub record IsPlaceOf (b : ℕ) (xs : List ℕ) (i : ℕ) : Type 0 where
  pub within : i ≤ length xs
  pub before : (k : ℕ) → k < i → get_or xs k 0 < b
  pub behind : (k : ℕ) → i ≤ k → k < length xs → b < get_or xs k 0

less_at_place : (b : ℕ) (xs : List ℕ) (i : ℕ) → IsPlaceOf b xs i → filter (λ x. nat_lt x b) xs ≡ take i xs
less_at_place b xs i h =
    filter_front (λ x. nat_lt x b) xs i
    (λ k lt inside. lt-ltb (get_or xs k 0) b (h.before k lt))
    (λ k le inside. let g : b < get_or xs k 0 = h.behind k le inside in le-ltb (get_or xs k 0) b (omega arith))

more_at_place : (b : ℕ) (xs : List ℕ) (i : ℕ) → IsPlaceOf b xs i → filter (λ x. nat_lt b x) xs ≡ drop i xs
more_at_place b xs i h =
    filter_back (λ x. nat_lt b x) xs i
    (λ k lt inside. let g : get_or xs k 0 < b = h.before k lt in le-ltb b (get_or xs k 0) (omega arith))
    (λ k le inside. lt-ltb b (get_or xs k 0) (h.behind k le inside))

-- who isn't there is put in
member_put_in : (b : ℕ) (xs : List ℕ) (i : ℕ) → IsPlaceOf b xs i → insert xs i b ≡ with_member b true xs
member_put_in b xs i h = rw (less_at_place b xs i h, more_at_place b xs i h) refl

-- or stays out
member_stays_out : (b : ℕ) (xs : List ℕ) (i : ℕ) → IsPlaceOf b xs i → xs ≡ with_member b false xs
member_stays_out b xs i h = rw (less_at_place b xs i h, more_at_place b xs i h) (sym (take-append-drop i xs))

less_at : (b : ℕ) (xs : List ℕ) (i : ℕ) → IsRising xs → i < length xs → get_or xs i 0 ≡ b → filter (λ x. nat_lt x b) xs ≡ take i xs
less_at b xs i up inside is =
    filter_front (λ x. nat_lt x b) xs i
    (λ k lt k_inside. let g : get_or xs k 0 < get_or xs i 0 = rising_far xs up k i lt inside in lt-ltb (get_or xs k 0) b (omega arith))
    (λ k le k_inside. let g : get_or xs i 0 ≤ get_or xs k 0 = rising_up xs up i k le k_inside in le-ltb (get_or xs k 0) b (omega arith))

more_at : (b : ℕ) (xs : List ℕ) (i : ℕ) → IsRising xs → i < length xs → get_or xs i 0 ≡ b → filter (λ x. nat_lt b x) xs ≡ drop (suc i) xs
more_at b xs i up inside is =
    filter_back (λ x. nat_lt b x) xs (suc i)
    (λ k lt k_inside. let g : get_or xs k 0 ≤ get_or xs i 0 = rising_up xs up k i (omega arith) inside in le-ltb b (get_or xs k 0) (omega arith))
    (λ k le k_inside. let g : get_or xs i 0 < get_or xs k 0 = rising_far xs up i k (omega arith) k_inside in lt-ltb b (get_or xs k 0) (omega arith))

cut_at : (xs : List ℕ) (i : ℕ) → i < length xs → take i xs ++ get_or xs i 0 ∷ drop (suc i) xs ≡ xs
cut_at [] i inside = absurd (omega arith)
cut_at (x ∷ xs) zero inside = refl
cut_at (x ∷ xs) (suc i) inside = ap (λ l. x ∷ l) (cut_at xs i (omega arith))

-- who is there stays in
member_stays_in : (b : ℕ) (xs : List ℕ) (i : ℕ) → IsRising xs → i < length xs → get_or xs i 0 ≡ b → xs ≡ with_member b true xs
member_stays_in b xs i up inside is =
    rw (less_at b xs i up inside is, more_at b xs i up inside is) (sym (ap (λ c. take i xs ++ c ∷ drop (suc i) xs) (sym is) ∙ cut_at xs i inside))

-- or is taken out
member_taken_out : (b : ℕ) (xs : List ℕ) (i : ℕ) → IsRising xs → i < length xs → get_or xs i 0 ≡ b → remove xs i ≡ with_member b false xs
member_taken_out b xs i up inside is = rw (less_at b xs i up inside is, more_at b xs i up inside is) refl

-- ---- the place after a number

-- where a search for the first number above this one ends
pub place_above_is : (taken : ℕ) (xs : List ℕ) (i : ℕ) → i ≤ length xs → IsPartitionPoint (λ y. nat_le y taken ≡ true) (λ y. nat_le y taken ≡ false) xs i → i ≡ place_above taken xs
place_above_is taken xs i le h =
    let e : filter (λ a. nat_le a taken) xs ≡ take i xs = filter_front (λ a. nat_le a taken) xs i (λ k lt inside. h.0 k 0 (omega arith) lt)
    (λ k from inside. h.1 k 0 from inside) in
    rw e (sym (simp length-take (omega arith)))

-- ---- those of a row of numbers that pass a test

-- a member is the first, or one of the others
first_or_other : {P : Type 0} (p : ℕ → Bool) (a y i : ℕ) (xs : List ℕ) (t : Bool) → p a ≡ t → slice_get (cond t (a ∷ xs) xs) i ≡ Some y
    → (p a ≡ true → a ≡ y → P) → ((j : ℕ) → slice_get xs j ≡ Some y → P) → P
first_or_other p a y zero xs true is e first other = first is (same_Some a y e)
first_or_other p a y (suc i) xs true is e first other = other i e
first_or_other p a y i xs false is e first other = other i e

record IsMember (p : ℕ → Bool) (a n y : ℕ) : Type 0 where
  passes : p y ≡ true
  from : a ≤ y
  below : y < a + n

member_of : (p : ℕ → Bool) (a n i y : ℕ) → slice_get (filter p (numbers_from a n)) i ≡ Some y → IsMember p a n y
member_of p a zero i y e = absurd (none-some y e)
member_of p a (suc n) i y e =
    first_or_other p a y i (filter p (numbers_from (suc a) n)) (p a) refl e
    (λ h s. record { passes = subst (λ (z : ℕ). p z ≡ true) s h; from = omega arith; below = omega arith })
    (λ j f. let r : IsMember p (suc a) n y = member_of p (suc a) n j y f in record { passes = r.passes; from = omega arith; below = omega arith })

-- who is in the list passes the test
pub member_passes : (p : ℕ → Bool) (n i a : ℕ) → slice_get (filter p (numbers_from 0 n)) i ≡ Some a → (p a ≡ true) × (a < n)
member_passes p n i a e = let r : IsMember p 0 n a = member_of p 0 n i a e in (r.passes, omega arith)

neither : (t : Bool) (a : ℕ) (xs : List ℕ) → cond t (a ∷ xs) xs ≡ [] → (t ≡ false) × (xs ≡ [])
neither true a xs e = cc
neither false a xs e = (refl, e)

-- where nobody is in the list, nobody passes
none_from : (p : ℕ → Bool) (a n : ℕ) → filter p (numbers_from a n) ≡ [] → (b : ℕ) → a ≤ b → b < a + n → p b ≡ false
none_from p a zero e b from below = absurd (omega arith)
none_from p a (suc n) e b from below =
    let r = neither (p a) a (filter p (numbers_from (suc a) n)) e in
    of r.0 (λ lt. none_from p (suc a) n r.1 b (omega arith) (omega arith)) (cases_eq a b)
  where
    of : p a ≡ false → (a < b → p b ≡ false) → (a ≡ b) ⊎ (a ≡ b → ⊥) → p b ≡ false
    of is later (inl s) = subst (λ (z : ℕ). p z ≡ false) s is
    of is later (inr ne) = later (omega arith)

pub members_none : (p : ℕ → Bool) (n : ℕ) → filter p (numbers_from 0 n) ≡ [] → (b : ℕ) → b < n → p b ≡ false
members_none p n e b below = none_from p 0 n e b (omega arith) (omega arith)

length_cond : (t : Bool) (a n : ℕ) (xs : List ℕ) → length xs ≤ n → length (cond t (a ∷ xs) xs) ≤ suc n
length_cond true a n xs le = omega arith
length_cond false a n xs le = omega arith

few_from : (p : ℕ → Bool) (a n : ℕ) → length (filter p (numbers_from a n)) ≤ n
few_from p a zero = omega arith
few_from p a (suc n) = length_cond (p a) a n (filter p (numbers_from (suc a) n)) (few_from p (suc a) n)

pub members_few : (p : ℕ → Bool) (n : ℕ) → length (filter p (numbers_from 0 n)) ≤ n
members_few p n = few_from p 0 n

rises_cond : (t : Bool) (a : ℕ) (xs : List ℕ) → ((k y : ℕ) → slice_get xs k ≡ Some y → a < y) → IsRising xs → IsRising (cond t (a ∷ xs) xs)
rises_cond true a xs above up = rises_from a xs above up
rises_cond false a xs above up = up

members_rise : (p : ℕ → Bool) (a n : ℕ) → IsRising (filter p (numbers_from a n))
members_rise p a zero = λ i x y e f. absurd (none-some x e)
members_rise p a (suc n) =
    rises_cond (p a) a (filter p (numbers_from (suc a) n))
    (λ k y e. let r : IsMember p (suc a) n y = member_of p (suc a) n k y e in omega arith)
    (members_rise p (suc a) n)

-- the members of 0..n that pass a test rise
pub filter_rises : (p : ℕ → Bool) (n : ℕ) → IsRising (filter p (numbers_from 0 n))
filter_rises p n = members_rise p 0 n

more_from : (a n : ℕ) → numbers_from a (suc n) ≡ numbers_from a n ++ (a + n) ∷ []
more_from a zero = let e : a + 0 ≡ a = omega arith in rw e refl
more_from a (suc n) = let e : a + suc n ≡ suc a + n = omega arith in rw e (ap (λ l. a ∷ l) (more_from (suc a) n))

numbers_next : (n : ℕ) → numbers_from 0 (suc n) ≡ numbers_from 0 n ++ n ∷ []
numbers_next n = let e : 0 + n ≡ n = omega arith in more_from 0 n ∙ ap (λ k. numbers_from 0 n ++ k ∷ []) e

pub numbers_more : (n : ℕ) → numbers_from 0 (n + 1) ≡ numbers_from 0 n ++ n ∷ []
numbers_more n = rw add-one (numbers_next n)

-- ---- another test

-- two tests that agree on a row of numbers
pub same_members : (p q : ℕ → Bool) (a n : ℕ) → ((k : ℕ) → a ≤ k → k < a + n → q k ≡ p k) → filter q (numbers_from a n) ≡ filter p (numbers_from a n)
same_members p q a zero same = refl
same_members p q a (suc n) same =
    rw (same a (omega arith) (omega arith), same_members p q (suc a) n (λ k from below. same k (omega arith) (omega arith))) refl

none_less : (b : ℕ) (xs : List ℕ) → ((k y : ℕ) → slice_get xs k ≡ Some y → b < y) → filter (λ x. nat_lt x b) xs ≡ []
none_less b xs above = filter_none (λ x. nat_lt x b) xs (λ k y e. let g : b < y = above k y e in le-ltb y b (omega arith))

all_more : (b : ℕ) (xs : List ℕ) → ((k y : ℕ) → slice_get xs k ≡ Some y → b < y) → filter (λ x. nat_lt b x) xs ≡ xs
all_more b xs above = filter_all (λ x. nat_lt b x) xs (λ k y e. lt-ltb b y (above k y e))

first_not_less : (b : ℕ) (t : Bool) (xs : List ℕ) → ((k y : ℕ) → slice_get xs k ≡ Some y → b < y) → filter (λ x. nat_lt x b) (cond t (b ∷ xs) xs) ≡ []
first_not_less b false xs above = none_less b xs above
first_not_less b true xs above = rw (le-ltb b b (omega arith)) (none_less b xs above)

others_more : (b : ℕ) (t : Bool) (xs : List ℕ) → ((k y : ℕ) → slice_get xs k ≡ Some y → b < y) → filter (λ x. nat_lt b x) (cond t (b ∷ xs) xs) ≡ xs
others_more b false xs above = all_more b xs above
others_more b true xs above = rw (le-ltb b b (omega arith)) (all_more b xs above)

-- the tests differ at the first
changed_here : (b : ℕ) (s t : Bool) (xs : List ℕ) → ((k y : ℕ) → slice_get xs k ≡ Some y → b < y) → cond s (b ∷ xs) xs ≡ with_member b s (cond t (b ∷ xs) xs)
changed_here b s t xs above = rw (first_not_less b t xs above, others_more b t xs above) (of s)
  where
    of : (s : Bool) → cond s (b ∷ xs) xs ≡ cond s (b ∷ []) [] ++ xs
    of true = refl
    of false = refl

-- they agree at the first
changed_later : (a b : ℕ) (s t : Bool) (xs ys : List ℕ) → a < b → ys ≡ with_member b s xs → cond t (a ∷ ys) ys ≡ with_member b s (cond t (a ∷ xs) xs)
changed_later a b s false xs ys lt is = is
changed_later a b s true xs ys lt is = rw (lt-ltb a b lt, le-ltb b a (omega arith)) (ap (λ l. a ∷ l) is)

changed_from : (p q : ℕ → Bool) (a n b : ℕ) → a ≤ b → b < a + n → ((k : ℕ) → a ≤ k → k < a + n → (k ≡ b → ⊥) → q k ≡ p k)
    → filter q (numbers_from a n) ≡ with_member b (q b) (filter p (numbers_from a n))
changed_from p q a zero b from below same = absurd (omega arith)
changed_from p q a (suc n) b from below same =
    of (λ lt. changed_from p q (suc a) n b (omega arith) (omega arith) (λ k le k_below ne. same k (omega arith) (omega arith) ne)) (cases_eq a b)
  where
    of : (a < b → filter q (numbers_from (suc a) n) ≡ with_member b (q b) (filter p (numbers_from (suc a) n))) → (a ≡ b) ⊎ (a ≡ b → ⊥)
        → filter q (numbers_from a (suc n)) ≡ with_member b (q b) (filter p (numbers_from a (suc n)))
    of later (inl s) =
        let others : filter q (numbers_from (suc a) n) ≡ filter p (numbers_from (suc a) n) = same_members p q (suc a) n
        (λ k le k_below. same k (omega arith) (omega arith) (λ e. omega arith)) in
        rw others (subst (λ (c : ℕ). cond (q a) (a ∷ filter p (numbers_from (suc a) n)) (filter p (numbers_from (suc a) n)) ≡ with_member c (q c)
        (filter p (numbers_from a (suc n)))) s
        (changed_here a (q a) (p a) (filter p (numbers_from (suc a) n)) (λ k y e. let r : IsMember p (suc a) n y = member_of p (suc a) n k y e in omega arith)))
    of later (inr ne) =
        rw (same a (omega arith) (omega arith) ne)
        (changed_later a b (q b) (p a) (filter p (numbers_from (suc a) n)) (filter q (numbers_from (suc a) n)) (omega arith) (later (omega arith)))

-- a test that differs at b alone
pub member_changed : (p q : ℕ → Bool) (n b : ℕ) → b < n → ((k : ℕ) → k < n → (k ≡ b → ⊥) → q k ≡ p k)
    → filter q (numbers_from 0 n) ≡ with_member b (q b) (filter p (numbers_from 0 n))
member_changed p q n b below same = changed_from p q 0 n b (omega arith) (omega arith) (λ k from lt. same k (omega arith))

-- a number above all others
pub added_last : (b : ℕ) (s : Bool) (xs : List ℕ) → ((k y : ℕ) → slice_get xs k ≡ Some y → y < b) → xs ++ cond s (b ∷ []) [] ≡ with_member b s xs
added_last b s xs less =
    rw (
      filter_all (λ x. nat_lt x b) xs (λ k y e. lt-ltb y b (less k y e)),
      filter_none (λ x. nat_lt b x) xs (λ k y e. let g : y < b = less k y e in le-ltb b y (omega arith)),
      append-nil,
    ) refl

-- a test of one number more
pub member_added : (p q : ℕ → Bool) (n : ℕ) → ((k : ℕ) → k < n → q k ≡ p k) → filter q (numbers_from 0 (suc n)) ≡ with_member n (q n) (filter p (numbers_from 0 n))
member_added p q n same =
    ap (filter q) (numbers_next n)
    ∙ filter-append q (numbers_from 0 n) (n ∷ [])
    ∙ ap (λ l. l ++ cond (q n) (n ∷ []) []) (same_members p q 0 n (λ k from below. same k (omega arith)))
    ∙ added_last n (q n) (filter p (numbers_from 0 n)) (λ k y e. let r : IsMember p 0 n y = member_of p 0 n k y e in omega arith)

-- ---- where a search ends

found_at : (b : ℕ) (xs : List ℕ) (i : ℕ) → IsRising xs → IsBinarySearchResult (λ y. nat_cmp y b) xs (Ok i) → (i < length xs) × (get_or xs i 0 ≡ b)
found_at b xs i up h = searched xs b (Ok i) h (rising_up xs up)

place_found : (b : ℕ) (xs : List ℕ) (i : ℕ) → IsRising xs → IsBinarySearchResult (λ y. nat_cmp y b) xs (Err i) → IsPlaceOf b xs i
place_found b xs i up h =
    let s = searched xs b (Err i) h (rising_up xs up) in
    record { within = s.0; before = s.1; behind = s.2 }

-- a number that a search finds, and one that it doesn't find
pub found_taken_out : (b : ℕ) (s : Bool) (xs : List ℕ) (i : ℕ) → s ≡ false → IsRising xs → IsBinarySearchResult (λ y. nat_cmp y b) xs (Ok i) → remove xs i ≡ with_member b s xs
found_taken_out b s xs i out up h = let f = found_at b xs i up h in rw out (member_taken_out b xs i up f.0 f.1)

pub found_stays_in : (b : ℕ) (s : Bool) (xs : List ℕ) (i : ℕ) → s ≡ true → IsRising xs → IsBinarySearchResult (λ y. nat_cmp y b) xs (Ok i) → xs ≡ with_member b s xs
found_stays_in b s xs i is_in up h = let f = found_at b xs i up h in rw is_in (member_stays_in b xs i up f.0 f.1)

pub missing_put_in : (b : ℕ) (s : Bool) (xs : List ℕ) (i : ℕ) → s ≡ true → IsRising xs → IsBinarySearchResult (λ y. nat_cmp y b) xs (Err i) → insert xs i b ≡ with_member b s xs
missing_put_in b s xs i is_in up h = rw is_in (member_put_in b xs i (place_found b xs i up h))

pub missing_stays_out : (b : ℕ) (s : Bool) (xs : List ℕ) (i : ℕ) → s ≡ false → IsRising xs → IsBinarySearchResult (λ y. nat_cmp y b) xs (Err i) → xs ≡ with_member b s xs
missing_stays_out b s xs i out up h = rw out (member_stays_out b xs i (place_found b xs i up h))

-- ---- such a list rises

kept_passes : (p : ℕ → Bool) (xs : List ℕ) (i y : ℕ) → slice_get (filter p xs) i ≡ Some y → p y ≡ true
kept_passes p [] i y e = absurd (none-some y e)
kept_passes p (x ∷ xs) i y e =
    first_or_other p x y i (filter p xs) (p x) refl e (λ is s. subst (λ (z : ℕ). p z ≡ true) s is) (λ j f. kept_passes p xs j y f)

kept_above : (p : ℕ → Bool) (x : ℕ) (xs : List ℕ) → ((k y : ℕ) → slice_get xs k ≡ Some y → x < y) → (i y : ℕ) → slice_get (filter p xs) i ≡ Some y → x < y
kept_above p x [] above i y e = absurd (none-some y e)
kept_above p x (z ∷ xs) above i y e =
    first_or_other p z y i (filter p xs) (p z) refl e
    (λ is s. let lt : x < z = above 0 z refl in omega arith)
    (λ j f. kept_above p x xs (λ k. above (suc k)) j y f)

kept_rises : (p : ℕ → Bool) (xs : List ℕ) → IsRising xs → IsRising (filter p xs)
kept_rises p [] up = up
kept_rises p (x ∷ xs) up = rises_cond (p x) x (filter p xs) (kept_above p x xs (first_below x xs up)) (kept_rises p xs (rises_on x xs up))

joined_above : (x : ℕ) (xs ys : List ℕ) → ((k y : ℕ) → slice_get xs k ≡ Some y → x < y) → ((k y : ℕ) → slice_get ys k ≡ Some y → x < y) → (k y : ℕ)
    → slice_get (xs ++ ys) k ≡ Some y → x < y
joined_above x [] ys first other k y e = other k y e
joined_above x (z ∷ xs) ys first other zero y e = first 0 y e
joined_above x (z ∷ xs) ys first other (suc k) y e = joined_above x xs ys (λ j. first (suc j)) other k y e

-- one list before another, with a number between them
joined_rises : (b : ℕ) (xs ys : List ℕ) → ((k y : ℕ) → slice_get xs k ≡ Some y → y < b) → IsRising xs → ((k y : ℕ) → slice_get ys k ≡ Some y → b ≤ y)
    → IsRising ys → IsRising (xs ++ ys)
joined_rises b [] ys less up from ys_up = ys_up
joined_rises b (x ∷ xs) ys less up from ys_up =
    rises_from x (xs ++ ys)
    (joined_above x xs ys (first_below x xs up) (λ k y e. let l : x < b = less 0 x refl in let g : b ≤ y = from k y e in omega arith))
    (joined_rises b xs ys (λ k. less (suc k)) (rises_on x xs up) from ys_up)

-- what stands from a number on
from_number : (b : ℕ) (s : Bool) (xs : List ℕ) → ((k y : ℕ) → slice_get xs k ≡ Some y → b < y) → (k y : ℕ) → slice_get (cond s (b ∷ []) [] ++ xs) k ≡ Some y → b ≤ y
from_number b true xs above zero y e = let s : b ≡ y = same_Some b y e in omega arith
from_number b true xs above (suc k) y e = let g : b < y = above k y e in omega arith
from_number b false xs above k y e = let g : b < y = above k y e in omega arith

number_rises : (b : ℕ) (s : Bool) (xs : List ℕ) → ((k y : ℕ) → slice_get xs k ≡ Some y → b < y) → IsRising xs → IsRising (cond s (b ∷ []) [] ++ xs)
number_rises b true xs above up = rises_from b xs above up
number_rises b false xs above up = up

pub with_member_rises : (b : ℕ) (s : Bool) (xs : List ℕ) → IsRising xs → IsRising (with_member b s xs)
with_member_rises b s xs up =
    let more : List ℕ = filter (λ x. nat_lt b x) xs in
    let above : (k y : ℕ) → slice_get more k ≡ Some y → b < y = λ k y e. ltb-true b y (kept_passes (λ x. nat_lt b x) xs k y e) in
    joined_rises b (filter (λ x. nat_lt x b) xs) (cond s (b ∷ []) [] ++ more)
    (λ k y e. ltb-true y b (kept_passes (λ x. nat_lt x b) xs k y e))
    (kept_rises (λ x. nat_lt x b) xs up)
    (from_number b s more above)
    (number_rises b s more above (kept_rises (λ x. nat_lt b x) xs up))
