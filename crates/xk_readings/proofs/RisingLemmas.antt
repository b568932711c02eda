-- Lists of numbers in rising order.
use Rattle.std.proofs.Common.{◌≡◌, ◌∙◌, ℕ, ℤ, zero, suc, ◌+◌, ◌-◌, ◌<◌, ◌≤◌, ◌⊎◌, inl, inr, List, [], ◌∷◌, ◌++◌}
use Rattle.std.proofs.Common.{length, get_or, map, Some, refl, sym, ap, subst, arith, slice_get}
use Rattle.std.specs.Prelude.{◌<ℤ◌, ◌≤ℤ◌}
use Rattle.std.specs.Int.Signed.{<ℤ_irrefl}
use Rattle.std.proofs.lemmas.Bool.{cases_lt}
use Rattle.std.proofs.lemmas.Option.{same_Some, slice_get_within}
use Rattle.std.specs.Ordering.{int_cmp}
use Rattle.std.specs.List.Sorted.{IsSortedByKey}
use Rattle.std.proofs.lemmas.Int.{by_lt_z, ints}
use Rattle.std.specs.Fn.{Called, ComputesKey}
use Rattle.std.proofs.lemmas.Fn.{always_returns_same}
use denote.Ref.{Bor}
use denote.Param.Members.{Mut}
use Rattle.xk_readings.specs.declared.branches.Branch.{Branch}
use Rattle.xk_readings.specs.declared.listing.Reading.{Reading}
use Rattle.xk_readings.specs.Branches.{AreRisingBranches}
use Rattle.xk_readings.specs.Rising.{AreBefore, AreRising, ComesBefore, PartsBelow}
use Rattle.std.proofs.lemmas.List.{length-map}
use Rattle.xk_readings.specs.Sets.{AreDifferent, Has}
use Rattle.xk_readings.proofs.ListLemmas.{place, read}
use Rattle.xk_readings.proofs.SetLemmas.{no_more_than}

-- ---- lists of numbers

-- what goes on behind two that part parts so, too
pub parts_longer : (p q a b : List ℤ) → PartsBelow p q → PartsBelow (p ++ a) (q ++ b)
parts_longer [] q a b h = absurd h
parts_longer (x ∷ p) [] a b h = absurd h
parts_longer (x ∷ p) (y ∷ q) a b (inl less) = inl less
parts_longer (x ∷ p) (y ∷ q) a b (inr (same, rest)) = inr (same, parts_longer p q a b rest)

-- with a lesser number and with a greater one behind the same, they part
pub parts_last : (p : List ℤ) (x y : ℤ) → x <ℤ y → PartsBelow (p ++ x ∷ []) (p ++ y ∷ [])
parts_last [] x y less = inl less
parts_last (z ∷ p) x y less = inr (refl, parts_last p x y less)

-- where they part, the one comes before the other
pub parts_before : (p q : List ℤ) → PartsBelow p q → ComesBefore p q
parts_before [] q h = absurd h
parts_before (x ∷ p) [] h = absurd h
parts_before (x ∷ p) (y ∷ q) (inl less) = inl less
parts_before (x ∷ p) (y ∷ q) (inr (same, rest)) = inr (same, parts_before p q rest)

-- what comes before a list comes before whatever goes on behind it
pub before_longer : (p q b : List ℤ) → ComesBefore p q → ComesBefore p (q ++ b)
before_longer p [] b h = absurd h
before_longer [] (y ∷ q) b h = tt
before_longer (x ∷ p) (y ∷ q) b (inl less) = inl less
before_longer (x ∷ p) (y ∷ q) b (inr (same, rest)) = inr (same, before_longer p q b rest)

-- a list comes before those that go on behind it
pub before_more : (p : List ℤ) (x : ℤ) (b : List ℤ) → ComesBefore p (p ++ x ∷ b)
before_more [] x b = tt
before_more (z ∷ p) x b = inr (refl, before_more p x b)

-- none comes before itself
not_before_itself : (p : List ℤ) → ComesBefore p p → ⊥
not_before_itself [] h = h
not_before_itself (x ∷ p) (inl less) = <ℤ_irrefl less
not_before_itself (x ∷ p) (inr (same, rest)) = not_before_itself p rest

-- ---- what is listed

-- the lists of numbers
abbrev pub numbers_in : List Reading → List (List ℤ)
numbers_in list = map (λ (r : Reading). r.numbers.items) list

reading_of : (list : List Reading) (numbers : List ℤ) → Has (numbers_in list) numbers
    → (i : ℕ) × (r : Reading) × (slice_get list i ≡ Some r) × (r.numbers.items ≡ numbers)
reading_of [] numbers h = absurd h
reading_of (r ∷ list) numbers (inl same) = (0, r, refl, sym same)
reading_of (r ∷ list) numbers (inr later) = (let rest = reading_of list numbers later in (suc rest.0, rest.1, rest.2, rest.3))

rising_different : (list : List Reading) → AreRising list → AreDifferent (numbers_in list)
rising_different [] rising = tt
rising_different (r ∷ list) rising = (
  λ h. (let is = reading_of list r.numbers.items h in not_before_itself r.numbers.items
      (subst (ComesBefore r.numbers.items) is.3 (rising 0 (suc is.0) r is.1 (omega arith) refl is.2))),
  rising_different list (λ i j a b less x y. rising (suc i) (suc j) a b (omega (arith, less)) x y),
)

-- they are no more than lists among which each of them is
pub rising_most : (list : List Reading) (lists : List (List ℤ)) → AreRising list
    → ((i : ℕ) (r : Reading) → slice_get list i ≡ Some r → Has lists r.numbers.items)
    → length list ≤ length lists
rising_most list lists rising there =
    let most = no_more_than (numbers_in list) lists (rising_different list rising)
    (λ numbers h. (let is = reading_of list numbers h in subst (Has lists) is.3 (there is.0 is.1 is.2))) in
    let count = length-map list (λ (r : Reading). r.numbers.items) in
    omega (arith, most, count)

-- one more behind all of them
pub rising_more : (list more : List Reading) (r : Reading) → more ≡ list ++ r ∷ [] → AreRising list → AreBefore list r.numbers.items
    → AreRising more
rising_more list more r one rising before i j a b less at_i at_j = by (at i a at_i) (at j b at_j)
  where
    at : (k : ℕ) (c : Reading) → slice_get more k ≡ Some c → (slice_get list k ≡ Some c) ⊎ ((k ≡ length list) × (r ≡ c))
    at k c there = place list r k c (ap (λ (l : List Reading). slice_get l k) (sym one) ∙ there)

    by : (slice_get list i ≡ Some a) ⊎ ((i ≡ length list) × (r ≡ a)) → (slice_get list j ≡ Some b) ⊎ ((j ≡ length list) × (r ≡ b))
        → ComesBefore a.numbers.items b.numbers.items
    by (inl x) (inl y) = rising i j a b less x y
    by (inl x) (inr y) = subst (λ (c : Reading). ComesBefore a.numbers.items c.numbers.items) y.1 (before i a x)
    by (inr x) (inl y) =
        let inside = slice_get_within list j b y in
        let end = x.0 in
        absurd (omega (arith, inside, end, less))
    by (inr x) (inr y) = (let one = x.0 in let two = y.0 in absurd (omega (arith, one, two, less)))

-- one more comes before these numbers
pub before_one_more : (list more : List Reading) (r : Reading) (numbers : List ℤ) → more ≡ list ++ r ∷ [] → AreBefore list numbers
    → ComesBefore r.numbers.items numbers
    → AreBefore more numbers
before_one_more list more r numbers one before last i a there = by
    (place list r i a (ap (λ (l : List Reading). slice_get l i) (sym one) ∙ there))
  where
    by : (slice_get list i ≡ Some a) ⊎ ((i ≡ length list) × (r ≡ a)) → ComesBefore a.numbers.items numbers
    by (inl x) = before i a x
    by (inr x) = subst (λ (c : Reading). ComesBefore c.numbers.items numbers) x.1 last

-- ---- branches

most_itself : (x : ℤ) → x ≤ℤ x
most_itself x = omega (arith, ints)

most_chain : (x y z : ℤ) → x ≤ℤ y → y ≤ℤ z → x ≤ℤ z
most_chain x y z a b = omega (arith, ints, a, b)

pub most_less : (x y z : ℤ) → x ≤ℤ y → y <ℤ z → x <ℤ z
most_less x y z a b = omega (arith, ints, a, b)

-- what is no greater, and another number, is less
pub not_equal_less : (x y : ℤ) → x ≤ℤ y → (x ≡ y → ⊥) → x <ℤ y
not_equal_less x y most other = by_lt_z x y (λ less. less) (λ least. absurd (other (omega (arith, ints, most, least))))

module _ (branches : List Branch) (d : Branch) (sorted : IsSortedByKey (λ (b : Branch). b.number) int_cmp branches) where
  next_most : (k : ℕ) → k + 1 < length branches → (get_or branches k d).number ≤ℤ (get_or branches (k + 1) d).number
  next_most k inside =
      let first : 0 ≤ k = omega arith in
      let h = sorted k d first inside in
      grind (arith, ints)

  later_most : (n i : ℕ) → i + n < length branches → (get_or branches i d).number ≤ℤ (get_or branches (i + n) d).number
  later_most zero i inside =
      let same : i + 0 ≡ i = omega arith in
      subst (λ k. (get_or branches i d).number ≤ℤ (get_or branches k d).number) (sym same) (most_itself (get_or branches i d).number)
  later_most (suc n) i inside =
      let most = later_most n i (omega (arith, inside)) in
      let next = next_most (i + n) (omega (arith, inside)) in
      let same : i + suc n ≡ i + n + 1 = omega arith in
      subst (λ k. (get_or branches i d).number ≤ℤ (get_or branches k d).number) (sym same)
      (most_chain (get_or branches i d).number (get_or branches (i + n) d).number (get_or branches (i + n + 1) d).number most next)

  -- those that are sorted rise
  rising_sorted : AreRisingBranches branches
  rising_sorted i j b c less at_i at_j =
      let inside = slice_get_within branches j c at_j in
      let same : i + (j - i) ≡ j = omega (arith, less) in
      let most = later_most (j - i) i (omega (arith, inside, same)) in
      let one = same_Some (get_or branches i d) b (sym (read branches i d (omega (arith, inside, less))) ∙ at_i) in
      let two = same_Some (get_or branches j d) c (sym (read branches j d inside) ∙ at_j) in
      subst (λ (z : Branch). z.number ≤ℤ c.number) one
      (subst (λ (z : Branch). (get_or branches i d).number ≤ℤ z.number) two
      (subst (λ k. (get_or branches i d).number ≤ℤ (get_or branches k d).number) same most))

-- so do those that were sorted by what they print
pub rising_by_key : {F : Type 0} {g : Mut F (Bor Branch × Unit {0}) ℤ} {f : F} (branches : List Branch) (d : Branch)
    → ((key : Branch → ℤ) → ComputesKey g key f → IsSortedByKey key int_cmp branches)
    → ((a : Bor Branch × Unit {0}) (r : ℤ) (f' : F) → Called g f a r f' → (r ≡ a.0.now.number) × (f' ≡ f)) → AreRisingBranches branches
rising_by_key {g = g} {f = f} branches d sorted calls =
    rising_sorted branches d (sorted (λ (b : Branch). b.number) (always_returns_same g (λ a r. r ≡ a.0.now.number) f calls))
