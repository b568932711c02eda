-- To look at some earlier accesses, in their order, tells what to look at all does, if each race that isn't told yet has its access among them.
use Rattle.std.proofs.Common.{◌≡◌, ◌∙◌, ℕ, zero, suc, ◌+◌, ◌-◌, ◌<◌, ◌≤◌, Bool, true, false, ◌||◌, List, [], ◌∷◌, ◌++◌, length, get_or, Some, None, slice_get, ◌⊎◌, inl, inr, refl, sym, ap, subst, arith}
use Rattle.std.specs.Prelude.{if◌then◌else◌, nat_eq}
use Rattle.std.specs.Option.{option_to_list}
use Rattle.std.specs.List.{list_any}
use Rattle.std.specs.List.Sorted.{IsNonDecreasing}
use Rattle.std.proofs.lemmas.Bool.{cases_order, eqb-true, or_cases, false≢true, true≢false, or_left, or_right}
use Rattle.std.proofs.lemmas.List.Folds.{list_any-append}
use Rattle.std.proofs.lemmas.Option.{same_Some}
use Rattle.xk_races.specs.declared.pairs.Race.{Race}
use Rattle.xk_races.specs.Knowledge.{Sight}
use Rattle.xk_races.specs.Races.{have_same_places, is_race, race, with_race, with_races_of}
use Rattle.xk_races.specs.Accesses.{sights_at}
use Rattle.xk_races.proofs.RaceListLemmas.{same_places}

-- ---- one race, told once

abbrev looked_at : Sight → Sight → List Race → List Race
looked_at y x list = if is_race x y then with_race (race x y) list else list

with_told : (r : Race) (list : List Race) → list_any (have_same_places r) (with_race r list) ≡ true
with_told r list = of (list_any (have_same_places r) list) refl
  where
    of : (b : Bool) → list_any (have_same_places r) list ≡ b → list_any (have_same_places r) (if b then list else list ++ r ∷ []) ≡ true
    of true e = e
    of false e =
        list_any-append (have_same_places r) list (r ∷ [])
        ∙ or_right (list_any (have_same_places r) list) (have_same_places r r || false) (or_left (have_same_places r r) false (same_places r))

with_grows : (q r : Race) (list : List Race) → list_any (have_same_places q) list ≡ true → list_any (have_same_places q) (with_race r list) ≡ true
with_grows q r list h = of (list_any (have_same_places r) list)
  where
    of : (b : Bool) → list_any (have_same_places q) (if b then list else list ++ r ∷ []) ≡ true
    of true = h
    of false =
        list_any-append (have_same_places q) list (r ∷ []) ∙ or_left (list_any (have_same_places q) list) (have_same_places q r || false) h

with_again : (r : Race) (list : List Race) → with_race r (with_race r list) ≡ with_race r list
with_again r list = ap (λ b. if b then with_race r list else with_race r list ++ r ∷ []) (with_told r list)

looked_again : (y x : Sight) (list : List Race) → looked_at y x (looked_at y x list) ≡ looked_at y x list
looked_again y x list = of (is_race x y)
  where
    of : (b : Bool) → (if b then with_race (race x y) (if b then with_race (race x y) list else list) else (if b then with_race (race x y) list else list))
        ≡ (if b then with_race (race x y) list else list)
    of true = with_again (race x y) list
    of false = refl

looked_told : (y x : Sight) (list : List Race) → is_race x y ≡ true → list_any (have_same_places (race x y)) (looked_at y x list) ≡ true
looked_told y x list is =
    ap (λ b. list_any (have_same_places (race x y)) (if b then with_race (race x y) list else list)) is ∙ with_told (race x y) list

-- what isn't told behind it wasn't told before
not_told : (q : Race) (y x : Sight) (list : List Race) → list_any (have_same_places q) (looked_at y x list) ≡ false
    → list_any (have_same_places q) list ≡ false
not_told q y x list h = of (list_any (have_same_places q) list) refl
  where
    grown : (b : Bool) → list_any (have_same_places q) list ≡ true → list_any (have_same_places q) (if b then with_race (race x y) list else list) ≡ true
    grown true e = with_grows q (race x y) list e
    grown false e = e

    of : (b : Bool) → list_any (have_same_places q) list ≡ b → b ≡ false
    of false e = refl
    of true e = absurd (true≢false (sym (grown (is_race x y) e) ∙ h))

-- ---- places that rise

-- these rise, from k on
abbrev Rise : ℕ → List ℕ → Type 0
Rise k [] = Unit {0}
Rise k (p ∷ ps) = (k ≤ p) × Rise p ps

rise : (k : ℕ) (ps : List ℕ) → ((j d : ℕ) → j < length ps → k ≤ get_or ps j d) → IsNonDecreasing ps → Rise k ps
rise k [] low up = tt
rise k (p ∷ ps) low up = (
  low 0 0 (omega arith),
  rise p ps (λ j d lt. up 0 (suc j) d (omega arith) (omega (arith, lt)))
      (λ i j d le lt. up (suc i) (suc j) d (omega (arith, le)) (omega (arith, lt))),
)

-- a smaller one isn't among them
not_among : (k m : ℕ) (ps : List ℕ) → k < m → Rise m ps → list_any (nat_eq k) ps ≡ true → ⊥
not_among k m [] lt up h = false≢true h
not_among k m (p ∷ ps) lt up h = of (not_among k p ps (omega (arith, lt, up.0)) up.1) (or_cases (nat_eq k p) (list_any (nat_eq k) ps) h)
  where
    of : (list_any (nat_eq k) ps ≡ true → ⊥) → (nat_eq k p ≡ true) ⊎ (list_any (nat_eq k) ps ≡ true) → ⊥
    of rest (inl e) = let same = eqb-true k p e in absurd (omega (arith, same, lt, up.0))
    of rest (inr e) = rest e

-- ---- some of the earlier ones

-- these are the earlier ones from place k on
abbrev IsFrom : List Sight → ℕ → List Sight → Type 0
IsFrom earlier k xs = (i : ℕ) → slice_get earlier (k + i) ≡ slice_get xs i

-- of each race with one of these that isn't told, the place is among those
abbrev AreThere : Sight → List Sight → ℕ → List ℕ → List Race → Type 0
AreThere y xs k ps list =
    (i : ℕ) (x : Sight) → slice_get xs i ≡ Some x → is_race x y ≡ true → list_any (have_same_places (race x y)) list ≡ false
    → list_any (nat_eq (k + i)) ps ≡ true

abbrev IsSame : List Sight → Sight → List Sight → Type 0
IsSame earlier y xs =
    (ps : List ℕ) (k : ℕ) (list : List Race) → IsFrom earlier k xs → Rise k ps → AreThere y xs k ps list
    → with_races_of y xs list ≡ with_races_of y (sights_at earlier ps) list

none_past : (earlier : List Sight) (ps : List ℕ) (k : ℕ) → IsFrom earlier k [] → Rise k ps → sights_at earlier ps ≡ []
none_past earlier [] k from up = refl
none_past earlier (p ∷ ps) k from up =
    let past : k + (p - k) ≡ p = omega (arith, up.0) in
    let none : slice_get earlier p ≡ None = ap (slice_get earlier) (sym past) ∙ from (p - k) ∙ no (p - k) in
    ap (λ o. option_to_list o ++ sights_at earlier ps) none ∙ none_past earlier ps p (λ i. beyond i) up.1
  where
    no : (i : ℕ) → slice_get {X = Sight} [] i ≡ None
    no i = refl

    beyond : (i : ℕ) → slice_get earlier (p + i) ≡ slice_get [] i
    beyond i =
        let past : k + ((p - k) + i) ≡ p + i = omega (arith, up.0) in
        ap (slice_get earlier) (sym past) ∙ from ((p - k) + i) ∙ no ((p - k) + i) ∙ sym (no i)

from_next : (earlier : List Sight) (k : ℕ) (x : Sight) (xs : List Sight) → IsFrom earlier k (x ∷ xs) → IsFrom earlier (suc k) xs
from_next earlier k x xs from =
    λ i. let e : suc k + i ≡ k + suc i = omega arith in ap (slice_get earlier) e ∙ from (suc i)

there_next : (y x : Sight) (xs : List Sight) (k : ℕ) (ps : List ℕ) (list : List Race) → AreThere y (x ∷ xs) k ps list → AreThere y xs (suc k) ps list
there_next y x xs k ps list there =
    λ i z at is un. let e : k + suc i ≡ suc k + i = omega arith in subst (λ n. list_any (nat_eq n) ps ≡ true) e (there (suc i) z at is un)

-- where the first one's place isn't among those
not_added : (y x : Sight) (xs : List Sight) (k : ℕ) (ps : List ℕ) (list : List Race) → Rise (suc k) ps → AreThere y (x ∷ xs) k ps list
    → looked_at y x list ≡ list
not_added y x xs k ps list up there = of (is_race x y) refl
  where
    known : (b : Bool) → is_race x y ≡ true → list_any (have_same_places (race x y)) list ≡ b → (if b then list else list ++ race x y ∷ []) ≡ list
    known true is e = refl
    known false is e =
        let here : k + 0 ≡ k = omega arith in
        absurd (not_among k (suc k) ps (omega arith) up (subst (λ n. list_any (nat_eq n) ps ≡ true) here (there zero x refl is e)))

    of : (b : Bool) → is_race x y ≡ b → (if b then with_race (race x y) list else list) ≡ list
    of true is = known (list_any (have_same_places (race x y)) list) is refl
    of false is = refl

without : (earlier : List Sight) (y x : Sight) (xs : List Sight) → IsSame earlier y xs → (ps : List ℕ) (k : ℕ) (list : List Race)
    → IsFrom earlier k (x ∷ xs) → Rise (suc k) ps → AreThere y (x ∷ xs) k ps list
    → with_races_of y (x ∷ xs) list ≡ with_races_of y (sights_at earlier ps) list
without earlier y x xs rest ps k list from up there =
    ap (with_races_of y xs) (not_added y x xs k ps list up there)
    ∙ rest ps (suc k) list (from_next earlier k x xs from) up (there_next y x xs k ps list there)

-- behind the first one, the others are there
there_behind : (y x : Sight) (xs : List Sight) (k p : ℕ) (ps : List ℕ) (list : List Race) → p ≡ k → AreThere y (x ∷ xs) k (p ∷ ps) list
    → AreThere y (x ∷ xs) k ps (looked_at y x list)
there_behind y x xs k p ps list same there =
    λ i z at is un. of i z at is un (or_cases (nat_eq (k + i) p) (list_any (nat_eq (k + i)) ps) (there i z at is (not_told (race z y) y x list un)))
  where
    first : (i : ℕ) (z : Sight) → i ≡ 0 → slice_get (x ∷ xs) i ≡ Some z → is_race z y ≡ true
        → list_any (have_same_places (race z y)) (looked_at y x list) ≡ false → ⊥
    first i z zero_is at is un =
        let it : x ≡ z = same_Some x z (subst (λ n. slice_get (x ∷ xs) n ≡ Some z) zero_is at) in
        let own = subst (λ (s : Sight). list_any (have_same_places (race s y)) (looked_at y x list) ≡ false) (sym it) un in
        true≢false (sym (looked_told y x list (subst (λ (s : Sight). is_race s y ≡ true) (sym it) is)) ∙ own)

    of : (i : ℕ) (z : Sight) → slice_get (x ∷ xs) i ≡ Some z → is_race z y ≡ true
        → list_any (have_same_places (race z y)) (looked_at y x list) ≡ false
        → (nat_eq (k + i) p ≡ true) ⊎ (list_any (nat_eq (k + i)) ps ≡ true) → list_any (nat_eq (k + i)) ps ≡ true
    of i z at is un (inl e) =
        let here = eqb-true (k + i) p e in
        absurd (first i z (omega (arith, here, same)) at is un)
    of i z at is un (inr e) = e

step : (earlier : List Sight) (y x : Sight) (xs : List Sight) → IsSame earlier y xs → (ps : List ℕ) (k : ℕ) (list : List Race)
    → IsFrom earlier k (x ∷ xs) → Rise k ps → AreThere y (x ∷ xs) k ps list
    → with_races_of y (x ∷ xs) list ≡ with_races_of y (sights_at earlier ps) list
step earlier y x xs rest [] k list from up there = without earlier y x xs rest [] k list from tt there
step earlier y x xs rest (p ∷ ps) k list from up there = of (step earlier y x xs rest ps k (looked_at y x list) from) (cases_order k p)
  where
    of : (Rise k ps → AreThere y (x ∷ xs) k ps (looked_at y x list)
        → with_races_of y (x ∷ xs) (looked_at y x list) ≡ with_races_of y (sights_at earlier ps) (looked_at y x list))
        → (k ≡ p) ⊎ ((k < p) ⊎ (p < k)) → with_races_of y (x ∷ xs) list ≡ with_races_of y (sights_at earlier (p ∷ ps)) list
    of next (inl same) =
        let k0 : k + 0 ≡ p = omega (arith, same) in
        let here : slice_get earlier p ≡ Some x = ap (slice_get earlier) (sym k0) ∙ from 0 in
        ap (with_races_of y xs) (sym (looked_again y x list))
        ∙ next (subst (λ n. Rise n ps) (sym same) up.1) (there_behind y x xs k p ps list (sym same) there)
        ∙ ap (λ o. with_races_of y (option_to_list o ++ sights_at earlier ps) list) (sym here)
    of next (inr (inl less)) = without earlier y x xs rest (p ∷ ps) k list from (less, up.1) there
    of next (inr (inr more)) = absurd (omega (arith, more, up.0))

all_same : (earlier : List Sight) (y : Sight) (xs : List Sight) → IsSame earlier y xs
all_same earlier y [] = λ ps k list from up there. ap (λ zs. with_races_of y zs list) (sym (none_past earlier ps k from up))
all_same earlier y (x ∷ xs) = step earlier y x xs (all_same earlier y xs)

pub some_tell_all : (earlier : List Sight) (y : Sight) (ps : List ℕ) (list : List Race) → IsNonDecreasing ps
    → ((i : ℕ) (x : Sight) → slice_get earlier i ≡ Some x → is_race x y ≡ true → list_any (have_same_places (race x y)) list ≡ false
    → list_any (nat_eq i) ps ≡ true)
    → with_races_of y earlier list ≡ with_races_of y (sights_at earlier ps) list
some_tell_all earlier y ps list up there =
    all_same earlier y earlier ps 0 list (λ i. let e : 0 + i ≡ i = omega arith in ap (slice_get earlier) e) (rise 0 ps (λ j d lt. omega arith) up)
    (λ i x at is un. let e : i ≡ 0 + i = omega arith in subst (λ n. list_any (nat_eq n) ps ≡ true) e (there i x at is un))
