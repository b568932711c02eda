-- The races that are listed are those among what is seen of a run, each two places once.
use Rattle.std.proofs.Common.{◌≡◌, ◌∙◌, ℕ, zero, suc, ◌<◌, ◌≤◌, Bool, true, false, ◌&&◌, ◌||◌, List, [], ◌∷◌, ◌++◌, length, Some, slice_get, ◌⊎◌, inl, inr, refl, sym, ap, subst, arith, length-append}
use Rattle.std.specs.Prelude.{if◌then◌else◌, nat_eq}
use Rattle.std.specs.List.{list_any}
use Rattle.std.proofs.lemmas.Bool.{cases_lt, eq-eqb, false≢true}
use Rattle.std.proofs.lemmas.List.{append_assoc}
use Rattle.std.proofs.lemmas.Option.{same_Some, slice_get_within}
use Rattle.xk_types.proofs.ListLemmas.{get-append_left}
use Rattle.xk_show_events.specs.declared.steps.RunStep.{RunStep}
use Rattle.xk_races_summary.specs.Accesses.{is_same_place}
use Rattle.xk_races.specs.declared.pairs.Race.{Race}
use Rattle.xk_races.specs.Knowledge.{Sight}
use Rattle.xk_races.specs.Races.{is_race, race, have_same_places, with_race, with_races_of, races_from}
use Rattle.xk_races.specs.Exactness.{Has, AreSeenBefore, RacesAreExact}

-- ---- lists

at_end : {X : Type 0} (xs ys : List X) (x : X) → slice_get (xs ++ x ∷ ys) (length xs) ≡ Some x
at_end [] ys x = refl
at_end (y ∷ xs) ys x = at_end xs ys x

back_front : {X : Type 0} (xs ys : List X) (i : ℕ) (x : X) → i < length xs → slice_get (xs ++ ys) i ≡ Some x → slice_get xs i ≡ Some x
back_front [] ys i x lt h = absurd (omega (arith, lt))
back_front (y ∷ xs) ys zero x lt h = h
back_front (y ∷ xs) ys (suc i) x lt h = back_front xs ys i x (omega (arith, lt)) h

pub one_behind : {X : Type 0} (xs : List X) (y : X) (i : ℕ) (x : X) → slice_get (xs ++ y ∷ []) i ≡ Some x → (slice_get xs i ≡ Some x) ⊎ (x ≡ y)
one_behind [] y zero x h = inr (same_Some x y (sym h))
one_behind [] y (suc i) x h = absurd (none h)
  where
    none : slice_get [] i ≡ Some x → ⊥
    none e = cc
one_behind (z ∷ xs) y zero x h = inl h
one_behind (z ∷ xs) y (suc i) x h = one_behind xs y i x h

-- ---- one race

with_kept : (q r : Race) (list : List Race) → Has list r → Has (with_race q list) r
with_kept q r list h = of (list_any (have_same_places q) list)
  where
    of : (b : Bool) → Has (if b then list else list ++ q ∷ []) r
    of true = h
    of false = (h.0, get-append_left list (q ∷ []) h.0 r h.1)

with_from : (q r : Race) (list : List Race) → Has (with_race q list) r → Has list r ⊎ (r ≡ q)
with_from q r list h = of (list_any (have_same_places q) list) h
  where
    back : (i : ℕ) → (slice_get list i ≡ Some r) ⊎ (r ≡ q) → Has list r ⊎ (r ≡ q)
    back i (inl at) = inl (i, at)
    back i (inr is) = inr is

    of : (b : Bool) → Has (if b then list else list ++ q ∷ []) r → Has list r ⊎ (r ≡ q)
    of true g = inl g
    of false g = back g.0 (one_behind list q g.0 r g.1)

same_place : (s : RunStep) → is_same_place s s ≡ true
same_place s = ap (λ b. b && nat_eq s.place s.place) (eq-eqb s.unit s.unit refl) ∙ eq-eqb s.place s.place refl

pub same_places : (q : Race) → have_same_places q q ≡ true
same_places q =
    ap (λ b. b && ((is_same_place q.first q.first && is_same_place q.second q.second) || (is_same_place q.first q.second && is_same_place q.second q.first)))
    (eq-eqb q.cell q.cell refl)
    ∙ ap (λ b. (b && is_same_place q.second q.second) || (is_same_place q.first q.second && is_same_place q.second q.first)) (same_place q.first)
    ∙ ap (λ b. b || (is_same_place q.first q.second && is_same_place q.second q.first)) (same_place q.second)

any_has : (q : Race) (list : List Race) → list_any (have_same_places q) list ≡ true → (r : Race) × Has list r × (have_same_places q r ≡ true)
any_has q [] h = absurd (false≢true h)
any_has q (x ∷ list) h = of (have_same_places q x) refl h (any_has q list)
  where
    of : (b : Bool) → have_same_places q x ≡ b → (b || list_any (have_same_places q) list) ≡ true
        → (list_any (have_same_places q) list ≡ true → (r : Race) × Has list r × (have_same_places q r ≡ true))
        → (r : Race) × Has (x ∷ list) r × (have_same_places q r ≡ true)
    of true e g rest = (x, (0, refl), e)
    of false e g rest = let f = rest g in (f.0, (suc f.1.0, f.1.1), f.2)

with_has : (q : Race) (list : List Race) → (r : Race) × Has (with_race q list) r × (have_same_places q r ≡ true)
with_has q list = of (list_any (have_same_places q) list) refl
  where
    of : (b : Bool) → list_any (have_same_places q) list ≡ b → (r : Race) × Has (if b then list else list ++ q ∷ []) r × (have_same_places q r ≡ true)
    of true e = any_has q list e
    of false e = (q, (length list, at_end list [] q), same_places q)

-- ---- those of one access

abbrev looked_at : Bool → Race → List Race → List Race
looked_at b q list = if b then with_race q list else list

looked_kept : (b : Bool) (q r : Race) (list : List Race) → Has list r → Has (looked_at b q list) r
looked_kept true q r list h = with_kept q r list h
looked_kept false q r list h = h

looked_from : (b : Bool) (q r : Race) (list : List Race) → Has (looked_at b q list) r → Has list r ⊎ ((b ≡ true) × (r ≡ q))
looked_from true q r list h = of (with_from q r list h)
  where
    of : Has list r ⊎ (r ≡ q) → Has list r ⊎ ((true ≡ true) × (r ≡ q))
    of (inl g) = inl g
    of (inr is) = inr (refl, is)
looked_from false q r list h = inl h

looked_has : (b : Bool) (q : Race) (list : List Race) → b ≡ true → (r : Race) × Has (looked_at b q list) r × (have_same_places q r ≡ true)
looked_has true q list is = with_has q list
looked_has false q list is = absurd (false≢true is)

-- a race of y with one of these
abbrev IsOf : Sight → List Sight → Race → Type 0
IsOf y xs r = (i : ℕ) × (x : Sight) × (slice_get xs i ≡ Some x) × (is_race x y ≡ true) × (r ≡ race x y)

of_kept : (y : Sight) (xs : List Sight) (list : List Race) (r : Race) → Has list r → Has (with_races_of y xs list) r
of_kept y [] list r h = h
of_kept y (x ∷ xs) list r h = of_kept y xs (looked_at (is_race x y) (race x y) list) r (looked_kept (is_race x y) (race x y) r list h)

of_from : (y : Sight) (xs : List Sight) (list : List Race) (r : Race) → Has (with_races_of y xs list) r → Has list r ⊎ IsOf y xs r
of_from y [] list r h = inl h
of_from y (x ∷ xs) list r h = behind (of_from y xs (looked_at (is_race x y) (race x y) list) r h)
  where
    first : Has list r ⊎ ((is_race x y ≡ true) × (r ≡ race x y)) → Has list r ⊎ IsOf y (x ∷ xs) r
    first (inl g) = inl g
    first (inr g) = inr (0, x, refl, g.0, g.1)

    behind : Has (looked_at (is_race x y) (race x y) list) r ⊎ IsOf y xs r → Has list r ⊎ IsOf y (x ∷ xs) r
    behind (inl g) = first (looked_from (is_race x y) (race x y) r list g)
    behind (inr g) = inr (suc g.0, g.1, g.2, g.3, g.4)

of_has : (y : Sight) (xs : List Sight) (list : List Race) (i : ℕ) (x : Sight) → slice_get xs i ≡ Some x → is_race x y ≡ true
    → (r : Race) × Has (with_races_of y xs list) r × (have_same_places (race x y) r ≡ true)
of_has y [] list i x at is = absurd (none at)
  where
    none : slice_get [] i ≡ Some x → ⊥
    none e = cc
of_has y (z ∷ xs) list zero x at is =
    let f = looked_has (is_race z y) (race z y) list (ap (λ (s : Sight). is_race s y) (same_Some z x at) ∙ is) in
    (f.0, of_kept y xs (looked_at (is_race z y) (race z y) list) f.0 f.1, ap (λ (s : Sight). have_same_places (race s y) f.0) (sym (same_Some z x at)) ∙ f.2)
of_has y (z ∷ xs) list (suc i) x at is = of_has y xs (looked_at (is_race z y) (race z y) list) i x at is

-- ---- all of them

from_kept : (earlier ys : List Sight) (list : List Race) (r : Race) → Has list r → Has (races_from earlier ys list) r
from_kept earlier [] list r h = h
from_kept earlier (y ∷ ys) list r h = from_kept (earlier ++ y ∷ []) ys (with_races_of y earlier list) r (of_kept y earlier list r h)

regroup : (earlier : List Sight) (y : Sight) (ys : List Sight) → (earlier ++ y ∷ []) ++ ys ≡ earlier ++ y ∷ ys
regroup earlier y ys = append_assoc earlier (y ∷ []) ys

from_from : (earlier ys : List Sight) (list : List Race) (r : Race) → Has (races_from earlier ys list) r → Has list r ⊎ AreSeenBefore (earlier ++ ys) r
from_from earlier [] list r h = inl h
from_from earlier (y ∷ ys) list r h = behind (from_from (earlier ++ y ∷ []) ys (with_races_of y earlier list) r h)
  where
    first : Has list r ⊎ IsOf y earlier r → Has list r ⊎ AreSeenBefore (earlier ++ y ∷ ys) r
    first (inl g) = inl g
    first (inr g) = inr (g.0, length earlier, g.1, y, slice_get_within earlier g.0 g.1 g.2, get-append_left earlier (y ∷ ys) g.0 g.1 g.2, at_end earlier ys y, g.3, g.4)

    behind : Has (with_races_of y earlier list) r ⊎ AreSeenBefore ((earlier ++ y ∷ []) ++ ys) r → Has list r ⊎ AreSeenBefore (earlier ++ y ∷ ys) r
    behind (inl g) = first (of_from y earlier list r g)
    behind (inr g) = inr (subst (λ xs. AreSeenBefore xs r) (regroup earlier y ys) g)

from_has : (earlier ys : List Sight) (list : List Race) (p q : ℕ) (x y : Sight) → p < q → length earlier ≤ q → slice_get (earlier ++ ys) p ≡ Some x
    → slice_get (earlier ++ ys) q ≡ Some y → is_race x y ≡ true
    → (r : Race) × Has (races_from earlier ys list) r × (have_same_places (race x y) r ≡ true)
from_has earlier [] list p q x y lt le here there is =
    absurd (omega (arith, le, slice_get_within (earlier ++ []) q y there, length-append earlier []))
from_has earlier (z ∷ ys) list p q x y lt le here there is =
    of (λ less. from_has (earlier ++ z ∷ []) ys (with_races_of z earlier list) p q x y lt (omega (arith, less, length-append earlier (z ∷ [])))
    (subst (λ xs. slice_get xs p ≡ Some x) (sym (regroup earlier z ys)) here) (subst (λ xs. slice_get xs q ≡ Some y) (sym (regroup earlier z ys)) there) is)
    (cases_lt (length earlier) q)
  where
    of : (length earlier < q → (r : Race) × Has (races_from (earlier ++ z ∷ []) ys (with_races_of z earlier list)) r × (have_same_places (race x y) r ≡ true))
        → (length earlier < q) ⊎ (q ≤ length earlier)
        → (r : Race) × Has (races_from (earlier ++ z ∷ []) ys (with_races_of z earlier list)) r × (have_same_places (race x y) r ≡ true)
    of rest (inl less) = rest less
    of rest (inr ge) =
        let end : q ≡ length earlier = omega (arith, ge, le) in
        let same : z ≡ y = same_Some z y (sym (at_end earlier ys z) ∙ subst (λ i. slice_get (earlier ++ z ∷ ys) i ≡ Some y) end there) in
        let f = of_has z earlier list p x (back_front earlier (z ∷ ys) p x (omega (arith, lt, end)) here) (ap (λ (s : Sight). is_race x s) same ∙ is) in (
          f.0,
          from_kept (earlier ++ z ∷ []) ys (with_races_of z earlier list) f.0 f.1,
          ap (λ (s : Sight). have_same_places (race x s) f.0) (sym same) ∙ f.2,
        )

pub races_are_exact : (sights : List Sight) → RacesAreExact sights
races_are_exact sights = record {
  sound = λ r h. of r (from_from [] sights [] r h);
  complete = λ p q x y lt here there is. from_has [] sights [] p q x y lt (omega arith) here there is;
}
  where
    of : (r : Race) → Has [] r ⊎ AreSeenBefore sights r → AreSeenBefore sights r
    of r (inl g) = absurd (none g.1)
      where
        none : slice_get [] g.0 ≡ Some r → ⊥
        none e = cc
    of r (inr g) = g
