-- What is told of a run's order is exactly that order.
use Rattle.std.specs.Prelude.{◌≡◌, ℕ, suc, ◌<◌, pred, true, List, ◌⊎◌, Some, slice_get}
use Rattle.xk_races.specs.declared.deeds.Deed.{Deed}
use Rattle.xk_races.specs.declared.pairs.Race.{Race}
use Rattle.xk_races.specs.Knowledge.{Sight, is_sight, sights_of, comes_before}
use Rattle.xk_races.specs.Order.{IsAt, Before}
use Rattle.xk_races.specs.Races.{is_race, race, have_same_places, races_in}

-- number p of the accesses and prints among these deeds
abbrev pub IsSeen : List Deed → ℕ → Sight → Type 0
IsSeen ds p x = slice_get (sights_of ds) p ≡ Some x

-- Each of them is the deed of its number, counted from 1, and each access and print is one of them; and of two the one is told to come before the other where they are one, or by the least
-- order it does, and nowhere else.
pub record OrderIsExact (ds : List Deed) : Type 0 where
  pub deeds : (p : ℕ) (x : Sight) → IsSeen ds p x → IsAt ds (pred x.number) x.deed
  pub all : (k : ℕ) (d : Deed) → IsAt ds k d → is_sight d.part ≡ true → (p : ℕ) × (x : Sight) × IsSeen ds p x × (x.number ≡ suc k)
  pub sound : (p q : ℕ) (x y : Sight) → IsSeen ds p x → IsSeen ds q y → comes_before x y ≡ true
      → (pred x.number ≡ pred y.number) ⊎ Before ds (pred x.number) (pred y.number)
  pub complete : (p q : ℕ) (x y : Sight) → IsSeen ds p x → IsSeen ds q y → Before ds (pred x.number) (pred y.number) → comes_before x y ≡ true

-- ---- races

-- the list has it
abbrev pub Has : List Race → Race → Type 0
Has list r = (i : ℕ) × (slice_get list i ≡ Some r)

-- it is the race of two of these, the first one earlier
abbrev pub AreSeenBefore : List Sight → Race → Type 0
AreSeenBefore sights r =
    (p : ℕ) × (q : ℕ) × (x : Sight) × (y : Sight) × (p < q) × (slice_get sights p ≡ Some x) × (slice_get sights q ≡ Some y) × (is_race x y ≡ true) × (r ≡ race x y)

-- What is listed are races, and of each race one of the same two places is listed.
pub record RacesAreExact (sights : List Sight) : Type 0 where
  pub sound : (r : Race) → Has (races_in sights) r → AreSeenBefore sights r
  pub complete : (p q : ℕ) (x y : Sight) → p < q → slice_get sights p ≡ Some x → slice_get sights q ≡ Some y → is_race x y ≡ true
      → (r : Race) × Has (races_in sights) r × (have_same_places (race x y) r ≡ true)
