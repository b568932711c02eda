-- An exchange of activities' numbers: undone by another, it goes with what is left out of worlds that are compared, and ends nobody.
use Rattle.std.proofs.Common.{◌≡◌, ℕ, ◌&&◌, List, [], ◌∷◌, map, length, Option, Some, None, option_map, refl, sym, ap, ◌∙◌}
use Rattle.std.specs.List.{list_all}
use Rattle.xk_types.specs.World.{Activity, Clock, World, is_ended}
use Rattle.xk_types.specs.Schedule.{all_ended}
use Rattle.xk_types.proofs.ListLemmas.{each_map}
use Rattle.xk_law_commute.specs.PlainWorlds.{plain_activity, plain_clock, plain, AreAlike}
use Rattle.xk_law_names.specs.ActivityNames.{neighbours_swapped, renamed, governed_renamed, clock_swapped, activities_swapped, HasAllStandings}
use Rattle.xk_law_names.proofs.ActivityNameListLemmas.{renamed_twice, swapped_twice, map-swapped, length-swapped, all-swapped}
use Rattle.xk_law_names.proofs.ActivityNameWorldLemmas.{length-acts}

-- ---- twice

governed_twice : (k : ℕ) (xs : List Activity) → map (governed_renamed k) (map (governed_renamed k) xs) ≡ xs
governed_twice k [] = refl
governed_twice k (x ∷ xs) = rw (owner x.governed.owner, governed_twice k xs)
  where
    owner : (o : Option ℕ) → option_map (renamed k) (option_map (renamed k) o) ≡ o
    owner None = refl
    owner (Some a) = ap (λ b. Some b) (renamed_twice k a)

clocks_twice : (k : ℕ) (cs : List Clock) → map (clock_swapped k) (map (clock_swapped k) cs) ≡ cs
clocks_twice k [] = refl
clocks_twice k (c ∷ cs) = rw (swapped_twice k c.standings, clocks_twice k cs)

pub exchanged_twice : (k : ℕ) (w : World) → activities_swapped k (activities_swapped k w) ≡ w
exchanged_twice k w =
    let acts : map (governed_renamed k) (neighbours_swapped k (map (governed_renamed k) (neighbours_swapped k w.activities)))
    ≡ w.activities =
    sym (ap (map (governed_renamed k)) (map-swapped (governed_renamed k) k (neighbours_swapped k w.activities)))
    ∙ governed_twice k (neighbours_swapped k (neighbours_swapped k w.activities)) ∙ swapped_twice k w.activities in
    λ i. record w { activities = acts i; clocks = clocks_twice k w.clocks i }

-- ---- worlds that are alike

plain_governed : (k : ℕ) (xs : List Activity)
    → map plain_activity (map (governed_renamed k) xs) ≡ map (governed_renamed k) (map plain_activity xs)
plain_governed k [] = refl
plain_governed k (x ∷ xs) = ap (λ zs. plain_activity (governed_renamed k x) ∷ zs) (plain_governed k xs)

plain_clocks : (k : ℕ) (cs : List Clock) → map plain_clock (map (clock_swapped k) cs) ≡ map (clock_swapped k) (map plain_clock cs)
plain_clocks k [] = refl
plain_clocks k (c ∷ cs) = ap (λ zs. plain_clock (clock_swapped k c) ∷ zs) (plain_clocks k cs)

plain_exchanged : (k : ℕ) (w : World) → plain (activities_swapped k w) ≡ activities_swapped k (plain w)
plain_exchanged k w =
    let acts : map plain_activity (map (governed_renamed k) (neighbours_swapped k w.activities))
    ≡ map (governed_renamed k) (neighbours_swapped k (map plain_activity w.activities)) =
    plain_governed k (neighbours_swapped k w.activities) ∙ ap (map (governed_renamed k)) (map-swapped plain_activity k w.activities) in
    λ i. record { activities = acts i; clocks = plain_clocks k w.clocks i; cells = w.cells; steps = 0; arguments = w.arguments }

pub alike_exchanged : (k : ℕ) (w v : World) → AreAlike w v → AreAlike (activities_swapped k w) (activities_swapped k v)
alike_exchanged k w v alike = plain_exchanged k w ∙ ap (activities_swapped k) alike ∙ sym (plain_exchanged k v)

-- ---- what stays

ended_governed : (k : ℕ) (xs : List Activity)
    → list_all (λ (act : Activity). is_ended act.status) (map (governed_renamed k) xs)
    ≡ list_all (λ (act : Activity). is_ended act.status) xs
ended_governed k [] = refl
ended_governed k (x ∷ xs) = ap (λ p. is_ended x.status && p) (ended_governed k xs)

pub ended_exchanged : (k : ℕ) (w : World) → all_ended (activities_swapped k w) ≡ all_ended w
ended_exchanged k w = ended_governed k (neighbours_swapped k w.activities)
    ∙ all-swapped (λ (act : Activity). is_ended act.status) k w.activities

pub full_exchanged : (k : ℕ) (w : World) → HasAllStandings w → HasAllStandings (activities_swapped k w)
full_exchanged k w full =
    each_map (clock_swapped k) (λ j (c : Clock). length c.standings ≡ length (activities_swapped k w).activities) w.clocks
    (λ j c at. length-swapped k c.standings ∙ full j c at ∙ sym (length-acts k w.activities))
