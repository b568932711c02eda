-- An exchange of clocks' numbers goes with what is left out of worlds that are compared, and ends nobody.
use Rattle.std.proofs.Common.{◌≡◌, ℕ, ◌&&◌, List, [], ◌∷◌, map, refl, sym, ap, ◌∙◌}
use Rattle.std.specs.List.{list_all}
use Rattle.xk_types.specs.World.{Activity, World, is_ended}
use Rattle.xk_types.specs.Schedule.{all_ended}
use Rattle.xk_law_commute.specs.PlainWorlds.{plain_activity, plain_clock, plain, AreAlike}
use Rattle.xk_law_names.specs.ClockNames.{activity_renamed, clocks_swapped}
use Rattle.xk_law_names.proofs.ActivityNameListLemmas.{map-swapped}

plain_renamed : (k : ℕ) (xs : List Activity)
    → map plain_activity (map (activity_renamed k) xs) ≡ map (activity_renamed k) (map plain_activity xs)
plain_renamed k [] = refl
plain_renamed k (x ∷ xs) = ap (λ zs. plain_activity (activity_renamed k x) ∷ zs) (plain_renamed k xs)

plain_swapped : (k : ℕ) (w : World) → plain (clocks_swapped k w) ≡ clocks_swapped k (plain w)
plain_swapped k w = λ i. record w { activities = plain_renamed k w.activities i; clocks = map-swapped plain_clock k w.clocks i; steps = 0 }

pub alike_swapped : (k : ℕ) (w v : World) → AreAlike w v → AreAlike (clocks_swapped k w) (clocks_swapped k v)
alike_swapped k w v alike = plain_swapped k w ∙ ap (clocks_swapped k) alike ∙ sym (plain_swapped k v)

ended_renamed : (k : ℕ) (xs : List Activity)
    → list_all (λ (act : Activity). is_ended act.status) (map (activity_renamed k) xs)
    ≡ list_all (λ (act : Activity). is_ended act.status) xs
ended_renamed k [] = refl
ended_renamed k (x ∷ xs) = ap (λ p. is_ended x.status && p) (ended_renamed k xs)

pub ended_swapped : (k : ℕ) (w : World) → all_ended (clocks_swapped k w) ≡ all_ended w
ended_swapped k w = ended_renamed k w.activities
