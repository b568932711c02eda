-- Worlds that are alike where slots are live have one digest; and digests with one more.
use Rattle.std.proofs.Common.{◌≡◌, ◌∙◌, ℕ, ℤ, ◌+◌, ◌<◌, List, length, map, take, Some, ap, slice_get, arith}
use Rattle.std.specs.Prelude.{fold}
use Rattle.std.proofs.lemmas.List.{get_or-map, length-map}
use Rattle.std.proofs.lemmas.List.Sums.{fold_more}
use Rattle.std.proofs.lemmas.Option.{get_or_from_slice_get, slice_get_within}
use Rattle.xk_types.specs.declared.world.Value.{Value}
use Rattle.xk_types.specs.World.{Activity, World}
use Rattle.xk_activity.specs.Activities.{act_at, nobody}
use Rattle.xk_liveness.specs.Liveness.{AreAlikeWhereLive, SlotTable, live_activity}
use Rattle.xk_digests.specs.Digest.{mixed, whole_digest, with_activity, with_values, word_of, world_digest}

pub alike_digests : (live : SlotTable) (w v : World) (numbers : List ℤ) → AreAlikeWhereLive live w v
    → world_digest live w numbers ≡ world_digest live v numbers
alike_digests live w v numbers alike = ap (λ (z : World). whole_digest z numbers) alike

-- ---- one more

pub values_more : (digest i : ℕ) (xs : List Value) (x : Value) → slice_get xs i ≡ Some x
    → with_values digest (take (i + 1) xs) ≡ mixed (with_values digest (take i xs)) (word_of x)
values_more digest i xs x there =
    fold_more (λ d v. mixed d (word_of v)) digest xs i x (slice_get_within xs i x there)
    ∙ ap (λ v. mixed (with_values digest (take i xs)) (word_of v)) (get_or_from_slice_get xs i x x there)

pub activities_more : (live : SlotTable) (digest a : ℕ) (xs : List Activity) → a < length xs
    → fold with_activity digest (take (a + 1) (map (live_activity live) xs))
    ≡ with_activity (fold with_activity digest (take a (map (live_activity live) xs))) (live_activity live (act_at xs a))
activities_more live digest a xs there =
    let many = length-map xs (live_activity live) in
    fold_more with_activity digest (map (live_activity live) xs) a nobody (omega (arith, many, there))
    ∙ ap (with_activity (fold with_activity digest (take a (map (live_activity live) xs))))
    (get_or-map (live_activity live) xs a nobody nobody there)
