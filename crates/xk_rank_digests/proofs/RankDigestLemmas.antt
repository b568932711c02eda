-- The digest of what is left, activity by activity; and worlds that are alike by rank have it in common.
use Rattle.std.proofs.Common.{◌≡◌, ℕ, ℤ, ◌+◌, ◌<◌, not, Bool, true, false, true≢false, cond, List, [], ◌∷◌, map, length, Option, refl}
use Rattle.std.proofs.Common.{sym, ap, ◌∙◌}
use Rattle.std.specs.Prelude.{fold, take}
use Rattle.std.specs.Option.{option_map_or}
use Rattle.std.proofs.lemmas.List.Sums.{fold_more}
use Rattle.std.proofs.lemmas.Option.{slice_get-get_or}
use Rattle.xk_activity.specs.Activities.{act_at, nobody}
use Rattle.xk_core.specs.Core.{is_living}
use Rattle.xk_types.specs.World.{Activity, World, is_ended}
use Rattle.xk_liveness.specs.Liveness.{SlotTable, live_activity}
use Rattle.xk_ranks.specs.Ranks.{kept, governed_ranked, going, remains, AreAlikeByRank}
use Rattle.xk_digests.specs.Digest.{with_activity, with_numbers}
use Rattle.xk_digests.proofs.DigestLemmas.{alike_digests}
use Rattle.xk_rank_digests.specs.RankDigest.{rank_digest}
use Rattle.xk_rank_digests.proofs.Stepwise.{with_going, stepwise_digest}

pub stepwise : (live : SlotTable) (w : World) (numbers : List ℤ) → stepwise_digest live w numbers ≡ rank_digest live w numbers
stepwise live w numbers = by (with_numbers (with_numbers 0 numbers) w.cells) w.activities
    ∙ sym (each (going w.activities) (kept (going w.activities) w.activities) (with_numbers (with_numbers 0 numbers) w.cells))
  where
    each : (ms : List Bool) (xs : List Activity) (d : ℕ)
        → fold with_activity d (map (live_activity live) (map (governed_ranked ms) xs)) ≡ fold with_activity d (map (live_activity live) xs)
    each ms [] d = refl
    each ms (x ∷ xs) d = each ms xs (with_activity d (live_activity live x))

    one : (d : ℕ) (x : Activity) (xs : List Activity) (p : Bool) → is_ended x.status ≡ p
        → ((e : ℕ) → fold (with_going live) e xs ≡ fold with_activity e (map (live_activity live) (kept (going xs) xs)))
        → fold (with_going live) d (x ∷ xs) ≡ fold with_activity d (map (live_activity live) (kept (not p ∷ going xs) (x ∷ xs)))
    one d x xs true e h = ap (λ q. fold (with_going live) (cond q d (with_activity d (live_activity live x))) xs) e ∙ h d
    one d x xs false e h = ap (λ q. fold (with_going live) (cond q d (with_activity d (live_activity live x))) xs) e
        ∙ h (with_activity d (live_activity live x))

    by : (d : ℕ) (xs : List Activity) → fold (with_going live) d xs ≡ fold with_activity d (map (live_activity live) (kept (going xs) xs))
    by d [] = refl
    by d (x ∷ xs) = one d x xs (is_ended x.status) refl (λ e. by e xs)

pub rank_digests : (live : SlotTable) (w v : World) (numbers : List ℤ) → AreAlikeByRank live w v
    → rank_digest live w numbers ≡ rank_digest live v numbers
rank_digests live w v numbers same = alike_digests live (remains w) (remains v) numbers same

-- ---- one activity more

module _ (live : SlotTable) (first : ℕ) (w : World) (a digest new : ℕ) (inside : a < length w.activities) (b : Bool)
    (is : b ≡ is_living w a)
    (before : digest ≡ fold (with_going live) first (take a w.activities)) where
  going_next : with_going live digest (act_at w.activities a) ≡ fold (with_going live) first (take (a + 1) w.activities)
  going_next = ap (λ d. with_going live d (act_at w.activities a)) before
      ∙ sym (fold_more (with_going live) first w.activities a nobody inside)

  living_is : b ≡ not (is_ended (act_at w.activities a).status)
  living_is = is ∙ ap (λ (o : Option Activity). option_map_or (λ (x : Activity). not (is_ended x.status)) o false)
      (slice_get-get_or w.activities a nobody inside)

  pub more_living : b ≡ true → new ≡ with_activity digest (live_activity live (act_at w.activities a))
      → new ≡ fold (with_going live) first (take (a + 1) w.activities)
  more_living living same = same
      ∙ ap (λ p. cond p digest (with_activity digest (live_activity live (act_at w.activities a))))
      (sym (by (is_ended (act_at w.activities a).status) (sym living_is ∙ living)))
      ∙ going_next
    where
      by : (p : Bool) → not p ≡ true → p ≡ false
      by true h = absurd (true≢false (sym h))
      by false h = refl

  pub more_ended : b ≡ false → new ≡ digest → new ≡ fold (with_going live) first (take (a + 1) w.activities)
  more_ended over same = same
      ∙ ap (λ p. cond p digest (with_activity digest (live_activity live (act_at w.activities a))))
      (sym (by (is_ended (act_at w.activities a).status) (sym living_is ∙ over)))
      ∙ going_next
    where
      by : (p : Bool) → not p ≡ false → p ≡ true
      by true h = refl
      by false h = absurd (true≢false h)
