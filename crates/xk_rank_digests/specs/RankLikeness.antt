-- What two cores have to have in common for their worlds to be alike by rank, and what of it a core tells.
use Rattle.std.specs.Prelude.{◌≡◌, ℕ, ◌⊎◌, false, length, map, Some, option_map, slice_get}
use Rattle.xk_types.specs.World.{Activity, World, is_ended}
use Rattle.xk_activity.specs.Activities.{act_at}
use Rattle.xk_liveness.specs.Liveness.{SlotTable, AreAlikeWhereLive, live_activity}
use Rattle.xk_ranks.specs.Ranks.{going, rank, remains, AreAlikeByRank}
use Rattle.xk_digests.specs.Likeness.{HasSameLeft}
use Rattle.xk_rank_digests.specs.Numbers.{IsOfRank}

-- the finish that governs an activity is the one that its owner opened last, if somebody owns it
abbrev pub IsInnermost : World → Activity → Type 0
IsInnermost w x = (o : ℕ) → x.governed.owner ≡ Some o → x.governed.depth ≡ (act_at w.activities o).opened

-- so it is of each activity that hasn't ended
abbrev pub AreInnermost : World → Type 0
AreInnermost w = (b : ℕ) (x : Activity) → slice_get w.activities b ≡ Some x → is_ended x.status ≡ false → IsInnermost w x

-- what is left of both is alike where slots are live, and a core tells by which finishes their activities are governed
abbrev pub IsLeftAlike : SlotTable → World → World → Type 0
IsLeftAlike live w v = AreAlikeByRank live w v × AreInnermost w × AreInnermost v

-- The worlds are alike where slots are live, or so.
abbrev pub AreToldAlike : SlotTable → World → World → Type 0
AreToldAlike live w v = AreAlikeWhereLive live w v ⊎ IsLeftAlike live w v

-- ---- part by part

-- the finishes that govern two activities have owners of the same rank, and are the innermost of these
abbrev pub AreGovernedAlike : World → ℕ → World → ℕ → Type 0
AreGovernedAlike w a v b =
    (option_map (rank (going w.activities)) (act_at w.activities a).governed.owner
    ≡ option_map (rank (going v.activities)) (act_at v.activities b).governed.owner)
    × IsInnermost w (act_at w.activities a) × IsInnermost v (act_at v.activities b)

-- activity a of the one world is as activity b of the other, as far as that is told of these two alone
abbrev pub AreSameByRank : SlotTable → World → ℕ → World → ℕ → Type 0
AreSameByRank live w a v b = ((act_at w.activities a).status ≡ (act_at v.activities b).status) × AreGovernedAlike w a v b
    × HasSameLeft live (act_at w.activities a) (act_at v.activities b)

-- so it is of those of a rank
abbrev pub AreSameAtRank : SlotTable → World → World → ℕ → Type 0
AreSameAtRank live w v r = (a b : ℕ) → IsOfRank (going w.activities) a r → IsOfRank (going v.activities) b r → AreSameByRank live w a v b

-- those that haven't ended are the same where slots are live, rank by rank
abbrev pub AreActsAlike : SlotTable → World → World → Type 0
AreActsAlike live w v = (map (live_activity live) (remains w).activities ≡ map (live_activity live) (remains v).activities)
    × AreInnermost w × AreInnermost v

-- as many haven't ended, there are as many clocks, and the arguments are the same
abbrev pub HaveAsMany : World → World → Type 0
HaveAsMany w v = (length (remains w).activities ≡ length (remains v).activities) × (length w.clocks ≡ length v.clocks)
    × (w.arguments ≡ v.arguments)
