-- By what worlds that were found are told apart. This project's own.
use Rattle.std.specs.Prelude.{◌≡◌, ◌⊎◌, true}
use Rattle.xk_types.specs.World.{World}
use Rattle.xk_types.specs.Schedule.{all_ended}
use Rattle.xk_live_slots.specs.LiveSlots.{LiveSlotsValue, live_of}
use Rattle.xk_closed_sets.specs.Footprints.{FootprintsValue, rest_of}
use Rattle.xk_ranks.specs.Reads.{AreAlikeByReads, Counting, read_part}
use Rattle.xk_rank_digests.specs.RankLikeness.{AreToldAlike}
use Rattle.xk_outcomes.specs.declared.order.Order.{Order}

-- what is known of a module: which slots are live, and which shared numbers may still be read
pub record CountsValue : Type 0 where
  pub live : LiveSlotsValue
  pub rest : FootprintsValue

-- the same as tables
abbrev pub counts_of : CountsValue → Counting
counts_of c = record { live = live_of c.live; rest = rest_of c.rest }

-- by what counts of them, and by the order in which numbers are told
pub record Alikeness : Type 0 where
  pub order : Order
  pub counts : CountsValue

abbrev pub counted : Alikeness → Counting
counted a = counts_of a.counts

-- All have ended in both worlds: nothing can happen in either, whatever shared numbers are left.
abbrev pub AreOver : World → World → Type 0
AreOver w v = (all_ended w ≡ true) × (all_ended v ≡ true)

-- The worlds are told to be alike, but for shared numbers that nobody can read any more.
abbrev pub AreCountedAlike : Counting → World → World → Type 0
AreCountedAlike c w v = AreToldAlike c.live (read_part c.rest w) (read_part c.rest v)

-- What can happen from now on is the same, as far as a search tells: they are, or all have ended in both.
abbrev pub AreAsOne : Counting → World → World → Type 0
AreAsOne c w v = AreCountedAlike c w v ⊎ AreOver w v

-- the same, and activities are known by rank
abbrev pub AreAsOneByRank : Counting → World → World → Type 0
AreAsOneByRank c w v = AreAlikeByReads c w v ⊎ AreOver w v
