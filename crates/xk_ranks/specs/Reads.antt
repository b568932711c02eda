-- Shared numbers that somebody may still read, by a table of what may be carried out. Those that nobody can read any more don't count:
-- they are as if they were 0. To add to a number isn't to read it.
use Rattle.std.specs.Prelude.{◌≡◌, ℕ, suc, ℤ, Bool, false, not, ◌&&◌, ◌||◌, ◌+◌, pos, List, [], ◌∷◌, if◌then◌else◌}
use Rattle.std.specs.List.{list_any}
use Rattle.xk_types.specs.declared.instr.Instr.TheVariants as instr
use Rattle.xk_types.specs.declared.world.Event.{Event}
use Rattle.xk_types.specs.Code.{ModuleValue}
use Rattle.xk_types.specs.World.{Frame, Activity, World, is_ended}
use Rattle.xk_types.specs.Step.{Stepped, step}
use Rattle.xk_types.specs.Schedule.{IsReached, all_ended}
use Rattle.xk_liveness.specs.Liveness.{SlotTable, IsLiveness}
use Rattle.xk_closed.specs.Footprints.{Table, IsRest}
use Rattle.xk_ranks.specs.Ranks.{AreAlikeByRank, HaveOneRank}

-- the table tells which shared numbers are read, whatever the slot is into which they are
abbrev pub TellsReads : Table → Type 0
TellsReads rest = (u p d s : ℕ) → rest u p (instr.Get d s) ≡ rest u p (instr.Get 0 s)

-- shared number s may be read behind the calls of these frames
abbrev pub frames_read : Table → ℕ → List Frame → Bool
frames_read rest s [] = false
frames_read rest s (f ∷ fs) = rest f.unit (f.place + 1) (instr.Get 0 s) || frames_read rest s fs

-- the activity hasn't ended, and may read it, or those may whom it starts
abbrev pub may_read : Table → ℕ → Activity → Bool
may_read rest s act = not (is_ended act.status)
    && (rest act.frame.unit act.frame.place (instr.Get 0 s) || frames_read rest s act.callers)

-- one of the activities may
abbrev pub is_read : Table → List Activity → ℕ → Bool
is_read rest acts s = list_any (may_read rest s) acts

-- numbers, those that aren't marked being 0
abbrev pub marked : (ℕ → Bool) → List ℤ → List ℤ
marked marks [] = []
marked marks (n ∷ ns) = (if marks 0 then n else pos 0) ∷ marked (λ s. marks (suc s)) ns

-- the world as it counts
abbrev pub read_part : Table → World → World
read_part rest w = record w { cells = marked (is_read rest w.activities) w.cells }

-- ---- what counts

-- the slots that are live, and what may still be carried out, as tables
pub record Counting : Type 0 where
  pub live : SlotTable
  pub rest : Table

-- they have all that there is
pub record IsCounting (m : ModuleValue) (c : Counting) : Type 0 where
  pub liveness : IsLiveness m c.live
  pub rests : IsRest m c.rest
  pub tells : TellsReads c.rest

-- What is left of the worlds differs at most in dead slots, in numbers of steps, in phases, and in shared numbers that nobody can read any
-- more.
abbrev pub AreAlikeByReads : Counting → World → World → Type 0
AreAlikeByReads c w v = AreAlikeByRank c.live (read_part c.rest w) (read_part c.rest v)

-- An activity that can take a step in world w can take one in v by its rank, with the same event, to worlds that are alike so; and all have
-- ended in both worlds or in neither.
pub record GoOnByReads (m : ModuleValue) (c : Counting) (w v : World) : Type 0 where
  pub steps : (u : World) (a : ℕ) (e : Event) → step m w a ≡ Stepped u e
      → (b : ℕ) × (z : World) × HaveOneRank w a v b × (step m v b ≡ Stepped z e) × AreAlikeByReads c u z
  pub ends : all_ended w ≡ all_ended v

-- worlds that legal schedules lead to, and that are alike so
pub record AreReachedByReads (m : ModuleValue) (c : Counting) (w v : World) : Type 0 where
  pub first : IsReached m w
  pub second : IsReached m v
  pub alike : AreAlikeByReads c w v
