-- Worlds without the activities that have ended. Those that are left are known by rank: by how many of those before them haven't ended.
use Rattle.std.specs.Prelude.{◌≡◌, ℕ, zero, suc, Bool, true, not, List, [], ◌∷◌, map, Some, option_map, slice_get}
use Rattle.std.specs.Prelude.{if◌then◌else◌}
use Rattle.xk_types.specs.declared.world.Event.{Event}
use Rattle.xk_types.specs.Code.{ModuleValue}
use Rattle.xk_types.specs.World.{Finish, Activity, Clock, World, is_ended}
use Rattle.xk_types.specs.Step.{Outcome, Blocked, Wrong, Stepped, step}
use Rattle.xk_types.specs.Schedule.{IsReached, all_ended, is_enabled}
use Rattle.xk_law_commute.specs.Conflicts.{next_instruction}
use Rattle.xk_liveness.specs.Liveness.{SlotTable, AreAlikeWhereLive}

-- ---- some elements of a list

-- those that are marked
abbrev pub kept : {X : Type 0} → List Bool → List X → List X
kept [] xs = []
kept (b ∷ marks) [] = []
kept (b ∷ marks) (x ∷ xs) = if b then x ∷ kept marks xs else kept marks xs

-- how many are marked before number a
abbrev pub rank : List Bool → ℕ → ℕ
rank [] a = 0
rank (b ∷ marks) zero = 0
rank (b ∷ marks) (suc a) = if b then suc (rank marks a) else rank marks a

-- ---- the marked activities alone

-- a finish by its owner's rank
abbrev pub finish_ranked : List Bool → Finish → Finish
finish_ranked marks f = record f { owner = option_map (rank marks) f.owner }

-- an activity by the rank of who owns the finish that governs it
abbrev pub governed_ranked : List Bool → Activity → Activity
governed_ranked marks act = record act { governed = finish_ranked marks act.governed }

-- a clock with their standings
abbrev pub clock_kept : List Bool → Clock → Clock
clock_kept marks c = record c { standings = kept marks c.standings }

abbrev pub acts_kept : List Bool → List Activity → List Activity
acts_kept marks acts = map (governed_ranked marks) (kept marks acts)

-- a world
abbrev pub with_only : List Bool → World → World
with_only marks w = record w { activities = acts_kept marks w.activities; clocks = map (clock_kept marks) w.clocks }

-- ---- without those that have ended

-- a mark for each that hasn't
abbrev pub going : List Activity → List Bool
going acts = map (λ act. not (is_ended act.status)) acts

-- what is left of a world
abbrev pub remains : World → World
remains w = with_only (going w.activities) w

-- What is left of the worlds differs at most in dead slots, in numbers of steps and in phases.
abbrev pub AreAlikeByRank : SlotTable → World → World → Type 0
AreAlikeByRank live w v = AreAlikeWhereLive live (remains w) (remains v)

-- ---- going on

-- the second step comes to what the first does, without those that have ended by then
abbrev pub ComesToRemains : Outcome → Outcome → Type 0
ComesToRemains Blocked q = q ≡ Blocked
ComesToRemains (Wrong c) q = q ≡ Wrong c
ComesToRemains (Stepped u e) q = (z : World) × (q ≡ Stepped z e) × (remains z ≡ remains u)

-- activity a of the one world is activity b of the other: neither has ended, and both have the same rank
pub record HaveOneRank (w : World) (a : ℕ) (v : World) (b : ℕ) : Type 0 where
  pub first : slice_get (going w.activities) a ≡ Some true
  pub second : slice_get (going v.activities) b ≡ Some true
  pub same : rank (going w.activities) a ≡ rank (going v.activities) b

-- An activity that can take a step in world w can take one in v by its rank, with the same event, to worlds that are alike so; all have
-- ended in both worlds or in neither; and the shared numbers are the same.
pub record GoOnByRank (m : ModuleValue) (live : SlotTable) (w v : World) : Type 0 where
  pub steps : (u : World) (a : ℕ) (e : Event) → step m w a ≡ Stepped u e
      → (b : ℕ) × (z : World) × HaveOneRank w a v b × (step m v b ≡ Stepped z e) × AreAlikeByRank live u z
  pub ends : all_ended w ≡ all_ended v
  pub cells : w.cells ≡ v.cells

-- so much is the same of activity a of the one and activity b of the other: whether it can take a step, and by which instruction
pub record StandAlike (m : ModuleValue) (w : World) (a : ℕ) (v : World) (b : ℕ) : Type 0 where
  pub enabled : is_enabled m w a ≡ is_enabled m v b
  pub instruction : next_instruction m w a ≡ next_instruction m v b

-- worlds that legal schedules lead to, and that are alike so
pub record AreReachedAlike (m : ModuleValue) (live : SlotTable) (w v : World) : Type 0 where
  pub first : IsReached m w
  pub second : IsReached m v
  pub alike : AreAlikeByRank live w v
