-- Worlds in which two neighbours among the activities have each other's number: an activity's number is its name, and no more.
use Rattle.std.specs.Prelude.{◌≡◌, ℕ, zero, suc, List, [], ◌∷◌, map, length, Some, option_map, slice_get}
use Rattle.xk_types.specs.declared.world.Event.{Event}
use Rattle.xk_types.specs.declared.world.Event.TheVariants as event
use Rattle.xk_types.specs.Code.{ModuleValue}
use Rattle.xk_types.specs.World.{Finish, Activity, Clock, World}
use Rattle.xk_types.specs.Step.{Outcome, Blocked, Wrong, Stepped, step}
use Rattle.xk_types.specs.Schedule.{Course, Through, Held, Wronged, run, events, printed}
use Rattle.xk_law_commute.specs.PlainWorlds.{AreAlike}

-- the list, the elements at places k and k + 1 exchanged
abbrev pub neighbours_swapped : {X : Type 0} → ℕ → List X → List X
neighbours_swapped k [] = []
neighbours_swapped zero (x ∷ []) = x ∷ []
neighbours_swapped zero (x ∷ y ∷ xs) = y ∷ x ∷ xs
neighbours_swapped (suc k) (x ∷ xs) = x ∷ neighbours_swapped k xs

-- the number that activity a has where activities k and k + 1 have each other's: k + 1 for k, k for k + 1, and else a
abbrev pub renamed : ℕ → ℕ → ℕ
renamed zero zero = 1
renamed zero (suc zero) = 0
renamed zero (suc (suc a)) = suc (suc a)
renamed (suc k) zero = 0
renamed (suc k) (suc a) = suc (renamed k a)

-- a finish by its owner's number there
abbrev pub finish_renamed : ℕ → Finish → Finish
finish_renamed k f = record f { owner = option_map (renamed k) f.owner }

-- an activity by the number there of who owns the finish that governs it
abbrev pub governed_renamed : ℕ → Activity → Activity
governed_renamed k act = record act { governed = finish_renamed k act.governed }

-- a clock on which they stand in each other's place
abbrev pub clock_swapped : ℕ → Clock → Clock
clock_swapped k c = record c { standings = neighbours_swapped k c.standings }

-- the world in which activities k and k + 1 have each other's number
abbrev pub activities_swapped : ℕ → World → World
activities_swapped k w = record w {
  activities = map (governed_renamed k) (neighbours_swapped k w.activities);
  clocks = map (clock_swapped k) w.clocks;
}

-- what a step comes to, the world after it being so
abbrev pub outcome_renamed : ℕ → Outcome → Outcome
outcome_renamed k Blocked = Blocked
outcome_renamed k (Wrong c) = Wrong c
outcome_renamed k (Stepped w e) = Stepped (activities_swapped k w) e

-- what a run comes to, the world after it being so
abbrev pub course_renamed : ℕ → Course → Course
course_renamed k (Through w) = Through (activities_swapped k w)
course_renamed k (Held w) = Held (activities_swapped k w)
course_renamed k (Wronged w c) = Wronged (activities_swapped k w) c

-- an event, by the number there of whose it is
abbrev pub entry_renamed : ℕ → ℕ × Event → ℕ × Event
entry_renamed k p = (renamed k p.0, p.1)

-- each clock has a standing of each activity, as in all worlds that are reached
abbrev pub HasAllStandings : World → Type 0
HasAllStandings w = (j : ℕ) (c : Clock) → slice_get w.clocks j ≡ Some c → length c.standings ≡ length w.activities

-- By their numbers there the activities go the same way from the world in which k and k + 1 have each other's: each has the same events,
-- and the same list is printed.
pub record GoesRenamed (m : ModuleValue) (w : World) (k : ℕ) (s : List ℕ) : Type 0 where
  pub course : run m (map (renamed k) s) (activities_swapped k w) ≡ course_renamed k (run m s w)
  pub events : events m (map (renamed k) s) (activities_swapped k w) ≡ map (entry_renamed k) (events m s w)
  pub prints : printed m (map (renamed k) s) (activities_swapped k w) ≡ printed m s w

-- Where activities a and b can both start one, each still can when the other has, and the two orders lead to worlds that are alike once two
-- activities have each other's number: those after the ones that there are, which are the two new ones.
abbrev pub IsSquareOfStarts : ModuleValue → World → ℕ → ℕ → Type 0
IsSquareOfStarts m w a b = (u v : World) → step m w a ≡ Stepped u event.Spawned → step m w b ≡ Stepped v event.Spawned
    → (x : World) × (y : World) × (step m v a ≡ Stepped x event.Spawned) × (step m u b ≡ Stepped y event.Spawned)
    × AreAlike (activities_swapped (length w.activities) x) y

-- Activities a and b each start one, and then schedule s leads to world z. It may as well be b first: then s goes on by the numbers that
-- the two new ones have so, to a world that is alike once they have each other's number; each activity has the same events, and the same
-- list is printed.
pub record GoesInEitherOrder (m : ModuleValue) (w : World) (a b : ℕ) (s : List ℕ) (z : World) : Type 0 where
  pub last : World
  pub legal : run m (b ∷ a ∷ map (renamed (length w.activities)) s) w ≡ Through last
  pub alike : AreAlike (activities_swapped (length w.activities) last) z
  pub rest : List (ℕ × Event)
  pub this : events m (a ∷ b ∷ s) w ≡ (a, event.Spawned) ∷ (b, event.Spawned) ∷ rest
  pub other : events m (b ∷ a ∷ map (renamed (length w.activities)) s) w
      ≡ (b, event.Spawned) ∷ (a, event.Spawned) ∷ map (entry_renamed (length w.activities)) rest
  pub prints : printed m (b ∷ a ∷ map (renamed (length w.activities)) s) w ≡ printed m (a ∷ b ∷ s) w
