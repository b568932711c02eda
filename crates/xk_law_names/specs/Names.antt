-- Worlds that are the same but for numbers of clocks and of activities, and steps that commute up to that.
use Rattle.std.specs.Prelude.{◌≡◌, ℕ, suc, ◌<◌, ◌&&◌, List, [], ◌∷◌, length, if◌then◌else◌}
use Rattle.xk_types.specs.declared.world.Event.{Event}
use Rattle.xk_types.specs.Code.{ModuleValue}
use Rattle.xk_types.specs.World.{World}
use Rattle.xk_types.specs.Step.{Stepped, step}
use Rattle.xk_types.specs.Schedule.{all_ended}
use Rattle.xk_law_commute.specs.PlainWorlds.{AreAlike}
use Rattle.xk_law_commute.specs.Squares.{makes_next, starts_next}
use Rattle.xk_law_names.specs.ClockNames.{clocks_swapped}
use Rattle.xk_law_names.specs.ActivityNames.{renamed, activities_swapped}

-- Clocks k and k + 1 have each other's number, or activities k and k + 1. (All orders come of exchanges of neighbours.)
pub data Exchange : Type 0 where
  OfClocks : ℕ → Exchange
  OfActivities : ℕ → Exchange

-- the world in which they have
abbrev pub exchanged : Exchange → World → World
exchanged (OfClocks k) w = clocks_swapped k w
exchanged (OfActivities k) w = activities_swapped k w

-- both are there in the world
abbrev pub IsPair : Exchange → World → Type 0
IsPair (OfClocks k) w = suc k < length w.clocks
IsPair (OfActivities k) w = suc k < length w.activities

-- the number that activity a then has
abbrev pub named : Exchange → ℕ → ℕ
named (OfClocks k) a = a
named (OfActivities k) a = renamed k a

-- the world after one exchange after the other
abbrev pub all_exchanged : List Exchange → World → World
all_exchanged [] w = w
all_exchanged (x ∷ xs) w = all_exchanged xs (exchanged x w)

-- both of each exchange are there when it comes
abbrev pub ArePairs : List Exchange → World → Type 0
ArePairs [] w = Unit {0}
ArePairs (x ∷ xs) w = IsPair x w × ArePairs xs w

-- the number that activity a has after one exchange after the other
abbrev pub all_named : List Exchange → ℕ → ℕ
all_named [] a = a
all_named (x ∷ xs) a = all_named xs (named x a)

-- by these exchanges world w is like v
pub record AreSameBy (xs : List Exchange) (w v : World) : Type 0 where
  pub there : ArePairs xs w
  pub alike : AreAlike (all_exchanged xs w) v

-- An activity that can take a step in world w can take one in v by its number there, with the same event, to worlds that are the same by
-- these exchanges; all have ended in both worlds or in neither; and the shared numbers are the same.
pub record GoAsOne (m : ModuleValue) (xs : List Exchange) (w v : World) : Type 0 where
  pub steps : (u : World) (a : ℕ) (e : Event) → step m w a ≡ Stepped u e
      → (z : World) × (step m v (all_named xs a) ≡ Stepped z e) × AreSameBy xs u z
  pub ends : all_ended w ≡ all_ended v
  pub cells : w.cells ≡ v.cells

-- what the other order of two steps exchanges: the two new clocks, the two new activities, or nothing
abbrev pub exchange_of : ModuleValue → World → ℕ → ℕ → List Exchange
exchange_of m w a b =
    if makes_next m w a && makes_next m w b then OfClocks (length w.clocks) ∷ []
    else (if starts_next m w a && starts_next m w b then OfActivities (length w.activities) ∷ [] else [])

-- Where activities a and b can both take a step, each still can after the other's, with the same event, and both orders lead to worlds
-- that are the same but for what that exchanges.
abbrev pub IsSquareButNames : ModuleValue → World → ℕ → ℕ → Type 0
IsSquareButNames m w a b = (u v : World) (e f : Event) → step m w a ≡ Stepped u e → step m w b ≡ Stepped v f
    → (x : World) × (y : World) × (step m v a ≡ Stepped x e) × (step m u b ≡ Stepped y f) × AreSameBy (exchange_of m w a b) y x
