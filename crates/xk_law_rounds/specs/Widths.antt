-- How many steps come in each round of a schedule.
use Rattle.std.specs.Prelude.{◌≡◌, ℕ, ◌≤◌, List, length, slice_get, Some}
use Rattle.xk_types.specs.Code.{ModuleValue}
use Rattle.xk_types.specs.World.{World}
use Rattle.xk_law_traces.specs.Edges.{StepName}
use Rattle.xk_law_rounds.specs.Rounds.{IsInRound}

-- These are the steps of schedule s that come in round n: each of them does, each that does is one of them, and none is there twice.
pub record AreInRound (m : ModuleValue) (w : World) (s : List ℕ) (n : ℕ) (list : List StepName) : Type 0 where
  pub each : (i : ℕ) (y : StepName) → slice_get list i ≡ Some y → IsInRound m w s y n
  pub all : (y : StepName) → IsInRound m w s y n → (i : ℕ) × (slice_get list i ≡ Some y)
  pub once : (i j : ℕ) (y : StepName) → slice_get list i ≡ Some y → slice_get list j ≡ Some y → i ≡ j

-- The width of round n is c: so many steps come in it.
abbrev pub HasWidth : ModuleValue → World → List ℕ → ℕ → ℕ → Type 0
HasWidth m w s n c = (list : List StepName) × AreInRound m w s n list × (length list ≡ c)

-- A widest round of the schedule has c steps.
pub record IsWidest (m : ModuleValue) (w : World) (s : List ℕ) (c : ℕ) : Type 0 where
  pub reached : (n : ℕ) × HasWidth m w s n c
  pub most : (n d : ℕ) → HasWidth m w s n d → d ≤ c
