-- How many lists of numbers can be read. This project's own.
use Rattle.std.specs.Prelude.{◌≡◌, ℕ, ◌≤◌, ◌^◌, ℤ, List, length}
use Rattle.xk_readings.specs.Graphs.{GraphValue}
use Rattle.xk_readings.specs.Readings.{Reads}
use Rattle.xk_readings.specs.Sets.{AreDifferent, Has}

-- these lists of numbers can be read from the first node, and none of them is there twice
pub record AreReadOnce (g : GraphValue) (lists : List (List ℤ)) : Type 0 where
  pub read : (numbers : List ℤ) → Has lists numbers → (n : ℕ) × (acts : List ℕ) × Reads g n 0 acts numbers
  pub once : AreDifferent lists

-- at least so many can be read
pub record AreAtLeast (g : GraphValue) (count : ℕ) : Type 0 where
  pub lists : List (List ℤ)
  pub read : AreReadOnce g lists
  pub many : count ≤ length lists

-- so many can be read, and no more
pub record AreAsMany (g : GraphValue) (count : ℕ) : Type 0 where
  pub lists : List (List ℤ)
  pub read : AreReadOnce g lists
  pub all : (n : ℕ) (acts : List ℕ) (numbers : List ℤ) → Reads g n 0 acts numbers → Has lists numbers
  pub many : count ≡ length lists

-- no count is greater
abbrev pub most_counted : ℕ
most_counted = 2 ^ 127
