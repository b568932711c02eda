-- Those of what was found that are kept whole. This project's own.
use Rattle.std.specs.Prelude.{◌≡◌, ℕ, ◌-◌, List, Some, length, slice_get}
use Rattle.xk_outcomes.specs.declared.checkpoint.Checkpoint.{Checkpoint}
use Rattle.xk_outcomes.specs.Found.{FoundValue}

-- so many steps lead from one to the next
abbrev pub stride : ℕ
stride = 1_000

-- what is left of so much room beside one that is kept whole
abbrev pub room_beside : ℕ → FoundValue → ℕ
room_beside room x =
    let w = x.core.world in
    room - 4 - length w.activities - length w.clocks - length w.cells - length w.arguments - length x.printed

-- the one of its number is what it keeps
abbrev pub IsCheckpoint : List FoundValue → Checkpoint → Type 0
IsCheckpoint all c = slice_get all c.number ≡ Some c.found

-- each keeps the one of its number, and the first of them the first one
pub record AreCheckpoints (all : List FoundValue) (list : List Checkpoint) : Type 0 where
  pub first : Checkpoint
  pub there : slice_get list 0 ≡ Some first
  pub begins : first.number ≡ 0
  pub each : (i : ℕ) (c : Checkpoint) → slice_get list i ≡ Some c → IsCheckpoint all c
