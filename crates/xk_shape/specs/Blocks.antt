-- Units that have blocks. This project's own.
use Rattle.std.specs.Prelude.{◌≡◌, ℕ, false}
use Rattle.xk_types.specs.Code.{UnitValue, IsUnitWithinLimits}
use Rattle.xk_types.specs.Shape.{breaks_target, breaks_block, breaks_slot, breaks_home}

-- its loops and finishes nest, and what instructions name is there
pub record IsOrderly (u : UnitValue) : Type 0 where
  pub limits : IsUnitWithinLimits u
  pub targets : (at : ℕ) → breaks_target u at ≡ false
  pub blocks : (at : ℕ) → breaks_block u at ≡ false
  pub slots : (at : ℕ) → breaks_slot u at ≡ false

-- and each slot has no more than one home
pub record HasBlocks (u : UnitValue) : Type 0 where
  pub orderly : IsOrderly u
  pub homes : (at : ℕ) → breaks_home u at ≡ false
