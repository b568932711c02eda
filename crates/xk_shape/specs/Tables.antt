-- What the tables of a unit say: how each place lies, and where each slot is at home. This project's own.
use Rattle.std.specs.Prelude.{◌≡◌, ℕ, ◌<◌, Bool, List, length, slice_get, Option, Some, if◌then◌else◌}
use Rattle.std.specs.List.{position}
use Rattle.xk_types.specs.Code.{UnitValue}
use Rattle.xk_types.specs.Blocks.{block_at, same_block, takes_clock, makes, homes, is_elsewhere}
use Rattle.xk_shape.specs.Places.{AreFirstPlaces}
use Rattle.xk_shape.specs.declared.tables.Tables.{Tables}

-- A place that stands directly in the slot's home, if it has one: the first of the unit for a parameter that takes a clock, else the
-- first that makes its clock.
abbrev pub home_place : UnitValue → ℕ → Option ℕ
home_place u s = if takes_clock (slice_get u.params s) then Some 0 else position (makes s) u.code

-- so the first slots have their homes
abbrev pub AreFirstHomes : UnitValue → List (Option ℕ) → Type 0
AreFirstHomes u hs = (s : ℕ) → s < length hs → slice_get hs s ≡ Some (home_place u s)

-- the two places stand directly in the same block
abbrev pub is_one_block : UnitValue → ℕ → ℕ → Bool
is_one_block u a b = same_block (block_at u a) (block_at u b)

-- the slot has a home, and it is another block than that of the place
abbrev pub is_at_home_elsewhere : UnitValue → ℕ → ℕ → Bool
is_at_home_elsewhere u at s = is_elsewhere (block_at u at) (homes u s)

-- the tables are those of the unit: they have each place and each slot
pub record AreTables (u : UnitValue) (t : Tables) : Type 0 where
  pub all_places : length t.places.items ≡ length u.code
  pub places : AreFirstPlaces u t.places.items
  pub all_slots : length t.homes.items ≡ u.slots
  pub homes : AreFirstHomes u t.homes.items
