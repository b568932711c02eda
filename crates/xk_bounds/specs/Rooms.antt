-- The rooms of units, as the verifier reckons them. This project's own.
use Rattle.std.specs.Prelude.{◌≡◌, ℕ, ◌+◌, ◌<◌, ◌≤◌, List, length, map, slice_index_or}
use Rattle.std.specs.Option.{option_map_or}
use Rattle.xk_types.specs.declared.instr.Instr.{Instr}
use Rattle.xk_types.specs.Code.{UnitValue, ModuleValue, unit_called}
use Rattle.xk_types.specs.Bound.{greatest, stack_of, frames_of, nesting, room_of, slots_made, made_of}
use Rattle.xk_bounds.specs.declared.room.Room.{Room}

-- no room at all
abbrev pub nothing : Room
nothing = record { slots = 0; frames = 0; finishes = 0; made = 0 }

-- ---- a table that says a room of each unit

-- the slots that a table says of a unit
abbrev pub slots_in : List Room → ℕ → ℕ
slots_in table t = (slice_index_or table t nothing).slots

-- the frames
abbrev pub frames_in : List Room → ℕ → ℕ
frames_in table t = (slice_index_or table t nothing).frames

-- the finishes
abbrev pub finishes_in : List Room → ℕ → ℕ
finishes_in table t = (slice_index_or table t nothing).finishes

-- the slots in which clocks are made
abbrev pub made_in : List Room → ℕ → ℕ
made_in table t = (slice_index_or table t nothing).made

-- ---- what a unit needs, where a table says a number of each unit that it calls

-- the number of the unit that an instruction calls
abbrev pub called_by : (ℕ → ℕ) → Instr → ℕ
called_by table i = option_map_or table (unit_called i) 0

-- the most among those that instructions call
abbrev pub most_called : (ℕ → ℕ) → List Instr → ℕ
most_called table code = greatest (map (called_by table) code)

-- the room of the unit that an instruction calls
pub record IsCalled (table : List Room) (i : Instr) (r : Room) : Type 0 where
  pub slots : r.slots ≡ called_by (slots_in table) i
  pub frames : r.frames ≡ called_by (frames_in table) i
  pub finishes : r.finishes ≡ called_by (finishes_in table) i
  pub made : r.made ≡ called_by (made_in table) i

-- the most among the rooms of those that instructions call
pub record IsGreatest (table : List Room) (code : List Instr) (r : Room) : Type 0 where
  pub slots : r.slots ≡ most_called (slots_in table) code
  pub frames : r.frames ≡ most_called (frames_in table) code
  pub finishes : r.finishes ≡ most_called (finishes_in table) code
  pub made : r.made ≡ most_called (made_in table) code

-- the room of a unit, by the table
pub record IsRoomBy (table : List Room) (u : UnitValue) (r : Room) : Type 0 where
  pub slots : r.slots ≡ u.slots + most_called (slots_in table) u.code
  pub frames : r.frames ≡ 1 + most_called (frames_in table) u.code
  pub finishes : r.finishes ≡ nesting u + most_called (finishes_in table) u.code
  pub made : r.made ≡ slots_made u + most_called (made_in table) u.code

-- ---- the rooms of a module

-- So small is each, since at most 1,024 units stand one below another, each of at most 64 slots and 4,096 instructions.
pub record IsSmall (r : Room) : Type 0 where
  pub slots : r.slots ≤ 65536
  pub frames : r.frames ≤ 1024
  pub finishes : r.finishes ≤ 4194304
  pub made : r.made ≤ 65536

-- the room of a unit of the module
pub record IsRoom (m : ModuleValue) (unit : ℕ) (r : Room) : Type 0 where
  pub slots : r.slots ≡ stack_of m unit
  pub frames : r.frames ≡ frames_of m unit
  pub finishes : r.finishes ≡ room_of m unit
  pub made : r.made ≡ made_of m unit

-- the list has the room of each unit
pub record AreRooms (m : ModuleValue) (rooms : List Room) : Type 0 where
  pub long : length rooms ≡ length m.units
  pub each : (unit : ℕ) → unit < length m.units → IsRoom m unit (slice_index_or rooms unit nothing)
