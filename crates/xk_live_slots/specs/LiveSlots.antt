-- For each place of each unit the slots that are live there, as the code keeps them: a word for each place, by units, by places. This
-- project's own.
use Rattle.std.specs.Prelude.{◌≡◌, ℕ, ◌==◌, ◌||◌, Bool, true, List, Some, nat_le, option_and_then, slice_get}
use Rattle.std.specs.Int.{bit_at}
use Rattle.std.specs.Option.{option_map_or}
use Rattle.xk_types.specs.declared.instr.Instr.{Instr}
use Rattle.xk_types.specs.declared.world.Value.{Value}
use Rattle.xk_types.specs.Code.{ModuleValue, UnitValue}
use Rattle.xk_liveness.specs.Liveness.{SlotTable, before}

-- a module, and the words of its places
pub record LiveSlotsValue : Type 0 where
  pub module_run : ModuleValue
  pub words : List (List ℕ)

-- the bit of the slot is set; a slot that has no bit counts as one whose bit is
abbrev pub is_in : ℕ → ℕ → Bool
is_in word s = nat_le 64 s || (bit_at word s == 1)

-- the slot is live at a place of one unit; where there is no word all slots are
abbrev pub live_at : List ℕ → ℕ → ℕ → Bool
live_at row p s = option_map_or (λ word. is_in word s) (slice_get row p) true

-- the same as a table, by units
abbrev pub live_in : List (List ℕ) → SlotTable
live_in words u p s = option_map_or (λ row. live_at row p s) (slice_get words u) true

-- the table of what is kept
abbrev pub live_of : LiveSlotsValue → SlotTable
live_of l = live_in l.words

-- each slot that is live before this instruction, at place p of unit u, is in the table
abbrev pub HasBefore : ModuleValue → SlotTable → ℕ → ℕ → Instr → Type 0
HasBefore m live u p i = (slots : List Value) (s : ℕ) → before m live (record { unit = u; place = p; slots = slots }) i s ≡ true
    → live u p s ≡ true

-- so it is of each instruction of a unit
abbrev pub HasLiveIn : ModuleValue → SlotTable → ℕ → List Instr → Type 0
HasLiveIn m live u code = (p : ℕ) (i : Instr) → slice_get code p ≡ Some i → HasBefore m live u p i
