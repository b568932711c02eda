-- What a step does that neither starts an activity nor makes a clock: to its activity, to where that stands on clocks, and to at most one shared
-- number.
use Rattle.std.specs.Prelude.{◌≡◌, ℕ, ℤ, pos, Bool, true, false, List, Option, Some, None, slice_set, slice_index_or}
use Rattle.std.specs.Int.{w64, int_wrapping_add}
use Rattle.std.specs.Option.{option_map_or}
use Rattle.xk_types.specs.declared.instr.Instr.{Instr}
use Rattle.xk_types.specs.declared.instr.Instr.TheVariants as instr
use Rattle.xk_types.specs.declared.world.Standing.{Standing}
use Rattle.xk_types.specs.Code.{ModuleValue}
use Rattle.xk_types.specs.World.{ActivityOf, Activity, World}
use Rattle.xk_types.specs.Step.{resumed, dropped, passed, none, only, all, moved, settled}
use Rattle.xk_law_commute.specs.Conflicts.{next_instruction}

-- how where one stands changes
pub data Move : Type 0 where
  Rests : Move
  Resumes : ℕ → Move
  Drops : ℕ → Move
  Arrives : Move
  Passes : Move
  Ends : Move

abbrev pub change_by : Move → ℕ → Standing → Standing
change_by Rests = none
change_by (Resumes c) = only c resumed
change_by (Drops c) = only c dropped
change_by Arrives = all resumed
change_by Passes = all passed
change_by Ends = all dropped

-- the shared numbers, where one becomes what comes of it
abbrev pub written : Option (ℕ × (ℤ → ℤ)) → List ℤ → List ℤ
written None cells = cells
written (Some p) cells = slice_set cells p.0 (p.1 (slice_index_or cells p.0 (pos 0)))

-- the world after such a step of activity a
abbrev pub enacted : World → ℕ → Activity → Move → Option (ℕ × (ℤ → ℤ)) → World
enacted w a next move writes = settled (record w {
  activities = slice_set w.activities a next;
  clocks = moved a (change_by move) w.clocks;
  cells = written writes w.cells;
})

-- an activity that passed last in step t
abbrev pub aged : {F : Type 0} → ActivityOf F → ℕ → ActivityOf F
aged act t = record act { since = t }

-- to add a number, as an addition to a shared number does
abbrev pub IsSum : (ℤ → ℤ) → Type 0
IsSum g = (n : ℤ) × ((z : ℤ) → g z ≡ int_wrapping_add w64 z n)

-- it makes a clock, or starts an activity
abbrev pub begins : Instr → Bool
begins (instr.Make k) = true
begins (instr.Spawn t args) = true
begins _ = false

abbrev pub begins_next : ModuleValue → World → ℕ → Bool
begins_next m w a = option_map_or begins (next_instruction m w a) false

-- it prints
abbrev pub prints : Instr → Bool
prints (instr.Print x) = true
prints _ = false
