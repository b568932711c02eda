-- A footprint for each place of each unit, as the code keeps them: by units, by places.
use Rattle.std.specs.Prelude.{◌≡◌, ℕ, ◌+◌, ◌≤◌, true, false, List, [], length, Option, Some, option_and_then, slice_get, slice_index_or}
use Rattle.xk_types.specs.declared.instr.Instr.{Instr}
use Rattle.xk_types.specs.declared.instr.Instr.TheVariants as instr
use Rattle.xk_types.specs.Code.{UnitValue, ModuleValue}
use Rattle.xk_types.specs.Shape.{target}
use Rattle.xk_closed.specs.Footprints.{Table, is_advance}
use Rattle.xk_closed_sets.specs.declared.footprint.Footprint.{Footprint}
use Rattle.xk_closed_sets.specs.declared.places.Reach.{Reach}
use Rattle.xk_closed_sets.specs.Footprint.{Covers, has}

-- nothing of all that a footprint speaks of
abbrev pub nothing : Footprint
nothing = record { reads = 0; puts = 0; adds = 0; prints = false; drops = false }

-- what is read where there is no such place
abbrev pub nowhere : Reach
nowhere = record { rest = nothing; phase = nothing }

-- what may be carried out from a place of a unit on
abbrev pub reach_at : List (List Reach) → ℕ → ℕ → Reach
reach_at rows u p = slice_index_or (slice_index_or rows u []) p nowhere

-- as tables: all of it, and what comes before the next pass of an `advance`
abbrev pub rest_in : List (List Reach) → Table
rest_in rows u p j = has (reach_at rows u p).rest j

abbrev pub phase_in : List (List Reach) → Table
phase_in rows u p j = has (reach_at rows u p).phase j

-- the instruction at a place of a unit, if there is one
abbrev pub instruction_in : ModuleValue → ℕ → ℕ → Option Instr
instruction_in m u p = option_and_then (λ unit. slice_get unit.code p) (slice_get m.units u)

-- where an instruction may go but to the next
abbrev pub leads : Instr → Option ℕ
leads (instr.Next b) = Some (b + 1)
leads i = target i

-- ---- what the tables of a place have to have

-- the instruction itself, and in `rest` all that is in `phase`
pub record HasOwn (here : Reach) (i : Instr) : Type 0 where
  pub rest : has here.rest i ≡ true
  pub phase : has here.phase i ≡ true
  pub within : Covers here.rest here.phase

-- what there is at a place to which the instruction goes; but past an `advance` no `phase` goes
pub record HasThere (here there : Reach) (i : Instr) : Type 0 where
  pub rest : Covers here.rest there.rest
  pub phase : is_advance i ≡ false → Covers here.phase there.phase

-- what the unit does that it calls or starts; and behind a call, where the other `phase` is done, all the rest
abbrev pub HasRun : List (List Reach) → Reach → Reach → Instr → Type 0
HasRun rows here behind (instr.Call t args) =
    Covers here.rest (reach_at rows t 0).rest × (Covers here.phase (reach_at rows t 0).phase × Covers here.phase behind.rest)
HasRun rows here behind (instr.Spawn t args) = Covers here.rest (reach_at rows t 0).rest × Covers here.phase (reach_at rows t 0).rest
HasRun rows here behind _ = Unit {0}

-- all of this, for the instruction at place p of unit u
pub record IsClosedAt (rows : List (List Reach)) (u p : ℕ) (i : Instr) : Type 0 where
  pub own : HasOwn (reach_at rows u p) i
  pub on : HasThere (reach_at rows u p) (reach_at rows u (p + 1)) i
  pub goes : (q : ℕ) → leads i ≡ Some q → HasThere (reach_at rows u p) (reach_at rows u q) i
  pub runs : HasRun rows (reach_at rows u p) (reach_at rows u (p + 1)) i

-- for each instruction of a unit; and there are no further places
pub record IsClosedIn (rows : List (List Reach)) (u : ℕ) (code : List Instr) : Type 0 where
  pub few : length (slice_index_or rows u []) ≤ length code
  pub each : (p : ℕ) (i : Instr) → slice_get code p ≡ Some i → IsClosedAt rows u p i

-- for each unit; and there are no further units
pub record AreClosed (rows : List (List Reach)) (units : List UnitValue) : Type 0 where
  pub few : length rows ≤ length units
  pub each : (u : ℕ) (x : UnitValue) → slice_get units u ≡ Some x → IsClosedIn rows u x.code
