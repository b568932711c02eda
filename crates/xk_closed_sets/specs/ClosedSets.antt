-- Closed sets of activities, as the code finds them.
use Rattle.std.specs.Prelude.{◌≡◌, ℕ, ◌⊎◌, Bool, true, false, List, Some, slice_index_or}
use Rattle.std.specs.Option.{option_map_or}
use Rattle.xk_types.specs.declared.instr.Instr.{Instr}
use Rattle.xk_types.specs.Code.{ModuleValue}
use Rattle.xk_types.specs.World.{World}
use Rattle.xk_types.specs.Schedule.{is_enabled}
use Rattle.xk_law_commute.specs.Conflicts.{next_instruction}
use Rattle.xk_law_traces.specs.Edges.{AreApart, prints}
use Rattle.xk_closed.specs.Closed.{IsClosed, IsStuck}
use Rattle.xk_closed.specs.Footprints.{Table, IsBounded, MayDo}
use Rattle.xk_closed.specs.Phases.{IsHeldUp}
use Rattle.xk_types.specs.Step.{innermost, is_under}
use Rattle.xk_activity.specs.Activities.{act_at}
use Rattle.xk_core.specs.Core.{is_living}
use Rattle.xk_closed_sets.specs.declared.footprint.Footprint.{Footprint}
use Rattle.xk_closed_sets.specs.Footprint.{has}

-- the set of those activities for which a list says yes
abbrev pub is_in : List Bool → ℕ → Bool
is_in members a = slice_index_or members a false

-- somebody who is in the set, or isn't, can take a step
pub record HasEnabled (m : ModuleValue) (w : World) (set : ℕ → Bool) (inside : Bool) : Type 0 where
  pub act : ℕ
  pub is : set act ≡ inside
  pub enabled : is_enabled m w act ≡ true

-- The set is closed, and somebody of it can take a step: so the steps of its members suffice. And somebody else can take one, too: so one
-- step at least is spared.
pub record IsSparing (m : ModuleValue) (w : World) (set : ℕ → Bool) : Type 0 where
  pub closed : IsClosed m w set
  pub free : HasEnabled m w set true
  pub spared : HasEnabled m w set false

-- somebody of the set holds activity r up on a clock
pub record IsHeldBySet (w : World) (set : ℕ → Bool) (r : ℕ) : Type 0 where
  pub clock : ℕ
  pub holder : ℕ
  pub inside : set holder ≡ true
  pub held : IsHeldUp w clock r holder

-- somebody of the set who hasn't ended is under the finish that activity r opened last
pub record HasLivingUnder (w : World) (set : ℕ → Bool) (r : ℕ) : Type 0 where
  pub child : ℕ
  pub inside : set child ≡ true
  pub alive : is_living w child ≡ true
  pub under : is_under w.activities (innermost r (act_at w.activities r)) child ≡ true

-- Member a can take a step that has nothing to do with the instructions of the footprint; or it takes none as long as nobody of the set
-- moves.
pub record IsMember (m : ModuleValue) (w : World) (set : ℕ → Bool) (f : Footprint) (a : ℕ) : Type 0 where
  pub moves : (is_enabled m w a ≡ true) ⊎ IsStuck m w set a
  pub apart : is_enabled m w a ≡ true → (j : Instr) → has f j ≡ true → AreApart (Some j) (next_instruction m w a)
  pub silent : is_enabled m w a ≡ true → (j : Instr) → has f j ≡ true
      → (option_map_or prints (next_instruction m w a) false ≡ false) ⊎ (prints j ≡ false)

-- what outsider r may do, as long as nobody of the set moves, is in the footprint
abbrev pub IsOutsider : ModuleValue → World → (ℕ → Bool) → Table → Table → Footprint → ℕ → Type 0
IsOutsider m w set rest phase f r = ((j : Instr) → MayDo rest (act_at w.activities r) j → has f j ≡ true)
    ⊎ (IsBounded w set rest phase (has f) r (act_at w.activities r) ⊎ IsStuck m w set r)

-- one or the other, by whether activity a is in the set
pub record IsFitting (m : ModuleValue) (w : World) (set : ℕ → Bool) (rest phase : Table) (f : Footprint) (a : ℕ) : Type 0 where
  pub member : set a ≡ true → IsMember m w set f a
  pub outsider : set a ≡ false → IsOutsider m w set rest phase f a
