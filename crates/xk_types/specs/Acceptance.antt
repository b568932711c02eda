-- What the verifier accepts, and what holds of every schedule of an accepted module. Both are this project's own.
use Rattle.std.specs.Prelude.{◌≡◌, ℕ, ◌+◌, ◌≤◌, true, false, List, ℤ, length, All, sum_by}
use Rattle.xk_types.specs.declared.rules.Rule.{Rule}
use Rattle.xk_types.specs.declared.rules.Visit.{Visit}
use Rattle.xk_types.specs.Code.{ModuleValue}
use Rattle.xk_types.specs.World.{Activity, World, opening, AreArguments}
use Rattle.xk_types.specs.Step.{Cause}
use Rattle.xk_types.specs.Schedule.{Wronged, run, Leads, is_enabled, all_ended}
use Rattle.xk_types.specs.Walk.{IsRefusedAt}
use Rattle.xk_types.specs.Shape.{HasShape}
use Rattle.xk_types.specs.Bound.{steps_bound, activities_bound, clocks_bound, stack_bound, IsWithinBounds}

-- the module has the shape, no walk ends at a refusal, and the bounds are within their limits
pub record IsAccepted (m : ModuleValue) : Type 0 where
  pub shape : HasShape m
  pub kinds : (unit s : ℕ) (q : Visit) (r : Rule) → IsRefusedAt m unit s q r → ⊥
  pub bounds : IsWithinBounds m

-- how many slots the frames of an activity have
abbrev pub slots_held : Activity → ℕ
slots_held act = length act.frame.slots + sum_by (λ f. length f.slots) act.callers

-- What holds of every schedule of a module, whoever made it.
pub record EverySchedule (m : ModuleValue) : Type 0 where
  -- no step of any list raises ClockUseException or meets a missing or wrong operand
  pub never_wrong : (args : List ℤ) → AreArguments m args → (list : List ℕ) (w : World) (c : Cause) → run m list (opening m args) ≡ Wronged w c → ⊥
  -- a legal list has at most the verified number of steps
  pub steps : (list : List ℕ) (w : World) → Leads m list w → length list ≤ steps_bound m
  pub activities : (list : List ℕ) (w : World) → Leads m list w → length w.activities ≤ activities_bound m
  pub clocks : (list : List ℕ) (w : World) → Leads m list w → length w.clocks ≤ clocks_bound m
  pub stack : (list : List ℕ) (w : World) → Leads m list w → All (λ act. slots_held act ≤ stack_bound m) w.activities
  -- if it can't be extended, every activity has ended
  pub ends : (list : List ℕ) (w : World) → Leads m list w → ((a : ℕ) → is_enabled m w a ≡ false) → all_ended w ≡ true
