-- What a step does to the standings of its activity.
use Rattle.std.specs.Prelude.{◌≡◌, ℕ, false, List}
use Rattle.std.specs.List.{list_any}
use Rattle.xk_types.specs.declared.world.Standing.{Standing}
use Rattle.xk_types.specs.World.{Clock, standing_of}
use Rattle.xk_types.specs.Step.{is_signalled, resumed, passed, dropped, none, only, all}
use Rattle.xk_registrations.specs.declared.affected_clocks.Which.{Which}
use Rattle.xk_registrations.specs.declared.affected_clocks.Which.TheVariants as which
use Rattle.xk_core.specs.declared.change.StandingChange.{StandingChange}
use Rattle.xk_core.specs.declared.change.StandingChange.TheVariants as standing_change
use Rattle.xk_core.specs.declared.change.StepChange.{StepChange}
use Rattle.xk_core.specs.declared.change.StepChange.TheVariants as step_change

-- where an activity stands on a clock after a change of that standing
abbrev pub standing_after : StandingChange → Standing → Standing
standing_after standing_change.Resume s = resumed s
standing_after standing_change.Pass s = passed s
standing_after standing_change.Drop s = dropped s

-- where the activity of a step stands on clock k after it
abbrev pub standing_after_step : StepChange → ℕ → Standing → Standing
standing_after_step step_change.Nothing k s = none k s
standing_after_step (step_change.Only c one) k s = only c (standing_after one) k s
standing_after_step (step_change.All one) k s = all (standing_after one) k s

-- a pass comes where activity a is signalled on none of the clocks, and is one of all clocks; any other change may come anywhere
abbrev pub AllowsChangeOn : List Clock → ℕ → Which → StandingChange → Type 0
AllowsChangeOn cs a w standing_change.Resume = Unit {0}
AllowsChangeOn cs a w standing_change.Drop = Unit {0}
AllowsChangeOn cs a w standing_change.Pass = (w ≡ which.All) × (list_any (λ c. is_signalled (standing_of c a)) cs ≡ false)

abbrev pub AllowsChange : List Clock → ℕ → StepChange → Type 0
AllowsChange cs a step_change.Nothing = Unit {0}
AllowsChange cs a (step_change.Only k one) = AllowsChangeOn cs a (which.Only k) one
AllowsChange cs a (step_change.All one) = AllowsChangeOn cs a which.All one
