-- The instruction that an activity stands at, by its unit and place.
use Rattle.std.proofs.Common.{◌≡◌, ℕ, ◌<◌, length, ap, option_and_then}
use Rattle.std.proofs.lemmas.Option.{slice_get-get_or}
use Rattle.xk_types.specs.Code.{ModuleValue}
use Rattle.xk_types.specs.World.{Activity, World, instruction_at}
use Rattle.xk_law_commute.specs.Conflicts.{next_instruction}
use Rattle.xk_activity.specs.Activities.{act_at, nobody}
use Rattle.xk_closed_sets.specs.Places.{instruction_in}

pub stands_at : (m : ModuleValue) (w : World) (a : ℕ) → a < length w.activities
    → next_instruction m w a ≡ instruction_in m (act_at w.activities a).frame.unit (act_at w.activities a).frame.place
stands_at m w a there = ap (option_and_then (λ (x : Activity). instruction_at m x.frame)) (slice_get-get_or w.activities a nobody there)
