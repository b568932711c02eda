-- Who can take a step, as the code sees it: by the status alone, and at an `advance` by what holds the activity back, at an `endfinish` by
-- who is awaited.
use Rattle.std.specs.Prelude.{ℕ, Bool, true, false, not, Option, Some, None, slice_get}
use Rattle.xk_types.specs.declared.world.Status.{Status}
use Rattle.xk_types.specs.declared.world.Status.TheVariants as status
use Rattle.xk_types.specs.World.{Activity, World}
use Rattle.xk_types.specs.declared.instr.Instr.{Instr}
use Rattle.xk_types.specs.declared.instr.Instr.TheVariants as instr
use Rattle.xk_types.specs.Code.{ModuleValue}
use Rattle.xk_types.specs.Step.{waits, awaits, innermost}
use Rattle.xk_core.specs.Core.{next_instruction}

abbrev pub able_by : World → ℕ → Status → Bool
able_by w a status.Running = true
able_by w a status.Arrived = not (waits w a)
able_by w a status.Ended = false

abbrev pub able_of : World → ℕ → Option Activity → Bool
able_of w a None = false
able_of w a (Some act) = able_by w a act.status

-- activity a exists, isn't over, and isn't held back by a clock at an `advance`
abbrev pub is_able : World → ℕ → Bool
is_able w a = able_of w a (slice_get w.activities a)

abbrev pub kept_by : World → ℕ → Option Activity → Option Instr → Bool
kept_by w a None o = false
kept_by w a (Some act) None = false
kept_by w a (Some act) (Some (instr.EndFinish b)) = awaits w.activities (innermost a act)
kept_by w a (Some act) (Some _) = false

-- activity a stands at an `endfinish`, and somebody under the finish hasn't ended
abbrev pub is_kept : ModuleValue → World → ℕ → Bool
is_kept m w a = kept_by w a (slice_get w.activities a) (next_instruction m w a)
