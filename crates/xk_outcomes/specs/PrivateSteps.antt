-- Steps that a search takes before all others: whatever others do meanwhile has nothing to do with them. This project's own.
use Rattle.std.specs.Prelude.{ℕ, Bool, true, ◌&&◌}
use Rattle.std.specs.Option.{option_map_or}
use Rattle.xk_types.specs.Code.{ModuleValue}
use Rattle.xk_types.specs.World.{World}
use Rattle.xk_types.specs.Schedule.{is_enabled}
use Rattle.xk_law_commute.specs.Conflicts.{next_instruction}
use Rattle.xk_closed.specs.Futures.{is_private}

-- activity a can take a step, and its next instruction neither prints nor has to do with a shared number: it concerns activities, clocks and finishes alone
abbrev pub has_private_step : ModuleValue → World → ℕ → Bool
has_private_step m w a = is_enabled m w a && option_map_or is_private (next_instruction m w a) true
