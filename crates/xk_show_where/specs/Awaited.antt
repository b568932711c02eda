-- Whom activities wait for, as tables that are made once for a world: for each clock who holds it back, for each activity whom it awaits.
use Rattle.std.specs.Prelude.{◌≡◌, ℕ, ◌<◌, Bool, false, List, length, Some, slice_get}
use Rattle.std.specs.Option.{option_map_or}
use Rattle.xk_types.specs.World.{World}
use Rattle.xk_types.specs.Step.{innermost, is_under}
use Rattle.xk_activity.specs.Activities.{act_at}
use Rattle.xk_core.specs.Core.{governor}
use Rattle.xk_show_events.specs.Worlds.{those_below}
use Rattle.xk_show_where.specs.Excerpts.{ExcerptValue, excerpt_of}
use Rattle.xk_show_where.specs.Pieces.{pieces_below}
use Rattle.xk_show_where.specs.Where.{held_words, is_awaited}

-- activity b is under the finish that its governor opened last: so that one governs it
abbrev pub is_in_innermost : World → ℕ → Bool
is_in_innermost w b = option_map_or (λ a. is_under w.activities (innermost a (act_at w.activities a)) b) (governor w b) false

-- whom each activity awaits among the first n
abbrev pub AreAwaited : World → ℕ → List ExcerptValue → Type 0
AreAwaited w n table = (a : ℕ) → a < length w.activities → slice_get table a ≡ Some (excerpt_of (those_below (is_awaited w a) n))

pub record WaitsValue : Type 0 where
  pub held : List (List ℕ)
  pub awaited : List ExcerptValue

-- they are those of a world
pub record AreWaitsOf (w : World) (t : WaitsValue) : Type 0 where
  pub held : t.held ≡ pieces_below (held_words w) (length w.clocks)
  pub awaited : AreAwaited w (length w.activities) t.awaited
