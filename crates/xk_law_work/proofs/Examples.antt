-- What is told of two runs of a program without a race, by evaluation: main makes a clock and starts an activity with it, and both wait for
-- the clock. Main comes to wait first in the one run, and the other activity in the other.
use Rattle.std.proofs.Common.{◌≡◌, ℕ, List, [], ◌∷◌, map, true, refl}
use Rattle.xk_types.specs.declared.world.Entry.{Entry}
use Rattle.xk_types.specs.Logs.{one_step_of}
use Rattle.xk_law_schedules.proofs.Examples.Pair.{pair_row}
use Rattle.xk_races.specs.Races.{is_race_free}
use Rattle.xk_span.specs.Steps.{steps_of_run, steps_span, steps_times, work_of}
use Rattle.xk_span_summary.specs.Counts.{greatest}
use Rattle.xk_span_summary.specs.Shares.{least_rounds, level_rounds, widths_of}

abbrev main_first : List Entry
main_first = map one_step_of (0 ∷ 0 ∷ 0 ∷ 0 ∷ 1 ∷ 1 ∷ 1 ∷ 0 ∷ 0 ∷ 0 ∷ 1 ∷ 1 ∷ 1 ∷ [])

abbrev main_last : List Entry
main_last = map one_step_of (0 ∷ 0 ∷ 0 ∷ 1 ∷ 1 ∷ 1 ∷ 0 ∷ 0 ∷ 0 ∷ 0 ∷ 1 ∷ 1 ∷ 1 ∷ [])

-- nine of thirteen steps come one after another, in both
pair_spans : (is_race_free pair_row [] main_first ≡ true) × (work_of (steps_of_run pair_row [] main_first) ≡ 13)
    × (steps_span (steps_of_run pair_row [] main_first) ≡ 9) × (steps_span (steps_of_run pair_row [] main_last) ≡ 9)
pair_spans = (refl, refl, refl, refl)

abbrev widths : List Entry → List ℕ
widths log = widths_of (steps_times (steps_of_run pair_row [] log)) (steps_of_run pair_row [] log)

-- at most two of them are in one round, in both; on one processor they take thirteen rounds, on two nine
pair_widths : (widths main_first ≡ widths main_last) × ((greatest (widths main_first)).many ≡ 2)
    × (least_rounds 1 13 9 ≡ 13) × (level_rounds 1 (widths main_first) ≡ 13)
    × (least_rounds 2 13 9 ≡ 9) × (level_rounds 2 (widths main_first) ≡ 9)
pair_widths = (refl, refl, refl, refl, refl, refl)
