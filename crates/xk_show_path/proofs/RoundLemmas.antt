-- The rounds of a run, by the pass along its deeds; and where the columns of its picture stand.
use Rattle.std.proofs.Common.{◌≡◌, ◌≤◌, ◌∙◌, ℕ, List, arith, ap, subst}
use Rattle.xk_show_events.specs.declared.steps.RunStep.{RunStep}
use Rattle.xk_races.specs.declared.deeds.Deed.{Deed}
use Rattle.xk_span.specs.Steps.{critical_steps, steps_times}
use Rattle.xk_show_lanes.specs.declared.grid.Grid.{Grid}
use Rattle.xk_show_picture.specs.Sheet.{sheet_of}
use Rattle.xk_show_path.specs.Rounds.{Rounds, rounds_by, rounds_of}

abbrev rounds_with : List ℕ → List RunStep → Rounds
rounds_with rounds path = record { rounds = rounds; path = path }

-- by the times and the path of these deeds
pub rounds_are : (ds run : List Deed) (times rounds : List ℕ) (path : List RunStep) → ds ≡ run → times ≡ steps_times ds
    → rounds ≡ rounds_by times ds → path ≡ critical_steps ds → rounds_with rounds path ≡ rounds_of run
rounds_are ds run times rounds path is timed rounded found =
    ap (λ r. rounds_with r path) (rounded ∙ ap (λ t. rounds_by t ds) timed)
    ∙ ap (rounds_with (rounds_by (steps_times ds) ds)) found
    ∙ ap rounds_of is

-- no column begins further right than this
pub left_small : (g : Grid) (signs clocks : ℕ) → (sheet_of g signs clocks).left ≤ 416
left_small g signs clocks = omega arith
