-- What is told of a run that is timed is told of the log that it has.
use Rattle.std.proofs.Common.{◌≡◌, ◌∙◌, ℕ, ℤ, Bool, List, ap}
use Rattle.xk_types.specs.declared.world.Entry.{Entry}
use Rattle.xk_types.specs.Code.{ModuleValue}
use Rattle.xk_show_events.specs.Events.{PlacesValue}
use Rattle.xk_races.specs.declared.deeds.Deed.{Deed}
use Rattle.xk_races.specs.Races.{is_race_free}
use Rattle.xk_span.specs.Steps.{steps_of_run, steps_times}
use Rattle.xk_span_json.specs.Span.{span_value, value_by}

pub timed_value : (p : PlacesValue) (m : ModuleValue) (args : List ℤ) (log : List Entry) (free : Bool) (ds : List Deed) (times : List ℕ)
    → free ≡ is_race_free m args log → ds ≡ steps_of_run m args log → times ≡ steps_times ds
    → value_by p free ds times ≡ span_value p m args log
timed_value p m args log free ds times races deeds timed =
    ap (λ (t : List ℕ). value_by p free ds t) timed
    ∙ ap (λ (d : List Deed). value_by p free d (steps_times d)) deeds
    ∙ ap (λ (f : Bool). value_by p f (steps_of_run m args log) (steps_times (steps_of_run m args log))) races
