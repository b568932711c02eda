-- Steps of a run as JSON values, and those who came last at each phase of a clock, and who came earlier. This project's own.
use Rattle.std.specs.Prelude.{ℕ, suc, ◌+◌, ◌-◌, List, [], ◌∷◌, ◌++◌, flat_map, codes}
use Rattle.serde_json.specs.Data.{Data, array}
use Rattle.serde_json.specs.View.{items_of}
use Rattle.xk_json.specs.Objects.{Group, array_of, number_value, object_of}
use Rattle.xk_show_events.specs.declared.steps.RunStep.{RunStep}
use Rattle.xk_show_events.specs.Events.{PlacesValue, origin_of}
use Rattle.xk_races.specs.declared.deeds.Deed.{Deed}
use Rattle.xk_races.specs.declared.deeds.Part.{Part}
use Rattle.xk_races.specs.declared.deeds.Part.TheVariants as part
use Rattle.xk_races.specs.Lists.{number_at}
use Rattle.xk_show_json.specs.Events.{origin_members, step_members}
use Rattle.xk_show_span.specs.declared.phases.Arrival.{Arrival}
use Rattle.xk_show_span.specs.Phases.{Coming, coming_with, if_awaited, if_earlier, if_last, last_round, nobody}

-- which step it was, whose, what it did, and where: `{"act":3,"column":17,"event":"arrive","line":11,"place":5,"step":121,"unit":2}`
abbrev pub step_groups : PlacesValue → RunStep → List Group
step_groups p s = step_members s ∷ origin_members (origin_of p s.unit s.place) ∷ []

abbrev pub step_value : PlacesValue → RunStep → Data
step_value p s = object_of (step_groups p s)

-- one of those who came last at a phase
abbrev pub last_value : PlacesValue → Arrival → Data
last_value p a = step_value p a.step

-- one who came earlier, by so many rounds: `{"act":0,"rounds":33}`
abbrev pub earlier_groups : ℕ → Arrival → List Group
earlier_groups round a = ((codes "act", number_value a.step.act) ∷ (codes "rounds", number_value (round - a.round)) ∷ []) ∷ []

abbrev pub earlier_value : ℕ → Arrival → Data
earlier_value round a = object_of (earlier_groups round a)

-- who came earlier, and who last
abbrev pub came_members : PlacesValue → ℕ → List Arrival → Group
came_members p round came =
    (codes "earlier", array_of (earlier_value round) (flat_map (if_earlier round) came))
    ∷ (codes "last", array_of (last_value p) (flat_map (if_last round) came))
    ∷ []

-- a phase of a clock, the round of those who came last, and who came
abbrev pub phase_groups : PlacesValue → ℕ → ℕ → ℕ → List Arrival → List Group
phase_groups p c phase round came =
    ((codes "clock", number_value c) ∷ (codes "phase", number_value phase) ∷ (codes "round", number_value round) ∷ [])
    ∷ came_members p round came
    ∷ []

abbrev pub phase_value : PlacesValue → ℕ → ℕ → List Arrival → Data
phase_value p c phase came = object_of (phase_groups p c phase (last_round 0 came) came)

-- of an advance the phase that it ends
abbrev pub phase_items : PlacesValue → Part → Coming → List Data
phase_items p (part.Advance c) k = phase_value p c (number_at k.phases c + 1) (flat_map (if_awaited c) k.arrivals) ∷ []
phase_items p other k = []

abbrev pub phases_from : PlacesValue → List ℕ → ℕ → Coming → List Deed → List Data
phases_from p times i k [] = []
phases_from p times i k (d ∷ ds) =
    phase_items p d.part k ++ phases_from p times (suc i) (coming_with d.part d (number_at times i) k) ds

-- all phases in order of the run, by the times of deeds
abbrev pub phases_value : PlacesValue → List ℕ → List Deed → Data
phases_value p times ds = array (items_of (phases_from p times 0 nobody ds))
