-- The steps that a step of a run rests on, by what the steps made. This project's own.
use Rattle.std.specs.Prelude.{ℕ, ◌-◌, nat_eq, nat_lt, Bool, false, not, ◌&&◌, List, [], ◌∷◌, ◌++◌, length, filter}
use Rattle.std.specs.Prelude.{Option, Some, None, slice_get, if◌then◌else◌}
use Rattle.std.specs.Option.{option_map_or}
use Rattle.xk_types.specs.Schedule.{is_local}
use Rattle.xk_why.specs.declared.flows.Flow.{Flow}
use Rattle.xk_why.specs.declared.flows.Location.{Location}
use Rattle.xk_why.specs.Slices.{slice_of, with_any}

-- what the steps before number n made
abbrev pub earlier : ℕ → List Flow → List Flow
earlier n fs = filter (λ f. nat_lt f.step.number n) fs

-- these, and what flow f uses, if its step is number n
abbrev pub wanted_with : ℕ → Flow → List Location → List Location
wanted_with n f wanted = if nat_eq f.step.number n then with_any (with_any wanted f.first) f.second else wanted

abbrev pub wanted_from : ℕ → List Location → List Flow → List Location
wanted_from n wanted [] = wanted
wanted_from n wanted (f ∷ fs) = wanted_from n (wanted_with n f wanted) fs

-- what step number n uses
abbrev pub wanted_by : ℕ → List Flow → List Location
wanted_by n fs = wanted_from n [] fs

-- it is the last one of these
abbrev pub is_last : List ℕ → ℕ → Bool
is_last list n = option_map_or (λ k. nat_eq k n) (slice_get list (length list - 1)) false

-- with the number of flow f's step, if others can see it: once, though the step made several things
abbrev pub with_step : Flow → List ℕ → List ℕ
with_step f list =
    if not (is_local f.step.event) && not (is_last list f.step.number) then list ++ f.step.number ∷ [] else list

abbrev pub with_step_if : Option Flow → List ℕ → List ℕ
with_step_if None list = list
with_step_if (Some f) list = with_step f list

abbrev pub with_step_of : List Flow → ℕ → List ℕ → List ℕ
with_step_of fs i list = with_step_if (slice_get fs i) list

abbrev pub steps_from : List Flow → List ℕ → List ℕ → List ℕ
steps_from fs list [] = list
steps_from fs list (i ∷ is) = steps_from fs (with_step_of fs i list) is

-- the numbers of the steps that step number n rests on and that others can see, the last first
abbrev pub rest_of : ℕ → List Flow → List ℕ
rest_of n fs = steps_from (earlier n fs) [] (slice_of (earlier n fs) (wanted_by n fs))
