-- The steps of a run as deeds: each of its steps weighs 1, those that nobody else sees, too. A step first waits for what it passes or
-- closes; then it is taken; then it lets others go on. So it is told as three: the deeds that wait, the step itself (a `Print`, which
-- orders nothing but an activity's own deeds), the deeds that let go. Accesses and prints, which order nothing either, aren't told again.
use Rattle.std.specs.Prelude.{ℕ, suc, ℤ, Bool, true, false, List, [], ◌∷◌, ◌++◌, flat_map, reverse}
use Rattle.std.specs.Prelude.{Option, Some, None, slice_get, if◌then◌else◌}
use Rattle.xk_types.specs.declared.world.Entry.{Entry}
use Rattle.xk_types.specs.Code.{ModuleValue}
use Rattle.xk_show_events.specs.declared.steps.RunStep.{RunStep}
use Rattle.xk_show_events.specs.Steps.{Teller, run_step, told_of_run}
use Rattle.xk_races.specs.declared.deeds.Deed.{Deed}
use Rattle.xk_races.specs.declared.deeds.Part.{Part}
use Rattle.xk_races.specs.declared.deeds.Part.TheVariants as part
use Rattle.xk_races.specs.Deeds.{deed, tell_deeds}
use Rattle.xk_span.specs.Chains.{Weights}
use Rattle.xk_span.specs.Times.{span_of, times_of}
use Rattle.xk_span.specs.Paths.{path_of}

-- ---- deeds

-- a deed that waits for others
abbrev pub waits : Part → Bool
waits (part.Pass c) = true
waits part.Close = true
waits _ = false

-- a deed that lets others go on, or says in which finish they are
abbrev pub lets_go : Part → Bool
lets_go (part.Start b) = true
lets_go (part.Signal c) = true
lets_go (part.Leave c) = true
lets_go (part.Advance c) = true
lets_go part.Open = true
lets_go part.End = true
lets_go _ = false

abbrev pub if_waits : Deed → List Deed
if_waits d = if waits d.part then d ∷ [] else []

abbrev pub if_lets_go : Deed → List Deed
if_lets_go d = if lets_go d.part then d ∷ [] else []

abbrev pub tell_step : ModuleValue → Teller Deed
tell_step m a w v e =
    (flat_map if_waits (tell_deeds m a w v e) ++ deed (run_step a w v e) part.Print ∷ [])
    ++ flat_map if_lets_go (tell_deeds m a w v e)

-- all that is told of a run so
abbrev pub steps_of_run : ModuleValue → List ℤ → List Entry → List Deed
steps_of_run m args log = told_of_run (tell_step m) m args log

-- ---- weights

-- a step itself, and no deed by which it waits or lets go
abbrev pub is_step : Part → Bool
is_step part.Print = true
is_step _ = false

abbrev pub weight_in : Part → ℕ
weight_in p = if is_step p then 1 else 0

abbrev pub weight_at : Option Deed → ℕ
weight_at None = 0
weight_at (Some d) = weight_in d.part

-- each step weighs 1
abbrev pub steps_weigh : List Deed → Weights
steps_weigh ds j = weight_at (slice_get ds j)

-- ---- what is told of them

-- one more, if the deed is a step itself
abbrev pub work_with : Deed → ℕ → ℕ
work_with d n = if is_step d.part then suc n else n

abbrev pub work_from : ℕ → List Deed → ℕ
work_from n [] = n
work_from n (d ∷ ds) = work_from (work_with d n) ds

-- how many steps there are
abbrev pub work_of : List Deed → ℕ
work_of ds = work_from 0 ds

abbrev pub if_step : Deed → List RunStep
if_step d = if is_step d.part then d.step ∷ [] else []

abbrev pub step_in : Option Deed → List RunStep
step_in None = []
step_in (Some d) = if_step d

abbrev pub step_at : List Deed → ℕ → List RunStep
step_at ds j = step_in (slice_get ds j)

-- the steps of a critical path, in their order: step number n of them, counted from 1, is in round n
abbrev pub critical_steps : List Deed → List RunStep
critical_steps ds = reverse (flat_map (step_at ds) (path_of (steps_weigh ds) ds))

-- how many steps the longest chain up to each deed has
abbrev pub steps_times : List Deed → List ℕ
steps_times ds = times_of (steps_weigh ds) ds

-- how many of the steps had to come one after another
abbrev pub steps_span : List Deed → ℕ
steps_span ds = span_of (steps_weigh ds) ds
