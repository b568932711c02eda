-- Where activities waited, and how long. This project's own.
use Rattle.std.specs.Prelude.{ℕ, suc, ◌+◌, ◌-◌, nat_eq, Bool, true, false, ◌&&◌, List, [], ◌∷◌, ◌++◌, map}
use Rattle.std.specs.Prelude.{Option, Some, None, slice_get, slice_set, if◌then◌else◌}
use Rattle.xk_types.specs.declared.world.Event.{Event}
use Rattle.xk_types.specs.declared.world.Event.TheVariants as event
use Rattle.xk_show_events.specs.declared.steps.RunStep.{RunStep}
use Rattle.xk_races.specs.declared.deeds.Deed.{Deed}
use Rattle.xk_races.specs.Lists.{number_at, with_at}
use Rattle.xk_span.specs.Steps.{is_step}
use Rattle.xk_span_summary.specs.declared.waits.Wait.{Wait}

-- a step that may have waited for others
abbrev pub may_wait : Event → Bool
may_wait event.Passed = true
may_wait event.Closed = true
may_wait _ = false

-- ---- waits by place

-- both are at one instruction
abbrev pub has_place : RunStep → Wait → Bool
has_place s w = nat_eq w.step.unit s.unit && nat_eq w.step.place s.place

abbrev pub place_from : RunStep → ℕ → List Wait → ℕ
place_from s k [] = k
place_from s k (w ∷ waits) = if has_place s w then k else place_from s (suc k) waits

-- which of these it is; as many as there are, if it is none
abbrev pub place_in : RunStep → List Wait → ℕ
place_in s waits = place_from s 0 waits

abbrev pub first_wait : RunStep → ℕ → Wait
first_wait s n = record { step = s; rounds = n; times = 1 }

abbrev pub more_rounds : ℕ → Wait → Wait
more_rounds n w = record { step = w.step; rounds = w.rounds + n; times = w.times + 1 }

abbrev pub with_wait_at : RunStep → ℕ → List Wait → ℕ → Option Wait → List Wait
with_wait_at s n waits k None = waits ++ first_wait s n ∷ []
with_wait_at s n waits k (Some w) = slice_set waits k (more_rounds n w)

-- with n rounds more that were waited at the place of a step
abbrev pub with_wait : RunStep → ℕ → List Wait → List Wait
with_wait s n waits = with_wait_at s n waits (place_in s waits) (slice_get waits (place_in s waits))

abbrev pub with_wait_if_any : RunStep → ℕ → List Wait → List Wait
with_wait_if_any s n waits = if nat_eq n 0 then waits else with_wait s n waits

-- ---- of a run

-- With what a deed in a round waited, behind its activity's step before it, in an earlier round. The step itself takes one.
abbrev pub waits_with : Deed → ℕ → ℕ → List Wait → List Wait
waits_with d round before waits =
    if is_step d.part && may_wait d.step.event then with_wait_if_any d.step (round - before - 1) waits else waits

-- the round of each activity's last step
abbrev pub lasts_with : Deed → ℕ → List ℕ → List ℕ
lasts_with d round lasts = if is_step d.part then with_at 0 lasts d.step.act round else lasts

abbrev pub waits_from : List ℕ → ℕ → List ℕ → List Wait → List Deed → List Wait
waits_from times i lasts waits [] = waits
waits_from times i lasts waits (d ∷ ds) =
    waits_from times (suc i) (lasts_with d (number_at times i) lasts)
    (waits_with d (number_at times i) (number_at lasts d.step.act) waits) ds

-- where activities waited, by the times of deeds
abbrev pub waits_of : List ℕ → List Deed → List Wait
waits_of times ds = waits_from times 0 [] [] ds

-- how long at each place
abbrev pub rounds_waited : List Wait → List ℕ
rounds_waited waits = map (λ (w : Wait). w.rounds) waits
