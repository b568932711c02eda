-- The rounds of a run's steps, and a critical path, as `xk_span` tells them. This project's own.
use Rattle.std.specs.Prelude.{◌≡◌, ℕ, ℤ, suc, ◌-◌, nat_eq, nat_lt, Bool, List, [], ◌∷◌, ◌++◌, count_by, if◌then◌else◌}
use Rattle.xk_types.specs.declared.world.Entry.{Entry}
use Rattle.xk_types.specs.Code.{ModuleValue}
use Rattle.xk_show_events.specs.declared.steps.RunStep.{RunStep}
use Rattle.xk_races.specs.declared.deeds.Deed.{Deed}
use Rattle.xk_races.specs.Lists.{number_at}
use Rattle.xk_span.specs.Steps.{critical_steps, is_step, steps_of_run, steps_times}

-- The round of each step, in their order: how many steps the longest chain up to it has. And the steps of a critical path.
pub record Rounds : Type 0 where
  pub rounds : List ℕ
  pub path : List RunStep

-- the round of a deed, if it is a step itself
abbrev pub if_step_round : Deed → ℕ → List ℕ
if_step_round d round = if is_step d.part then round ∷ [] else []

abbrev pub rounds_from : List ℕ → ℕ → List Deed → List ℕ
rounds_from times i [] = []
rounds_from times i (d ∷ ds) = if_step_round d (number_at times i) ++ rounds_from times (suc i) ds

-- those of the steps among these deeds, by the times of deeds
abbrev pub rounds_by : List ℕ → List Deed → List ℕ
rounds_by times ds = rounds_from times 0 ds

abbrev pub rounds_of : List Deed → Rounds
rounds_of ds = record { rounds = rounds_by (steps_times ds) ds; path = critical_steps ds }

-- what `span` tells of the run that a log stands for
abbrev pub rounds_of_run : ModuleValue → List ℤ → List Entry → Rounds
rounds_of_run m args log = rounds_of (steps_of_run m args log)

-- the round of step n: steps are counted from 1
abbrev pub round_of : Rounds → ℕ → ℕ
round_of r n = number_at r.rounds (n - 1)

-- how many of these steps have number n
abbrev pub count_of : List RunStep → ℕ → ℕ
count_of path n = count_by (λ s. nat_eq s.number n) path

-- step n is one of the path's
abbrev pub is_critical : Rounds → ℕ → Bool
is_critical r n = nat_lt 0 (count_of r.path n)

-- they count the steps of a path by their numbers
abbrev pub AreMarks : List RunStep → List ℕ → Type 0
AreMarks path marks = (n : ℕ) → number_at marks n ≡ count_of path n
