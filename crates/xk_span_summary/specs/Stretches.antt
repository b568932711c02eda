-- A path by stretches: its steps, as far as they are of one activity. This project's own.
use Rattle.std.specs.Prelude.{ℕ, suc, ◌+◌, nat_eq, List, [], ◌∷◌, ◌++◌, Option, Some, None, if◌then◌else◌}
use Rattle.xk_show_events.specs.declared.steps.RunStep.{RunStep}
use Rattle.xk_span_summary.specs.declared.stretches.Stretch.{Stretch}

-- a stretch of one step so far, behind one of another activity
abbrev pub begun : Option ℕ → ℕ → RunStep → Stretch
begun behind n x = record { behind = behind; start = n; first = x; stop = n; last = x }

-- with one step more
abbrev pub longer : Stretch → ℕ → RunStep → Stretch
longer s n x = record { behind = s.behind; start = s.start; first = s.first; stop = n; last = x }

-- behind this stretch: with step number n of the path, or that one alone
abbrev pub joined : Stretch → ℕ → RunStep → Stretch
joined s n x = if nat_eq x.act s.last.act then longer s n x else begun (Some s.last.act) n x

-- the stretch that step number n of the path is in
abbrev pub with_step : Option Stretch → ℕ → RunStep → Stretch
with_step None n x = begun None n x
with_step (Some s) n x = joined s n x

abbrev pub unless_same : Stretch → RunStep → List Stretch
unless_same s x = if nat_eq x.act s.last.act then [] else s ∷ []

-- the one that it ends
abbrev pub ended_by : Option Stretch → RunStep → List Stretch
ended_by None x = []
ended_by (Some s) x = unless_same s x

abbrev pub last_stretch : Option Stretch → List Stretch
last_stretch None = []
last_stretch (Some s) = s ∷ []

-- of a path that goes on with these, behind n steps
abbrev pub stretches_from : Option Stretch → ℕ → List RunStep → List Stretch
stretches_from s n [] = last_stretch s
stretches_from s n (x ∷ path) = ended_by s x ++ stretches_from (Some (with_step s (n + 1) x)) (suc n) path

abbrev pub stretches_of : List RunStep → List Stretch
stretches_of path = stretches_from None 0 path
