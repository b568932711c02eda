-- What is told of the steps that a step rests on where a module has no text: the same lines by numbers. This project's own.
use Rattle.std.specs.Prelude.{ℕ, ℤ, nat_eq, Bool, List, [], ◌++◌, flat_map, length, take, if◌then◌else◌}
use Rattle.std.specs.List.{list_any}
use Rattle.xk_types.specs.declared.world.Entry.{Entry}
use Rattle.xk_types.specs.Code.{ModuleValue}
use Rattle.xk_show_events.specs.declared.steps.RunStep.{RunStep}
use Rattle.xk_show_events.specs.Events.{PlacesValue, event_line, no_text}
use Rattle.xk_show_events.specs.Steps.{seen_steps}
use Rattle.xk_why.specs.Lines.{count_line, most_shown}
use Rattle.xk_why.specs.Rest.{rest_of}
use Rattle.xk_why.specs.Told.{flows_of_run}

-- step number n is one of these
abbrev pub has_number : List RunStep → ℕ → Bool
has_number steps n = list_any (λ s. nat_eq s.number n) steps

-- step number n of the run is one that others can see
abbrev pub is_told : ModuleValue → List ℤ → List Entry → ℕ → Bool
is_told m args log n = has_number (seen_steps m args log) n

-- the line of a step, if it is number n
abbrev pub event_if : PlacesValue → ℕ → RunStep → List ℕ
event_if p n s = if nat_eq s.number n then event_line p s else []

-- the line of step number n, as it stands among those of the run
abbrev pub events_for : PlacesValue → List RunStep → ℕ → List ℕ
events_for p steps n = flat_map (event_if p n) steps

-- the line of step number n, those of the steps that it rests on, and how many these are
abbrev pub event_why_lines : PlacesValue → List RunStep → ℕ → List ℕ → List ℕ
event_why_lines p steps n rest =
    (events_for p steps n ++ flat_map (events_for p steps) (take most_shown rest)) ++ count_line (length rest)

-- of the run that a log stands for
abbrev pub module_why_text : ModuleValue → List ℤ → List Entry → ℕ → List ℕ
module_why_text m args log n = event_why_lines no_text (seen_steps m args log) n (rest_of n (flows_of_run m args log))
