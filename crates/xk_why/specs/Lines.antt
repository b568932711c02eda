-- What is told of the steps that a step rests on: the lines that these have among those of the run. This project's own.
use Rattle.std.specs.Prelude.{ℕ, ℤ, nat_eq, nat_lt, Bool, false, List, [], ◌∷◌, ◌++◌, length, take, flat_map}
use Rattle.std.specs.Prelude.{Option, codes, decimal, slice_get, if◌then◌else◌}
use Rattle.std.specs.Option.{option_map_or}
use Rattle.xk_types.specs.declared.world.Entry.{Entry}
use Rattle.xk_types.specs.Code.{ModuleValue}
use Rattle.xk_show_events.specs.Events.{PlacesValue}
use Rattle.xk_show_events.specs.Worlds.{each_below}
use Rattle.xk_show_names.specs.declared.accounts.Account.{Account}
use Rattle.xk_show_names.specs.Accounts.{seen_accounts}
use Rattle.xk_show_names.specs.ClockNames.{NamesValue, names_in_run}
use Rattle.xk_show_names.specs.Events.{line_at}
use Rattle.xk_why.specs.Rest.{rest_of}
use Rattle.xk_why.specs.Told.{flows_of_run}

-- it is the step of this number
abbrev pub is_number : ℕ → Option Account → Bool
is_number n o = option_map_or (λ a. nat_eq a.step.number n) o false

abbrev pub line_if : PlacesValue → NamesValue → List Account → ℕ → ℕ → List ℕ
line_if p names steps n i = if is_number n (slice_get steps i) then line_at p names steps i else []

-- the line of step number n, as it stands among those of the run
abbrev pub lines_for : PlacesValue → NamesValue → List Account → ℕ → List ℕ
lines_for p names steps n = each_below (line_if p names steps n) (length steps)

-- so many lines are shown at most
unfoldable pub most_shown : ℕ
most_shown = 100

-- `rests on steps 7`
abbrev pub count_line : ℕ → List ℕ
count_line n =
    if nat_lt most_shown n then codes "rests on steps " ++ (decimal n ++ codes ", the last 100 shown\n")
    else codes "rests on steps " ++ (decimal n ++ codes "\n")

-- the line of step number n, those of the steps that it rests on, and how many these are
abbrev pub why_lines : PlacesValue → NamesValue → List Account → ℕ → List ℕ → List ℕ
why_lines p names steps n rest =
    (lines_for p names steps n ++ flat_map (lines_for p names steps) (take most_shown rest)) ++ count_line (length rest)

-- of the run that a log stands for, where the shared numbers have these names
abbrev pub why_text : PlacesValue → List (List ℕ) → ModuleValue → List ℤ → List Entry → ℕ → List ℕ
why_text p shared m args log n =
    why_lines p (names_in_run p shared m args log) (seen_accounts m args log) n (rest_of n (flows_of_run m args log))
