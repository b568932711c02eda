-- The lanes of a run by rounds. When rounds are, `xk_span` says; that they are drawn so is this project's own.
use Rattle.std.specs.Prelude.{ℕ, ℤ, ◌-◌, List, [], ◌∷◌, ◌++◌, length, Option}
use Rattle.xk_types.specs.declared.world.Entry.{Entry}
use Rattle.xk_types.specs.Code.{ModuleValue}
use Rattle.xk_types.specs.World.{World}
use Rattle.xk_show_events.specs.Events.{PlacesValue}
use Rattle.xk_show_events.specs.Steps.{told_of_run}
use Rattle.xk_show_names.specs.declared.accounts.Account.{Account}
use Rattle.xk_show_names.specs.Accounts.{recounted_by}
use Rattle.xk_show_names.specs.ClockNames.{NamesValue}
use Rattle.xk_show_lanes.specs.declared.grid.Grid.{Grid}
use Rattle.xk_show_lanes.specs.Lanes.{left_out_by, most_lanes, whole_run}
use Rattle.xk_show_picture.specs.Picture.{columns, names_for}
use Rattle.xk_show_path.specs.Rounds.{Rounds, rounds_of_run}
use Rattle.xk_show_rounds.specs.RoundRows.{head_and_rows}

-- each step of a run, and what it was about
abbrev pub accounts_of : ModuleValue → List ℤ → List Entry → List Account
accounts_of m args log = told_of_run (recounted_by m (λ v a. a ∷ [])) m args log

abbrev pub round_lanes_in : Rounds → Grid → Option NamesValue → List Account → World → List ℕ
round_lanes_in r g n steps last = head_and_rows r g n steps ++ left_out_by (length last.activities - most_lanes)

-- in the columns of `lanes`
abbrev pub round_lanes_by : Rounds → PlacesValue → Option NamesValue → ModuleValue → List Entry → World → List ℕ
round_lanes_by r p n m log last = round_lanes_in r (columns p n whole_run m log last) n (accounts_of m last.arguments log) last

-- The lanes by rounds of the run that a log stands for, which ends in this world, with the rounds that `span` tells of it; by names, where
-- those of the shared numbers are known.
unfoldable pub round_lanes_text : PlacesValue → Option (List (List ℕ)) → ModuleValue → List Entry → World → List ℕ
round_lanes_text p shared m log last =
    round_lanes_by (rounds_of_run m last.arguments log) p (names_for p shared whole_run m log last) m log last
