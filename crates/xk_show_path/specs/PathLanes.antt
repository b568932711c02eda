-- The lanes of a run with its critical path: what `lanes` draws, and before each step's number its round, and before what the steps of the
-- path did a `*`. This project's own.
use Rattle.std.specs.Prelude.{ℕ, ◌-◌, Bool, List, [], ◌∷◌, ◌++◌, length, flat_map, Option, codes, decimal, if◌then◌else◌}
use Rattle.xk_types.specs.declared.world.Entry.{Entry}
use Rattle.xk_types.specs.Code.{ModuleValue}
use Rattle.xk_types.specs.World.{World}
use Rattle.xk_types.specs.Schedule.{is_local}
use Rattle.xk_core.specs.Core.{advanced_now}
use Rattle.xk_show_events.specs.Events.{PlacesValue}
use Rattle.xk_show_events.specs.Steps.{told_of_run}
use Rattle.xk_show_events.specs.Worlds.{each_below}
use Rattle.xk_show_names.specs.declared.accounts.Account.{Account}
use Rattle.xk_show_names.specs.Accounts.{recounted_by}
use Rattle.xk_show_names.specs.ClockNames.{NamesValue}
use Rattle.xk_show_lanes.specs.declared.grid.Grid.{Grid}
use Rattle.xk_show_lanes.specs.declared.window.Window.{Window}
use Rattle.xk_show_lanes.specs.Fields.{at_right, blanks}
use Rattle.xk_show_lanes.specs.Lanes.{bar_lane, head_line, is_asked, lane_line, left_out_by, most_lanes, spot}
use Rattle.xk_show_lanes.specs.NamedLanes.{behind_lanes, cell_of}
use Rattle.xk_show_picture.specs.Picture.{columns, label_of, names_for, words_of}
use Rattle.xk_show_path.specs.Rounds.{Rounds, is_critical, round_of, rounds_of_run}

-- ` round  step  at     main        act 1`
unfoldable pub path_head : Grid → List ℕ
path_head g = at_right 6 (codes "round") ++ head_line g

-- ---- a row

-- what a step did, behind `*` if it is one of the path's
abbrev pub marked : Bool → List ℕ → List ℕ
marked critical words = if critical then codes "*" ++ words else words

abbrev pub marked_words : Rounds → Option NamesValue → Account → List ℕ
marked_words r n a = marked (is_critical r a.step.number) (words_of n a)

-- the step's round, and its row, in which these words are told
unfoldable pub row_with : Rounds → Grid → PlacesValue → List ℕ → ModuleValue → World → Account → List ℕ
row_with r g p words m v a =
    at_right 6 (decimal (round_of r a.step.number))
    ++ lane_line g (decimal a.step.number) (spot p a.step) (cell_of words m v a.step) (behind_lanes g words a.step)

abbrev pub path_row : Rounds → Grid → PlacesValue → Option NamesValue → ModuleValue → World → Account → List ℕ
path_row r g p n m v a = row_with r g p (marked_words r n a) m v a

abbrev pub path_row_if_seen : Rounds → Grid → PlacesValue → Option NamesValue → ModuleValue → World → Account → List ℕ
path_row_if_seen r g p n m v a = if is_local a.step.event then [] else path_row r g p n m v a

-- ---- a bar

-- as that of `lanes`, below the lanes
unfoldable pub path_bar : Grid → Option NamesValue → World → ℕ → ℕ → List ℕ
path_bar g n v a c = ((blanks 14 ++ blanks g.place) ++ each_below (bar_lane g v c) g.lanes) ++ (label_of n v a c ++ codes "\n")

-- ---- the text

-- its row, if others can see it, and a bar for each clock that advanced in it
abbrev pub path_row_and_bars : Rounds → Grid → PlacesValue → Option NamesValue → ModuleValue → World → Account → List ℕ
path_row_and_bars r g p n m v a = path_row_if_seen r g p n m v a ++ flat_map (path_bar g n v a.step.act) (advanced_now v)

-- of a step that is asked for
abbrev pub path_lanes_of_step : Rounds → Grid → PlacesValue → Option NamesValue → ModuleValue → World → Account → List ℕ
path_lanes_of_step r g p n m v a = if is_asked g.window a.step.number then path_row_and_bars r g p n m v a else []

abbrev pub path_lanes_in : Rounds → Grid → PlacesValue → Option NamesValue → ModuleValue → List Entry → World → List ℕ
path_lanes_in r g p n m log last =
    (path_head g ++ told_of_run (recounted_by m (path_lanes_of_step r g p n m)) m last.arguments log)
    ++ left_out_by (length last.activities - most_lanes)

-- in the columns of `lanes`
abbrev pub path_lanes_by : Rounds → PlacesValue → Option NamesValue → Window → ModuleValue → List Entry → World → List ℕ
path_lanes_by r p n w m log last = path_lanes_in r (columns p n w m log last) p n m log last

-- The lanes of these steps of the run that a log stands for, which ends in this world, with the rounds and the path that `span` tells of
-- it; by names, where those of the shared numbers are known.
abbrev pub path_lanes_text : PlacesValue → Option (List (List ℕ)) → Window → ModuleValue → List Entry → World → List ℕ
path_lanes_text p shared w m log last =
    path_lanes_by (rounds_of_run m last.arguments log) p (names_for p shared w m log last) w m log last
