-- The lanes of a run of a source text's module, with the names of what its steps were about, and with values. This project's own.
use Rattle.std.specs.Prelude.{ℕ, ◌+◌, ◌-◌, nat_eq, nat_le, nat_lt, Bool, true, false, not, ◌&&◌, ◌||◌, List, [], ◌∷◌, ◌++◌, length, map}
use Rattle.std.specs.Prelude.{min, max, filter, flat_map, codes}
use Rattle.std.specs.Prelude.{decimal, if◌then◌else◌}
use Rattle.xk_types.specs.declared.world.Entry.{Entry}
use Rattle.xk_types.specs.declared.world.Event.{Event}
use Rattle.xk_types.specs.declared.world.Event.TheVariants as event
use Rattle.xk_types.specs.Code.{ModuleValue}
use Rattle.xk_types.specs.World.{World}
use Rattle.xk_types.specs.Schedule.{is_local}
use Rattle.xk_core.specs.Core.{advanced_now}
use Rattle.xk_show_names.specs.declared.accounts.Account.{Account}
use Rattle.xk_show_events.specs.declared.steps.RunStep.{RunStep}
use Rattle.xk_show_names.specs.Accounts.{recounted_by, seen_accounts}
use Rattle.xk_show_names.specs.ClockNames.{NamesValue, names_until}
use Rattle.xk_show_events.specs.Events.{PlacesValue}
use Rattle.xk_show_names.specs.Events.{account_words, clock_word}
use Rattle.xk_show_events.specs.Steps.{told_of_run}
use Rattle.xk_show_events.specs.Worlds.{each_below, phase_of}
use Rattle.xk_show_lanes.specs.declared.grid.Grid.{Grid}
use Rattle.xk_show_lanes.specs.declared.window.Window.{Window}
use Rattle.xk_show_lanes.specs.Fields.{blanks, longest}
use Rattle.xk_show_lanes.specs.Lanes.{bar_lane, head_line, is_asked, lane_line, left_out_by, mark, most_lanes, spot, title}

-- ---- the steps that are drawn

-- of those that are asked for, the ones that others can see
abbrev pub accounts_asked : Window → ModuleValue → List Entry → World → List Account
accounts_asked w m log last = filter (λ a. is_asked w a.step.number) (seen_accounts m last.arguments log)

-- the step, if it is one of them
abbrev pub account_if_asked : Window → Account → List Account
account_if_asked w a = if is_asked w a.step.number && not (is_local a.step.event) then a ∷ [] else []

-- ---- the steps that a walk keeps

-- it made a clock
abbrev pub makes : Event → Bool
makes event.Made = true
makes _ = false

-- the step of this number is one of those that are drawn, or made a clock before them
abbrev pub is_kept : Window → ℕ → Event → Bool
is_kept w n e = nat_le n w.last && (not (is_local e) && (nat_le w.first n || makes e))

abbrev pub account_if_kept : Window → Account → List Account
account_if_kept w a = if is_kept w a.step.number a.step.event then a ∷ [] else []

-- those of a run: by them clocks have their names, and columns their widths
abbrev pub accounts_kept : Window → ModuleValue → List Entry → World → List Account
accounts_kept w m log last = told_of_run (recounted_by m (λ v a. account_if_kept w a)) m last.arguments log

-- ---- columns

-- as those of `grid_of`, for these steps of so many activities
abbrev pub named_grid : PlacesValue → NamesValue → Window → List Account → ℕ → Grid
named_grid p n w steps k = record {
  window = w;
  place = max 4 (2 + longest (map (λ a. spot p a.step) steps));
  lane = max 8 (2 + longest (map (account_words n) steps));
  lanes = min most_lanes k;
}

-- for these steps of the run that a log stands for, which ends in this world
abbrev pub grid_by_names : PlacesValue → NamesValue → Window → ModuleValue → List Entry → World → Grid
grid_by_names p n w m log last = named_grid p n w (accounts_asked w m log last) (length last.activities)

-- ---- a row

-- behind a step that led to world v, of which these words are told: in the lane of who took it, the words
abbrev pub cell_of : List ℕ → ModuleValue → World → RunStep → ℕ → List ℕ
cell_of words m v s b = if nat_eq b s.act then words else mark m v b

-- behind all lanes: who took the step and the words, if that one has no lane
abbrev pub behind_lanes : Grid → List ℕ → RunStep → List ℕ
behind_lanes g words s = if nat_lt s.act g.lanes then [] else title s.act ++ (codes " " ++ words)

unfoldable pub named_row : Grid → PlacesValue → NamesValue → ModuleValue → World → Account → List ℕ
named_row g p n m v a =
    lane_line g (decimal a.step.number) (spot p a.step) (cell_of (account_words n a) m v a.step) (behind_lanes g (account_words n a) a.step)

abbrev pub named_row_if_seen : Grid → PlacesValue → NamesValue → ModuleValue → World → Account → List ℕ
named_row_if_seen g p n m v a = if is_local a.step.event then [] else named_row g p n m v a

-- ---- a bar

-- `c phase 1 by 1`: the phase from then on, and in whose step the clock advanced
unfoldable pub named_label : NamesValue → World → ℕ → ℕ → List ℕ
named_label n v a c = clock_word n c ++ (codes " phase " ++ (decimal (phase_of v c) ++ (codes " by " ++ decimal a)))

unfoldable pub named_bar : Grid → NamesValue → World → ℕ → ℕ → List ℕ
named_bar g n v a c = ((blanks 8 ++ blanks g.place) ++ each_below (bar_lane g v c) g.lanes) ++ (named_label n v a c ++ codes "\n")

-- ---- the text

-- its row, if others can see it, and a bar for each clock that advanced in it
abbrev pub named_row_and_bars : Grid → PlacesValue → NamesValue → ModuleValue → World → Account → List ℕ
named_row_and_bars g p n m v a = named_row_if_seen g p n m v a ++ flat_map (named_bar g n v a.step.act) (advanced_now v)

-- of a step that is asked for
abbrev pub named_lanes_of_step : Grid → PlacesValue → NamesValue → ModuleValue → World → Account → List ℕ
named_lanes_of_step g p n m v a = if is_asked g.window a.step.number then named_row_and_bars g p n m v a else []

abbrev pub named_lanes_in : Grid → PlacesValue → NamesValue → ModuleValue → List Entry → World → List ℕ
named_lanes_in g p n m log last =
    (head_line g ++ told_of_run (recounted_by m (named_lanes_of_step g p n m)) m last.arguments log)
    ++ left_out_by (length last.activities - most_lanes)

-- with these names
abbrev pub lanes_by_names : PlacesValue → NamesValue → Window → ModuleValue → List Entry → World → List ℕ
lanes_by_names p n w m log last = named_lanes_in (grid_by_names p n w m log last) p n m log last

-- The lanes of these steps of the run that a log stands for, which ends in this world, where shared numbers have these names, and clocks
-- those that they were made under. No row or bar is about a clock that is made behind the last of these steps.
abbrev pub named_lanes_text : PlacesValue → List (List ℕ) → Window → ModuleValue → List Entry → World → List ℕ
named_lanes_text p shared w m log last = lanes_by_names p (names_until p shared w.last m last.arguments log) w m log last
