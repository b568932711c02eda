-- The picture of a run with its critical path: what `lanes --svg` draws, with a column of rounds, and with the path as one line from box to
-- box. This project's own.
use Rattle.std.specs.Prelude.{ℕ, ◌+◌, ◌-◌, Bool, not, ◌&&◌, List, [], ◌∷◌, ◌++◌, length, flat_map, Option, codes, decimal, if◌then◌else◌}
use Rattle.xk_types.specs.declared.world.Entry.{Entry}
use Rattle.xk_types.specs.Code.{ModuleValue}
use Rattle.xk_types.specs.World.{World}
use Rattle.xk_types.specs.Schedule.{is_local}
use Rattle.xk_show_events.specs.declared.steps.RunStep.{RunStep}
use Rattle.xk_show_events.specs.Events.{PlacesValue}
use Rattle.xk_show_events.specs.Steps.{told_of_run}
use Rattle.xk_show_events.specs.Worlds.{each_below}
use Rattle.xk_show_names.specs.declared.accounts.Account.{Account}
use Rattle.xk_show_names.specs.Accounts.{recounted_by}
use Rattle.xk_show_names.specs.ClockNames.{NamesValue}
use Rattle.xk_show_lanes.specs.declared.window.Window.{Window}
use Rattle.xk_show_lanes.specs.Lanes.{is_asked}
use Rattle.xk_show_picture.specs.declared.sheet.Sheet.{Sheet}
use Rattle.xk_show_picture.specs.Sheet.{lane_left, wide}
use Rattle.xk_show_picture.specs.Shapes.{svg_head, too_large, top}
use Rattle.xk_show_picture.specs.Picture.{drawn_step, furniture, high, is_drawn, is_shown, lane_head, names_for, picture_end, row_of}
use Rattle.xk_show_picture.specs.Picture.{rows_of, sheet_for}
use Rattle.xk_show_path.specs.Rounds.{Rounds, round_of, rounds_of_run}

-- ---- the column of rounds, between places and lanes

-- lanes begin further right, where rounds have a column
abbrev pub with_column : Sheet → Sheet
with_column s = record {
  window = s.window;
  left = s.left + 64;
  half = s.half;
  lanes = s.lanes;
  bands = s.bands;
  signs = s.signs;
}

-- where its numbers end
abbrev pub column : Sheet → ℕ
column s = s.left - 12

-- `<text class='number' x='148' y='128'>43</text>`
unfoldable pub number : ℕ → ℕ → List ℕ → List ℕ
number x y words =
    codes "<text class='number' x='" ++ (decimal x ++ (codes "' y='" ++ (decimal y ++ (codes "'>" ++ (words ++ codes "</text>\n")))))

-- the round of a step, in its row
abbrev pub round_label : Rounds → Sheet → List ℕ → RunStep → List ℕ
round_label r s rows step =
    if is_local step.event then [] else number (column s) (top (row_of rows step.number) + 16) (decimal (round_of r step.number))

-- of a step that is shown what `lanes --svg` draws, and its round
abbrev pub drawn_with_round : Rounds → Sheet → List ℕ → PlacesValue → Option NamesValue → ModuleValue → World → Account → List ℕ
drawn_with_round r s rows p n m v a =
    drawn_step s rows p n m v a ++ (if is_shown s.window v a.step.event then round_label r s rows a.step else [])

-- ---- the path

-- the steps of the path that have a box: those that are asked for, and that others can see
abbrev pub has_box : Window → RunStep → Bool
has_box w s = is_asked w s.number && not (is_local s.event)

abbrev pub if_box : Window → RunStep → List RunStep
if_box w s = if has_box w s then s ∷ [] else []

abbrev pub boxes_of : Window → List RunStep → List RunStep
boxes_of w path = flat_map (if_box w) path

-- where the line goes along a box: at its left edge
abbrev pub edge : Sheet → RunStep → ℕ
edge s step = lane_left s step.act + 4

-- it begins at a box, and goes down along it
unfoldable pub first_piece : ℕ → ℕ → List ℕ
first_piece x y = codes "<path class='critical' d='M" ++ (decimal x ++ (codes " " ++ (decimal (y + 2) ++ codes "v20")))

-- on to another one: down to above it, across to its edge, and down along it
unfoldable pub next_piece : ℕ → ℕ → List ℕ
next_piece x y = codes "V" ++ (decimal y ++ (codes "H" ++ (decimal x ++ codes "v22")))

abbrev pub piece_to : Sheet → List ℕ → RunStep → List ℕ
piece_to s rows step = next_piece (edge s step) (top (row_of rows step.number))

abbrev pub piece_at : Sheet → List ℕ → RunStep → List ℕ
piece_at s rows step = first_piece (edge s step) (top (row_of rows step.number))

abbrev pub line_along : Sheet → List ℕ → RunStep → List RunStep → List ℕ
line_along s rows step more = (piece_at s rows step ++ flat_map (piece_to s rows) more) ++ codes "'/>\n"

-- one line along all of them, if there are any
abbrev pub line_of : Sheet → List ℕ → List RunStep → List ℕ
line_of s rows [] = []
line_of s rows (step ∷ more) = line_along s rows step more

-- ---- what is told to who doesn't see it

-- ` step 77 act 3 round 43;`
unfoldable pub step_words : Rounds → RunStep → List ℕ
step_words r step =
    codes " step "
    ++ (decimal step.number ++ (codes " act " ++ (decimal step.act
    ++ (codes " round " ++ (decimal (round_of r step.number) ++ codes ";")))))

unfoldable pub described_first : ℕ → ℕ → ℕ → List ℕ
described_first activities rows rounds =
    codes "<title id='title'>The lanes of a run, and its critical path</title>\n<desc id='desc'>A lane for each of "
    ++ (decimal activities ++ (codes " activities, and " ++ (decimal rows
    ++ (codes " rows, from the top: one for each step that others see, and one for each advance of a clock. Along a critical path of "
    ++ (decimal rounds ++ codes " steps goes a line, by these of them:")))))

-- behind the last of them
unfoldable pub no_others : List ℕ
no_others = codes " no others.</desc>\n"

-- of a path with these boxes
abbrev pub described : Rounds → List RunStep → ℕ → ℕ → List ℕ
described r boxes activities rows =
    (described_first activities rows (length r.path) ++ flat_map (step_words r) boxes) ++ no_others

-- ---- the picture

-- how the line looks, in light and in dark, and what it means
unfoldable pub legend : List ℕ
legend =
    codes "<style>\n"
    ++ (codes ".critical{fill:none;stroke:#d4006a;stroke-width:4;pointer-events:none}\n"
    ++ (codes "@media (prefers-color-scheme:dark){.critical{stroke:#ff5ca8}}\n"
    ++ (codes "</style>\n"
    ++ codes "<path class='critical' d='M16 79h32'/><text x='60' y='83'>a critical path</text>\n")))

unfoldable pub head : Rounds → Sheet → List RunStep → ℕ → List ℕ → List ℕ
head r s boxes activities rows =
    ((((svg_head (wide s) (high (length rows)) ++ described r boxes activities (length rows)) ++ furniture) ++ legend)
    ++ number (column s) 104 (codes "round")) ++ each_below (lane_head s) s.lanes

-- with these boxes of the path
abbrev pub path_picture_with : List RunStep → Rounds → Sheet → List ℕ → PlacesValue → Option NamesValue → ModuleValue → List Entry → World
    → List ℕ
path_picture_with boxes r s rows p n m log last =
    ((head r s boxes (length last.activities) rows ++ told_of_run (recounted_by m (drawn_with_round r s rows p n m)) m last.arguments log)
    ++ line_of s rows boxes) ++ picture_end (length rows) last

-- on this sheet
abbrev pub path_picture_on : Rounds → Sheet → List ℕ → PlacesValue → Option NamesValue → ModuleValue → List Entry → World → List ℕ
path_picture_on r s rows p n m log last = path_picture_with (boxes_of s.window r.path) r s rows p n m log last

-- the picture of these rows, if it is drawn, or else a line that says how large it would be
abbrev pub path_picture_by : Bool → Rounds → PlacesValue → Option NamesValue → Window → List ℕ → ModuleValue → List Entry → World → List ℕ
path_picture_by drawn r p n w rows m log last =
    if drawn then path_picture_on r (with_column (sheet_for p n w m log last)) rows p n m log last
    else too_large (length rows) (length last.activities)

abbrev pub path_picture_of : Rounds → PlacesValue → Option NamesValue → Window → ModuleValue → List Entry → World → List ℕ
path_picture_of r p n w m log last = path_picture_by (is_drawn w m log last) r p n w (rows_of w m last.arguments log) m log last

-- The picture of these steps of the run that a log stands for, which ends in this world, with the rounds and the path that `span` tells of
-- it; by names, where those of the shared numbers are known.
abbrev pub path_picture_text : PlacesValue → Option (List (List ℕ)) → Window → ModuleValue → List Entry → World → List ℕ
path_picture_text p shared w m log last =
    path_picture_of (rounds_of_run m last.arguments log) p (names_for p shared w m log last) w m log last
