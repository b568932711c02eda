-- The picture of a run: what its lanes tell (`xk_show_lanes`), drawn. Time goes down. A row for each step that others can see, and below it one for each
-- clock that advanced in it; a column for each activity. Who can take a step and when clocks advance, `xk_types` says in `Step.antt`; that it is
-- drawn so is this project's own.
use Rattle.std.specs.Prelude.{◌≡◌, ℕ, ◌+◌, ◌-◌, ◌*◌, ◌%◌, min, nat_eq, nat_lt, nat_le, Bool, true, false, not, ◌&&◌, ◌||◌, ℤ, List, [], ◌∷◌, ◌++◌, length, count_by, flat_map, replicate, Option, Some, None, codes, if◌then◌else◌}
use Rattle.xk_types.specs.declared.world.Entry.{Entry}
use Rattle.xk_types.specs.declared.world.Event.{Event}
use Rattle.xk_types.specs.declared.world.Event.TheVariants as event
use Rattle.xk_types.specs.Code.{ModuleValue}
use Rattle.xk_types.specs.World.{World}
use Rattle.xk_types.specs.Schedule.{all_ended, is_enabled, is_local}
use Rattle.xk_core.specs.Core.{advanced_now, is_living, is_quiet}
use Rattle.xk_show_events.specs.declared.steps.RunStep.{RunStep}
use Rattle.xk_show_events.specs.Steps.{tell_by, told_of_run}
use Rattle.xk_show_events.specs.Events.{PlacesValue, event_words}
use Rattle.xk_show_events.specs.Endings.{ending_words}
use Rattle.xk_show_events.specs.Worlds.{each_below, phase_of}
use Rattle.xk_show_names.specs.declared.accounts.Account.{Account}
use Rattle.xk_show_names.specs.Accounts.{recounted_by}
use Rattle.xk_show_names.specs.ClockNames.{NamesValue, names_until}
use Rattle.xk_show_names.specs.Events.{account_words, clock_word}
use Rattle.xk_show_lanes.specs.declared.grid.Grid.{Grid}
use Rattle.xk_show_lanes.specs.declared.window.Window.{Window}
use Rattle.xk_show_lanes.specs.Fields.{longest}
use Rattle.xk_show_lanes.specs.Lanes.{any_behind, any_below, bar_label, grid_for, is_asked, is_on, most_lanes, spot, title}
use Rattle.xk_show_lanes.specs.NamedLanes.{grid_by_names, named_label}
use Rattle.xk_show_picture.specs.declared.picture.Planned.{Planned}
use Rattle.xk_show_picture.specs.declared.picture.Planned.TheVariants as planned
use Rattle.xk_show_picture.specs.declared.sheet.Sheet.{Sheet}
use Rattle.xk_show_picture.specs.Sheet.{band_left, labels, lane_left, middle, sheet_of, wide}
use Rattle.xk_show_picture.specs.Shapes.{arrow, box_frame, box_head, box_words, described, front, label, lane_title, shape, stroke, svg_head, too_large, top}
use Rattle.xk_show_picture.specs.Furniture.{legend, shapes, style}

-- ---- rows

-- a step that is asked for, and that others can see or in which a clock advanced
abbrev pub is_shown : Window → World → Event → Bool
is_shown window v e = is_asked window v.steps && (not (is_local e) || not (is_quiet v))

-- its number, for its own row, and again for that of each clock that advanced in it
abbrev pub rows_of_world : World → List ℕ
rows_of_world v = v.steps ∷ replicate (length (advanced_now v)) v.steps

abbrev pub rows_told : Window → World → Event → List ℕ
rows_told window v e = if is_shown window v e then rows_of_world v else []

-- the rows of a run, from the top: for each the number of its step
abbrev pub rows_of : Window → ModuleValue → List ℤ → List Entry → List ℕ
rows_of window m args log = told_of_run (tell_by (λ v s. rows_told window v s.event)) m args log

-- How many rows are drawn at most: where there are more there is no picture (`fits`), and so no row of one stands further down.
abbrev pub most_rows : ℕ
most_rows = 2000

-- in which row step n is drawn: behind those of earlier steps
abbrev pub row_of : List ℕ → ℕ → ℕ
row_of rows n = min (count_by (λ k. nat_lt k n) rows) most_rows

-- in which row the bar of clock c is drawn, which advanced in the step that led here: below the step, and those of smaller clocks
abbrev pub bar_row : List ℕ → World → ℕ → ℕ
bar_row rows v c = row_of rows v.steps + (1 + min (count_by (λ d. nat_lt d c) (advanced_now v)) most_rows)

-- ---- words

-- what a step did: of a source text's module by the names of what it was about, and with values
abbrev pub words_of : Option NamesValue → Account → List ℕ
words_of None a = event_words a.step
words_of (Some n) a = account_words n a

-- what is said of the bar of clock c, which advanced in a step of activity a
abbrev pub label_of : Option NamesValue → World → ℕ → ℕ → List ℕ
label_of None v a c = bar_label v a c
label_of (Some n) v a c = named_label n v a c

-- how long the longest of the names of the first k clocks is
abbrev pub widest_name : NamesValue → ℕ → ℕ
widest_name n k = longest (each_below (λ c. clock_word n c ∷ []) k)

-- for how many signs there is room behind a bar of so many clocks: 22 for phase and activity, and the names of those that have one
abbrev pub signs_of : Option NamesValue → ℕ → ℕ
signs_of None k = 32
signs_of (Some n) k = 22 + min 100 (widest_name n (min (length n.clocks) k))

-- ---- what stands in each row

-- how activity b stands in row k, behind a step that led to world v: a plain line, if it can take a step; hatched, if it can't, since a clock holds it
-- back or somebody under its finish hasn't ended; nothing, if it hasn't started or has ended
abbrev pub line : Sheet → ModuleValue → World → ℕ → ℕ → List ℕ
line s m v k b =
    if is_living v b then (if is_enabled m v b then shape (codes "free") (middle s b) (top k) else shape (codes "held") (middle s b) (top k)) else []

-- two looks in turn, from phase to phase
abbrev pub parity : ℕ → List ℕ
parity phase = if nat_eq (phase % 2) 0 then codes "even" else codes "odd"

-- the phase of clock c, if it was made
abbrev pub band : Sheet → World → ℕ → ℕ → List ℕ
band s v k c = if nat_lt c (length v.clocks) then shape (parity (phase_of v c)) (band_left s c) (top k) else []

abbrev pub bands : Sheet → World → ℕ → List ℕ
bands s v k = each_below (band s v k) s.bands

-- ---- the row of a step

abbrev pub kind : Event → List ℕ
kind event.Local = codes "life"
kind (event.Printed n) = codes "print"
kind event.Made = codes "clock"
kind event.Got = codes "shared"
kind event.Put = codes "shared"
kind event.Added = codes "shared"
kind event.Opened = codes "life"
kind event.Closed = codes "life"
kind event.Spawned = codes "life"
kind event.Resumed = codes "clock"
kind event.Dropped = codes "clock"
kind event.Arrived = codes "clock"
kind event.Passed = codes "clock"
kind event.Ended = codes "life"

-- the box in the lane of who took it
unfoldable pub boxed : Sheet → ℕ → RunStep → List ℕ → List ℕ → List ℕ
boxed s k r place words =
    box_head (kind r.event) r.number r.act place words
    ++ (box_frame (lane_left s r.act + 4) (top k + 2) (2 * s.half - 8) ++ box_words (middle s r.act) (top k + 16) words)

-- an arrow to the lane of who was started: the next activity
abbrev pub start_by : Sheet → ℕ → RunStep → Event → List ℕ
start_by s k r event.Spawned = arrow (middle s r.act + (s.half - 4)) (top k + 12) (middle s r.activities)
start_by s k r _ = []

-- how those stand who didn't take it
abbrev pub other_line : Sheet → ModuleValue → World → RunStep → ℕ → ℕ → List ℕ
other_line s m v r k b = if nat_eq b r.act then [] else line s m v k b

-- of which these words are told
unfoldable pub drawn_row : Sheet → PlacesValue → List ℕ → ModuleValue → World → RunStep → ℕ → List ℕ
drawn_row s p words m v r k =
    (((each_below (other_line s m v r k) s.lanes ++ bands s v k) ++ front (top k + 16) r.number (spot p r)) ++ boxed s k r (spot p r) words) ++ start_by s k r r.event

abbrev pub step_row : Sheet → List ℕ → PlacesValue → Option NamesValue → ModuleValue → World → Account → List ℕ
step_row s rows p n m v a =
    if is_local a.step.event then [] else drawn_row s p (words_of n a) m v a.step (row_of rows a.step.number)

-- ---- the row of a bar

abbrev pub stroke_if : Bool → ℕ → ℕ → ℕ → List ℕ
stroke_if there x y long = if there then stroke x y long else []

abbrev pub ring_if : Bool → ℕ → ℕ → List ℕ
ring_if there x y = if there then shape (codes "ring") x y else []

-- in lane b: strokes to the next lanes that are on the bar, and a ring, if it is on it
abbrev pub bar_piece : Sheet → ℕ → ℕ → Bool → Bool → Bool → List ℕ
bar_piece s k b here before behind =
    stroke_if (before && (here || behind)) (lane_left s b) (top k + 12) s.half
    ++ (stroke_if (behind && (here || before)) (middle s b) (top k + 12) s.half ++ ring_if here (middle s b) (top k + 12))

abbrev pub lane_strokes : Sheet → World → ℕ → ℕ → ℕ → List ℕ
lane_strokes s v c k b = bar_piece s k b (is_on v c b) (any_below (is_on v c) b) (any_behind (is_on v c) b s.lanes)

-- of which these words are said
unfoldable pub drawn_bar : Sheet → ModuleValue → World → List ℕ → ℕ → ℕ → List ℕ
drawn_bar s m v words c k =
    ((each_below (line s m v k) s.lanes ++ bands s v k) ++ each_below (lane_strokes s v c k) s.lanes) ++ label (labels s) (top k + 16) words

abbrev pub clock_bar : Sheet → List ℕ → Option NamesValue → ModuleValue → World → ℕ → ℕ → List ℕ
clock_bar s rows n m v a c = drawn_bar s m v (label_of n v a c) c (bar_row rows v c)

-- ---- the picture

abbrev pub rows_of_step : Sheet → List ℕ → PlacesValue → Option NamesValue → ModuleValue → World → Account → List ℕ
rows_of_step s rows p n m v a = step_row s rows p n m v a ++ flat_map (clock_bar s rows n m v a.step.act) (advanced_now v)

-- of a step that is shown: its row, and below it the bars
abbrev pub drawn_step : Sheet → List ℕ → PlacesValue → Option NamesValue → ModuleValue → World → Account → List ℕ
drawn_step s rows p n m v a = if is_shown s.window v a.step.event then rows_of_step s rows p n m v a else []

abbrev pub lane_head : Sheet → ℕ → List ℕ
lane_head s b = lane_title (middle s b) (title b)

-- how high the picture is
abbrev pub high : ℕ → ℕ
high rows = top (min rows most_rows) + 16

-- what stands in each picture
abbrev pub furniture : List ℕ
furniture = style ++ (shapes ++ legend)

unfoldable pub head : Sheet → ℕ → ℕ → List ℕ
head s activities rows =
    (((svg_head (wide s) (high rows) ++ described activities rows) ++ furniture) ++ each_below (lane_head s) s.lanes)

-- there are no more rows and activities than are drawn
abbrev pub fits : ℕ → ℕ → Bool
fits rows activities = nat_le rows most_rows && nat_le activities most_lanes

-- behind the last row: of a run in which not all have ended words that say so
abbrev pub ending : ℕ → World → List ℕ
ending rows last = if all_ended last then [] else label 8 (top (min rows most_rows) + 10) (ending_words last)

abbrev pub picture_end : ℕ → World → List ℕ
picture_end rows last = ending rows last ++ codes "</svg>\n"

abbrev pub picture_in : Sheet → List ℕ → PlacesValue → Option NamesValue → ModuleValue → List Entry → World → List ℕ
picture_in s rows p n m log last =
    (head s (length last.activities) (length rows) ++ told_of_run (recounted_by m (drawn_step s rows p n m)) m last.arguments log) ++ picture_end (length rows) last

-- it isn't too large to be drawn
abbrev pub is_drawn : Window → ModuleValue → List Entry → World → Bool
is_drawn w m log last = fits (length (rows_of w m last.arguments log)) (length last.activities)

-- the columns of lanes, for these words
abbrev pub columns : PlacesValue → Option NamesValue → Window → ModuleValue → List Entry → World → Grid
columns p None w m log last = grid_for p w m log last
columns p (Some n) w m log last = grid_by_names p n w m log last

-- where the columns stand of the run that a log stands for, which ends in this world
abbrev pub sheet_for : PlacesValue → Option NamesValue → Window → ModuleValue → List Entry → World → Sheet
sheet_for p n w m log last = sheet_of (columns p n w m log last) (signs_of n (length last.clocks)) (length last.clocks)

-- the picture of these rows, if it is drawn, or else a line that says how large it would be
abbrev pub picture_by : Bool → PlacesValue → Option NamesValue → Window → List ℕ → ModuleValue → List Entry → World → List ℕ
picture_by drawn p n w rows m log last =
    if drawn then picture_in (sheet_for p n w m log last) rows p n m log last else too_large (length rows) (length last.activities)

-- the picture of these steps of that run
abbrev pub picture_text : PlacesValue → Option NamesValue → Window → ModuleValue → List Entry → World → List ℕ
picture_text p n w m log last = picture_by (is_drawn w m log last) p n w (rows_of w m last.arguments log) m log last

-- the names for a picture, if those of the shared numbers are known: clocks have those that they were made under, up to the last of these steps
abbrev pub names_for : PlacesValue → Option (List (List ℕ)) → Window → ModuleValue → List Entry → World → Option NamesValue
names_for p None w m log last = None
names_for p (Some shared) w m log last = Some (names_until p shared w.last m last.arguments log)

-- the same where shared numbers have these names, and clocks those that they were made under
abbrev pub named_picture_text : PlacesValue → List (List ℕ) → Window → ModuleValue → List Entry → World → List ℕ
named_picture_text p shared w m log last = picture_text p (names_for p (Some shared) w m log last) w m log last

-- ---- its plan

-- a picture is drawn so, or isn't, and this is told in its place
abbrev pub IsPlanned : PlacesValue → Option NamesValue → Window → ModuleValue → List Entry → World → Planned → Type 0
IsPlanned p n w m log last (planned.Drawn plan) =
    (is_drawn w m log last ≡ true)
    × ((plan.sheet ≡ sheet_for p n w m log last)
    × ((plan.names ≡ n) × ((plan.rows.items ≡ rows_of w m last.arguments log) × (plan.activities ≡ length last.activities))))
IsPlanned p n w m log last (planned.TooLarge text) =
    (is_drawn w m log last ≡ false) × (text.items ≡ too_large (length (rows_of w m last.arguments log)) (length last.activities))
