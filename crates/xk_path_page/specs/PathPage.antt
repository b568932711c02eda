-- A run on a page of HTML with its critical path: the page (`xk_show_page`), in which the picture has the path (`xk_show_path`), with what
-- `span` tells of the run (`xk_show_span`), which of the path's steps the page has, and how many of all of them come from each line of the
-- source text. What stands in each such page besides, `src/furniture.rt` has. That it is told so is this project's own.
use Rattle.std.specs.Prelude.{ℕ, ℤ, nat_eq, Bool, List, [], ◌++◌, length, flat_map, Option, codes, decimal, if◌then◌else◌}
use Rattle.xk_types.specs.declared.world.Entry.{Entry}
use Rattle.xk_types.specs.Code.{ModuleValue}
use Rattle.xk_types.specs.World.{World}
use Rattle.xk_show_events.specs.declared.steps.RunStep.{RunStep}
use Rattle.xk_show_events.specs.Events.{PlacesValue}
use Rattle.xk_show_events.specs.Worlds.{each_below}
use Rattle.xk_races.specs.Lists.{number_at}
use Rattle.xk_show_lanes.specs.declared.window.Window.{Window}
use Rattle.xk_show_picture.specs.Picture.{is_drawn, names_for}
use Rattle.xk_show_path.specs.PathPicture.{boxes_of, path_picture_text}
use Rattle.xk_show_path.specs.Rounds.{Rounds, round_of, rounds_of_run}
use Rattle.xk_show_span.specs.Text.{lines_of, span_text}
use Rattle.xk_show_page.specs.Page.{behind_picture, behind_source, body_head, escaped, first_lines, moments, page_ends, page_look}
use Rattle.xk_show_page.specs.Page.{script, style_ends}
use Rattle.xk_path_page.specs.declared.furniture.TheConstants.{PATH_LOOK, PATH_SCRIPT}

-- ---- what stands in each such page

-- Its policy lets one script run, and three styles count, by the sums of their bytes: the page's own, the picture's, and that of its path.
-- Then its title begins.
unfoldable pub path_policy : List ℕ
path_policy =
    codes "style-src 'sha256-3AudEqmNWbq3mUU2JPSAnnVqD4aj2CNtJ7TS8zftzCE=' "
    ++ (codes "'sha256-1Mhn6nywKkLaXR5W9I5AIbKxhh5lqmYSXkp8j1iVKwY=' "
    ++ (codes "'sha256-C/CwnOfAaIvnA9MqM4aYikITnRrEXrobyxc7PFf1e48='; "
    ++ (codes "script-src 'sha256-E6aMYpc/JcaWJiaPh97yynB5puSGVzMHZmMkYc2rsCQ='\">\n"
    ++ codes "<title>A run")))

-- before the source text
unfoldable pub path_head : List ℕ → List ℕ
path_head file = ((((first_lines ++ path_policy) ++ page_look file) ++ PATH_LOOK.now) ++ style_ends) ++ body_head file

-- between the moments and what is told of the path, which no browser runs
unfoldable pub behind_moments : List ℕ
behind_moments = codes "</script>\n<script type=\"text/plain\" id=\"path\">\n"

-- the end of that element, and the beginning of the script's
unfoldable pub script_begins : List ℕ
script_begins = codes "</script>\n<script>\n"

-- behind what is told of the path: the script that shows the moments, and the path
unfoldable pub path_tail : List ℕ
path_tail = ((script_begins ++ script) ++ PATH_SCRIPT.now) ++ page_ends

-- ---- the path

-- of one of its steps `step 77 act 3 round 43`
unfoldable pub step_line : Rounds → RunStep → List ℕ
step_line r s =
    codes "step " ++ (decimal s.number ++ (codes " act " ++ (decimal s.act
    ++ (codes " round " ++ (decimal (round_of r s.number) ++ codes "\n")))))

-- those of its steps that the page has: that are asked for, and that others can see
abbrev pub steps_told : Window → Rounds → List ℕ
steps_told w r = flat_map (step_line r) (boxes_of w r.path)

-- `line 4 with 52`
unfoldable pub line_words : ℕ → ℕ → List ℕ
line_words line many = codes "line " ++ (decimal line ++ (codes " with " ++ (decimal many ++ codes "\n")))

-- of a line, if any of the path's steps come from it
abbrev pub line_if_any : List ℕ → ℕ → List ℕ
line_if_any counts line = if nat_eq (number_at counts line) 0 then [] else line_words line (number_at counts line)

-- of each line how many do, by how many come from each
abbrev pub lines_told : List ℕ → List ℕ
lines_told counts = each_below (line_if_any counts) (length counts)

-- what `span` tells, and of the path's steps
abbrev pub told_with : List ℕ → Rounds → PlacesValue → Window → List ℕ
told_with span r p w = (span ++ steps_told w r) ++ lines_told (lines_of p r.path)

-- of the run that a log stands for
abbrev pub path_told : PlacesValue → Window → ModuleValue → List ℤ → List Entry → List ℕ
path_told p w m args log = told_with (span_text p m args log) (rounds_of_run m args log) p w

-- ---- the page

-- what stands before the picture, of a file and its source text
abbrev pub path_front : List ℕ → List ℕ → List ℕ
path_front file text = (path_head file ++ escaped text) ++ behind_source

-- of a file, its source text, a picture, moments and what is told of a path
abbrev pub path_page_of : List ℕ → List ℕ → List ℕ → List ℕ → List ℕ → List ℕ
path_page_of file text picture told path =
    (((((path_front file text ++ picture) ++ behind_picture) ++ told) ++ behind_moments) ++ path) ++ path_tail

-- the page, if the picture is drawn, or else the line that stands in the picture's place
abbrev pub path_page_by : Bool → List ℕ → List ℕ → List ℕ → List ℕ → List ℕ → List ℕ
path_page_by drawn file text picture told path = if drawn then path_page_of file text picture told path else picture

-- The page of these steps of the run of a file's module that a log stands for, which ends in this world, with the rounds and the path that
-- `span` tells of it; by names, where those of the shared numbers are known.
abbrev pub path_page_text : List ℕ → PlacesValue → Option (List (List ℕ)) → Window → ModuleValue → List Entry → World → List ℕ
path_page_text file p shared w m log last =
    path_page_by (is_drawn w m log last) file p.text (path_picture_text p shared w m log last)
    (moments w p (names_for p shared w m log last) m log last) (path_told p w m last.arguments log)
