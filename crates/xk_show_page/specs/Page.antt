-- A run on a page of HTML: its source text, the picture of its lanes (`xk_show_picture`), and how things stand behind each step (`xk_show_where`). These are
-- the run's. The elements that hold them are spelled here, and so is the policy. What stands in each page besides, the script that shows them too, means
-- nothing to a run: `src/furniture.rt` has these texts. That it is told so is this project's own.
use Rattle.std.specs.Prelude.{ℕ, ◌==◌, nat_le, Bool, not, ◌&&◌, List, [], ◌∷◌, ◌++◌, flat_map, Option, Some, None, codes, if◌then◌else◌}
use Rattle.std.specs.Str.{bytes_eq}
use Rattle.xk_types.specs.declared.world.Entry.{Entry}
use Rattle.xk_types.specs.declared.world.Event.{Event}
use Rattle.xk_types.specs.declared.world.Event.TheVariants as event
use Rattle.xk_types.specs.Code.{ModuleValue}
use Rattle.xk_types.specs.World.{World, opening}
use Rattle.xk_types.specs.Schedule.{is_local}
use Rattle.xk_show_events.specs.declared.steps.RunStep.{RunStep}
use Rattle.xk_show_events.specs.Steps.{told_of_run}
use Rattle.xk_show_events.specs.Events.{PlacesValue, event_line}
use Rattle.xk_show_names.specs.declared.accounts.Account.{Account}
use Rattle.xk_show_names.specs.Accounts.{recounted_by}
use Rattle.xk_show_names.specs.ClockNames.{NamesValue}
use Rattle.xk_show_names.specs.Events.{account_words, step_words}
use Rattle.xk_show_lanes.specs.declared.window.Window.{Window}
use Rattle.xk_show_lanes.specs.Lanes.{is_asked}
use Rattle.xk_show_picture.specs.Picture.{is_drawn, names_for, picture_text}
use Rattle.xk_show_where.specs.Where.{named_standings_text, standings_text}
use Rattle.xk_show_page.specs.declared.furniture.TheConstants.{COLOURS, PLACES, MARKS, CONTROLS, LISTS, READER, SHOWER, MOVER}

-- ---- what stands in each page

-- the page's first lines, up to which styles and scripts its policy lets count: it forbids it to fetch anything
unfoldable pub first_lines : List ℕ
first_lines =
    codes "<!DOCTYPE html>\n"
    ++ (codes "<html lang=\"en\">\n"
    ++ (codes "<head>\n"
    ++ (codes "<meta charset=\"utf-8\">\n"
    ++ (codes "<meta name=\"viewport\" content=\"width=device-width, initial-scale=1\">\n"
    ++ codes "<meta http-equiv=\"Content-Security-Policy\" content=\"default-src 'none'; "))))

-- It lets one script run, and two styles count, by the sums of their bytes: the page's own, and the picture's style (Content Security
-- Policy, level 2). Then its title begins.
unfoldable pub page_policy : List ℕ
page_policy =
    codes "style-src 'sha256-QW0jIMtXTkkfaYlBND2dXOB+8VgibctLm50Yf0JGq0A=' "
    ++ (codes "'sha256-1Mhn6nywKkLaXR5W9I5AIbKxhh5lqmYSXkp8j1iVKwY='; "
    ++ (codes "script-src 'sha256-uxq7+y06EA9sB4bPJa0xOnw2yHT9pTDPpFC8SiTq/08='\">\n"
    ++ codes "<title>A run"))

-- its first lines, up to its title
unfoldable pub page_top : List ℕ
page_top = first_lines ++ page_policy

-- the end of its title, and the beginning of its style
unfoldable pub title_ends : List ℕ
title_ends = codes ", step by step</title>\n<style>\n"

-- the end of the page's style
unfoldable pub style_ends : List ℕ
style_ends = codes "</style>\n</head>\n"

-- The element of the source text begins, behind whose line feed its text does, and ends; and that of the picture begins.
unfoldable pub source_begins : List ℕ
source_begins = codes "<pre id=\"source\">\n"

unfoldable pub source_ends : List ℕ
source_ends = codes "</pre>\n"

unfoldable pub picture_begins : List ℕ
picture_begins = codes "<div id=\"picture\" tabindex=\"0\" role=\"group\" aria-label=\"Lanes of the run\">\n"

-- the beginning of its body, up to the heading's first words
unfoldable pub body_begins : List ℕ
body_begins = codes "<body class=\"still\">\n<header>\n<h1>A run"

-- between it and the picture
unfoldable pub behind_source : List ℕ
behind_source = (source_ends ++ LISTS.now) ++ picture_begins

-- between the picture and the moments, which no browser runs
unfoldable pub behind_picture : List ℕ
behind_picture = codes "</div>\n</section>\n</main>\n<script type=\"text/plain\" id=\"moments\">\n"

-- the script that shows the moments
unfoldable pub script : List ℕ
script = (READER.now ++ SHOWER.now) ++ MOVER.now

-- the end of the script's element, and of the page
unfoldable pub page_ends : List ℕ
page_ends = codes "</script>\n</body>\n</html>\n"

-- behind the moments: the script that shows them
unfoldable pub page_tail : List ℕ
page_tail = (codes "</script>\n<script>\n" ++ script) ++ page_ends

-- ---- the source text

-- What stands for a byte: where HTML would take it for a reference's beginning, a tag's, or a line's end, a reference to it, and else the byte. HTML
-- reads them back, but for NUL, which it can't hold.
abbrev pub escaped_byte : ℕ → List ℕ
escaped_byte b = if b == 38 then codes "&amp;" else (if b == 60 then codes "&lt;" else (if b == 13 then codes "&#13;" else b ∷ []))

abbrev pub escaped : List ℕ → List ℕ
escaped text = flat_map escaped_byte text

-- ---- the file's name

-- it was read from standard input
abbrev pub is_nameless : List ℕ → Bool
is_nameless file = bytes_eq file (codes "-")

-- behind `A run`: ` of t7.x10`; nothing of standard input
abbrev pub of_file : List ℕ → List ℕ
of_file file = if is_nameless file then [] else codes " of " ++ escaped file

-- ---- before the source text

-- behind the first lines of the page of a file: the rest of its title, and the page's own style
unfoldable pub page_look : List ℕ → List ℕ
page_look file = (((of_file file ++ title_ends) ++ COLOURS.now) ++ PLACES.now) ++ MARKS.now

-- from the beginning of its body to that of the source text
unfoldable pub body_head : List ℕ → List ℕ
body_head file = ((body_begins ++ of_file file) ++ CONTROLS.now) ++ source_begins

-- before the source text
unfoldable pub page_head : List ℕ → List ℕ
page_head file = ((page_top ++ page_look file) ++ style_ends) ++ body_head file

-- ---- moments

-- a step that others can see, and that is asked for
abbrev pub is_moment : Window → RunStep → Bool
is_moment window r = not (is_local r.event) && is_asked window r.number

-- `step 9 act 1 at 7:9 read total 2`
unfoldable pub named_line : PlacesValue → NamesValue → Account → List ℕ
named_line p n a = step_words p a.step ++ (codes " " ++ (account_words n a ++ codes "\n"))

-- the line of a step: of a source text's module by the names of what it was about, and with values
abbrev pub line_of : PlacesValue → Option NamesValue → Account → List ℕ
line_of p None a = event_line p a.step
line_of p (Some n) a = named_line p n a

-- how things stand in world v: of a source text's module by names, and with the activities' own numbers
abbrev pub standings_by : PlacesValue → Option NamesValue → ModuleValue → World → List ℕ
standings_by p None m v = standings_text p m v None
standings_by p (Some n) m v = named_standings_text p n.shared m v None

-- what was done in a step that led to world v, and how things stand there
abbrev pub moment : PlacesValue → Option NamesValue → ModuleValue → World → Account → List ℕ
moment p n m v a = line_of p n a ++ standings_by p n m v

-- of a step that isn't told so: that it printed, if it did, and the last step that is asked for isn't behind
abbrev pub print_by : Window → PlacesValue → Option NamesValue → Account → Event → List ℕ
print_by window p n a (event.Printed number) = if nat_le a.step.number window.last then line_of p n a else []
print_by window p n a _ = []

abbrev pub told_step : Window → PlacesValue → Option NamesValue → ModuleValue → World → Account → List ℕ
told_step window p n m v a = if is_moment window a.step then moment p n m v a else print_by window p n a a.step.event

-- how things stand before the first step, and what is told of each
abbrev pub moments : Window → PlacesValue → Option NamesValue → ModuleValue → List Entry → World → List ℕ
moments window p n m log last =
    standings_by p n m (opening m last.arguments) ++ told_of_run (recounted_by m (told_step window p n m)) m last.arguments log

-- ---- the page

-- of a file, its source text, a picture and moments
abbrev pub page_of : List ℕ → List ℕ → List ℕ → List ℕ → List ℕ
page_of file text picture told = (((((page_head file ++ escaped text) ++ behind_source) ++ picture) ++ behind_picture) ++ told) ++ page_tail

-- the page, if the picture is drawn, or else the line that stands in the picture's place
abbrev pub page_by : Bool → List ℕ → List ℕ → List ℕ → List ℕ → List ℕ
page_by drawn file text picture told = if drawn then page_of file text picture told else picture

-- the page of these steps of the run of a file's module that a log stands for, which ends in this world
abbrev pub page_text : List ℕ → PlacesValue → Option NamesValue → Window → ModuleValue → List Entry → World → List ℕ
page_text file p n window m log last =
    page_by (is_drawn window m log last) file p.text (picture_text p n window m log last) (moments window p n m log last)

-- the same where shared numbers have these names, and clocks those that they were made under
abbrev pub named_page_text : List ℕ → PlacesValue → List (List ℕ) → Window → ModuleValue → List Entry → World → List ℕ
named_page_text file p shared w m log last = page_text file p (names_for p (Some shared) w m log last) w m log last
