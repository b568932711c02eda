-- What is told of how long a run had to take. This project's own.
use Rattle.std.specs.Prelude.{ℕ, ℤ, ◌-◌, ◌/◌, ◌%◌, nat_eq, Bool, true, false, List, [], ◌∷◌, ◌++◌, length, take, flat_map}
use Rattle.std.specs.Prelude.{Option, Some, None, slice_get, codes, decimal, if◌then◌else◌}
use Rattle.xk_types.specs.declared.world.Entry.{Entry}
use Rattle.xk_types.specs.declared.world.Event.{Event}
use Rattle.xk_types.specs.declared.world.Event.TheVariants as event
use Rattle.xk_types.specs.Code.{ModuleValue}
use Rattle.xk_lines.specs.declared.lines.Position.{Position}
use Rattle.xk_show_events.specs.declared.steps.RunStep.{RunStep}
use Rattle.xk_show_events.specs.Events.{PlacesValue, event_words, origin_of, place_words}
use Rattle.xk_races.specs.declared.deeds.Deed.{Deed}
use Rattle.xk_races.specs.Races.{is_race_free}
use Rattle.xk_span.specs.Steps.{critical_steps, steps_of_run, steps_span, steps_times, work_of}
use Rattle.xk_span_summary.specs.declared.counts.Count.{Count}
use Rattle.xk_span_summary.specs.declared.stretches.Stretch.{Stretch}
use Rattle.xk_span_summary.specs.declared.waits.Wait.{Wait}
use Rattle.xk_span_summary.specs.Counts.{counted, greatest, greatest_few}
use Rattle.xk_show_span.specs.Phases.{phases_text}
use Rattle.xk_span_summary.specs.Shares.{hundredths, least_rounds, level_rounds, widths_of}
use Rattle.xk_show_span.specs.Spots.{spot}
use Rattle.xk_span_summary.specs.Stretches.{stretches_of}
use Rattle.xk_span_summary.specs.Waits.{rounds_waited, waits_of}

-- ---- work and span

-- hundredths, as `1.88`
unfoldable pub two_decimals : ℕ → List ℕ
two_decimals h = decimal (h / 100) ++ (codes "." ++ (decimal (h / 10 % 10) ++ decimal (h % 10)))

-- `work 158 span 84 parallelism 1.88 widest 4`
unfoldable pub work_line : ℕ → ℕ → ℕ → List ℕ
work_line work span widest =
    codes "work " ++ (decimal work ++ (codes " span " ++ (decimal span
    ++ (codes " parallelism " ++ (two_decimals (hundredths work span) ++ (codes " widest " ++ (decimal widest ++ codes "\n")))))))

-- `on 2 processors rounds 84 to 118`
unfoldable pub processors_line : ℕ → ℕ → ℕ → List ℕ
processors_line p least most =
    codes "on " ++ (decimal p ++ (codes " processors rounds " ++ (decimal least ++ (codes " to " ++ (decimal most ++ codes "\n")))))

abbrev pub on_processors : ℕ → ℕ → List ℕ → ℕ → List ℕ
on_processors work span widths p = processors_line p (least_rounds p work span) (level_rounds p widths)

-- on 2, 4 and 8 of them, if the run has no race
abbrev pub processors_text : Bool → ℕ → ℕ → List ℕ → List ℕ
processors_text false work span widths = []
processors_text true work span widths =
    (on_processors work span widths 2 ++ on_processors work span widths 4) ++ on_processors work span widths 8

-- ---- the path by stretches

-- why the first step of a stretch comes behind one of another activity
abbrev pub cause : Event → List ℕ
cause event.Passed = codes ", passes a clock that waited for act "
cause event.Closed = codes ", closes a finish that waited for act "
cause event.Local = codes ", started by act "
cause (event.Printed n) = codes ", started by act "
cause event.Made = codes ", started by act "
cause event.Got = codes ", started by act "
cause event.Put = codes ", started by act "
cause event.Added = codes ", started by act "
cause event.Opened = codes ", started by act "
cause event.Spawned = codes ", started by act "
cause event.Resumed = codes ", started by act "
cause event.Dropped = codes ", started by act "
cause event.Arrived = codes ", started by act "
cause event.Ended = codes ", started by act "

abbrev pub cause_words : Option ℕ → Event → List ℕ
cause_words None e = []
cause_words (Some a) e = cause e ++ decimal a

-- `path rounds 9 to 79 act 3 from 9:17 to 11:17, started by act 0`
unfoldable pub stretch_line : PlacesValue → Stretch → List ℕ
stretch_line p s =
    codes "path rounds " ++ (decimal s.start ++ (codes " to " ++ (decimal s.stop ++ (codes " act " ++ (decimal s.first.act
    ++ (codes " from " ++ (spot p s.first ++ (codes " to " ++ (spot p s.last
    ++ (cause_words s.behind s.first.event ++ codes "\n"))))))))))

-- so many stretches are shown at most, the first ones
unfoldable pub most_shown : ℕ
most_shown = 200

-- how many aren't
abbrev pub rest_line : ℕ → List ℕ
rest_line n = if nat_eq n 0 then [] else codes "path and " ++ (decimal n ++ codes " stretches more\n")

abbrev pub path_text : PlacesValue → List Stretch → List ℕ
path_text p list = flat_map (stretch_line p) (take most_shown list) ++ rest_line (length list - most_shown)

-- ---- the path by lines

-- with the line that a step comes from, if the origins say it
abbrev pub at_line : Option Position → List ℕ → List ℕ
at_line None counts = counts
at_line (Some p) counts = counted p.line counts

abbrev pub lines_from : PlacesValue → List ℕ → List RunStep → List ℕ
lines_from p counts [] = counts
lines_from p counts (s ∷ path) = lines_from p (at_line (origin_of p s.unit s.place) counts) path

-- how many steps of a path come from each line
abbrev pub lines_of : PlacesValue → List RunStep → List ℕ
lines_of p path = lines_from p [] path

-- ` 4 with 52`
unfoldable pub count_words : Count → List ℕ
count_words c = codes " " ++ (decimal c.number ++ (codes " with " ++ decimal c.many))

abbrev pub more_words : Count → List ℕ
more_words c = codes "," ++ count_words c

-- `path lines 4 with 52, 10 with 10`
abbrev pub line_of : Count → List Count → List ℕ
line_of c list = ((codes "path lines" ++ count_words c) ++ flat_map more_words list) ++ codes "\n"

-- the five lines with the most steps
abbrev pub lines_line : List Count → List ℕ
lines_line [] = []
lines_line (c ∷ list) = line_of c list

abbrev pub lines_text : PlacesValue → List RunStep → List ℕ
lines_text p path = lines_line (greatest_few 5 (lines_of p path))

-- ---- waits

-- `waited 82 rounds at 11:17 pass, 4 times`
unfoldable pub wait_line : PlacesValue → Wait → List ℕ
wait_line p w =
    codes "waited " ++ (decimal w.rounds ++ (codes " rounds "
    ++ (place_words w.step.unit w.step.place (origin_of p w.step.unit w.step.place)
    ++ (codes " " ++ (event_words w.step ++ (codes ", " ++ (decimal w.times ++ codes " times\n")))))))

abbrev pub wait_line_if_any : PlacesValue → Option Wait → List ℕ
wait_line_if_any p None = []
wait_line_if_any p (Some w) = wait_line p w

abbrev pub wait_line_at : PlacesValue → List Wait → Count → List ℕ
wait_line_at p waits c = wait_line_if_any p (slice_get waits c.number)

-- the six places where activities waited longest
abbrev pub waits_text : PlacesValue → List Wait → List ℕ
waits_text p waits = flat_map (wait_line_at p waits) (greatest_few 6 (rounds_waited waits))

-- ---- the text

-- Of which runs it holds: where there is no race, each run takes as many steps, has this span, and as many steps in its widest round
-- (`work_for_all`, `span_for_all` and `widths_for_all` of `xk_law_work`).
abbrev pub scope_line : Bool → List ℕ
scope_line true = codes "every schedule has this work and span, and this widest round\n"
scope_line false = codes "of this run alone\n"

-- the first lines, by how many steps each round has
abbrev pub head_text : Bool → ℕ → ℕ → List ℕ → List ℕ
head_text free work span widths =
    work_line work span (greatest widths).many ++ processors_text free work span widths

-- of deeds and their times, by whether their run has no race
abbrev pub text_by : PlacesValue → Bool → List Deed → List ℕ → List ℕ
text_by p free ds times =
    ((((head_text free (work_of ds) (steps_span ds) (widths_of times ds) ++ path_text p (stretches_of (critical_steps ds)))
    ++ lines_text p (critical_steps ds)) ++ phases_text p times ds) ++ waits_text p (waits_of times ds)) ++ scope_line free

abbrev pub span_text_of : PlacesValue → Bool → List Deed → List ℕ
span_text_of p free ds = text_by p free ds (steps_times ds)

-- what is told of the run that a log stands for
abbrev pub span_text : PlacesValue → ModuleValue → List ℤ → List Entry → List ℕ
span_text p m args log = span_text_of p (is_race_free m args log) (steps_of_run m args log)
