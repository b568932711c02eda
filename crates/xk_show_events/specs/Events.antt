-- The steps of a run that other activities can see, a line each. This project's own.
use Rattle.std.specs.Prelude.{ℕ, ℤ, List, [], ◌++◌, length, min, flat_map, Option, Some, None, option_map, slice_get, codes, decimal}
use Rattle.std.specs.Fmt.{signed_decimal}
use Rattle.xk_types.specs.declared.world.Entry.{Entry}
use Rattle.xk_types.specs.declared.world.Event.{Event}
use Rattle.xk_types.specs.declared.world.Event.TheVariants as event
use Rattle.xk_types.specs.Code.{ModuleValue}
use Rattle.xk_lines.specs.Lines.{position_of}
use Rattle.xk_lines.specs.declared.lines.Position.{Position}
use Rattle.xk_unit_origins.specs.UnitOrigins.{UnitOrigins, offsets_at}
use Rattle.xk_show_events.specs.declared.steps.RunStep.{RunStep}
use Rattle.xk_show_events.specs.Steps.{seen_steps}

-- ---- what a step did

abbrev pub event_name : Event → List ℕ
event_name event.Local = codes "local"
event_name (event.Printed n) = codes "print"
event_name event.Made = codes "make"
event_name event.Got = codes "read"
event_name event.Put = codes "write"
event_name event.Added = codes "add"
event_name event.Opened = codes "finish"
event_name event.Closed = codes "endfinish"
event_name event.Spawned = codes "async"
event_name event.Resumed = codes "resume"
event_name event.Dropped = codes "drop"
event_name event.Arrived = codes "arrive"
event_name event.Passed = codes "pass"
event_name event.Ended = codes "end"

-- the number that was printed; that of the clock, or of the activity, that was made, which is how many there were
abbrev pub operand : ℕ → ℕ → Event → List ℕ
operand clocks activities (event.Printed n) = codes " " ++ signed_decimal n
operand clocks activities event.Made = codes " " ++ decimal clocks
operand clocks activities event.Spawned = codes " " ++ decimal activities
operand clocks activities _ = []

-- `make 0`, `arrive`, `print -5`
unfoldable pub event_words : RunStep → List ℕ
event_words s = event_name s.event ++ operand s.clocks s.activities s.event

-- ---- where it was taken

-- A source text, and where the instructions of its units come from. A module alone has neither.
pub record PlacesValue : Type 0 where
  pub text : List ℕ
  pub origins : List UnitOrigins

abbrev pub places_of : List ℕ → List UnitOrigins → PlacesValue
places_of text origins = record { text = text; origins = origins }

abbrev pub no_text : PlacesValue
no_text = places_of [] []

-- the line and column that an instruction comes from, no further than where the text ends, if the origins say it
abbrev pub origin_of : PlacesValue → ℕ → ℕ → Option Position
origin_of p unit place = option_map (λ at. position_of p.text (min at (length p.text))) (slice_get (offsets_at p.origins unit) place)

-- `at 6:5`; where no origin says it, `unit 0 place 3`
abbrev pub place_words : ℕ → ℕ → Option Position → List ℕ
place_words unit place (Some p) = codes "at " ++ (decimal p.line ++ (codes ":" ++ decimal p.column))
place_words unit place None = codes "unit " ++ (decimal unit ++ (codes " place " ++ decimal place))

-- ---- the text

-- `step 4 act 0 at 6:5 print 10`
unfoldable pub event_line : PlacesValue → RunStep → List ℕ
event_line p s =
    codes "step " ++ (decimal s.number ++ (codes " act " ++ (decimal s.act
    ++ (codes " " ++ (place_words s.unit s.place (origin_of p s.unit s.place) ++ (codes " " ++ (event_words s ++ codes "\n")))))))

-- a line for each step of a run that other activities can see
abbrev pub events_text : PlacesValue → ModuleValue → List ℤ → List Entry → List ℕ
events_text p m args log = flat_map (event_line p) (seen_steps m args log)
