-- How things stand in a world that the steps of a log lead to. What steps, clocks and finishes are, `xk_types` says in `Step.antt`; that it is
-- told so is this project's own.
use Rattle.std.specs.Prelude.{ℕ, ℤ, ◌-◌, nat_eq, nat_lt, Bool, ◌&&◌, List, [], ◌++◌, length, flat_map, Option, Some, None, slice_get, codes, decimal, if◌then◌else◌}
use Rattle.std.specs.Fmt.{signed_decimal}
use Rattle.std.specs.Option.{option_map_or}
use Rattle.xk_types.specs.declared.world.Entry.{Entry}
use Rattle.xk_types.specs.declared.world.Standing.{Standing}
use Rattle.xk_types.specs.declared.world.Standing.TheVariants as standing
use Rattle.xk_types.specs.Code.{ModuleValue}
use Rattle.xk_types.specs.World.{World, standing_of}
use Rattle.xk_types.specs.Step.{innermost, is_pending, is_under}
use Rattle.xk_types.specs.Schedule.{is_enabled}
use Rattle.xk_activity.specs.Activities.{act_at}
use Rattle.xk_core.specs.Core.{is_living, is_waiting}
use Rattle.xk_show_events.specs.Worlds.{each_below, phase_of, those_below}
use Rattle.xk_show_events.specs.Events.{PlacesValue, origin_of, place_words}
use Rattle.xk_show_names.specs.Letters.{cut_name}
use Rattle.xk_show_locals.specs.Locals.{locals_lines}
use Rattle.xk_show_where.specs.declared.condition.Condition.{Condition}
use Rattle.xk_show_where.specs.declared.condition.Condition.TheVariants as condition
use Rattle.xk_show_where.specs.declared.progress.Stop.{Stop}
use Rattle.xk_show_where.specs.Excerpts.{ExcerptValue, excerpt_of}
use Rattle.xk_show_where.specs.Progress.{course_of, is_through, reached, step_behind}

-- ---- lists

-- an activity, after a blank
abbrev pub act_word : ℕ → List ℕ
act_word a = codes " " ++ decimal a

abbrev pub more_words : ℕ → List ℕ
more_words k = if nat_eq k 0 then [] else codes " and " ++ (decimal k ++ codes " more")

abbrev pub excerpt_words : ExcerptValue → List ℕ
excerpt_words e = flat_map act_word e.first ++ more_words (e.count - 8)

-- activities: the first eight of them, and how many more
unfoldable pub listed : List ℕ → List ℕ
listed acts = excerpt_words (excerpt_of acts)

-- ---- what an activity does

-- Who lives and can't take a step waits: for clocks, if it is behind the first half of an `advance`, else in a finish.
abbrev pub condition_of : ModuleValue → World → ℕ → Condition
condition_of m w a =
    if is_living w a then (if is_enabled m w a then condition.Able else (if is_waiting w a then condition.ForClocks else condition.InFinish))
    else (if nat_lt a (length w.activities) then condition.Ended else condition.Absent)

abbrev pub condition_words : Condition → List ℕ
condition_words condition.Absent = codes " isn't there"
condition_words condition.Ended = codes " has ended"
condition_words condition.Able = codes " can step"
condition_words condition.ForClocks = codes " waits for clocks"
condition_words condition.InFinish = codes " waits in finish"

-- activity b is under the finish that activity a opened last, and hasn't ended
abbrev pub is_awaited : World → ℕ → ℕ → Bool
is_awaited w a b = is_under w.activities (innermost a (act_at w.activities a)) b && is_living w b

-- whom activity a awaits at its `endfinish`
abbrev pub awaited_by : World → ℕ → List ℕ
awaited_by w a = those_below (is_awaited w a) (length w.activities)

-- ---- clocks

-- where activity a stands on clock c
abbrev pub standing_on : World → ℕ → ℕ → Standing
standing_on w a c = option_map_or (λ k. standing_of k a) (slice_get w.clocks c) standing.Apart

-- who holds clock c back: those registered on it who aren't signalled
abbrev pub holders_of : World → ℕ → List ℕ
holders_of w c = those_below (λ a. is_pending (standing_on w a c)) (length w.activities)

-- ` held by 2 3`
unfoldable pub held_words : World → ℕ → List ℕ
held_words w c = codes " held by" ++ listed (holders_of w c)

-- of a clock that an activity waits for
abbrev pub holders_words : Condition → World → ℕ → List ℕ
holders_words condition.Absent w c = []
holders_words condition.Ended w c = []
holders_words condition.Able w c = []
holders_words condition.ForClocks w c = held_words w c
holders_words condition.InFinish w c = []

-- `, clock 0 open`
unfoldable pub clock_words : ℕ → List ℕ → List ℕ
clock_words c word = codes ", clock " ++ (decimal c ++ (codes " " ++ word))

-- a clock, and where somebody of this condition stands on it
abbrev pub registration_by : Standing → Condition → World → ℕ → List ℕ
registration_by standing.Apart k w c = []
registration_by standing.Open k w c = clock_words c (codes "open")
registration_by standing.Signalled k w c = clock_words c (codes "signalled") ++ holders_words k w c
registration_by standing.Ahead k w c = clock_words c (codes "ahead")

unfoldable pub registration : Condition → World → ℕ → ℕ → List ℕ
registration k w a c = registration_by (standing_on w a c) k w c

-- the clocks on which activity a is registered
abbrev pub registrations : Condition → World → ℕ → List ℕ
registrations k w a = each_below (registration k w a) (length w.clocks)

-- ---- lines

-- where activity a is: the instruction that it carries out next, or its `advance`
unfoldable pub place_of : PlacesValue → World → ℕ → List ℕ
place_of p w a =
    codes " " ++ place_words (act_at w.activities a).frame.unit (act_at w.activities a).frame.place
    (origin_of p (act_at w.activities a).frame.unit (act_at w.activities a).frame.place)

-- where it is, what it does there, and on which clocks it is registered; of one that has ended only that
abbrev pub act_words : Condition → PlacesValue → World → ℕ → List ℕ
act_words condition.Absent p w a = condition_words condition.Absent
act_words condition.Ended p w a = condition_words condition.Ended
act_words condition.Able p w a = (place_of p w a ++ condition_words condition.Able) ++ registrations condition.Able w a
act_words condition.ForClocks p w a = (place_of p w a ++ condition_words condition.ForClocks) ++ registrations condition.ForClocks w a
act_words condition.InFinish p w a =
    (((place_of p w a ++ condition_words condition.InFinish) ++ codes " for") ++ listed (awaited_by w a)) ++ registrations condition.InFinish w a

-- `act 0 at 23:26 waits for clocks, clock 0 signalled held by 2`
unfoldable pub act_line : PlacesValue → ModuleValue → World → ℕ → List ℕ
act_line p m w a = ((codes "act " ++ decimal a) ++ act_words (condition_of m w a) p w a) ++ codes "\n"

-- `clock 0 phase 1`
unfoldable pub clock_line : World → ℕ → List ℕ
clock_line w c = codes "clock " ++ (decimal c ++ (codes " phase " ++ (decimal (phase_of w c) ++ codes "\n")))

abbrev pub shared_line_of : ℕ → Option ℤ → List ℕ
shared_line_of s None = []
shared_line_of s (Some n) = codes "shared " ++ (decimal s ++ (codes " is " ++ (signed_decimal n ++ codes "\n")))

-- `shared 0 is 5`
abbrev pub shared_line : List ℤ → ℕ → List ℕ
shared_line cells s = shared_line_of s (slice_get cells s)

-- `total = 5`
unfoldable pub value_line : List ℕ → ℤ → List ℕ
value_line name n = cut_name name ++ (codes " = " ++ (signed_decimal n ++ codes "\n"))

-- of a shared number whose name is known, if it is
abbrev pub named_line_of : Option (List ℕ) → ℕ → ℤ → List ℕ
named_line_of None s n = shared_line_of s (Some n)
named_line_of (Some name) s n = value_line name n

-- if there is such a number
abbrev pub named_line_if : Option (List ℕ) → ℕ → Option ℤ → List ℕ
named_line_if name s None = []
named_line_if name s (Some n) = named_line_of name s n

-- where shared numbers have these names
abbrev pub named_line : List (List ℕ) → List ℤ → ℕ → List ℕ
named_line shared cells s = named_line_if (slice_get shared s) s (slice_get cells s)

-- the line of an activity of a source text, and those of its own numbers
abbrev pub told_act : PlacesValue → ModuleValue → World → ℕ → List ℕ
told_act p m w a = act_line p m w a ++ locals_lines p m w a

-- `entry 4 step 9 of 11: act 0 has ended`
unfoldable pub stop_line : ModuleValue → World → Stop → List ℕ
stop_line m w s =
    codes "entry " ++ (decimal s.entry ++ (codes " step " ++ (decimal s.step ++ (codes " of " ++ (decimal s.steps ++ (codes ": act "
    ++ (decimal s.act ++ (condition_words (condition_of m w s.act) ++ codes "\n"))))))))

abbrev pub stop_text : ModuleValue → World → Option Stop → List ℕ
stop_text m w None = []
stop_text m w (Some s) = stop_line m w s

-- ---- the text

unfoldable pub steps_line : World → List ℕ
steps_line w = codes "steps " ++ (decimal w.steps ++ codes "\n")

-- of a world, and the step that can't be taken there, if there is one
abbrev pub standings_text : PlacesValue → ModuleValue → World → Option Stop → List ℕ
standings_text p m w stop =
    (((steps_line w ++ each_below (act_line p m w) (length w.activities)) ++ each_below (clock_line w) (length w.clocks))
    ++ each_below (shared_line w.cells) (length w.cells)) ++ stop_text m w stop

-- each step of the log can be taken
abbrev pub are_steps_legal : ModuleValue → List ℤ → List Entry → Bool
are_steps_legal m args log = is_through (course_of m args log)

-- Of the world that the steps of a log lead to, as far as they can be taken. So many were taken, and the step behind them can't be.
abbrev pub where_text : PlacesValue → ModuleValue → List ℤ → List Entry → List ℕ
where_text p m args log =
    standings_text p m (reached m args log) (step_behind 0 (reached m args log).steps log)

-- ---- by names

-- the same of a source text, whose shared numbers have these names
abbrev pub named_standings_text : PlacesValue → List (List ℕ) → ModuleValue → World → Option Stop → List ℕ
named_standings_text p shared m w stop =
    (((steps_line w ++ each_below (told_act p m w) (length w.activities)) ++ each_below (clock_line w) (length w.clocks))
    ++ each_below (named_line shared w.cells) (length w.cells)) ++ stop_text m w stop

abbrev pub named_where_text : PlacesValue → List (List ℕ) → ModuleValue → List ℤ → List Entry → List ℕ
named_where_text p shared m args log =
    named_standings_text p shared m (reached m args log) (step_behind 0 (reached m args log).steps log)
