-- How things stand in a world as a JSON value: what each activity does, on which clocks it is registered, for whom it waits; clocks, and
-- who holds them back; frames; shared numbers; and the step that can't be taken. This project's own.
use Rattle.std.specs.Prelude.{ℕ, ℤ, Bool, ◌&&◌, List, [], ◌∷◌, ◌++◌, length, Option, Some, None, is_none, slice_get, codes, if◌then◌else◌}
use Rattle.serde_json.specs.Data.{Data, array, string}
use Rattle.serde_json.specs.View.{items_of}
use Rattle.xk_json.specs.Objects.{Group, array_of, integer_value, number_value, object_of}
use Rattle.xk_types.specs.declared.world.Entry.{Entry}
use Rattle.xk_types.specs.declared.world.Standing.{Standing}
use Rattle.xk_types.specs.declared.world.Standing.TheVariants as standing
use Rattle.xk_types.specs.Code.{ModuleValue}
use Rattle.xk_types.specs.World.{Activity, World}
use Rattle.xk_activity.specs.Activities.{act_at}
use Rattle.xk_core.specs.Core.{is_living}
use Rattle.xk_show_events.specs.Events.{PlacesValue}
use Rattle.xk_show_events.specs.Worlds.{each_below, phase_of}
use Rattle.xk_show_where.specs.declared.condition.Condition.{Condition}
use Rattle.xk_show_where.specs.declared.condition.Condition.TheVariants as condition
use Rattle.xk_show_where.specs.declared.progress.Stop.{Stop}
use Rattle.xk_show_where.specs.Excerpts.{ExcerptValue, excerpt_of}
use Rattle.xk_show_where.specs.Progress.{reached, step_behind}
use Rattle.xk_show_where.specs.Where.{are_steps_legal, awaited_by, condition_of, holders_of, standing_on}
use Rattle.xk_where_json.specs.Frames.{frame_items, name_member, place_groups}

-- ---- activities

abbrev pub condition_name : Condition → List ℕ
condition_name condition.Absent = codes "isn't there"
condition_name condition.Ended = codes "has ended"
condition_name condition.Able = codes "can step"
condition_name condition.ForClocks = codes "waits for clocks"
condition_name condition.InFinish = codes "waits in finish"

-- the first eight of some activities, and how many there are, under these keys
abbrev pub excerpt_members : List ℕ → List ℕ → ExcerptValue → Group
excerpt_members key count e = (key, array_of number_value e.first) ∷ (count, number_value e.count) ∷ []

-- whom somebody of this condition awaits in a finish
abbrev pub awaited_members : Condition → World → ℕ → Group
awaited_members condition.Absent w a = []
awaited_members condition.Ended w a = []
awaited_members condition.Able w a = []
awaited_members condition.ForClocks w a = []
awaited_members condition.InFinish w a =
    excerpt_members (codes "waits_for") (codes "waits_for_count") (excerpt_of (awaited_by w a))

-- of one who is registered
abbrev pub standing_name : Standing → Option (List ℕ)
standing_name standing.Apart = None
standing_name standing.Open = Some (codes "open")
standing_name standing.Signalled = Some (codes "signalled")
standing_name standing.Ahead = Some (codes "ahead")

abbrev pub registration_groups : ℕ → List ℕ → List Group
registration_groups c word = ((codes "clock", number_value c) ∷ (codes "standing", string word) ∷ []) ∷ []

-- `{"clock":0,"standing":"open"}`
abbrev pub registration_by : ℕ → Option (List ℕ) → List Data
registration_by c None = []
registration_by c (Some word) = object_of (registration_groups c word) ∷ []

abbrev pub registration_items : World → ℕ → ℕ → List Data
registration_items w a c = registration_by c (standing_name (standing_on w a c))

-- the clocks on which activity a is registered
abbrev pub registrations_value : World → ℕ → Data
registrations_value w a = array (items_of (each_below (registration_items w a) (length w.clocks)))

-- where one is who hasn't ended, on which clocks it is registered, and whom it awaits
abbrev pub living_groups : PlacesValue → World → ℕ → Condition → Activity → List Group
living_groups p w a k act =
    place_groups p act.frame.unit act.frame.place ++ ((codes "clocks", registrations_value w a) ∷ []) ∷ awaited_members k w a ∷ []

-- of one who has ended none of it
abbrev pub act_groups : PlacesValue → ModuleValue → World → ℕ → List Group
act_groups p m w a = if is_living w a then living_groups p w a (condition_of m w a) (act_at w.activities a) else []

abbrev pub does_members : ℕ → Condition → Group
does_members a k = (codes "act", number_value a) ∷ (codes "does", string (condition_name k)) ∷ []

abbrev pub act_value : PlacesValue → ModuleValue → World → ℕ → Data
act_value p m w a = object_of (does_members a (condition_of m w a) ∷ act_groups p m w a)

-- ---- clocks and shared numbers

abbrev pub clock_groups : World → ℕ → List Group
clock_groups w c =
    ((codes "clock", number_value c) ∷ (codes "phase", number_value (phase_of w c)) ∷ [])
    ∷ excerpt_members (codes "held_by") (codes "held_by_count") (excerpt_of (holders_of w c))
    ∷ []

-- `{"clock":0,"held_by":[0],"held_by_count":1,"phase":1}`
abbrev pub clock_value : World → ℕ → Data
clock_value w c = object_of (clock_groups w c)

-- the name of a shared number, if it is known
abbrev pub shared_name : Option (List ℕ) → Group
shared_name None = []
shared_name (Some name) = name_member name

abbrev pub shared_groups : Option (List ℕ) → ℕ → ℤ → List Group
shared_groups name s n = ((codes "shared", number_value s) ∷ (codes "value", integer_value n) ∷ []) ∷ shared_name name ∷ []

-- `{"name":"total","shared":0,"value":5}`
abbrev pub shared_value : Option (List ℕ) → ℕ → ℤ → Data
shared_value name s n = object_of (shared_groups name s n)

-- if there is such a number
abbrev pub shared_if : Option (List ℕ) → ℕ → Option ℤ → List Data
shared_if name s None = []
shared_if name s (Some n) = shared_value name s n ∷ []

abbrev pub shared_items : List (List ℕ) → List ℤ → ℕ → List Data
shared_items shared cells s = shared_if (slice_get shared s) s (slice_get cells s)

-- ---- what can't be taken

abbrev pub stop_groups : ModuleValue → World → Stop → List Group
stop_groups m w s =
    does_members s.act (condition_of m w s.act)
    ∷ ((codes "entry", number_value s.entry) ∷ (codes "step", number_value s.step) ∷ (codes "steps", number_value s.steps) ∷ [])
    ∷ []

-- `{"act":1,"does":"waits for clocks","entry":1,"step":2,"steps":5}`
abbrev pub stop_value : ModuleValue → World → Stop → Data
stop_value m w s = object_of (stop_groups m w s)

abbrev pub stop_members : ModuleValue → World → Option Stop → Group
stop_members m w None = []
stop_members m w (Some s) = (codes "stopped", stop_value m w s) ∷ []

-- the step at whose end the log ends, where one behind it was asked for
abbrev pub end_members : Option ℕ → Group
end_members None = []
end_members (Some n) = (codes "log_ends", number_value n) ∷ []

-- ---- the value

abbrev pub world_members : PlacesValue → List (List ℕ) → ModuleValue → World → Group
world_members p shared m w =
    (codes "activities", array (items_of (each_below (λ a. act_value p m w a ∷ []) (length w.activities))))
    ∷ (codes "clocks", array (items_of (each_below (λ c. clock_value w c ∷ []) (length w.clocks))))
    ∷ (codes "frames", array (items_of (each_below (frame_items p m w) (length w.activities))))
    ∷ (codes "shared", array (items_of (each_below (shared_items shared w.cells) (length w.cells))))
    ∷ (codes "steps", number_value w.steps)
    ∷ []

-- of a world, the step that can't be taken there, if there is one, and where the log ends, where that is before what was asked for
abbrev pub standings_value : PlacesValue → List (List ℕ) → ModuleValue → World → Option Stop → Option ℕ → Data
standings_value p shared m w stop ends = object_of (world_members p shared m w ∷ stop_members m w stop ∷ end_members ends ∷ [])

-- of the world that the steps of a log lead to, as far as they can be taken; shared numbers have these names
abbrev pub where_value : PlacesValue → List (List ℕ) → ModuleValue → List ℤ → List Entry → Option ℕ → Data
where_value p shared m args log ends =
    standings_value p shared m (reached m args log) (step_behind 0 (reached m args log).steps log) ends

-- each step of the log can be taken, and it doesn't end before what was asked for
abbrev pub is_all_told : ModuleValue → List ℤ → List Entry → Option ℕ → Bool
is_all_told m args log ends = are_steps_legal m args log && is_none ends
