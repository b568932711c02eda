-- What a run looks like to one who doesn't see in which order steps of different activities were taken.
use Rattle.std.specs.Prelude.{ℕ, ℤ, suc, ◌==◌, Bool, true, false, List, [], ◌∷◌, length, map, filter, slice_get, Option, Some, option_map, option_and_then, count_by, if◌then◌else◌}
use Rattle.std.specs.List.{filter_map}
use Rattle.std.specs.Ordering.{int_eq}
use Rattle.xk_types.specs.declared.world.Event.{Event}
use Rattle.xk_types.specs.declared.world.Event.TheVariants as event
use Rattle.xk_types.specs.Code.{ModuleValue}
use Rattle.xk_types.specs.World.{World}
use Rattle.xk_types.specs.Schedule.{events, number_printed, printed}

-- the events of activity a, in their order
abbrev pub moments : ModuleValue → List ℕ → World → ℕ → List Event
moments m list w a = map (λ p. p.1) (filter (λ p. p.0 == a) (events m list w))

-- the numbers that activity a prints, in their order
abbrev pub printed_by : ModuleValue → List ℕ → World → ℕ → List ℤ
printed_by m list w a = filter_map number_printed (moments m list w a)

-- a number is printed
abbrev pub is_print : Event → Bool
is_print (event.Printed n) = true
is_print _ = false

-- how often a run prints number n
abbrev pub times_printed : ModuleValue → List ℕ → World → ℤ → ℕ
times_printed m list w n = count_by (int_eq n) (printed m list w)

-- an activity is started
abbrev pub is_start : Event → Bool
is_start event.Spawned = true
is_start _ = false

-- who starts each activity that is started, in their order
abbrev pub starters : ModuleValue → List ℕ → World → List ℕ
starters m list w = map (λ p. p.0) (filter (λ p. is_start p.1) (events m list w))

-- where a stands in a list whose first place has number n
abbrev pub positions_of : ℕ → ℕ → List ℕ → List ℕ
positions_of a n [] = []
positions_of a n (b ∷ bs) = if b == a then n ∷ positions_of a (suc n) bs else positions_of a (suc n) bs

-- The activities that activity a starts, in their order. The first one that anybody starts has the number that comes after those of the
-- activities that there are, and each further one the next.
abbrev pub started_by : ModuleValue → List ℕ → World → ℕ → List ℕ
started_by m list w a = positions_of a (length w.activities) (starters m list w)

-- The activity to which a path leads from activity a, if it leads to one: its first number says which one of those that a starts, counted
-- from 0, and the rest of it leads on from there.
abbrev pub led_to : ModuleValue → List ℕ → World → ℕ → List ℕ → Option ℕ
led_to m list w a [] = Some a
led_to m list w a (k ∷ path) = option_and_then (λ b. led_to m list w b path) (slice_get (started_by m list w a) k)

-- the numbers that the activity prints to which the path leads from main
abbrev pub printed_at : ModuleValue → List ℕ → World → List ℕ → Option (List ℤ)
printed_at m list w path = option_map (printed_by m list w) (led_to m list w 0 path)
