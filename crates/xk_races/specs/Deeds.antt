-- What the steps of a run have to do with its order. What a step is, `xk_types` says in `Step.antt`. X10 Language Specification 2.4, chapter
-- Clocks: an `advanceAll` blocks until each clock of the activity has advanced, and a clock advances when each activity that is registered on it
-- has resumed it (Advancing clocks, and the chapter's beginning); dropping, or ending, ends a registration (Dropping clocks). So who has resumed
-- a clock and leaves it isn't waited for by the next advance, but by the one behind that. Chapter Activities: a `finish` waits for those that it
-- governs (Finish).
use Rattle.std.specs.Prelude.{ℕ, ℤ, nat_lt, Bool, false, not, ◌&&◌, ◌||◌, List, [], ◌∷◌, ◌++◌, length, map, flat_map, Option, Some, None, slice_get, if◌then◌else◌}
use Rattle.std.specs.Option.{option_map_or, option_to_list}
use Rattle.xk_types.specs.declared.instr.Instr.{Instr}
use Rattle.xk_types.specs.declared.instr.Instr.TheVariants as instr
use Rattle.xk_types.specs.declared.world.Entry.{Entry}
use Rattle.xk_types.specs.declared.world.Event.{Event}
use Rattle.xk_types.specs.declared.world.Event.TheVariants as event
use Rattle.xk_types.specs.Code.{ModuleValue}
use Rattle.xk_types.specs.World.{World, standing_of}
use Rattle.xk_types.specs.Step.{is_pending, is_signalled}
use Rattle.xk_core.specs.Core.{advanced_now, has_advanced, is_registered_on}
use Rattle.xk_show_events.specs.declared.steps.RunStep.{RunStep}
use Rattle.xk_show_events.specs.Worlds.{those_below}
use Rattle.xk_show_events.specs.Steps.{Teller, run_step, told_of_run}
use Rattle.xk_races.specs.declared.deeds.Deed.{Deed}
use Rattle.xk_races.specs.declared.deeds.Part.{Part}
use Rattle.xk_races.specs.declared.deeds.Part.TheVariants as part

-- ---- clocks

-- clock c can't advance before activity a, which is registered on it, resumes or leaves it
abbrev pub awaits : World → ℕ → ℕ → Bool
awaits w a c = nat_lt a (length w.activities) && option_map_or (λ k. is_pending (standing_of k a)) (slice_get w.clocks c) false

-- the clocks that can't advance before activity a does something; where it passes, they are those whose advance it waited for
abbrev pub awaiting : World → ℕ → List ℕ
awaiting w a = those_below (awaits w a) (length w.clocks)

-- behind a step of activity a, clock c doesn't await it any more: it has resumed or left the clock, which may have advanced by that
abbrev pub gives_way : World → ℕ → ℕ → Bool
gives_way v a c = has_advanced v c || not (awaits v a c)

-- activity a has resumed clock c, and the clock hasn't advanced since
abbrev pub has_resumed : World → ℕ → ℕ → Bool
has_resumed w a c = nat_lt a (length w.activities) && option_map_or (λ k. is_signalled (standing_of k a)) (slice_get w.clocks c) false

-- those clocks
abbrev pub resumed_by : World → ℕ → List ℕ
resumed_by w a = those_below (has_resumed w a) (length w.clocks)

-- behind a step of activity a it isn't registered on clock c
abbrev pub has_left : World → ℕ → ℕ → Bool
has_left v a c = not (nat_lt a (length v.activities) && is_registered_on v a c)

-- ---- deeds

abbrev pub deed : RunStep → Part → Deed
deed s p = record { step = s; part = p }

-- which shared number an instruction has to do with
abbrev pub cell_of : Option Instr → ℕ
cell_of (Some (instr.Get d s)) = s
cell_of (Some (instr.Put s x)) = s
cell_of (Some (instr.AddTo s x)) = s
cell_of _ = 0

-- the one that a step had to do with, by the instruction at which it was taken
abbrev pub cell_at : ModuleValue → RunStep → ℕ
cell_at m s = option_map_or (λ unit. cell_of (slice_get unit.code s.place)) (slice_get m.units s.unit) 0

-- the deed at a clock that gave way
abbrev pub signal : World → RunStep → ℕ → List Deed
signal v s c = if gives_way v s.act c then deed s (part.Signal c) ∷ [] else []

-- the deed at a clock that was left behind a resume
abbrev pub leave : World → RunStep → ℕ → List Deed
leave v s c = if has_left v s.act c then deed s (part.Leave c) ∷ [] else []

abbrev pub advance : RunStep → ℕ → List Deed
advance s c = deed s (part.Advance c) ∷ []

abbrev pub pass : RunStep → ℕ → List Deed
pass s c = deed s (part.Pass c) ∷ []

-- what a step did that has to do with no clock, if it did
abbrev pub plain_part : ModuleValue → RunStep → Event → Option Part
plain_part m s event.Local = None
plain_part m s (event.Printed n) = Some part.Print
plain_part m s event.Made = None
plain_part m s event.Got = Some (part.Access (cell_at m s))
plain_part m s event.Put = Some (part.Access (cell_at m s))
plain_part m s event.Added = Some (part.Access (cell_at m s))
plain_part m s event.Opened = Some part.Open
plain_part m s event.Closed = Some part.Close
plain_part m s event.Spawned = Some (part.Start s.activities)
plain_part m s event.Resumed = None
plain_part m s event.Dropped = None
plain_part m s event.Arrived = None
plain_part m s event.Passed = None
plain_part m s event.Ended = Some part.End

abbrev pub plain : ModuleValue → RunStep → List Deed
plain m s = map (deed s) (option_to_list (plain_part m s s.event))

-- of the clocks that awaited the activity: those that gave way, and then the advances that came of it
abbrev pub signals : World → RunStep → List ℕ → List Deed
signals v s clocks = flat_map (signal v s) clocks ++ flat_map (advance s) (advanced_now v)

-- where one leaves clocks: of those that it had resumed, the ones that it left, and then the rest
abbrev pub leaves : World → RunStep → List ℕ → List ℕ → List Deed
leaves v s resumed clocks = flat_map (leave v s) resumed ++ signals v s clocks

-- what a step did at clocks, by those that the activity had resumed before it, and those that awaited it
abbrev pub at_clocks : World → RunStep → List ℕ → List ℕ → Event → List Deed
at_clocks v s resumed clocks event.Local = []
at_clocks v s resumed clocks (event.Printed n) = []
at_clocks v s resumed clocks event.Made = []
at_clocks v s resumed clocks event.Got = []
at_clocks v s resumed clocks event.Put = []
at_clocks v s resumed clocks event.Added = []
at_clocks v s resumed clocks event.Opened = []
at_clocks v s resumed clocks event.Closed = []
at_clocks v s resumed clocks event.Spawned = []
at_clocks v s resumed clocks event.Resumed = signals v s clocks
at_clocks v s resumed clocks event.Dropped = leaves v s resumed clocks
at_clocks v s resumed clocks event.Arrived = signals v s clocks
at_clocks v s resumed clocks event.Passed = flat_map (pass s) clocks
at_clocks v s resumed clocks event.Ended = leaves v s resumed clocks

-- what a step from world w to world v has to do with the order of the run
abbrev pub tell_deeds : ModuleValue → Teller Deed
tell_deeds m a w v e = plain m (run_step a w v e) ++ at_clocks v (run_step a w v e) (resumed_by w a) (awaiting w a) e

-- the deeds of a run
abbrev pub deeds_of_run : ModuleValue → List ℤ → List Entry → List Deed
deeds_of_run m args log = told_of_run (tell_deeds m) m args log
