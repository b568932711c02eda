-- Modules whose activities start others: several schedules, wrong starts, and what the rules say of them, by evaluation.
use Rattle.std.proofs.Common.{◌≡◌, ℕ, zero, suc, pos, List, [], ◌∷◌, refl, true, false, Option, Some, None, length, map, slice_get}
use Rattle.std.specs.Prelude.{if◌then◌else◌}
use Rattle.xk_types.specs.declared.instr.Instr.{Instr}
use Rattle.xk_types.specs.declared.instr.Instr.TheVariants as instr
use Rattle.xk_types.specs.declared.unit.ParamKind.{ParamKind}
use Rattle.xk_types.specs.declared.unit.ParamKind.TheVariants as param
use Rattle.xk_types.specs.declared.world.Standing.{Standing}
use Rattle.xk_types.specs.declared.world.Standing.TheVariants as standing
use Rattle.xk_types.specs.declared.world.Event.TheVariants as event
use Rattle.xk_types.specs.declared.rules.Rule.TheVariants as rule
use Rattle.xk_types.specs.declared.rules.Kind.TheVariants as kind
use Rattle.xk_types.specs.Code.{UnitValue, ModuleValue}
use Rattle.xk_types.specs.World.{World}
use Rattle.xk_types.specs.Step.{Cause, ClockUse, Missing, WrongKind, OutOfRange, Outcome, Blocked, Wrong, Stepped, step}
use Rattle.xk_types.specs.Schedule.{Course, Through, Held, Wronged, run, is_enabled, printed, events}
use Rattle.xk_types.specs.Walk.{After, To, Refused, row}
use Rattle.xk_types.specs.Shape.{breaks}
use Rattle.xk_types.specs.Bound.{total_within, steps_bound, activities_bound, clocks_bound, stack_bound}
use Rattle.xk_types.proofs.Examples.Notation.{fresh, main_with, body_with, module_with, looked, each_kind}

-- ---- modules

abbrev one_clock : List ParamKind
one_clock = param.Clock ∷ []

abbrev one_number : List ParamKind
one_number = param.Number ∷ []

abbrev two_clocks : List ParamKind
two_clocks = param.Clock ∷ param.Clock ∷ []

-- ---- schedules

-- the least of the first n activities that is enabled
abbrev least_below : ModuleValue → World → ℕ → Option ℕ
least_below m w zero = None
least_below m w (suc a) = elim (least_below m w a) as (λ _. Option ℕ) [ None ↦ if is_enabled m w a then Some a else None | Some b ↦ Some b ]

abbrev least : ModuleValue → World → Option ℕ
least m w = least_below m w (length w.activities)

-- the greatest of the first n activities that is enabled
abbrev greatest_below : ModuleValue → World → ℕ → Option ℕ
greatest_below m w zero = None
greatest_below m w (suc a) = if is_enabled m w a then Some a else greatest_below m w a

abbrev greatest : ModuleValue → World → Option ℕ
greatest m w = greatest_below m w (length w.activities)

-- what is still chosen after a step
abbrev after_step : Outcome → (World → List ℕ) → List ℕ
after_step Blocked go = []
after_step (Wrong c) go = []
after_step (Stepped w e) go = go w

abbrev after_choice : ModuleValue → World → Option ℕ → (World → List ℕ) → List ℕ
after_choice m w None go = []
after_choice m w (Some a) go = a ∷ after_step (step m w a) go

-- the choices from a world on, until none is left to choose, and at most n
abbrev chosen : (ModuleValue → World → Option ℕ) → ModuleValue → ℕ → World → List ℕ
chosen choice m zero w = []
chosen choice m (suc n) w = after_choice m w (choice m w) (chosen choice m n)

abbrev always : (ModuleValue → World → Option ℕ) → ModuleValue → List ℕ
always choice m = chosen choice m (suc (steps_bound m)) (fresh m)

-- ---- what is looked at

-- the last world of a legal list
abbrev through : Course → Option World
through (Through w) = Some w
through (Held w) = None
through (Wronged w c) = None

-- the world in which a list is held, before a step that is blocked
abbrev held : Course → Option World
held (Through w) = None
held (Held w) = Some w
held (Wronged w c) = None

-- why a list is wrong, and how many steps it had taken before
abbrev wronged : Course → Option (Cause × ℕ)
wronged (Through w) = None
wronged (Held w) = None
wronged (Wronged w c) = Some (c, w.steps)

-- where each activity stands on each clock
abbrev stood : Option World → Option (List (List Standing))
stood None = None
stood (Some w) = Some (map (λ c. c.standings) w.clocks)

-- ---- main and one activity that it starts, on one clock

abbrev pair_row : ModuleValue
pair_row = module_with (
    main_with 2 (instr.Make 0 ∷ instr.Spawn 1 (0 ∷ []) ∷ instr.Advance ∷ instr.Lit 1 (pos 1) ∷ instr.Print 1 ∷ instr.Ret ∷ [])
    ∷ body_with one_clock 2 (instr.Advance ∷ instr.Lit 1 (pos 2) ∷ instr.Print 1 ∷ instr.Ret ∷ [])
    ∷ [])

pair_bounds : (steps_bound pair_row ≡ 12) × (activities_bound pair_row ≡ 2) × (clocks_bound pair_row ≡ 1) × (stack_bound pair_row ≡ 2)
unfolding total_within Rattle.xk_types.specs.Bound.chain_within
pair_bounds = (refl, refl, refl, refl)

abbrev pair_list : List ℕ
pair_list = 0 ∷ 0 ∷ 0 ∷ 1 ∷ 0 ∷ 0 ∷ 0 ∷ 0 ∷ 1 ∷ 1 ∷ 1 ∷ 1 ∷ []

-- all have ended after 12 steps; the clock advanced once, in the fourth
pair_ended : looked (through (run pair_row pair_list (fresh pair_row))) ≡ Some (true, 12, (1, 4) ∷ [])
pair_ended = refl

pair_printed : printed pair_row pair_list (fresh pair_row) ≡ pos 1 ∷ pos 2 ∷ []
pair_printed = refl

pair_events : events pair_row pair_list (fresh pair_row)
    ≡ (0, event.Made) ∷ (0, event.Spawned) ∷ (0, event.Arrived) ∷ (1, event.Arrived) ∷ (0, event.Passed) ∷ (0, event.Local) ∷ (0, event.Printed (pos 1)) ∷ (0, event.Ended)
    ∷ (1, event.Passed) ∷ (1, event.Local) ∷ (1, event.Printed (pos 2)) ∷ (1, event.Ended) ∷ []
pair_events = refl

-- the child stands where main does, and is open when it starts
pair_started : stood (through (run pair_row (0 ∷ 0 ∷ []) (fresh pair_row))) ≡ Some ((standing.Open ∷ standing.Open ∷ []) ∷ [])
pair_started = refl

abbrev pair_last_first : List ℕ
pair_last_first = 0 ∷ 0 ∷ 1 ∷ 0 ∷ 1 ∷ 1 ∷ 1 ∷ 1 ∷ 0 ∷ 0 ∷ 0 ∷ 0 ∷ []

-- the last activity first: the child prints before main does
pair_child_first : (always greatest pair_row ≡ pair_last_first)
    × (looked (through (run pair_row pair_last_first (fresh pair_row))) ≡ Some (true, 12, (1, 4) ∷ []))
    × (printed pair_row pair_last_first (fresh pair_row) ≡ pos 2 ∷ pos 1 ∷ [])
unfolding total_within
pair_child_first = (refl, refl, refl)

-- main waits for the child: its fourth step is blocked
pair_waits : (looked (held (run pair_row (0 ∷ 0 ∷ 0 ∷ 0 ∷ []) (fresh pair_row))) ≡ Some (false, 3, (0, 0) ∷ []))
    × (stood (held (run pair_row (0 ∷ 0 ∷ 0 ∷ 0 ∷ []) (fresh pair_row))) ≡ Some ((standing.Signalled ∷ standing.Open ∷ []) ∷ []))
pair_waits = (refl, refl)

-- there is no activity 1 before main starts it
pair_alone : (run pair_row (1 ∷ []) (fresh pair_row) ≡ Held (fresh pair_row)) × (slice_get (fresh pair_row).activities 1 ≡ None)
pair_alone = (refl, refl)

-- ---- a child that is given a clock on which its starter is ahead

abbrev ahead_row : ModuleValue
ahead_row = module_with (
    main_with 1 (instr.Make 0 ∷ instr.Resume 0 ∷ instr.Spawn 1 (0 ∷ []) ∷ instr.Advance ∷ instr.Ret ∷ [])
    ∷ body_with one_clock 1 (instr.Advance ∷ instr.Ret ∷ [])
    ∷ [])

ahead_bounds : (steps_bound ahead_row ≡ 9) × (activities_bound ahead_row ≡ 2) × (clocks_bound ahead_row ≡ 1)
unfolding total_within
ahead_bounds = (refl, refl, refl)

-- the clock advances at the resume, in the second step, and the child is ahead from its start
ahead_started : (looked (through (run ahead_row (0 ∷ 0 ∷ []) (fresh ahead_row))) ≡ Some (false, 2, (1, 2) ∷ []))
    × (stood (through (run ahead_row (0 ∷ 0 ∷ 0 ∷ []) (fresh ahead_row))) ≡ Some ((standing.Ahead ∷ standing.Ahead ∷ []) ∷ []))
ahead_started = (refl, refl)

-- neither waits: main goes through to its end, and then the child does
ahead_ended : looked (through (run ahead_row (0 ∷ 0 ∷ 0 ∷ 0 ∷ 0 ∷ 0 ∷ 1 ∷ 1 ∷ 1 ∷ []) (fresh ahead_row))) ≡ Some (true, 9, (1, 2) ∷ [])
ahead_ended = refl

-- ---- a child that is given a clock on which its starter is signalled

abbrev signalled_row : ModuleValue
signalled_row = module_with (
    main_with 1 (instr.Make 0 ∷ instr.Spawn 1 (0 ∷ []) ∷ instr.Resume 0 ∷ instr.Spawn 2 (0 ∷ []) ∷ instr.Advance ∷ instr.Ret ∷ [])
    ∷ body_with one_clock 1 (instr.Advance ∷ instr.Ret ∷ [])
    ∷ body_with one_clock 2 (instr.Advance ∷ instr.Lit 1 (pos 3) ∷ instr.Print 1 ∷ instr.Ret ∷ [])
    ∷ [])

signalled_bounds : (steps_bound signalled_row ≡ 15) × (activities_bound signalled_row ≡ 3) × (clocks_bound signalled_row ≡ 1)
unfolding total_within
signalled_bounds = (refl, refl, refl)

-- the first child is open, and the second is signalled as main is
signalled_started : stood (through (run signalled_row (0 ∷ 0 ∷ 0 ∷ 0 ∷ []) (fresh signalled_row)))
    ≡ Some ((standing.Signalled ∷ standing.Open ∷ standing.Signalled ∷ []) ∷ [])
signalled_started = refl

abbrev signalled_first_first : List ℕ
signalled_first_first = 0 ∷ 0 ∷ 0 ∷ 0 ∷ 0 ∷ 1 ∷ 0 ∷ 0 ∷ 1 ∷ 1 ∷ 2 ∷ 2 ∷ 2 ∷ 2 ∷ 2 ∷ []

-- the first activity first: the clock advances when the first child arrives
signalled_ended : (always least signalled_row ≡ signalled_first_first)
    × (looked (through (run signalled_row signalled_first_first (fresh signalled_row))) ≡ Some (true, 15, (1, 6) ∷ []))
    × (printed signalled_row signalled_first_first (fresh signalled_row) ≡ pos 3 ∷ [])
unfolding total_within
signalled_ended = (refl, refl, refl)

-- ---- main drops the clock that its child waits for

abbrev drop_row : ModuleValue
drop_row = module_with (
    main_with 1 (instr.Make 0 ∷ instr.Spawn 1 (0 ∷ []) ∷ instr.Drop 0 ∷ instr.Ret ∷ [])
    ∷ body_with one_clock 2 (instr.Advance ∷ instr.Lit 1 (pos 4) ∷ instr.Print 1 ∷ instr.Ret ∷ [])
    ∷ [])

drop_bounds : (steps_bound drop_row ≡ 9) × (activities_bound drop_row ≡ 2) × (clocks_bound drop_row ≡ 1)
unfolding total_within
drop_bounds = (refl, refl, refl)

abbrev drop_first_first : List ℕ
drop_first_first = 0 ∷ 0 ∷ 0 ∷ 0 ∷ 1 ∷ 1 ∷ 1 ∷ 1 ∷ 1 ∷ []

-- the first activity first: the clock advances when the child arrives
drop_by_child : (always least drop_row ≡ drop_first_first)
    × (looked (through (run drop_row drop_first_first (fresh drop_row))) ≡ Some (true, 9, (1, 5) ∷ []))
    × (printed drop_row drop_first_first (fresh drop_row) ≡ pos 4 ∷ [])
unfolding total_within
drop_by_child = (refl, refl, refl)

abbrev drop_last_first : List ℕ
drop_last_first = 0 ∷ 0 ∷ 1 ∷ 0 ∷ 1 ∷ 1 ∷ 1 ∷ 1 ∷ 0 ∷ []

-- the last activity first: the clock advances when main drops it
drop_by_main : (always greatest drop_row ≡ drop_last_first)
    × (looked (through (run drop_row drop_last_first (fresh drop_row))) ≡ Some (true, 9, (1, 4) ∷ []))
    × (printed drop_row drop_last_first (fresh drop_row) ≡ pos 4 ∷ [])
unfolding total_within
drop_by_main = (refl, refl, refl)

-- ---- two phases, of which main resumes the first twice

abbrev phases_row : ModuleValue
phases_row = module_with (
    main_with 1 (instr.Make 0 ∷ instr.Spawn 1 (0 ∷ []) ∷ instr.Resume 0 ∷ instr.Resume 0 ∷ instr.Advance ∷ instr.Advance ∷ instr.Ret ∷ [])
    ∷ body_with one_clock 2 (instr.Advance ∷ instr.Advance ∷ instr.Lit 1 (pos 2) ∷ instr.Print 1 ∷ instr.Ret ∷ [])
    ∷ [])

phases_bounds : (steps_bound phases_row ≡ 16) × (activities_bound phases_row ≡ 2) × (clocks_bound phases_row ≡ 1)
unfolding total_within
phases_bounds = (refl, refl, refl)

-- The child passes its first `advance`, and waits at its second, since main hasn't passed: the seventh step is blocked.
phases_waits : (looked (held (run phases_row (0 ∷ 0 ∷ 0 ∷ 1 ∷ 1 ∷ 1 ∷ 1 ∷ []) (fresh phases_row))) ≡ Some (false, 6, (1, 4) ∷ []))
    × (stood (held (run phases_row (0 ∷ 0 ∷ 0 ∷ 1 ∷ 1 ∷ 1 ∷ 1 ∷ []) (fresh phases_row))) ≡ Some ((standing.Ahead ∷ standing.Signalled ∷ []) ∷ []))
phases_waits = (refl, refl)

-- ---- three clocks, and three children on two of them each

abbrev ring_body : UnitValue
ring_body = body_with two_clocks 2 (instr.Advance ∷ instr.Advance ∷ instr.Ret ∷ [])

abbrev ring_row : ModuleValue
ring_row = module_with (
    main_with 3 (instr.Make 0 ∷ instr.Make 1 ∷ instr.Make 2 ∷ instr.Spawn 1 (0 ∷ 1 ∷ []) ∷ instr.Spawn 2 (1 ∷ 2 ∷ []) ∷ instr.Spawn 3 (2 ∷ 0 ∷ []) ∷ instr.Ret ∷ [])
    ∷ ring_body ∷ ring_body ∷ ring_body ∷ [])

ring_bounds : (steps_bound ring_row ≡ 22) × (activities_bound ring_row ≡ 4) × (clocks_bound ring_row ≡ 3)
unfolding total_within
ring_bounds = (refl, refl, refl)

abbrev ring_first_first : List ℕ
ring_first_first = 0 ∷ 0 ∷ 0 ∷ 0 ∷ 0 ∷ 0 ∷ 0 ∷ 1 ∷ 2 ∷ 3 ∷ 1 ∷ 1 ∷ 2 ∷ 2 ∷ 3 ∷ 3 ∷ 1 ∷ 1 ∷ 2 ∷ 2 ∷ 3 ∷ 3 ∷ []

ring_chosen : always least ring_row ≡ ring_first_first
unfolding total_within
ring_chosen = refl

-- nobody waits for ever: each clock advances twice
ring_ended : looked (through (run ring_row ring_first_first (fresh ring_row))) ≡ Some (true, 22, (2, 16) ∷ (2, 14) ∷ (2, 16) ∷ [])
ring_ended = refl

-- ---- wrong starts

-- main with this code, a body that takes a clock, and one that takes a number and prints it
abbrev starting : List Instr → ModuleValue
starting code = module_with (
    main_with 2 code
    ∷ body_with one_clock 1 (instr.Ret ∷ [])
    ∷ body_with one_number 1 (instr.Print 0 ∷ instr.Ret ∷ [])
    ∷ [])

-- what is wrong when main takes these steps
abbrev wrong_at : List Instr → List ℕ → Option (Cause × ℕ)
wrong_at code list = wronged (run (starting code) list (fresh (starting code)))

-- there is no such unit, the unit is main, it wants an argument more or one less, there is no such slot
wrong_range : (wrong_at (instr.Spawn 3 [] ∷ []) (0 ∷ []) ≡ Some (OutOfRange, 0))
    × (wrong_at (instr.Spawn 0 [] ∷ []) (0 ∷ []) ≡ Some (OutOfRange, 0))
    × (wrong_at (instr.Spawn 1 [] ∷ []) (0 ∷ []) ≡ Some (OutOfRange, 0))
    × (wrong_at (instr.Make 0 ∷ instr.Spawn 1 (0 ∷ 0 ∷ []) ∷ []) (0 ∷ 0 ∷ []) ≡ Some (OutOfRange, 1))
    × (wrong_at (instr.Spawn 1 (2 ∷ []) ∷ []) (0 ∷ []) ≡ Some (OutOfRange, 0))
wrong_range = (refl, refl, refl, refl, refl)

-- main has dropped the clock that it gives
wrong_clock : wrong_at (instr.Make 0 ∷ instr.Drop 0 ∷ instr.Spawn 1 (0 ∷ []) ∷ []) (0 ∷ 0 ∷ 0 ∷ []) ≡ Some (ClockUse, 2)
wrong_clock = refl

-- the slot is unset, whichever the parameter takes
wrong_unset : (wrong_at (instr.Spawn 1 (0 ∷ []) ∷ []) (0 ∷ []) ≡ Some (Missing, 0)) × (wrong_at (instr.Spawn 2 (0 ∷ []) ∷ []) (0 ∷ []) ≡ Some (Missing, 0))
wrong_unset = (refl, refl)

-- a number for a clock, and a clock for a number
wrong_kind : (wrong_at (instr.Lit 0 (pos 7) ∷ instr.Spawn 1 (0 ∷ []) ∷ []) (0 ∷ 0 ∷ []) ≡ Some (WrongKind, 1))
    × (wrong_at (instr.Make 0 ∷ instr.Spawn 2 (0 ∷ []) ∷ []) (0 ∷ 0 ∷ []) ≡ Some (WrongKind, 1))
wrong_kind = (refl, refl)

-- a number for a number: the child prints it
abbrev number_row : ModuleValue
number_row = starting (instr.Lit 0 (pos 7) ∷ instr.Spawn 2 (0 ∷ []) ∷ instr.Ret ∷ [])

number_printed : (looked (through (run number_row (0 ∷ 0 ∷ 0 ∷ 1 ∷ 1 ∷ []) (fresh number_row))) ≡ Some (true, 5, []))
    × (printed number_row (0 ∷ 0 ∷ 0 ∷ 1 ∷ 1 ∷ []) (fresh number_row) ≡ pos 7 ∷ [])
number_printed = (refl, refl)

-- ---- shape

abbrev only_ret : List Instr
only_ret = instr.Ret ∷ []

-- unit 0 is a body; it is main, and has a parameter
place_first : (breaks (module_with (body_with [] 1 only_ret ∷ [])) rule.Unit 0 0 ≡ true)
    × (breaks (module_with (record (main_with 1 only_ret) { params = one_clock } ∷ [])) rule.Unit 0 0 ≡ true)
    × (breaks (module_with (main_with 1 only_ret ∷ [])) rule.Unit 0 0 ≡ false)
place_first = (refl, refl, refl)

-- another unit is main: a breach at its instruction 0, and there alone
abbrev mains_row : ModuleValue
mains_row = module_with (main_with 1 only_ret ∷ main_with 1 (instr.Advance ∷ instr.Ret ∷ []) ∷ [])

place_other : (breaks mains_row rule.Unit 0 0 ≡ false) × (breaks mains_row rule.Unit 1 0 ≡ true) × (breaks mains_row rule.Unit 1 1 ≡ false)
place_other = (refl, refl, refl)

-- what is started is a body: no breach; main, and a unit that isn't there
start_body : (breaks pair_row rule.Unit 0 0 ≡ false) × (breaks pair_row rule.Unit 0 1 ≡ false) × (breaks pair_row rule.Unit 1 0 ≡ false)
    × (breaks (starting (instr.Advance ∷ instr.Spawn 0 [] ∷ [])) rule.Unit 0 1 ≡ true)
    × (breaks (starting (instr.Advance ∷ instr.Spawn 3 [] ∷ [])) rule.Unit 0 1 ≡ true)
start_body = (refl, refl, refl, refl, refl)

-- as many arguments as parameters: one, none, two
start_count : (breaks (starting (instr.Spawn 1 (0 ∷ []) ∷ [])) rule.Unit 0 0 ≡ false)
    × (breaks (starting (instr.Spawn 1 [] ∷ [])) rule.Unit 0 0 ≡ true)
    × (breaks (starting (instr.Spawn 1 (0 ∷ 1 ∷ []) ∷ [])) rule.Unit 0 0 ≡ true)
start_count = (refl, refl, refl)

-- a unit starts one of greater number, not itself, and not one of lesser number
abbrev order_row : ModuleValue
order_row = module_with (
    main_with 1 only_ret
    ∷ body_with [] 1 (instr.Spawn 2 [] ∷ instr.Spawn 1 [] ∷ instr.Ret ∷ [])
    ∷ body_with [] 1 (instr.Spawn 1 [] ∷ instr.Ret ∷ [])
    ∷ [])

start_order : (breaks order_row rule.Unit 1 0 ≡ false) × (breaks order_row rule.Unit 1 1 ≡ true) × (breaks order_row rule.Unit 2 0 ≡ true)
start_order = (refl, refl, refl)

-- main that starts a body with these parameters, and gives it these slots
abbrev giving : List ParamKind → List ℕ → ModuleValue
giving params args = module_with (main_with 3 (instr.Spawn 1 args ∷ instr.Ret ∷ []) ∷ body_with params 3 only_ret ∷ [])

-- Two clocks: one slot twice is a breach, two slots are none. A slot that is given once as a number is not counted.
same_clock : (breaks (giving two_clocks (0 ∷ 0 ∷ [])) rule.SameClock 0 0 ≡ true)
    × (breaks (giving two_clocks (0 ∷ 0 ∷ [])) rule.SameClock 0 1 ≡ false)
    × (breaks (giving two_clocks (0 ∷ 1 ∷ [])) rule.SameClock 0 0 ≡ false)
    × (breaks (giving (param.Number ∷ param.Clock ∷ []) (0 ∷ 0 ∷ [])) rule.SameClock 0 0 ≡ false)
    × (breaks (giving (param.Number ∷ param.Number ∷ []) (0 ∷ 0 ∷ [])) rule.SameClock 0 0 ≡ false)
    × (breaks (giving (param.Clock ∷ param.Number ∷ param.Clock ∷ []) (0 ∷ 1 ∷ 0 ∷ [])) rule.SameClock 0 0 ≡ true)
same_clock = (refl, refl, refl, refl, refl, refl)

-- ---- the table of kinds

-- the table's row for each kind of a slot, where main gives slot 0 to a body with these parameters
abbrev rows_of : List ParamKind → ℕ → List After
rows_of params s =
    map (λ k. row (giving params (0 ∷ [])) (main_with 3 (instr.Spawn 1 (0 ∷ []) ∷ instr.Ret ∷ [])) s (record { at = 0; kind = k })) each_kind

-- as a clock: a clock on which main is registered, which stays as it is
rows_clock : rows_of one_clock 0 ≡ Refused rule.Use ∷ Refused rule.Use ∷ To (kind.Live ∷ []) ∷ To (kind.Resumed ∷ []) ∷ Refused rule.Use ∷ []
rows_clock = refl

-- as a number: a number
rows_number : rows_of one_number 0 ≡ Refused rule.Use ∷ To (kind.Number ∷ []) ∷ Refused rule.Use ∷ Refused rule.Use ∷ Refused rule.Use ∷ []
rows_number = refl

-- a slot that isn't given stays as it is
rows_other : rows_of one_clock 1 ≡ map (λ k. To (k ∷ [])) each_kind
rows_other = refl
