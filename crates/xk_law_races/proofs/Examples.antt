-- A program of which one run tells no race, a program that has one, a drop behind a resume, and why main alone has to begin: by evaluation.
use Rattle.std.proofs.Common.{◌≡◌, ◌∙◌, ℕ, zero, suc, pos, true, false, List, [], ◌∷◌, map, None, is_some, refl, sym, arith}
use Rattle.std.proofs.lemmas.List.Elements.{All-cons, All-nil, All-from_recursion}
use Rattle.xk_types.specs.declared.instr.Instr.TheVariants as instr
use Rattle.xk_types.specs.declared.world.Entry.{Entry}
use Rattle.xk_types.specs.declared.unit.ParamKind.TheVariants as param
use Rattle.xk_types.specs.declared.rules.Kind.{Kind}
use Rattle.xk_types.specs.declared.rules.Kind.TheVariants as kind
use Rattle.xk_types.specs.Code.{UnitValue, ModuleValue, IsUnitWithinLimits, IsWithinLimits}
use Rattle.xk_types.specs.Acceptance.{IsAccepted}
use Rattle.xk_types.specs.World.{World}
use Rattle.xk_types.specs.Step.{under_within}
use Rattle.xk_types.specs.Schedule.{Course, Through, Held, Wronged, run, is_enabled, all_ended, printed}
use Rattle.xk_types.specs.Logs.{schedule_of, one_step_of}
use Rattle.xk_types.proofs.Examples.Notation.{fresh, main_with, body_with}
use Rattle.xk_law_schedules.proofs.Examples.AcceptanceTest.{HasFewArguments, accepted_by}
use Rattle.xk_law_commute.specs.Conflicts.{reads_next, stores_next}
use Rattle.xk_law_traces.specs.Moments.{printed_by, times_printed, started_by}
use Rattle.xk_law_traces.specs.OneRun.{IsWholeRun}
use Rattle.xk_races.specs.Races.{gap_in, is_race_free, sights_of_run}
use Rattle.xk_law_races.proofs.SpeaksForAllLaw.{prints_every}

-- the world that a run comes to, if it comes through
abbrev last_of : World → Course → World
last_of w (Through v) = v
last_of w (Held v) = w
last_of w (Wronged v c) = w

abbrev last : ModuleValue → List ℕ → World
last m list = last_of (fresh m) (run m list (fresh m))

-- a log, an entry for each step
abbrev log_of : List ℕ → List Entry
log_of list = map one_step_of list

-- ---- one activity writes a number under a finish, another one before it waits for a clock; main reads both

abbrev reader : UnitValue
reader = main_with 2
    (instr.Make 0 ∷ instr.Spawn 1 (0 ∷ []) ∷ instr.Finish 4 ∷ instr.Spawn 2 [] ∷ instr.EndFinish 2 ∷ instr.Get 1 1
    ∷ instr.Print 1 ∷ instr.Advance
    ∷ instr.Get 1 0 ∷ instr.Print 1 ∷ instr.Ret ∷ [])

abbrev clocked : UnitValue
clocked = body_with (param.Clock ∷ []) 2 (instr.Lit 1 (pos 5) ∷ instr.Put 0 1 ∷ instr.Advance ∷ instr.Ret ∷ [])

abbrev awaited : UnitValue
awaited = body_with [] 1 (instr.Lit 0 (pos 7) ∷ instr.Put 1 0 ∷ instr.Ret ∷ [])

abbrev meeting : ModuleValue
meeting = record { shared = pos 0 ∷ pos 0 ∷ []; units = reader ∷ clocked ∷ awaited ∷ [] }

-- the kinds of each slot at each place
abbrev reader_kinds : ℕ → ℕ → List Kind
reader_kinds zero zero = kind.Unset ∷ []
reader_kinds zero (suc at) = kind.Live ∷ []
reader_kinds (suc s) (suc (suc (suc (suc (suc (suc at)))))) = kind.Number ∷ []
reader_kinds (suc s) at = kind.Unset ∷ []

abbrev clocked_kinds : ℕ → ℕ → List Kind
clocked_kinds zero at = kind.Live ∷ kind.Resumed ∷ []
clocked_kinds (suc s) zero = kind.Unset ∷ []
clocked_kinds (suc s) (suc at) = kind.Number ∷ []

abbrev number_kinds : ℕ → ℕ → List Kind
number_kinds s zero = kind.Unset ∷ []
number_kinds s (suc at) = kind.Number ∷ []

abbrev meeting_kinds : ℕ → ℕ → ℕ → List Kind
meeting_kinds zero = reader_kinds
meeting_kinds (suc zero) = clocked_kinds
meeting_kinds (suc (suc unit)) = number_kinds

meeting_accepted : IsAccepted meeting
unfolding Rattle.xk_types.specs.Bound.total_within Rattle.xk_types.specs.Bound.chain_within
meeting_accepted = accepted_by meeting meeting_kinds refl refl
    (record { steps = omega arith; activities = omega arith; clocks = omega arith; stack = omega arith })

meeting_limits : IsWithinLimits meeting
meeting_limits = record {
  some = omega arith;
  units = omega arith;
  shared = omega arith;
  each = All-cons IsUnitWithinLimits reader (clocked ∷ awaited ∷ [])
      (record {
        slots = omega arith;
        params = omega arith;
        code = omega arith;
        arguments = All-from_recursion HasFewArguments reader.code (omega arith);
      })
      (All-cons IsUnitWithinLimits clocked (awaited ∷ [])
      (record {
        slots = omega arith;
        params = omega arith;
        code = omega arith;
        arguments = All-from_recursion HasFewArguments clocked.code (omega arith);
      })
      (All-cons IsUnitWithinLimits awaited []
      (record {
        slots = omega arith;
        params = omega arith;
        code = omega arith;
        arguments = All-from_recursion HasFewArguments awaited.code (omega arith);
      })
      (All-nil IsUnitWithinLimits)));
}

-- one run
abbrev met : List ℕ
met = 0 ∷ 0 ∷ 0 ∷ 0 ∷ 2 ∷ 2 ∷ 2 ∷ 0 ∷ 0 ∷ 0 ∷ 0 ∷ 1 ∷ 1 ∷ 1 ∷ 1 ∷ 1 ∷ 0 ∷ 0 ∷ 0 ∷ 0 ∷ []

met_is : schedule_of (log_of met) ≡ met
met_is = refl

met_whole : IsWholeRun meeting [] (schedule_of (log_of met)) (last meeting met)
unfolding under_within
met_whole = record { legal = refl; ended = refl }

-- no race is told of it, and its prints are in one order
met_free : is_race_free meeting [] (log_of met) ≡ true
unfolding under_within
met_free = refl

met_ordered : gap_in (sights_of_run meeting [] (log_of met)) ≡ None
unfolding under_within
met_ordered = refl

met_prints : printed meeting (schedule_of (log_of met)) (fresh meeting) ≡ pos 7 ∷ pos 5 ∷ []
unfolding under_within
met_prints = refl

-- so every run by which all have ended prints 7 and 5
meeting_prints : (t : List ℕ) (y : World) → IsWholeRun meeting [] t y → printed meeting t (fresh meeting) ≡ pos 7 ∷ pos 5 ∷ []
meeting_prints t y other =
    sym (prints_every meeting [] meeting_limits meeting_accepted refl (log_of met)
    (last meeting met) met_whole met_free met_ordered t y other)
    ∙ met_prints

-- ---- main starts one that writes a number, and reads it: a race, whoever comes first

abbrev racing : ModuleValue
racing = record {
  shared = pos 0 ∷ [];
  units = main_with 1 (instr.Spawn 1 [] ∷ instr.Get 0 0 ∷ instr.Print 0 ∷ instr.Ret ∷ [])
      ∷ body_with [] 1 (instr.Lit 0 (pos 5) ∷ instr.Put 0 0 ∷ instr.Ret ∷ []) ∷ [];
}

racing_told : (is_race_free racing [] (log_of (0 ∷ 1 ∷ 1 ∷ 1 ∷ 0 ∷ 0 ∷ 0 ∷ [])) ≡ false)
    × (is_race_free racing [] (log_of (0 ∷ 0 ∷ 0 ∷ 0 ∷ 1 ∷ 1 ∷ 1 ∷ [])) ≡ false)
racing_told = (refl, refl)

-- A run that hasn't ended says nothing: none is told of this one, where both could come next.
racing_unended : (is_race_free racing [] (log_of (0 ∷ 1 ∷ [])) ≡ true) × (all_ended (last racing (0 ∷ 1 ∷ [])) ≡ false)
    × (is_enabled racing (last racing (0 ∷ 1 ∷ [])) 0 ≡ true) × (is_enabled racing (last racing (0 ∷ 1 ∷ [])) 1 ≡ true)
    × (reads_next racing (last racing (0 ∷ 1 ∷ [])) 0 0 ≡ true) × (stores_next racing (last racing (0 ∷ 1 ∷ [])) 1 0 ≡ true)
racing_unended = (refl, refl, refl, refl, refl, refl)

-- ---- main resumes a clock, writes a number, and leaves the clock; what it starts advances, and reads the number

abbrev leaver : UnitValue
leaver = main_with 2
    (instr.Make 0 ∷ instr.Spawn 1 (0 ∷ []) ∷ instr.Lit 1 (pos 5) ∷ instr.Resume 0 ∷ instr.Put 0 1 ∷ instr.Drop 0 ∷ instr.Ret ∷ [])

-- behind the first advance
abbrev once_behind : ModuleValue
once_behind = record {
  shared = pos 0 ∷ [];
  units = leaver ∷ body_with (param.Clock ∷ []) 2 (instr.Advance ∷ instr.Get 1 0 ∷ instr.Print 1 ∷ instr.Ret ∷ []) ∷ [];
}

-- behind the second one
abbrev twice_behind : ModuleValue
twice_behind = record {
  shared = pos 0 ∷ [];
  units = leaver ∷ body_with (param.Clock ∷ []) 2 (instr.Advance ∷ instr.Advance ∷ instr.Get 1 0 ∷ instr.Print 1 ∷ instr.Ret ∷ []) ∷ [];
}

-- main leaves the clock before it advances, or behind the first advance
abbrev left_before : List ℕ
left_before = 0 ∷ 0 ∷ 0 ∷ 0 ∷ 0 ∷ 0 ∷ 1 ∷ 1 ∷ 1 ∷ 1 ∷ 1 ∷ 1 ∷ 1 ∷ 0 ∷ []

abbrev left_between : List ℕ
left_between = 0 ∷ 0 ∷ 0 ∷ 0 ∷ 1 ∷ 1 ∷ 1 ∷ 0 ∷ 0 ∷ 1 ∷ 1 ∷ 1 ∷ 1 ∷ 0 ∷ []

-- The second advance waits for main: no race is told of either.
twice_told : (is_race_free twice_behind [] (log_of left_before) ≡ true) × (is_race_free twice_behind [] (log_of left_between) ≡ true)
    × (all_ended (last twice_behind left_before) ≡ true) × (all_ended (last twice_behind left_between) ≡ true)
twice_told = (refl, refl, refl, refl)

-- the first one doesn't
once_told : (is_race_free once_behind [] (log_of (0 ∷ 0 ∷ 0 ∷ 0 ∷ 0 ∷ 0 ∷ 1 ∷ 1 ∷ 1 ∷ 1 ∷ 1 ∷ 0 ∷ [])) ≡ false)
    × (is_race_free once_behind [] (log_of (0 ∷ 0 ∷ 0 ∷ 0 ∷ 1 ∷ 1 ∷ 1 ∷ 1 ∷ 1 ∷ 0 ∷ 0 ∷ 0 ∷ [])) ≡ false)
    × (all_ended (last once_behind (0 ∷ 0 ∷ 0 ∷ 0 ∷ 0 ∷ 0 ∷ 1 ∷ 1 ∷ 1 ∷ 1 ∷ 1 ∷ 0 ∷ [])) ≡ true)
    × (all_ended (last once_behind (0 ∷ 0 ∷ 0 ∷ 0 ∷ 1 ∷ 1 ∷ 1 ∷ 1 ∷ 1 ∷ 0 ∷ 0 ∷ 0 ∷ [])) ≡ true)
once_told = (refl, refl, refl, refl)

-- ---- two that main starts start one more each: who comes first starts number 3

abbrev twins : ModuleValue
twins = record {
  shared = [];
  units = main_with 0 (instr.Spawn 1 [] ∷ instr.Spawn 2 [] ∷ instr.Ret ∷ []) ∷ body_with [] 0 (instr.Spawn 3 [] ∷ instr.Ret ∷ [])
      ∷ body_with [] 0 (instr.Spawn 4 [] ∷ instr.Ret ∷ []) ∷ body_with [] 1 (instr.Lit 0 (pos 1) ∷ instr.Print 0 ∷ instr.Ret ∷ [])
      ∷ body_with [] 1 (instr.Lit 0 (pos 2) ∷ instr.Print 0 ∷ instr.Ret ∷ []) ∷ [];
}

twins_accepted : IsAccepted twins
unfolding Rattle.xk_types.specs.Bound.total_within Rattle.xk_types.specs.Bound.chain_within
twins_accepted = accepted_by twins (λ unit. number_kinds) refl refl
    (record { steps = omega arith; activities = omega arith; clocks = omega arith; stack = omega arith })

abbrev first_begins : List ℕ
first_begins = 0 ∷ 0 ∷ 0 ∷ 1 ∷ 1 ∷ 2 ∷ 2 ∷ 3 ∷ 3 ∷ 3 ∷ 4 ∷ 4 ∷ 4 ∷ []

abbrev second_begins : List ℕ
second_begins = 0 ∷ 0 ∷ 0 ∷ 2 ∷ 2 ∷ 1 ∷ 1 ∷ 3 ∷ 3 ∷ 3 ∷ 4 ∷ 4 ∷ 4 ∷ []

-- no race is told of either, and all end; but number 3 prints another number
twins_differ : (is_race_free twins [] (log_of first_begins) ≡ true) × (is_race_free twins [] (log_of second_begins) ≡ true)
    × (all_ended (last twins first_begins) ≡ true) × (all_ended (last twins second_begins) ≡ true)
    × (printed_by twins first_begins (fresh twins) 3 ≡ pos 1 ∷ []) × (printed_by twins second_begins (fresh twins) 3 ≡ pos 2 ∷ [])
twins_differ = (refl, refl, refl, refl, refl, refl)

-- It is another activity: what 1 starts in one is 3, and in the other 4. Main starts 1 and 2 in both; and 1 and 2 are printed once each.
twins_start : (started_by twins first_begins (fresh twins) 0 ≡ 1 ∷ 2 ∷ []) × (started_by twins second_begins (fresh twins) 0 ≡ 1 ∷ 2 ∷ [])
    × (started_by twins first_begins (fresh twins) 1 ≡ 3 ∷ []) × (started_by twins second_begins (fresh twins) 1 ≡ 4 ∷ [])
    × (started_by twins first_begins (fresh twins) 2 ≡ 4 ∷ []) × (started_by twins second_begins (fresh twins) 2 ≡ 3 ∷ [])
    × (times_printed twins first_begins (fresh twins) (pos 1) ≡ 1) × (times_printed twins second_begins (fresh twins) (pos 1) ≡ 1)
    × (times_printed twins first_begins (fresh twins) (pos 2) ≡ 1) × (times_printed twins second_begins (fresh twins) (pos 2) ≡ 1)
twins_start = (refl, refl, refl, refl, refl, refl, refl, refl, refl, refl)

-- where prints aren't told to be in one order
twins_prints : is_some (gap_in (sights_of_run twins [] (log_of first_begins))) ≡ true
twins_prints = refl
