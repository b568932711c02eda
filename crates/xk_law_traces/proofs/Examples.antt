-- Two schedules of one class, two starts in either order, edges of a start, of a finish and of a clock, and why a race is looked for in
-- the whole class: by evaluation.
use Rattle.std.proofs.Common.{◌≡◌, ℕ, zero, suc, pos, ◌==◌, Bool, true, false, not, ◌&&◌, ◌||◌, List, [], ◌∷◌, map, get_or, Some, None, refl, arith, inl, inr}
use Rattle.std.proofs.lemmas.List.Elements.{All-cons, All-nil, All-from_recursion}
use Rattle.xk_types.specs.declared.instr.Instr.TheVariants as instr
use Rattle.xk_types.specs.declared.world.Event.TheVariants as event
use Rattle.xk_types.specs.declared.world.Standing.TheVariants as standing
use Rattle.xk_types.specs.declared.unit.ParamKind.TheVariants as param
use Rattle.xk_types.specs.declared.rules.Kind.{Kind}
use Rattle.xk_types.specs.declared.rules.Kind.TheVariants as kind
use Rattle.xk_types.specs.Code.{UnitValue, ModuleValue, IsUnitWithinLimits, IsWithinLimits}
use Rattle.xk_types.specs.Acceptance.{IsAccepted}
use Rattle.xk_types.specs.World.{Activity, World, main_of}
use Rattle.xk_types.specs.Step.{Outcome, Blocked, Wrong, Stepped, under_within, step}
use Rattle.xk_types.specs.Schedule.{Course, Through, Held, Wronged, run, is_enabled, all_ended}
use Rattle.xk_types.proofs.Examples.Notation.{fresh, main_with, body_with}
use Rattle.xk_law_schedules.proofs.Examples.AcceptanceTest.{HasFewArguments, accepted_by}
use Rattle.xk_law_commute.specs.Conflicts.{reads_next, stores_next}
use Rattle.xk_law_names.specs.Names.{OfActivities, all_named}
use Rattle.xk_law_traces.specs.Moments.{printed_by, printed_at, times_printed, started_by}
use Rattle.xk_law_traces.specs.Edges.{StepName, IsStart, IsUnderFinish, IsPass, standing_on, phase_of, IsBefore}
use Rattle.xk_law_traces.specs.OneRun.{ComeToOne, gets_or_puts, AddsInUnit, AddsAtMost}
use Rattle.xk_law_traces.proofs.OneRunLaw.{adders_free, one_every}

-- the world that a run comes to, if it comes through
abbrev last_of : World → Course → World
last_of w (Through v) = v
last_of w (Held v) = w
last_of w (Wronged v c) = w

abbrev last : ModuleValue → List ℕ → World
last m list = last_of (fresh m) (run m list (fresh m))

-- ---- main adds 2 to a shared number, and what it starts adds 1 and prints that

abbrev adder : UnitValue
adder = main_with 1 (instr.Spawn 1 [] ∷ instr.Lit 0 (pos 2) ∷ instr.AddTo 0 0 ∷ instr.Ret ∷ [])

abbrev helper : UnitValue
helper = body_with [] 1 (instr.Lit 0 (pos 1) ∷ instr.AddTo 0 0 ∷ instr.Print 0 ∷ instr.Ret ∷ [])

abbrev sum : ModuleValue
sum = record { shared = pos 0 ∷ []; units = adder ∷ helper ∷ [] }

-- the kinds of each slot at each place
abbrev sum_kinds : ℕ → ℕ → ℕ → List Kind
sum_kinds zero s zero = kind.Unset ∷ []
sum_kinds zero s (suc zero) = kind.Unset ∷ []
sum_kinds zero s (suc (suc at)) = kind.Number ∷ []
sum_kinds (suc unit) s zero = kind.Unset ∷ []
sum_kinds (suc unit) s (suc at) = kind.Number ∷ []

sum_accepted : IsAccepted sum
unfolding Rattle.xk_types.specs.Bound.total_within Rattle.xk_types.specs.Bound.chain_within
sum_accepted = accepted_by sum sum_kinds refl refl
    (record { steps = omega arith; activities = omega arith; clocks = omega arith; stack = omega arith })

sum_limits : IsWithinLimits sum
sum_limits = record {
  some = omega arith;
  units = omega arith;
  shared = omega arith;
  each = All-cons IsUnitWithinLimits adder (helper ∷ [])
      (record {
        slots = omega arith;
        params = omega arith;
        code = omega arith;
        arguments = All-from_recursion HasFewArguments adder.code (omega arith);
      })
      (All-cons IsUnitWithinLimits helper []
      (record {
        slots = omega arith;
        params = omega arith;
        code = omega arith;
        arguments = All-from_recursion HasFewArguments helper.code (omega arith);
      })
      (All-nil IsUnitWithinLimits));
}

sum_adds : AddsAtMost sum
sum_adds =
    All-cons AddsInUnit adder (helper ∷ []) (All-from_recursion (λ i. gets_or_puts i ≡ false) adder.code (refl, (refl, (refl, (refl, tt)))))
    (All-cons AddsInUnit helper [] (All-from_recursion (λ i. gets_or_puts i ≡ false) helper.code (refl, (refl, (refl, (refl, tt)))))
    (All-nil AddsInUnit))

-- main comes first, and main comes last
abbrev main_first : List ℕ
main_first = 0 ∷ 0 ∷ 0 ∷ 0 ∷ 1 ∷ 1 ∷ 1 ∷ 1 ∷ []

abbrev main_last : List ℕ
main_last = 0 ∷ 1 ∷ 1 ∷ 1 ∷ 1 ∷ 0 ∷ 0 ∷ 0 ∷ []

-- the law says something of them
sum_same : ComeToOne sum [] main_first main_last (last sum main_first) (last sum main_last)
sum_same = one_every sum [] sum_limits sum_accepted refl main_first main_last (last sum main_first) (last sum main_last)
    (record { legal = refl; ended = refl }) (adders_free sum (fresh sum) main_first sum_adds) (record { legal = refl; ended = refl })

-- ---- main and what it starts first each start one more: one prints 7, the other 8

abbrev starters : ModuleValue
starters = record {
  shared = [];
  units = main_with 0 (instr.Spawn 1 [] ∷ instr.Spawn 2 [] ∷ instr.Ret ∷ []) ∷ body_with [] 0 (instr.Spawn 3 [] ∷ instr.Ret ∷ [])
      ∷ body_with [] 1 (instr.Lit 0 (pos 7) ∷ instr.Print 0 ∷ instr.Ret ∷ [])
      ∷ body_with [] 1 (instr.Lit 0 (pos 8) ∷ instr.Print 0 ∷ instr.Ret ∷ []) ∷ [];
}

-- who comes first starts activity 2, and who comes last starts activity 3
abbrev main_before : List ℕ
main_before = 0 ∷ 0 ∷ 1 ∷ 2 ∷ 2 ∷ []

abbrev main_after : List ℕ
main_after = 0 ∷ 1 ∷ 0 ∷ 3 ∷ 3 ∷ []

starters_print : (printed_by starters main_before (fresh starters) 2 ≡ pos 7 ∷ [])
    × (printed_by starters main_after (fresh starters) 2 ≡ [])
    × (printed_by starters main_after (fresh starters) (all_named (OfActivities 2 ∷ []) 2) ≡ pos 7 ∷ [])
starters_print = (refl, refl, refl)

-- By their numbers there main starts the same activities in both orders, and so does activity 1.
starters_start : (started_by starters main_before (fresh starters) 0 ≡ 1 ∷ 2 ∷ [])
    × (started_by starters main_after (fresh starters) 0 ≡ 1 ∷ 3 ∷ [])
    × (map (all_named (OfActivities 2 ∷ [])) (1 ∷ 2 ∷ []) ≡ 1 ∷ 3 ∷ [])
    × (started_by starters main_before (fresh starters) 1 ≡ 3 ∷ []) × (started_by starters main_after (fresh starters) 1 ≡ 2 ∷ [])
    × (map (all_named (OfActivities 2 ∷ [])) (3 ∷ []) ≡ 2 ∷ [])
starters_start = (refl, refl, refl, refl, refl, refl)

-- The second one that main starts prints 7 in both; and there is no third.
starters_paths : (printed_at starters main_before (fresh starters) (1 ∷ []) ≡ Some (pos 7 ∷ []))
    × (printed_at starters main_after (fresh starters) (1 ∷ []) ≡ Some (pos 7 ∷ []))
    × (printed_at starters main_before (fresh starters) (2 ∷ []) ≡ None)
    × (printed_at starters main_before (fresh starters) (0 ∷ 0 ∷ []) ≡ Some [])
starters_paths = (refl, refl, refl, refl)

-- The first one that main's first one starts is activity 3, which prints 8 once it has taken its steps.
starters_on : printed_at starters (0 ∷ 0 ∷ 1 ∷ 2 ∷ 2 ∷ 3 ∷ 3 ∷ []) (fresh starters) (0 ∷ 0 ∷ []) ≡ Some (pos 8 ∷ [])
starters_on = refl

-- and 7 is printed once, 8 not yet
starters_numbers : (times_printed starters main_before (fresh starters) (pos 7) ≡ 1)
    × (times_printed starters main_after (fresh starters) (pos 7) ≡ 1)
    × (times_printed starters main_before (fresh starters) (pos 8) ≡ 0)
starters_numbers = (refl, refl, refl)

-- ---- a writes a number and ends; b starts c, which reads it

abbrev late : ModuleValue
late = record {
  shared = pos 0 ∷ [];
  units = main_with 0 (instr.Spawn 1 [] ∷ instr.Spawn 2 [] ∷ instr.Ret ∷ [])
      ∷ body_with [] 1 (instr.Lit 0 (pos 5) ∷ instr.Put 0 0 ∷ instr.Ret ∷ [])
      ∷ body_with [] 0 (instr.Spawn 3 [] ∷ instr.Ret ∷ []) ∷ body_with [] 1 (instr.Get 0 0 ∷ instr.Print 0 ∷ instr.Ret ∷ []) ∷ [];
}

-- both can take a step, and one stores the shared number that the other reads
abbrev conflict_on : ModuleValue → World → ℕ → ℕ → Bool
conflict_on m w a b = is_enabled m w a && is_enabled m w b && stores_next m w a 0 && (reads_next m w b 0 || stores_next m w b 0)

-- of the activities below n, two do
abbrev conflicts_with : ModuleValue → World → ℕ → ℕ → Bool
conflicts_with m w a zero = false
conflicts_with m w a (suc b) = (not (a == b) && (conflict_on m w a b || conflict_on m w b a)) || conflicts_with m w a b

abbrev conflicts_below : ModuleValue → World → ℕ → Bool
conflicts_below m w zero = false
conflicts_below m w (suc a) = conflicts_with m w a (suc a) || conflicts_below m w a

-- somewhere along this schedule
abbrev conflicts_on : ModuleValue → World → ℕ → Outcome → (World → Bool) → Bool
conflicts_on m w n Blocked go = false
conflicts_on m w n (Wrong c) go = false
conflicts_on m w n (Stepped v e) go = conflicts_below m w n || go v

abbrev conflicts_along : ModuleValue → ℕ → List ℕ → World → Bool
conflicts_along m n [] w = conflicts_below m w n
conflicts_along m n (a ∷ list) w = conflicts_on m w n (step m w a) (conflicts_along m n list)

-- a writes before b starts c; c reads before a writes
abbrev a_first : List ℕ
a_first = 0 ∷ 0 ∷ 0 ∷ 1 ∷ 1 ∷ 1 ∷ 2 ∷ 2 ∷ 3 ∷ 3 ∷ 3 ∷ []

abbrev c_first : List ℕ
c_first = 0 ∷ 0 ∷ 0 ∷ 1 ∷ 2 ∷ 3 ∷ 3 ∷ 3 ∷ 1 ∷ 1 ∷ 2 ∷ []

-- along the first of the two nobody could have taken a step that conflicts with another's; along the second somebody could
late_along : (conflicts_along late 4 a_first (fresh late) ≡ false) × (conflicts_along late 4 c_first (fresh late) ≡ true)
late_along = (refl, refl)

-- in both all end; what c prints is another number
late_prints : (all_ended (last late a_first) ≡ true) × (all_ended (last late c_first) ≡ true)
    × (printed_by late a_first (fresh late) 3 ≡ pos 5 ∷ []) × (printed_by late c_first (fresh late) 3 ≡ pos 0 ∷ [])
late_prints = (refl, refl, refl, refl)

-- ---- what main starts under a finish puts a number, which main gets behind it

abbrev joined : ModuleValue
joined = record {
  shared = pos 0 ∷ [];
  units = main_with 1 (instr.Finish 2 ∷ instr.Spawn 1 [] ∷ instr.EndFinish 0 ∷ instr.Get 0 0 ∷ instr.Print 0 ∷ instr.Ret ∷ [])
      ∷ body_with [] 1 (instr.Lit 0 (pos 5) ∷ instr.Put 0 0 ∷ instr.Ret ∷ []) ∷ [];
}

abbrev in_turn : List ℕ
in_turn = 0 ∷ 0 ∷ 1 ∷ 1 ∷ 1 ∷ 0 ∷ 0 ∷ 0 ∷ 0 ∷ []

abbrev one_at : World → ℕ → Activity
one_at w a = get_or w.activities a (main_of joined [])

-- the start comes before the first step of what is started
joined_start : IsStart joined (fresh joined) in_turn (0, 1) (1, 0)
joined_start = record {
  before = 0 ∷ [];
  after = 1 ∷ 1 ∷ 1 ∷ 0 ∷ 0 ∷ 0 ∷ 0 ∷ [];
  here = last joined (0 ∷ []);
  there = last joined (0 ∷ 0 ∷ []);
  whole = refl;
  leads = refl;
  turn = refl;
  starts = refl;
  child = refl;
  first = refl;
}

-- and the `put` before the end of the finish
joined_finish : IsUnderFinish joined (fresh joined) in_turn (1, 1) (0, 2)
unfolding under_within
joined_finish = record {
  before = 0 ∷ 0 ∷ 1 ∷ 1 ∷ 1 ∷ [];
  after = 0 ∷ 0 ∷ 0 ∷ [];
  here = last joined (0 ∷ 0 ∷ 1 ∷ 1 ∷ 1 ∷ []);
  there = last joined (0 ∷ 0 ∷ 1 ∷ 1 ∷ 1 ∷ 0 ∷ []);
  closed = event.Closed;
  whole = refl;
  leads = refl;
  turn = refl;
  takes = refl;
  closer = one_at (last joined (0 ∷ 0 ∷ 1 ∷ 1 ∷ 1 ∷ [])) 0;
  found = refl;
  first = 0;
  closes = refl;
  child = one_at (last joined (0 ∷ 0 ∷ 1 ∷ 1 ∷ 1 ∷ [])) 1;
  known = refl;
  under = refl;
  taken = omega arith;
}

-- so the `put` is before the `get`
abbrev joined_edges : List (StepName × StepName)
joined_edges = ((0, 1), (1, 0)) ∷ ((1, 1), (0, 2)) ∷ []

joined_before : IsBefore joined_edges (1, 1) (0, 3)
joined_before = record { between = (0, 2) ∷ []; way = (inl (1, refl), inr (refl, omega arith)) }

-- ---- main puts a number before it comes to wait for a clock; what it started gets it behind its pass

abbrev phased : ModuleValue
phased = record {
  shared = pos 0 ∷ [];
  units = main_with 2 (instr.Make 0 ∷ instr.Spawn 1 (0 ∷ []) ∷ instr.Lit 1 (pos 5) ∷ instr.Put 0 1 ∷ instr.Advance ∷ instr.Ret ∷ [])
      ∷ body_with (param.Clock ∷ []) 2 (instr.Advance ∷ instr.Get 1 0 ∷ instr.Print 1 ∷ instr.Ret ∷ []) ∷ [];
}

abbrev in_phases : List ℕ
in_phases = 0 ∷ 0 ∷ 1 ∷ 0 ∷ 0 ∷ 0 ∷ 1 ∷ 1 ∷ 1 ∷ 1 ∷ 0 ∷ 0 ∷ []

-- the `put` comes before the pass: main was open on the clock, which has advanced since
phased_pass : IsPass phased (fresh phased) in_phases (0, 3) (1, 1)
phased_pass = record {
  first = record {
    before = 0 ∷ 0 ∷ 1 ∷ 0 ∷ [];
    after = 0 ∷ 1 ∷ 1 ∷ 1 ∷ 1 ∷ 0 ∷ 0 ∷ [];
    here = last phased (0 ∷ 0 ∷ 1 ∷ 0 ∷ []);
    whole = refl;
    leads = refl;
    turn = refl;
  };
  second = record {
    before = 0 ∷ 0 ∷ 1 ∷ 0 ∷ 0 ∷ 0 ∷ [];
    after = 1 ∷ 1 ∷ 1 ∷ 0 ∷ 0 ∷ [];
    here = last phased (0 ∷ 0 ∷ 1 ∷ 0 ∷ 0 ∷ 0 ∷ []);
    whole = refl;
    leads = refl;
    turn = refl;
  };
  clock = 0;
  registered = refl;
  there = last phased (0 ∷ 0 ∷ 1 ∷ 0 ∷ 0 ∷ 0 ∷ 1 ∷ []);
  passes = refl;
  awaited = refl;
  advanced = omega arith;
}

-- so the `put` is before the `get`
phased_before : IsBefore (((0, 3), (1, 1)) ∷ []) (0, 3) (1, 2)
phased_before = record { between = (1, 1) ∷ []; way = (inl (0, refl), inr (refl, omega arith)) }

-- ---- main resumes the clock, and then puts: nobody waits for that

abbrev resumes_first : ModuleValue
resumes_first = record {
  shared = pos 0 ∷ [];
  units = main_with 2
      (instr.Make 0 ∷ instr.Spawn 1 (0 ∷ []) ∷ instr.Lit 1 (pos 5) ∷ instr.Resume 0 ∷ instr.Put 0 1 ∷ instr.Advance ∷ instr.Ret ∷ [])
      ∷ body_with (param.Clock ∷ []) 2 (instr.Advance ∷ instr.Get 1 0 ∷ instr.Print 1 ∷ instr.Ret ∷ []) ∷ [];
}

-- what it started can take its pass where the `put` is still to come
abbrev passes_early : World
passes_early = last resumes_first (0 ∷ 0 ∷ 0 ∷ 0 ∷ 1 ∷ [])

resumed_early : (is_enabled resumes_first passes_early 1 ≡ true) × (stores_next resumes_first passes_early 0 0 ≡ true)
resumed_early = (refl, refl)

-- though it may come behind it: main is registered before the `put`, but has signalled, so that this is no such edge
resumed_late : (standing_on (last resumes_first (0 ∷ 0 ∷ 0 ∷ 0 ∷ [])) 0 0 ≡ standing.Signalled)
    × (phase_of (last resumes_first (0 ∷ 0 ∷ 0 ∷ 0 ∷ [])) 0 ≡ 0)
    × (phase_of (last resumes_first (0 ∷ 0 ∷ 0 ∷ 0 ∷ 0 ∷ 1 ∷ [])) 0 ≡ 1)
    × (is_enabled resumes_first (last resumes_first (0 ∷ 0 ∷ 0 ∷ 0 ∷ 0 ∷ 1 ∷ [])) 1 ≡ true)
resumed_late = (refl, refl, refl, refl)

-- ---- main resumes the clock, puts, and leaves it: the first pass of what it started doesn't wait for that, the second one does

abbrev leaves_behind : ModuleValue
leaves_behind = record {
  shared = pos 0 ∷ [];
  units = main_with 2
      (instr.Make 0 ∷ instr.Spawn 1 (0 ∷ []) ∷ instr.Lit 1 (pos 5) ∷ instr.Resume 0 ∷ instr.Put 0 1 ∷ instr.Drop 0 ∷ instr.Ret ∷ [])
      ∷ body_with (param.Clock ∷ []) 2 (instr.Advance ∷ instr.Advance ∷ instr.Get 1 0 ∷ instr.Print 1 ∷ instr.Ret ∷ []) ∷ [];
}

abbrev in_two_phases : List ℕ
in_two_phases = 0 ∷ 0 ∷ 0 ∷ 0 ∷ 0 ∷ 0 ∷ 1 ∷ 1 ∷ 1 ∷ 1 ∷ 1 ∷ 1 ∷ 1 ∷ 0 ∷ []

-- the `put` comes before the second pass, though main left the clock before that had advanced at all
second_pass : IsPass leaves_behind (fresh leaves_behind) in_two_phases (0, 4) (1, 3)
second_pass = record {
  first = record {
    before = 0 ∷ 0 ∷ 0 ∷ 0 ∷ [];
    after = 0 ∷ 1 ∷ 1 ∷ 1 ∷ 1 ∷ 1 ∷ 1 ∷ 1 ∷ 0 ∷ [];
    here = last leaves_behind (0 ∷ 0 ∷ 0 ∷ 0 ∷ []);
    whole = refl;
    leads = refl;
    turn = refl;
  };
  second = record {
    before = 0 ∷ 0 ∷ 0 ∷ 0 ∷ 0 ∷ 0 ∷ 1 ∷ 1 ∷ 1 ∷ [];
    after = 1 ∷ 1 ∷ 1 ∷ 0 ∷ [];
    here = last leaves_behind (0 ∷ 0 ∷ 0 ∷ 0 ∷ 0 ∷ 0 ∷ 1 ∷ 1 ∷ 1 ∷ []);
    whole = refl;
    leads = refl;
    turn = refl;
  };
  clock = 0;
  registered = refl;
  there = last leaves_behind (0 ∷ 0 ∷ 0 ∷ 0 ∷ 0 ∷ 0 ∷ 1 ∷ 1 ∷ 1 ∷ 1 ∷ []);
  passes = refl;
  awaited = refl;
  advanced = omega arith;
}

-- where the first pass is over and the `put` is still to come, the second one can't be taken
abbrev passed_once : World
passed_once = last leaves_behind (0 ∷ 0 ∷ 0 ∷ 0 ∷ 1 ∷ 1 ∷ 1 ∷ [])

held_back : (stores_next leaves_behind passed_once 0 0 ≡ true) × (is_enabled leaves_behind passed_once 1 ≡ false)
    × (standing_on passed_once 0 0 ≡ standing.Ahead) × (standing_on passed_once 1 0 ≡ standing.Signalled)
held_back = (refl, refl, refl, refl)
