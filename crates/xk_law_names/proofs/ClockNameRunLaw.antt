-- Where two neighbours among the clocks have changed places, a schedule goes as it goes without that: no step takes a clock away.
use Rattle.std.proofs.Common.{◌≡◌, ℕ, suc, ◌≤◌, ◌<◌, ◌+◌, List, [], ◌∷◌, ◌++◌, length, map, refl, ap, ◌∙◌, arith}
use Rattle.std.specs.Prelude.{filter, not}
use Rattle.std.specs.List.{filter_map}
use Rattle.std.proofs.lemmas.List.{length-map, length_push}
use Rattle.xk_types.specs.declared.world.Event.{Event}
use Rattle.xk_types.specs.declared.world.Standing.{Standing}
use Rattle.xk_types.specs.Code.{ModuleValue}
use Rattle.xk_types.specs.World.{World}
use Rattle.xk_types.specs.Step.{Outcome, Blocked, Wrong, Stepped, settled_clock, moved, joined, new_clock, is_given, none, all, dropped, resumed, step}
use Rattle.xk_types.specs.Schedule.{run, run_on, events, events_on, is_local, number_printed}
use Rattle.xk_law_schedules.proofs.StepFormLemmas.{step_kind}
use Rattle.xk_law_schedules.proofs.ClockLemmas.StandingLemmas.{length-moved, length-joined}
use Rattle.xk_law_names.specs.ClockNames.{clocks_swapped, outcome_swapped, course_swapped, GoesSwapped}
use Rattle.xk_law_names.proofs.ClockNameStepLaw.{step_swapped}

-- ---- no step takes a clock away

-- it isn't a step, or there are at least so many clocks after it
abbrev pub Keeps : ℕ → Outcome → Type 0
Keeps n Blocked = Unit {0}
Keeps n (Wrong c) = Unit {0}
Keeps n (Stepped u e) = n ≤ length u.clocks

pub step_keeps : (m : ModuleValue) (w : World) (a : ℕ) → Keeps (length w.clocks) (step m w a)
step_keeps m w a = step_kind (Keeps (length w.clocks)) m w a tt (λ c. tt) (λ act at alive. record {
  closed = λ n some nobody runs. changed none;
  over = λ at none. changed (all dropped);
  arrives = changed (all resumed);
  done = λ next change e on quiet rests. changed change;
  made = λ next on. omega (
    arith,
    length-map (w.clocks ++ new_clock (length w.activities) a ∷ []) (settled_clock (w.steps + 1)),
    length_push w.clocks (new_clock (length w.activities) a),
  );
  stored = λ s n e on quiet. changed none;
  spawned = λ t args values at on. omega (
    arith,
    length-map (joined a (is_given values) w.clocks) (settled_clock (w.steps + 1)),
    length-joined a (is_given values) w.clocks,
  );
})
  where
    changed : (change : ℕ → Standing → Standing) → length w.clocks ≤ length (map (settled_clock (w.steps + 1)) (moved a change w.clocks))
    changed change = omega (arith, length-map (moved a change w.clocks) (settled_clock (w.steps + 1)), length-moved a change w.clocks)

-- ---- a run

run_swapped : (m : ModuleValue) (k : ℕ) (s : List ℕ) (w : World) → suc k < length w.clocks
    → run m s (clocks_swapped k w) ≡ course_swapped k (run m s w)
run_swapped m k [] w inside = refl
run_swapped m k (a ∷ s) w inside =
    ap (λ o. run_on (clocks_swapped k w) o (run m s)) (step_swapped m w k a inside) ∙ by (run_swapped m k s) (step m w a) (step_keeps m w a)
  where
    by : ((u : World) → suc k < length u.clocks → run m s (clocks_swapped k u) ≡ course_swapped k (run m s u))
        → (o : Outcome) → Keeps (length w.clocks) o
        → run_on (clocks_swapped k w) (outcome_swapped k o) (run m s) ≡ course_swapped k (run_on w o (run m s))
    by later Blocked h = refl
    by later (Wrong c) h = refl
    by later (Stepped u e) h = later u (omega arith)

events_swapped : (m : ModuleValue) (k : ℕ) (s : List ℕ) (w : World) → suc k < length w.clocks
    → events m s (clocks_swapped k w) ≡ events m s w
events_swapped m k [] w inside = refl
events_swapped m k (a ∷ s) w inside =
    ap (λ o. events_on a o (events m s)) (step_swapped m w k a inside) ∙ by (events_swapped m k s) (step m w a) (step_keeps m w a)
  where
    by : ((u : World) → suc k < length u.clocks → events m s (clocks_swapped k u) ≡ events m s u)
        → (o : Outcome) → Keeps (length w.clocks) o → events_on a (outcome_swapped k o) (events m s) ≡ events_on a o (events m s)
    by later Blocked h = refl
    by later (Wrong c) h = refl
    by later (Stepped u e) h = ap (λ es. (a, e) ∷ es) (later u (omega arith))

pub goes_swapped : (m : ModuleValue) (w : World) (k : ℕ) (s : List ℕ) → suc k < length w.clocks → GoesSwapped m w k s
goes_swapped m w k s inside = record {
  course = run_swapped m k s w inside;
  events = events_swapped m k s w inside;
  prints = ap (λ (es : List (ℕ × Event)). filter_map (λ p. number_printed p.1) (filter (λ p. not (is_local p.1)) es))
      (events_swapped m k s w inside);
}
