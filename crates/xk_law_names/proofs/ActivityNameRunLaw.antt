-- Runs by the other numbers.
use Rattle.std.proofs.Common.{◌≡◌, ℕ, suc, ◌+◌, ◌<◌, ◌≤◌, ℤ, not, Bool, true, false, cond, List, [], ◌∷◌, ◌++◌, map, length, set, refl, sym, ap, ◌∙◌, arith, length-set}
use Rattle.std.specs.Prelude.{filter}
use Rattle.std.specs.List.{filter_map, cons_option}
use Rattle.std.proofs.lemmas.List.{length-map, length_push}
use Rattle.xk_types.specs.declared.world.Standing.{Standing}
use Rattle.xk_types.specs.declared.world.Standing.TheVariants as standing
use Rattle.xk_types.specs.declared.world.Value.{Value}
use Rattle.xk_types.specs.declared.world.Event.{Event}
use Rattle.xk_types.specs.declared.world.Event.TheVariants as event
use Rattle.xk_types.specs.Acceptance.{IsAccepted}
use Rattle.xk_types.specs.Code.{ModuleValue, IsWithinLimits}
use Rattle.xk_types.specs.World.{Activity, Clock, World, standing_of}
use Rattle.xk_types.specs.Step.{Outcome, Blocked, Wrong, Stepped, advanced, settled, settled_clock, moved, joined, is_given, new_clock, child, made, spawned, onward, left, arrived, ended, none, all, dropped, resumed, step}
use Rattle.xk_types.specs.Schedule.{run, run_on, events, events_on, is_local, number_printed, IsReached}
use Rattle.xk_types.proofs.ListLemmas.{Each, each_map, each_push}
use Rattle.xk_law_schedules.proofs.ClockLemmas.AdvanceLemmas.{settled_cases}
use Rattle.xk_law_schedules.proofs.ClockLemmas.StandingLemmas.{each_moved, each_joined, new_width}
use Rattle.xk_law_schedules.proofs.ReachabilityLemmas.{reached_sound}
use Rattle.xk_law_schedules.proofs.StepFormLemmas.{step_kind}
use Rattle.xk_law_names.specs.ActivityNames.{renamed, activities_swapped, outcome_renamed, course_renamed, entry_renamed, HasAllStandings, GoesRenamed}
use Rattle.xk_law_names.proofs.ActivityNameStepLaw.{step-swapped}

-- ---- each clock has a standing of each activity

-- in the world after a step, with no fewer than so many activities
abbrev pub Keeps : ℕ → Outcome → Type 0
Keeps n Blocked = Unit {0}
Keeps n (Wrong c) = Unit {0}
Keeps n (Stepped u e) = (n ≤ length u.activities) × HasAllStandings u

module _ (w : World) (a : ℕ) (full : HasAllStandings w) where
  -- at the end of a step, by the activities, clocks and shared numbers before it
  settled_keeps : (acts : List Activity) (cs : List Clock) (cells : List ℤ) (e : Event) → length w.activities ≤ length acts
      → Each (λ j (c : Clock). length c.standings ≡ length acts) cs
      → Keeps (length w.activities) (Stepped (settled (record w { activities = acts; clocks = cs; cells = cells })) e)
  settled_keeps acts cs cells e more each = (
    more,
    each_map (settled_clock (w.steps + 1)) (λ j (c : Clock). length c.standings ≡ length acts) cs
        (λ j c at. settled_cases (w.steps + 1) c (λ (x : Clock). length x.standings ≡ length acts)
        (λ h. length-map c.standings advanced ∙ each j c at)
        (λ h. each j c at)),
  )

  done_keeps : (next : Activity) (change : ℕ → Standing → Standing) (e : Event) (cells : List ℤ)
      → Keeps (length w.activities)
      (Stepped (settled (record w { activities = set w.activities a next; clocks = moved a change w.clocks; cells = cells })) e)
  done_keeps next change e cells =
      let many : length (set w.activities a next) ≡ length w.activities = length-set w.activities a next in
      settled_keeps (set w.activities a next) (moved a change w.clocks) cells e (omega (arith, many))
      (each_moved a change (λ j (c : Clock). length c.standings ≡ length (set w.activities a next)) w.clocks
      (λ j c at. length-set c.standings a (change j (standing_of c a)) ∙ full j c at ∙ sym many))

  made_keeps : (next : Activity) → Keeps (length w.activities) (made w a next)
  made_keeps next =
      let many : length (set w.activities a next) ≡ length w.activities = length-set w.activities a next in
      let new : Clock = new_clock (length w.activities) a in
      settled_keeps (set w.activities a next) (w.clocks ++ new ∷ []) w.cells event.Made (omega (arith, many))
      (each_push (λ j (c : Clock). length c.standings ≡ length (set w.activities a next)) w.clocks new (λ j c at. full j c at ∙ sym many)
      (new_width (length w.activities) a ∙ sym many))

  spawned_keeps : (m : ModuleValue) (act : Activity) (unit : ℕ) (values : List Value)
      → Keeps (length w.activities) (spawned m w a act unit values)
  spawned_keeps m act unit values =
      let acts : List Activity = set w.activities a (onward act) ++ child m a act unit values ∷ [] in
      let many : length acts ≡ suc (length w.activities) =
      omega (arith, length_push (set w.activities a (onward act)) (child m a act unit values), length-set w.activities a (onward act)) in
      settled_keeps acts (joined a (is_given values) w.clocks) w.cells event.Spawned (omega (arith, many))
      (each_joined a (is_given values) (λ j (c : Clock). length c.standings ≡ length acts) w.clocks
      (λ j c at. omega (arith, length_push c.standings (cond (is_given values j) (standing_of c a) standing.Apart), full j c at, many)))

  pub step_keeps : (m : ModuleValue) → Keeps (length w.activities) (step m w a)
  step_keeps m = step_kind (Keeps (length w.activities)) m w a tt (λ c. tt) (λ act found alive. record {
    closed = λ n some nobody runs. done_keeps (left act n) none event.Closed w.cells;
    over = λ here alone. done_keeps (ended act) (all dropped) event.Ended w.cells;
    arrives = done_keeps (arrived act) (all resumed) event.Arrived w.cells;
    done = λ next change e on quiet rests. done_keeps next change e w.cells;
    made = λ next on. made_keeps next;
    stored = λ s n e on quiet. done_keeps (onward act) none e (set w.cells s n);
    spawned = λ t args values at on. spawned_keeps m act t values;
  })

pub reached_full : (m : ModuleValue) (w : World) → IsWithinLimits m → IsAccepted m → IsReached m w → HasAllStandings w
reached_full m w limits ok reached j c at = ((reached_sound m limits ok w reached).clocks j c at).width

-- ---- runs

-- the entries that aren't local, and the numbers that they print
abbrev seen_of : List (ℕ × Event) → List (ℕ × Event)
seen_of es = filter (λ p. not (is_local p.1)) es

abbrev pub prints_of : List (ℕ × Event) → List ℤ
prints_of es = filter_map (λ p. number_printed p.1) (seen_of es)

pub prints_renamed : (k : ℕ) (es : List (ℕ × Event)) → prints_of (map (entry_renamed k) es) ≡ prints_of es
prints_renamed k [] = refl
prints_renamed k (p ∷ es) = by (not (is_local p.1)) (prints_renamed k es)
  where
    by : (b : Bool) → prints_of (map (entry_renamed k) es) ≡ prints_of es
        → filter_map (λ p. number_printed p.1)
        (cond b (entry_renamed k p ∷ seen_of (map (entry_renamed k) es)) (seen_of (map (entry_renamed k) es)))
        ≡ filter_map (λ p. number_printed p.1) (cond b (p ∷ seen_of es) (seen_of es))
    by true h = ap (cons_option (number_printed p.1)) h
    by false h = h

-- where it goes, and with what events
abbrev Goes : ModuleValue → World → ℕ → List ℕ → Type 0
Goes m w k list = (run m (map (renamed k) list) (activities_swapped k w) ≡ course_renamed k (run m list w))
    × (events m (map (renamed k) list) (activities_swapped k w) ≡ map (entry_renamed k) (events m list w))

goes : (m : ModuleValue) (w : World) (k : ℕ) (list : List ℕ) → suc k < length w.activities → HasAllStandings w → Goes m w k list
goes m w k [] inside full = (refl, refl)
goes m w k (a ∷ list) inside full = rw (step-swapped m w k a inside full) (by (step m w a) (step_keeps w a full m) (λ u. goes m u k list))
  where
    by : (o : Outcome) → Keeps (length w.activities) o → ((u : World) → suc k < length u.activities → HasAllStandings u → Goes m u k list)
        → (run_on (activities_swapped k w) (outcome_renamed k o) (run m (map (renamed k) list))
        ≡ course_renamed k (run_on w o (run m list)))
        × (events_on (renamed k a) (outcome_renamed k o) (events m (map (renamed k) list))
        ≡ map (entry_renamed k) (events_on a o (events m list)))
    by Blocked keeps later = (refl, refl)
    by (Wrong c) keeps later = (refl, refl)
    by (Stepped u e) keeps later =
        let rest : Goes m u k list = later u (omega (arith, inside, keeps.0)) keeps.1 in
        (rest.0, ap (λ es. (renamed k a, e) ∷ es) rest.1)

pub goes_renamed : (m : ModuleValue) (w : World) (k : ℕ) (list : List ℕ) → suc k < length w.activities → HasAllStandings w
    → GoesRenamed m w k list
goes_renamed m w k list inside full =
    let both : Goes m w k list = goes m w k list inside full in
    record {
      course = both.0;
      events = both.1;
      prints = ap prints_of both.1 ∙ prints_renamed k (events m list w);
    }
