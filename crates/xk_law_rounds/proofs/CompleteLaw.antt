-- The causes of a run are complete: where an activity can't take its next step yet, a step causes it that wasn't taken yet.
use Rattle.std.proofs.Common.{◌≡◌, ◌∙◌, ℕ, ℤ, zero, suc, ◌+◌, ◌<◌, ◌≤◌, inl, inr, Bool, true, false, true≢false, cond, List, ◌∷◌, ◌++◌}
use Rattle.std.proofs.Common.{length, Some, refl, sym, ap, append_assoc, arith, eq-eqb}
use Rattle.std.specs.Prelude.{slice_get}
use Rattle.std.specs.Option.{option_map_or}
use Rattle.std.proofs.lemmas.Option.{same_Some, slice_get_cases, slice_get_within}
use Rattle.xk_types.specs.declared.instr.Instr.TheVariants as instr
use Rattle.xk_types.specs.declared.world.Standing.TheVariants as standing
use Rattle.xk_types.specs.declared.world.Status.{Status}
use Rattle.xk_types.specs.declared.world.Status.TheVariants as status
use Rattle.xk_types.specs.declared.world.Event.{Event}
use Rattle.xk_types.specs.declared.world.Event.TheVariants as event
use Rattle.xk_types.specs.Acceptance.{IsAccepted}
use Rattle.xk_types.specs.Code.{ModuleValue, IsWithinLimits}
use Rattle.xk_types.specs.World.{Activity, Clock, Finish, World, AreArguments, opening, is_ended, instruction_at, standing_of}
use Rattle.xk_types.specs.Step.{Blocked, Stepped, all, awaits, closing, done, innermost, is_pending, is_signalled, is_under, left}
use Rattle.xk_types.specs.Step.{none, passed}
use Rattle.xk_types.specs.Step.{past, run_at, step, step_by, step_of, waits}
use Rattle.xk_types.specs.Schedule.{Through, run, IsReached, is_enabled, is_step}
use Rattle.xk_types.proofs.ListLemmas.{any_found, get_inside}
use Rattle.xk_law_schedules.proofs.Invariant.{IsSound}
use Rattle.xk_law_schedules.proofs.ClockLemmas.AdvanceLemmas.{held_back}
use Rattle.xk_law_schedules.proofs.ProgressLemmas.WaitLemmas.{stuck_waits}
use Rattle.xk_law_schedules.proofs.ReachabilityLemmas.{opening_reached, reached_run, reached_sound, reached_scoped}
use Rattle.xk_law_schedules.proofs.SafetyLemmas.InstructionLemmas.{instruction_found, standing_at, running_moves}
use Rattle.xk_law_schedules.proofs.SafetyLemmas.StepLemmas.{IsAtEnd, free_or_end, moves_step}
use Rattle.xk_law_schedules.proofs.ScopeLemmas.Invariant.{IsScoped}
use Rattle.xk_law_schedules.proofs.ScopeLemmas.FinishOwnerLemmas.{IsAwaited, awaited}
use Rattle.xk_law_commute.proofs.AwaitIndependenceLemmas.{awaits_given}
use Rattle.xk_law_commute.proofs.ChangeSquareLemmas.{found_of, same_step}
use Rattle.xk_law_commute.proofs.StartSquareLemmas.{alive_of}
use Rattle.xk_law_traces.specs.Edges.{StepName, turns_of, IsTaken, IsTurn, IsCause, phase_of, standing_on}
use Rattle.xk_law_traces.proofs.EdgeLaw.{WasTaken, run_behind, turns_on, turns_same, was_taken}
use Rattle.xk_law_traces.proofs.FinishEdgeLaw.{governed_stays}
use Rattle.xk_law_traces.proofs.InstructionEventLemmas.{arrived_free, stepped_by}
use Rattle.xk_law_traces.proofs.StageLemmas.{registered_stage, stage_at, unsignalled_stage}
use Rattle.xk_law_traces.proofs.StepEventLemmas.{run_wider}
use Rattle.xk_law_rounds.proofs.HoldLemmas.{stage_tells}
use Rattle.xk_law_rounds.proofs.IdleLemmas.{IsStartedOn, IsStill, idle, owned_in, started_on, under_over}

-- who takes a step is there before and behind it
pub inside_before : (m : ModuleValue) (list : List ℕ) (w v : World) (a : ℕ) → run m list w ≡ Through v → length v.activities ≤ a
    → turns_of a list ≡ 0
inside_before m list w v a legal above = by (turns_of a list) refl
  where
    by : (n : ℕ) → turns_of a list ≡ n → n ≡ 0
    by zero e = refl
    by (suc n) e =
        let r : WasTaken m w list a 0 = was_taken m list w v a 0 legal (omega (arith, e)) in
        let x = found_of m r.here a r.there r.e r.takes in
        let inside = slice_get_within r.here.activities a x.0 x.1 in
        let more = run_wider m (a ∷ r.back) r.here v
        (sym (run_behind m r.front (a ∷ r.back) w r.here r.leads) ∙ ap (λ l. run m l w) (sym r.whole) ∙ legal) in
        absurd (omega (arith, inside, more, above))

module _ (m : ModuleValue) (args : List ℤ) (limits : IsWithinLimits m) (ok : IsAccepted m) (taken : AreArguments m args)
    (s : List ℕ) (z : World) (legal : run m s (opening m args) ≡ Through z)
    (y : StepName) (some : IsTaken s y) (before after : List ℕ) (v : World) (whole : s ≡ before ++ after)
    (leads : run m before (opening m args) ≡ Through v) (turn : turns_of y.0 before ≡ y.1) (stuck : is_enabled m v y.0 ≡ false) where
  abbrev w : World
  w = opening m args

  reached : IsReached m v
  reached = reached_run m before w v (opening_reached m args taken) leads

  rest : run m after v ≡ Through z
  rest = sym (run_behind m before after w v leads) ∙ ap (λ l. run m l w) (sym whole) ∙ legal

  -- where it is taken
  next : WasTaken m v after y.0 0
  next =
      let n = turns_on y.0 before after in
      let e = ap (turns_of y.0) whole in
      was_taken m after v z y.0 0 rest (omega (arith, n, e, some, turn))

  there : IsReached m next.here
  there = reached_run m next.front v next.here reached next.leads

  -- who takes it, as it is there
  taker : (act : Activity) × (slice_get next.here.activities y.0 ≡ Some act)
  taker = found_of m next.here y.0 next.there next.e next.takes

  -- a step causes this one, and wasn't taken yet
  abbrev IsWaited : Type 0
  IsWaited = (x : StepName) × IsCause m w s x y × IsTaken s x × (IsTaken before x → ⊥)

  -- the step on the way
  abbrev second : IsTurn m w s y
  second = record {
    before = before ++ next.front;
    after = next.back;
    here = next.here;
    whole = whole ∙ ap (λ l. before ++ l) next.whole ∙ sym (append_assoc before next.front (y.0 ∷ next.back));
    leads = run_behind m before next.front w v leads ∙ next.leads;
    turn = (let n = turns_on y.0 before next.front in let k = next.turn in omega (arith, n, k, turn));
  }

  -- a step that somebody takes on the way there
  module _ (a : ℕ) (front back : List ℕ) (here there : World) (e : Event) (is : next.front ≡ front ++ a ∷ back)
      (goes : run m front v ≡ Through here) (takes : step m here a ≡ Stepped there e) where
    abbrev first : IsTurn m w s (a, turns_of a (before ++ front))
    first = record {
      before = before ++ front;
      after = back ++ y.0 ∷ next.back;
      here = here;
      whole = whole
          ∙ ap (λ l. before ++ l) (next.whole ∙ ap (λ l. l ++ y.0 ∷ next.back) is ∙ append_assoc front (a ∷ back) (y.0 ∷ next.back))
          ∙ sym (append_assoc before front (a ∷ (back ++ y.0 ∷ next.back)));
      leads = run_behind m before front w v leads ∙ goes;
      turn = refl;
    }

    is_taken : IsTaken s (a, turns_of a (before ++ front))
    is_taken =
        let n = ap (turns_of a) first.whole ∙ turns_on a (before ++ front) (a ∷ (back ++ y.0 ∷ next.back)) in
        let o = turns_same a a (back ++ y.0 ∷ next.back) (eq-eqb a a refl) in
        omega (arith, n, o)

    not_yet : IsTaken before (a, turns_of a (before ++ front)) → ⊥
    not_yet h = let n = turns_on a before front in omega (arith, n, h)

  -- ---- who isn't there yet

  unborn : length v.activities ≤ y.0 → IsWaited
  unborn above = by (started_on m next.front v next.here y.0 next.leads above (slice_get_within next.here.activities y.0 taker.0 taker.1))
    where
      by : IsStartedOn m next.front v y.0 → IsWaited
      by r =
          let t = first r.who r.front r.back r.here r.there event.Spawned r.whole r.leads r.starts in
          let n = inside_before m before w v y.0 leads above in (
            (r.who, turns_of r.who (before ++ r.front)),
            inl (inl (record {
              before = t.before;
              after = t.after;
              here = t.here;
              there = r.there;
              whole = t.whole;
              leads = t.leads;
              turn = t.turn;
              starts = r.starts;
              child = r.wide;
              first = sym turn ∙ n;
            })),
            is_taken r.who r.front r.back r.here r.there event.Spawned r.whole r.leads r.starts,
            not_yet r.who r.front r.back r.here r.there event.Spawned r.whole r.leads r.starts,
          )

  -- ---- who is there, and blocked

  sound : IsSound m v
  sound = reached_sound m limits ok v reached

  scoped : IsScoped m v
  scoped = reached_scoped m limits ok v reached

  module _ (act : Activity) (at : slice_get v.activities y.0 ≡ Some act) where
    here_still : IsStill v next.here y.0 act
    here_still = idle m limits ok next.front v next.here y.0 act reached at next.turn next.leads

    still : slice_get next.here.activities y.0 ≡ Some act
    still = here_still.there

    alive : is_ended act.status ≡ false
    alive = alive_of m next.here y.0 act next.there next.e still next.takes

    -- ---- at an `advance`

    module _ (waiting : act.status ≡ status.Arrived) where
      free : waits next.here y.0 ≡ false
      free = arrived_free m next.here y.0 act still waiting (ap is_step next.takes)

      passes : next.e ≡ event.Passed
      passes =
          by (waits next.here y.0) free (stepped_by m next.here next.there y.0 act next.e still next.takes status.Arrived waiting)
        where
          by : (b : Bool) → b ≡ false
              → cond b Blocked (done next.here y.0 (past act (next.here.steps + 1)) (all passed) event.Passed) ≡ Stepped next.there next.e
              → next.e ≡ event.Passed
          by true h g = absurd (true≢false h)
          by false h g = sym (same_step _ next.there event.Passed next.e g).1

      -- the clock that it waits for
      c : (k : ℕ) × (x : Clock) × (slice_get v.clocks k ≡ Some x) × (is_signalled (standing_of x y.0) ≡ true)
      c = any_found (λ (x : Clock). is_signalled (standing_of x y.0)) v.clocks (stuck_waits m v y.0 act at waiting stuck)

      abbrev k : ℕ
      k = c.0

      -- who holds it back
      back : (b : ℕ) × (b < length c.1.standings) × (is_pending (standing_of c.1 b) ≡ true)
      back = held_back c.1 y.0 (sound.clocks c.0 c.1 c.2).unready c.3

      abbrev b : ℕ
      b = back.0

      holder : (x : Activity) × (slice_get v.activities b ≡ Some x)
      holder = get_inside v.activities b (let wide = (sound.clocks c.0 c.1 c.2).width in let l = back.1 in omega (arith, wide, l))

      stands : (a : ℕ) → standing_on v a k ≡ standing_of c.1 a
      stands a = ap (λ o. option_map_or (λ (x : Clock). standing_of x a) o standing.Apart) c.2

      abbrev p : ℕ
      p = phase_of v k

      abbrev q : ℕ
      q = phase_of next.here k

      mine : stage_at v k y.0 ≡ suc (suc (suc (p + p)))
      mine = (stage_tells v k y.0).signalled (ap is_signalled (stands y.0) ∙ c.3)

      other : (suc (p + p) ≤ stage_at v k b) × (stage_at v k b ≤ suc (suc (p + p)))
      other = (stage_tells v k b).awaited (ap is_pending (stands b) ∙ back.2)

      behind : stage_at next.here k y.0 ≡ suc (suc (suc (p + p)))
      behind = here_still.stages k ∙ mine

      most : stage_at next.here k y.0 ≤ suc (suc (q + q))
      most = unsignalled_stage next.here.clocks k y.0 free

      least : suc (q + q) ≤ stage_at next.here k y.0
      least = registered_stage next.here.clocks k y.0 (let e = behind in omega (arith, e))

      -- the clock has advanced
      further : q ≡ suc p
      further = let e = behind in let f = most in let g = least in omega (arith, e, f, g)

      awaits_it : is_pending (standing_on next.here y.0 k) ≡ true
      awaits_it =
          let e = behind in
          let f = further in
          (stage_tells next.here k y.0).awaits (omega (arith, e, f)) (omega (arith, e, f))

      -- so who held it back took a step
      took : turns_of b next.front ≡ 0 → ⊥
      took none =
          let e = (idle m limits ok next.front v next.here b holder.0 reached holder.1 none next.leads).stages k in
          let o = other in
          let some : 0 < stage_at next.here k b = omega (arith, e, o) in
          let low : suc (q + q) ≤ stage_at next.here k b = registered_stage next.here.clocks k b some in
          let f = further in
          omega (arith, e, o, low, f)

      by_pass : WasTaken m v next.front b 0 → IsWaited
      by_pass r =
          let t = first b r.front r.back r.here r.there r.e r.whole r.leads r.takes in
          let e = (idle m limits ok r.front v r.here b holder.0 reached holder.1 r.turn r.leads).stages k in
          let o = other in
          let h = (stage_tells r.here k b).holds (omega (arith, e, o)) in
          let low = h.1 in
          let f = further in (
            (b, turns_of b (before ++ r.front)),
            inr (record {
              first = t;
              second = second;
              clock = k;
              registered = h.0;
              there = next.there;
              passes = next.takes ∙ ap (Stepped next.there) passes;
              awaited = awaits_it;
              advanced = omega (arith, e, o, low, f);
            }),
            is_taken b r.front r.back r.here r.there r.e r.whole r.leads r.takes,
            not_yet b r.front r.back r.here r.there r.e r.whole r.leads r.takes,
          )

      arrived : IsWaited
      arrived = by (turns_of b next.front) refl
        where
          by : (n : ℕ) → turns_of b next.front ≡ n → IsWaited
          by zero e = absurd (took e)
          by (suc n) e = by_pass (was_taken m next.front v next.here b 0 next.leads (omega (arith, e)))

    -- ---- at an `endfinish`

    module _ (running : act.status ≡ status.Running) where
      abbrev f : Finish
      f = innermost y.0 act

      at_end : IsAtEnd m ok v sound scoped y.0 act at
      at_end =
          let i = standing_at m ok v y.0 act sound at running in
          elim (free_or_end m ok v sound scoped y.0 act at running i.0 i.1) [
            | inl free ↦ absurd (true≢false (sym (sym stuck
                ∙ ap (λ o. is_step (step_of m v y.0 o)) at ∙ ap (λ st. is_step (step_by m v y.0 act st)) running
                ∙ moves_step m (step_by m v y.0 act status.Running) (running_moves m ok v y.0 act sound at running i.0 i.1 free))))
            | inr e ↦ e
          ]

      closes : instruction_at m act.frame ≡ Some (instr.EndFinish at_end.b)
      closes = instruction_found m ok v y.0 act sound at running (instr.EndFinish at_end.b) at_end.here

      -- who is waited for
      waited_for : IsAwaited v.activities f
      waited_for = awaited v.activities f at_end.awaited

      abbrev a : ℕ
      a = waited_for.b

      -- nobody is, when it takes the step
      free_then : awaits next.here.activities f ≡ false
      free_then =
          by_many act.opened
          (sym (ap (run_at m next.here y.0 act) closes)
          ∙ stepped_by m next.here next.there y.0 act next.e still next.takes status.Running running)
        where
          by_many : (n : ℕ) → closing next.here y.0 act n ≡ Stepped next.there next.e → awaits next.here.activities f ≡ false
          by_many zero h = absurd (true≢false (sym (ap is_step h)))
          by_many (suc n) h = by_awaits (awaits next.here.activities f) refl h
            where
              by_awaits : (o : Bool) → awaits next.here.activities f ≡ o
                  → cond o Blocked (done next.here y.0 (left act n) none event.Closed) ≡ Stepped next.there next.e
                  → awaits next.here.activities f ≡ false
              by_awaits true e g = absurd (true≢false (sym (ap is_step g)))
              by_awaits false e g = e

      -- but who was waited for is still under the finish
      child : (x : Activity) × (slice_get next.here.activities a ≡ Some x) × (x.governed ≡ waited_for.act.governed)
      child = governed_stays m next.front v next.here a waited_for.act next.leads waited_for.found

      under_then : is_under next.here.activities f a ≡ true
      under_then = under_over v.activities next.here.activities (owned_in m limits ok v reached) (owned_in m limits ok next.here there)
          (λ n. n) (λ g. g) (λ g o h. h)
          (λ n x z hx hz. (let r = governed_stays m next.front v next.here n x next.leads hx in
          ap (λ (u : Activity). u.governed) (same_Some z r.0 (sym hz ∙ r.1)) ∙ r.2))
          f (suc a) a (omega arith) (slice_get_within next.here.activities a child.0 child.1) waited_for.act waited_for.found
          waited_for.under

      -- so that one took a step
      took_one : turns_of a next.front ≡ 0 → ⊥
      took_one none = true≢false (sym (awaits_given next.here.activities f (record {
        b = a;
        act = waited_for.act;
        found = (idle m limits ok next.front v next.here a waited_for.act reached waited_for.found none next.leads).there;
        under = under_then;
        alive = waited_for.alive;
      })) ∙ free_then)

      waits_at_end : IsWaited
      waits_at_end = by (turns_of a next.front) refl
        where
          by : (n : ℕ) → turns_of a next.front ≡ n → IsWaited
          by zero e = absurd (took_one e)
          by (suc n) e =
              let r = was_taken m next.front v next.here a 0 next.leads (omega (arith, e)) in
              let there_taken : IsTaken s (a, turns_of a (before ++ r.front)) =
              is_taken a r.front r.back r.here r.there r.e r.whole r.leads r.takes in (
                (a, turns_of a (before ++ r.front)),
                inl (inr (record {
                  before = second.before;
                  after = second.after;
                  here = second.here;
                  there = next.there;
                  closed = next.e;
                  whole = second.whole;
                  leads = second.leads;
                  turn = second.turn;
                  takes = next.takes;
                  closer = act;
                  found = still;
                  first = at_end.b;
                  closes = closes;
                  child = child.0;
                  known = child.1;
                  under = under_then;
                  taken = there_taken;
                })),
                there_taken,
                not_yet a r.front r.back r.here r.there r.e r.whole r.leads r.takes,
              )

    blocked : IsWaited
    blocked = by act.status refl
      where
        by : (st : Status) → act.status ≡ st → IsWaited
        by status.Running is = waits_at_end is
        by status.Arrived is = arrived is
        by status.Ended is = absurd (true≢false (sym (ap is_ended is) ∙ alive))

  pub waited : IsWaited
  waited = elim ((slice_get_cases v.activities y.0).1) [ inl here ↦ blocked here.0 here.2 | inr none ↦ unborn none.0 ]
