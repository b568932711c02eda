-- Tables of what may be carried out from each place on tell what others may do as long as nobody of a set moves.
use Rattle.std.proofs.Common.{◌≡◌, ℕ, suc, zero, ◌+◌, ◌<◌, ◌≤◌, ◌⊎◌, inl, inr, Bool, true, false, true≢false, cond, List, [], ◌∷◌, ◌++◌}
use Rattle.std.proofs.Common.{length, set, Option, Some, None, refl, sym, ap, ◌∙◌, subst, arith, length-set}
use Rattle.std.specs.Prelude.{slice_get, option_and_then}
use Rattle.std.specs.Option.{option_map_or}
use Rattle.std.proofs.lemmas.Option.{none-some, same_Some, slice_get_within}
use Rattle.xk_types.specs.declared.instr.Instr.{Instr}
use Rattle.xk_types.specs.declared.instr.Instr.TheVariants as instr
use Rattle.xk_types.specs.declared.world.Value.{Value}
use Rattle.xk_types.specs.declared.world.Value.TheVariants as value
use Rattle.xk_types.specs.declared.world.Status.{Status}
use Rattle.xk_types.specs.declared.world.Status.TheVariants as status
use Rattle.xk_types.specs.declared.world.Standing.{Standing}
use Rattle.xk_types.specs.declared.world.Standing.TheVariants as standing
use Rattle.xk_types.specs.declared.world.Event.{Event}
use Rattle.xk_types.specs.declared.world.Event.TheVariants as event
use Rattle.xk_types.specs.Acceptance.{IsAccepted}
use Rattle.xk_types.specs.Code.{ModuleValue, IsWithinLimits}
use Rattle.xk_types.specs.World.{Frame, Activity, Clock, World, standing_of, instruction_at, is_ended}
use Rattle.xk_types.specs.Step.{Outcome, Blocked, Wrong, Stepped, is_registered, onward, child, past, arrived, ended, entered, left, called}
use Rattle.xk_types.specs.Step.{back_in, with_slots, done, all, passed, moved, joined, new_clock, returning, carried_out, waits, step}
use Rattle.xk_types.specs.Schedule.{Through, run, IsReached, is_step}
use Rattle.xk_types.proofs.ListLemmas.{get-set_same, get-push_other, get_push, get-append_left}
use Rattle.xk_law_schedules.proofs.Invariant.{Each}
use Rattle.xk_law_schedules.proofs.ClockLemmas.StandingLemmas.{stand_same}
use Rattle.xk_law_schedules.proofs.ReachabilityLemmas.{same_through, first_step, reached_run, reached_sound, run_more}
use Rattle.xk_law_schedules.proofs.StepFormLemmas.{HoldsOfForms, starts_or_arrives, ends, step_form}
use Rattle.xk_law_commute.proofs.AwaitIndependenceLemmas.{same_or_not}
use Rattle.xk_law_commute.proofs.ChangeSquareLemmas.{same_step, found_of}
use Rattle.xk_law_commute.proofs.StartSquareLemmas.{alive_of}
use Rattle.xk_law_commute.specs.Conflicts.{next_instruction}
use Rattle.xk_law_traces.specs.Edges.{standing_on, phase_of}
use Rattle.xk_law_traces.proofs.InstructionEventLemmas.{shows, shown_at, stepped_at, stepped_by}
use Rattle.xk_law_traces.proofs.StageLemmas.{stage_by, stage_in, stage_at, moves_on, settled_in, joined_old}
use Rattle.xk_law_traces.proofs.StepEventLemmas.{others_stay}
use Rattle.xk_closed.specs.Closed.{AreOutside, IsStuck}
use Rattle.xk_closed.specs.Phases.{AreOthers, IsHeldUp}
use Rattle.xk_closed.specs.Futures.{IsFuture}
use Rattle.xk_closed.specs.Footprints.{Table, IsBehind, is_advance, IsRest, IsPhase, RestOf, MayDo, MayDoNow, IsBounded, AreCovered}
use Rattle.xk_closed.proofs.ClockStepLemmas.{leaves_clocks, AtClocks, Moves, Makes, Starts, at_clocks}
use Rattle.xk_closed.proofs.PhaseLaw.{stage_is, held_up}

-- ---- registrations

registered_more : (p : ℕ) (s : Standing) → is_registered s ≡ true → 0 < stage_by p s
registered_more p standing.Apart h = absurd (true≢false (sym h))
registered_more p standing.Open h = omega arith
registered_more p standing.Signalled h = omega arith
registered_more p standing.Ahead h = omega arith

more_registered : (p : ℕ) (s : Standing) → 0 < stage_by p s → is_registered s ≡ true
more_registered p standing.Apart h = absurd (omega (arith, h))
more_registered p standing.Open h = refl
more_registered p standing.Signalled h = refl
more_registered p standing.Ahead h = refl

moved_keeps : (a : ℕ) (f : ℕ → Standing → Standing) (cs : List Clock) (k : ℕ) → Each (λ j (c : Clock). a < length c.standings) cs
    → ((j : ℕ) (s : Standing) → is_registered s ≡ true → is_registered (f j s) ≡ true) → 0 < stage_in cs k a
    → 0 < stage_in (moved a f cs) k a
moved_keeps a f [] k inside keeps h = h
moved_keeps a f (c ∷ cs) zero inside keeps h =
    subst (λ s. 0 < stage_by c.phase s) (sym (stand_same a (f 0) c (inside 0 c refl)))
    (registered_more c.phase (f 0 (standing_of c a)) (keeps 0 (standing_of c a) (more_registered c.phase (standing_of c a) h)))
moved_keeps a f (c ∷ cs) (suc k) inside keeps h = moved_keeps a (λ j. f (suc j)) cs k (λ j x at. inside (suc j) x at) (λ j. keeps (suc j)) h

pushed_keeps : (cs : List Clock) (new : Clock) (k a : ℕ) → 0 < stage_in cs k a → 0 < stage_in (cs ++ new ∷ []) k a
pushed_keeps [] new k a h = absurd (omega (arith, h))
pushed_keeps (c ∷ cs) new zero a h = h
pushed_keeps (c ∷ cs) new (suc k) a h = pushed_keeps cs new k a h

module _ (m : ModuleValue) (limits : IsWithinLimits m) (ok : IsAccepted m) where
  -- who leaves no clock stays on it
  stays_on : (v u : World) (b k : ℕ) (e : Event) → IsReached m v → b < length v.activities → step m v b ≡ Stepped u e
      → leaves_clocks e ≡ false
      → 0 < stage_at v k b → 0 < stage_at u k b
  stays_on v u b k e here there takes stays h = by (at_clocks m v u b e takes)
    where
      inside : Each (λ j (c : Clock). b < length c.standings) v.clocks
      inside j c at = let n = ((reached_sound m limits ok v here).clocks j c at).width in omega (arith, n, there)

      by : AtClocks v u b e → 0 < stage_at u k b
      by (Moves change changes us) =
          subst (λ cs. 0 < stage_in cs k b) (sym us)
          (subst (λ n. 0 < n) (sym (settled_in (v.steps + 1) (moved b change v.clocks) k b))
          (moved_keeps b change v.clocks k inside (changes.stays stays) h))
      by (Makes quiet us) =
          subst (λ cs. 0 < stage_in cs k b) (sym us)
          (subst (λ n. 0 < n) (sym (settled_in (v.steps + 1) (v.clocks ++ new_clock (length v.activities) b ∷ []) k b))
          (pushed_keeps v.clocks (new_clock (length v.activities) b) k b h))
      by (Starts quiet given us) =
          subst (λ cs. 0 < stage_in cs k b) (sym us)
          (subst (λ n. 0 < n) (sym (settled_in (v.steps + 1) (joined b given v.clocks) k b ∙ joined_old b b given v.clocks k inside)) h)

-- who isn't there has a number beyond
pub none_far : {X : Type 0} (xs : List X) (k : ℕ) → slice_get xs k ≡ None → length xs ≤ k
none_far [] k h = omega arith
none_far (x ∷ xs) zero h = absurd (none-some x (sym h))
none_far (x ∷ xs) (suc k) h = let r = none_far xs k h in omega (arith, r)

-- ---- one step

module _ (m : ModuleValue) (rest phase : Table) (R : IsRest m rest) (P : IsPhase m rest phase) where
  -- what a step of activity b makes of what it may do
  pub record Goes (v : World) (b : ℕ) (act : Activity) (u : World) (e : Event) : Type 0 where
    pub next : Activity
    pub there : slice_get u.activities b ≡ Some next
    pub rests : (j : Instr) → MayDo rest next j → MayDo rest act j
    pub nows : (e ≡ event.Passed → ⊥) → (j : Instr) → MayDoNow rest phase next j → MayDoNow rest phase act j
    pub child : (y : ℕ) (c : Activity) → slice_get u.activities y ≡ Some c → length v.activities ≤ y → (j : Instr) → MayDo rest c j
        → MayDo rest act j × MayDoNow rest phase act j

  module _ (v : World) (b : ℕ) (act : Activity) (found : slice_get v.activities b ≡ Some act) where
    abbrev IsGoing : Outcome → Type 0
    IsGoing Blocked = Unit {0}
    IsGoing (Wrong c) = Unit {0}
    IsGoing (Stepped u e) = step m v b ≡ Stepped u e → Goes v b act u e

    -- nobody more is there
    nobody : (next : Activity) (y : ℕ) (c : Activity) → slice_get (set v.activities b next) y ≡ Some c → length v.activities ≤ y → ⊥
    nobody next y c at far =
        let n = slice_get_within (set v.activities b next) y c at in
        let l = length-set v.activities b next in omega (arith, n, l, far)

    -- on in its unit
    rest_on : (i : Instr) → instruction_at m act.frame ≡ Some i → (f : Frame) → f.unit ≡ act.frame.unit → IsBehind i act.frame.place f.place
        → (j : Instr) → (rest f.unit f.place j ≡ true) ⊎ RestOf rest act.callers j → MayDo rest act j
    rest_on i at f unit behind j (inl h) = inl (R.goes act.frame i j f.place at behind (subst (λ n. rest n f.place j ≡ true) unit h))
    rest_on i at f unit behind j (inr h) = inr h

    now_on : (i : Instr) → instruction_at m act.frame ≡ Some i → is_advance i ≡ false → (f : Frame) → f.unit ≡ act.frame.unit
        → IsBehind i act.frame.place f.place
        → (j : Instr) → (phase f.unit f.place j ≡ true) ⊎ RestOf rest act.callers j → MayDoNow rest phase act j
    now_on i at plain f unit behind j (inl h) = inl
        (P.goes act.frame i j f.place at plain behind (subst (λ n. phase n f.place j ≡ true) unit h))
    now_on i at plain f unit behind j (inr h) = inr h

    -- an instruction with an event that is no arrival isn't an `advance`
    no_advance : (i : Instr) (e : Event) (u : World) → act.status ≡ status.Running → instruction_at m act.frame ≡ Some i
        → step m v b ≡ Stepped u e
        → starts_or_arrives e ≡ false → is_advance i ≡ false
    no_advance i e u runs at takes quiet = by i e (shown_at m v u b act e found takes runs i at) quiet
      where
        by : (i : Instr) (e : Event) → shows e i ≡ true → starts_or_arrives e ≡ false → is_advance i ≡ false
        by instr.Advance event.Arrived h g = absurd (true≢false g)
        by instr.Advance event.Local h g = absurd (true≢false (sym h))
        by instr.Advance (event.Printed n) h g = absurd (true≢false (sym h))
        by instr.Advance event.Made h g = absurd (true≢false (sym h))
        by instr.Advance event.Got h g = absurd (true≢false (sym h))
        by instr.Advance event.Put h g = absurd (true≢false (sym h))
        by instr.Advance event.Added h g = absurd (true≢false (sym h))
        by instr.Advance event.Opened h g = absurd (true≢false (sym h))
        by instr.Advance event.Closed h g = absurd (true≢false (sym h))
        by instr.Advance event.Spawned h g = absurd (true≢false (sym h))
        by instr.Advance event.Resumed h g = absurd (true≢false (sym h))
        by instr.Advance event.Dropped h g = absurd (true≢false (sym h))
        by instr.Advance event.Passed h g = absurd (true≢false (sym h))
        by instr.Advance event.Ended h g = absurd (true≢false (sym h))
        by _ e h g = refl

    forms : HoldsOfForms IsGoing m v b act
    forms = record {
      goes = λ i n frame g change e changes takes. record {
        next = record act { frame = frame };
        there = get-set_same v.activities b act (record act { frame = frame }) found;
        rests = rest_on i n.here frame g.unit g.place;
        nows = λ p. now_on i n.here (no_advance i e _ n.runs n.here takes changes.quiet) frame g.unit g.place;
        child = λ y c at far. absurd (nobody (record act { frame = frame }) y c at far);
      };
      stored = λ i n plain s k e quiet takes. record {
        next = onward act;
        there = get-set_same v.activities b act (onward act) found;
        rests = rest_on i n.here (onward act).frame refl (inl refl);
        nows = λ p. now_on i n.here (no_advance i e _ n.runs n.here takes quiet) (onward act).frame refl (inl refl);
        child = λ y c at far. absurd (nobody (onward act) y c at far);
      };
      made = λ d old n at takes. record {
        next = onward (with_slots act (set act.frame.slots d (value.Clock (length v.clocks))));
        there = get-set_same v.activities b act (onward (with_slots act (set act.frame.slots d (value.Clock (length v.clocks))))) found;
        rests = rest_on (instr.Make d) n.here (onward act).frame refl (inl refl);
        nows = λ p. now_on (instr.Make d) n.here refl (onward act).frame refl (inl refl);
        child = λ y c at far. absurd (nobody (onward (with_slots act (set act.frame.slots d (value.Clock (length v.clocks))))) y c at far);
      };
      opened = λ k n takes. record {
        next = entered act;
        there = get-set_same v.activities b act (entered act) found;
        rests = rest_on (instr.Finish k) n.here (onward act).frame refl (inl refl);
        nows = λ p. now_on (instr.Finish k) n.here refl (onward act).frame refl (inl refl);
        child = λ y c at far. absurd (nobody (entered act) y c at far);
      };
      closed = λ k n' n some free takes. record {
        next = left act n';
        there = get-set_same v.activities b act (left act n') found;
        rests = rest_on (instr.EndFinish k) n.here (onward act).frame refl (inl refl);
        nows = λ p. now_on (instr.EndFinish k) n.here refl (onward act).frame refl (inl refl);
        child = λ y c at far. absurd (nobody (left act n') y c at far);
      };
      arrives = λ n takes. record {
        next = arrived act;
        there = get-set_same v.activities b act (arrived act) found;
        rests = λ j h. h;
        nows = λ p j h. h;
        child = λ y c at far. absurd (nobody (arrived act) y c at far);
      };
      passes = λ waiting takes. record {
        next = past act (v.steps + 1);
        there = get-set_same v.activities b act (past act (v.steps + 1)) found;
        rests = passed_on;
        nows = λ p. absurd (p refl);
        child = λ y c at far. absurd (nobody (past act (v.steps + 1)) y c at far);
      };
      calls = λ t args u values n at given takes. record {
        next = called m act t values;
        there = get-set_same v.activities b act (called m act t values) found;
        rests = call_rests t args n.here;
        nows = λ p. call_nows t args n.here;
        child = λ y c here far. absurd (nobody (called m act t values) y c here far);
      };
      returns = λ f fs n callers takes. record {
        next = back_in act f fs;
        there = get-set_same v.activities b act (back_in act f fs) found;
        rests = λ j h. inr (subst (λ l. RestOf rest l j) (sym callers) h);
        nows = λ p j h. inr (subst (λ l. RestOf rest l j) (sym callers) (back f fs j h));
        child = λ y c at far. absurd (nobody (back_in act f fs) y c at far);
      };
      over = λ n none' takes. record {
        next = ended act;
        there = get-set_same v.activities b act (ended act) found;
        rests = λ j h. h;
        nows = λ p j h. h;
        child = λ y c at far. absurd (nobody (ended act) y c at far);
      };
      spawned = λ t args u values n at given takes. record {
        next = onward act;
        there = get-append_left (set v.activities b (onward act)) (child m b act t values ∷ []) b (onward act)
            (get-set_same v.activities b act (onward act) found);
        rests = rest_on (instr.Spawn t args) n.here (onward act).frame refl (inl refl);
        nows = λ p. now_on (instr.Spawn t args) n.here refl (onward act).frame refl (inl refl);
        child = λ y c here far. started t args values n.here y c here far;
      };
    }
      where
        passed_on : (j : Instr) → MayDo rest (past act (v.steps + 1)) j → MayDo rest act j
        passed_on j (inl h) = inl (R.on act.frame.unit act.frame.place j h)
        passed_on j (inr h) = inr h

        call_rests : (t : ℕ) (args : List ℕ) → instruction_at m act.frame ≡ Some (instr.Call t args) → (j : Instr)
            → (rest t 0 j ≡ true) ⊎ ((rest act.frame.unit (act.frame.place + 1) j ≡ true) ⊎ RestOf rest act.callers j) → MayDo rest act j
        call_rests t args at j (inl h) = inl (R.calls act.frame t args j at h)
        call_rests t args at j (inr (inl h)) = inl (R.on act.frame.unit act.frame.place j h)
        call_rests t args at j (inr (inr h)) = inr h

        call_nows : (t : ℕ) (args : List ℕ) → instruction_at m act.frame ≡ Some (instr.Call t args) → (j : Instr)
            → (phase t 0 j ≡ true) ⊎ ((rest act.frame.unit (act.frame.place + 1) j ≡ true) ⊎ RestOf rest act.callers j)
            → MayDoNow rest phase act j
        call_nows t args at j (inl h) = inl (P.calls act.frame t args j at h)
        call_nows t args at j (inr (inl h)) = inl (P.behind act.frame t args j at h)
        call_nows t args at j (inr (inr h)) = inr h

        back : (f : Frame) (fs : List Frame) (j : Instr) → (phase f.unit (f.place + 1) j ≡ true) ⊎ RestOf rest fs j → RestOf rest (f ∷ fs) j
        back f fs j (inl h) = inl (P.within f.unit (f.place + 1) j h)
        back f fs j (inr h) = inr h

        started : (t : ℕ) (args : List ℕ) (values : List Value) → instruction_at m act.frame ≡ Some (instr.Spawn t args)
            → (y : ℕ) (c : Activity)
            → slice_get (set v.activities b (onward act) ++ child m b act t values ∷ []) y ≡ Some c → length v.activities ≤ y → (j : Instr)
            → MayDo rest c j
            → MayDo rest act j × MayDoNow rest phase act j
        started t args values at y c here far j does =
            by (same_or_not y (length (set v.activities b (onward act))))
          where
            is_new : y ≡ length (set v.activities b (onward act)) → child m b act t values ≡ c
            is_new same = same_Some (child m b act t values) c
                (sym (get_push (set v.activities b (onward act)) (child m b act t values))
                ∙ ap (λ n. slice_get (set v.activities b (onward act) ++ child m b act t values ∷ []) n) (sym same) ∙ here)

            new : (rest t 0 j ≡ true) ⊎ ⊥ → MayDo rest act j × MayDoNow rest phase act j
            new (inl h) = (inl (R.starts act.frame t args j at h), inl (P.starts act.frame t args j at h))
            new (inr h) = absurd h

            by : (y ≡ length (set v.activities b (onward act))) ⊎ (y ≡ length (set v.activities b (onward act)) → ⊥)
                → MayDo rest act j × MayDoNow rest phase act j
            by (inl same) = new (subst (λ z. MayDo rest z j) (sym (is_new same)) does)
            by (inr differs) = absurd (nobody (onward act) y c
                (sym (get-push_other (set v.activities b (onward act)) (child m b act t values) y differs) ∙ here) far)

    pub goes_by : (u : World) (e : Event) → step m v b ≡ Stepped u e → Goes v b act u e
    goes_by u e takes =
        subst IsGoing takes
        (step_form IsGoing m v b tt (λ c. tt) (λ z at. subst (HoldsOfForms IsGoing m v b) (same_Some act z (sym found ∙ at)) forms)) takes

-- ---- runs

module _ (m : ModuleValue) (limits : IsWithinLimits m) (ok : IsAccepted m) (rest phase : Table) (R : IsRest m rest)
    (P : IsPhase m rest phase)
    (w : World) (here : IsReached m w) (set' : ℕ → Bool) (future : Instr → Bool) where
  -- held up, and not gone from the clock
  record Bounds (v : World) (y : ℕ) (act : Activity) : Type 0 where
    clock : ℕ
    holder : ℕ
    inside : set' holder ≡ true
    held : IsHeldUp w clock y holder
    does : (j : Instr) → MayDoNow rest phase act j → future j ≡ true
    stays : (k : ℕ) → MayDoNow rest phase act (instr.Drop k) → ⊥
    alive : (is_ended act.status ≡ true) ⊎ (0 < stage_at v clock y)

  abbrev IsGood : World → ℕ → Activity → Type 0
  IsGood v y act = ((j : Instr) → MayDo rest act j → future j ≡ true) ⊎ (Bounds v y act ⊎ IsStuck m w set' y)

  abbrev AreGood : World → Type 0
  AreGood v = (y : ℕ) (act : Activity) → slice_get v.activities y ≡ Some act → set' y ≡ false → IsGood v y act

  good_first : AreCovered m w set' rest phase future → AreGood w
  good_first covered y act at outside = by (covered y act at outside)
    where
      waits : (k : ℕ) → (standing_on w y k ≡ standing.Open) ⊎ (standing_on w y k ≡ standing.Signalled) → 0 < stage_at w k y
      waits k (inl h) = subst (λ n. 0 < n) (sym (stage_is w k y ∙ ap (stage_by (phase_of w k)) h)) (omega arith)
      waits k (inr h) = subst (λ n. 0 < n) (sym (stage_is w k y ∙ ap (stage_by (phase_of w k)) h)) (omega arith)

      by : ((j : Instr) → MayDo rest act j → future j ≡ true) ⊎ (IsBounded w set' rest phase future y act ⊎ IsStuck m w set' y)
          → IsGood w y act
      by (inl h) = inl h
      by (inr (inl h)) = inr (inl (record {
        clock = h.clock;
        holder = h.holder;
        inside = h.inside;
        held = h.held;
        does = h.does;
        stays = h.stays;
        alive = inr (waits h.clock h.held.waiter);
      }))
      by (inr (inr h)) = inr (inr h)

  others_of : (d : ℕ) → set' d ≡ true → (list : List ℕ) → AreOutside set' list → AreOthers d list
  others_of d inside [] outside = tt
  others_of d inside (a ∷ list) outside =
      (λ same. true≢false (sym inside ∙ ap set' same ∙ outside.0), others_of d inside list outside.1)

  module _ (list : List ℕ) (v u : World) (b : ℕ) (e : Event) (legal : run m list w ≡ Through v) (outside : AreOutside set' list)
      (other : set' b ≡ false) (takes : step m v b ≡ Stepped u e) (good : AreGood v) where
    there : IsReached m v
    there = reached_run m list w v here legal

    x : (act : Activity) × (slice_get v.activities b ≡ Some act)
    x = found_of m v b u e takes

    lives : is_ended x.0.status ≡ false
    lives = alive_of m v b x.0 u e x.1 takes

    moves : Goes m rest phase R P v b x.0 u e
    moves = goes_by m rest phase R P v b x.0 x.1 u e takes

    -- who is held up doesn't pass
    no_pass : Bounds v b x.0 → e ≡ event.Passed → ⊥
    no_pass B is =
        let h = held_up m limits ok w v B.clock b B.holder list here B.held (others_of B.holder B.inside list outside) legal in
        let apart : standing_on v b B.clock ≡ standing.Apart = h.1 u (takes ∙ ap (λ f. Stepped u f) is) in
        let gone : stage_at v B.clock b ≡ 0 = stage_is v B.clock b ∙ ap (stage_by (phase_of v B.clock)) apart in
        never gone B.alive
      where
        never : stage_at v B.clock b ≡ 0 → (is_ended x.0.status ≡ true) ⊎ (0 < stage_at v B.clock b) → ⊥
        never gone (inl h) = true≢false (sym h ∙ lives)
        never gone (inr h) = omega (arith, gone, h)

    -- nor does it leave the clock but by its end
    alive_on : (B : Bounds v b x.0) → (is_ended moves.next.status ≡ true) ⊎ (0 < stage_at u B.clock b)
    alive_on B = by (ends e) refl (leaves_clocks e) refl
      where
        stage : (is_ended x.0.status ≡ true) ⊎ (0 < stage_at v B.clock b) → 0 < stage_at v B.clock b
        stage (inl h) = absurd (true≢false (sym h ∙ lives))
        stage (inr h) = h

        dropped_only : (f : Event) → ends f ≡ false → leaves_clocks f ≡ true → f ≡ event.Dropped
        dropped_only event.Dropped g h = refl
        dropped_only event.Ended g h = absurd (true≢false g)
        dropped_only _ g h = absurd (true≢false (sym h))

        drop_of : (i : Instr) → shows event.Dropped i ≡ true → (k : ℕ) × (i ≡ instr.Drop k)
        drop_of (instr.Drop k) h = (k, refl)
        drop_of _ h = absurd (true≢false (sym h))

        passes_only : (q : Bool) → cond q Blocked (done v b (past x.0 (v.steps + 1)) (all passed) event.Passed) ≡ Stepped u e
            → event.Passed ≡ e
        passes_only true g = absurd (true≢false (sym (ap is_step g)))
        passes_only false g = (same_step _ u event.Passed e g).1

        no_drop : e ≡ event.Dropped → ⊥
        no_drop is = of x.0.status refl
          where
            of : (st : Status) → x.0.status ≡ st → ⊥
            of status.Running runs =
                let i = stepped_at m v u b x.0 e x.1 takes runs in
                let d = drop_of i.0 (subst (λ f. shows f i.0 ≡ true) is (shown_at m v u b x.0 e x.1 takes runs i.0 i.1)) in
                B.stays d.0 (inl (P.own x.0.frame (instr.Drop d.0) (i.1 ∙ ap (λ z. Some z) d.1)))
            of status.Arrived waiting =
                true≢false
                (sym (ap leaves_clocks (passes_only (waits v b) (stepped_by m v u b x.0 e x.1 takes status.Arrived waiting) ∙ is)))
            of status.Ended over = true≢false (ap is_ended (sym over) ∙ lives)

        ret_of : (i : Instr) (f : Event) → shows f i ≡ true → ends f ≡ true → i ≡ instr.Ret
        ret_of instr.Ret event.Ended h g = refl
        ret_of _ event.Ended h g = absurd (true≢false (sym h))
        ret_of i _ h g = absurd (true≢false (sym g))

        is_over : ends e ≡ true → is_ended moves.next.status ≡ true
        is_over h = of x.0.status refl
          where
            back : (fs : List Frame) → returning v b x.0 fs ≡ Stepped u e → is_ended moves.next.status ≡ true
            back [] g =
                let same = (same_step _ u event.Ended e g).0 in
                ap (λ (z : Activity). is_ended z.status)
                (sym (same_Some (ended x.0) moves.next
                (sym (get-set_same v.activities b x.0 (ended x.0) x.1) ∙ ap (λ (z : World). slice_get z.activities b) same ∙ moves.there)))
            back (f ∷ fs) g = absurd (true≢false (sym h ∙ ap ends (sym (same_step _ u event.Local e g).1)))

            of : (st : Status) → x.0.status ≡ st → is_ended moves.next.status ≡ true
            of status.Running runs =
                let i = stepped_at m v u b x.0 e x.1 takes runs in
                let ret : i.0 ≡ instr.Ret = ret_of i.0 e (shown_at m v u b x.0 e x.1 takes runs i.0 i.1) h in
                back x.0.callers (ap (carried_out m v b x.0) (sym ret) ∙ i.2)
            of status.Arrived waiting =
                absurd
                (true≢false (sym h ∙ ap ends (sym (passes_only (waits v b) (stepped_by m v u b x.0 e x.1 takes status.Arrived waiting)))))
            of status.Ended over = absurd (true≢false (ap is_ended (sym over) ∙ lives))

        by : (p : Bool) → ends e ≡ p → (q : Bool) → leaves_clocks e ≡ q → (is_ended moves.next.status ≡ true) ⊎ (0 < stage_at u B.clock b)
        by true g q h = inl (is_over g)
        by false g false h = inr
            (stays_on m limits ok v u b B.clock e there (slice_get_within v.activities b x.0 x.1) takes h (stage B.alive))
        by false g true h = absurd (no_drop (dropped_only e g h))

    -- who takes the step
    good_own : (next : Activity) → slice_get u.activities b ≡ Some next → IsGood u b next
    good_own next at = subst (IsGood u b) (same_Some moves.next next (sym moves.there ∙ at)) (by (good b x.0 x.1 other))
      where
        by : IsGood v b x.0 → IsGood u b moves.next
        by (inl all') = inl (λ j d. all' j (moves.rests j d))
        by (inr (inl B)) = inr (inl (record {
          clock = B.clock;
          holder = B.holder;
          inside = B.inside;
          held = B.held;
          does = λ j d. B.does j (moves.nows (no_pass B) j d);
          stays = λ k d. B.stays k (moves.nows (no_pass B) (instr.Drop k) d);
          alive = alive_on B;
        }))
        by (inr (inr stuck)) = absurd (stuck list v u e outside legal takes)

    -- all others that were there
    good_other : (y : ℕ) (act old : Activity) → (y ≡ b → ⊥) → slice_get v.activities y ≡ Some old → slice_get u.activities y ≡ Some act
        → set' y ≡ false → IsGood u y act
    good_other y act old differs was at outer =
        subst (IsGood u y) (same_Some old act (sym (others_stay m v u b y e old takes differs was) ∙ at)) (by (good y old was outer))
      where
        same : (k : ℕ) → stage_at u k y ≡ stage_at v k y
        same k = (moves_on m limits ok v u b e there takes).others k y (slice_get_within v.activities y old was) differs

        on : (k : ℕ) → (is_ended old.status ≡ true) ⊎ (0 < stage_at v k y) → (is_ended old.status ≡ true) ⊎ (0 < stage_at u k y)
        on k (inl h) = inl h
        on k (inr h) = inr (subst (λ n. 0 < n) (sym (same k)) h)

        by : IsGood v y old → IsGood u y old
        by (inl all') = inl all'
        by (inr (inl B)) = inr (inl (record {
          clock = B.clock;
          holder = B.holder;
          inside = B.inside;
          held = B.held;
          does = B.does;
          stays = B.stays;
          alive = on B.clock B.alive;
        }))
        by (inr (inr stuck)) = inr (inr stuck)

    -- and who is new
    good_new : (y : ℕ) (act : Activity) → length v.activities ≤ y → slice_get u.activities y ≡ Some act → IsGood u y act
    good_new y act far at = by (good b x.0 x.1 other)
      where
        by : IsGood v b x.0 → IsGood u y act
        by (inl all') = inl (λ j d. all' j (moves.child y act at far j d).0)
        by (inr (inl B)) = inl (λ j d. B.does j (moves.child y act at far j d).1)
        by (inr (inr stuck)) = absurd (stuck list v u e outside legal takes)

    good_on : AreGood u
    good_on y act at outer = by (same_or_not y b) (slice_get v.activities y) refl
      where
        by : (y ≡ b) ⊎ (y ≡ b → ⊥) → (o : Option Activity) → slice_get v.activities y ≡ o → IsGood u y act
        by (inl same) o was =
            subst (λ z. IsGood u z act) (sym same) (good_own act (ap (λ z. slice_get u.activities z) (sym same) ∙ at))
        by (inr differs) (Some old) was = good_other y act old differs was at outer
        by (inr differs) None was = good_new y act (none_far v.activities y was) at

  outside_more : (before : List ℕ) (b : ℕ) → AreOutside set' before → set' b ≡ false → AreOutside set' (before ++ b ∷ [])
  outside_more [] b outside other = (other, tt)
  outside_more (a ∷ before) b outside other = (outside.0, outside_more before b outside.1 other)

  good_along : (list before : List ℕ) (v u : World) → run m before w ≡ Through v → AreOutside set' before → AreOutside set' list
      → run m list v ≡ Through u
      → AreGood v → AreGood u
  good_along [] before v u led out outside legal good = subst AreGood (same_through v u legal) good
  good_along (b ∷ list) before v u led out outside legal good =
      let f = first_step v u (step m v b) (run m list) legal in
      good_along list (before ++ b ∷ []) f.0 u (run_more m before w v f.0 b f.1 led f.2) (outside_more before b out outside.0) outside.1 f.3
      (good_on before v f.0 b f.1 led out outside.0 f.2 good)

  pub footprints : AreCovered m w set' rest phase future → IsFuture m w set' future
  footprints covered list v x b e outside legal other takes =
      let y = found_of m v b x e takes in
      let good : AreGood v = good_along list [] w v refl tt outside legal (good_first covered) in
      by y.0 y.1 (good b y.0 y.1 other) (instruction_at m y.0.frame) refl
    where
      by : (act : Activity) → slice_get v.activities b ≡ Some act → IsGood v b act → (o : Option Instr) → instruction_at m act.frame ≡ o
          → option_map_or future (next_instruction m v b) true ≡ true
      by act at good None is = ap (λ p. option_map_or future p true)
          (ap (option_and_then (λ (z : Activity). instruction_at m z.frame)) at ∙ is)
      by act at good (Some i) is =
          ap (λ p. option_map_or future p true) (ap (option_and_then (λ (z : Activity). instruction_at m z.frame)) at ∙ is) ∙ pass good
        where
          pass : IsGood v b act → future i ≡ true
          pass (inl all') = all' i (inl (R.own act.frame i is))
          pass (inr (inl B)) = B.does i (inl (P.own act.frame i is))
          pass (inr (inr stuck)) = absurd (stuck list v x e outside legal takes)
