-- As long as somebody who holds a clock up takes no step, nobody passes an `advance` who is registered on that clock and isn't ahead on it,
-- unless it has left the clock. For its stage there is beyond that of the holder, which stays, and so does the phase.
use Rattle.std.proofs.Common.{◌≡◌, ℕ, suc, ◌+◌, ◌<◌, ◌≤◌, ◌⊎◌, inl, inr, Bool, true, false, true≢false, cond, List, [], ◌∷◌, length, Option}
use Rattle.std.proofs.Common.{Some, None, refl, sym, ap, ◌∙◌, subst, arith}
use Rattle.std.specs.Prelude.{slice_get}
use Rattle.std.specs.Option.{option_map_or}
use Rattle.xk_types.specs.declared.world.Status.{Status}
use Rattle.xk_types.specs.declared.world.Status.TheVariants as status
use Rattle.xk_types.specs.declared.world.Standing.{Standing}
use Rattle.xk_types.specs.declared.world.Standing.TheVariants as standing
use Rattle.xk_types.specs.declared.world.Event.{Event}
use Rattle.xk_types.specs.declared.world.Event.TheVariants as event
use Rattle.xk_types.specs.Acceptance.{IsAccepted}
use Rattle.xk_types.specs.Code.{ModuleValue, IsWithinLimits}
use Rattle.xk_types.specs.World.{Activity, Clock, World, standing_of}
use Rattle.xk_types.specs.Step.{Blocked, Stepped, is_pending, waits, past, passed, all, done, step}
use Rattle.xk_types.specs.Schedule.{Through, run, IsReached, is_step}
use Rattle.xk_law_schedules.proofs.Invariant.{Stands}
use Rattle.xk_law_schedules.proofs.ReachabilityLemmas.{same_through, first_step, reached_step, reached_run, reached_sound}
use Rattle.xk_law_commute.proofs.AwaitIndependenceLemmas.{same_or_not}
use Rattle.xk_law_commute.proofs.ChangeSquareLemmas.{same_step, found_of}
use Rattle.xk_law_names.proofs.ActivityNameRunLaw as activities
use Rattle.xk_law_traces.specs.Edges.{standing_on, phase_of}
use Rattle.xk_law_traces.proofs.InstructionEventLemmas.{passes_arrived, arrived_free, stepped_by}
use Rattle.xk_law_traces.proofs.StepEventLemmas.{others_stay}
use Rattle.std.proofs.lemmas.Option.{slice_get_within}
use Rattle.xk_closed.specs.Closed.{AreOutside, IsStuck}
use Rattle.xk_law_traces.proofs.StageLemmas.{GoesFrom, stage_by, stage_in, stage_at, moves_on, registered_stage, unsignalled_stage}
use Rattle.xk_closed.specs.Phases.{AreOthers, IsHeldUp}

-- ---- stages

pub stage_is : (w : World) (k a : ℕ) → stage_at w k a ≡ stage_by (phase_of w k) (standing_on w a k)
stage_is w k a = by (slice_get w.clocks k)
  where
    by : (o : Option Clock) → option_map_or (λ (c : Clock). stage_by c.phase (standing_of c a)) o 0
        ≡ stage_by (option_map_or (λ (c : Clock). c.phase) o 0) (option_map_or (λ (c : Clock). standing_of c a) o standing.Apart)
    by None = refl
    by (Some c) = refl

pending_between : (p : ℕ) (s : Standing) → is_pending s ≡ true → (suc (p + p) ≤ stage_by p s) × (stage_by p s ≤ suc (suc (p + p)))
pending_between p standing.Apart h = absurd (true≢false (sym h))
pending_between p standing.Open h = (omega arith, omega arith)
pending_between p standing.Signalled h = absurd (true≢false (sym h))
pending_between p standing.Ahead h = (omega arith, omega arith)

-- not on the clock, or beyond whoever is ahead in this phase
abbrev IsLate : ℕ → ℕ → Type 0
IsLate p s = (s ≡ 0) ⊎ (suc (suc (p + p)) ≤ s)

late_of : (p : ℕ) (s : Standing) → (s ≡ standing.Open) ⊎ (s ≡ standing.Signalled) → IsLate p (stage_by p s)
late_of p s (inl h) = inr (let e = ap (stage_by p) h in omega (arith, e))
late_of p s (inr h) = inr (let e = ap (stage_by p) h in omega (arith, e))

late_on : (p s t : ℕ) → (0 < t → suc (p + p) ≤ t) → IsLate p s → GoesFrom s t → IsLate p t
late_on p s t some h (inl g) = inl g
late_on p s t some h (inr (inl g)) = inr (let r = some (omega (arith, g.1)) in omega (arith, g.1, r))
late_on p s t some (inl h) (inr (inr g)) = absurd (omega (arith, h, g.0))
late_on p s t some (inr h) (inr (inr g)) = inr (omega (arith, h, g.1))

-- in phase p the clock is held up
record Holds (p k b d : ℕ) (w : World) : Type 0 where
  phase : phase_of w k ≡ p
  low : suc (p + p) ≤ stage_at w k d
  high : stage_at w k d ≤ suc (suc (p + p))
  late : IsLate p (stage_at w k b)
  first : b < length w.activities
  second : d < length w.activities

holds_first : (w : World) (k b d : ℕ) → IsHeldUp w k b d → Holds (phase_of w k) k b d w
holds_first w k b d h =
    let r = pending_between (phase_of w k) (standing_on w d k) h.holder in
    let e : stage_at w k d ≡ stage_by (phase_of w k) (standing_on w d k) = stage_is w k d in
    record {
      phase = refl;
      low = subst (λ n. suc (phase_of w k + phase_of w k) ≤ n) (sym e) r.0;
      high = subst (λ n. n ≤ suc (suc (phase_of w k + phase_of w k))) (sym e) r.1;
      late = subst (IsLate (phase_of w k)) (sym (stage_is w k b)) (late_of (phase_of w k) (standing_on w b k) h.waiter);
      first = h.first;
      second = h.second;
    }

module _ (m : ModuleValue) (limits : IsWithinLimits m) (ok : IsAccepted m) (p k b d : ℕ) where
  holds_on : (w u : World) (a : ℕ) (e : Event) → IsReached m w → (d ≡ a → ⊥) → step m w a ≡ Stepped u e → Holds p k b d w → Holds p k b d u
  holds_on w u a e here other takes h =
      let moves = moves_on m limits ok w u a e here takes in
      let wide : length w.activities ≤ length u.activities =
      (subst (activities.Keeps (length w.activities)) takes (activities.step_keeps w a (activities.reached_full m w limits ok here) m)).0 in
      let same : stage_at u k d ≡ stage_at w k d = moves.others k d h.second other in
      let rise : phase_of w k ≤ phase_of u k = moves.phases k in
      let low : suc (p + p) ≤ stage_at u k d = subst (λ n. suc (p + p) ≤ n) (sym same) h.low in
      let high : stage_at u k d ≤ suc (suc (p + p)) = subst (λ n. n ≤ suc (suc (p + p))) (sym same) h.high in
      let some : suc (phase_of u k + phase_of u k) ≤ stage_at u k d = registered_stage u.clocks k d (omega (arith, low)) in
      let phase : phase_of u k ≡ p = (let q = h.phase in omega (arith, some, high, rise, q)) in
      let later : (0 < stage_at u k b → suc (p + p) ≤ stage_at u k b) =
      (λ g. subst (λ n. suc (n + n) ≤ stage_at u k b) phase (registered_stage u.clocks k b g)) in
      record {
        phase = phase;
        low = low;
        high = high;
        late = by later (same_or_not b a) moves.own moves.others;
        first = omega (arith, wide, h.first);
        second = omega (arith, wide, h.second);
      }
    where
      by : (0 < stage_at u k b → suc (p + p) ≤ stage_at u k b) → (b ≡ a) ⊎ (b ≡ a → ⊥)
          → ((j : ℕ) → GoesFrom (stage_at w j a) (stage_at u j a))
          → ((j c : ℕ) → c < length w.activities → (c ≡ a → ⊥) → stage_at u j c ≡ stage_at w j c) → IsLate p (stage_at u k b)
      by later (inl q) own others =
          late_on p (stage_at w k b) (stage_at u k b) later h.late (subst (λ c. GoesFrom (stage_at w k c) (stage_at u k c)) (sym q) (own k))
      by later (inr q) own others = subst (IsLate p) (sym (others k b h.first q)) h.late

  holds_along : (list : List ℕ) (w v : World) → IsReached m w → AreOthers d list → run m list w ≡ Through v → Holds p k b d w
      → Holds p k b d v
  holds_along [] w v here others legal h = subst (Holds p k b d) (same_through w v legal) h
  holds_along (a ∷ list) w v here others legal h =
      let f = first_step w v (step m w a) (run m list) legal in
      holds_along list f.0 v (reached_step m w f.0 a f.1 here f.2) others.1 f.3 (holds_on w f.0 a f.1 here others.0 f.2 h)

  -- ---- who passes

  abbrev is_running : Status → Bool
  is_running status.Running = true
  is_running _ = false

  passes_apart : (v u : World) → IsReached m v → Holds p k b d v → step m v b ≡ Stepped u event.Passed → standing_on v b k ≡ standing.Apart
  passes_apart v u here h takes = by (slice_get v.clocks k) refl
    where
      x : (act : Activity) × (slice_get v.activities b ≡ Some act)
      x = found_of m v b u event.Passed takes

      arrived : x.0.status ≡ status.Arrived
      arrived = passes_arrived m v u b x.0 takes x.1

      free : waits v b ≡ false
      free = arrived_free m v b x.0 x.1 arrived (ap is_step takes)

      stood : (c : Clock) → slice_get v.clocks k ≡ Some c → (s : Standing) → standing_of c b ≡ s → standing_of c b ≡ standing.Apart
      stood c at standing.Apart g = g
      stood c at standing.Open g =
          let t = subst (Stands x.0.status x.0.since c.last) g (((reached_sound m limits ok v here).clocks k c at).stands b x.0 x.1) in
          absurd (true≢false (ap is_running (sym t.0 ∙ arrived)))
      stood c at standing.Signalled g =
          let least = unsignalled_stage v.clocks k b free in
          let stage : stage_in v.clocks k b ≡ suc (suc (suc (c.phase + c.phase))) =
          ap (λ o. option_map_or (λ (z : Clock). stage_by z.phase (standing_of z b)) o 0) at ∙ ap (stage_by c.phase) g in
          let phase : option_map_or (λ (z : Clock). z.phase) (slice_get v.clocks k) 0 ≡ c.phase =
          ap (λ o. option_map_or (λ (z : Clock). z.phase) o 0) at in
          absurd (omega (arith, least, stage, phase))
      stood c at standing.Ahead g =
          let stage : stage_at v k b ≡ suc (c.phase + c.phase) =
          ap (λ o. option_map_or (λ (z : Clock). stage_by z.phase (standing_of z b)) o 0) at ∙ ap (stage_by c.phase) g in
          let phase : p ≡ c.phase = sym h.phase ∙ ap (λ o. option_map_or (λ (z : Clock). z.phase) o 0) at in
          absurd (never stage phase h.late)
        where
          never : stage_at v k b ≡ suc (c.phase + c.phase) → p ≡ c.phase → IsLate p (stage_at v k b) → ⊥
          never e q (inl r) = omega (arith, e, r)
          never e q (inr r) = omega (arith, e, q, r)

      by : (o : Option Clock) → slice_get v.clocks k ≡ o → standing_on v b k ≡ standing.Apart
      by None at = ap (λ q. option_map_or (λ (z : Clock). standing_of z b) q standing.Apart) at
      by (Some c) at = ap (λ q. option_map_or (λ (z : Clock). standing_of z b) q standing.Apart) at ∙ stood c at (standing_of c b) refl

pub held_up : (m : ModuleValue) → IsWithinLimits m → IsAccepted m → (w v : World) (c b d : ℕ) (list : List ℕ) → IsReached m w
    → IsHeldUp w c b d
    → AreOthers d list → run m list w ≡ Through v
    → (phase_of v c ≡ phase_of w c) × ((u : World) → step m v b ≡ Stepped u event.Passed → standing_on v b c ≡ standing.Apart)
held_up m limits ok w v c b d list here h others legal =
    let g = holds_along m limits ok (phase_of w c) c b d list w v here others legal (holds_first w c b d h) in (
      g.phase,
      λ u takes. passes_apart m limits ok (phase_of w c) c b d v u (reached_run m list w v here legal) g takes,
    )

-- ---- who waits for the clock

module _ (m : ModuleValue) (limits : IsWithinLimits m) (ok : IsAccepted m) (p k b d : ℕ) (set : ℕ → Bool) (inside : set d ≡ true)
    (act : Activity)
    (waits' : act.status ≡ status.Arrived) where
  record Waiting (v : World) : Type 0 where
    here : IsReached m v
    holds : Holds p k b d v
    stage : 0 < stage_at v k b
    waiter : slice_get v.activities b ≡ Some act

  passes_only : (v u : World) (e : Event) (q : Bool)
      → cond q Blocked (done v b (past act (v.steps + 1)) (all passed) event.Passed) ≡ Stepped u e → event.Passed ≡ e
  passes_only v u e true g = absurd (true≢false (sym (ap is_step g)))
  passes_only v u e false g = (same_step _ u event.Passed e g).1

  no_step : (v u : World) (e : Event) → Waiting v → step m v b ≡ Stepped u e → ⊥
  no_step v u e h takes =
      let is : event.Passed ≡ e = passes_only v u e (waits v b) (stepped_by m v u b act e h.waiter takes status.Arrived waits') in
      let apart : standing_on v b k ≡ standing.Apart =
      passes_apart m limits ok p k b d v u h.here h.holds (takes ∙ ap (λ f. Stepped u f) (sym is)) in
      let gone : stage_at v k b ≡ 0 = stage_is v k b ∙ ap (stage_by (phase_of v k)) apart in
      let more = h.stage in omega (arith, gone, more)

  waiting_on : (v u : World) (a : ℕ) (e : Event) → set a ≡ false → step m v a ≡ Stepped u e → Waiting v → Waiting u
  waiting_on v u a e outer takes h = by (same_or_not b a)
    where
      by : (b ≡ a) ⊎ (b ≡ a → ⊥) → Waiting u
      by (inl same) = absurd (no_step v u e h (ap (step m v) same ∙ takes))
      by (inr differs) = record {
        here = reached_step m v u a e h.here takes;
        holds = holds_on m limits ok p k b d v u a e h.here (λ same. true≢false (sym inside ∙ ap set same ∙ outer)) takes h.holds;
        stage = subst (λ n. 0 < n)
            (sym ((moves_on m limits ok v u a e h.here takes).others k b (slice_get_within v.activities b act h.waiter) differs)) h.stage;
        waiter = others_stay m v u a b e act takes differs h.waiter;
      }

  waiting_along : (list : List ℕ) (w v x : World) (e : Event) → AreOutside set list → run m list w ≡ Through v → Waiting w
      → step m v b ≡ Stepped x e → ⊥
  waiting_along [] w v x e outside legal h takes = no_step w x e h (ap (λ u. step m u b) (same_through w v legal) ∙ takes)
  waiting_along (a ∷ list) w v x e outside legal h takes =
      let f = first_step w v (step m w a) (run m list) legal in
      waiting_along list f.0 v x e outside.1 f.3 (waiting_on w f.0 a f.1 outside.0 f.2 h) takes

waits_more : (p : ℕ) (s : Standing) → (s ≡ standing.Open) ⊎ (s ≡ standing.Signalled) → 0 < stage_by p s
waits_more p s (inl h) = let e = ap (stage_by p) h in omega (arith, e)
waits_more p s (inr h) = let e = ap (stage_by p) h in omega (arith, e)

pub clock_stuck : (m : ModuleValue) → IsWithinLimits m → IsAccepted m → (w : World) (set : ℕ → Bool) (c r d : ℕ) (act : Activity)
    → IsReached m w → set d ≡ true
    → IsHeldUp w c r d → slice_get w.activities r ≡ Some act → act.status ≡ status.Arrived → IsStuck m w set r
clock_stuck m limits ok w set c r d act here inside h at arrived list v x e outside legal takes =
    waiting_along m limits ok (phase_of w c) c r d set inside act arrived list w v x e outside legal (record {
      here = here;
      holds = holds_first w c r d h;
      stage = subst (λ n. 0 < n) (sym (stage_is w c r)) (waits_more (phase_of w c) (standing_on w r c) h.waiter);
      waiter = at;
    }) takes
