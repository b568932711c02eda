-- What a core tells of local steps that are still to come, and what it is after some of them.
use Rattle.std.proofs.Common.{◌≡◌, ◌⊎◌, inl, inr, ℕ, ◌+◌, ◌<◌, Bool, true, false, not, cond, List, length, filter, refl, sym, ap, subst, ◌∙◌, Option, Some, None, slice_get, arith}
use Rattle.std.specs.Option.{option_map_or}
use Rattle.std.proofs.lemmas.Bool.{false≢true}
use Rattle.std.proofs.lemmas.Option.{none-some, get_or_from_slice_get}
use Rattle.xk_types.specs.declared.world.Event.{Event}
use Rattle.xk_types.specs.declared.world.Status.{Status}
use Rattle.xk_types.specs.declared.world.Status.TheVariants as status
use Rattle.xk_types.specs.declared.world.Event.TheVariants as event
use Rattle.xk_types.specs.Code.{ModuleValue, IsWithinLimits}
use Rattle.xk_types.specs.World.{Activity, World}
use Rattle.xk_types.specs.Step.{Outcome, Blocked, Wrong, Stepped, step, step_of, step_by, waits, done, past, all, passed}
use Rattle.xk_types.specs.Schedule.{Through, is_local, IsReached}
use Rattle.xk_types.specs.Acceptance.{IsAccepted}
use Rattle.xk_types.proofs.ListLemmas.{get_inside, get-set_same}
use Rattle.xk_finishes.specs.Tree.{NodeValue}
use Rattle.xk_activity.specs.Local as frames
use Rattle.xk_activity.specs.StepAgreement.{frames_in, with_frames, IsSeen, Agrees}
use Rattle.xk_activity.specs.Activities.{act_at, nobody}
use Rattle.xk_activity.proofs.StepAgreementLemmas.{joined}
use Rattle.xk_activity.proofs.ReachabilityLemmas.{reached_safe}
use Rattle.xk_core.specs.Core.{CoreValue, is_running, runs_now, is_taken_locally, is_next_local}
use Rattle.xk_core.specs.LocalRun.{after_steps, TakesSteps, HasRoomForSteps, RunsTo, AreLocal, IsUnseen}
use Rattle.xk_core.specs.FinishView.{with_node, with_nodes, with_finishes}
use Rattle.xk_core.proofs.CoreLemmas.{core_bound}
use Rattle.xk_core.proofs.FinishViewLemmas.{set_told, get_told}
use Rattle.xk_core.proofs.FinishTreeLemmas.{At, Nobody, Somebody, told_at, told_stays, IsHeld}
use Rattle.xk_core.proofs.LocalRunLemmas.{after, local_step, IsStretch, stretch, unseen}

-- ---- the next step

-- who doesn't run takes no local step
pub unless_running : (m : ModuleValue) (w : World) (a : ℕ) → is_running w a ≡ false → is_taken_locally (step m w a) ≡ false
unless_running m w a = of (slice_get w.activities a)
  where
    tested : (b : Bool) (act : Activity) → is_taken_locally (cond b Blocked (done w a (past act (w.steps + 1)) (all passed) event.Passed)) ≡ false
    tested true act = refl
    tested false act = refl

    by : (act : Activity) (s : Status) → runs_now s ≡ false → is_taken_locally (step_by m w a act s) ≡ false
    by act status.Running h = absurd (false≢true (sym h))
    by act status.Arrived h = tested (waits w a) act
    by act status.Ended h = refl

    of : (o : Option Activity) → option_map_or (λ (act : Activity). runs_now act.status) o false ≡ false → is_taken_locally (step_of m w a o) ≡ false
    of None h = refl
    of (Some act) h = by act act.status h

-- what others see isn't taken locally
seen_so : (o : Outcome) → IsSeen o → is_taken_locally o ≡ false
seen_so Blocked h = refl
seen_so (Wrong c) h = refl
seen_so (Stepped v e) h = h

-- who runs takes one where the frames tell of one
pub next_is : (m : ModuleValue) → IsWithinLimits m → IsAccepted m → (w : World) → IsReached m w → (a : ℕ) (x : Activity) → slice_get w.activities a ≡ Some x
    → x.status ≡ status.Running → frames.is_stepped (frames.local (frames_in m x)) ≡ is_taken_locally (step m w a)
next_is m limits ok w reached a x there running = by (frames.local (frames_in m x)) refl
  where
    agrees : (o : frames.Outcome) → frames.local (frames_in m x) ≡ o → Agrees w a x o (step m w a)
    agrees o e = subst (λ o. Agrees w a x o (step m w a)) e (joined m w a x there running)

    by : (o : frames.Outcome) → frames.local (frames_in m x) ≡ o → frames.is_stepped o ≡ is_taken_locally (step m w a)
    by frames.Beyond e = sym (seen_so (step m w a) (agrees frames.Beyond e))
    by frames.Wrong e = absurd (subst (λ o. frames.IsRight o) e (reached_safe m limits ok w reached a x there running 1))
    by (frames.Stepped fs) e = sym (ap is_taken_locally (local_step m limits ok w reached a x there running fs e))

-- ---- a core, by its parts

-- the frames are those that the activity has with its finishes
pub frames_told : (m : ModuleValue) (ns : List NodeValue) (w : World) → length ns ≡ length w.activities → (a : ℕ) → a < length w.activities
    → frames_in m (act_at w.activities a) ≡ frames_in m (act_at (with_finishes ns w).activities a)
frames_told m ns w width a lt = by (told_at ns w.activities width a)
  where
    by : At ns w.activities a → frames_in m (act_at w.activities a) ≡ frames_in m (act_at (with_nodes ns w.activities) a)
    by (Nobody e g) = (let y = get_inside w.activities a lt in absurd (none-some y.0 (sym e ∙ y.1)))
    by (Somebody n x k e g) = ap (frames_in m) (get_or_from_slice_get w.activities a x nobody e)
        ∙ sym (ap (frames_in m) (get_or_from_slice_get (with_nodes ns w.activities) a (with_node n x) nobody g))

-- what a stretch of local steps of activity a makes of a core
pub record Ran (m : ModuleValue) (ns : List NodeValue) (w : World) (a max n : ℕ) (d : CoreValue) : Type 0 where
  pub same : d.module_run ≡ m
  pub held : IsHeld d.module_run ns d.world
  pub goes : RunsTo (record { module_run = m; world = with_finishes ns w }) a n (record { module_run = d.module_run; world = with_finishes ns d.world })
  pub shows : AreLocal (record { module_run = m; world = with_finishes ns w }) a n
  pub hides : IsUnseen (record { module_run = m; world = with_finishes ns w }) a n
  pub counted : d.world.steps ≡ w.steps + n
  pub stops : (n ≡ max) ⊎ (is_next_local (record { module_run = d.module_run; world = with_finishes ns d.world }) a ≡ false)

module _ (m : ModuleValue) (ns : List NodeValue) (w : World) (a : ℕ) (h : IsHeld m ns w) where
  -- an activity that runs, and what the tree tells of it
  record Runner : Type 0 where
    pub n : NodeValue
    pub x : Activity
    pub here : slice_get ns a ≡ Some n
    pub found : slice_get w.activities a ≡ Some x
    pub both : slice_get (with_nodes ns w.activities) a ≡ Some (with_node n x)
    pub running : x.status ≡ status.Running

  runner : is_running (with_finishes ns w) a ≡ true → Runner
  runner q = by (told_at ns w.activities h.are.width a)
    where
      by : At ns w.activities a → Runner
      by (Nobody e g) = absurd (false≢true (sym (ap (λ o. option_map_or (λ (act : Activity). runs_now act.status) o false) g) ∙ q))
      by (Somebody n x k e g) = go x.status refl (sym (ap (λ o. option_map_or (λ (act : Activity). runs_now act.status) o false) g) ∙ q)
        where
          go : (s : Status) → x.status ≡ s → runs_now s ≡ true → Runner
          go status.Running st f = record { n = n; x = x; here = k; found = e; both = g; running = st }
          go status.Arrived st f = absurd (false≢true f)
          go status.Ended st f = absurd (false≢true f)

  module _ (q : is_running (with_finishes ns w) a ≡ true) where
    r : Runner
    r = runner q

    act_is : act_at w.activities a ≡ r.x
    act_is = get_or_from_slice_get w.activities a r.x nobody r.found

    pub runner_safe : frames.IsSafe frames.local (frames_in m (act_at w.activities a))
    runner_safe = subst (λ x. frames.IsSafe frames.local (frames_in m x)) (sym act_is)
        (reached_safe m h.core.limits h.core.accepted (with_finishes ns w) h.core.reached a (with_node r.n r.x) r.both r.running)

    pub runner_next : frames.is_stepped (frames.local (frames_in m (act_at w.activities a))) ≡ is_taken_locally (step m (with_finishes ns w) a)
    runner_next = ap (λ x. frames.is_stepped (frames.local (frames_in m x))) act_is
        ∙ next_is m h.core.limits h.core.accepted (with_finishes ns w) h.core.reached a (with_node r.n r.x) r.both r.running

    -- n local steps on its frames are steps of the world
    stretched : (n : ℕ) (fs : frames.FramesValue) → frames.ran frames.local (frames_in m (act_at w.activities a)) n ≡ frames.Stepped fs
        → IsStretch m (with_finishes ns w) a (with_node r.n r.x) n fs
    stretched n fs e = stretch m h.core.limits h.core.accepted (with_finishes ns w) h.core.reached a (with_node r.n r.x) r.both r.running n fs
        (subst (λ x. frames.ran frames.local (frames_in m x) n ≡ frames.Stepped fs) act_is e)

    pub runner_room : HasRoomForSteps (record { module_run = m; world = w }) a
    runner_room n fs e =
        let s = stretched n fs e in
        let b = core_bound m (after (with_finishes ns w) a (with_node r.n r.x) fs n) (record { limits = h.core.limits; accepted = h.core.accepted; reached = s.reached }) in
        omega (arith, b, h.core.accepted.bounds.steps)

    -- they change nothing that finishes are about
    pub steps_told : (fs : frames.FramesValue) (n : ℕ) → after_steps (with_finishes ns w) a fs n ≡ with_finishes ns (after_steps w a fs n)
    steps_told fs n =
        ap (λ x. after (with_finishes ns w) a x fs n) (get_or_from_slice_get (with_nodes ns w.activities) a (with_node r.n r.x) nobody r.both)
        ∙ ap (λ l. record w { activities = l; steps = w.steps + n }) (sym (set_told ns w.activities a r.n (with_frames r.x fs) r.here))
        ∙ ap (λ x. with_finishes ns (after w a x fs n)) (sym act_is)

    module _ (max n : ℕ) (fs : frames.FramesValue) (e : frames.ran frames.local (frames_in m (act_at w.activities a)) n ≡ frames.Stepped fs)
        (stops : (n ≡ max) ⊎ (frames.local fs ≡ frames.Beyond)) where
      s : IsStretch m (with_finishes ns w) a (with_node r.n r.x) n fs
      s = stretched n fs e

      abbrev u : World
      u = after w a r.x fs n

      there_is : after (with_finishes ns w) a (with_node r.n r.x) fs n ≡ with_finishes ns u
      there_is = ap (λ l. record w { activities = l; steps = w.steps + n }) (sym (set_told ns w.activities a r.n (with_frames r.x fs) r.here))

      held_there : IsHeld m ns u
      held_there = record {
        core = record { limits = h.core.limits; accepted = h.core.accepted; reached = subst (IsReached m) there_is s.reached };
        are = told_stays m ns w.activities a r.n r.x (with_frames r.x fs) h.are r.here r.found refl s.stays.base;
      }

      -- where others see the next step on the frames, they do in the world
      stopped : frames.local fs ≡ frames.Beyond → is_taken_locally (step m (with_finishes ns u) a) ≡ false
      stopped b =
          let found = get_told ns u.activities a r.n (with_frames r.x fs) r.here (get-set_same w.activities a r.x (with_frames r.x fs) r.found) in
          sym (next_is m h.core.limits h.core.accepted (with_finishes ns u) held_there.core.reached a (with_node r.n (with_frames r.x fs)) found r.running)
          ∙ ap (λ k. frames.is_stepped (frames.local (record { module_run = k; frame = fs.frame; callers = fs.callers }))) (sym s.stays.module_run)
          ∙ ap frames.is_stepped b

      stops_by : (n ≡ max) ⊎ (frames.local fs ≡ frames.Beyond) → (n ≡ max) ⊎ (is_next_local (record { module_run = m; world = with_finishes ns u }) a ≡ false)
      stops_by (inl k) = inl k
      stops_by (inr b) = inr (stopped b)

      ran_there : Ran m ns w a max n (record { module_run = m; world = u })
      ran_there = record {
        same = refl;
        held = held_there;
        goes = s.goes ∙ ap (λ z. Through z) there_is;
        shows = s.shows;
        hides = ap (filter (λ (p : ℕ × Event). not (is_local p.1))) s.shows ∙ unseen a n;
        counted = refl;
        stops = stops_by stops;
      }

    -- what it leaves is a core
    pub runner_ran : (max n : ℕ) (d : CoreValue) → TakesSteps (record { module_run = m; world = w }) a max n d → Ran m ns w a max n d
    runner_ran max n d t = subst (Ran m ns w a max n)
        (ap (λ x. record { module_run = m; world = after w a x t.frames n }) (sym act_is) ∙ sym t.is)
        (ran_there max n t.frames t.ran t.stops)
