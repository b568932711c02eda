-- Local steps on the frames of an activity are steps of the world, which change those frames and nothing else: each is counted.
use Rattle.std.proofs.Common.{◌≡◌, ℕ, zero, suc, ◌+◌, Bool, true, false, not, cond, List, [], ◌∷◌, ◌++◌, map, filter, replicate, refl, sym, ap, subst, ◌∙◌, Option, Some, None, slice_get, slice_set, arith}
use Rattle.std.proofs.lemmas.Option.{same_Some}
use Rattle.std.proofs.lemmas.List.{set-get_or, set-set, replicate_more}
use Rattle.xk_types.specs.declared.world.Event.{Event}
use Rattle.xk_types.specs.declared.world.Event.TheVariants as event
use Rattle.xk_types.specs.declared.world.Status.TheVariants as status
use Rattle.xk_types.specs.declared.world.Standing.TheVariants as standing
use Rattle.xk_types.specs.declared.instr.Instr.{Instr}
use Rattle.xk_types.specs.declared.instr.Instr.TheVariants as instr
use Rattle.xk_types.specs.Code.{UnitValue, ModuleValue, IsWithinLimits, is_method}
use Rattle.xk_types.specs.World.{Frame, Activity, Clock, World, base_of, instruction_at}
use Rattle.xk_types.specs.Step as world
use Rattle.xk_types.specs.Step.{step, is_ready, settled_clock, moved, none}
use Rattle.xk_types.specs.Schedule.{Through, run, events, events_on, is_local, IsReached}
use Rattle.xk_types.specs.Acceptance.{IsAccepted}
use Rattle.xk_types.proofs.ListLemmas.{Each, get-set_same}
use Rattle.xk_law_schedules.proofs.Invariant.{IsSound}
use Rattle.xk_law_schedules.proofs.ScopeLemmas.Invariant.{IsScoped, based}
use Rattle.xk_law_schedules.proofs.SafetyLemmas.StepLemmas.{Keeps, step_keeps}
use Rattle.xk_law_schedules.proofs.ReachabilityLemmas.{same_through, first_step, run_more, reached_step, reached_sound, reached_scoped}
use Rattle.xk_activity.specs.Local.{Outcome, Beyond, Wrong, Stepped, Turn, FramesValue, IsRight, then_step, ran, in_frame, frame_on, carried, carried_on, local, local_at, code_of, spot_of, arguments_in, called, calling, returning}
use Rattle.xk_activity.specs.FrameStack.{values_at}
use Rattle.xk_activity.specs.StepAgreement.{frames_in, with_frames, IsLocally, Agrees}
use Rattle.xk_activity.proofs.StepAgreementLemmas.{joined}
use Rattle.xk_activity.proofs.LocalStepLemmas.{arguments_there}

-- ---- what a local step leaves as it is

-- the module, and the unit that the activity began with
pub record Stays (fs gs : FramesValue) : Type 0 where
  pub module_run : gs.module_run ≡ fs.module_run
  pub base : base_of gs.frame gs.callers ≡ base_of fs.frame fs.callers

abbrev pub StaysBy : FramesValue → Outcome → Type 0
StaysBy fs Beyond = Unit {0}
StaysBy fs Wrong = Unit {0}
StaysBy fs (Stepped gs) = Stays fs gs

frame_stays : (fs : FramesValue) (t : Turn) → StaysBy fs (in_frame fs t)
frame_stays fs Beyond = tt
frame_stays fs Wrong = tt
frame_stays fs (Stepped s) = record { module_run = refl; base = based fs.frame (frame_on fs.frame.unit s) fs.callers refl }

returning_stays : (fs : FramesValue) (gs : List Frame) → fs.callers ≡ gs → StaysBy fs (returning fs gs)
returning_stays fs [] e = tt
returning_stays fs (g ∷ gs) e = record {
  module_run = refl;
  base = based g (record g { place = g.place + 1 }) gs refl ∙ sym (ap (base_of fs.frame) e);
}

calling_stays : (fs : FramesValue) (t : ℕ) (args : List ℕ) (o : Option UnitValue) → StaysBy fs (calling fs t args o)
calling_stays fs t args None = tt
calling_stays fs t args (Some u) = kind (is_method u.kind)
  where
    there : (o : Outcome) → (IsRight o → o ≡ Stepped (called fs t (values_at fs.frame.slots args))) → StaysBy fs o
    there Beyond h = tt
    there Wrong h = tt
    there (Stepped gs) h = subst (λ o. StaysBy fs o) (sym (h tt)) (record { module_run = refl; base = refl })

    kind : (b : Bool) → StaysBy fs (cond b (arguments_in fs.frame.slots u.params args (λ values. Stepped (called fs t values))) Wrong)
    kind true = there (arguments_in fs.frame.slots u.params args (λ values. Stepped (called fs t values)))
        (λ r. (arguments_there fs.frame.slots u.params args (λ values. Stepped (called fs t values)) r).2)
    kind false = tt

carried_stays : (fs : FramesValue) (i : Instr) → StaysBy fs (carried_on fs i)
carried_stays fs (instr.Call t args) = calling_stays fs t args (slice_get fs.module_run.units t)
carried_stays fs instr.Ret = returning_stays fs fs.callers refl
carried_stays fs i = frame_stays fs (carried (code_of fs.module_run fs.frame.unit) (spot_of fs.frame) i)

pub local_stays : (fs : FramesValue) → StaysBy fs (local fs)
local_stays fs = go (instruction_at fs.module_run fs.frame)
  where
    go : (o : Option Instr) → StaysBy fs (local_at fs o)
    go None = tt
    go (Some i) = carried_stays fs i

-- nor does one more
then_stays : (fs gs : FramesValue) (o : Outcome) → Stays fs gs → StaysBy gs o → StaysBy fs o
then_stays fs gs Beyond s k = tt
then_stays fs gs Wrong s k = tt
then_stays fs gs (Stepped hs) s k = record { module_run = k.module_run ∙ s.module_run; base = k.base ∙ s.base }

-- nor do any number of them
pub ran_stays : (fs : FramesValue) (n : ℕ) → StaysBy fs (ran local fs n)
ran_stays fs zero = record { module_run = refl; base = refl }
ran_stays fs (suc n) = by (ran local fs n) (ran_stays fs n)
  where
    by : (o : Outcome) → StaysBy fs o → StaysBy fs (then_step local o)
    by Beyond s = tt
    by Wrong s = tt
    by (Stepped gs) s = then_stays fs gs (local gs) s (local_stays gs)

-- ---- clocks

-- where no clock is ready, and no standing changes, the end of a step leaves all clocks as they are
pub clocks_rest : (now a : ℕ) (cs : List Clock) → Each (λ k c. is_ready c ≡ false) cs → map (settled_clock now) (moved a none cs) ≡ cs
clocks_rest now a [] h = refl
clocks_rest now a (c ∷ cs) h =
    ap (λ z. z ∷ map (settled_clock now) (moved a none cs))
    (ap (λ l. settled_clock now (record c { standings = l })) (set-get_or c.standings a standing.Apart)
    ∙ ap (λ b. cond b (record { phase = c.phase + 1; last = now; standings = map world.advanced c.standings }) c) (h 0 c refl))
    ∙ ap (λ l. c ∷ l) (clocks_rest now a cs (λ k d at. h (suc k) d at))

-- ---- schedules

-- the events of one step more
pub events_more : (m : ModuleValue) (list : List ℕ) (w v x : World) (a : ℕ) (e : Event) → run m list w ≡ Through v → step m v a ≡ world.Stepped x e
    → events m (list ++ a ∷ []) w ≡ events m list w ++ (a, e) ∷ []
events_more m [] w v x a e h g = ap (λ o. events_on a o (events m [])) (ap (λ z. step m z a) (same_through w v h) ∙ g)
events_more m (b ∷ list) w v x a e h g =
    let f = first_step w v (step m w b) (run m list) h in
    ap (λ o. events_on b o (events m (list ++ a ∷ []))) f.2
    ∙ ap (λ l. (b, f.1) ∷ l) (events_more m list f.0 v x a e f.3 g)
    ∙ sym (ap (λ o. events_on b o (events m list) ++ (a, e) ∷ []) f.2)

-- nothing is seen of local events
pub unseen : (a n : ℕ) → filter (λ (p : ℕ × Event). not (is_local p.1)) (replicate n (a, event.Local)) ≡ []
unseen a zero = refl
unseen a (suc n) = unseen a n

-- ---- steps of the world

-- a world after n local steps of activity a, which was x, and has these frames then
abbrev pub after : World → ℕ → Activity → FramesValue → ℕ → World
after w a x fs n = record w { activities = slice_set w.activities a (with_frames x fs); steps = w.steps + n }

-- a local step of a running activity of a reached world is a step of the world
pub local_step : (m : ModuleValue) → IsWithinLimits m → IsAccepted m → (w : World) → IsReached m w → (a : ℕ) (x : Activity) → slice_get w.activities a ≡ Some x
    → x.status ≡ status.Running → (fs : FramesValue) → local (frames_in m x) ≡ Stepped fs → step m w a ≡ world.Stepped (after w a x fs 1) event.Local
local_step m limits ok w reached a x there running fs l =
    by (step m w a) refl (subst (λ o. Agrees w a x o (step m w a)) l (joined m w a x there running))
  where
    sound : IsSound m w
    sound = reached_sound m limits ok w reached

    scoped : IsScoped m w
    scoped = reached_scoped m limits ok w reached

    by : (o : world.Outcome) → step m w a ≡ o → IsLocally w a x fs o → o ≡ world.Stepped (after w a x fs 1) event.Local
    by world.Blocked e h = absurd h
    by (world.Wrong c) e h = absurd (subst (Keeps m) e (step_keeps m ok w sound scoped a))
    by (world.Stepped u f) e h =
        h ∙ ap (λ (cs : List Clock). world.Stepped (record w { activities = slice_set w.activities a (with_frames x fs); clocks = cs; steps = w.steps + 1 }) event.Local)
        (clocks_rest (w.steps + 1) a w.clocks (λ k c at. (sound.clocks k c at).unready))

-- n steps: what they lead to, and what is seen of them
pub record IsStretch (m : ModuleValue) (w : World) (a : ℕ) (x : Activity) (n : ℕ) (fs : FramesValue) : Type 0 where
  pub stays : Stays (frames_in m x) fs
  pub goes : run m (replicate n a) w ≡ Through (after w a x fs n)
  pub shows : events m (replicate n a) w ≡ replicate n (a, event.Local)
  pub reached : IsReached m (after w a x fs n)

same_frames : (fs gs : FramesValue) → Stepped fs ≡ Stepped gs → fs ≡ gs
same_frames fs gs h = cc

-- n local steps on the frames of a running activity of a reached world are n steps of the world
pub stretch : (m : ModuleValue) → IsWithinLimits m → IsAccepted m → (w : World) → IsReached m w → (a : ℕ) (x : Activity) → slice_get w.activities a ≡ Some x
    → x.status ≡ status.Running → (n : ℕ) (fs : FramesValue) → ran local (frames_in m x) n ≡ Stepped fs → IsStretch m w a x n fs
stretch m limits ok w reached a x there running = go
  where
    unchanged : after w a x (frames_in m x) 0 ≡ w
    unchanged = ap (λ l. record w { activities = l; steps = w.steps + 0 }) (set_there w.activities a x there)
        ∙ ap (λ k. record w { steps = k }) (omega arith)
      where
        set_there : (xs : List Activity) (k : ℕ) (y : Activity) → slice_get xs k ≡ Some y → slice_set xs k y ≡ xs
        set_there [] k y h = refl
        set_there (z ∷ xs) zero y h = ap (λ o. o ∷ xs) (sym (same_Some z y h))
        set_there (z ∷ xs) (suc k) y h = ap (λ l. z ∷ l) (set_there xs k y h)

    more : (n : ℕ) (gs fs : FramesValue) → IsStretch m w a x n gs → local gs ≡ Stepped fs → IsStretch m w a x (n + 1) fs
    more n gs fs s l =
        let y = with_frames x gs in
        let v = after w a x gs n in
        let here : slice_get v.activities a ≡ Some y = get-set_same w.activities a x y there in
        let is : local (frames_in m y) ≡ Stepped fs =
        subst (λ k. local (record { module_run = k; frame = gs.frame; callers = gs.callers }) ≡ Stepped fs) s.stays.module_run l in
        let e : step m v a ≡ world.Stepped (after v a y fs 1) event.Local = local_step m limits ok v s.reached a y here running fs is in
        let u : after v a y fs 1 ≡ after w a x fs (n + 1) =
        ap (λ l. record w { activities = l; steps = w.steps + n + 1 }) (set-set w.activities a y (with_frames x fs))
        ∙ ap (λ j. record w { activities = slice_set w.activities a (with_frames x fs); steps = j }) (omega arith) in
        let f : step m v a ≡ world.Stepped (after w a x fs (n + 1)) event.Local = e ∙ ap (λ z. world.Stepped z event.Local) u in
        record {
          stays = subst (λ o. StaysBy (frames_in m x) o) l (then_stays (frames_in m x) gs (local gs) s.stays (local_stays gs));
          goes = ap (λ l. run m l w) (sym (replicate_more n a)) ∙ run_more m (replicate n a) w v (after w a x fs (n + 1)) a event.Local s.goes f;
          shows = ap (λ l. events m l w) (sym (replicate_more n a)) ∙ events_more m (replicate n a) w v (after w a x fs (n + 1)) a event.Local s.goes f
              ∙ ap (λ l. l ++ (a, event.Local) ∷ []) s.shows ∙ replicate_more n (a, event.Local);
          reached = reached_step m v (after w a x fs (n + 1)) a event.Local s.reached f;
        }

    go : (n : ℕ) (fs : FramesValue) → ran local (frames_in m x) n ≡ Stepped fs → IsStretch m w a x n fs
    go zero fs h = subst (λ f. IsStretch m w a x 0 f) (same_frames (frames_in m x) fs h) (record {
      stays = record { module_run = refl; base = refl };
      goes = ap (λ z. Through z) (sym unchanged);
      shows = refl;
      reached = subst (IsReached m) (sym unchanged) reached;
    })
    go (suc n) fs h = by (ran local (frames_in m x) n) refl h (go n)
      where
        by : (o : Outcome) → ran local (frames_in m x) n ≡ o → then_step local o ≡ Stepped fs
            → ((gs : FramesValue) → ran local (frames_in m x) n ≡ Stepped gs → IsStretch m w a x n gs) → IsStretch m w a x (suc n) fs
        by Beyond e k before = absurd (grind arith)
        by Wrong e k before = absurd (grind arith)
        by (Stepped gs) e k before = subst (λ j. IsStretch m w a x j fs) (omega arith) (more n gs fs (before gs e) k)
