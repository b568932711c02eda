-- In each world that a legal schedule of an accepted module reaches, no number of local steps of a running activity is wrong.
use Rattle.std.specs.Prelude.{slice_set}
use Rattle.std.proofs.Common.{◌≡◌, ℕ, zero, suc, ◌++◌, Bool, true, false, cond, List, [], ◌∷◌, refl, sym, ap, subst, ◌∙◌, Option, Some, None, slice_get, arith}
use Rattle.std.proofs.lemmas.Option.{slice_get_within}
use Rattle.xk_types.specs.declared.world.Event.{Event}
use Rattle.xk_types.specs.declared.world.Event.TheVariants as event
use Rattle.xk_types.specs.declared.world.Status.TheVariants as status
use Rattle.xk_types.specs.declared.instr.Instr.{Instr}
use Rattle.xk_types.specs.declared.instr.Instr.TheVariants as instr
use Rattle.xk_types.specs.Code.{UnitValue, ModuleValue, IsWithinLimits, is_method}
use Rattle.xk_types.specs.World.{Frame, Activity, World, opening, instruction_at}
use Rattle.xk_types.specs.Step as world
use Rattle.xk_types.specs.Schedule.{Through, Wronged, run, run_on, IsReached}
use Rattle.xk_types.specs.Acceptance.{IsAccepted}
use Rattle.xk_law_schedules.proofs.EveryScheduleLaw.{every_schedule}
use Rattle.xk_law_schedules.proofs.ReachabilityLemmas.{same_through, first_step, reached_step}
use Rattle.xk_activity.specs.Local.{Outcome, Beyond, Wrong, Stepped, IsRight, IsSafe, Turn, FramesValue, then_step, ran, in_frame, carried, carried_on, local, local_at, code_of, spot_of, arguments_in, called, calling, returning}
use Rattle.xk_activity.specs.FrameStack.{values_at}
use Rattle.xk_activity.specs.StepAgreement.{frames_in, with_frames, Agrees}
use Rattle.xk_activity.proofs.StepAgreementLemmas.{joined}
use Rattle.xk_activity.proofs.LocalStepLemmas.{arguments_there}

-- ---- a step keeps the module

abbrev SameModule : FramesValue → Outcome → Type 0
SameModule fs Beyond = Unit {0}
SameModule fs Wrong = Unit {0}
SameModule fs (Stepped gs) = gs.module_run ≡ fs.module_run

frame_same : (fs : FramesValue) (t : Turn) → SameModule fs (in_frame fs t)
frame_same fs Beyond = tt
frame_same fs Wrong = tt
frame_same fs (Stepped s) = refl

returning_same : (fs : FramesValue) (gs : List Frame) → SameModule fs (returning fs gs)
returning_same fs [] = tt
returning_same fs (g ∷ gs) = refl

calling_same : (fs : FramesValue) (t : ℕ) (args : List ℕ) (o : Option UnitValue) → SameModule fs (calling fs t args o)
calling_same fs t args None = tt
calling_same fs t args (Some u) = kind (is_method u.kind)
  where
    there : (o : Outcome) → (IsRight o → o ≡ Stepped (called fs t (values_at fs.frame.slots args))) → SameModule fs o
    there Beyond h = tt
    there Wrong h = tt
    there (Stepped gs) h = subst (λ o. SameModule fs o) (sym (h tt)) refl

    kind : (b : Bool) → SameModule fs (cond b (arguments_in fs.frame.slots u.params args (λ values. Stepped (called fs t values))) Wrong)
    kind true = there (arguments_in fs.frame.slots u.params args (λ values. Stepped (called fs t values)))
        (λ r. (arguments_there fs.frame.slots u.params args (λ values. Stepped (called fs t values)) r).2)
    kind false = tt

carried_same : (fs : FramesValue) (i : Instr) → SameModule fs (carried_on fs i)
carried_same fs (instr.Call t args) = calling_same fs t args (slice_get fs.module_run.units t)
carried_same fs instr.Ret = returning_same fs fs.callers
carried_same fs i = frame_same fs (carried (code_of fs.module_run fs.frame.unit) (spot_of fs.frame) i)

local_same : (fs : FramesValue) → SameModule fs (local fs)
local_same fs = go (instruction_at fs.module_run fs.frame)
  where
    go : (o : Option Instr) → SameModule fs (local_at fs o)
    go None = tt
    go (Some i) = carried_same fs i

-- ---- along local steps

-- a run that comes through, and whose next step is wrong, is wrong
run_wrong : (m : ModuleValue) (list : List ℕ) (w v : World) (a : ℕ) (c : world.Cause) → run m list w ≡ Through v → world.step m v a ≡ world.Wrong c
    → run m (list ++ a ∷ []) w ≡ Wronged v c
run_wrong m [] w v a c h g = ap (λ z. run_on z (world.step m z a) (run m [])) (same_through w v h) ∙ ap (λ o. run_on v o (run m [])) g
run_wrong m (b ∷ list) w v a c h g =
    let f = first_step w v (world.step m w b) (run m list) h in
    ap (λ o. run_on w o (run m (list ++ a ∷ []))) f.2 ∙ run_wrong m list f.0 v a c f.3 g

module _ (m : ModuleValue) (limits : IsWithinLimits m) (ok : IsAccepted m) (a : ℕ) where
  -- a reached world in which activity a runs and has these frames
  record IsHad (fs : FramesValue) : Type 0 where
    pub v : World
    pub x : Activity
    pub reached : IsReached m v
    pub there : slice_get v.activities a ≡ Some x
    pub running : x.status ≡ status.Running
    pub frames : frames_in m x ≡ fs

  abbrev Along : Outcome → Type 0
  Along Beyond = Unit {0}
  Along Wrong = ⊥
  Along (Stepped fs) = IsHad fs

  never : (v : World) (c : world.Cause) → IsReached m v → world.step m v a ≡ world.Wrong c → ⊥
  never v c r e = (every_schedule m limits ok).never_wrong v.arguments r.1.0 (r.0 ++ a ∷ []) v c (run_wrong m r.0 (opening m v.arguments) v a c r.1.1 e)

  read_set : (xs : List Activity) (k : ℕ) (x y : Activity) → slice_get xs k ≡ Some x → slice_get (slice_set xs k y) k ≡ Some y
  read_set [] k x y h = absurd (let g = slice_get_within [] k x h in omega arith)
  read_set (z ∷ xs) zero x y h = refl
  read_set (z ∷ xs) (suc k) x y h = read_set xs k x y h

  same_world : (u z : World) (e f : Event) → world.Stepped u e ≡ world.Stepped z f → u ≡ z
  same_world u z e f h = cc

  goes_on : (v : World) (x : Activity) → IsReached m v → slice_get v.activities a ≡ Some x → x.status ≡ status.Running → Along (local (frames_in m x))
  goes_on v x r there running = go (local (frames_in m x)) (world.step m v a) refl (joined m v a x there running) (local_same (frames_in m x))
    where
      go : (l : Outcome) (o : world.Outcome) → world.step m v a ≡ o → Agrees v a x l o → SameModule (frames_in m x) l → Along l
      go Beyond o e h s = tt
      go Wrong world.Blocked e h s = h
      go Wrong (world.Wrong c) e h s = never v c r e
      go Wrong (world.Stepped u f) e h s = h
      go (Stepped gs) world.Blocked e h s = absurd h
      go (Stepped gs) (world.Wrong c) e h s = absurd (never v c r e)
      go (Stepped gs) (world.Stepped u f) e h s = record {
        v = u;
        x = with_frames x gs;
        reached = reached_step m v u a f r e;
        there = ap (λ (z : World). slice_get z.activities a) (same_world u _ f event.Local h) ∙ read_set v.activities a x (with_frames x gs) there;
        running = running;
        frames = ap (λ (k : ModuleValue). record { module_run = k; frame = gs.frame; callers = gs.callers }) (sym s);
      }

  along : (fs : FramesValue) → IsHad fs → (n : ℕ) → Along (ran local fs n)
  along fs had zero = had
  along fs had (suc n) = go (ran local fs n) (along fs had n)
    where
      go : (o : Outcome) → Along o → Along (then_step local o)
      go Beyond h = tt
      go Wrong h = h
      go (Stepped gs) h = subst (λ (f : FramesValue). Along (local f)) h.frames (goes_on h.v h.x h.reached h.there h.running)

  right : (o : Outcome) → Along o → IsRight o
  right Beyond h = tt
  right Wrong h = h
  right (Stepped gs) h = tt

-- the frames of a running activity of a reached world can take local steps, however many
pub reached_safe : (m : ModuleValue) → IsWithinLimits m → IsAccepted m → (w : World) → IsReached m w → (a : ℕ) (act : Activity) → slice_get w.activities a ≡ Some act
    → act.status ≡ status.Running → IsSafe local (frames_in m act)
reached_safe m limits ok w reached a act there running n =
    right m limits ok a (ran local (frames_in m act) n)
    (along m limits ok a (frames_in m act) (record { v = w; x = act; reached = reached; there = there; running = running; frames = refl }) n)
