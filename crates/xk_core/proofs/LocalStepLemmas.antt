-- A local step of a core: what the frames of its activity tell, and what the definition does.
use Rattle.std.specs.Bool.{Decides}
use Rattle.std.proofs.Common.{◌≡◌, ℕ, ◌<◌, Bool, true, false, not, List, length, Option, Some, None, refl, sym, ap, ◌∙◌, subst, slice_get, slice_set}
use Rattle.std.specs.Option.{option_map_or}
use Rattle.std.proofs.lemmas.Bool.{false≢true}
use Rattle.std.proofs.lemmas.Option.{none-some, same_Some, slice_get_within, get_or_from_slice_get}
use Rattle.xk_types.specs.declared.instr.Instr.{Instr}
use Rattle.xk_types.specs.declared.instr.Instr.TheVariants as instr
use Rattle.xk_types.specs.declared.world.Status.{Status}
use Rattle.xk_types.specs.declared.world.Status.TheVariants as status
use Rattle.xk_types.specs.declared.world.Event.TheVariants as event
use Rattle.xk_types.specs.Code.{ModuleValue}
use Rattle.xk_types.specs.World.{Activity, World, instruction_at, is_ended}
use Rattle.xk_types.specs.Step.{Outcome, Blocked, Wrong, Stepped, step, done, none, moved, settled}
use Rattle.xk_types.specs.Schedule.{is_step, is_enabled}
use Rattle.xk_finishes.specs.Tree.{NodeValue}
use Rattle.xk_activity.specs.declared.frames.Next.{Next}
use Rattle.xk_activity.specs.declared.frames.Next.TheVariants as next
use Rattle.xk_activity.specs.Local as frames
use Rattle.xk_activity.specs.StepAgreement.{frames_in, with_frames, IsLocally, Agrees}
use Rattle.xk_activity.specs.Activities.{Stands, act_at, nobody}
use Rattle.xk_activity.proofs.StepAgreementLemmas.{joined}
use Rattle.xk_activity.proofs.ReachabilityLemmas.{reached_safe}
use Rattle.xk_core.specs.InstructionEffect.{concerns_finishes, is_visible, carried, IsLast}
use Rattle.xk_core.specs.Core.{CoreValue, TakesStep, Locally, IsBeyond, is_arrived, is_living, is_running, is_waiting, runs_now, next_instruction, next_of, instruction_of, instruction_by}
use Rattle.xk_core.specs.FinishView.{with_node, with_nodes, with_finishes, AreTold}
use Rattle.xk_core.proofs.NonLocalStepLemmas.{visible_there, nobody_waits}
use Rattle.xk_core.proofs.CoreLemmas.{carry_step}
use Rattle.xk_core.proofs.FinishTreeLemmas.{At, Nobody, Somebody, told_at, IsHeld, held_on, parts_roomy, carry_enabled, carry_stepped}

-- a step that isn't wrong is taken, or others can see it
beyond_decides : (o : frames.Outcome) → frames.IsRight o → Decides (not (frames.is_stepped o)) (o ≡ frames.Beyond)
beyond_decides frames.Beyond h = (λ e. refl, λ e. refl)
beyond_decides frames.Wrong h = absurd h
beyond_decides (frames.Stepped fs) h = (λ e. absurd (false≢true e), λ e. cc)

-- an instruction whose step the frames tell concerns no finish
plain_of : (f : frames.FramesValue) (i : Instr) (fs : frames.FramesValue) → frames.carried_on f i ≡ frames.Stepped fs → concerns_finishes i ≡ false
plain_of f (instr.Finish e) fs h = cc
plain_of f (instr.EndFinish b) fs h = cc
plain_of f (instr.Spawn t args) fs h = cc
plain_of f _ fs h = refl

-- a step that changes the frames so, if it is one
taken : (w : World) (a : ℕ) (x : Activity) (fs : frames.FramesValue) (o : Outcome) → IsLocally w a x fs o → is_step o ≡ true
    → o ≡ done w a (with_frames x fs) none event.Local
taken w a x fs Blocked h k = absurd h
taken w a x fs (Wrong c) h k = absurd (false≢true k)
taken w a x fs (Stepped u e) h k = h

module _ (m : ModuleValue) (ns : List NodeValue) (w : World) (a : ℕ) (h : IsHeld m ns w) where
  -- an activity that runs, and what the tree tells of it
  record Running : Type 0 where
    pub n : NodeValue
    pub x : Activity
    pub found : slice_get w.activities a ≡ Some x
    pub both : slice_get (with_nodes ns w.activities) a ≡ Some (with_node n x)
    pub running : x.status ≡ status.Running

  running_there : is_running (with_finishes ns w) a ≡ true → Running
  running_there q = by (told_at ns w.activities h.are.width a)
    where
      by : At ns w.activities a → Running
      by (Nobody e g) = absurd (false≢true (sym (ap (λ o. option_map_or (λ (act : Activity). runs_now act.status) o false) g) ∙ q))
      by (Somebody n x k e g) = go x.status refl (sym (ap (λ o. option_map_or (λ (act : Activity). runs_now act.status) o false) g) ∙ q)
        where
          go : (s : Status) → x.status ≡ s → runs_now s ≡ true → Running
          go status.Running st f = record { n = n; x = x; found = e; both = g; running = st }
          go status.Arrived st f = absurd (false≢true f)
          go status.Ended st f = absurd (false≢true f)

  module _ (q : is_running (with_finishes ns w) a ≡ true) where
    r : Running
    r = running_there q

    act_is : act_at w.activities a ≡ r.x
    act_is = get_or_from_slice_get w.activities a r.x nobody r.found

    pub local_there : a < length w.activities
    local_there = slice_get_within w.activities a r.x r.found

    pub local_right : frames.IsRight (frames.local (frames_in m (act_at w.activities a)))
    local_right = subst (λ x. frames.IsRight (frames.local (frames_in m x))) (sym act_is)
        (reached_safe m h.core.limits h.core.accepted (with_finishes ns w) h.core.reached a (with_node r.n r.x) r.both r.running 1)

    -- whether others can see its next step
    pub seen_decides : (b : Bool) → b ≡ frames.is_stepped (frames.local (frames_in m (act_at w.activities a)))
        → Decides (not b) (IsBeyond (record { module_run = m; world = with_finishes ns w }) a)
    seen_decides b is =
        subst (λ t. Decides (not t) (IsBeyond (record { module_run = m; world = with_finishes ns w }) a)) (sym is)
        (subst (λ x. Decides (not (frames.is_stepped (frames.local (frames_in m x)))) (frames.local (frames_in m told) ≡ frames.Beyond)) (sym act_is)
        (subst (λ x. Decides (not (frames.is_stepped (frames.local (frames_in m r.x)))) (frames.local (frames_in m x) ≡ frames.Beyond)) (sym told_is)
        (beyond_decides (frames.local (frames_in m r.x)) right)))
      where
        told : Activity
        told = act_at (with_nodes ns w.activities) a

        told_is : told ≡ with_node r.n r.x
        told_is = get_or_from_slice_get (with_nodes ns w.activities) a (with_node r.n r.x) nobody r.both

        right : frames.IsRight (frames.local (frames_in m r.x))
        right = subst (λ x. frames.IsRight (frames.local (frames_in m x))) act_is local_right

    -- the instruction that it stands at
    at : Stands m r.x
    at = subst (Stands m) act_is (parts_roomy m ns w a h local_there).stands

    at_next : next_instruction m (with_finishes ns w) a ≡ Some at.0
    at_next = ap (instruction_of m) r.both ∙ ap (instruction_by m (with_node r.n r.x)) r.running ∙ at.1

    module _ (enabled : is_enabled m (with_finishes ns w) a ≡ true) where
      local_goes : (fs : frames.FramesValue) → frames.local (frames_in m (act_at w.activities a)) ≡ frames.Stepped fs → (v : World)
          → v ≡ settled (record w { activities = slice_set w.activities a (with_frames (act_at w.activities a) fs); clocks = moved a none w.clocks })
          → (step m (with_finishes ns w) a ≡ Stepped (with_finishes ns v) event.Local) × AreTold m ns v.activities
      local_goes fs e v is =
          let f : frames.local (frames_in m r.x) ≡ frames.Stepped fs = subst (λ x. frames.local (frames_in m x) ≡ frames.Stepped fs) act_is e in
          let plain = plain_of (frames_in m r.x) at.0 fs (sym (ap (frames.local_at (frames_in m r.x)) at.1) ∙ f) in
          let can = carry_enabled m ns w a h at.0 plain at_next enabled in
          let alone : next_instruction m w a ≡ Some at.0 = ap (instruction_of m) r.found ∙ ap (instruction_by m r.x) r.running ∙ at.1 in
          let c : step m w a ≡ carried m w a at.0 = carry_step m w a at.0 alone in
          let l : IsLocally w a r.x fs (step m w a) = subst (λ o. Agrees w a r.x o (step m w a)) f (joined m w a r.x r.found r.running) in
          let s = taken w a r.x fs (step m w a) l (ap is_step c ∙ can) in
          carry_stepped m ns w a h at.0 plain at_next v event.Local
          (sym c ∙ s ∙ ap (λ x. done w a (with_frames x fs) none event.Local) (sym act_is) ∙ ap (λ u. Stepped u event.Local) (sym is)) refl

      -- what an attempt leaves is a core, and either a step or the same
      pub local_told : (n : Next) (d : CoreValue) → TakesStep (record { module_run = m; world = w }) a n d
          → (d.module_run ≡ m) × IsHeld d.module_run ns d.world
          × Locally (record { module_run = m; world = with_finishes ns w }) a n (record { module_run = d.module_run; world = with_finishes ns d.world })
      local_told next.Stepped d t =
          let g = local_goes t.0 t.1 d.world (ap (λ (c : CoreValue). c.world) t.2) in
          let same : d.module_run ≡ m = ap (λ (c : CoreValue). c.module_run) t.2 in
          let k = held_on m ns ns w d.world a event.Local h g.1 g.0 in
          (same, subst (λ p. IsHeld p ns d.world) (sym same) k, g.0)
      local_told next.Visible d t = (
        ap (λ (c : CoreValue). c.module_run) t.1,
        subst (λ (c : CoreValue). IsHeld c.module_run ns c.world) (sym t.1) h,
        (
          subst (λ x. frames.local (frames_in m x) ≡ frames.Beyond) (sym (get_or_from_slice_get (with_nodes ns w.activities) a (with_node r.n r.x) nobody r.both))
              (subst (λ x. frames.local (frames_in m x) ≡ frames.Beyond) act_is t.0),
          ap (λ (c : CoreValue). record { module_run = c.module_run; world = with_finishes ns c.world }) t.1,
        ),
      )

-- ---- whether it runs

-- also without finishes
pub running_told : (ns : List NodeValue) (w : World) → length ns ≡ length w.activities → (a : ℕ) → is_running (with_finishes ns w) a ≡ is_running w a
running_told ns w width a = by (told_at ns w.activities width a)
  where
    by : At ns w.activities a → is_running (with_finishes ns w) a ≡ is_running w a
    by (Nobody e g) = ap (λ o. option_map_or (λ (act : Activity). runs_now act.status) o false) (g ∙ sym e)
    by (Somebody n x k e g) = ap (λ o. option_map_or (λ (act : Activity). runs_now act.status) o false) g
        ∙ sym (ap (λ o. option_map_or (λ (act : Activity). runs_now act.status) o false) e)

-- and whether it waits at an `advance`
pub waiting_told : (ns : List NodeValue) (w : World) → length ns ≡ length w.activities → (a : ℕ) → is_waiting (with_finishes ns w) a ≡ is_waiting w a
waiting_told ns w width a = by (told_at ns w.activities width a)
  where
    by : At ns w.activities a → is_waiting (with_finishes ns w) a ≡ is_waiting w a
    by (Nobody e g) = ap (λ o. option_map_or (λ (act : Activity). is_arrived act.status) o false) (g ∙ sym e)
    by (Somebody n x k e g) = ap (λ o. option_map_or (λ (act : Activity). is_arrived act.status) o false) g
        ∙ sym (ap (λ o. option_map_or (λ (act : Activity). is_arrived act.status) o false) e)

-- and whether it hasn't ended
pub living_told : (ns : List NodeValue) (w : World) → length ns ≡ length w.activities → (a : ℕ) → is_living (with_finishes ns w) a ≡ is_living w a
living_told ns w width a = by (told_at ns w.activities width a)
  where
    by : At ns w.activities a → is_living (with_finishes ns w) a ≡ is_living w a
    by (Nobody e g) = ap (λ o. option_map_or (λ (act : Activity). not (is_ended act.status)) o false) (g ∙ sym e)
    by (Somebody n x k e g) = ap (λ o. option_map_or (λ (act : Activity). not (is_ended act.status)) o false) g
        ∙ sym (ap (λ o. option_map_or (λ (act : Activity). not (is_ended act.status)) o false) e)

-- ---- at an instruction whose step others can see

module _ (c : CoreValue) (a : ℕ) (i : Instr) (here : next_of c a ≡ Some i) (beyond : IsBeyond c a) where
  -- who stands there
  record Standing : Type 0 where
    pub x : Activity
    pub found : slice_get c.world.activities a ≡ Some x
    pub at : instruction_at c.module_run x.frame ≡ Some i

  who : Standing
  who = of (slice_get c.world.activities a) refl here
    where
      by : (x : Activity) (s : Status) → slice_get c.world.activities a ≡ Some x → instruction_by c.module_run x s ≡ Some i → Standing
      by x status.Running e f = record { x = x; found = e; at = f }
      by x status.Arrived e f = absurd (none-some i f)
      by x status.Ended e f = absurd (none-some i f)

      of : (o : Option Activity) → slice_get c.world.activities a ≡ o → instruction_of c.module_run o ≡ Some i → Standing
      of None e f = absurd (none-some i f)
      of (Some x) e f = by x x.status e f

  seen : frames.carried_on (frames_in c.module_run who.x) i ≡ frames.Beyond
  seen = sym (ap (frames.local_at (frames_in c.module_run who.x)) who.at)
      ∙ subst (λ x. frames.local (frames_in c.module_run x) ≡ frames.Beyond) (get_or_from_slice_get c.world.activities a who.x nobody who.found) beyond

  pub beyond_visible : is_visible i ≡ true
  beyond_visible = visible_there (frames_in c.module_run who.x) i seen

  pub beyond_last : i ≡ instr.Ret → IsLast c.world a
  beyond_last ret act there = ap (λ (x : Activity). x.callers) (same_Some act who.x (sym there ∙ who.found))
      ∙ nobody_waits (frames_in c.module_run who.x) who.x.callers (subst (λ j. frames.carried_on (frames_in c.module_run who.x) j ≡ frames.Beyond) ret seen)
