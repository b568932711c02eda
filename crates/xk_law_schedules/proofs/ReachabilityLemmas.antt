-- Each world that a legal schedule of an accepted module leads to is sound, its clocks have their scopes, and its numbers are within the
-- bounds; and a run is never wrong.
use Rattle.std.proofs.Common.{◌≡◌, ℕ, ◌+◌, ◌<◌, ◌≤◌, true, false, ℤ, List, [], ◌∷◌, ◌++◌, length, refl, sym, ap, ◌∙◌, subst, arith}
use Rattle.xk_types.specs.declared.world.Event.{Event}
use Rattle.xk_types.specs.Code.{ModuleValue, IsWithinLimits}
use Rattle.xk_types.specs.World.{World, opening, AreArguments}
use Rattle.xk_types.specs.Step.{Cause, Outcome, Blocked, Wrong, Stepped, step}
use Rattle.xk_types.specs.Schedule.{Through, Wronged, run, run_on, IsReached, is_enabled, all_ended}
use Rattle.xk_types.specs.Bound.{steps_bound, activities_bound, clocks_bound}
use Rattle.xk_types.specs.Acceptance.{IsAccepted}
pub use Rattle.xk_types.proofs.RunLemmas.{same_through, first_step}
use Rattle.xk_law_schedules.proofs.Invariant.{IsSound}
use Rattle.xk_law_schedules.proofs.StepCountLemmas.{step_counts}
use Rattle.xk_law_schedules.proofs.StepFormLemmas.{step_kind}
use Rattle.xk_law_schedules.proofs.SafetyLemmas.StepLemmas.{Keeps, step_keeps}
use Rattle.xk_law_schedules.proofs.ProgressLemmas.DeadlockLemmas.{stuck_ended}
use Rattle.xk_law_schedules.proofs.OpeningLemmas.{opening_sound, opening_scoped}
use Rattle.xk_law_schedules.proofs.ScopeLemmas.Invariant.{IsScoped, Scopes}
use Rattle.xk_law_schedules.proofs.ScopeLemmas.StepLemmas.{step_scopes}

-- ---- runs

-- a run goes on by a step
pub run_more : (m : ModuleValue) (list : List ℕ) (w v x : World) (a : ℕ) (e : Event) → run m list w ≡ Through v → step m v a ≡ Stepped x e
    → run m (list ++ a ∷ []) w ≡ Through x
run_more m [] w v x a e h g = ap (λ o. run_on w o (run m [])) (ap (λ z. step m z a) (same_through w v h) ∙ g)
run_more m (b ∷ list) w v x a e h g =
    let f = first_step w v (step m w b) (run m list) h in
    ap (λ o. run_on w o (run m (list ++ a ∷ []))) f.2 ∙ run_more m list f.0 v x a e f.3 g

-- each step of a run is counted
pub run_counts : (m : ModuleValue) (list : List ℕ) (w v : World) → run m list w ≡ Through v → v.steps ≡ w.steps + length list
run_counts m [] w v h = let e = ap (λ z. z.steps) (same_through w v h) in omega arith
run_counts m (b ∷ list) w v h =
    let f = first_step w v (step m w b) (run m list) h in
    let rest = run_counts m list f.0 v f.3 in
    let here = step_counts m w f.0 b f.1 f.2 in
    omega arith

-- a world that is sound, and whose clocks have their scopes
pub record IsWhole (m : ModuleValue) (w : World) : Type 0 where
  pub sound : IsSound m w
  pub scoped : IsScoped m w

-- a step from such a world leads to one
step_whole : (m : ModuleValue) → IsAccepted m → (w v : World) (a : ℕ) (e : Event) → IsWhole m w → step m w a ≡ Stepped v e → IsWhole m v
step_whole m ok w v a e whole h = record {
  sound = subst (Keeps m) h (step_keeps m ok w whole.sound whole.scoped a);
  scoped = subst (Scopes m) h (step_scopes m ok w whole.sound whole.scoped a);
}

-- and a run
run_whole : (m : ModuleValue) → IsAccepted m → (list : List ℕ) (w v : World) → IsWhole m w → run m list w ≡ Through v → IsWhole m v
run_whole m ok [] w v whole h = subst (IsWhole m) (same_through w v h) whole
run_whole m ok (b ∷ list) w v whole h =
    let f = first_step w v (step m w b) (run m list) h in
    run_whole m ok list f.0 v (step_whole m ok w f.0 b f.1 whole f.2) f.3

-- a run from such a world is never wrong
pub run_right : (m : ModuleValue) → IsAccepted m → (list : List ℕ) (w v : World) (c : Cause) → IsWhole m w → run m list w ≡ Wronged v c → ⊥
run_right m ok [] w v c whole h = grind arith
run_right m ok (b ∷ list) w v c whole h = by (step m w b) refl (step_keeps m ok w whole.sound whole.scoped b) h (λ x s. run_right m ok list x v c s)
  where
    by : (o : Outcome) → step m w b ≡ o → Keeps m o → run_on w o (run m list) ≡ Wronged v c → ((x : World) → IsWhole m x → run m list x ≡ Wronged v c → ⊥) → ⊥
    by Blocked q k g later = grind arith
    by (Wrong d) q k g later = k
    by (Stepped x e) q k g later = later x (step_whole m ok w x b e whole q) g

-- ---- worlds that are reached

-- the opening world is reached
pub opening_reached : (m : ModuleValue) (args : List ℤ) → AreArguments m args → IsReached m (opening m args)
opening_reached m args taken = ([], (taken, refl))

-- no step changes what main was given
step_arguments : (m : ModuleValue) (w v : World) (a : ℕ) (e : Event) → step m w a ≡ Stepped v e → v.arguments ≡ w.arguments
step_arguments m w v a e h = subst (KeepArguments w) h (step_kind (KeepArguments w) m w a tt (λ c. tt) (λ act found lives. record {
  closed = λ n some nobody runs. refl;
  over = λ here none. refl;
  arrives = refl;
  done = λ next change e goes quiet rests. refl;
  made = λ next goes. refl;
  stored = λ s n e goes quiet. refl;
  spawned = λ t args values at goes. refl;
}))
  where
    KeepArguments : World → Outcome → Type 0
    KeepArguments x Blocked = Unit {0}
    KeepArguments x (Wrong c) = Unit {0}
    KeepArguments x (Stepped y e) = y.arguments ≡ x.arguments

-- nor does a run
pub run_arguments : (m : ModuleValue) (list : List ℕ) (w v : World) → run m list w ≡ Through v → v.arguments ≡ w.arguments
run_arguments m [] w v h = ap (λ z. z.arguments) (sym (same_through w v h))
run_arguments m (b ∷ list) w v h =
    let f = first_step w v (step m w b) (run m list) h in
    run_arguments m list f.0 v f.3 ∙ step_arguments m w f.0 b f.1 f.2

-- reaching goes on by a step
pub reached_step : (m : ModuleValue) (w v : World) (a : ℕ) (e : Event) → IsReached m w → step m w a ≡ Stepped v e → IsReached m v
reached_step m w v a e r h =
    let same = step_arguments m w v a e h in (
      r.0 ++ a ∷ [],
      (
        subst (AreArguments m) (sym same) r.1.0,
        subst (λ args. run m (r.0 ++ a ∷ []) (opening m args) ≡ Through v) (sym same) (run_more m r.0 (opening m w.arguments) w v a e r.1.1 h),
      ),
    )

-- what a run leads to is reached
pub reached_run : (m : ModuleValue) (list : List ℕ) (w v : World) → IsReached m w → run m list w ≡ Through v → IsReached m v
reached_run m [] w v reached h = subst (IsReached m) (same_through w v h) reached
reached_run m (d ∷ list) w v reached h =
    let x = first_step w v (step m w d) (run m list) h in
    reached_run m list x.0 v (reached_step m w x.0 d x.1 reached x.2) x.3

-- a world that is reached after no step is the opening one
pub opening_only : (m : ModuleValue) (w : World) → IsReached m w → w.steps ≡ 0 → w ≡ opening m w.arguments
opening_only m w r h = by r.0 r.1.1
  where
    by : (list : List ℕ) → run m list (opening m w.arguments) ≡ Through w → w ≡ opening m w.arguments
    by [] e = sym (same_through (opening m w.arguments) w e)
    by (a ∷ list) e = let n = run_counts m (a ∷ list) (opening m w.arguments) w e in absurd (omega arith)

-- the opening world is whole
pub opening_whole : (m : ModuleValue) → IsWithinLimits m → IsAccepted m → (args : List ℤ) → AreArguments m args → IsWhole m (opening m args)
opening_whole m limits ok args taken = record { sound = opening_sound m limits ok args taken; scoped = opening_scoped m limits ok args }

-- a world that is reached is sound
pub reached_sound : (m : ModuleValue) → IsWithinLimits m → IsAccepted m → (w : World) → IsReached m w → IsSound m w
reached_sound m limits ok w r = (run_whole m ok r.0 (opening m w.arguments) w (opening_whole m limits ok w.arguments r.1.0) r.1.1).sound

-- and its clocks have their scopes
pub reached_scoped : (m : ModuleValue) → IsWithinLimits m → IsAccepted m → (w : World) → IsReached m w → IsScoped m w
reached_scoped m limits ok w r = (run_whole m ok r.0 (opening m w.arguments) w (opening_whole m limits ok w.arguments r.1.0) r.1.1).scoped

-- the numbers of a world, within the bounds of its module
pub record HasRoom (m : ModuleValue) (w : World) : Type 0 where
  pub steps : w.steps ≤ steps_bound m
  pub activities : length w.activities ≤ activities_bound m
  pub clocks : length w.clocks ≤ clocks_bound m

-- a sound world is within the bounds
sound_room : (m : ModuleValue) (w : World) → IsSound m w → HasRoom m w
sound_room m w s = record {
  steps = (let h = s.steps in omega arith);
  activities = (let h = s.started in omega arith);
  clocks = (let h = s.made in omega arith);
}

-- a world that is reached is within the bounds
pub reached_room : (m : ModuleValue) → IsWithinLimits m → IsAccepted m → (w : World) → IsReached m w → HasRoom m w
reached_room m limits ok w r = sound_room m w (reached_sound m limits ok w r)

-- where nobody is enabled, all have ended
pub reached_ends : (m : ModuleValue) → IsWithinLimits m → IsAccepted m → (w : World) → IsReached m w
    → ((a : ℕ) → a < length w.activities → is_enabled m w a ≡ false) → all_ended w ≡ true
reached_ends m limits ok w r stuck = stuck_ended m ok w (reached_sound m limits ok w r) (reached_scoped m limits ok w r) stuck
