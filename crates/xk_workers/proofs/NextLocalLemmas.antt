-- Who is about to take a local step: its frames tell of one, and of no wrong one behind it.
use Rattle.std.proofs.Common.{◌≡◌, ◌∙◌, ℕ, true, sym, subst}
use Rattle.std.proofs.lemmas.Option.{get_or_from_slice_get}
use Rattle.xk_types.specs.World.{Activity}
use Rattle.xk_activity.specs.Local as frames
use Rattle.xk_activity.specs.StepAgreement.{frames_in}
use Rattle.xk_activity.specs.Activities.{act_at, nobody}
use Rattle.xk_activity.proofs.ReachabilityLemmas.{reached_safe}
use Rattle.xk_core.specs.Core.{CoreValue, IsCore, is_next_local}
use Rattle.xk_core.proofs.NextLocalLemmas.{next_is}
use Rattle.xk_workers.proofs.LocalStepLemmas.{Runs, runs}

-- the frames of activity a
abbrev frames_of : CoreValue → ℕ → frames.FramesValue
frames_of c a = frames_in c.module_run (act_at c.world.activities a)

ready : (c : CoreValue) (a : ℕ) → IsCore c.module_run c.world → is_next_local c a ≡ true
    → frames.IsSafe frames.local (frames_of c a) × (frames.is_stepped (frames.local (frames_of c a)) ≡ true)
ready c a core l =
    subst (λ (x : Activity). frames.IsSafe frames.local (frames_in c.module_run x) × (frames.is_stepped (frames.local (frames_in c.module_run x)) ≡ true))
    (sym (get_or_from_slice_get c.world.activities a r.act nobody r.there)) (
      safe,
      next_is c.module_run core.limits core.accepted c.world core.reached a r.act r.there r.running ∙ l,
    )
  where
    r : Runs c.world a
    r = runs c.module_run c.world a l

    safe : frames.IsSafe frames.local (frames_in c.module_run r.act)
    safe = reached_safe c.module_run core.limits core.accepted c.world core.reached a r.act r.there r.running

-- and so of a copy of them
pub ready_copy : (c : CoreValue) (a : ℕ) (f : frames.FramesValue) → IsCore c.module_run c.world → is_next_local c a ≡ true → f ≡ frames_of c a
    → frames.IsSafe frames.local f × (frames.is_stepped (frames.local f) ≡ true)
ready_copy c a f core l is = subst (λ (g : frames.FramesValue). frames.IsSafe frames.local g × (frames.is_stepped (frames.local g) ≡ true)) (sym is) (ready c a core l)
