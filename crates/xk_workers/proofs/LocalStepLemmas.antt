-- A local step is one's own: what others do leaves it local.
use Rattle.std.proofs.Common.{◌≡◌, ◌<◌, ℕ, true, false, true≢false, length, Option, Some, None, refl, sym, ap, subst, ◌∙◌, arith, slice_get, slice_set, length-set}
use Rattle.std.specs.Option.{option_map_or}
use Rattle.std.proofs.lemmas.Option.{slice_get_within}
use Rattle.xk_types.specs.declared.world.Status.{Status}
use Rattle.xk_types.specs.declared.world.Status.TheVariants as status
use Rattle.xk_types.specs.declared.world.Event.{Event}
use Rattle.xk_types.specs.Code.{ModuleValue}
use Rattle.xk_types.specs.World.{Activity, World}
use Rattle.xk_types.specs.Step.{Outcome, Blocked, Wrong, Stepped, step, onward, left, ended, arrived, child}
use Rattle.xk_types.proofs.ListLemmas.{get-set_other, get-push_other}
use Rattle.xk_law_schedules.proofs.StepFormLemmas.{step_kind}
use Rattle.xk_core.specs.Core.{CoreValue, IsCore, is_running, runs_now, is_taken_locally, is_next_local}
use Rattle.xk_core.proofs.NextLocalLemmas.{unless_running, next_is}

-- activity a exists and runs
pub record Runs (w : World) (a : ℕ) : Type 0 where
  pub act : Activity
  pub there : slice_get w.activities a ≡ Some act
  pub running : act.status ≡ status.Running

-- who takes a local step does
pub runs : (m : ModuleValue) (w : World) (a : ℕ) → is_taken_locally (step m w a) ≡ true → Runs w a
runs m w a l = of (slice_get w.activities a) refl
  where
    idle : is_running w a ≡ false → Runs w a
    idle h = absurd (true≢false (sym l ∙ unless_running m w a h))

    by : (act : Activity) → slice_get w.activities a ≡ Some act → (s : Status) → act.status ≡ s → Runs w a
    by act there status.Running e = record { act = act; there = there; running = e }
    by act there status.Arrived e = idle (ap (λ o. option_map_or (λ (x : Activity). runs_now x.status) o false) there ∙ ap runs_now e)
    by act there status.Ended e = idle (ap (λ o. option_map_or (λ (x : Activity). runs_now x.status) o false) there ∙ ap runs_now e)

    of : (o : Option Activity) → slice_get w.activities a ≡ o → Runs w a
    of None e = idle (ap (λ o. option_map_or (λ (x : Activity). runs_now x.status) o false) e)
    of (Some act) e = by act e act.status refl

-- ---- what a step leaves alone

-- the activity of this number is as it was
abbrev Leaves : World → ℕ → Outcome → Type 0
Leaves w b Blocked = Unit {0}
Leaves w b (Wrong c) = Unit {0}
Leaves w b (Stepped v e) = slice_get v.activities b ≡ slice_get w.activities b

-- a step of another activity leaves it alone
leaves : (m : ModuleValue) (w : World) (a b : ℕ) → (b ≡ a → ⊥) → b < length w.activities → Leaves w b (step m w a)
leaves m w a b differs inside = step_kind (Leaves w b) m w a tt (λ c. tt) (λ act found alive. record {
  closed = λ n some nobody runs. get-set_other w.activities a b (left act n) differs;
  over = λ here alone. get-set_other w.activities a b (ended act) differs;
  arrives = get-set_other w.activities a b (arrived act) differs;
  done = λ next change e on quiet rests. get-set_other w.activities a b next differs;
  made = λ next on. get-set_other w.activities a b next differs;
  stored = λ s n e on quiet. get-set_other w.activities a b (onward act) differs;
  spawned = λ t args values at on. get-push_other (slice_set w.activities a (onward act)) (child m a act t values) b
      (λ e. absurd (omega (arith, e, inside, length-set w.activities a (onward act)))) ∙ get-set_other w.activities a b (onward act) differs;
})

-- who is there whose next step is local
local_within : (c : CoreValue) (b : ℕ) → is_next_local c b ≡ true → b < length c.world.activities
local_within c b l = (let r = runs c.module_run c.world b l in slice_get_within c.world.activities b r.act r.there)

-- what is local stays so by another's step: the frames alone tell of it, and they are as they were
pub stays_local : (c d : CoreValue) (a b : ℕ) (e : Event) → IsCore c.module_run c.world → IsCore d.module_run d.world → d.module_run ≡ c.module_run
    → step c.module_run c.world a ≡ Stepped d.world e → (b ≡ a → ⊥) → is_next_local c b ≡ true → is_next_local d b ≡ true
stays_local c d a b e before after same taken differs l =
    let r = runs c.module_run c.world b l in
    let there = subst (Leaves c.world b) taken (leaves c.module_run c.world a b differs (local_within c b l)) ∙ r.there in
    let later = subst (λ m. IsCore m d.world) same after in
    subst (λ m. is_taken_locally (step m d.world b) ≡ true) (sym same)
    (sym (next_is c.module_run later.limits later.accepted d.world later.reached b r.act there r.running)
    ∙ next_is c.module_run before.limits before.accepted c.world before.reached b r.act r.there r.running ∙ l)
