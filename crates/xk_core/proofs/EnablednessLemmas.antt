-- Who is able, and isn't kept, is enabled.
use Rattle.std.proofs.Common.{◌≡◌, ◌∙◌, ℕ, Bool, true, false, not, ◌&&◌, Option, Some, None, slice_get, cond, refl, sym, ap}
use Rattle.xk_types.specs.declared.instr.Instr.{Instr}
use Rattle.xk_types.specs.declared.instr.Instr.TheVariants as instr
use Rattle.xk_types.specs.declared.world.Status.{Status}
use Rattle.xk_types.specs.declared.world.Status.TheVariants as status
use Rattle.xk_types.specs.Code.{ModuleValue}
use Rattle.xk_types.specs.World.{Activity, World, instruction_at}
use Rattle.xk_types.specs.Step.{Outcome, Blocked, waits, step_by, step_of, run_at}
use Rattle.xk_types.specs.Schedule.{is_step, is_enabled}
use Rattle.xk_types.specs.Acceptance.{IsAccepted}
use Rattle.xk_law_schedules.proofs.Invariant.{IsSound}
use Rattle.xk_law_schedules.proofs.ScopeLemmas.Invariant.{IsScoped}
use Rattle.xk_law_schedules.proofs.SafetyLemmas.InstructionLemmas.{standing_at, instruction_found}
use Rattle.xk_law_schedules.proofs.SafetyLemmas.StepLemmas.{running_enabled}
use Rattle.std.proofs.lemmas.Option.{none-some}
use Rattle.xk_core.specs.Core.{instruction_by, instruction_of}
use Rattle.xk_core.specs.Enabledness.{able_by, able_of, is_able, kept_by, is_kept}

-- at an `advance` the wait decides
waiting : (b : Bool) (o : Outcome) → is_step o ≡ true → (not b && true) ≡ is_step (cond b Blocked o)
waiting true o h = refl
waiting false o h = sym h

-- what keeps back who runs
kept_is : (m : ModuleValue) (ok : IsAccepted m) (w : World) (sound : IsSound m w) (scoped : IsScoped m w) (a : ℕ) (act : Activity) (i : Instr)
    → kept_by w a (Some act) (Some i) ≡ Rattle.xk_law_schedules.proofs.SafetyLemmas.StepLemmas.is_kept m ok w sound scoped a act i
kept_is m ok w sound scoped a act (instr.EndFinish b) = refl
kept_is m ok w sound scoped a act _ = refl

-- who is able and isn't kept is enabled, and nobody else
pub able_enabled : (m : ModuleValue) → IsAccepted m → (w : World) → IsSound m w → IsScoped m w → (a : ℕ) → (is_able w a && not (is_kept m w a)) ≡ is_enabled m w a
able_enabled m ok w sound scoped a = of (slice_get w.activities a) refl
  where
    runs : (act : Activity) → slice_get w.activities a ≡ Some act → act.status ≡ status.Running → (o : Option Instr) → instruction_at m act.frame ≡ o
        → not (kept_by w a (Some act) o) ≡ is_step (run_at m w a act o)
    runs act there e None f = (let i = standing_at m ok w a act sound there e in absurd (none-some i.0 (sym f ∙ instruction_found m ok w a act sound there e i.0 i.1)))
    runs act there e (Some i) f = ap not (kept_is m ok w sound scoped a act i) ∙ sym (running_enabled m ok w sound scoped a act there e i f)
        ∙ ap (λ o. is_step (step_of m w a o)) there ∙ ap (λ s. is_step (step_by m w a act s)) e ∙ ap (λ o. is_step (run_at m w a act o)) f

    by : (act : Activity) → slice_get w.activities a ≡ Some act → (s : Status) → act.status ≡ s
        → (able_by w a s && not (kept_by w a (Some act) (instruction_by m act s))) ≡ is_step (step_by m w a act s)
    by act there status.Running e = runs act there e (instruction_at m act.frame) refl
    by act there status.Arrived e = waiting (waits w a) _ refl
    by act there status.Ended e = refl

    of : (o : Option Activity) → slice_get w.activities a ≡ o → (able_of w a o && not (kept_by w a o (instruction_of m o))) ≡ is_step (step_of m w a o)
    of None e = refl
    of (Some act) e = by act e act.status refl
