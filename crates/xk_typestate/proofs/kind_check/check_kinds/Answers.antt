-- of a module whose kinds are in order nothing is told but want of memory
use Rattle.std.proofs.Common.{◌≡◌, refl, subst}
use Rattle.xk_types.specs.Code.{ModuleValue}
use Rattle.xk_typestate.specs.declared.fault.KindError.{KindError}
use Rattle.xk_typestate.specs.declared.fault.KindError.TheVariants.{Fault, OutOfMemory}
use Rattle.xk_typestate.specs.Place.{visit}
use Rattle.xk_typestate.specs.LeastRefusal.{IsNeverRefused, FailsModule}
use Rattle.xk_typestate.proofs.kind_check.check_kinds.Goals as goal

refused_by_memory : (m : ModuleValue) (e : KindError) → IsNeverRefused m → FailsModule m e → e ≡ OutOfMemory
refused_by_memory m (Fault f) never h = absurd (never f.unit f.slot (visit f.at f.kind) f.rule h.refused)
refused_by_memory m OutOfMemory never h = refl

pub returns-in-Ok-clause-accepted : goal.returns-in-Ok-clause-accepted
returns-in-Ok-clause-accepted c = (refl, subst IsNeverRefused c.module.ensures.same c.in-Ok.ensures.never)

pub returns-in-Err-clause-never_wrongly : goal.returns-in-Err-clause-never_wrongly
returns-in-Err-clause-never_wrongly c = λ never.
    refused_by_memory c.args.shaped c.in-Err.error never (subst (λ x. FailsModule x c.in-Err.error) c.module.ensures.same c.in-Err.ensures)
