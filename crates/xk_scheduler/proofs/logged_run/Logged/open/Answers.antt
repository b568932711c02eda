use Rattle.std.proofs.Common.{◌≡◌, subst, sym, refl}
use Rattle.xk_core.specs.Core.{CoreValue}
use Rattle.xk_scheduler.proofs.TurnLemmas.{run_starts}
use Rattle.xk_scheduler.proofs.logged_run.Logged.open.Goals as goal

pub invariant_of-result : goal.invariant_of-result
invariant_of-result c = rw (c.new-2.ensures.items, c.new-3.ensures.items)
    (record {
      run = run_starts c.in_ok-new.field-0.module_run c.in_ok-new.field-0 refl c.in_ok-new.ensures.taken
          (c.in_ok-new.ensures.opening (subst (λ (v : CoreValue). v.world.steps ≡ 0) (sym c.in_ok-new.ensures.same) c.requires));
    })
