use Rattle.std.proofs.Common.{◌≡◌, None, slice_get, subst}
use Rattle.xk_collections.specs.NumberSets.{place_above}
use Rattle.xk_scheduler.specs.Choosers.{enabled_in}
use Rattle.xk_workers.specs.Run.{RunValue}
use Rattle.xk_workers.proofs.RunLemmas.{alone_fresh}
use Rattle.xk_workers.proofs.run.Run.above.Goals as goal

pub returns-in-Fresh : goal.returns-in-Fresh
returns-in-Fresh c =
    subst (λ (r : RunValue). None ≡ slice_get (enabled_in r.core.module_run r.core.world) (place_above c.args.act (enabled_in r.core.module_run r.core.world))) c.self.view_is
    (alone_fresh c.self.inside.stage c.in-Fresh.field-0 c.args.act c.in-Fresh.is c.self.invariant.0)
