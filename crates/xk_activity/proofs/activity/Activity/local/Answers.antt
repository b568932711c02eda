use Rattle.std.proofs.Common.{subst, refl}
use Rattle.xk_activity.specs.StepAgreement.{with_frames}
use Rattle.xk_activity.specs.Activities.{ActivityValue, Takes, fresh}
use Rattle.xk_activity.proofs.ActivityListLemmas.{taken}
use Rattle.xk_activity.proofs.activity.Activity.local.Goals as goal

pub returns-clause-takes : goal.returns-clause-takes
returns-clause-takes c =
    let act = record (fresh c.self.inside.frames c.self.inside.since) { status = c.self.inside.status } in
    subst (λ (v : ActivityValue). Takes v.module_run v.act c.local.result (with_frames act c.local.new.self)) c.self.view_is
    (taken c.self.inside.frames c.local.new.self act c.local.result refl c.local.ensures.does)
