use Rattle.std.specs.Vec.{vec_capacity}
use Rattle.std.proofs.Common.{refl, sym, subst}
use Rattle.xk_activity.specs.Local.{IsSafe, local}
use Rattle.xk_activity.specs.StepAgreement.{frames_in}
use Rattle.xk_activity.specs.Activities.{ActivityValue, Runs, fresh}
use Rattle.xk_activity.proofs.ActivityListLemmas.{at_read, at_both, changed_itself}
use Rattle.xk_activity.proofs.activities.Activities.run.Goals as goal

pub run-requires : goal.run-requires
run-requires c =
    let s = c.self.inside in
    subst (λ (x : ActivityValue). IsSafe local (frames_in x.module_run x.act)) (sym c.act.view_is)
    (at_read s.verified.now s.list.items (vec_capacity s.list) c.args.a c.index_mut-act.result.now c.args.self.now c.self.view_is c.requires.there
    c.index_mut-act.ensures.value (λ m act. IsSafe local (frames_in m act)) c.self.invariant c.requires.safe)

pub returns-clause-runs : goal.returns-clause-runs
returns-clause-runs c =
    let s = c.self.inside in
    let act = record (fresh c.run.new.self c.act.inside.since) { status = c.act.inside.status } in
    at_both s.verified.now s.list.items (vec_capacity s.list) c.args.a c.index_mut-act.result.now c.args.self.now c.self.view_is c.requires.there
    c.index_mut-act.ensures.value (record { module_run = c.run.new.self.module_run; act = act }) (λ m old new. Runs m old c.args.max c.run.result new)
    c.self.invariant
    (subst (λ (v : ActivityValue). Runs v.module_run v.act c.args.max c.run.result act) c.act.view_is
    (record { frames = c.run.new.self; ran = c.run.ensures.ran; is = refl; stops = c.run.ensures.stops }))

pub returns-clause-others : goal.returns-clause-others
returns-clause-others c =
    let s = c.self.inside in
    let act = record (fresh c.run.new.self c.act.inside.since) { status = c.act.inside.status } in
    changed_itself s.verified.now s.list.items (vec_capacity s.list) c.args.a c.index_mut-act.result.now c.args.self.now c.self.view_is c.requires.there
    c.index_mut-act.ensures.value (record { module_run = c.run.new.self.module_run; act = act })
