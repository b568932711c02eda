use Rattle.std.proofs.Common.{length, refl, sym, subst, arith}
use Rattle.xk_activity.specs.Local.{IsSafe, local}
use Rattle.xk_activity.specs.StepAgreement.{frames_in}
use Rattle.xk_activity.specs.Activities.{act_at}
use Rattle.xk_core.specs.State.{StateValue, core_of}
use Rattle.xk_core.specs.LocalRun.{HasRoomForSteps}
use Rattle.xk_registrations.specs.Standings.{rooms_of}
use Rattle.xk_core.proofs.ReservationLemmas.{kept_by, runs_base}
use Rattle.xk_core.proofs.state.State.run.Goals as goal

pub run-n-requires-clause-safe : goal.run-n-requires-clause-safe
run-n-requires-clause-safe c =
    subst (λ (v : StateValue). IsSafe local (frames_in v.module_run (act_at v.world.activities c.args.a))) (sym c.self.view_is) c.requires.safe

pub overflow_add-self : goal.overflow_add-self
overflow_add-self c =
    let room = subst (λ (v : StateValue). HasRoomForSteps (core_of v) c.args.a) (sym c.self.view_is) c.requires.steps in
    let fits = room c.run-n.result c.run-n.ensures.runs.frames c.run-n.ensures.runs.ran in
    omega (arith, fits)

pub invariant_of-self : goal.invariant_of-self
invariant_of-self c =
    let v = c.self.inside.activities in
    let new = c.run-n.new.self in
    let n = length c.self.inside.standings.held in
    let r = rooms_of c.self.inside.standings in
    kept_by v new n n r r c.args.a (act_at new.list c.args.a) c.self.invariant c.run-n.ensures.others refl refl
    (runs_base v.module_run (act_at v.list c.args.a) (act_at new.list c.args.a) c.args.max c.run-n.result c.run-n.ensures.runs)
