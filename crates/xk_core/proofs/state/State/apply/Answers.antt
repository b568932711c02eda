use Rattle.std.proofs.Common.{◌≡◌, inl, length, refl, sym, subst}
use Rattle.xk_activity.specs.Local.{FramesValue, Stepped, local, ran}
use Rattle.xk_activity.specs.StepAgreement.{frames_in, with_frames}
use Rattle.xk_activity.specs.Activities.{act_at}
use Rattle.xk_core.specs.State.{StateValue, core_of}
use Rattle.xk_core.specs.TicketAcceptance.{HasOldFrames}
use Rattle.xk_registrations.specs.Standings.{rooms_of}
use Rattle.xk_core.proofs.ReservationLemmas.{kept_by, runs_base}
use Rattle.xk_core.proofs.state.State.apply.Goals as goal

pub invariant_of-self : goal.invariant_of-self
invariant_of-self c =
    let v = c.self.inside.activities in
    let t = c.args.ticket in
    let x = act_at v.list t.act in
    let n = length c.self.inside.standings.held in
    let r = rooms_of c.self.inside.standings in
    let same : frames_in v.module_run x ≡ t.old = subst (λ (u : StateValue). HasOldFrames (core_of u) t) (sym c.self.view_is) c.requires.before.1 in
    let walked : ran local (frames_in v.module_run x) c.steps.result ≡ Stepped t.new =
    subst (λ (fs : FramesValue). ran local fs c.steps.result ≡ Stepped t.new) (sym same) c.steps.ensures.walked.ran in
    kept_by v c.apply.new.self n n r r t.act (with_frames x t.new) c.self.invariant c.apply.ensures refl refl
    (runs_base v.module_run x (with_frames x t.new) c.steps.result c.steps.result (record { frames = t.new; ran = walked; is = refl; stops = inl refl }))
