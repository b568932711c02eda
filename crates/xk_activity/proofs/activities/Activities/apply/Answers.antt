use Rattle.std.proofs.Common.{◌≡◌, ℕ, ◌<◌, length, ap, subst, sym, ◌∙◌}
use Rattle.std.specs.Vec.{vec_capacity}
use Rattle.xk_activity.specs.StepAgreement.{with_frames}
use Rattle.xk_types.specs.World.{Activity}
use Rattle.xk_activity.specs.Activities.{act_at, with_act_at}
use Rattle.xk_activity.proofs.ActivityListLemmas.{at_is, changed}
use Rattle.xk_activity.proofs.activities.Activities.apply.Goals as goal

pub returns : goal.returns
returns c =
    let e : c.index_mut.inside.0 ≡ c.args.ticket.act = c.index_mut.view_is ∙ c.act.ensures in
    let lt : c.index_mut.inside.0 < length c.args.self.now.list = subst (λ (k : ℕ). k < length c.args.self.now.list) (sym e) c.requires.0 in
    let is = at_is c.self.inside.verified.now c.self.inside.list.items (vec_capacity c.self.inside.list) c.index_mut.inside.0 c.index_mut-act.result.now c.args.self.now
    c.self.view_is lt c.index_mut-act.ensures.value in
    changed c.self.inside.verified.now c.self.inside.list.items (vec_capacity c.self.inside.list) c.index_mut.inside.0 c.index_mut-act.result.now c.args.self.now
    c.self.view_is lt c.index_mut-act.ensures.value c.put_frames.new.self (with_frames (act_at c.args.self.now.list c.index_mut.inside.0) c.args.ticket.new)
    (c.put_frames.ensures.activity ∙ (ap (with_frames c.index_mut-act.result.now.act) c.into_new.ensures.new ∙ ap (λ (x : Activity). with_frames x c.args.ticket.new) (sym is)))
    ∙ ap (λ (k : ℕ). with_act_at c.args.self.now k (with_frames (act_at c.args.self.now.list k) c.args.ticket.new)) e
