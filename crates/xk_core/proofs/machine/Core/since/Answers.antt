use Rattle.std.proofs.Common.{◌≡◌, ◌<◌, Some, length, slice_get, ◌∙◌, sym, subst, ap, arith}
use Rattle.std.specs.Prelude.{option_map}
use Rattle.std.proofs.lemmas.Option.{slice_get-get_or}
use Rattle.xk_types.specs.World.{Activity}
use Rattle.xk_activity.specs.Activities.{act_at, nobody}
use Rattle.xk_core.specs.Core.{CoreValue}
use Rattle.xk_core.proofs.FinishTreeLemmas.{since_told}
use Rattle.xk_core.proofs.FinishViewLemmas.{length_told}
use Rattle.xk_core.proofs.machine.Core.since.Goals as goal

pub since-requires : goal.since-requires
since-requires c =
    let lt : c.args.act < length c.self.inside.state.world.activities = omega (
      arith,
      subst (λ (v : CoreValue). c.args.act < length v.world.activities) (sym c.self.view_is) c.requires,
      length_told c.self.inside.finishes c.self.inside.state.world.activities c.self.invariant.1.width,
    ) in
    rw (c.activities.ensures.list, c.act.view_is) lt

pub returns : goal.returns
returns c =
    let acts = c.self.inside.state.world.activities in
    let lt : c.args.act < length acts = omega (
      arith,
      subst (λ (v : CoreValue). c.args.act < length v.world.activities) (sym c.self.view_is) c.requires,
      length_told c.self.inside.finishes acts c.self.invariant.1.width,
    ) in
    subst (λ (v : CoreValue). option_map (λ (x : Activity). x.since) (slice_get v.world.activities c.args.act) ≡ Some c.since.result) c.self.view_is
    (since_told c.self.inside.finishes c.self.inside.state.world c.self.invariant.1.width c.args.act
    ∙ ap (option_map (λ (x : Activity). x.since)) (slice_get-get_or acts c.args.act nobody lt)
    ∙ ap Some (ap (λ n. (act_at acts n).since) (sym c.act.view_is) ∙ ap (λ l. (act_at l c.act.inside.0).since) (sym c.activities.ensures.list) ∙ sym c.since.ensures.since))
