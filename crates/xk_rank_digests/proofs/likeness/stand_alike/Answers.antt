use Rattle.std.proofs.Common.{◌≡◌, Some, option_map, slice_get, subst}
use Rattle.xk_types.specs.World.{Clock, standing_of}
use Rattle.xk_core.specs.Core.{CoreValue}
use Rattle.xk_rank_digests.proofs.RankLikenessLemmas.{stand_decided}
use Rattle.xk_rank_digests.proofs.likeness.stand_alike.Goals as goal

pub returns : goal.returns
returns c =
    stand_decided c.args.one.now.world c.args.other.now.world c.args.clock c.act_of-act.result c.act_of-there.result c.args.place
    c.standing-standing.result c.standing-second.result c.act_of-act.ensures.of c.act_of-there.ensures.of
    (subst (λ (v : CoreValue). option_map (λ (z : Clock). standing_of z c.act_of-act.result) (slice_get v.world.clocks c.args.clock)
    ≡ Some c.standing-standing.result) c.core-core.ensures c.standing-standing.ensures)
    (subst (λ (v : CoreValue). option_map (λ (z : Clock). standing_of z c.act_of-there.result) (slice_get v.world.clocks c.args.clock)
    ≡ Some c.standing-second.result) c.core-others.ensures c.standing-second.ensures)
    c.is_same_standing.result c.is_same_standing.ensures
