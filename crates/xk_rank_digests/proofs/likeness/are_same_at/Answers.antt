use Rattle.xk_live_slots.specs.LiveSlots.{live_of}
use Rattle.xk_rank_digests.proofs.RankLikenessLemmas.{at_rank}
use Rattle.xk_rank_digests.proofs.likeness.are_same_at.Goals as goal

pub returns : goal.returns
returns c = at_rank (live_of c.args.live.now) c.args.one.now.world c.args.other.now.world c.args.place
    c.act_of-act.result c.act_of-there.result c.act_of-act.ensures.of c.act_of-there.ensures.of c.in_ok-same.same c.in_ok-same.ensures
