use Rattle.std.proofs.Common.{sym}
use Rattle.std.proofs.lemmas.Bool.{false≢true}
use Rattle.xk_live_slots.specs.LiveSlots.{live_of}
use Rattle.xk_rank_digests.proofs.RankLikenessLemmas.{left_alike, left_acts, left_clocks, left_many}
use Rattle.xk_rank_digests.proofs.likeness.is_same_left.Goals as goal

pub returns-then-not-has_as_many : goal.returns-then-not-has_as_many
returns-then-not-has_as_many c = (
  λ q. absurd (false≢true q),
  λ h.
      let yes = c.has_as_many.ensures.1 (left_many (live_of c.args.live.now) c.args.one.now.world c.args.other.now.world h) in
      let no = c.if-not-has_as_many.true in
      cc,
)

pub returns-then-not-are_same_clocks : goal.returns-then-not-are_same_clocks
returns-then-not-are_same_clocks c = (
  λ q. absurd (false≢true q),
  λ h.
      let yes = c.are_same_clocks.ensures.1 (left_clocks (live_of c.args.live.now) c.args.one.now.world c.args.other.now.world h) in
      let no = c.if-not-are_same_clocks.true in
      cc,
)

pub are_same_clocks-requires-clause-many : goal.are_same_clocks-requires-clause-many
are_same_clocks-requires-clause-many c = sym (c.has_as_many.ensures.0 c.if-not-has_as_many.false).0

pub are_same_clocks-requires-clause-clocks : goal.are_same_clocks-requires-clause-clocks
are_same_clocks-requires-clause-clocks c = sym (c.has_as_many.ensures.0 c.if-not-has_as_many.false).1

pub are_same_activities-requires-clause-many : goal.are_same_activities-requires-clause-many
are_same_activities-requires-clause-many c = sym (c.has_as_many.ensures.0 c.if-not-has_as_many.false).0

pub returns : goal.returns
returns c = (
  λ q. left_alike (live_of c.args.live.now) c.args.one.now.world c.args.other.now.world
      (c.has_as_many.ensures.0 c.if-not-has_as_many.false) (c.are_same_clocks.ensures.0 c.if-not-are_same_clocks.false)
      (c.in_ok-same.ensures.0 q),
  λ h. c.in_ok-same.ensures.1 (left_acts (live_of c.args.live.now) c.args.one.now.world c.args.other.now.world h),
)
