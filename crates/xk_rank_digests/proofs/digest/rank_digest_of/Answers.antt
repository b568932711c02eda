use Rattle.std.proofs.Common.{ap, ◌<◌, length, ◌∙◌, arith}
use Rattle.std.specs.Prelude.{fold}
use Rattle.std.proofs.lemmas.List.{take_all}
use Rattle.xk_live_slots.specs.LiveSlots.{live_of}
use Rattle.xk_digests.specs.Digest.{with_numbers}
use Rattle.xk_rank_digests.proofs.Stepwise.{with_going}
use Rattle.xk_rank_digests.proofs.RankDigestLemmas.{more_living, more_ended, stepwise}
use Rattle.xk_rank_digests.proofs.digest.rank_digest_of.Goals as goal
use Rattle.xk_rank_digests.proofs.digest.rank_digest_of.Goals.{then-is_living, else-is_living}

pub loop-a-preserved : goal.loop-a-preserved
loop-a-preserved c =
    let live = live_of c.args.live.now in
    let w = c.args.core.now.world in
    let first = with_numbers (with_numbers 0 c.args.printed.now) c.args.cells.now in
    let inside : c.loop-a.a < length w.activities = omega (arith, c.loop-a-test.true, c.activities-a-end.ensures.count) in
    elim c.if-is_living.branch [
      | then-is_living b ↦ more_living live first w c.loop-a.a c.loop-a.digest c.if-is_living.digest inside c.is_living.result
          c.is_living.ensures c.loop-a.invariant b.if-is_living.true (b.digest-is ∙ b.with_activity-digest.ensures)
      | else-is_living b ↦ more_ended live first w c.loop-a.a c.loop-a.digest c.if-is_living.digest inside c.is_living.result
          c.is_living.ensures c.loop-a.invariant b.if-is_living.false b.digest-is
    ]

pub returns : goal.returns
returns c =
    let live = live_of c.args.live.now in
    let w = c.args.core.now.world in
    let first = with_numbers (with_numbers 0 c.args.printed.now) c.args.cells.now in
    c.loop-a.invariant
    ∙ ap (fold (with_going live) first) (take_all c.loop-a.a w.activities (omega (arith, c.loop-a-test.false, c.activities-a-end.ensures.count)))
    ∙ stepwise live (record w { cells = c.args.cells.now }) c.args.printed.now
