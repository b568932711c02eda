use Rattle.std.proofs.Common.{◌∙◌, ap, arith}
use Rattle.xk_live_slots.specs.LiveSlots.{live_of}
use Rattle.xk_digests.specs.Digest.{with_values}
use Rattle.xk_digests.proofs.LikenessLemmas.{all_masked}
use Rattle.xk_digests.proofs.digest.with_slots.Goals as goal

pub returns : goal.returns
returns c =
    let frame = c.args.frames.now.frame in
    c.loop-s.invariant ∙ ap (with_values c.args.digest) (all_masked (live_of c.args.live.now frame.unit c.args.place) frame.slots c.loop-s.s
    (omega (arith, c.slot_count-s-end.ensures, c.loop-s-test.false)))
