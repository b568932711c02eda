use Rattle.std.proofs.Common.{◌∙◌, ap, refl, arith, sym}
use Rattle.std.proofs.lemmas.Bool.{false≢true}
use Rattle.xk_live_slots.specs.LiveSlots.{live_of}
use Rattle.xk_liveness.proofs.MaskLemmas.{agree_get}
use Rattle.xk_digests.proofs.LikenessLemmas.{masked_same, same_length}
use Rattle.xk_digests.proofs.frames.are_same_slots.Goals as goal

pub returns-then-slot_count-count : goal.returns-then-slot_count-count
returns-then-slot_count-count c = (
  λ q. absurd (false≢true q),
  λ h.
      let frame = c.args.frames.now.frame in
      let same = same_length (live_of c.args.live.now frame.unit c.args.place) frame.slots c.args.others.now.frame.slots h in
      let count = c.slot_count-count.ensures in
      let others = c.slot_count.ensures in
      let no = c.if-slot_count-count.true in
      absurd (omega (arith, same, count, others, no)),
)

pub returns-then-not-is_same_slot : goal.returns-then-not-is_same_slot
returns-then-not-is_same_slot c = (
  λ q. absurd (false≢true q),
  λ h.
      let frame = c.args.frames.now.frame in
      let live = ap (λ u. live_of c.args.live.now u c.args.place c.loop-s.s) (sym c.unit.ensures)
      ∙ (sym c.is_live.ensures ∙ c.if-is_live.true) in
      let yes = c.is_same_slot.ensures.1 (agree_get (live_of c.args.live.now frame.unit c.args.place)
      frame.slots c.args.others.now.frame.slots h c.loop-s.s live) in
      let no = c.if-not-is_same_slot.true in
      cc,
)

pub returns : goal.returns
returns c = (
  λ q.
      let frame = c.args.frames.now.frame in
      masked_same (live_of c.args.live.now frame.unit c.args.place) frame.slots c.args.others.now.frame.slots
      (let count = c.slot_count-count.ensures in let others = c.slot_count.ensures in let same = c.if-slot_count-count.false in
      omega (arith, count, others, same))
      (λ s lt live. c.loop-s.invariant s (omega (arith, lt, c.slot_count-count.ensures, c.loop-s-test.false)) live),
  λ e. refl,
)
