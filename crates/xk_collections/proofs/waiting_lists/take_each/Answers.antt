use Rattle.std.proofs.Common.{◌∙◌, ◌<◌, length, get_or, arith}
use Rattle.std.proofs.lemmas.List.Elements.{All-get_or}
use Rattle.xk_collections.proofs.ListRemovalLemmas.{apart_fits, apart_more, taking_more}
use Rattle.xk_collections.proofs.waiting_lists.take_each.Goals as goal

pub take_one-requires-clause-capacity : goal.take_one-requires-clause-capacity
take_one-requires-clause-capacity c =
    let i = c.loop-clock.clock-index in
    let h = c.loop-clock.invariant in
    omega (
      arith,
      apart_fits c.args.lists.now.room c.loop-clock.shown.items c.loop-clock.lists.lists (get_or c.args.clocks.now i 0) h.apart,
      h.capacity,
      c.requires.capacity,
    )

pub loop-clock-preserved : goal.loop-clock-preserved
loop-clock-preserved c =
    let clocks = c.args.clocks.now in
    let i = c.loop-clock.clock-index in
    let h = c.loop-clock.invariant in
    let now = c.loop-clock.lists.lists in
    let k = get_or clocks i 0 in
    let there : k < length c.args.lists.now.lists = All-get_or (λ x. x < length c.args.lists.now.lists) clocks i 0 c.loop-clock-test.true c.requires.clocks in
    record {
      taking = taking_more c.args.shown.now.items c.args.lists.now.lists clocks i c.loop-clock.shown.items c.take_one.new.shown.items now c.take_one.new.self.lists
          c.loop-clock-test.true h.taking c.take_one.ensures.shown c.take_one.ensures.lists;
      apart = apart_more c.args.lists.now.room c.loop-clock.shown.items c.take_one.new.shown.items now c.take_one.new.self.lists k h.apart
          (omega (arith, there, h.taking.same)) c.take_one.ensures.shown c.take_one.ensures.lists;
      room = c.take_one.ensures.room ∙ h.room;
      capacity = omega (arith, h.capacity, c.take_one.ensures.capacity);
    }
