use Rattle.std.proofs.Common.{◌≡◌, ◌∙◌, ◌+◌, ◌≤◌, length, List, ℕ, ap, sym, subst, arith}
use Rattle.xk_collections.specs.WaitingLists.{left, taken, times, times_in_all}
use Rattle.xk_collections.proofs.RemainderLemmas.{left_length}
use Rattle.xk_core.specs.Core.{advanced_now}
use Rattle.xk_scheduler.specs.Rosters.{AreThere, roster_of}
use Rattle.xk_scheduler.proofs.RosterLemmas.{each_length, out_taken}
use Rattle.xk_scheduler.proofs.WakeLemmas.{all_there}
use Rattle.xk_scheduler.proofs.roster.Roster.ask_woken.Goals as goal

pub take-requires-clause-clocks : goal.take-requires-clause-clocks
take-requires-clause-clocks c =
    let w = c.args.core.now.world in
    let here = subst (AreThere w) (sym c.self.view_is) c.requires in
    all_there w c.self.inside.waiting.lists c.list_advanced.new.list.items c.deref.result.now here.room.clocks c.list_advanced.ensures.items c.deref.ensures.value

pub ask_each-requires-clause-out : goal.ask_each-requires-clause-out
ask_each-requires-clause-out c =
    let w = c.args.core.now.world in
    let d = c.self.inside in
    let clocks : c.deref.result.now ≡ advanced_now w = c.deref.ensures.value ∙ c.list_advanced.ensures.items in
    out_taken w (roster_of d.enabled d.waiting) (roster_of d.enabled c.take.new.self) c.deref-2.result.now (subst (AreThere w) (sym c.self.view_is) c.requires)
    (c.deref-2.ensures.value ∙ c.take.ensures.shown ∙ ap (taken d.waiting.lists) clocks) (c.take.ensures.lists ∙ ap (left d.waiting.lists) clocks) c.take.ensures.room
    (λ b. subst (λ (l : List ℕ). times b l + times_in_all b c.take.new.self.lists ≤ 1) (sym c.deref-2.ensures.value) (c.take.ensures.once b))

pub invariant_of-self : goal.invariant_of-self
invariant_of-self c =
    let d = c.self.inside in
    record {
      set = omega (arith, c.self.invariant.set, c.ask_each.ensures.kept, c.ask_each.ensures.room, c.take.ensures.room);
      acts = omega (arith, c.self.invariant.acts, c.take.ensures.capacity, c.ask_each.ensures.room, c.take.ensures.room);
      clocks = omega (
        arith,
        c.self.invariant.clocks,
        c.list_advanced.ensures.room,
        each_length c.args.core.now.world c.deref-2.result.now d.enabled.members c.take.new.self.lists c.ask_each.new.enabled.members c.ask_each.new.waiting.lists c.ask_each.ensures.asked,
        ap length c.take.ensures.lists,
        left_length d.waiting.lists c.deref.result.now,
      );
    }
