use Rattle.std.proofs.Common.{◌∙◌, List, ℕ, get_or, sym, subst, arith}
use Rattle.xk_scheduler.specs.Rosters.{roster_of}
use Rattle.xk_scheduler.specs.Waiters.{AreAsked}
use Rattle.xk_scheduler.proofs.RosterLemmas.{asked_length, out_at}
use Rattle.xk_scheduler.proofs.WakeLemmas.{from_place, once_asked}
use Rattle.xk_scheduler.proofs.roster.ask_each.Goals as goal

pub ask_anew-requires-clause-out : goal.ask_anew-requires-clause-out
ask_anew-requires-clause-out c =
    let h = c.loop-act.invariant in
    out_at c.args.core.now.world c.args.acts.now c.loop-act.act-index (roster_of c.args.enabled.now c.args.waiting.now) (roster_of c.loop-act.enabled c.loop-act.waiting)
    c.loop-act-test.true c.requires.out h.room h.clocks h.once

pub loop-act-preserved : goal.loop-act-preserved
loop-act-preserved c =
    let acts = c.args.acts.now in
    let i = c.loop-act.act-index in
    let v = c.args.core.now.world in
    let h = c.loop-act.invariant in
    let list = c.loop-act.enabled.members in
    let lists = c.loop-act.waiting.lists in
    let mid = c.ask_anew.new.enabled.members in
    let between = c.ask_anew.new.waiting.lists in
    record {
      asked = λ next later rest. h.asked next later (subst (λ (l : List ℕ). AreAsked v l list lists next later) (sym (from_place acts i c.loop-act-test.true))
          (mid, between, c.ask_anew.ensures.asked, rest));
      once = once_asked v acts i list lists mid between c.loop-act-test.true (omega (arith, c.requires.out.room.clocks, h.clocks)) h.once c.ask_anew.ensures.asked;
      kept = c.ask_anew.ensures.kept ∙ h.kept;
      room = c.ask_anew.ensures.room ∙ h.room;
      clocks = asked_length v (get_or acts i 0) list lists mid between c.ask_anew.ensures.asked ∙ h.clocks;
    }
