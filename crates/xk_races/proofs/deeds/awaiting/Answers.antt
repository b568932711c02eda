-- Where none has to be asked about, no clock is; else all those that await the activity are listed.
use Rattle.std.proofs.Common.{◌≡◌, ◌∙◌, length, sym, ap, arith}
use Rattle.xk_show_events.specs.Worlds.{those_below}
use Rattle.xk_races.specs.Deeds.{at_clocks, awaiting, awaits}
use Rattle.xk_races.proofs.ClockStepLemmas.{none_awaiting}
use Rattle.xk_races.proofs.deeds.awaiting.Goals as goal

pub returns-then-not-may_concern_clocks : goal.returns-then-not-may_concern_clocks
returns-then-not-may_concern_clocks c =
    none_awaiting c.args.core.now.module_run c.args.core.now.world c.args.act _ c.new-list.result.items c.requires
    (sym c.if-not-may_concern_clocks.ensures)

pub returns : goal.returns
returns c =
    let w = c.args.core.now.world in
    let all : c.loop-clock.clock ≡ length w.clocks = omega (arith, c.clocks-clock-end.ensures) in
    let same : c.loop-clock.list.items ≡ awaiting w c.args.act = c.loop-clock.invariant ∙ ap (those_below (awaits w c.args.act)) all in
    λ v s resumed e takes. ap (λ q. at_clocks v s resumed q e) same
