use Rattle.std.proofs.Common.{◌≡◌, ◌∙◌, ◌<◌, ◌++◌, length, replicate, get_or, ap, sym, subst, arith, string_bytes}
use Rattle.xk_types.specs.declared.world.Entry.{Entry}
use Rattle.xk_types.specs.World.{World}
use Rattle.xk_types.specs.Schedule.{Through, run}
use Rattle.xk_core.specs.Core.{opening_core}
use Rattle.xk_replay.specs.Chart.{chart_lines}
use Rattle.xk_replay.proofs.ChartLineLemmas.{chart_starts, entry_legal, entry_charted}
use Rattle.xk_replay.proofs.clock_chart.chart.Goals as goal

pub loop-entry-init : goal.loop-entry-init
loop-entry-init c =
    let e = c.args.ended.now in
    record {
      charted = chart_starts e.module.now e.log.items e.printed.items c.in_ok-core.core e.core (string_bytes c.new-text.result) e.run
          (c.in_ok-core.ensures ∙ ap (opening_core e.module.now) c.arguments.ensures) c.new-text.ensures.bytes;
      living = c.in_ok-lists.ensures;
    }

pub put_entry-requires-clause-legal : goal.put_entry-requires-clause-legal
put_entry-requires-clause-legal c =
    let log = c.args.ended.now.log.items in
    let i = c.loop-entry.entry-index in
    let x = c.entry-item.result in
    let d = c.loop-entry.core in
    let is : x ≡ get_or log i x = c.entry-item.is ∙ ap (λ l. get_or l i x) c.deref-entry-items.ensures.value in
    let lt : i < length log = omega (arith, ap length c.deref-entry-items.ensures.value) in
    subst (λ (z : Entry). (u : World) × (run d.module_run (replicate z.steps z.act) d.world ≡ Through u)) (sym is)
    (entry_legal c.args.ended.now.module.now c.args.ended.now.core.world.arguments log i x d (string_bytes c.loop-entry.text) lt c.loop-entry.invariant.charted)

pub put_entry-requires-clause-living : goal.put_entry-requires-clause-living
put_entry-requires-clause-living c = c.loop-entry.invariant.living

pub loop-entry-preserved : goal.loop-entry-preserved
loop-entry-preserved c =
    let log = c.args.ended.now.log.items in
    let i = c.loop-entry.entry-index in
    let x = c.entry-item.result in
    let d = c.loop-entry.core in
    let text = string_bytes c.loop-entry.text in
    let more = string_bytes c.put_entry.new.text in
    let is : x ≡ get_or log i x = c.entry-item.is ∙ ap (λ l. get_or l i x) c.deref-entry-items.ensures.value in
    let lt : i < length log = omega (arith, ap length c.deref-entry-items.ensures.value) in
    record {
      charted = entry_charted c.args.ended.now.module.now c.args.ended.now.core.world.arguments log i x d c.put_entry.new.core text more lt c.loop-entry.invariant.charted
          (subst (λ (z : Entry). run d.module_run (replicate z.steps z.act) d.world ≡ Through c.put_entry.new.core.world) is c.in_ok-put_entry.ensures.led)
          c.put_entry.ensures.same_module
          (subst (λ (z : Entry). more ≡ text ++ chart_lines d.module_run (replicate z.steps z.act) d.world) is c.in_ok-put_entry.ensures.lines);
      living = c.in_ok-put_entry.ensures.living;
    }
