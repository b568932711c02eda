use Rattle.std.proofs.Common.{◌≡◌, ◌∙◌, suc, ◌+◌, ◌-◌, ◌++◌, replicate, subst, sym, arith, string_bytes}
use Rattle.xk_types.specs.Step.{Stepped, step}
use Rattle.xk_types.specs.Schedule.{run}
use Rattle.xk_replay.specs.Chart.{AreLiving, chart_lines}
use Rattle.xk_replay.proofs.ChartLineLemmas.{rest_run, rest_lines}
use Rattle.xk_replay.proofs.LivingLemmas.{living_step, stepped_room, stepped_there}
use Rattle.xk_replay.proofs.clock_chart.put_entry.Goals as goal

pub note-requires-clause-act : goal.note-requires-clause-act
note-requires-clause-act c = stepped_there c.loop-done.core c.step.new.self c.args.entry.act c.in_ok-event.event c.in_ok-event.ensures.stepped

pub note-requires-clause-room : goal.note-requires-clause-room
note-requires-clause-room c =
    stepped_room c.loop-done.core c.step.new.self c.args.entry.act c.in_ok-event.event c.loop-done.lists.living c.loop-done.invariant.3 c.in_ok-event.ensures.stepped

pub put_advances-requires : goal.put_advances-requires
put_advances-requires c =
    living_step c.loop-done.core c.step.new.self c.args.entry.act c.in_ok-event.event c.loop-done.lists.living c.note.new.self.living c.loop-done.invariant.3
    c.step.ensures.same_module c.in_ok-event.ensures.stepped c.note.ensures.living c.note.ensures.room

pub loop-done-preserved : goal.loop-done-preserved
loop-done-preserved c =
    let m = c.args.core.now.module_run in
    let a = c.args.entry.act in
    let w = c.loop-done.core.world in
    let v = c.step.new.self.world in
    let e = c.in_ok-event.event in
    let n = c.args.entry.steps - c.loop-done._done in
    let k = c.args.entry.steps - (c.loop-done._done + 1) in
    let more : n ≡ suc k = omega arith in
    let stepped : step m w a ≡ Stepped v e =
    subst (λ j. step j w a ≡ Stepped v e) c.loop-done.invariant.0 c.in_ok-event.ensures.stepped in (
      c.step.ensures.same_module ∙ c.loop-done.invariant.0,
      rest_run m a n k w v e (run m (replicate c.args.entry.steps a) c.args.core.now.world) more c.loop-done.invariant.1 stepped,
      rest_lines m a n k w v e (string_bytes c.loop-done.text) (string_bytes c.put_advances.new.text)
          (string_bytes c.args.text.now ++ chart_lines m (replicate c.args.entry.steps a) c.args.core.now.world)
          more stepped c.in_ok-put_advances.ensures.lines c.loop-done.invariant.2,
      subst (AreLiving c.step.new.self) (sym c.put_advances.ensures.living)
          (living_step c.loop-done.core c.step.new.self a e c.loop-done.lists.living c.note.new.self.living c.loop-done.invariant.3
          c.step.ensures.same_module c.in_ok-event.ensures.stepped c.note.ensures.living c.note.ensures.room),
    )
