use Rattle.std.proofs.Common.{◌∙◌, ℕ, ap, sym, string_bytes}
use Rattle.xk_core.specs.Core.{is_registered_on}
use Rattle.xk_replay.proofs.ChartLineLemmas.{act_more, act_not, act_there, acts_all}
use Rattle.xk_replay.proofs.clock_chart.acts_text.Goals as goal
use Rattle.xk_replay.proofs.clock_chart.acts_text.Goals.{then-registered+in_ok-piece+in_ok-put, else-registered}

pub registered-requires-clause-activity : goal.registered-requires-clause-activity
registered-requires-clause-activity c = act_there c.args.core.now.world c.args.living.now c.loop-act.act-index c.loop-act-test.true c.requires.living

pub loop-act-preserved : goal.loop-act-preserved
loop-act-preserved c =
    let p = λ (a : ℕ). is_registered_on c.args.core.now.world a c.args.clock in
    let living = c.args.living.now in
    let i = c.loop-act.act-index in
    elim c.if-registered.branch [
      | then-registered+in_ok-piece+in_ok-put w ↦ act_more p living i (string_bytes c.loop-act.text) (string_bytes w.in_ok-piece.piece) (string_bytes c.if-registered.text)
          c.loop-act-test.true c.loop-act.invariant (sym c.registered.ensures ∙ w.if-registered.true) w.in_ok-piece.ensures (ap string_bytes w.text-is ∙ w.in_ok-put.ensures)
      | else-registered w ↦ ap string_bytes w.text-is
          ∙ act_not p living i (string_bytes c.loop-act.text) c.loop-act-test.true c.loop-act.invariant (sym c.registered.ensures ∙ w.if-registered.false)
    ]

pub returns : goal.returns
returns c =
    acts_all c.args.core.now.module_run c.args.core.now.world c.args.living.now c.loop-act.act-index c.args.clock (string_bytes c.loop-act.text) c.requires.core
    c.loop-act-test.false c.requires.living c.loop-act.invariant
