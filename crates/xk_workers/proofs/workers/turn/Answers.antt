use Rattle.std.proofs.Common.{◌∙◌, sym, inl, inr, rules}
use Rattle.xk_workers.proofs.TakeLemmas.{copy_refused, step_refused}
use Rattle.xk_workers.proofs.workers.turn.Goals as goal
use Rattle.xk_workers.proofs.workers.turn.Goals.{then-is_err, else-is_err}

pub returns-in-Err-clause-turned : goal.returns-in-Err-clause-turned
returns-in-Err-clause-turned c =
    inr (inr (copy_refused c.args.shared.now c.take.new.self c.give_up.new.self c.in-Work.act c.in-Work.ensures.told c.give_up.ensures))

pub returns-after-is_err-clause-turned : goal.returns-after-is_err-clause-turned
returns-after-is_err-clause-turned c = elim c.if-is_err.branch [
  | then-is_err w ↦ inr (inl (step_refused c.act.result c.args.shared.now c.take.new.self c.act.new.self c.if-is_err.shared c.in-Act.act
      (sym c.is_err.ensures.value ∙ w.if-is_err.true) c.in-Act.ensures.told c.in-Act.ensures.visible c.act.ensures.only_where_it_grows
      c.act.ensures.refused (w.shared-is ∙ w.stop.ensures)))
  | else-is_err w ↦ search rules
]
