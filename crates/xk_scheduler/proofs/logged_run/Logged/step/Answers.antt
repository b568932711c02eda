use Rattle.std.proofs.Common.{◌∙◌, ◌++◌, ◌∷◌, [], ap}
use Rattle.std.specs.Option.{option_to_list}
use Rattle.xk_types.specs.Schedule.{number_printed}
use Rattle.xk_types.specs.Logs.{one_step_of}
use Rattle.xk_scheduler.proofs.TurnLemmas.{run_steps}
use Rattle.xk_scheduler.proofs.logged_run.Logged.step.Goals as goal

pub invariant_of-self-2 : goal.invariant_of-self-2
invariant_of-self-2 c =
    let old = c.args.self.now in
    let event = c.in_ok-event.event in
    let log = c.note.ensures.log ∙ ap (λ l. l ++ one_step_of c.args.act ∷ []) c.try_reserve.ensures.items in
    let numbers = c.note.ensures.printed ∙ ap (λ l. l ++ option_to_list (number_printed event)) c.try_reserve-2.ensures.items in
    rw (log, numbers) (record {
      run = run_steps old.driver.module_run c.step.new.self.module_run old.log.items old.printed.items old.driver c.step.new.self
          c.args.act event old.run c.in_ok-event.ensures.stepped c.step.ensures.same_module c.step.ensures.same_module;
    })
