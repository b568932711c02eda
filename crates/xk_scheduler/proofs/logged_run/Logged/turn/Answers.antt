use Rattle.std.proofs.Common.{◌∙◌, ◌++◌, ◌∷◌, [], ap, subst}
use Rattle.std.specs.Option.{option_to_list}
use Rattle.xk_types.specs.Schedule.{number_printed}
use Rattle.xk_types.specs.Logs.{one_step_of}
use Rattle.xk_scheduler.specs.LoggedRuns.{IsTaken, IsTurn}
use Rattle.xk_scheduler.proofs.TurnLemmas.{run_goes_on}
use Rattle.xk_scheduler.proofs.logged_run.Logged.turn.Goals as goal

pub invariant_of-self-in-Some : goal.invariant_of-self-in-Some
invariant_of-self-in-Some g c =
    let old = c.args.self.now in
    let turn : IsTurn g.C.Chooser.answer g.C.Chooser.after old.driver c.args.chooser.now c.in-Some.turn.act c.in-Some.turn.event c.turn.new.self c.turn.new.chooser =
    subst (IsTaken g.C.Chooser.answer g.C.Chooser.after old.driver c.args.chooser.now c.turn.new.self c.turn.new.chooser) c.in-Some.is c.in_ok-turn.ensures.taken in
    let log = c.note.ensures.log ∙ ap (λ l. l ++ one_step_of c.in-Some.turn.act ∷ []) c.try_reserve.ensures.items in
    let numbers = c.note.ensures.printed ∙ ap (λ l. l ++ option_to_list (number_printed c.in-Some.turn.event)) c.try_reserve-2.ensures.items in
    rw (log, numbers) (record {
      run = run_goes_on g.C.Chooser.answer g.C.Chooser.after old.driver.module_run c.turn.new.self.module_run old.log.items old.printed.items
          old.driver c.turn.new.self c.args.chooser.now c.turn.new.chooser
          c.in-Some.turn.act c.in-Some.turn.event old.run turn turn.same_module;
    })
