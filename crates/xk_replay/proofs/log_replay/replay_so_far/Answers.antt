use Rattle.std.proofs.Common.{◌∙◌, sym, subst}
use Rattle.xk_types.specs.Schedule.{Leads}
use Rattle.xk_types.specs.Logs.{schedule_of}
use Rattle.xk_replay.specs.Replay.{IsLegal, IsStop, IsStoppedAt}
use Rattle.xk_replay.proofs.VerdictLemmas.{fault_of_stopped, legal_not_stopped, stop_of_legal, stop_told}
use Rattle.xk_replay.proofs.log_replay.replay_so_far.Goals as goal

pub returns-in-Err-clause-never_wrongly : goal.returns-in-Err-clause-never_wrongly
returns-in-Err-clause-never_wrongly c legal =
    let m = c.args.verified.now in
    let given = c.args.arguments.now in
    let same = c.deref.ensures.value ∙ c.into_entries-steps.ensures in
    stop_of_legal m given c.args.log c.in-Err.fault (subst (λ l. IsStop m given l c.in-Err.fault) same c.in-Err.ensures.stopped) legal

pub returns-in-Err-clause-stopped : goal.returns-in-Err-clause-stopped
returns-in-Err-clause-stopped c i stopped =
    let m = c.args.verified.now in
    let given = c.args.arguments.now in
    let same = c.deref.ensures.value ∙ c.into_entries-steps.ensures in
    let told = stop_told m given c.args.log c.in-Err.fault (subst (λ l. IsStop m given l c.in-Err.fault) same c.in-Err.ensures.stopped) in
    fault_of_stopped m given c.args.log i c.in-Err.fault told stopped

pub returns-in-Ok-clause-legal : goal.returns-in-Ok-clause-legal
returns-in-Ok-clause-legal c =
    let same = c.deref.ensures.value ∙ c.into_entries-steps.ensures in
    record {
      last = c.in-Ok.led.core.world;
      leads = subst (λ l. Leads c.args.verified.now (schedule_of l) c.in-Ok.led.core.world) same c.in-Ok.ensures.led.leads;
      given = c.in-Ok.ensures.given;
    }

pub returns-in-Ok-clause-stopped : goal.returns-in-Ok-clause-stopped
returns-in-Ok-clause-stopped c i stopped =
    let same = c.deref.ensures.value ∙ c.into_entries-steps.ensures in
    let legal : IsLegal c.args.verified.now c.args.arguments.now c.args.log = record {
      last = c.in-Ok.led.core.world;
      leads = subst (λ l. Leads c.args.verified.now (schedule_of l) c.in-Ok.led.core.world) same c.in-Ok.ensures.led.leads;
      given = c.in-Ok.ensures.given;
    } in
    legal_not_stopped c.args.verified.now c.args.arguments.now c.args.log i legal stopped
