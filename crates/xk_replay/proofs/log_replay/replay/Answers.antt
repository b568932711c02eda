use Rattle.std.proofs.Common.{◌∙◌, sym, subst}
use Rattle.xk_replay.specs.Replay.{IsStop, IsStoppedAt, IsUnfinished, IsWhole}
use Rattle.xk_replay.proofs.VerdictLemmas.{stop_told, fault_of_whole, fault_of_stopped, fault_of_unfinished, answer_whole, answer_stopped, answer_unfinished}
use Rattle.xk_replay.proofs.log_replay.replay.Goals as goal

pub returns-in-Err-clause-never_wrongly : goal.returns-in-Err-clause-never_wrongly
returns-in-Err-clause-never_wrongly c whole =
    let m = c.args.verified.now in
    let given = c.args.arguments.now in
    let same = c.deref.ensures.value ∙ c.into_entries-entries.ensures in
    let told = stop_told m given c.args.log c.in-Err.fault (subst (λ l. IsStop m given l c.in-Err.fault) same c.in-Err.ensures.stopped) in
    fault_of_whole m given c.args.log c.in-Err.fault told whole

pub returns-in-Err-clause-stopped : goal.returns-in-Err-clause-stopped
returns-in-Err-clause-stopped c i stopped =
    let m = c.args.verified.now in
    let given = c.args.arguments.now in
    let same = c.deref.ensures.value ∙ c.into_entries-entries.ensures in
    let told = stop_told m given c.args.log c.in-Err.fault (subst (λ l. IsStop m given l c.in-Err.fault) same c.in-Err.ensures.stopped) in
    fault_of_stopped m given c.args.log i c.in-Err.fault told stopped

pub returns-in-Err-clause-unfinished : goal.returns-in-Err-clause-unfinished
returns-in-Err-clause-unfinished c unfinished =
    let m = c.args.verified.now in
    let given = c.args.arguments.now in
    let same = c.deref.ensures.value ∙ c.into_entries-entries.ensures in
    let told = stop_told m given c.args.log c.in-Err.fault (subst (λ l. IsStop m given l c.in-Err.fault) same c.in-Err.ensures.stopped) in
    fault_of_unfinished m given c.args.log c.in-Err.fault told unfinished

pub returns-in-Ok-clause-never_wrongly : goal.returns-in-Ok-clause-never_wrongly
returns-in-Ok-clause-never_wrongly c whole =
    let m = c.args.verified.now in
    let given = c.args.arguments.now in
    let log = c.into_entries-entries.result.items in
    answer_whole m given log c.close.result c.close.ensures.fault (subst (IsWhole m given) (sym c.into_entries-entries.ensures) whole)

pub returns-in-Ok-clause-stopped : goal.returns-in-Ok-clause-stopped
returns-in-Ok-clause-stopped c i stopped =
    let m = c.args.verified.now in
    let given = c.args.arguments.now in
    let log = c.into_entries-entries.result.items in
    answer_stopped m given log i c.close.result c.close.ensures.whole c.close.ensures.fault
    (subst (λ l. IsStoppedAt m given l i) (sym c.into_entries-entries.ensures) stopped)

pub returns-in-Ok-clause-unfinished : goal.returns-in-Ok-clause-unfinished
returns-in-Ok-clause-unfinished c unfinished =
    let m = c.args.verified.now in
    let given = c.args.arguments.now in
    let log = c.into_entries-entries.result.items in
    answer_unfinished m given log c.close.result c.close.ensures.whole c.close.ensures.fault
    (subst (IsUnfinished m given) (sym c.into_entries-entries.ensures) unfinished)
