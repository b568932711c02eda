use Rattle.std.proofs.Common.{◌≡◌, true, sym, subst}
use Rattle.std.proofs.lemmas.Result.{IfOk-weaker}
use Rattle.xk_activity.specs.Local.{IsSafe, local, is_stepped}
use Rattle.xk_core.specs.Core.{is_next_local}
use Rattle.xk_workers.specs.LockTable.{SharedValue}
use Rattle.xk_workers.proofs.NextLocalLemmas.{ready_copy}
use Rattle.xk_workers.proofs.lock_table.Shared.copy.Goals as goal

pub returns-clause-safe : goal.returns-clause-safe
returns-clause-safe c = λ l.
    let here = subst (λ (s : SharedValue). is_next_local s.run.core c.args.act ≡ true) (sym c.self.view_is) l in
    IfOk-weaker c.copy.result _ (IsSafe local) (λ f is. (ready_copy c.self.inside.run.core c.args.act f c.copy.ensures.core here is).0) c.copy.ensures.frames

pub returns-clause-next : goal.returns-clause-next
returns-clause-next c = λ l.
    let here = subst (λ (s : SharedValue). is_next_local s.run.core c.args.act ≡ true) (sym c.self.view_is) l in
    IfOk-weaker c.copy.result _ (λ f. is_stepped (local f) ≡ true) (λ f is. (ready_copy c.self.inside.run.core c.args.act f c.copy.ensures.core here is).1) c.copy.ensures.frames
