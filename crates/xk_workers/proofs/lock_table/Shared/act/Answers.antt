use Rattle.std.proofs.Common.{◌≡◌, ◌∙◌, false, Bool, List, ◌∷◌, ap, sym, subst}
use Rattle.xk_workers.specs.Claims.{AreClaims, claims_in, is_claimed, claims_after}
use Rattle.xk_workers.specs.LockTable.{SharedValue}
use Rattle.xk_workers.proofs.TakeLemmas.{claims_keep}
use Rattle.xk_workers.proofs.lock_table.Shared.act.Goals as goal

pub invariant_of-self-2 : goal.invariant_of-self-2
invariant_of-self-2 c =
    let old = c.self.inside in
    let event = c.in_ok-event.event in
    let claims = c.note.ensures ∙ ap (λ (l : List Bool). claims_after event (old.claims.main ∷ l)) c.try_reserve.ensures.items in
    subst (AreClaims c.step.new.self.core) (sym claims)
    (claims_keep old.run.core c.step.new.self.core c.args.act event (claims_in old.claims) c.step.ensures.core c.step.ensures.same_module c.in_ok-event.ensures.stepped
    (subst (λ (s : SharedValue). is_claimed s.claims c.args.act ≡ false) (sym c.self.view_is) c.requires.unclaimed) c.self.invariant)
