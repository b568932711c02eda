use Rattle.std.proofs.Common.{◌≡◌, ◌∙◌, Bool, true, List, ap, sym, subst}
use Rattle.xk_core.specs.Core.{CoreValue, is_next_local}
use Rattle.xk_workers.specs.declared.lock_table.Take.TheVariants as take
use Rattle.xk_workers.specs.Claims.{AreClaims, claims_in, claims_room}
use Rattle.xk_workers.specs.LockTable.{SharedValue, Tells}
use Rattle.xk_workers.proofs.TakeLemmas.{tells_idle}
use Rattle.xk_workers.proofs.CommitLemmas.{claims_put}
use Rattle.xk_workers.proofs.lock_table.Shared.take.Goals as goal

pub returns-in_default-first_unclaimed-clause-told : goal.returns-in_default-first_unclaimed-clause-told
returns-in_default-first_unclaimed-clause-told c =
    let s : SharedValue = record {
      run = c.self.inside.run;
      claims = claims_in c.self.inside.claims;
      claims_room = claims_room c.self.inside.claims;
      stopped = c.self.inside.stopped;
    } in
    subst (λ (v : SharedValue). Tells v take.Idle v) c.self.view_is
    (tells_idle s c.in-Some.first c.if-self.false (sym c.in-Some.is ∙ c.first.ensures.first) c.in_default-first_unclaimed.ensures.none)

pub invariant_of-self : goal.invariant_of-self
invariant_of-self c =
    let old = c.self.inside in
    let local : is_next_local old.run.core c.in-Some-first_unclaimed.act ≡ true =
    ap (λ (k : CoreValue). is_next_local k c.in-Some-first_unclaimed.act) (sym c.core.ensures) ∙ sym c.next_local.ensures ∙ c.if-not-next_local.false in
    subst (λ (l : List Bool). AreClaims old.run.core l) (sym c.put.ensures.claims) (claims_put old.run.core c.in-Some-first_unclaimed.act (claims_in old.claims) local c.self.invariant)
