use Rattle.std.proofs.Common.{◌∙◌, false, Bool, List, ℕ, refl, ap, sym, subst, slice_set}
use Rattle.xk_core.specs.Core.{CoreValue}
use Rattle.xk_core.specs.TicketAcceptance.{Accepts}
use Rattle.xk_workers.specs.Claims.{AreClaims, claims_in, claims_room}
use Rattle.xk_workers.specs.Run.{RunValue}
use Rattle.xk_workers.specs.LockTable.{SharedValue, HasTaken}
use Rattle.xk_workers.proofs.CommitLemmas.{claims_release, claims_handed}
use Rattle.xk_workers.proofs.lock_table.Shared.commit.Goals as goal

pub invariant_of-self : goal.invariant_of-self
invariant_of-self c =
    let old = c.self.inside in
    subst (λ (l : List Bool). AreClaims old.run.core l) (sym c.put.ensures.claims) (claims_release old.run.core c.act.result (claims_in old.claims) c.self.invariant)

pub invariant_of-self-in_default : goal.invariant_of-self-in_default
invariant_of-self-in_default c =
    let old = c.self.inside in
    subst (λ (r : RunValue). AreClaims r.core (claims_in c.put.new.self)) (sym c.in_default.ensures.refused)
    (subst (λ (l : List Bool). AreClaims old.run.core l) (sym c.put.ensures.claims) (claims_release old.run.core c.act.result (claims_in old.claims) c.self.invariant))

pub invariant_of-self-2 : goal.invariant_of-self-2
invariant_of-self-2 c =
    let old = c.self.inside in
    let t = c.args.ticket in
    let put = c.put.ensures.claims ∙ ap (λ (a : ℕ). slice_set (claims_in old.claims) a false) c.act.ensures in
    subst (λ (l : List Bool). AreClaims c.commit.new.self.core l) (sym put)
    (claims_handed old.run.core c.commit.new.self.core t.act t.steps (claims_in old.claims) c.commit.ensures.core c.commit.ensures.same_module
    c.in-Ok.ensures.ran c.in-Ok.ensures.local c.self.invariant)

pub returns : goal.returns
returns c =
    let old = c.self.inside in
    let s : SharedValue = record { run = old.run; claims = claims_in old.claims; claims_room = claims_room old.claims; stopped = old.stopped } in
    let next : SharedValue = record { run = c.commit.new.self; claims = claims_in c.put.new.self; claims_room = claims_room c.put.new.self; stopped = old.stopped } in
    let taken : HasTaken s c.args.ticket next = record {
      accepted = subst (λ (k : CoreValue). Accepts k c.args.ticket) c.core.ensures (c.accepts.ensures.0 c.if-not-accepts.false);
      ran = c.in-Ok.ensures.ran;
      local = c.in-Ok.ensures.local;
      logged = c.in-Ok.ensures.logged;
      printed = c.commit.ensures.printed;
      same_module = c.commit.ensures.same_module;
      claims = c.put.ensures.claims ∙ ap (λ (a : ℕ). slice_set (claims_in old.claims) a false) c.act.ensures;
      goes_on = refl;
    } in
    subst (λ (v : SharedValue). HasTaken v c.args.ticket next) c.self.view_is taken
