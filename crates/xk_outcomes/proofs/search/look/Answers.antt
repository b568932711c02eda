use Rattle.std.proofs.Common.{◌≡◌, ap, Bool, List, inl, inr, refl, subst, sym, true}
use Rattle.std.specs.Prelude.{IfSome}
use Rattle.std.proofs.lemmas.Result.{on_ok_weaker}
use Rattle.xk_core.specs.Core.{CoreValue}
use Rattle.xk_closed_sets.specs.ClosedSets.{IsSparing, is_in}
use Rattle.xk_outcomes.specs.Found.{FoundValue}
use Rattle.xk_outcomes.specs.Ways.{is_tried}
use Rattle.xk_outcomes.proofs.SearchLemmas.{tried}
use Rattle.xk_outcomes.proofs.search.look.Goals as goal

pub returns-in-Some-clause-expanded : goal.returns-in-Some-clause-expanded
returns-in-Some-clause-expanded c =
    let set : List Bool = c.in-Some.set in
    let found : IsSparing c.here.inside.core.module_run c.here.inside.core.world (is_in set) =
    subst (λ o. IfSome o (λ (members : List Bool). IsSparing c.here.inside.core.module_run c.here.inside.core.world (is_in members))) c.in-Some.is c.in_ok-set.ensures in
    let here = ap (λ (x : FoundValue). x.core) c.here.view_is in
    let sparing = subst (λ (x : CoreValue). IsSparing x.module_run x.world (is_in set)) here found in
    on_ok_weaker c.look_by.result (λ after. inl (record {
      set = is_in set;
      closed = sparing.closed;
      free = sparing.free.act;
      inside = sparing.free.is;
      enabled = sparing.free.enabled;
      next = λ a inside. after a (subst (λ l. is_tried l a ≡ true) (sym c.members.ensures) (tried set a inside));
    })) c.look_by.ensures.after

pub returns-in-None-clause-expanded : goal.returns-in-None-clause-expanded
returns-in-None-clause-expanded c = on_ok_weaker c.look_by-in-None.result (λ after. inr (λ a. after a refl)) c.look_by-in-None.ensures.after
