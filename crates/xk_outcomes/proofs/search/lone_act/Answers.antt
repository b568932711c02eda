use Rattle.std.proofs.Common.{Bool, List, Option, Some, None, refl, subst}
use Rattle.std.specs.Prelude.{IfSome}
use Rattle.xk_closed_sets.specs.ClosedSets.{IsSparing, is_in}
use Rattle.xk_outcomes.specs.Ways.{IsLone, IsOnlyTried}
use Rattle.xk_outcomes.proofs.TripLemmas.{lone_of_all, lone_of_set}
use Rattle.xk_outcomes.proofs.search.lone_act.Goals as goal

-- what is so of the one that is there
if_some : {X : Type 0} (P Q : X → Type 0) (o : Option X) → ((x : X) → P x → Q x) → IfSome o P → IfSome o Q
if_some P Q None more is = tt
if_some P Q (Some x) more is = more x is

pub returns-in-Some : goal.returns-in-Some
returns-in-Some c =
    let m = c.args.core.now.module_run in
    let w = c.args.core.now.world in
    let set : List Bool = c.in-Some.set in
    let found : IsSparing m w (is_in set) =
    subst (λ o. IfSome o (λ (members : List Bool). IsSparing m w (is_in members))) c.in-Some.is c.in_ok-set.ensures in
    if_some (IsOnlyTried m w c.members.result.now) (IsLone m w) c.lone_among.result
    (λ a t. lone_of_set m w set a found (subst (λ (l : List Bool). IsOnlyTried m w l a) c.members.ensures t)) c.lone_among.ensures

pub returns-in-None : goal.returns-in-None
returns-in-None c =
    let m = c.args.core.now.module_run in
    let w = c.args.core.now.world in
    if_some (IsOnlyTried m w _) (IsLone m w) c.lone_among-in-None.result
    (λ a t. lone_of_all m w _ a refl t) c.lone_among-in-None.ensures
