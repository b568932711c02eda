-- what is visited is found
use Rattle.std.proofs.Common.{length, Some, sym, ◌∙◌, subst}
use Rattle.xk_types.specs.Walk.{IsWalk, EndsAt}
use Rattle.xk_typestate.specs.SearchStops.{IsPlaceOf, IsFirstPlaceOf, HasCome, StopsBack}
use Rattle.xk_typestate.specs.LeastRefusal.{IsShortest}
use Rattle.xk_typestate.proofs.ShortestWalkLemmas.{shortest}
use Rattle.xk_typestate.proofs.ResultLemmas.{ok_then}
use Rattle.xk_typestate.proofs.SearchLemmas.{visited_seen}
use Rattle.xk_typestate.proofs.walk.walk_to.Goals as goal

pub unreachable-requires : goal.unreachable-requires
unreachable-requires c =
    let whole = c.in_ok-search.ensures in
    let end = c.args.end in
    let seen = visited_seen c.args.m.now c.args.u.now c.args.slot c.in_ok-search.search whole end c.requires.visited in
    let at = whole.searched.listed end seen in
    c.in-None.ensures at.0 (subst (λ x. IsPlaceOf x end at.0) (sym c.deref.ensures.value) (at.1, at.2, at.3))

pub returns-clause-walk : goal.returns-clause-walk
returns-clause-walk c =
    let m = c.args.m.now in
    let u = c.args.u.now in
    let s = c.args.slot in
    let end = c.args.end in
    let come = subst (λ x. HasCome m u s x) (sym c.deref-in-Some.ensures.value) c.in_ok-search.ensures.searched.came in
    let at = subst (λ x. IsPlaceOf x end c.in-Some.place) (c.deref.ensures.value ∙ sym c.deref-in-Some.ensures.value) c.in-Some.ensures.0 in
    ok_then c.walk_back.result _ (λ w. IsWalk m u s w.items × EndsAt w.items end) (c.walk_back.ensures.walk m u s come) (λ w h. (h.0, h.1 end at))

pub returns-clause-shortest : goal.returns-clause-shortest
returns-clause-shortest c =
    let m = c.args.m.now in
    let u = c.args.u.now in
    let s = c.args.slot in
    let end = c.args.end in
    let place = c.in-Some.place in
    let first = subst (λ x. IsFirstPlaceOf x end place) c.deref.ensures.value c.in-Some.ensures in
    ok_then c.walk_back.result _ (λ w. IsShortest m u s end w.items) c.walk_back.ensures.stops
    (λ w h. shortest m u s c.in_ok-search.search c.in_ok-search.ensures end place w.items first
    (subst (λ x. StopsBack x (Some place) (length w.items)) c.deref-in-Some.ensures.value h))
