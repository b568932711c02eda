use Rattle.std.proofs.Common.{◌≡◌, ◌∙◌, ◌-◌, ℕ, List, Some, ap, arith, length, map, slice_get, subst, sym}
use Rattle.std.proofs.lemmas.Option.{slice_get_within}
use Rattle.xk_digests.specs.Digests.{IsLast}
use Rattle.xk_outcomes.specs.Entries.{EntriesValue}
use Rattle.xk_outcomes.specs.Search.{found_digest}
use Rattle.xk_outcomes.proofs.LookupLemmas.{none_behind, none_between, one_before, within}
use Rattle.xk_outcomes.proofs.entries.Entries.known.Goals as goal

pub loop-at-init : goal.loop-at-init
loop-at-init c =
    let like = c.args.self.now.like in
    let all = c.args.self.now.all in
    let at = c.last-at.result in
    let are = c.self.invariant.digests_are ∙ ap (λ (e : EntriesValue). map (found_digest e.like) e.all) c.self.view_is in
    let last = subst (λ (l : List ℕ). IsLast l c.args.digest (length l) at) are c.last-at.ensures in
    let found = subst (λ d. IsLast (map (found_digest like) all) d (length (map (found_digest like) all)) at) c.requires.digest last in
    record {
      there = last.there;
      none = none_behind like all c.args.new.now at found;
    }

pub is_same_at-requires-clause-number : goal.is_same_at-requires-clause-number
is_same_at-requires-clause-number c =
    let at = c.loop-at.at in
    within c.args.self.now.like c.args.self.now.all c.args.digest (at - 1) (c.loop-at.invariant.there (at - 1) (one_before at c.loop-at-test.true))

pub before-at-requires : goal.before-at-requires
before-at-requires c =
    let at = c.loop-at.at in
    let are = c.self.invariant.digests_are ∙ ap (λ (e : EntriesValue). map (found_digest e.like) e.all) c.self.view_is in
    let there = c.loop-at.invariant.there (at - 1) (one_before at c.loop-at-test.true) in
    slice_get_within c.self.inside.digests (at - 1) c.args.digest
    (subst (λ (l : List ℕ). slice_get l (at - 1) ≡ Some c.args.digest) (sym are) there)

pub loop-at-preserved : goal.loop-at-preserved
loop-at-preserved c =
    let like = c.args.self.now.like in
    let all = c.args.self.now.all in
    let new = c.args.new.now in
    let at = c.loop-at.at in
    let next = c.before-at.result in
    let are = c.self.invariant.digests_are ∙ ap (λ (e : EntriesValue). map (found_digest e.like) e.all) c.self.view_is in
    let there = c.loop-at.invariant.there (at - 1) (one_before at c.loop-at-test.true) in
    let here = subst (λ (l : List ℕ). slice_get l (at - 1) ≡ Some c.args.digest) (sym are) there in
    let last = subst (λ (l : List ℕ). IsLast l c.args.digest (at - 1) next) are (c.before-at.ensures c.args.digest here) in
    let found = subst (λ d. IsLast (map (found_digest like) all) d (at - 1) next) c.requires.digest last in
    record {
      there = last.there;
      none = none_between like all new at next c.loop-at-test.true c.loop-at.invariant.none
          (c.in_ok-is_same_at.ensures.no c.if-branch.false) found;
    }

pub returns-clause-no : goal.returns-clause-no
returns-clause-no c has = c.loop-at.invariant.none has.0 (omega (arith, c.loop-at-test.false)) has.1.0 has.1.1 has.1.2
