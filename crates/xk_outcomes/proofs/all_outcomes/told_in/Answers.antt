use Rattle.std.specs.Prelude.{IfNone, IfSome}
use Rattle.std.proofs.Common.{◌∙◌, arith, List, length, sym, subst, true≢false, ap}
use Rattle.xk_outcomes.specs.declared.listing.Outcome.{Outcome}
use Rattle.xk_outcomes.specs.Listing.{AreAllIn, AreShownIn, HasKeptIn}
use Rattle.xk_outcomes.specs.LoneOutcomes.{IsLone, IsOneOfMany}
use Rattle.xk_outcomes.specs.Outcomes.{AreDistinct}
use Rattle.xk_outcomes.specs.Numbering.{AreNumberedIn}
use Rattle.xk_outcomes.proofs.NumberingLemmas.{lone_numbered_in}
use Rattle.xk_outcomes.proofs.LoneOutcomeLemmas.{alone_distinct, none_kept}
use Rattle.xk_outcomes.proofs.all_outcomes.told_in.Goals as goal

pub returns-in_ok-found-in-Some-clause-shown : goal.returns-in_ok-found-in-Some-clause-shown
returns-in_ok-found-in-Some-clause-shown c =
    subst (AreShownIn c.args.order c.args.verified.now c.args.arguments.now) (sym c.in_ok-found-in-Some.ensures.list)
    (subst (λ o. IfSome o (IsLone c.args.order c.args.verified.now c.args.arguments.now)) c.in-Some.is c.in_ok-lone.ensures.lone).shown

pub returns-in_ok-found-in-Some-clause-all : goal.returns-in_ok-found-in-Some-clause-all
returns-in_ok-found-in-Some-clause-all c done =
    subst (AreAllIn c.args.order c.args.verified.now c.args.arguments.now) (sym c.in_ok-found-in-Some.ensures.list)
    (subst (λ o. IfSome o (IsLone c.args.order c.args.verified.now c.args.arguments.now)) c.in-Some.is c.in_ok-lone.ensures.lone).all

pub returns-in_ok-found-in-Some-clause-distinct : goal.returns-in_ok-found-in-Some-clause-distinct
returns-in_ok-found-in-Some-clause-distinct c = subst AreDistinct (sym c.in_ok-found-in-Some.ensures.list) (alone_distinct c.in-Some.lone)

pub returns-in_ok-found-in-Some-clause-plain : goal.returns-in_ok-found-in-Some-clause-plain
returns-in_ok-found-in-Some-clause-plain c less = absurd (true≢false (sym c.in_ok-found-in-Some.ensures.complete ∙ less))

pub returns-in_ok-found-in-Some-clause-lone : goal.returns-in_ok-found-in-Some-clause-lone
returns-in_ok-found-in-Some-clause-lone c less = absurd (true≢false (sym c.in_ok-found-in-Some.ensures.complete ∙ less))

pub returns-in_ok-found-in-Some-clause-limit : goal.returns-in_ok-found-in-Some-clause-limit
returns-in_ok-found-in-Some-clause-limit c less = absurd (true≢false (sym c.in_ok-found-in-Some.ensures.complete ∙ less))

pub returns-in_ok-found-in-Some-clause-most : goal.returns-in_ok-found-in-Some-clause-most
returns-in_ok-found-in-Some-clause-most c =
    let one = ap (λ (l : List Outcome). length l) c.in_ok-found-in-Some.ensures.list in
    omega (arith, one)

pub returns-in_ok-found-in-Some-clause-kept : goal.returns-in_ok-found-in-Some-clause-kept
returns-in_ok-found-in-Some-clause-kept c =
    let found = c.in_ok-found-in-Some.found in
    let m = c.args.verified.now in
    let args = c.args.arguments.now in
    subst (HasKeptIn c.args.order m args c.args.limit.outcomes found.list.items) (sym c.in_ok-found-in-Some.ensures.entries)
    (none_kept c.args.order m args c.args.limit.outcomes found.list.items)

pub returns-in_ok-found-in-None-clause-lone : goal.returns-in_ok-found-in-None-clause-lone
returns-in_ok-found-in-None-clause-lone c less =
    subst (λ o. IfNone o (IsOneOfMany c.args.order c.args.verified.now c.args.arguments.now)) c.in-None.is c.in_ok-lone.ensures.many

pub returns-in_ok-found-in-Some-clause-order : goal.returns-in_ok-found-in-Some-clause-order
returns-in_ok-found-in-Some-clause-order c =
    let m = c.args.verified.now in
    let args = c.args.arguments.now in
    let list = c.in_ok-found-in-Some.ensures.list in
    let all = (subst (λ o. IfSome o (IsLone c.args.order m args)) c.in-Some.is c.in_ok-lone.ensures.lone).all in
    let found = c.in_ok-found-in-Some.found in
    subst (AreNumberedIn c.args.order m args c.args.limit.entries found.list.items) (sym c.in_ok-found-in-Some.ensures.entries)
    (lone_numbered_in c.args.order m args c.args.limit.entries found.list.items c.in-Some.lone list
    (subst (AreAllIn c.args.order m args) (sym list) all))
