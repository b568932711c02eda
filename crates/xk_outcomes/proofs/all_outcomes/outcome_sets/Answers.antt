use Rattle.xk_outcomes.proofs.ListingLemmas.{sets_kept, sets_shown, sets_distinct, sets_all}
use Rattle.xk_outcomes.proofs.PlainRunLemmas.{sets_plain}
use Rattle.xk_outcomes.proofs.all_outcomes.outcome_sets.Goals as goal

pub returns-clause-shown : goal.returns-clause-shown
returns-clause-shown c = sets_shown c.args.verified.now c.args.arguments.now c.in_ok-found.found.list.items c.in_ok-found.ensures.shown

pub returns-clause-distinct : goal.returns-clause-distinct
returns-clause-distinct c =
    sets_distinct c.args.verified.now c.args.arguments.now c.in_ok-found.found.list.items c.in_ok-found.ensures.shown c.in_ok-found.ensures.distinct

pub returns-clause-all : goal.returns-clause-all
returns-clause-all c done = sets_all c.args.verified.now c.args.arguments.now c.in_ok-found.found.list.items (c.in_ok-found.ensures.all done)

pub returns-clause-plain : goal.returns-clause-plain
returns-clause-plain c less = sets_plain c.args.verified.now c.args.arguments.now c.in_ok-found.found.list.items
    (c.in_ok-found.ensures.plain less)

pub returns-clause-kept : goal.returns-clause-kept
returns-clause-kept c =
    let found = c.in_ok-found.found in
    sets_kept c.args.verified.now c.args.arguments.now c.args.limit.outcomes found.list.items found.entries c.in_ok-found.ensures.kept
