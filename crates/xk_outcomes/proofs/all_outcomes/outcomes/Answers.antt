use Rattle.xk_outcomes.proofs.ListingLemmas.{printed_kept, printed_shown}
use Rattle.xk_outcomes.proofs.PlainRunLemmas.{printed_plain}
use Rattle.xk_outcomes.proofs.all_outcomes.outcomes.Goals as goal

pub returns-clause-shown : goal.returns-clause-shown
returns-clause-shown c = printed_shown c.args.verified.now c.args.arguments.now c.in_ok-found.found.list.items c.in_ok-found.ensures.shown

pub returns-clause-plain : goal.returns-clause-plain
returns-clause-plain c less = printed_plain c.args.verified.now c.args.arguments.now c.in_ok-found.found.list.items
    (c.in_ok-found.ensures.plain less)

pub returns-clause-kept : goal.returns-clause-kept
returns-clause-kept c =
    let found = c.in_ok-found.found in
    printed_kept c.args.verified.now c.args.arguments.now c.args.limit.outcomes found.list.items found.entries c.in_ok-found.ensures.kept
