use Rattle.std.proofs.Common.{◌∙◌, true, sym}
use Rattle.xk_outcome_count.proofs.CountLemmas.{least_of, listed_exact, none_least}
use Rattle.xk_outcome_count.proofs.counting.count_sets.Goals as goal

pub returns-clause-least : goal.returns-clause-least
returns-clause-least c =
    let m = c.args.verified.now in
    let args = c.args.arguments.now in
    let is = c.in_ok-found.ensures in
    least_of true m args c.in_ok-found.found.list.items c.count_of.result.count 0 is.shown is.distinct (none_least true m args) c.count_of.ensures.either

pub returns-clause-exact : goal.returns-clause-exact
returns-clause-exact c done =
    let whole = sym c.count_of.ensures.complete ∙ done in
    let is = c.in_ok-found.ensures in
    listed_exact true c.args.verified.now c.args.arguments.now c.in_ok-found.found.list.items c.count_of.result.count is.shown is.distinct (is.all whole)
    (c.count_of.ensures.whole whole)

pub returns-clause-lone : goal.returns-clause-lone
returns-clause-lone c less = c.in_ok-found.ensures.lone (sym c.count_of.ensures.complete ∙ less)

pub returns-clause-far : goal.returns-clause-far
returns-clause-far c less =
    let cut = sym c.count_of.ensures.complete ∙ less in
    let found = c.in_ok-found.found in
    let is = c.in_ok-found.ensures in
    record {
      list = found.list.items;
      shown = is.shown;
      distinct = is.distinct;
      plain = is.plain cut;
      far = record { entries = found.entries; kept = is.kept; met = λ h. is.limit cut; few = is.most };
      many = c.count_of.ensures.least;
    }
