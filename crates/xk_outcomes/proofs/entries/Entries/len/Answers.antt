use Rattle.std.proofs.Common.{◌≡◌, ◌+◌, length, subst, arith}
use Rattle.xk_outcomes.specs.Entries.{EntriesValue}
use Rattle.xk_outcomes.specs.Ways.{ways_in}
use Rattle.xk_outcomes.specs.Search.{AreDifferent, AreFound, AreSettled}
use Rattle.xk_outcomes.proofs.EntriesLemmas.{all_led, all_settled, many_led}
use Rattle.xk_outcomes.proofs.entries.Entries.len.Goals as goal

pub returns-clause-count : goal.returns-clause-count
returns-clause-count c =
    let many = many_led (ways_in c.self.inside.ways.items) c.self.inside.start c.self.inside.edges.items in
    let count = c.len.ensures in
    let kept = c.self.inside.edges.ok.0 in
    subst (λ (e : EntriesValue). c.len.result + 1 ≡ length e.all) c.self.view_is (omega (arith, many, count, kept))

pub returns-clause-found : goal.returns-clause-found
returns-clause-found c =
    subst (λ (e : EntriesValue). AreFound e.start e.all) c.self.view_is
    (all_led (ways_in c.self.inside.ways.items) c.self.inside.start c.self.inside.edges.items)

pub returns-clause-settled : goal.returns-clause-settled
returns-clause-settled c =
    subst (λ (e : EntriesValue). AreSettled e.start e.all) c.self.view_is
    (all_settled (ways_in c.self.inside.ways.items) c.self.inside.start c.self.inside.edges.items)

pub returns-clause-different : goal.returns-clause-different
returns-clause-different c = subst (λ (e : EntriesValue). AreDifferent e.like e.all) c.self.view_is c.self.invariant.different
