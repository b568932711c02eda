use Rattle.std.proofs.Common.{◌∙◌, ℕ, List, ap, subst, sym}
use Rattle.xk_types.specs.Acceptance.{IsAccepted}
use Rattle.xk_types.specs.Bound.{steps_bound}
use Rattle.xk_types.specs.Code.{IsWithinLimits}
use Rattle.xk_readings.specs.Graphs.{graph}
use Rattle.xk_readings.specs.Readings.{IsLongest}
use Rattle.xk_outcomes.specs.Alikeness.{counted}
use Rattle.xk_outcomes.specs.Entries.{EntriesValue, led_by}
use Rattle.xk_outcomes.specs.Ways.{ways_in}
use Rattle.xk_outcomes.specs.Links.{AreLinked, ends}
use Rattle.xk_outcomes.specs.Listing.{ArePlayed}
use Rattle.xk_outcomes.proofs.EntriesLemmas.{all_led, first_there}
use Rattle.xk_outcomes.proofs.FollowLemmas.{longest_read}
use Rattle.xk_outcomes.proofs.PathLemmas.{played}
use Rattle.xk_outcomes.proofs.entries.Entries.longest.Goals as goal

pub returns-clause-longest : goal.returns-clause-longest
returns-clause-longest c links linked =
    let start = c.self.inside.start in
    let ways : List (List ℕ) = ways_in c.self.inside.ways.items in
    let all = led_by ways start c.self.inside.edges.items in
    let limits = subst IsWithinLimits c.module-verified.ensures.same c.module-accepted.ensures.limits in
    let accepted = subst IsAccepted c.module-verified.ensures.same c.module-accepted.ensures.accepted in
    let counts = counted (record { order = c.self.inside.order; counts = c.self.inside.counts }) in
    let here : AreLinked counts start.module_run ways all links =
    subst (λ (e : EntriesValue). AreLinked (counted e.like) e.start.module_run e.ways e.all links) (sym c.self.view_is) linked in
    let longest = longest_read start counts c.self.invariant.counting ways all links here (all_led ways start c.self.inside.edges.items)
    (first_there ways start c.self.inside.edges.items) limits accepted
    c.module-verified.ensures.taken (c.module-verified.ensures.opening c.self.invariant.root) in
    let bound = c.steps.ensures ∙ ap steps_bound c.module-verified.ensures.same in
    subst (IsLongest (graph links (ends c.args.self.now.all))) (sym bound) (subst (λ (e : EntriesValue). IsLongest (graph links (ends e.all)) (steps_bound start.module_run)) c.self.view_is longest)

pub returns-clause-played : goal.returns-clause-played
returns-clause-played c links linked =
    let start = c.self.inside.start in
    let ways : List (List ℕ) = ways_in c.self.inside.ways.items in
    let edges = c.self.inside.edges.items in
    let all = led_by ways start edges in
    let limits = subst IsWithinLimits c.module-verified.ensures.same c.module-accepted.ensures.limits in
    let accepted = subst IsAccepted c.module-verified.ensures.same c.module-accepted.ensures.accepted in
    let counts = counted (record { order = c.self.inside.order; counts = c.self.inside.counts }) in
    let here : AreLinked counts start.module_run ways all links =
    subst (λ (e : EntriesValue). AreLinked (counted e.like) e.start.module_run e.ways e.all links) (sym c.self.view_is) linked in
    subst (λ (e : EntriesValue). ArePlayed e.start e.ways e.all links) c.self.view_is
    (played start counts c.self.invariant.counting ways all links here (all_led ways start edges) (first_there ways start edges) limits
    accepted
    c.module-verified.ensures.taken (c.module-verified.ensures.opening c.self.invariant.root))
