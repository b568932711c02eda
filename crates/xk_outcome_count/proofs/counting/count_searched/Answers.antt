use Rattle.std.proofs.Common.{◌≡◌, ◌∙◌, inl, Some, false, sym, subst, slice_get, true≢false}
use Rattle.xk_core.specs.Core.{CoreValue, opening_core}
use Rattle.xk_outcomes.specs.Alikeness.{counted}
use Rattle.xk_outcomes.specs.Found.{first_found}
use Rattle.xk_outcomes.specs.Links.{AreLinked}
use Rattle.xk_outcomes.specs.Listing.{ArePlayed}
use Rattle.xk_outcomes.proofs.ListingLemmas.{printed_kept, printed_shown}
use Rattle.xk_outcomes.proofs.PlainRunLemmas.{printed_plain}
use Rattle.xk_outcome_count.proofs.CountLemmas.{cut_by, least_of, listed_exact, read_exact, read_least}
use Rattle.xk_outcome_count.proofs.counting.count_searched.Goals.{else-explored-via-then-explored+else-read}
use Rattle.xk_outcome_count.proofs.counting.count_searched.Goals.{else-explored-via-else-explored}
use Rattle.xk_outcome_count.proofs.counting.count_searched.Goals as goal

pub count_readings-requires-clause-begins : goal.count_readings-requires-clause-begins
count_readings-requires-clause-begins c =
    let x = c.in_ok-explored.explored.found in
    let is = c.in_ok-explored.ensures in
    subst (λ (s : CoreValue). slice_get x.all 0 ≡ Some (first_found s)) (sym is.begun) is.begins

pub count_readings-requires-clause-linked : goal.count_readings-requires-clause-linked
count_readings-requires-clause-linked c =
    let x = c.in_ok-explored.explored in
    let is = c.in_ok-explored.ensures in
    subst (λ (s : CoreValue). AreLinked (counted x.found.like) s.module_run x.found.ways x.found.all x.links.items) (sym is.begun) is.linked

pub returns-then-read-clause-least : goal.returns-then-read-clause-least
returns-then-read-clause-least c =
    let m = c.args.verified.now in
    let args = c.args.arguments.now in
    let x = c.in_ok-explored.explored in
    let played = subst (λ (s : CoreValue). ArePlayed s x.found.ways x.found.all x.links.items) c.in_ok-explored.ensures.begun
    c.count_readings.ensures.played in
    read_least m args x.found.ways x.found.all x.links.items played c.in_ok-read.read.count c.in_ok-read.ensures.least

pub returns-then-read-clause-exact : goal.returns-then-read-clause-exact
returns-then-read-clause-exact c done =
    let m = c.args.verified.now in
    let args = c.args.arguments.now in
    let x = c.in_ok-explored.explored in
    let is = c.in_ok-explored.ensures in
    let played = subst (λ (s : CoreValue). ArePlayed s x.found.ways x.found.all x.links.items) is.begun c.count_readings.ensures.played in
    read_exact m args x.found.ways x.found.all x.links.items played (is.all c.if-explored.true) c.in_ok-read.read.count
    (c.in_ok-read.ensures.exact c.if-read.true)

pub returns-clause-least : goal.returns-clause-least
returns-clause-least c =
    let m = c.args.verified.now in
    let args = c.args.arguments.now in
    let x = c.in_ok-explored.explored in
    let played = subst (λ (s : CoreValue). ArePlayed s x.found.ways x.found.all x.links.items) c.in_ok-explored.ensures.begun
    c.count_readings.ensures.played in
    let read = read_least m args x.found.ways x.found.all x.links.items played c.in_ok-read.read.count c.in_ok-read.ensures.least in
    let is = c.in_ok-found.ensures in
    let list = c.in_ok-found.found.list.items in
    least_of false m args list c.count_of.result.count c.in_ok-read.read.count (printed_shown m args list is.shown) is.distinct read c.count_of.ensures.either

pub returns-clause-exact : goal.returns-clause-exact
returns-clause-exact c done =
    let m = c.args.verified.now in
    let args = c.args.arguments.now in
    let whole = sym c.count_of.ensures.complete ∙ done in
    let is = c.in_ok-found.ensures in
    let list = c.in_ok-found.found.list.items in
    listed_exact false m args list c.count_of.result.count (printed_shown m args list is.shown) is.distinct (is.all whole) (c.count_of.ensures.whole whole)

pub returns-clause-far : goal.returns-clause-far
returns-clause-far c less =
    let m = c.args.verified.now in
    let args = c.args.arguments.now in
    let cut = sym c.count_of.ensures.complete ∙ less in
    let found = c.in_ok-found.found in
    let list = found.list.items in
    let is = c.in_ok-found.ensures in
    record {
      list = list;
      shown = printed_shown m args list is.shown;
      distinct = is.distinct;
      plain = printed_plain m args list (is.plain cut);
      far = record {
        entries = found.entries;
        kept = printed_kept m args c.args.limit.outcomes list found.entries is.kept;
        met = λ h. is.limit cut;
        few = is.most;
      };
      many = c.count_of.ensures.least;
    }

pub returns-clause-cut : goal.returns-clause-cut
returns-clause-cut c less =
    let m = c.args.verified.now in
    let args = c.args.arguments.now in
    let x = c.in_ok-explored.explored in
    let is = c.in_ok-explored.ensures in
    let read = c.in_ok-read.read in
    elim c.else-explored.branch [
      | else-explored-via-then-explored+else-read w ↦
          cut_by m args c.args.limit.entries read.count c.count_of.result.count x is (c.in_ok-read.ensures.limit w.if-read.false)
          (c.count_of.ensures.read (sym c.count_of.ensures.complete ∙ less))
      | else-explored-via-else-explored w ↦ record { explored = x; is = is; cut = inl (is.beyond w.if-explored.false) }
    ]
