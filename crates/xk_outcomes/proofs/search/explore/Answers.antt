use Rattle.std.proofs.Common.{◌∙◌, ap, length, subst, slice_get, sym}
use Rattle.xk_types.specs.Acceptance.{IsAccepted}
use Rattle.xk_types.specs.Code.{IsWithinLimits}
use Rattle.xk_core.specs.Core.{CoreValue}
use Rattle.xk_ranks.specs.Reads.{IsCounting}
use Rattle.xk_outcomes.specs.Alikeness.{Alikeness, counted}
use Rattle.xk_outcomes.specs.Entries.{EntriesValue}
use Rattle.xk_outcomes.specs.Found.{first_found}
use Rattle.xk_outcomes.specs.Links.{AreLinked}
use Rattle.xk_outcomes.specs.Search.{AreAllFound, AreExpanded, AreFound, AreSettled}
use Rattle.xk_outcomes.proofs.RestLemmas.{all_rest}
use Rattle.xk_outcomes.proofs.ExplorationLemmas.{all_found}
use Rattle.xk_outcomes.proofs.SearchLemmas.{linked_first}
use Rattle.xk_outcomes.proofs.FoundLemmas.{first_silent}
use Rattle.xk_outcomes.proofs.search.explore.Goals as goal

pub returns-clause-start : goal.returns-clause-start
returns-clause-start c = c.search.ensures.start ∙ ap (λ (e : EntriesValue). e.start) c.in_ok-found.ensures.first

pub returns-clause-found : goal.returns-clause-found
returns-clause-found c =
    subst (λ (s : CoreValue). AreFound s c.search.new.all.all) (c.search.ensures.start
    ∙ ap (λ (e : EntriesValue). e.start) c.in_ok-found.ensures.first) c.len-count.ensures.found

pub returns-clause-linked : goal.returns-clause-linked
returns-clause-linked c =
    let start = c.args.start in
    let limits = subst IsWithinLimits c.module-verified.ensures.same c.module-accepted.ensures.limits in
    let accepted = subst IsAccepted c.module-verified.ensures.same c.module-accepted.ensures.accepted in
    let silent = first_silent start limits accepted in
    let same_module = ap (λ (e : EntriesValue). e.start.module_run) c.in_ok-found.ensures.first in
    subst (λ k. AreLinked (counted c.search.new.all.like) k c.search.new.all.ways c.search.new.all.all c.search.new.links.items) same_module
    (c.in_ok-complete.ensures.linked (linked_first (counted c.in_ok-found.found.like) c.in_ok-found.found.start.module_run
    c.in_ok-found.found.ways start c.in_ok-found.found.all c.new-links.result.items
    (ap (λ (e : EntriesValue). e.all) c.in_ok-found.ensures.first) c.new-links.ensures.items silent))

pub returns-clause-begins : goal.returns-clause-begins
returns-clause-begins c =
    let first = first_found c.args.start in
    c.search.ensures.grown 0 first (ap (λ (e : EntriesValue). slice_get e.all 0) c.in_ok-found.ensures.first)

pub returns-clause-all : goal.returns-clause-all
returns-clause-all c done =
    let start = c.args.start in
    let all = c.search.new.all.all in
    let links = c.search.new.links.items in
    let limits = subst IsWithinLimits c.module-verified.ensures.same c.module-accepted.ensures.limits in
    let accepted = subst IsAccepted c.module-verified.ensures.same c.module-accepted.ensures.accepted in
    let like = c.search.new.all.like in
    let told = ap (λ (a : Alikeness). a.order) c.search.ensures.like ∙ c.in_ok-found.ensures.told in
    let begun = c.search.ensures.start ∙ ap (λ (e : EntriesValue). e.start) c.in_ok-found.ensures.first in
    let counting = subst (λ (s : CoreValue). IsCounting s.module_run (counted like)) begun c.len-count.ensures.counting in
    let same_module = ap (λ (e : EntriesValue). e.start.module_run) c.in_ok-found.ensures.first in
    let first = first_found start in
    subst (λ o. AreAllFound o start all links) told
    (all_found like start all links limits accepted
    c.module-verified.ensures.taken
    (c.module-verified.ensures.opening c.requires)
    counting
    (subst (λ (s : CoreValue). AreFound s all) begun c.len-count.ensures.found)
    (subst (λ k. AreExpanded k like all links (length all)) same_module (c.in_ok-complete.ensures.expanded done))
    (c.search.ensures.grown 0 first (ap (λ (e : EntriesValue). slice_get e.all 0) c.in_ok-found.ensures.first)))

pub returns-clause-rest : goal.returns-clause-rest
returns-clause-rest c =
    let all = c.search.new.all.all in
    all_rest c.args.start (subst IsWithinLimits c.module-verified.ensures.same c.module-accepted.ensures.limits)
    (subst IsAccepted c.module-verified.ensures.same c.module-accepted.ensures.accepted)
    c.module-verified.ensures.taken
    (c.module-verified.ensures.opening c.requires) all
    (subst (λ (s : CoreValue). AreSettled s all) (c.search.ensures.start
    ∙ ap (λ (e : EntriesValue). e.start) c.in_ok-found.ensures.first) c.len-count.ensures.settled)

pub returns-clause-told : goal.returns-clause-told
returns-clause-told c = ap (λ (a : Alikeness). a.order) c.search.ensures.like ∙ c.in_ok-found.ensures.told

pub returns-clause-counting : goal.returns-clause-counting
returns-clause-counting c =
    subst (λ (s : CoreValue). IsCounting s.module_run (counted c.search.new.all.like)) (c.search.ensures.start
    ∙ ap (λ (e : EntriesValue). e.start) c.in_ok-found.ensures.first) c.len-count.ensures.counting

pub search-requires : goal.search-requires
search-requires c =
    c.in_ok-footprints.ensures ∙ c.module-verified.ensures.same ∙ sym (ap (λ (e : EntriesValue). e.start.module_run) c.in_ok-found.ensures.first)
