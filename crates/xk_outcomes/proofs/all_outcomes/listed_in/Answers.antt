use Rattle.std.specs.Prelude.{max}
use Rattle.std.proofs.Common.{◌∙◌, ◌<◌, ◌≤◌, arith, List, length, inl, inr, true≢false, sym, subst}
use Rattle.xk_core.specs.Core.{CoreValue}
use Rattle.xk_outcomes.specs.declared.listing.Outcome.{Outcome}
use Rattle.xk_outcomes.specs.Alikeness.{counted}
use Rattle.xk_outcomes.specs.Links.{AreLinked}
use Rattle.xk_outcomes.specs.Listing.{AreAllIn, AreOf, AreShownIn, HasKeptIn}
use Rattle.xk_outcomes.specs.Numbering.{AreNumberedIn}
use Rattle.xk_outcomes.specs.Outcomes.{AreDistinct}
use Rattle.xk_outcomes.specs.PlainRuns.{ArePlainListedIn, plain_runs}
use Rattle.xk_outcomes.proofs.ListingLemmas.{all_shown, all_listed, all_kept}
use Rattle.xk_outcomes.proofs.NumberingLemmas.{numbered_in, whole_within}
use Rattle.xk_outcomes.proofs.PlainRunLemmas.{more_of_none, plain_kept}
use Rattle.xk_outcomes.proofs.all_outcomes.listed_in.Goals.{then-explored, else-explored}
use Rattle.xk_outcomes.proofs.all_outcomes.listed_in.Goals as goal

pub list_found-requires : goal.list_found-requires
list_found-requires c =
    let x = c.args.explored.now in
    let is = c.requires.explored in
    subst (λ (s : CoreValue). AreLinked (counted x.found.like) s.module_run x.found.ways x.found.all x.links.items) (sym is.begun) is.linked

pub returns-clause-shown : goal.returns-clause-shown
returns-clause-shown c =
    let m = c.args.verified.now in
    let args = c.args.arguments.now in
    let of = subst (λ (s : CoreValue). AreOf c.args.order s c.note_plain.new.list c.list_found.new.list) c.requires.explored.begun
    c.list_found.ensures.of in
    subst (λ (list : List Outcome). AreShownIn c.args.order m args list) (sym c.in_ok-list.ensures)
    (all_shown c.args.order m args c.note_plain.new.list c.list_found.new.list
    (more_of_none c.args.order m args plain_runs c.new-listed.result c.note_plain.new.list c.new-listed.ensures
    c.note_plain.ensures.more).1 of)

pub returns-clause-distinct : goal.returns-clause-distinct
returns-clause-distinct c =
    subst AreDistinct (sym c.in_ok-list.ensures)
    (c.list_found.ensures.distinct
    (more_of_none c.args.order c.args.verified.now c.args.arguments.now plain_runs c.new-listed.result c.note_plain.new.list
    c.new-listed.ensures c.note_plain.ensures.more).0)

pub returns-clause-most : goal.returns-clause-most
returns-clause-most c =
    let most = c.list_found.ensures.most in
    let few =
    (more_of_none c.args.order c.args.verified.now c.args.arguments.now plain_runs c.new-listed.result c.note_plain.new.list
    c.new-listed.ensures c.note_plain.ensures.more).2 in
    subst (λ (list : List Outcome). length list ≤ max c.args.limit.outcomes plain_runs) (sym c.in_ok-list.ensures)
    (omega (arith, most, few))

pub returns-clause-plain : goal.returns-clause-plain
returns-clause-plain c less =
    let m = c.args.verified.now in
    let args = c.args.arguments.now in
    subst (ArePlainListedIn c.args.order m args) (sym c.in_ok-list.ensures)
    (plain_kept c.args.order m args c.note_plain.new.list c.list_found.new.list c.list_found.ensures.kept
    c.in_ok-note_plain.ensures.plain)

pub returns-clause-all : goal.returns-clause-all
returns-clause-all c done =
    let m = c.args.verified.now in
    let args = c.args.arguments.now in
    let x = c.args.explored.now in
    elim c.if-explored.branch [
      | then-explored w ↦ subst (λ (list : List Outcome). AreAllIn c.args.order m args list) (sym c.in_ok-list.ensures)
          (all_listed c.args.order m args x.found.all x.links.items c.list_found.new.list (c.requires.explored.all w.if-explored.true)
          (c.in_ok-all.ensures.met (sym w.result-is ∙ done)))
      | else-explored w ↦ absurd (true≢false (sym done ∙ w.result-is ∙ w.if-explored.false))
    ]

pub returns-clause-limit : goal.returns-clause-limit
returns-clause-limit c less =
    elim c.if-explored.branch [
      | then-explored w ↦ inr (subst (λ (list : List Outcome). c.args.limit.outcomes ≤ length list) (sym c.in_ok-list.ensures)
          (c.in_ok-all.ensures.limit (sym w.result-is ∙ less)))
      | else-explored w ↦ inl (subst (λ n. c.args.limit.entries < n) (sym c.len.ensures.count)
          (c.requires.explored.beyond w.if-explored.false))
    ]

pub returns-clause-kept : goal.returns-clause-kept
returns-clause-kept c =
    let m = c.args.verified.now in
    let args = c.args.arguments.now in
    let most = c.args.limit.outcomes in
    let x = c.args.explored.now in
    let is = c.requires.explored in
    let kept = all_kept c.args.order x.found.like is.told m args most x.found.ways x.found.all x.links.items c.list_found.new.list
    c.in_ok-all.all
    is.found is.linked is.counting is.rest is.different c.in_ok-all.ensures.met c.in_ok-all.ensures.limit in
    subst (HasKeptIn c.args.order m args most c.in_ok-list.list.items) (sym c.len.ensures.count)
    (subst (λ (list : List Outcome). HasKeptIn c.args.order m args most list (length x.found.all)) (sym c.in_ok-list.ensures) kept)

pub returns-clause-order : goal.returns-clause-order
returns-clause-order c =
    let m = c.args.verified.now in
    let args = c.args.arguments.now in
    let limit = c.args.limit.entries in
    let x = c.args.explored.now in
    let is = c.requires.explored in
    let list = c.list_found.new.list in
    let few =
    (more_of_none c.args.order m args plain_runs c.new-listed.result c.note_plain.new.list c.new-listed.ensures c.note_plain.ensures.more).2 in
    subst (AreNumberedIn c.args.order m args limit c.in_ok-list.list.items) (sym c.len.ensures.count)
    (subst (λ (l : List Outcome). AreNumberedIn c.args.order m args limit l (length x.found.all)) (sym c.in_ok-list.ensures)
    (numbered_in c.args.order m args x.found.all x.links.items limit (length c.note_plain.new.list) list few c.in_ok-all.ensures.order
    (λ within. is.all (whole_within x.complete (length x.found.all) limit is.beyond within))))
