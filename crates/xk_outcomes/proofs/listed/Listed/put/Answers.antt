use Rattle.std.proofs.Common.{◌∙◌, inr, ap, sym}
use Rattle.xk_outcomes.specs.Listed.{outcomes_in}
use Rattle.xk_outcomes.proofs.ListedLemmas.{known, listed_behind, unknown}
use Rattle.xk_outcomes.proofs.ListingLemmas.{distinct_push, keeps_push, keeps_same, listed_push}
use Rattle.xk_outcomes.proofs.listed.Listed.put.Goals as goal

pub returns-then-contains_key-clause-listed : goal.returns-then-contains_key-clause-listed
returns-then-contains_key-clause-listed c =
    known c.self.inside.logs.entries c.args.self.now c.args.new.numbers.items c.self.view_is (sym c.contains_key.ensures ∙ c.if-contains_key.true)

pub returns-in_err-insert-clause-kept : goal.returns-in_err-insert-clause-kept
returns-in_err-insert-clause-kept c = keeps_same c.args.self.now _ (ap outcomes_in c.in_err-insert.ensures.err ∙ c.self.view_is)

pub returns-clause-distinct : goal.returns-clause-distinct
returns-clause-distinct c d =
    let none = sym c.contains_key.ensures ∙ c.if-contains_key.false in
    let put = listed_behind c.self.inside.logs.entries _ c.args.self.now c.args.new c.self.view_is none c.in_ok-insert.ensures.entries in
    distinct_push c.args.self.now _ c.args.new put (unknown c.self.inside.logs.entries c.args.self.now c.args.new.numbers.items c.self.view_is none) d

pub returns-clause-kept : goal.returns-clause-kept
returns-clause-kept c =
    let none = sym c.contains_key.ensures ∙ c.if-contains_key.false in
    let put = listed_behind c.self.inside.logs.entries _ c.args.self.now c.args.new c.self.view_is none c.in_ok-insert.ensures.entries in
    keeps_push c.args.self.now _ c.args.new put

pub returns-clause-listed : goal.returns-clause-listed
returns-clause-listed c =
    let none = sym c.contains_key.ensures ∙ c.if-contains_key.false in
    let put = listed_behind c.self.inside.logs.entries _ c.args.self.now c.args.new c.self.view_is none c.in_ok-insert.ensures.entries in
    listed_push c.args.self.now _ c.args.new put

pub returns-clause-each : goal.returns-clause-each
returns-clause-each c =
    let none = sym c.contains_key.ensures ∙ c.if-contains_key.false in
    inr (listed_behind c.self.inside.logs.entries _ c.args.self.now c.args.new c.self.view_is none c.in_ok-insert.ensures.entries)
