use Rattle.std.proofs.Common.{◌≡◌, ◌∙◌, Err, Ok, Result, Some, ap, arith, length, slice_get, subst, sym}
use Rattle.std.specs.Prelude.{OnOk}
use Rattle.xk_outcomes.specs.Alikeness.{counted}
use Rattle.xk_outcomes.specs.Entries.{EntriesValue}
use Rattle.xk_outcomes.specs.Found.{FoundValue}
use Rattle.xk_outcomes.specs.Links.{AreLinked}
use Rattle.xk_outcomes.specs.Search.{HasAfter}
use Rattle.xk_outcomes.proofs.TripLemmas.{through_module}
use Rattle.xk_outcomes.proofs.search.try_act.Goals as goal

-- what is so anyway
anyway : {T E P : Type 0} (r : Result T E) → P → OnOk r P
anyway (Ok x) p = p
anyway (Err e) p = tt

-- a way leads on in the same module
pub go_alone-requires : goal.go_alone-requires
go_alone-requires c =
    c.requires.footprints
    ∙ sym (ap (λ (x : FoundValue). x.core.module_run) c.in_ok-way.ensures.to ∙ through_module c.in_ok-way.way.items c.args.here.now)

pub link_after-requires-clause-trip : goal.link_after-requires-clause-trip
link_after-requires-clause-trip c =
    let here = c.args.here.now in
    let count = c.len.ensures in
    let kept = c.here.inside.printed.ok.0 in
    let same : length c.here.inside.printed.items ≡ length here.printed = ap (λ (x : FoundValue). length x.printed) c.here.view_is in
    let before : length here.printed ≡ c.len.result = omega (arith, count, kept, same) in
    c.in_ok-go_alone.ensures here c.args.act before
    (sym (ap (λ (x : FoundValue). x.core.module_run) c.in_ok-way.ensures.to ∙ through_module c.in_ok-way.way.items here))
    c.in_ok-way.ensures

pub returns-clause-grown : goal.returns-clause-grown
returns-clause-grown c k x there =
    subst (λ (e : EntriesValue). slice_get e.all k ≡ Some x) (sym c.keep.ensures) (c.link_after.ensures.grown k x there)

pub returns-clause-linked : goal.returns-clause-linked
returns-clause-linked c = anyway c.keep.result (λ before.
    subst (λ (e : EntriesValue). AreLinked (counted e.like) c.args.here.now.core.module_run e.ways e.all c.link_after.new.links.items)
    (sym c.keep.ensures)
    (c.in_ok-to.ensures.linked before))

pub returns-clause-after : goal.returns-clause-after
returns-clause-after c = anyway c.keep.result
    (subst (λ (e : EntriesValue). HasAfter c.args.here.now.core.module_run e.like e.all c.link_after.new.links.items c.args.number c.args.here.now c.args.act)
    (sym c.keep.ensures) c.in_ok-to.ensures.after)
