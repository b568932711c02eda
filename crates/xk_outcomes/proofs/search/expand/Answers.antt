use Rattle.std.proofs.Common.{◌∙◌, subst, sym}
use Rattle.std.proofs.lemmas.Option.{same_Some}
use Rattle.std.proofs.lemmas.Result.{on_ok_weaker}
use Rattle.xk_types.specs.Code.{ModuleValue}
use Rattle.xk_outcomes.specs.Alikeness.{counted}
use Rattle.xk_outcomes.specs.Found.{FoundValue}
use Rattle.xk_outcomes.specs.Links.{AreLinked}
use Rattle.xk_outcomes.specs.Search.{IsExpanded}
use Rattle.xk_outcomes.proofs.search.expand.Goals as goal

pub returns-clause-linked : goal.returns-clause-linked
returns-clause-linked c =
    let same_module = (c.len-count.ensures.found c.args.number c.in_ok-here.here c.in_ok-here.ensures).1.module_is in
    on_ok_weaker c.look.result (λ linked before.
    subst (λ (k : ModuleValue). AreLinked (counted c.look.new.all.like) k c.look.new.all.ways c.look.new.all.all c.look.new.links.items)
    same_module
    (linked (subst (λ (k : ModuleValue). AreLinked (counted c.args.all.now.like) k c.args.all.now.ways c.args.all.now.all
    c.args.links.now.items) (sym same_module) before))) c.look.ensures.linked

pub look-requires-clause-footprints : goal.look-requires-clause-footprints
look-requires-clause-footprints c = c.requires.footprints
    ∙ sym (c.len-count.ensures.found c.args.number c.in_ok-here.here c.in_ok-here.ensures).1.module_is

pub returns-clause-expanded : goal.returns-clause-expanded
returns-clause-expanded c =
    let here = c.in_ok-here.here in
    let same_module = (c.len-count.ensures.found c.args.number here c.in_ok-here.ensures).1.module_is in
    on_ok_weaker c.look.result (λ expanded x there.
    subst (λ (k : ModuleValue). IsExpanded k c.look.new.all.like c.look.new.all.all c.look.new.links.items c.args.number x) same_module
    (subst (λ (y : FoundValue). IsExpanded here.core.module_run c.look.new.all.like c.look.new.all.all c.look.new.links.items c.args.number y)
    (same_Some here x (sym c.in_ok-here.ensures ∙ there)) expanded)) c.look.ensures.expanded
