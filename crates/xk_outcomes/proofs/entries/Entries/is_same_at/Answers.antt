use Rattle.std.proofs.Common.{◌≡◌, ◌∙◌, subst, sym}
use Rattle.std.proofs.lemmas.Option.{same_Some}
use Rattle.xk_outcomes.specs.Entries.{EntriesValue}
use Rattle.xk_outcomes.specs.Found.{FoundValue}
use Rattle.xk_outcomes.specs.Search.{IsAt}
use Rattle.xk_outcomes.proofs.entries.Entries.is_same_at.Goals as goal

pub is_same-requires : goal.is_same-requires
is_same-requires c =
    (c.len-count.ensures.found c.args.number c.in_ok-x.x c.in_ok-x.ensures).1.module_is ∙ sym c.requires.found.1.module_is

pub returns-clause-no : goal.returns-clause-no
returns-clause-no c said x there at =
    let new = c.args.new.now in
    let is : c.in_ok-x.x ≡ x = same_Some c.in_ok-x.x x (sym c.in_ok-x.ensures ∙ there) in
    c.in_ok-same.ensures.no said
    (subst (λ (e : EntriesValue). IsAt e.like c.in_ok-x.x new.core.world new.printed) (sym c.self.view_is)
    (subst (λ (y : FoundValue). IsAt c.args.self.now.like y new.core.world new.printed) (sym is) at))
