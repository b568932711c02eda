use Rattle.std.proofs.Common.{◌≡◌, ◌∙◌, ℕ, List, Some, slice_get, sym, subst, true≢false}
use Rattle.xk_outcome_lists.proofs.expected.Expected.has.Goals as goal

pub returns-clause-yes : goal.returns-clause-yes
returns-clause-yes c known =
    let found = c.self.invariant.other c.args.text.now (sym c.contains.ensures ∙ known) in
    (found.0, subst (λ (told : List (List ℕ)). slice_get told found.0 ≡ Some c.args.text.now) c.self.view_is found.1)

pub returns-clause-no : goal.returns-clause-no
returns-clause-no c known k there =
    let here = subst (λ (told : List (List ℕ)). slice_get told k ≡ Some c.args.text.now) (sym c.self.view_is) there in
    true≢false (sym (c.self.invariant.each k c.args.text.now here) ∙ sym c.contains.ensures ∙ known)
