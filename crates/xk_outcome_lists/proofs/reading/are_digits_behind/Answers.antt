use Rattle.std.proofs.Common.{◌≡◌, ◌+◌, ◌&&◌, false, drop, get_or, ap, sym, ◌∙◌}
use Rattle.std.proofs.lemmas.List.{drop_more}
use Rattle.xk_outcome_lists.specs.Expected.{are_digits_behind, may_follow}
use Rattle.xk_outcome_lists.proofs.reading.are_digits_behind.Goals as goal

pub returns-then-not-may_follow : goal.returns-then-not-may_follow
returns-then-not-may_follow c =
    let text = c.args.text.now in
    let i = c.loop-b.b-index in
    let b = get_or text i 0 in
    let stray : may_follow c.loop-b.last b ≡ false = sym c.may_follow.ensures ∙ c.if-not-may_follow.true in
    sym (sym c.loop-b.invariant ∙ ap (are_digits_behind c.loop-b.last) (drop_more text i 0 c.loop-b-test.true)
    ∙ ap (λ found. found && are_digits_behind b (drop (i + 1) text)) stray)
