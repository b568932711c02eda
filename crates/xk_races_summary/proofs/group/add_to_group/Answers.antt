-- The group has one more member, and its last one stands for that one, too.
use Rattle.std.proofs.Common.{◌≡◌, ◌∙◌, true, slice_set, ap, sym, subst}
use Rattle.std.proofs.lemmas.Bool.{true≢false}
use Rattle.std.proofs.lemmas.Option.{get_or_from_slice_get}
use Rattle.xk_races_summary.specs.Accesses.{is_placed, with_member}
use Rattle.xk_races_summary.proofs.GroupLemmas.{group_kept, group_there, is_within}
use Rattle.xk_races_summary.proofs.group.add_to_group.Goals as goal

pub returns-in_ok-add-clause-kept : goal.returns-in_ok-add-clause-kept
returns-in_ok-add-clause-kept c =
    λ z h.
    let groups = c.args.groups.now.items in
    let x = c.args.x.now in
    let g = c.requires.0 in
    let item = c.in-Some.ensures.item in
    let new = c.in_ok-add.ensures ∙ ap (with_member x) (item.3.1 g ∙ get_or_from_slice_get groups c.args.i g g c.requires.1) in
    subst (λ n. is_placed (slice_set groups c.args.i n) z ≡ true) (sym new) (group_kept groups c.args.i x z g c.requires.1 c.requires.2 h)

pub returns-in_ok-add-clause-there : goal.returns-in_ok-add-clause-there
returns-in_ok-add-clause-there c =
    let groups = c.args.groups.now.items in
    let x = c.args.x.now in
    let g = c.requires.0 in
    let item = c.in-Some.ensures.item in
    let new = c.in_ok-add.ensures ∙ ap (with_member x) (item.3.1 g ∙ get_or_from_slice_get groups c.args.i g g c.requires.1) in
    subst (λ n. is_placed (slice_set groups c.args.i n) x ≡ true) (sym new) (group_there groups c.args.i x g c.requires.1 c.requires.2)

pub returns-in_default-clause-there : goal.returns-in_default-clause-there
returns-in_default-clause-there c =
    let groups = c.args.groups.now.items in
    let item = c.in_default.ensures.item in
    absurd (true≢false (sym (is_within groups c.args.i c.requires.0 c.requires.1) ∙ sym item.0))
