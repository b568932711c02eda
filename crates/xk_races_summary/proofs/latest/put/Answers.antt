-- Where the access stands in the place of one like it, it stands for all that that one stood for.
use Rattle.std.proofs.Common.{◌≡◌, ◌∙◌, true, Some, slice_get, slice_set, ap, sym, subst}
use Rattle.xk_races_summary.specs.declared.access.Detail.TheVariants.{Activity}
use Rattle.xk_races_summary.specs.Accesses.{is_covered}
use Rattle.xk_races_summary.proofs.AccessLemmas.{raised, raised_there}
use Rattle.xk_races_summary.proofs.latest.put.Goals as goal

pub returns-in-Some-clause-kept : goal.returns-in-Some-clause-kept
returns-in-Some-clause-kept c =
    λ z h.
    let found = c.in-Some.ensures in
    let rows = c.args.rows.now.items in
    let at = subst (λ xs. slice_get xs c.in-Some.i ≡ Some c.in-Some.r) c.deref.ensures.value found.0 in
    subst (λ xs. is_covered Activity xs z ≡ true) (sym (c.replace.ensures ∙ ap (slice_set rows c.in-Some.i) c.later.ensures))
    (raised Activity rows c.in-Some.i c.args.x.now z c.in-Some.r at found.1 h)

pub returns-in-Some-clause-there : goal.returns-in-Some-clause-there
returns-in-Some-clause-there c =
    let found = c.in-Some.ensures in
    let rows = c.args.rows.now.items in
    let at = subst (λ xs. slice_get xs c.in-Some.i ≡ Some c.in-Some.r) c.deref.ensures.value found.0 in
    subst (λ xs. is_covered Activity xs c.args.x.now ≡ true) (sym (c.replace.ensures ∙ ap (slice_set rows c.in-Some.i) c.later.ensures))
    (raised_there Activity rows c.in-Some.i c.args.x.now c.in-Some.r at found.1)
