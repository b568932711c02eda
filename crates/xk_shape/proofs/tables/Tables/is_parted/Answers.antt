-- the innermost decides
use Rattle.std.proofs.Common.{◌≡◌, ℕ, ◌<◌, List, length, get_or, Some, slice_get, sym, ap, ◌∙◌}
use Rattle.std.proofs.lemmas.Option.{slice_get-get_or}
use Rattle.xk_shape.specs.declared.places.Place.{Place}
use Rattle.xk_shape.proofs.PlaceLemmas.{parted}
use Rattle.xk_shape.proofs.tables.Tables.is_parted.Goals as goal

looked_up : (xs ys : List Place) (at : ℕ) (p : Place) → xs ≡ ys → at < length xs → p ≡ get_or xs at p → slice_get ys at ≡ Some p
looked_up xs ys at p same inside is = ap (λ zs. slice_get zs at) (sym same) ∙ slice_get-get_or xs at p inside ∙ ap Some (sym is)

pub returns-in-Some-Some : goal.returns-in-Some-Some
returns-in-Some-Some c = λ u nested tables in_a in_b.
    let p = c.in-Some-Some.one.now in
    let q = c.in-Some-Some.other.now in
    let ps = c.args.self.now.places.items in
    let of_p = c.in-Some-Some.ensures.lookup in
    let of_q = c.in-Some-Some.ensures'.lookup in
    c.ne.ensures
    ∙ parted u nested c.args.a c.args.b p q
    (tables.places c.args.a p (looked_up c.deref.result.now ps c.args.a p c.deref.ensures.value of_p.3.0 of_p.1))
    (tables.places c.args.b q (looked_up c.deref-2.result.now ps c.args.b q c.deref-2.ensures.value of_q.3.0 of_q.1))
