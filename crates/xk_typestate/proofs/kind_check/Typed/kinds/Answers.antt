-- the set in the table
use Rattle.std.proofs.Common.{[], ap, sym, ◌∙◌, subst, arith}
use Rattle.std.proofs.lemmas.List.{get_or_read}
use Rattle.std.proofs.lemmas.Option.{slice_get_within}
use Rattle.xk_typestate.specs.KindSet.{kinds_have}
use Rattle.xk_typestate.specs.Place.{visit}
use Rattle.xk_typestate.specs.KindTable.{AreKindTables, IsKindTable}
use Rattle.xk_typestate.proofs.UnitLemmas.{visited_reached, reached_in}
use Rattle.xk_typestate.proofs.kind_check.Typed.kinds.Goals as goal

pub returns : goal.returns
returns c = λ k.
    let m = c.args.self.now in
    let r = c.requires in
    let table = c.self.inside.tables.items in
    let all = subst (λ x. AreKindTables x table) c.self.view_is c.self.invariant.kinds in
    let lt = slice_get_within m.units c.args.unit r.u r.found in
    let here = get_or_read table c.args.unit c.index.result.now (omega (arith, all.units)) c.index.ensures [] in
    let of_unit = subst (λ x. IsKindTable m r.u x) (sym here) (all.each c.args.unit r.u r.found) in
    let exact = (of_unit.each c.args.slot r.slot).exact (visit c.args.at k) in
    let is = ap (λ x. kinds_have x k) c.kinds.ensures in (
      λ t. visited_reached m c.args.unit r.u c.args.slot c.args.at r.found k (exact.0 (sym is ∙ t)),
      λ h. is ∙ exact.1 (reached_in m c.args.unit r.u c.args.slot c.args.at r.found k h),
    )
