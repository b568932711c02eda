use Rattle.std.proofs.Common.{List, ap, subst, ◌∙◌}
use Rattle.xk_types.specs.Code.{ModuleValue, UnitValue}
use Rattle.xk_closed_sets.specs.declared.places.Reach.{Reach}
use Rattle.xk_closed_sets.specs.Places.{AreClosed}
use Rattle.xk_closed_sets.proofs.TableLemmas.{closed_footprints}
use Rattle.xk_closed_sets.proofs.footprints.Footprints.of.Goals as goal

pub invariant_of-result : goal.invariant_of-result
invariant_of-result c = λ known. closed_footprints c.args.verified.now c.in_ok-rows.rows.items
    (subst (λ (us : List UnitValue). AreClosed c.in_ok-rows.rows.items us)
    (c.units-units.ensures.listed ∙ ap (λ (m : ModuleValue). m.units) c.module.ensures.same)
    (subst (λ (rs : List (List Reach)). AreClosed rs c.units-units.result.now) c.deref.ensures.value (c.are_closed-known.ensures known)))
