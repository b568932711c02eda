-- A refusal tells that the module isn't accepted.
use Rattle.std.proofs.Common.{◌≡◌, ◌<◌, refl, arith}
use Rattle.std.proofs.lemmas.Bool.{both_ways}
use Rattle.xk_types.specs.declared.rules.Rule.{Rule}
use Rattle.xk_types.specs.declared.rules.Rule.TheVariants as rule
use Rattle.xk_types.specs.Code.{ModuleValue}
use Rattle.xk_types.specs.Bound.{bound_of, limit_of, IsWithinBounds}
use Rattle.xk_types.specs.Acceptance.{IsAccepted}
use Rattle.xk_typestate.specs.Place.{visit}
use Rattle.xk_bounds.specs.declared.refusal.Refusal.{Refusal}
use Rattle.xk_bounds.specs.declared.refusal.Refusal.TheVariants as refusal
use Rattle.xk_bounds.specs.Refusals.{Refuses}

-- no bound of an accepted module is over its limit
within_limit : (m : ModuleValue) → IsWithinBounds m → (r : Rule) → limit_of r < bound_of m r → ⊥
within_limit m h rule.Steps lt = omega (arith, h.steps)
within_limit m h rule.Activities lt = omega (arith, h.activities)
within_limit m h rule.Clocks lt = omega (arith, h.clocks)
within_limit m h rule.Stack lt = omega (arith, h.stack)
within_limit m h _ lt = omega arith

-- an accepted module is refused for want of memory alone
pub refused_by_memory : (m : ModuleValue) (e : Refusal) → IsAccepted m → Refuses m e → e ≡ refusal.OutOfMemory
refused_by_memory m (refusal.Shape f) h r = absurd (both_ways _ (h.shape f.rule f.unit f.at) r.broken)
refused_by_memory m (refusal.Kind f) h r = absurd (h.kinds f.unit f.slot (visit f.at f.kind) f.rule r.fault.refused)
refused_by_memory m (refusal.Bound f) h r = absurd (within_limit m h.bounds f.rule r.fault.broken)
refused_by_memory m refusal.OutOfMemory h r = refl
