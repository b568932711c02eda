-- What the shape of a module says of one of its units.
use Rattle.std.proofs.Common.{◌≡◌, ℕ, ◌<◌, false, List, length, get_or, Option, Some, slice_get, sym, ap, ◌∙◌, subst, arith}
use Rattle.std.proofs.lemmas.Option.{slice_get-get_or, get_or_from_slice_get, slice_get_within}
use Rattle.std.proofs.lemmas.List.Elements.{All-get_or}
use Rattle.xk_types.specs.declared.rules.Rule.{Rule}
use Rattle.xk_types.specs.declared.rules.Rule.TheVariants as rule
use Rattle.xk_types.specs.Code.{UnitValue, ModuleValue, IsUnitWithinLimits, IsWithinLimits}
use Rattle.xk_types.specs.RuleNames.{rule_number}
use Rattle.xk_types.specs.Shape.{HasShape, breaks_in, breaks_unit_of}
use Rattle.xk_types.proofs.ShapeLemmas.SpanLemmas.{aims, uncrossing}
use Rattle.xk_shape.specs.declared.layout.Layout.{Layout}
use Rattle.xk_shape.specs.declared.layout.Layout.TheVariants as layout
use Rattle.xk_shape.specs.Nesting.{AreNested}
use Rattle.xk_shape.specs.Layout.{IsLayout, IsNested}
use Rattle.xk_shape.specs.Breach.{IsNowhereBroken, KeepsEarlierIn}
use Rattle.xk_shape.specs.Blocks.{IsOrderly, HasBlocks}

-- a rule that no place of the module breaks is broken nowhere in the unit
pub unbroken_in : (m : ModuleValue) (u : UnitValue) (r : Rule) (unit : ℕ) → IsNowhereBroken m r → slice_get m.units unit ≡ Some u → (at : ℕ) → breaks_in m r unit u at ≡ false
unbroken_in m u r unit nowhere found at =
    let P : Option UnitValue → Type 0 = λ o. breaks_unit_of m r unit o at ≡ false in
    subst P found (nowhere unit at)

limits_of : (m : ModuleValue) (u : UnitValue) (unit : ℕ) → IsWithinLimits m → slice_get m.units unit ≡ Some u → IsUnitWithinLimits u
limits_of m u unit limits found =
    subst IsUnitWithinLimits (get_or_from_slice_get m.units unit u u found)
    (All-get_or IsUnitWithinLimits m.units unit u (slice_get_within m.units unit u found) limits.each)

orderly_of : (m : ModuleValue) (u : UnitValue) (unit : ℕ) → IsWithinLimits m → IsNowhereBroken m rule.Target → IsNowhereBroken m rule.Block → IsNowhereBroken m rule.Slot
    → slice_get m.units unit ≡ Some u
    → IsOrderly u
orderly_of m u unit limits targets blocks slots found = record {
  limits = limits_of m u unit limits found;
  targets = unbroken_in m u rule.Target unit targets found;
  blocks = unbroken_in m u rule.Block unit blocks found;
  slots = unbroken_in m u rule.Slot unit slots found;
}

-- what keeps the rules on targets and blocks nests
pub nested_of : (u : UnitValue) → IsOrderly u → AreNested u
nested_of u orderly = record { aimed = λ at i here none. aims u orderly.targets at i here; paired = λ at i here none. uncrossing u orderly.blocks at i here }

pub is_nested : (u : UnitValue) (l : Layout) → IsLayout u l → AreNested u → IsNested l
is_nested u (layout.Nested t) is nested = tt
is_nested u (layout.Amiss all) is nested = is.0 nested

-- a unit that breaks no rule of smaller number
pub orderly_in : (m : ModuleValue) (unit : ℕ) (u : UnitValue) (r : Rule) → IsUnitWithinLimits u → KeepsEarlierIn m unit u r → 3 < rule_number r → IsOrderly u
orderly_in m unit u r limits earlier lt = record {
  limits = limits;
  targets = λ at. earlier rule.Target at (omega arith);
  blocks = λ at. earlier rule.Block at (omega arith);
  slots = λ at. earlier rule.Slot at lt;
}

pub blocks_in : (m : ModuleValue) (unit : ℕ) (u : UnitValue) (r : Rule) → IsUnitWithinLimits u → KeepsEarlierIn m unit u r → 8 < rule_number r → HasBlocks u
blocks_in m unit u r limits earlier lt = record { orderly = orderly_in m unit u r limits earlier (omega arith); homes = λ at. earlier rule.Home at lt }

-- an element as a loop over the units gives it
pub unit_at : (units : List UnitValue) (m : ModuleValue) (n : ℕ) (u : UnitValue) → units ≡ m.units → n < length units → u ≡ get_or units n u → slice_get m.units n ≡ Some u
unit_at units m n u listed inside is =
    ap (λ us. slice_get us n) (sym listed) ∙ slice_get-get_or units n u inside ∙ ap Some (sym is)

blocks_of : (m : ModuleValue) (u : UnitValue) (unit : ℕ) → IsWithinLimits m → IsNowhereBroken m rule.Target → IsNowhereBroken m rule.Block → IsNowhereBroken m rule.Slot
    → IsNowhereBroken m rule.Home
    → slice_get m.units unit ≡ Some u
    → HasBlocks u
blocks_of m u unit limits targets blocks slots homes found = record {
  orderly = orderly_of m u unit limits targets blocks slots found;
  homes = unbroken_in m u rule.Home unit homes found;
}

-- a unit of a module that has the shape has blocks, and its slots are at home in no more than one
pub blocks_of_shape : (m : ModuleValue) (u : UnitValue) (unit : ℕ) → IsWithinLimits m → HasShape m → slice_get m.units unit ≡ Some u → HasBlocks u
blocks_of_shape m u unit limits shape found = blocks_of m u unit limits (shape rule.Target) (shape rule.Block) (shape rule.Slot) (shape rule.Home) found
