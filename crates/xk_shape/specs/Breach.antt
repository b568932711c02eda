-- Where one rule on the shape of code is broken. This project's own.
use Rattle.std.specs.Prelude.{◌≡◌, ℕ, ◌<◌, Bool, true, false, [], ◌∷◌, Option, Some, None}
use Rattle.xk_types.specs.declared.rules.Rule.{Rule}
use Rattle.xk_types.specs.Code.{UnitValue, ModuleValue}
use Rattle.xk_types.specs.RuleNames.{rule_number}
use Rattle.xk_types.specs.Order.{NotAfter}
use Rattle.xk_types.specs.Shape.{breaks, breaks_in}
use Rattle.xk_shape.specs.declared.fault.ShapeFault.{ShapeFault}

-- no place breaks the rule
abbrev pub IsNowhereBroken : ModuleValue → Rule → Type 0
IsNowhereBroken m r = (unit at : ℕ) → breaks m r unit at ≡ false

-- the fault is of that rule, and names the least place that breaks it
pub record IsLeastBreach (m : ModuleValue) (r : Rule) (f : ShapeFault) : Type 0 where
  pub rule : f.rule ≡ r
  pub broken : breaks m r f.unit f.at ≡ true
  pub least : (unit at : ℕ) → breaks m r unit at ≡ true → NotAfter (f.unit ∷ f.at ∷ []) (unit ∷ at ∷ [])

-- no place breaks a rule of smaller number
abbrev pub KeepsEarlier : ModuleValue → Rule → Type 0
KeepsEarlier m r = (q : Rule) → rule_number q < rule_number r → IsNowhereBroken m q

-- no place of the unit does
abbrev pub KeepsEarlierIn : ModuleValue → ℕ → UnitValue → Rule → Type 0
KeepsEarlierIn m unit u r = (q : Rule) (at : ℕ) → rule_number q < rule_number r → breaks_in m q unit u at ≡ false

-- the test finds no place before this one
abbrev pub IsUnbrokenBefore : (ℕ → Bool) → ℕ → Type 0
IsUnbrokenBefore test n = (at : ℕ) → at < n → test at ≡ false

-- the first place that the test finds, if it finds one
abbrev pub IsFirst : (ℕ → Bool) → Option ℕ → Type 0
IsFirst test None = (at : ℕ) → test at ≡ false
IsFirst test (Some first) = (test first ≡ true) × IsUnbrokenBefore test first
