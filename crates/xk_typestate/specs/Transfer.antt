-- What the code answers to the table of kinds and to the edges. This project's own.
use Rattle.std.specs.Prelude.{◌≡◌, ℕ, ◌≤◌, ◌↔◌, List, [], ◌∷◌, Result, Ok, Err, IsTrue, if◌then◌else◌}
use Rattle.xk_types.specs.declared.instr.Instr.{Instr}
use Rattle.xk_types.specs.declared.rules.Rule.{Rule}
use Rattle.xk_types.specs.declared.rules.Kind.{Kind}
use Rattle.xk_types.specs.Order.{Has}
use Rattle.xk_types.specs.Walk.{After, To, Refused, passes_over}
use Rattle.xk_typestate.specs.KindSet.{KindsValue, kinds_have}
use Rattle.xk_typestate.specs.declared.transfer.Successors.{Successors}
use Rattle.xk_typestate.specs.declared.transfer.Successors.TheVariants.{Nowhere, One, Two}

-- the set has the kinds of the list
abbrev pub HasAll : KindsValue → List Kind → Type 0
HasAll set list = (k : Kind) → IsTrue (kinds_have set k) ↔ Has list k

-- the kinds that are left, or the rule that refuses
abbrev pub IsRow : After → Result KindsValue Rule → Type 0
IsRow a (Ok set) = (list : List Kind) × (a ≡ To list) × HasAll set list
IsRow a (Err r) = a ≡ Refused r

-- what is left on the way to a place, by whether it passes over a loop
abbrev pub way_kinds : Instr → ℕ → KindsValue → KindsValue → KindsValue
way_kinds i to on past = if passes_over i to then past else on

-- the places that are the successors
abbrev pub places : Successors → List ℕ
places Nowhere = []
places (One to) = to ∷ []
places (Two first second) = first ∷ second ∷ []

-- the first of two is not the greater
abbrev pub AreRising : Successors → Type 0
AreRising Nowhere = Unit {0}
AreRising (One to) = Unit {0}
AreRising (Two first second) = first ≤ second
