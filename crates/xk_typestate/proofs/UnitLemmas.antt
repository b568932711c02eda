-- From the units to the module: the least fault of the first unit that has one is the module's.
use Rattle.std.proofs.Common.{◌≡◌, ℕ, ◌<◌, Some, slice_get, inl, inr, sym, ap, ◌∙◌, subst, arith, List, length, get_or, refl}
use Rattle.std.proofs.lemmas.Option.{same_Some, slice_get_read}
use Rattle.std.proofs.lemmas.Bool.{cases_order}
use Rattle.xk_types.specs.declared.rules.Rule.{Rule}
use Rattle.xk_types.specs.declared.rules.Kind.{Kind}
use Rattle.xk_types.specs.declared.rules.Visit.{Visit}
use Rattle.xk_types.specs.Code.{UnitValue, ModuleValue}
use Rattle.xk_types.specs.Walk.{IsVisited, IsRefusedAt}
use Rattle.xk_typestate.specs.declared.fault.KindFault.{KindFault}
use Rattle.xk_typestate.specs.declared.fault.KindError.{KindError}
use Rattle.xk_typestate.specs.declared.fault.KindError.TheVariants.{Fault, OutOfMemory}
use Rattle.xk_typestate.specs.Place.{visit, IsVisitedIn}
use Rattle.xk_typestate.specs.LeastRefusal.{IsKindFault, IsNeverRefused, IsRefusedIn, IsNeverRefusedIn, IsUnitFault, FailsUnit, FailsModule}

-- the unit that a loop over the units reads is the module's
pub found_unit : (m : ModuleValue) (xs : List UnitValue) (n : ℕ) (u : UnitValue) → xs ≡ m.units → n < length xs → u ≡ get_or xs n u → slice_get m.units n ≡ Some u
found_unit m xs n u listed lt read = ap (λ ys. slice_get ys n) (sym listed) ∙ slice_get_read xs (length xs) n u refl lt read

-- a place of the module that is refused is refused in its unit
refused_in : (m : ModuleValue) (unit : ℕ) (u : UnitValue) (s : ℕ) (q : Visit) (r : Rule) → slice_get m.units unit ≡ Some u → IsRefusedAt m unit s q r → IsRefusedIn m u s q r
refused_in m unit u s q r found h =
    let P : UnitValue → Type 0 = λ v. IsRefusedIn m v s q r in
    subst P (same_Some _ _ (sym h.found ∙ found)) (record { slot = h.slot; visited = h.visited; refused = h.refused })

-- no unit below the number has a slot that is refused
abbrev pub IsUnrefusedBelow : ModuleValue → ℕ → Type 0
IsUnrefusedBelow m n = (unit : ℕ) (u : UnitValue) → unit < n → slice_get m.units unit ≡ Some u → IsNeverRefusedIn m u

-- the least fault of the first unit that has one is the least of the module
fault_of_unit : (m : ModuleValue) (unit : ℕ) (u : UnitValue) (f : KindFault) → slice_get m.units unit ≡ Some u → IsUnrefusedBelow m unit → IsUnitFault m unit u f
    → IsKindFault m f
fault_of_unit m unit u f found below h =
    let at_unit : slice_get m.units f.unit ≡ Some u = ap (slice_get m.units) h.unit_is ∙ found in
    record {
      refused = record { u = u; found = at_unit; slot = h.refused.slot; visited = h.refused.visited; refused = h.refused.refused };
      least = λ unit' s q r refused. elim (cases_order f.unit unit') [
        | inl same ↦ inr (same, h.least s q r (refused_in m unit' u s q r (ap (slice_get m.units) (sym same) ∙ at_unit) refused))
        | inr apart ↦ elim apart [
          | inl before ↦ inl before
          | inr after ↦
              let is = h.unit_is in
              let lt : unit' < unit = omega arith in
              absurd (below unit' refused.u lt refused.found s q r (refused_in m unit' refused.u s q r refused.found refused))
        ]
      ];
      walk = record { u = u; found = at_unit; walked = h.walked; ends = h.ends; shortest = h.shortest };
    }

-- the same of an error
pub fails_module : (m : ModuleValue) (unit : ℕ) (u : UnitValue) (e : KindError) → slice_get m.units unit ≡ Some u → IsUnrefusedBelow m unit → FailsUnit m unit u e → FailsModule m e
fails_module m unit u (Fault f) found below h = fault_of_unit m unit u f found below h
fails_module m unit u OutOfMemory found below h = tt

-- no unit has one
pub never_refused : (m : ModuleValue) → ((unit : ℕ) (u : UnitValue) → slice_get m.units unit ≡ Some u → IsNeverRefusedIn m u) → IsNeverRefused m
never_refused m h unit s q r refused = h unit refused.u refused.found s q r (refused_in m unit refused.u s q r refused.found refused)

module _ (m : ModuleValue) (unit : ℕ) (u : UnitValue) (s at : ℕ) (found : slice_get m.units unit ≡ Some u) where
  -- what is reached in the module is visited in the unit
  pub reached_in : (k : Kind) → IsVisitedIn m unit s (visit at k) → IsVisited m u s (visit at k)
  reached_in k h =
      let P : UnitValue → Type 0 = λ v. IsVisited m v s (visit at k) in
      subst P (same_Some _ _ (sym h.found ∙ found)) h.visited

  -- and the other way round
  pub visited_reached : (k : Kind) → IsVisited m u s (visit at k) → IsVisitedIn m unit s (visit at k)
  visited_reached k v = record { u = u; found = found; visited = v }
