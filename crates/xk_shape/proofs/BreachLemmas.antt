-- The least place that breaks a rule, unit after unit; and the first rule that is broken.
use Rattle.std.proofs.Common.{◌≡◌, ℕ, zero, suc, get_or, ◌+◌, ◌<◌, ◌≤◌, true, false, [], ◌∷◌, List, length, Some, slice_get, inl, inr, refl, sym, ap, ◌∙◌, subst, arith}
use Rattle.std.proofs.lemmas.Option.{slice_get_past}
use Rattle.std.proofs.lemmas.Bool.{both_ways, cases_lt, cases_order}
use Rattle.xk_types.specs.declared.rules.Rule.{Rule}
use Rattle.xk_types.specs.declared.rules.Rule.TheVariants as rule
use Rattle.xk_types.specs.Code.{UnitValue, ModuleValue}
use Rattle.xk_types.specs.RuleNames.{rule_number}
use Rattle.xk_types.specs.Shape.{breaks, breaks_in, breaks_unit_of}
use Rattle.xk_shape.specs.declared.fault.ShapeFault.{ShapeFault}
use Rattle.xk_shape.specs.Breach.{IsNowhereBroken, IsLeastBreach, IsUnbrokenBefore}
use Rattle.xk_shape.specs.Fault.{IsShapeFault}

-- no place of the first units breaks the rule
abbrev pub AreUnbroken : ModuleValue → Rule → ℕ → Type 0
AreUnbroken m r n = (unit at : ℕ) → unit < n → breaks m r unit at ≡ false

module _ (m : ModuleValue) (r : Rule) (n : ℕ) (u : UnitValue) (found : slice_get m.units n ≡ Some u) (before : AreUnbroken m r n) where
  in_unit : (at : ℕ) → breaks m r n at ≡ breaks_in m r n u at
  in_unit at = ap (λ o. breaks_unit_of m r n o at) found

  pub units_more : ((at : ℕ) → breaks_in m r n u at ≡ false) → AreUnbroken m r (n + 1)
  units_more here unit at lt = elim (cases_order unit n) [
    | inl same ↦ ap (λ k. breaks m r k at) same ∙ in_unit at ∙ here at
    | inr other ↦ elim other [ inl less ↦ before unit at less | inr more ↦ absurd (omega arith) ]
  ]

  pub least_in : (at : ℕ) → breaks_in m r n u at ≡ true → IsUnbrokenBefore (breaks_in m r n u) at → IsLeastBreach m r (record { rule = r; unit = n; at = at })
  least_in at broken first = record {
    rule = refl;
    broken = in_unit at ∙ broken;
    least = λ unit k on. elim (cases_order unit n) [
      | inl same ↦ inr (
        sym same,
        elim (cases_order at k) [
          | inl one ↦ inr (one, tt)
          | inr other ↦ elim other [
            | inl lt ↦ inl lt
            | inr gt ↦ absurd (both_ways (breaks_in m r n u k) (first k gt) (sym (in_unit k) ∙ ap (λ x. breaks m r x k) (sym same) ∙ on))
          ]
        ],
      )
      | inr other ↦ elim other [
        | inl lt ↦ absurd (both_ways (breaks m r unit k) (before unit k lt) on)
        | inr gt ↦ inl gt
      ]
    ];
  }

pub units_all : (m : ModuleValue) (r : Rule) (n : ℕ) → length m.units ≤ n → AreUnbroken m r n → IsNowhereBroken m r
units_all m r n all before unit at = elim (cases_lt unit n) [
  | inl less ↦ before unit at less
  | inr past ↦ ap (λ o. breaks_unit_of m r unit o at) (slice_get_past m.units unit (omega arith))
]

-- the least breach of a rule, where no rule of smaller number is broken
pub first_fault : (m : ModuleValue) (r : Rule) (f : ShapeFault) → IsLeastBreach m r f → ((q : Rule) → rule_number q < rule_number r → IsNowhereBroken m q) → IsShapeFault m f
first_fault m r f least earlier = record {
  broken = ap (λ q. breaks m q f.unit f.at) least.rule ∙ least.broken;
  first = λ q unit at lt. earlier q (subst (λ x. rule_number q < rule_number x) least.rule lt) unit at;
  least = λ unit at on. least.least unit at (ap (λ q. breaks m q unit at) (sym least.rule) ∙ on);
}

-- the rules on shape come by their numbers
abbrev shape_rules : List Rule
shape_rules = rule.Target ∷ rule.Block ∷ rule.Slot ∷ rule.Unit ∷ rule.Cell ∷ rule.Loop ∷ rule.End ∷ rule.Home ∷ rule.Registers ∷ rule.SameClock ∷ []

pub number_at : (n : ℕ) → n < 10 → rule_number (get_or shape_rules n rule.Target) ≡ n + 1
number_at zero lt = refl
number_at (suc zero) lt = refl
number_at (suc (suc zero)) lt = refl
number_at (suc (suc (suc zero))) lt = refl
number_at (suc (suc (suc (suc zero)))) lt = refl
number_at (suc (suc (suc (suc (suc zero))))) lt = refl
number_at (suc (suc (suc (suc (suc (suc zero)))))) lt = refl
number_at (suc (suc (suc (suc (suc (suc (suc zero))))))) lt = refl
number_at (suc (suc (suc (suc (suc (suc (suc (suc zero)))))))) lt = refl
number_at (suc (suc (suc (suc (suc (suc (suc (suc (suc zero))))))))) lt = refl
number_at (suc (suc (suc (suc (suc (suc (suc (suc (suc (suc n)))))))))) lt = absurd (omega arith)
