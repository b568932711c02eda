-- Units that are made one after another.
use Rattle.std.proofs.Common.{◌≡◌, ℕ, zero, suc, ◌+◌, ◌<◌, ◌≤◌, All, List, [], ◌∷◌, ◌++◌, map, drop, length, get_or, refl, sym, ap, ◌∙◌, subst, append_assoc, arith}
use Rattle.std.proofs.lemmas.List.Elements.{All-append}
use Rattle.std.proofs.Math.ListN.{drop_of_length-le}
use Rattle.xk_types.specs.Code.{UnitValue, IsUnitWithinLimits}
use Rattle.xk_emit.specs.CodeOf.{Setting}
use Rattle.xk_numbering.specs.declared.parts.Part as declared
use Rattle.xk_source_semantics.specs.Compilation.{unit_of_part}
use Rattle.xk_numbering.specs.Views.{part}
use Rattle.xk_numbering.proofs.ListLemmas.{parts_left}

one : (P : UnitValue → Type 0) (u : UnitValue) → P u → All P (u ∷ [])
one P u p zero d h = p
one P u p (suc k) d h = absurd (omega arith)

-- the units so far are within their limits, and those of the parts that are left come behind them
abbrev pub AreMade : Setting → List declared.Part → ℕ → List UnitValue → Type 0
AreMade cx ps k units =
    (length ps ≤ 1024) × All IsUnitWithinLimits units × (units ++ map (unit_of_part cx) (map part (drop k ps)) ≡ map (unit_of_part cx) (map part ps))

pub none_made : (cx : Setting) (ps : List declared.Part) (units : List UnitValue) → length ps ≤ 1024 → units ≡ [] → AreMade cx ps 0 units
none_made cx ps units few e = subst (λ (l : List UnitValue). AreMade cx ps 0 l) (sym e) (few, (λ k d less. absurd (omega arith)), refl)

pub one_more_unit : (cx : Setting) (ps : List declared.Part) (k : ℕ) (before after : List UnitValue) (p : declared.Part) (u : UnitValue)
    → AreMade cx ps k before → k < length ps
    → p ≡ get_or ps k p → u ≡ unit_of_part cx (part p) → IsUnitWithinLimits u → after ≡ before ++ u ∷ [] → AreMade cx ps (k + 1) after
one_more_unit cx ps k before after p u made within is code limits e =
    let left : ℕ → List UnitValue = λ n. map (unit_of_part cx) (map part (drop n ps)) in (
      made.0,
      subst (λ (l : List UnitValue). All IsUnitWithinLimits l) (sym e) (All-append IsUnitWithinLimits before (u ∷ []) made.1 (one IsUnitWithinLimits u limits)),
      ap (λ (l : List UnitValue). l ++ left (k + 1)) e ∙ append_assoc before (u ∷ []) (left (k + 1)) ∙ ap (λ (v : UnitValue). before ++ v ∷ left (k + 1)) code
          ∙ ap (λ l. before ++ map (unit_of_part cx) l) (sym (parts_left ps k p (part p) within is refl)) ∙ made.2,
    )

append_nil : (xs : List UnitValue) → xs ++ [] ≡ xs
append_nil [] = refl
append_nil (x ∷ xs) = ap (λ r. x ∷ r) (append_nil xs)

pub all_made : (cx : Setting) (ps : List declared.Part) (k : ℕ) (units : List UnitValue) → length ps ≤ k → AreMade cx ps k units
    → units ≡ map (unit_of_part cx) (map part ps)
all_made cx ps k units end made =
    sym (append_nil units) ∙ ap (λ l. units ++ map (unit_of_part cx) (map part l)) (sym (drop_of_length-le ps {i = k} end)) ∙ made.2
