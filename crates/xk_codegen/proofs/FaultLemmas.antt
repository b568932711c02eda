-- Which fault a tree has.
use Rattle.std.proofs.Common.{◌≡◌, ℕ, ◌+◌, ◌<◌, ◌≤◌, min, Bool, true, false, List, map, length, get_or, Option, Some, None, Err, Result, slice_get, option_map, refl, sym, ap, ◌∙◌, subst, arith}
use Rattle.std.specs.Option.{option_map_or}
use Rattle.std.proofs.Math.Dec.{ltb}
use Rattle.std.proofs.lemmas.Bool.{ltb-true, ltb-false}
use Rattle.std.proofs.lemmas.List.{length-map}
use Rattle.std.proofs.lemmas.Option.{slice_get-map, slice_get_past, slice_get_read, slice_get_within}
use Rattle.xk_types.proofs.ListLemmas.{get_inside}
use Rattle.xk_tree.specs.declared.fault.FrontRule.TheVariants as rule
use Rattle.xk_tree.specs.declared.fault.FrontFault.{FrontFault}
use Rattle.xk_tree.specs.declared.fault.FrontError.{FrontError}
use Rattle.xk_tree.specs.declared.fault.FrontError.TheVariants as error
use Rattle.xk_tree.specs.declared.tree.Shared.{Shared}
use Rattle.xk_tree.specs.Tree.{TreeValue, shared_value}
use Rattle.xk_tree.specs.AsyncOffsets.{HasBodiesApart}
use Rattle.xk_names.specs.Faults.{fault}
use Rattle.xk_names.specs.WellScoped.{IsScoped}
use Rattle.xk_types.specs.Code.{UnitValue, IsUnitWithinLimits}
use Rattle.xk_emit.specs.CodeOf.{Setting}
use Rattle.xk_numbering.specs.declared.parts.Part as declared
use Rattle.xk_source_semantics.specs.Parts.{Part, OfMethod, OfBody}
use Rattle.xk_codegen.specs.PartCoverage.{AreCovered, IsPartCovered}
use Rattle.xk_numbering.specs.Views.{offset, part}
use Rattle.xk_source_semantics.specs.Compilation.{AreUnits, IsSetting, unit_of_part}
use Rattle.xk_codegen.specs.Faults.{IsTableFault, IsLarge, ManyShared, Beyond, Large}
use Rattle.xk_law_compiler.proofs.UnitLemmas.SettingLemmas.{AreSettled}
use Rattle.xk_law_compiler.proofs.UnitLemmas.CoverageLemmas.{entry_there, method_there, body_there}

pub told : {A : Type 0} (g f : FrontFault) (r : FrontError) → r ≡ error.Fault g → ◌≡◌ {A = Result A FrontError} (Err r) (Err (error.Fault f)) → g ≡ f
told g f r is e = let same : r ≡ error.Fault f = cc in let both : error.Fault g ≡ error.Fault f = sym is ∙ same in cc

pub same_error : {A : Type 0} (d e : FrontError) → ◌≡◌ {A = Result A FrontError} (Err d) (Err e) → d ≡ e
same_error d e h = cc

-- an error that is handed on
pub passed_on : {A : Type 0} (r : Result A FrontError) (x y : FrontError) (f : FrontFault) → r ≡ Err x → x ≡ y → r ≡ Err (error.Fault f)
    → y ≡ error.Fault f
passed_on r x y f a b e = let both : ◌≡◌ {A = Result _ FrontError} (Err x) (Err (error.Fault f)) = sym a ∙ e in let same : x ≡ error.Fault f = cc in sym b ∙ same

-- ---- shared numbers

pub many_shared : (t : TreeValue) (ss : List Shared) (s : Shared) (f : FrontFault) → t.shared ≡ map shared_value ss → slice_get ss 256 ≡ Some s
    → f ≡ fault rule.Table s.name.at → IsTableFault t f
many_shared t ss s f are at is =
    ManyShared (shared_value s) (ap (λ l. slice_get l 256) are ∙ slice_get-map shared_value ss 256 ∙ ap (option_map shared_value) at) is

-- ---- units

-- where the code of each of these parts is covered, one stands there that goes beyond a limit
abbrev pub IsBeyond : Setting → List declared.Part → ℕ → Type 0
IsBeyond cx ps at = AreCovered cx (map part ps) → (p : Part) × IsLarge (map part ps) cx p × (at ≡ offset p)

pub many_units : (cx : Setting) (ps : List declared.Part) (at : ℕ) → option_map offset (slice_get (map part ps) 1024) ≡ Some at → IsBeyond cx ps at
many_units cx ps at e names = go (slice_get (map part ps) 1024) refl e
  where
    go : (o : Option Part) → slice_get (map part ps) 1024 ≡ o → option_map offset o ≡ Some at → (p : Part) × IsLarge (map part ps) cx p × (at ≡ offset p)
    go None is h = absurd cc
    go (Some p) is h = let same : offset p ≡ at = cc in (p, Beyond is, sym same)

pub few_units : (ps : List declared.Part) → option_map offset (slice_get (map part ps) 1024) ≡ None → length ps ≤ 1024
few_units ps e = go (ltb 1024 (length (map part ps))) refl
  where
    go : (b : Bool) → ltb 1024 (length (map part ps)) ≡ b → length ps ≤ 1024
    go false h = let few = ltb-false 1024 (length (map part ps)) h in let same = length-map ps part in omega arith
    go true h =
        let p = get_inside (map part ps) 1024 (ltb-true 1024 (length (map part ps)) h) in
        let never : Some (offset p.0) ≡ None = ap (option_map offset) (sym p.1) ∙ e in
        absurd cc

pub beyond_there : (ps : List declared.Part) (p : declared.Part) (at : ℕ) → 1024 < length ps → p ≡ get_or ps 1024 p → at ≡ offset (part p)
    → Some at ≡ option_map offset (slice_get (map part ps) 1024)
beyond_there ps p at within is e =
    ap Some e ∙ ap (option_map offset) (sym (slice_get-map part ps 1024 ∙ ap (option_map part) (slice_get_read ps (length ps) 1024 p refl within is)))

pub beyond_none : (ps : List declared.Part) → length ps ≤ 1024 → None ≡ option_map offset (slice_get (map part ps) 1024)
beyond_none ps few =
    let same = length-map ps part in ap (option_map offset) (sym (slice_get_past (map part ps) 1024 (omega arith)))

covered : (t : TreeValue) (us : List Part) (cx : Setting) → IsScoped t → AreSettled t us cx → AreCovered cx us
covered t us cx scoped h k (OfMethod m) e = method_there t us cx h scoped k m e
covered t us cx scoped h k (OfBody at cs s) e = (entry_there t us cx h k at cs s e, body_there t us cx h scoped k at cs s e)

-- the code of each unit of a program needs no more names than there are
pub all_covered : (t : TreeValue) (us : List Part) (cx : Setting) → IsScoped t → HasBodiesApart t → AreUnits t us → IsSetting t us cx → AreCovered cx us
all_covered t us cx scoped apart are setting = covered t us cx scoped (record { apart = apart; are_units = are; is_setting = setting })

pub large_unit : (cx : Setting) (ps : List declared.Part) (k : ℕ) (p : declared.Part) (at : ℕ) → slice_get ps k ≡ Some p
    → (IsPartCovered cx (part p) → IsUnitWithinLimits (unit_of_part cx (part p)) → ⊥) → at ≡ offset (part p) → IsBeyond cx ps at
large_unit cx ps k p at stands none is names =
    let there : slice_get (map part ps) k ≡ Some (part p) = slice_get-map part ps k ∙ ap (option_map part) stands in
    (part p, Large k there (none (names k (part p) there)), is)

-- the lesser of two is one of them
pub either : (P : ℕ → Type 0) (worst : Option ℕ) (at : ℕ) → ((other : ℕ) → worst ≡ Some other → P other) → P at → P (option_map_or (min at) worst at)
either P None at old new = new
either P (Some other) at old new = go (ltb at other) refl
  where
    go : (b : Bool) → ltb at other ≡ b → P (min at other)
    go true e = let less = ltb-true at other e in let same : at ≡ min at other = omega arith in subst P same new
    go false e = let more = ltb-false at other e in let same : other ≡ min at other = omega arith in subst P same (old other refl)

-- an offset was found, and it is no greater
abbrev IsNoMore : Option ℕ → ℕ → Type 0
IsNoMore None at = ⊥
IsNoMore (Some worst) at = worst ≤ at

no_more_of_lesser : (worst : Option ℕ) (at x : ℕ) → IsNoMore worst x → IsNoMore (Some (option_map_or (min at) worst at)) x
no_more_of_lesser None at x h = absurd h
no_more_of_lesser (Some w) at x h = let old : w ≤ x = h in let new : min at w ≤ x = omega arith in new

no_more_of_new : (worst : Option ℕ) (at : ℕ) → IsNoMore (Some (option_map_or (min at) worst at)) at
no_more_of_new None at = let same : at ≤ at = omega arith in same
no_more_of_new (Some w) at = let less : min at w ≤ at = omega arith in less

-- what was found stands no later than the part that has no number, and than those of the first k whose unit goes beyond a limit
pub record IsLeast (cx : Setting) (ps : List declared.Part) (k : ℕ) (worst : Option ℕ) : Type 0 where
  pub beyond : (q : Part) → slice_get (map part ps) 1024 ≡ Some q → IsNoMore worst (offset q)
  pub large : (i : ℕ) (q : Part) → i < k → slice_get (map part ps) i ≡ Some q → (IsUnitWithinLimits (unit_of_part cx q) → ⊥) → IsNoMore worst (offset q)

pub least_at_first : (cx : Setting) (ps : List declared.Part) (worst : Option ℕ) → worst ≡ option_map offset (slice_get (map part ps) 1024)
    → IsLeast cx ps 0 worst
least_at_first cx ps worst e = record {
  beyond = λ q is.
      let itself : offset q ≤ offset q = omega arith in
      subst (λ o. IsNoMore o (offset q)) (sym (e ∙ ap (option_map offset) is)) itself;
  large = λ i q less is none. absurd (omega arith);
}

same_part : (p q : Part) → Some p ≡ Some q → q ≡ p
same_part p q e = cc

-- the first k, and the next one
among_more : (P : Part → Type 0) (ps : List declared.Part) (k : ℕ) (p : declared.Part) → slice_get ps k ≡ Some p
    → ((i : ℕ) (q : Part) → i < k → slice_get (map part ps) i ≡ Some q → P q) → P (part p)
    → (i : ℕ) (q : Part) → i < k + 1 → slice_get (map part ps) i ≡ Some q → P q
among_more P ps k p stands before new i q less is = go (ltb i k) refl
  where
    go : (b : Bool) → ltb i k ≡ b → P q
    go true e = before i q (ltb-true i k e) is
    go false e =
        let more = ltb-false i k e in
        let same : i ≡ k = omega arith in
        let there : slice_get (map part ps) k ≡ Some (part p) = slice_get-map part ps k ∙ ap (option_map part) stands in
        let here : slice_get (map part ps) k ≡ Some q = subst (λ n. slice_get (map part ps) n ≡ Some q) same is in
        subst P (sym (same_part (part p) q (sym there ∙ here))) new

-- the next one is within the limits
pub least_kept : (cx : Setting) (ps : List declared.Part) (k : ℕ) (worst : Option ℕ) (p : declared.Part) (u : UnitValue) → IsLeast cx ps k worst
    → slice_get ps k ≡ Some p → u ≡ unit_of_part cx (part p) → IsUnitWithinLimits u → IsLeast cx ps (k + 1) worst
least_kept cx ps k worst p u h stands is limits = record {
  beyond = h.beyond;
  large = among_more (λ q. (IsUnitWithinLimits (unit_of_part cx q) → ⊥) → IsNoMore worst (offset q)) ps k p stands h.large
      (λ none. absurd (none (subst IsUnitWithinLimits is limits)));
}

-- the next one goes beyond a limit
pub least_taken : (cx : Setting) (ps : List declared.Part) (k : ℕ) (worst : Option ℕ) (p : declared.Part) (at : ℕ) → IsLeast cx ps k worst
    → slice_get ps k ≡ Some p → at ≡ offset (part p) → IsLeast cx ps (k + 1) (Some (option_map_or (min at) worst at))
least_taken cx ps k worst p at h stands is =
    let now = Some (option_map_or (min at) worst at) in record {
      beyond = λ q e. no_more_of_lesser worst at (offset q) (h.beyond q e);
      large = among_more (λ q. (IsUnitWithinLimits (unit_of_part cx q) → ⊥) → IsNoMore now (offset q)) ps k p stands
          (λ i q less e none. no_more_of_lesser worst at (offset q) (h.large i q less e none))
          (λ none. subst (IsNoMore now) is (no_more_of_new worst at));
    }

-- all are told
pub least_of_all : (cx : Setting) (ps : List declared.Part) (k : ℕ) (worst : Option ℕ) (at : ℕ) → length ps ≤ k → IsLeast cx ps k worst
    → worst ≡ Some at → (q : Part) → IsLarge (map part ps) cx q → at ≤ offset q
least_of_all cx ps k worst at end h is q (Beyond e) = subst (λ o. IsNoMore o (offset q)) is (h.beyond q e)
least_of_all cx ps k worst at end h is q (Large i e none) =
    let within = slice_get_within (map part ps) i q e in
    let same = length-map ps part in
    let less : i < k = omega arith in
    subst (λ o. IsNoMore o (offset q)) is (h.large i q less e none)
