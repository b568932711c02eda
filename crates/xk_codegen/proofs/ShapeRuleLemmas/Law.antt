-- The module that is the code of a tree without faults of names keeps the rules on shape.
use Rattle.std.proofs.Common.{◌≡◌, ℕ, ℤ, ◌≤◌, true, false, List, map, length, Option, Some, slice_get, refl, sym, ap, ◌∙◌, subst, arith}
use Rattle.std.proofs.lemmas.List.{length-map}
use Rattle.xk_types.specs.declared.rules.Rule.{Rule}
use Rattle.xk_types.specs.declared.rules.Rule.TheVariants as rule
use Rattle.xk_types.specs.declared.unit.UnitKind.TheVariants as unit_kind
use Rattle.xk_types.specs.Code.{UnitValue, ModuleValue, module_of}
use Rattle.xk_tree.specs.AsyncOffsets.{HasBodiesApart}
use Rattle.xk_tree.specs.Tree.{Clocks, Statement, TreeValue}
use Rattle.xk_names.specs.Scope.{texts}
use Rattle.xk_names.specs.Uses.{signatures, clocks_listed}
use Rattle.xk_names.specs.WellScoped.{IsScoped, with_body}
use Rattle.xk_callgraph.proofs.CallGraphLemmas.{mapped_at}
use Rattle.xk_emit.specs.CodeOf.{Setting, body_params, captures_at}
use Rattle.xk_emit.specs.Unit.{body_kinds}
use Rattle.xk_emit.proofs.ShapeLemmas.SharedNumberLemmas.{SharedBelow}
use Rattle.xk_emit.proofs.ShapeLemmas.NameLemmas.{body_count}
use Rattle.xk_emit.proofs.ShapeLemmas.ModuleLemmas.{IsCompiled as IsUnitCompiled, is_left, compiled_soundly, module_keeps}
use Rattle.xk_emit.proofs.ShapeLemmas.TreeLemmas.{compiled_method}
use Rattle.xk_source_semantics.specs.Parts.{Part, OfMethod, OfBody}
use Rattle.xk_numbering.specs.declared.parts.Part as declared
use Rattle.xk_numbering.specs.Views.{part}
use Rattle.xk_source_semantics.specs.Meaning.{Means}
use Rattle.xk_law_compiler.proofs.MeansItsSourceLaw.{compiled_means}
use Rattle.xk_source_semantics.specs.Compilation.{AreUnits, IsSetting, IsCompiled, method_kind, unit_of_part}
use Rattle.xk_codegen.specs.ShapeRules.{is_kept, KeepsShape}
use Rattle.xk_law_compiler.proofs.UnitLemmas.BodyScopeLemmas.{part_of}
use Rattle.xk_law_compiler.proofs.UnitLemmas.SettingLemmas.{AreSettled, shared_below}
use Rattle.xk_law_compiler.proofs.UnitLemmas.CoverageLemmas.{unit_parts, setting_for, body_there}
use Rattle.xk_codegen.proofs.ShapeRuleLemmas.UnitLemmas.{in_place, finds_units, find_units}

module _ (t : TreeValue) (scoped : IsScoped t) (units : List Part) (cx : Setting) (h : AreSettled t units cx) (made : ModuleValue)
    (code : made.units ≡ map (unit_of_part cx) units) (few : length units ≤ 1024) (shared : SharedBelow cx (length made.shared)) where
  compiled_body : (k at : ℕ) (cs : Option Clocks) (s : Statement) → slice_get units k ≡ Some (OfBody at cs s)
      → IsUnitCompiled made k (unit_of_part cx (OfBody at cs s))
  compiled_body k at cs s e =
      let p = part_of t scoped (OfBody at cs s) (h.are_units.within k (OfBody at cs s) e) in
      compiled_soundly made k cx unit_kind.Body (body_params cx at cs) (body_kinds cx at cs) s (signatures t.methods) (with_body p.sc (clocks_listed cs))
      shared (body_there t units cx h scoped k at cs s e)
      (body_count (texts (clocks_listed cs)) (captures_at cx at)) (in_place t scoped units cx h made code few k (OfBody at cs s) e) p.inside.0 p.inside.1
      (finds_units t scoped units cx h made code few k s (unit_parts t units cx h k (OfBody at cs s) e) (λ r. h.are_units.closed k (OfBody at cs s) r e))

  compiled_part : (k : ℕ) (p : Part) → slice_get units k ≡ Some p → IsUnitCompiled made k (unit_of_part cx p)
  compiled_part k (OfMethod m) e =
      compiled_method t scoped m (part_of t scoped (OfMethod m) (h.are_units.within k (OfMethod m) e)) cx (setting_for t units cx h k m e) made shared k (method_kind m)
      (in_place t scoped units cx h made code few k (OfMethod m) e)
      (find_units t scoped units cx h made code few k m.body (unit_parts t units cx h k (OfMethod m) e) (λ r. h.are_units.closed k (OfMethod m) r e))
  compiled_part k (OfBody at cs s) e = compiled_body k at cs s e

  compiled_unit : (k : ℕ) (u : UnitValue) → slice_get made.units k ≡ Some u → IsUnitCompiled made k u
  compiled_unit k u e =
      let p = mapped_at (unit_of_part cx) units k u (ap (λ (l : List UnitValue). slice_get l k) (sym code) ∙ e) in
      subst (λ (v : UnitValue). IsUnitCompiled made k v) p.2 (compiled_part k p.0 p.1)

below : (t : TreeValue) (units : List Part) (cx : Setting) (shared : List ℤ) → IsSetting t units cx → shared ≡ map (λ s. s.start.value) t.shared
    → SharedBelow cx (length shared)
below t units cx shared setting is x k e =
    let less = shared_below 0 t.shared x k (sym (setting.shared x) ∙ e) in
    let long : length shared ≡ length t.shared = ap length is ∙ length-map t.shared (λ s. s.start.value) in
    omega arith

not_left : (r : Rule) → is_kept r ≡ true → is_left r ≡ false
not_left rule.Target h = refl
not_left rule.Block h = refl
not_left rule.Slot h = refl
not_left rule.Unit h = refl
not_left rule.Cell h = refl
not_left rule.Loop h = refl
not_left rule.End h = refl
not_left rule.SameClock h = refl
not_left _ h = absurd cc

-- the law
keeps_shape : (t : TreeValue) (m : ModuleValue) → IsScoped t → HasBodiesApart t → length m.units ≤ 1024 → IsCompiled t m → KeepsShape m
keeps_shape t m scoped apart few c r kept =
    let long : length m.units ≡ length c.units = ap length c.code ∙ length-map c.units (unit_of_part c.setting) in
    let h : AreSettled t c.units c.setting = record { apart = apart; are_units = c.are_units; is_setting = c.is_setting } in
    module_keeps m (compiled_unit t scoped c.units c.setting h m c.code (omega arith) (below t c.units c.setting m.shared c.is_setting c.shared)) r (not_left r kept)

-- ---- the module of these parts, in this setting

record OfParts (t : TreeValue) (m : ModuleValue) : Type 0 where
  compiled : IsCompiled t m
  few : length m.units ≤ 1024

module _ (t : TreeValue) (ps : List declared.Part) (cx : Setting) (m : ModuleValue) (made : List UnitValue) (scoped : IsScoped t)
    (units : AreUnits t (map part ps)) (setting : IsSetting t (map part ps) cx) (few : length ps ≤ 1024)
    (code : made ≡ map (unit_of_part cx) (map part ps)) (is : m ≡ module_of (map (λ s. s.start.value) t.shared) made) where
  of_parts : OfParts t m
  of_parts =
      let in_module : m.units ≡ map (unit_of_part cx) (map part ps) = ap (λ (v : ModuleValue). v.units) is ∙ code in
      let long : length m.units ≡ length ps = ap length in_module ∙ length-map (map part ps) (unit_of_part cx) ∙ length-map ps part in
      record {
        compiled = record {
          units = map part ps;
          setting = cx;
          are_units = units;
          is_setting = setting;
          shared = ap (λ (v : ModuleValue). v.shared) is;
          code = in_module;
        };
        few = omega arith;
      }

  -- it keeps the rules on shape
  pub code_keeps : HasBodiesApart t → KeepsShape m
  code_keeps apart = let p = of_parts in keeps_shape t m scoped apart p.few p.compiled

  -- it means its source
  pub code_means : HasBodiesApart t → Means t m
  code_means apart = let p = of_parts in compiled_means t m scoped apart p.few p.compiled
