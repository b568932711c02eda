-- The unit of a method, in a tree without faults of names.
use Rattle.std.proofs.Common.{◌≡◌, ℕ, true, length, sym, ◌∙◌}
use Rattle.std.proofs.lemmas.List.{length-map}
use Rattle.xk_types.specs.declared.unit.UnitKind.{UnitKind}
use Rattle.xk_types.specs.Code.{ModuleValue}
use Rattle.xk_types.specs.Shape.{is_in_place}
use Rattle.xk_tree.specs.Tree.{Block, MethodValue, TreeValue}
use Rattle.xk_names.specs.Scope.{Has}
use Rattle.xk_names.specs.Uses.{signatures}
use Rattle.xk_names.specs.WellScoped.{IsScoped, method_scope}
use Rattle.xk_emit.specs.CodeOf.{Setting}
use Rattle.xk_emit.specs.Unit.{names_of_params, kinds_of_params, unit_of_method}
use Rattle.xk_emit.specs.CodeReferences.{IsSettingFor}
use Rattle.xk_emit.proofs.CoverageLaw.{method_covered}
use Rattle.xk_emit.proofs.ShapeLemmas.InstructionLemmas.{EachOf}
use Rattle.xk_emit.proofs.ShapeLemmas.SharedNumberLemmas.{SharedBelow}
use Rattle.xk_emit.proofs.ShapeLemmas.NameLemmas.{FindsUnits}
use Rattle.xk_emit.proofs.ShapeLemmas.ModuleLemmas.{IsCompiled, block_sound, compiled_soundly}

module _ (t : TreeValue) (scoped : IsScoped t) (m : MethodValue) (there : Has t.methods m) (cx : Setting) (setting : IsSettingFor cx t m)
    (made : ModuleValue) (shared : SharedBelow cx (length made.shared)) (unit : ℕ) where
  -- the unit of the method, where the units that it calls and starts stand where the setting says
  pub compiled_method : (kind : UnitKind) → is_in_place unit (unit_of_method cx kind m) ≡ true → EachOf (FindsUnits made cx (signatures t.methods) unit) m.body
      → IsCompiled made unit (unit_of_method cx kind m)
  compiled_method kind place units =
      compiled_soundly made unit cx kind (names_of_params m.params) (kinds_of_params m.params) (Block m.close m.body) (signatures t.methods) (method_scope t m)
      shared (method_covered cx t m scoped there setting)
      (length-map m.params (λ p. p.takes.kind) ∙ sym (length-map m.params (λ p. p.name.text))) place
      (block_sound (signatures t.methods) (method_scope t m) m.close m.body) (scoped.bodies m there) units
