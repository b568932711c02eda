-- The units of a compiled module have as many instructions as origins.
use Rattle.std.proofs.Common.{◌≡◌, ◌∙◌, ℕ, zero, suc, List, [], ◌∷◌, ◌++◌, map, length, slice_get, refl, sym, ap}
use Rattle.std.specs.Prelude.{is_some}
use Rattle.std.specs.Option.{option_map_or}
use Rattle.std.proofs.lemmas.List.{length-map}
use Rattle.xk_types.specs.declared.instr.Instr.{Instr}
use Rattle.xk_types.specs.declared.instr.Instr.TheVariants as instr
use Rattle.xk_types.specs.Code.{ModuleValue, UnitValue}
use Rattle.xk_tree.specs.Tree.{Statement, Block, TreeValue}
use Rattle.xk_names.specs.Scope.{find, has}
use Rattle.xk_names.specs.Captures.{shared_texts}
use Rattle.xk_emit.specs.CodeOf.{Setting, body_params, code_of}
use Rattle.xk_emit.specs.Unit.{first_temporary, names_of_params, scope_from, unit_code}
use Rattle.xk_source_semantics.specs.Parts.{Part, OfMethod, OfBody}
use Rattle.xk_source_semantics.specs.Compilation.{IsCompiled, unit_of_part}
use Rattle.xk_law_compiler.proofs.CompiledOnceLaw.{one_units}
use Rattle.xk_law_compiler.proofs.UnitLemmas.SettingLemmas.{shared_placed}
use Rattle.xk_origins.specs.Origin.{Origin, Leaves, offset_of, origins, part_origins}
use Rattle.xk_unit_origins.specs.UnitOrigins.{UnitOrigins, offsets_at}
use Rattle.xk_origins.specs.UnitOrigins.{unit_origins}
use Rattle.xk_origins.specs.Laws.{AreOrigins, HasOneForEach}
use Rattle.xk_origins.proofs.LengthLemmas.{Same, code_length, joined}

abbrev code_in : List UnitValue → ℕ → List Instr
code_in us k = option_map_or (λ (u : UnitValue). u.code) (slice_get us k) []

module _ (t : TreeValue) (cx : Setting) (known : (x : List ℕ) → has (shared_texts t.shared) x ≡ is_some (find cx.shared x)) where
  unit_length : (xs : List (List ℕ)) (s : Statement) (o : Origin) → Same (origins (shared_texts t.shared) s ++ o ∷ []) (unit_code cx xs s)
  unit_length xs s o =
      let code = code_of cx (first_temporary xs s) (scope_from 0 xs) (length xs) 0 s in
      joined (origins (shared_texts t.shared) s) (o ∷ []) code (instr.Ret ∷ [])
      (code_length cx (shared_texts t.shared) known (first_temporary xs s) (scope_from 0 xs) (length xs) 0 s) refl

  part_length : (p : Part) → length (part_origins (shared_texts t.shared) p) ≡ length (unit_of_part cx p).code
  part_length (OfMethod m) = unit_length (names_of_params m.params) (Block m.close m.body) (Leaves (OfMethod m))
  part_length (OfBody at cs s) = unit_length (body_params cx at cs) s (Leaves (OfBody at cs s))

  same_lengths : (ps : List Part) → length (map (unit_origins t) ps) ≡ length (map (unit_of_part cx) ps)
  same_lengths ps = length-map ps (unit_origins t) ∙ sym (length-map ps (unit_of_part cx))

  unit_at : (ps : List Part) (k : ℕ) → length (offsets_at (map (unit_origins t) ps) k) ≡ length (code_in (map (unit_of_part cx) ps) k)
  unit_at [] k = refl
  unit_at (p ∷ ps) zero = length-map (part_origins (shared_texts t.shared) p) offset_of ∙ part_length p
  unit_at (p ∷ ps) (suc k) = unit_at ps k

-- there is one for each instruction
pub one_for_each : (t : TreeValue) (m : ModuleValue) (os : List UnitOrigins) → IsCompiled t m → AreOrigins t os → HasOneForEach m os
one_for_each t m os c o =
    let are : os ≡ map (unit_origins t) c.units = o.are ∙ ap (map (unit_origins t)) (one_units t o.units c.units o.are_units c.are_units) in
    let known : (x : List ℕ) → has (shared_texts t.shared) x ≡ is_some (find c.setting.shared x) = λ x. sym (shared_placed t c.units c.setting c.is_setting x) in
    record {
      units = ap length are ∙ same_lengths t c.setting known c.units ∙ sym (ap length c.code);
      code = λ k.
          ap (λ (l : List UnitOrigins). length (offsets_at l k)) are ∙ unit_at t c.setting known c.units k
          ∙ sym (ap (λ (us : List UnitValue). length (code_in us k)) c.code);
    }
