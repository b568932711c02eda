-- The code of each unit needs no more names than there are.
use Rattle.std.proofs.Common.{◌≡◌, inl, inr, ℕ, List, [], ◌∷◌, Option, Some, slice_get, true, refl, sym, ap, subst, eq-eqb}
use Rattle.std.specs.Prelude.{is_some}
use Rattle.xk_tree.specs.Tree.{Clocks, Statement, Block, MethodValue, TreeValue}
use Rattle.xk_names.specs.Scope.{Has}
use Rattle.xk_names.specs.Uses.{signatures}
use Rattle.xk_names.specs.WellScoped.{IsScoped}
use Rattle.xk_names.specs.Captures.{shared_texts}
use Rattle.xk_names.proofs.MembershipLemmas.{has_either}
use Rattle.xk_callgraph.proofs.CallPlaceLemmas.{has_at}
use Rattle.xk_emit.specs.CodeOf.{Setting, body_at, body_params}
use Rattle.xk_emit.specs.Unit.{names_of_params}
use Rattle.xk_emit.specs.NameCoverage.{IsUnitCovered}
use Rattle.xk_emit.specs.CodeReferences.{bodies_in_all, calls_in_all, IsSettingFor}
use Rattle.xk_emit.proofs.CoverageLemmas.StatementLemmas.{Settled}
use Rattle.xk_emit.proofs.CoverageLaw.{method_covered}
use Rattle.xk_source_semantics.specs.Parts.{Part, OfMethod, OfBody, Run, Starts, bodies, bodies_all, parts, place_of}
use Rattle.xk_law_compiler.proofs.UnitLemmas.PartLookupLemmas.{found}
use Rattle.xk_law_compiler.proofs.UnitLemmas.NestingLemmas.{inner, in_methods}
use Rattle.xk_law_compiler.proofs.UnitLemmas.BodyScopeLemmas.{alone, body_covered, part_of}
use Rattle.xk_law_compiler.proofs.UnitLemmas.SettingLemmas.{AreSettled, AreParts, HavePlaces, body_unit_of, shared_placed, run_places, settled_all}

module _ (t : TreeValue) (units : List Part) (cx : Setting) (h : AreSettled t units cx) where
  -- what the code of a unit leads to
  pub unit_parts : (k : ℕ) (p : Part) → slice_get units k ≡ Some p → AreParts t (inner p)
  unit_parts k p e q i = in_methods t.methods p q (h.are_units.within k p e) i

  pub setting_for : (k : ℕ) (m : MethodValue) → slice_get units k ≡ Some (OfMethod m) → IsSettingFor cx t m
  setting_for k m e =
      let s = settled_all t units cx h m.body (unit_parts k (OfMethod m) e) (run_places t units cx h k (OfMethod m) e) in
      record { shared = shared_placed t units cx h.is_setting; methods = s.methods; bodies = s.entries }

  -- a body is started by its `async`
  body_parts : (k at : ℕ) (cs : Option Clocks) (s : Statement) → slice_get units k ≡ Some (OfBody at cs s) → AreParts t (bodies_all (alone at cs s))
  body_parts k at cs s e p (inl is) = subst (Has (parts t)) (sym is) (h.are_units.within k (OfBody at cs s) e)
  body_parts k at cs s e p (inr i) = unit_parts k (OfBody at cs s) e p (elim (has_either (bodies s) [] p i) [ inl x ↦ x | inr y ↦ absurd y ])

  body_place : (k at : ℕ) (cs : Option Clocks) (s : Statement) → slice_get units k ≡ Some (OfBody at cs s)
      → (n : ℕ) × (place_of units (Starts at) ≡ Some n)
  body_place k at cs s e = found units (Starts at) (OfBody at cs s) (has_at units k (OfBody at cs s) e) (eq-eqb at at refl)

  has_unit : (k at : ℕ) (cs : Option Clocks) (s : Statement) → slice_get units k ≡ Some (OfBody at cs s) → HavePlaces units (Starts at ∷ [])
  has_unit k at cs s e r (inl is) = subst (λ (q : Run). (n : ℕ) × (place_of units q ≡ Some n)) (sym is) (body_place k at cs s e)
  has_unit k at cs s e r (inr none) = absurd none

  settled_alone : (k at : ℕ) (cs : Option Clocks) (s : Statement) → slice_get units k ≡ Some (OfBody at cs s)
      → Settled cx (signatures t.methods) (shared_texts t.shared) (calls_in_all (alone at cs s)) (bodies_in_all (alone at cs s))
  settled_alone k at cs s e = settled_all t units cx h (alone at cs s) (body_parts k at cs s e) (has_unit k at cs s e)

  -- the setting has an entry for each body that has a unit
  pub entry_there : (k at : ℕ) (cs : Option Clocks) (s : Statement) → slice_get units k ≡ Some (OfBody at cs s) → is_some (body_at cx at) ≡ true
  entry_there k at cs s e =
      let n = body_place k at cs s e in ap is_some (body_unit_of t units cx h at cs s n.0 (h.are_units.within k (OfBody at cs s) e) n.1).entry

  module _ (scoped : IsScoped t) where
    pub method_there : (k : ℕ) (m : MethodValue) → slice_get units k ≡ Some (OfMethod m) → IsUnitCovered cx (names_of_params m.params) (Block m.close m.body)
    method_there k m e = method_covered cx t m scoped (part_of t scoped (OfMethod m) (h.are_units.within k (OfMethod m) e)) (setting_for k m e)

    pub body_there : (k at : ℕ) (cs : Option Clocks) (s : Statement) → slice_get units k ≡ Some (OfBody at cs s)
        → IsUnitCovered cx (body_params cx at cs) s
    body_there k at cs s e =
        body_covered cx (signatures t.methods) (shared_texts t.shared) at cs s (shared_placed t units cx h.is_setting)
        (part_of t scoped (OfBody at cs s) (h.are_units.within k (OfBody at cs s) e)) (settled_alone k at cs s e)
