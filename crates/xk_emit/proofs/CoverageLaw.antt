-- In a tree without faults of names, code has all names that it needs: that of a method, and that of each body of `async` which it leads to.
use Rattle.std.proofs.Common.{◌≡◌, ◌⊎◌, inl, inr, ℕ, Bool, true, false, cond, ◌||◌, List, [], ◌∷◌, ◌++◌, map, length, Some, refl, sym, ap, ◌∙◌, subst, arith}
use Rattle.std.specs.Prelude.{is_some}
use Rattle.std.proofs.lemmas.Bool.{or_cases}
use Rattle.std.proofs.Math.Bool.{or-true}
use Rattle.xk_names.proofs.FreeUseLemmas.{param_plain}
use Rattle.xk_names.proofs.TableLemmas.{none_there}
use Rattle.xk_tree.specs.declared.fault.FrontRule.TheVariants as rule
use Rattle.xk_tree.specs.declared.fault.FrontFault.{FrontFault}
use Rattle.xk_tree.specs.Tree.{Block, ParamValue, MethodValue, SharedValue, TreeValue}
use Rattle.xk_names.specs.declared.binding.Known.{Known}
use Rattle.xk_names.specs.Scope.{Table, find, has, is_text, texts, Has, Declaration, entries, is_shared}
use Rattle.xk_names.specs.Uses.{signatures}
use Rattle.xk_names.specs.Faults.{fault, shared_declaration, param_declaration, RepeatsName}
use Rattle.xk_names.specs.WellScoped.{IsScoped, method_scope}
use Rattle.xk_names.specs.Captures.{outer_among, shared_texts}
use Rattle.xk_names.proofs.TreeFaultLemmas.{names_found}
use Rattle.xk_names.proofs.CaptureVisibilityLemmas.{among_found}
use Rattle.xk_emit.specs.CodeOf.{Setting}
use Rattle.xk_emit.specs.Unit.{scope_from, names_of_params}
use Rattle.xk_emit.specs.NameCoverage.{IsFound, IsUnitCovered}
use Rattle.xk_emit.specs.CodeReferences.{bodies_in_all, IsSettingFor}
use Rattle.xk_emit.proofs.CoverageLemmas.TableLemmas.{Differ, differ_new, param_found}
use Rattle.xk_emit.proofs.CoverageLemmas.ScopeSlotLemmas.{Texts, Fits, is_known_shared}
use Rattle.xk_emit.proofs.CoverageLemmas.StatementLemmas.{IsTaken, AreBodiesCovered, all_covered}

-- ---- what is declared before a method's body

abbrev before : List SharedValue → List ParamValue → List Declaration
before ss ps = map shared_declaration ss ++ map param_declaration ps

abbrev names_before : List SharedValue → List ParamValue → Texts
names_before ss ps = texts (map (λ d. d.name) (before ss ps))

kinds_params : (ps : List ParamValue) (x : List ℕ) → is_known_shared (find (entries (map param_declaration ps)) x) ≡ false
kinds_params [] x = refl
kinds_params (p ∷ ps) x = go (is_text x p.name.text) (kinds_params ps x)
  where
    go : (b : Bool) → is_known_shared (find (entries (map param_declaration ps)) x) ≡ false
        → is_known_shared (cond b (Some (param_declaration p).known) (find (entries (map param_declaration ps)) x)) ≡ false
    go true h = param_plain p.takes.kind
    go false h = h

kinds_before : (ss : List SharedValue) (ps : List ParamValue) (x : List ℕ) → is_known_shared (find (entries (before ss ps)) x) ≡ has (shared_texts ss) x
kinds_before [] ps x = kinds_params ps x
kinds_before (s ∷ ss) ps x = go (is_text x s.name.text) (kinds_before ss ps x)
  where
    go : (b : Bool) → is_known_shared (find (entries (before ss ps)) x) ≡ has (shared_texts ss) x
        → is_known_shared (cond b (Some (shared_declaration s).known) (find (entries (before ss ps)) x)) ≡ (b || has (shared_texts ss) x)
    go true h = refl
    go false h = h

params_named : (ps : List ParamValue) → texts (map (λ d. d.name) (map param_declaration ps)) ≡ names_of_params ps
params_named [] = refl
params_named (p ∷ ps) = ap (λ r. p.name.text ∷ r) (params_named ps)

named_before : (ss : List SharedValue) (ps : List ParamValue) (x : List ℕ) → has (names_before ss ps) x ≡ (has (shared_texts ss) x || has (names_of_params ps) x)
named_before [] ps x = ap (λ k. has k x) (params_named ps)
named_before (s ∷ ss) ps x = go (is_text x s.name.text) (named_before ss ps x)
  where
    go : (b : Bool) → has (names_before ss ps) x ≡ (has (shared_texts ss) x || has (names_of_params ps) x)
        → (b || has (names_before ss ps) x) ≡ ((b || has (shared_texts ss) x) || has (names_of_params ps) x)
    go true h = refl
    go false h = h

outermost_params : (ps : List ParamValue) (x : List ℕ) (k : Known) → find (entries (map param_declaration ps)) x ≡ Some k → k.depth ≡ 0
outermost_params [] x k e = absurd cc
outermost_params (p ∷ ps) x k e = go (is_text x p.name.text) (outermost_params ps x k) e
  where
    go : (b : Bool) → (find (entries (map param_declaration ps)) x ≡ Some k → k.depth ≡ 0)
        → cond b (Some (param_declaration p).known) (find (entries (map param_declaration ps)) x) ≡ Some k → k.depth ≡ 0
    go true later f = let one : (param_declaration p).known ≡ k = cc in ap (λ (z : Known). z.depth) (sym one)
    go false later f = later f

outermost : (ss : List SharedValue) (ps : List ParamValue) (x : List ℕ) (k : Known) → find (entries (before ss ps)) x ≡ Some k → k.depth ≡ 0
outermost [] ps x k e = outermost_params ps x k e
outermost (s ∷ ss) ps x k e = go (is_text x s.name.text) (outermost ss ps x k) e
  where
    go : (b : Bool) → (find (entries (before ss ps)) x ≡ Some k → k.depth ≡ 0)
        → cond b (Some (shared_declaration s).known) (find (entries (before ss ps)) x) ≡ Some k → k.depth ≡ 0
    go true later f = let one : (shared_declaration s).known ≡ k = cc in ap (λ (z : Known). z.depth) (sym one)
    go false later f = later f

-- ---- where a method's body begins

pub fits_method : (t : TreeValue) (m : MethodValue)
    → Fits (shared_texts t.shared) (method_scope t m) (scope_from 0 (names_of_params m.params)) (names_before t.shared m.params)
fits_method t m = record {
  kinds = kinds_before t.shared m.params;
  fresh = λ x e. none_there (find slots x) (param_found 0 (names_of_params m.params) x ∙ unseen x (has (names_of_params m.params) x) refl
      (sym (names_found (before t.shared m.params) x) ∙ ap is_some e));
  kept = λ x h. named_before t.shared m.params x ∙ ap (λ b. b || has (names_of_params m.params) x) h;
  slots = λ x h. with_slot x h;
  clocks = λ x k e is may. elim (with_slot x (sym (names_found (before t.shared m.params) x) ∙ ap is_some e)) [
    | inl s ↦ let never : true ≡ false = sym s ∙ sym (kinds_before t.shared m.params x) ∙ ap is_known_shared e ∙ ap is_shared is in absurd cc
    | inr f ↦ f
  ];
  depths = λ x k e. let low = outermost t.shared m.params x k e in omega arith;
}
  where
    slots : Table ℕ
    slots = scope_from 0 (names_of_params m.params)

    unseen : (x : List ℕ) (b : Bool) → has (names_of_params m.params) x ≡ b → has (names_before t.shared m.params) x ≡ false → b ≡ false
    unseen x false e h = refl
    unseen x true e h =
        let never : true ≡ false = sym (or-true (has (shared_texts t.shared) x)) ∙ ap (λ c. has (shared_texts t.shared) x || c) (sym e)
        ∙ sym (named_before t.shared m.params x) ∙ h in
        absurd cc

    with_slot : (x : List ℕ) → has (names_before t.shared m.params) x ≡ true → (has (shared_texts t.shared) x ≡ true) ⊎ IsFound slots x
    with_slot x h = elim (or_cases (has (shared_texts t.shared) x) (has (names_of_params m.params) x) (sym (named_before t.shared m.params x) ∙ h)) [
      | inl s ↦ inl s
      | inr p ↦ inr (param_found 0 (names_of_params m.params) x ∙ p)
    ]

-- it takes nothing from outside
nothing_taken : (t : TreeValue) (m : MethodValue) → IsScoped t → Has t.methods m
    → IsTaken (scope_from 0 (names_of_params m.params)) (outer_among (signatures t.methods) (names_before t.shared m.params) m.body)
nothing_taken t m scoped there w h =
    let o = among_found (signatures t.methods) (method_scope t m) (names_before t.shared m.params) m.body (scoped.bodies m there) w h in
    let never : true ≡ false = sym (ap is_some o.there.found) ∙ names_found (before t.shared m.params) w.text ∙ o.other in
    absurd cc

params_differ : (seen : List Declaration) (ps : List ParamValue) → ((f : FrontFault) → RepeatsName (seen ++ map param_declaration ps) f → ⊥)
    → Differ (texts (map (λ d. d.name) seen)) (names_of_params ps)
params_differ seen [] apart = tt
params_differ seen (p ∷ ps) apart = (
  go (has (texts (map (λ d. d.name) seen)) p.name.text) refl,
  subst (λ k. Differ k (names_of_params ps)) (texts_end seen (param_declaration p))
      (params_differ (seen ++ param_declaration p ∷ []) ps
      (λ f r. apart f (subst (λ (k : List Declaration). RepeatsName k f) (sym (step seen (param_declaration p) (map param_declaration ps))) r))),
)
  where
    texts_end : (ds : List Declaration) (e : Declaration) → texts (map (λ d. d.name) (ds ++ e ∷ [])) ≡ texts (map (λ d. d.name) ds) ++ e.name.text ∷ []
    texts_end [] e = refl
    texts_end (d ∷ ds) e = ap (λ r. d.name.text ∷ r) (texts_end ds e)

    step : (ds : List Declaration) (e : Declaration) (es : List Declaration) → ds ++ e ∷ es ≡ (ds ++ e ∷ []) ++ es
    step [] e es = refl
    step (d ∷ ds) e es = ap (λ r. d ∷ r) (step ds e es)

    go : (b : Bool) → has (texts (map (λ d. d.name) seen)) p.name.text ≡ b → b ≡ false
    go false e = refl
    go true e = absurd (apart (fault rule.DuplicateName p.name.at)
        (record { before = seen; declaration = param_declaration p; after = map param_declaration ps; stands = refl; again = e; is = refl }))

-- ---- the law

method_and_bodies : (cx : Setting) (t : TreeValue) (m : MethodValue) → IsScoped t → Has t.methods m → IsSettingFor cx t m
    → IsUnitCovered cx (names_of_params m.params) (Block m.close m.body) × AreBodiesCovered cx (bodies_in_all m.body)
method_and_bodies cx t m scoped there setting =
    let all = all_covered cx (signatures t.methods) (shared_texts t.shared) setting.shared (method_scope t m) (scope_from 0 (names_of_params m.params))
    (names_before t.shared m.params) (length (names_of_params m.params)) m.body (fits_method t m) (scoped.bodies m there) (nothing_taken t m scoped there)
    (record { methods = setting.methods; entries = setting.bodies }) in (
      record {
        params = differ_new [] 0 (texts (map (λ d. d.name) (map shared_declaration t.shared))) (names_of_params m.params) (λ x e. refl)
            (params_differ (map shared_declaration t.shared) m.params (scoped.apart m there));
        body = all.0;
      },
      all.1,
    )

-- a method's code needs no more names than there are
pub method_covered : (cx : Setting) (t : TreeValue) (m : MethodValue) → IsScoped t → Has t.methods m → IsSettingFor cx t m
    → IsUnitCovered cx (names_of_params m.params) (Block m.close m.body)
method_covered cx t m scoped there setting = (method_and_bodies cx t m scoped there setting).0
