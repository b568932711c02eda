-- Methods that all have names of their own stand in a table as they stand in the text.
use Rattle.std.proofs.Common.{◌≡◌, Bool, true, false, cond, List, [], ◌∷◌, ◌++◌, map, refl, sym, ap, ◌∙◌, subst, append-nil}
use Rattle.std.specs.Prelude.{is_some}
use Rattle.xk_tree.specs.declared.fault.FrontRule.TheVariants as rule
use Rattle.xk_tree.specs.declared.fault.FrontFault.{FrontFault}
use Rattle.xk_tree.specs.Tree.{MethodValue, TreeValue}
use Rattle.xk_names.specs.Scope.{find, has, texts}
use Rattle.xk_names.specs.Uses.{Signatures, signature, signatures}
use Rattle.xk_names.specs.Faults.{fault, RepeatsMethod}
use Rattle.xk_names.specs.WellScoped.{IsScoped}
use Rattle.xk_names.specs.FaultList.{put, put_methods}
use Rattle.xk_names.proofs.TableAgreementLemmas.{append_step}
use Rattle.xk_names.proofs.TreeFaultLemmas.{methods_found, append_signatures}

put_new : (kept : Signatures) (m : MethodValue) → is_some (find kept m.name.text) ≡ false → put kept m.name.text m.params ≡ kept ++ signature m ∷ []
put_new kept m e = ap (λ b. cond b kept (kept ++ signature m ∷ [])) e

no_earlier : (seen : List MethodValue) (m : MethodValue) (ms : List MethodValue) → ((f : FrontFault) → RepeatsMethod (seen ++ m ∷ ms) f → ⊥)
    → is_some (find (signatures seen) m.name.text) ≡ false
no_earlier seen m ms none = methods_found seen m.name.text ∙ go (has (texts (map (λ k. k.name) seen)) m.name.text) refl
  where
    go : (b : Bool) → has (texts (map (λ k. k.name) seen)) m.name.text ≡ b → b ≡ false
    go false e = refl
    go true e = absurd (none (fault rule.DuplicateName m.name.at) (record { before = seen; method = m; after = ms; stands = refl; again = e; is = refl }))

put_all_new : (seen ms : List MethodValue) (kept : Signatures) → kept ≡ signatures seen → ((f : FrontFault) → RepeatsMethod (seen ++ ms) f → ⊥)
    → put_methods kept ms ≡ signatures (seen ++ ms)
put_all_new seen [] kept e none = e ∙ ap signatures (sym (append-nil seen))
put_all_new seen (m ∷ ms) kept e none =
    put_all_new (seen ++ m ∷ []) ms (put kept m.name.text m.params)
    (put_new kept m (ap (λ k. is_some (find k m.name.text)) e ∙ no_earlier seen m ms none) ∙ ap (λ k. k ++ signature m ∷ []) e ∙ sym (append_signatures seen (m ∷ [])))
    (λ f r. none f (subst (λ (k : List MethodValue). RepeatsMethod k f) (sym (append_step seen m ms)) r))
    ∙ ap signatures (sym (append_step seen m ms))

pub scoped_signatures : (t : TreeValue) → IsScoped t → put_methods [] t.methods ≡ signatures t.methods
scoped_signatures t h = put_all_new [] t.methods [] refl h.methods_apart
