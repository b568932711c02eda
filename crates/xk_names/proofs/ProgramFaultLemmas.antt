-- What is answered of a tree.
use Rattle.std.proofs.Common.{◌≡◌, true, inl, inr, [], Option, Some, None, refl, sym, ◌∙◌, subst}
use Rattle.std.specs.Prelude.{codes}
use Rattle.std.proofs.lemmas.Option.{none-some}
use Rattle.xk_tree.specs.declared.fault.FrontFault.{FrontFault}
use Rattle.xk_tree.specs.Tree.{TreeValue}
use Rattle.xk_names.specs.Scope.{Has, find}
use Rattle.xk_names.specs.Uses.{Signatures, signatures}
use Rattle.xk_names.specs.Faults.{HasNameFault, HasFault, MayBegin, IsNext, IsReported, no_main}
use Rattle.xk_names.specs.FaultList.{is_reported_before, least_past, name_faults, put_methods}
use Rattle.xk_names.proofs.TreeFaultLemmas.{fault_there, fault_listed, called_same}
use Rattle.xk_names.proofs.LeastFaultLemmas.{before_true, earlier_true, least_kept, least_none}

pub one_reported : (t : TreeValue) (w : Option FrontFault) (f : FrontFault) → w ≡ least_past None t → w ≡ Some f → IsReported t f
one_reported t w f is some =
    let kept = least_kept None None (name_faults t) f (sym is ∙ some) in
    let listed : Has (name_faults t) f = elim kept.0 [ inl a ↦ a.0 | inr e ↦ absurd (none-some f e) ] in
    record { there = inl (fault_there t f listed); first = λ g h. (fault_there t f listed, kept.1 g (fault_listed t g h) refl) }

none_there : (t : TreeValue) (w : Option FrontFault) → w ≡ least_past None t → w ≡ None → (g : FrontFault) → HasNameFault t g → ⊥
none_there t w is none g h = (least_none None None (name_faults t) (sym is ∙ none)).0 g (fault_listed t g h) refl

-- the next one behind a fault
pub next_found : (t : TreeValue) (f : FrontFault) (w : Option FrontFault) → w ≡ least_past (Some f) t → IsNext t f w
next_found t f None is = λ g h early. (least_none (Some f) None (name_faults t) (sym is)).0 g (fault_listed t g h) (earlier_true f g early)
next_found t f (Some n) is =
    let kept = least_kept (Some f) None (name_faults t) n (sym is) in
    let listed = elim kept.0 as (λ _. Has (name_faults t) n × (is_reported_before f n ≡ true)) [
      | inl a ↦ a
      | inr e ↦ absurd (none-some n e)
    ] in (
      fault_there t n listed.0,
      before_true f n listed.1,
      λ g h early. kept.1 g (fault_listed t g h) (earlier_true f g early),
    )

-- `main` is found where the tree has it
main_found : (t : TreeValue) (ms : Signatures) → ms ≡ put_methods [] t.methods → find ms (codes "main") ≡ find (signatures t.methods) (codes "main")
main_found t ms is = subst (λ k. find k (codes "main") ≡ find (signatures t.methods) (codes "main")) (sym is) (called_same t (codes "main"))

pub clean_tree : (t : TreeValue) (w : Option FrontFault) (ms : Signatures) → w ≡ least_past None t → w ≡ None → ms ≡ put_methods [] t.methods
    → MayBegin (find ms (codes "main")) → (f : FrontFault) → HasFault t f → ⊥
clean_tree t w ms is none made main f (inl h) = none_there t w is none f h
clean_tree t w ms is none made main f (inr h) = h.0 (subst MayBegin (main_found t ms made) main)

pub no_main_reported : (t : TreeValue) (w : Option FrontFault) (ms : Signatures) → w ≡ least_past None t → w ≡ None → ms ≡ put_methods [] t.methods
    → (MayBegin (find ms (codes "main")) → ⊥) → IsReported t no_main
no_main_reported t w ms is none made lacks = record {
  there = inr (λ main. lacks (subst MayBegin (sym (main_found t ms made)) main), refl);
  first = λ g h. absurd (none_there t w is none g h);
}
