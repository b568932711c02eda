-- The faults behind one, by the next one.
use Rattle.std.proofs.Common.{◌≡◌, ◌≢◌, ◌-◌, ℕ, zero, suc, List, [], ◌∷◌, ◌++◌, Some, None, Result, Ok, Err, refl, ap, ◌∙◌, sym, arith}
use Rattle.std.proofs.lemmas.List.{append-nil, append_assoc}
use Rattle.std.specs.Prelude.{OnOk}
use Rattle.std.specs.Option.{option_map_or}
use Rattle.xk_tree.specs.Tree.{TreeValue}
use Rattle.xk_tree.specs.declared.fault.FrontFault.{FrontFault}
use Rattle.xk_names.specs.FaultList.{next_name_fault}
use Rattle.xk_explain_faults.specs.Faults.{further_faults}

-- where none is called for
further_zero : (t : TreeValue) (f : FrontFault) → further_faults 0 t f ≡ []
unfolding further_faults
further_zero t f = refl

-- where there is none
further_none : (n : ℕ) (t : TreeValue) (f : FrontFault) → None ≡ next_name_fault t f → further_faults n t f ≡ []
unfolding further_faults
further_none zero t f e = refl
further_none (suc n) t f e = ap (λ o. option_map_or (λ g. g ∷ further_faults n t g) o []) (sym e)

-- where there is one
further_some : (n : ℕ) (t : TreeValue) (f g : FrontFault) → n ≢ 0 → Some g ≡ next_name_fault t f
    → further_faults n t f ≡ g ∷ further_faults (n - 1) t g
unfolding further_faults
further_some zero t f g some e = absurd (some refl)
further_some (suc n) t f g some e =
    let less : n ≡ suc n - 1 = omega arith in
    ap (λ o. option_map_or (λ h. h ∷ further_faults n t h) o []) (sym e) ∙ ap (λ k. g ∷ further_faults k t g) less

-- ---- added to a list

-- none
added_none : (fs gs : List FrontFault) → gs ≡ [] → fs ≡ fs ++ gs
added_none fs gs e = sym (append-nil fs) ∙ ap (λ l. fs ++ l) (sym e)

-- where none is called for
pub added_zero : (n : ℕ) (t : TreeValue) (f : FrontFault) (fs : List FrontFault) → n ≡ 0 → fs ≡ fs ++ further_faults n t f
added_zero n t f fs e = added_none fs (further_faults n t f) (ap (λ k. further_faults k t f) e ∙ further_zero t f)

-- where there is none
pub added_last : (n : ℕ) (t : TreeValue) (f : FrontFault) (fs : List FrontFault) → None ≡ next_name_fault t f
    → fs ≡ fs ++ further_faults n t f
added_last n t f fs e = added_none fs (further_faults n t f) (further_none n t f e)

-- one, and those behind that
pub added_more : {A E : Type 0} (r : Result A E) (n : ℕ) (t : TreeValue) (f g : FrontFault) (old one_more new : List FrontFault) → n ≢ 0
    → Some g ≡ next_name_fault t f → one_more ≡ old ++ g ∷ [] → OnOk r (new ≡ one_more ++ further_faults (n - 1) t g)
    → OnOk r (new ≡ old ++ further_faults n t f)
added_more (Ok x) n t f g old one_more new some e one more =
    more ∙ ap (λ l. l ++ further_faults (n - 1) t g) one ∙ append_assoc old (g ∷ []) (further_faults (n - 1) t g)
    ∙ ap (λ l. old ++ l) (sym (further_some n t f g some e))
added_more (Err x) n t f g old one_more new some e one more = tt
