-- The least of two lists of faults.
use Rattle.std.proofs.Common.{◌≡◌, ℕ, List, [], ◌∷◌, ◌++◌, map, refl, sym, ap, ◌∙◌}
use Rattle.std.specs.List.{flat_map}
use Rattle.xk_tree.specs.declared.fault.FrontFault.{FrontFault}
use Rattle.xk_tree.specs.declared.fault.FrontRule.TheVariants as rule
use Rattle.xk_tree.specs.Tree.{Word}
use Rattle.xk_names.specs.declared.least_fault.Search.{Search}
use Rattle.xk_names.specs.Scope.{Scope, has}
use Rattle.xk_names.specs.Faults.{fault}
use Rattle.xk_names.specs.Uses.{Use}
use Rattle.xk_names.specs.FaultList.{lesser, least, use_faults, when, put_text, put_texts, repeats}

pub least_append : (w : Search) (xs ys : List FrontFault) → least w (xs ++ ys) ≡ least (least w xs) ys
least_append w [] ys = refl
least_append w (x ∷ xs) ys = least_append (lesser w x) xs ys

pub least_uses : (w : Search) (sc : Scope) (us vs : List Use)
    → least w (flat_map (use_faults sc) (us ++ vs)) ≡ least (least w (flat_map (use_faults sc) us)) (flat_map (use_faults sc) vs)
least_uses w sc [] vs = refl
least_uses w sc (u ∷ us) vs =
    least_append w (use_faults sc u) (flat_map (use_faults sc) (us ++ vs))
    ∙ least_uses (least w (use_faults sc u)) sc us vs
    ∙ ap (λ r. least r (flat_map (use_faults sc) vs)) (sym (least_append w (use_faults sc u) (flat_map (use_faults sc) us)))

pub least_misfits : (w : Search) (xs ys : List ℕ)
    → least w (map (fault rule.WrongKind) (xs ++ ys)) ≡ least (least w (map (fault rule.WrongKind) xs)) (map (fault rule.WrongKind) ys)
least_misfits w [] ys = refl
least_misfits w (x ∷ xs) ys = least_misfits (lesser w (fault rule.WrongKind x)) xs ys

pub put_texts_append : (before : List (List ℕ)) (xs ys : List Word) → put_texts before (xs ++ ys) ≡ put_texts (put_texts before xs) ys
put_texts_append before [] ys = refl
put_texts_append before (x ∷ xs) ys = put_texts_append (put_text before x.text) xs ys

pub least_repeats : (w : Search) (before : List (List ℕ)) (xs ys : List Word)
    → least w (repeats before (xs ++ ys)) ≡ least (least w (repeats before xs)) (repeats (put_texts before xs) ys)
least_repeats w before [] ys = refl
least_repeats w before (x ∷ xs) ys =
    let one = when (has before x.text) rule.SameClockTwice x.at in
    least_append w one (repeats (put_text before x.text) (xs ++ ys))
    ∙ least_repeats (least w one) (put_text before x.text) xs ys
    ∙ ap (λ r. least r (repeats (put_texts (put_text before x.text) xs) ys)) (sym (least_append w one (repeats (put_text before x.text) xs)))
