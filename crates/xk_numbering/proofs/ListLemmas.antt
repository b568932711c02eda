-- Lists of parts to which one more is added, and what is left of lists.
use Rattle.std.proofs.Common.{◌≡◌, ℕ, suc, ◌+◌, ◌<◌, List, [], ◌∷◌, ◌++◌, map, drop, length, get_or, slice_get, option_map, refl, sym, ap, ◌∙◌, drop-cons, add-one, append_assoc}
use Rattle.std.proofs.lemmas.Option.{slice_get-map, slice_get_read}
use Rattle.std.specs.Prelude.{Option, Some}
use Rattle.xk_tree.specs.declared.tree.Method.{Method}
use Rattle.xk_tree.specs.Tree.{method_value}
use Rattle.xk_source_semantics.specs.Parts.{Part as Value}
use Rattle.xk_numbering.specs.declared.parts.Part.{Part}
use Rattle.xk_numbering.specs.Views.{part}

pub part_push : (ps : List Part) (p : Part) → map part (ps ++ p ∷ []) ≡ map part ps ++ part p ∷ []
part_push [] p = refl
part_push (q ∷ ps) p = ap (λ r. part q ∷ r) (part_push ps p)

-- the parts that are left begin with this one
pub parts_left : (ps : List Part) (i : ℕ) (p : Part) (q : Value) → i < length ps → p ≡ get_or ps i p → part p ≡ q
    → map part (drop i ps) ≡ q ∷ map part (drop (i + 1) ps)
parts_left ps i p q h is e =
    ap (map part) (drop-cons ps i p h) ∙ ap (λ k. part k ∷ map part (drop (suc i) ps)) (sym is) ∙ ap (λ k. k ∷ map part (drop (suc i) ps)) e
    ∙ ap (λ n. q ∷ map part (drop n ps)) (sym (add-one i))

-- the methods that are left begin with this one
pub methods_left : (ms : List Method) (i : ℕ) (m : Method) → i < length ms → m ≡ get_or ms i m
    → map method_value (drop i ms) ≡ method_value m ∷ map method_value (drop (i + 1) ms)
methods_left ms i m h is =
    ap (map method_value) (drop-cons ms i m h) ∙ ap (λ k. method_value k ∷ map method_value (drop (suc i) ms)) (sym is)
    ∙ ap (λ n. method_value m ∷ map method_value (drop n ms)) (sym (add-one i))

-- ---- parts at places

some_push : (ps : List Part) (p : Part) → map Some (map part (ps ++ p ∷ [])) ≡ map Some (map part ps) ++ Some (part p) ∷ []
some_push [] p = refl
some_push (q ∷ ps) p = ap (λ r. Some (part q) ∷ r) (some_push ps p)

pub one_more_part : (ps us vs : List Part) (order : List ℕ) (i : ℕ) (p : Part) → i < length order → get_or order i 0 < length ps
    → p ≡ get_or ps (get_or order i 0) p
    → vs ≡ us ++ p ∷ []
    → map Some (map part vs) ++ map (slice_get (map part ps)) (drop (i + 1) order) ≡ map Some (map part us) ++ map (slice_get (map part ps)) (drop i order)
one_more_part ps us vs order i p within inside at e =
    let get : ℕ → Option Value = slice_get (map part ps) in
    let j : ℕ = get_or order i 0 in
    let there : Some (part p) ≡ get j = sym (slice_get-map part ps j ∙ ap (option_map part) (slice_get_read ps (length ps) j p refl inside at)) in
    ap (λ (l : List Part). map Some (map part l) ++ map get (drop (i + 1) order)) e
    ∙ ap (λ l. l ++ map get (drop (i + 1) order)) (some_push us p)
    ∙ append_assoc (map Some (map part us)) (Some (part p) ∷ []) (map get (drop (i + 1) order))
    ∙ ap (λ o. map Some (map part us) ++ o ∷ map get (drop (i + 1) order)) there
    ∙ ap (λ n. map Some (map part us) ++ get j ∷ map get (drop n order)) (add-one i)
    ∙ ap (λ (l : List ℕ). map Some (map part us) ++ map get l) (sym (drop-cons order i 0 within))
