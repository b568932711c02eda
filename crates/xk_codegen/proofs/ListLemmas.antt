-- Lists to which one more is added.
use Rattle.std.proofs.Common.{◌≡◌, ℕ, ℤ, suc, ◌+◌, ◌<◌, Bool, true, false, cond, List, [], ◌∷◌, ◌++◌, map, drop, length, get_or, option_map, refl, sym, ap, ◌∙◌, drop-cons, add-one, append_assoc}
use Rattle.std.specs.Prelude.{Option, Some}
use Rattle.std.specs.Option.{option_or}
use Rattle.xk_tree.specs.declared.tree.Shared.{Shared}
use Rattle.xk_tree.specs.Tree.{shared_value}
use Rattle.xk_names.specs.Scope.{Table, find, is_text}
use Rattle.xk_names.specs.FaultList.{put}
use Rattle.xk_callgraph.proofs.NameNumberLemmas.{put_number}
use Rattle.xk_source_semantics.specs.Compilation.{shared_among}

-- ---- the shared numbers at the start

pub starts_step : (ss : List Shared) (d : Shared) (i : ℕ) (v : ℤ) (before after : List ℤ) → i < length ss → v ≡ (get_or ss i d).start.value → after ≡ before ++ v ∷ []
    → after ++ map (λ s. s.start.value) (map shared_value (drop (i + 1) ss)) ≡ before ++ map (λ s. s.start.value) (map shared_value (drop i ss))
starts_step ss d i v before after h is e =
    let rest : List Shared → List ℤ = λ l. map (λ s. s.start.value) (map shared_value l) in
    ap (λ (l : List ℤ). l ++ rest (drop (i + 1) ss)) e
    ∙ append_assoc before (v ∷ []) (rest (drop (i + 1) ss))
    ∙ ap (λ w. before ++ w ∷ rest (drop (i + 1) ss)) is
    ∙ ap (λ n. before ++ (get_or ss i d).start.value ∷ rest (drop n ss)) (add-one i)
    ∙ ap (λ l. before ++ rest l) (sym (drop-cons ss i d h))

-- ---- numbers of units

pub numbered_or : (b : Bool) (f : ℕ → ℕ) (i : ℕ) (o : Option ℕ) → cond b (Some (f i)) (option_map f o) ≡ option_map f (cond b (Some i) o)
numbered_or true f i o = refl
numbered_or false f i o = refl

-- ---- shared numbers that are left

pub shared_step : (d : Shared) (before after : Table ℕ) (ss : List Shared) (i : ℕ) (x : List ℕ) → i < length ss
    → after ≡ put before (get_or ss i d).name.text.now i
    → option_or (find after x) (shared_among (i + 1) (map shared_value (drop (i + 1) ss)) x) ≡ option_or (find before x) (shared_among i (map shared_value (drop i ss)) x)
shared_step d before after ss i x h e =
    let text : List ℕ = (get_or ss i d).name.text.now in
    let left : ℕ → Option ℕ = λ k. shared_among k (map shared_value (drop (suc i) ss)) x in
    ap (λ t. option_or (find t x) (shared_among (i + 1) (map shared_value (drop (i + 1) ss)) x)) e
    ∙ put_number before text x i (shared_among (i + 1) (map shared_value (drop (i + 1) ss)) x)
    ∙ ap (λ k. option_or (find before x) (cond (is_text x text) (Some i) (shared_among (i + 1) (map shared_value (drop k ss)) x))) (add-one i)
    ∙ ap (λ k. option_or (find before x) (cond (is_text x text) (Some i) (left k))) (add-one i)
    ∙ ap (λ l. option_or (find before x) (shared_among i (map shared_value l) x)) (sym (drop-cons ss i d h))
