-- Tables of the names of shared numbers.
use Rattle.std.proofs.Common.{◌≡◌, ◌∙◌, ℕ, ◌+◌, ◌<◌, Bool, true, false, ◌||◌, List, map, drop, length, get_or, refl, sym, ap, drop-cons, add-one}
use Rattle.std.specs.Prelude.{is_some}
use Rattle.xk_tree.specs.declared.tree.Shared.{Shared}
use Rattle.xk_tree.specs.Tree.{shared_value}
use Rattle.xk_names.specs.Scope.{Table, find, has, is_text}
use Rattle.xk_names.specs.Captures.{shared_texts}
use Rattle.xk_names.specs.FaultList.{put}
use Rattle.xk_names.proofs.TableLemmas.{has_names, names, put_names}
use Rattle.xk_names.proofs.TableAgreementLemmas.{has_put}

regroup : (a b c : Bool) → ((a || b) || c) ≡ (a || (b || c))
regroup true b c = refl
regroup false b c = refl

-- behind a name that is put into a table, one name less is left
pub name_put : {A : Type 0} (d : Shared) (old new : Table A) (a : A) (ss : List Shared) (i : ℕ) (x : List ℕ) → i < length ss
    → new ≡ put old (get_or ss i d).name.text.now a
    → (is_some (find new x) || has (shared_texts (map shared_value (drop (i + 1) ss))) x) ≡ (is_some (find old x) || has (shared_texts (map shared_value (drop i ss))) x)
name_put {A} d old new a ss i x within e =
    let left : ℕ → Bool = λ k. has (shared_texts (map shared_value (drop k ss))) x in
    let text = (get_or ss i d).name.text.now in
    ap (λ (t : Table A). is_some (find t x) || left (i + 1)) e
    ∙ ap (λ b. b || left (i + 1)) (has_names (put old text a) x ∙ ap (λ ts. has ts x) (put_names old text a) ∙ has_put (names old) text x)
    ∙ regroup (has (names old) x) (is_text x text) (left (i + 1))
    ∙ ap (λ k. has (names old) x || (is_text x text || left k)) (add-one i)
    ∙ ap (λ (l : List Shared). has (names old) x || has (shared_texts (map shared_value l)) x) (sym (drop-cons ss i d within))
    ∙ ap (λ b. b || left i) (sym (has_names old x))
