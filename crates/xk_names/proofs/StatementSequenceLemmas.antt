-- The faults of statements, as they are found one after another.
use Rattle.std.proofs.Common.{◌≡◌, ℕ, ◌+◌, ◌<◌, List, ◌++◌, map, drop, length, get_or, sym, ap, ◌∙◌, drop-cons, add-one}
use Rattle.std.specs.List.{flat_map}
use Rattle.xk_tree.specs.declared.tree.Stmt.{Stmt}
use Rattle.xk_tree.specs.declared.tree.Method.{Method}
use Rattle.xk_tree.specs.Tree.{Statement, More, statement, statements, method_value}
use Rattle.xk_names.specs.declared.binding.Known.{Known}
use Rattle.xk_names.specs.declared.least_fault.Search.{Search}
use Rattle.xk_names.specs.Scope.{Table, Scope}
use Rattle.xk_names.specs.Uses.{Signatures}
use Rattle.xk_names.specs.Places.{behind}
use Rattle.xk_names.specs.FaultList.{own, inside, among, faults, least, with_declared, after, method_faults}
use Rattle.xk_names.proofs.FaultAppendLemmas.{least_append}

pub inside_found : (ms : Signatures) (sc : Scope) (s t : Statement) (w w1 w2 : Search) → s ≡ t → w1 ≡ least w (own ms sc s)
    → w2 ≡ least w1 (inside ms sc t) → w2 ≡ least w (faults ms sc s)
inside_found ms sc s t w w1 w2 e a b =
    b ∙ ap (λ k. least k (inside ms sc t)) a ∙ ap (λ q. least (least w (own ms sc s)) (inside ms sc q)) (sym e)
    ∙ sym (least_append w (own ms sc s) (inside ms sc s))

pub both_found : (ms : Signatures) (sc sc2 : Scope) (a b d1 d2 : Stmt) (w1 w2 w3 : Search) → d1 ≡ a → d2 ≡ b → sc2 ≡ sc
    → w2 ≡ least w1 (faults ms sc (statement d1)) → w3 ≡ least w2 (faults ms sc2 (statement d2))
    → w3 ≡ least w1 (faults ms sc (statement a) ++ faults ms sc (statement b))
both_found ms sc sc2 a b d1 d2 w1 w2 w3 ea eb es first second =
    second ∙ ap (λ k. least k (faults ms sc2 (statement d2))) first
    ∙ ap (λ (k : Scope). least (least w1 (faults ms sc (statement d1))) (faults ms k (statement d2))) es
    ∙ ap (λ (k : Stmt). least (least w1 (faults ms sc (statement k))) (faults ms sc (statement d2))) ea
    ∙ ap (λ (k : Stmt). least (least w1 (faults ms sc (statement a))) (faults ms sc (statement k))) eb
    ∙ sym (least_append w1 (faults ms sc (statement a)) (faults ms sc (statement b)))

-- one statement more
pub block_turn : (ms : Signatures) (sc there : Scope) (ss : List Stmt) (i : ℕ) (s : Stmt) (w v : Search) → i < length ss → s ≡ get_or ss i s
    → v ≡ least w (faults ms sc (statement s)) → there ≡ with_declared sc (behind (length sc.bodies) (statement s))
    → least v (among ms there (statements (drop (i + 1) ss))) ≡ least w (among ms sc (statements (drop i ss)))
block_turn ms sc there ss i s w v h is a b =
    let rest = statements (drop (i + 1) ss) in
    ap (λ k. least k (among ms there rest)) a
    ∙ ap (λ (k : Scope). least (least w (faults ms sc (statement s))) (among ms k rest)) b
    ∙ sym (least_append w (faults ms sc (statement s)) (among ms (with_declared sc (behind (length sc.bodies) (statement s))) rest))
    ∙ ap (λ (k : Stmt). least w (among ms sc (More (statement k) rest))) is
    ∙ ap (λ n. least w (among ms sc (More (statement (get_or ss i s)) (statements (drop n ss))))) (add-one i)
    ∙ ap (λ (k : List Stmt). least w (among ms sc (statements k))) (sym (drop-cons ss i s h))

pub after_turn : (sc there : Scope) (ss : List Stmt) (i : ℕ) (s : Stmt) → i < length ss → s ≡ get_or ss i s
    → there ≡ with_declared sc (behind (length sc.bodies) (statement s)) → after there (statements (drop (i + 1) ss)) ≡ after sc (statements (drop i ss))
after_turn sc there ss i s h is b =
    ap (λ (k : Scope). after k (statements (drop (i + 1) ss))) b
    ∙ ap (λ (k : Stmt). after sc (More (statement k) (statements (drop (i + 1) ss)))) is
    ∙ ap (λ n. after sc (More (statement (get_or ss i s)) (statements (drop n ss)))) (add-one i)
    ∙ ap (λ (k : List Stmt). after sc (statements k)) (sym (drop-cons ss i s h))

-- one method more
pub methods_turn : (ms : Signatures) (names seen : Table Known) (all : List Method) (i : ℕ) (m : Method) (w v : Search) → i < length all → m ≡ get_or all i m
    → seen ≡ names
    → v ≡ least w (method_faults ms seen (method_value m))
    → least v (flat_map (method_faults ms names) (map method_value (drop (i + 1) all))) ≡ least w (flat_map (method_faults ms names) (map method_value (drop i all)))
methods_turn ms names seen all i m w v h is same a =
    let rest = flat_map (method_faults ms names) (map method_value (drop (i + 1) all)) in
    ap (λ k. least k rest) (a ∙ ap (λ k. least w (method_faults ms k (method_value m))) same)
    ∙ sym (least_append w (method_faults ms names (method_value m)) rest)
    ∙ ap (λ (k : Method). least w (method_faults ms names (method_value k) ++ rest)) is
    ∙ ap (λ n. least w (method_faults ms names (method_value (get_or all i m)) ++ flat_map (method_faults ms names) (map method_value (drop n all)))) (add-one i)
    ∙ ap (λ (k : List Method). least w (flat_map (method_faults ms names) (map method_value k))) (sym (drop-cons all i m h))
