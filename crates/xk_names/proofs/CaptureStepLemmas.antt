-- What is taken from outside, one word after another.
use Rattle.std.proofs.Common.{◌≡◌, ℕ, ◌+◌, ◌<◌, Bool, true, false, cond, List, [], ◌∷◌, ◌++◌, map, take, drop, length, get_or, refl, sym, ap, ◌∙◌, append_assoc, drop-cons, add-one, append-nil}
use Rattle.std.specs.Prelude.{if◌then◌else◌}
use Rattle.std.specs.List.{flat_map}
use Rattle.xk_tree.specs.declared.tree.Stmt.{Stmt}
use Rattle.xk_tree.specs.Tree.{Word, Statement, Statements, Done, More, expression, statement, statements}
use Rattle.xk_names.specs.Scope.{has}
use Rattle.xk_names.specs.Uses.{Signatures}
use Rattle.xk_names.specs.Places.{behind}
use Rattle.xk_names.specs.declared.arguments.Argument.{Argument}
use Rattle.xk_names.specs.StatementParts.{arguments}
use Rattle.xk_names.specs.Captures.{argument_words, words_besides, words_used, own_behind, own_after, outer_inside, outer_among, outer_words}
use Rattle.xk_names.specs.FaultList.{put_text, put_texts}
use Rattle.xk_names.proofs.FaultAppendLemmas.{put_texts_append}

pub besides_append : (own : List (List ℕ)) (xs ys : List Word) → words_besides own (xs ++ ys) ≡ words_besides own xs ++ words_besides own ys
besides_append own [] ys = refl
besides_append own (x ∷ xs) ys =
    let first : List Word = if has own x.text then [] else x ∷ [] in
    ap (λ r. first ++ r) (besides_append own xs ys) ∙ sym (append_assoc first (words_besides own xs) (words_besides own ys))

pub put_besides : (own out : List (List ℕ)) (xs ys : List Word)
    → put_texts out (words_besides own (xs ++ ys)) ≡ put_texts (put_texts out (words_besides own xs)) (words_besides own ys)
put_besides own out xs ys = ap (put_texts out) (besides_append own xs ys) ∙ put_texts_append out (words_besides own xs) (words_besides own ys)

-- ---- the arguments of a call

abbrev given_words : List Argument → List Word
given_words list = flat_map (λ a. argument_words a.0 a.1) (arguments list)

pub given_turn : (own : List (List ℕ)) (list : List Argument) (i : ℕ) (a : Argument) (w v : List (List ℕ)) → i < length list → a ≡ get_or list i a
    → v ≡ put_texts w (words_besides own (argument_words a.takes (expression a.value.now)))
    → put_texts v (words_besides own (given_words (drop (i + 1) list))) ≡ put_texts w (words_besides own (given_words (drop i list)))
given_turn own list i a w v h is done =
    ap (λ r. put_texts r (words_besides own (given_words (drop (i + 1) list)))) done
    ∙ sym (put_besides own w (argument_words a.takes (expression a.value.now)) (given_words (drop (i + 1) list)))
    ∙ ap (λ (b : Argument). put_texts w (words_besides own (argument_words b.takes (expression b.value.now) ++ given_words (drop (i + 1) list)))) is
    ∙ ap (λ n. put_texts w (words_besides own (argument_words (get_or list i a).takes (expression (get_or list i a).value.now) ++ given_words (drop n list)))) (add-one i)
    ∙ ap (λ r. put_texts w (words_besides own (given_words r))) (sym (drop-cons list i a h))

-- ---- names that are declared within, cut back

take_front : (xs ys : List (List ℕ)) → take (length xs) (xs ++ ys) ≡ xs
take_front [] ys = refl
take_front (x ∷ xs) ys = ap (λ r. x ∷ r) (take_front xs ys)

put_grows : (ts : List (List ℕ)) (x : List ℕ) → (more : List (List ℕ)) × (put_text ts x ≡ ts ++ more)
put_grows ts x = go (has ts x)
  where
    go : (b : Bool) → (more : List (List ℕ)) × (cond b ts (ts ++ x ∷ []) ≡ ts ++ more)
    go true = ([], sym (append-nil ts))
    go false = (x ∷ [], refl)

grows : (ts : List (List ℕ)) (ws : List Word) → (more : List (List ℕ)) × (put_texts ts ws ≡ ts ++ more)
grows ts [] = ([], sym (append-nil ts))
grows ts (w ∷ ws) =
    let f = put_grows ts w.text in
    let g = grows (put_text ts w.text) ws in
    (f.0 ++ g.0, g.1 ∙ (ap (λ k. k ++ g.0) f.1 ∙ append_assoc ts f.0 g.0))

pub cut_texts : (before kept : List (List ℕ)) (ws : List Word) (n : ℕ) → kept ≡ put_texts before ws → n ≡ length before → take n kept ≡ before
cut_texts before kept ws n e h = let g = grows before ws in ap (λ k. take k kept) h ∙ ap (take (length before)) (e ∙ g.1) ∙ take_front before g.0

after_grows : (own : List (List ℕ)) (ss : Statements) → (more : List (List ℕ)) × (own_after own ss ≡ own ++ more)
after_grows own Done = ([], sym (append-nil own))
after_grows own (More s ss) =
    let f = grows own (map (λ d. d.name) (behind 0 s)) in
    let g = after_grows (own_behind own s) ss in
    (f.0 ++ g.0, g.1 ∙ (ap (λ k. k ++ g.0) f.1 ∙ append_assoc own f.0 g.0))

pub cut_own : (before kept : List (List ℕ)) (ss : Statements) (n : ℕ) → kept ≡ own_after before ss → n ≡ length before → take n kept ≡ before
cut_own before kept ss n e h = let g = after_grows before ss in ap (λ k. take k kept) h ∙ ap (take (length before)) (e ∙ g.1) ∙ take_front before g.0

-- ---- statements, one after another

pub inner_taken : (ms : Signatures) (own : List (List ℕ)) (s t : Statement) (w w1 w2 : List (List ℕ)) → s ≡ t → w1 ≡ put_texts w (words_besides own (words_used ms s))
    → w2 ≡ put_texts w1 (outer_inside ms own t) → w2 ≡ put_texts w (outer_words ms own s)
inner_taken ms own s t w w1 w2 e a b =
    b ∙ ap (λ k. put_texts k (outer_inside ms own t)) a ∙ ap (λ q. put_texts (put_texts w (words_besides own (words_used ms s))) (outer_inside ms own q)) (sym e)
    ∙ sym (put_texts_append w (words_besides own (words_used ms s)) (outer_inside ms own s))

pub both_taken : (ms : Signatures) (own own2 : List (List ℕ)) (a b d1 d2 : Stmt) (w1 w2 w3 : List (List ℕ)) → d1 ≡ a → d2 ≡ b → own2 ≡ own
    → w2 ≡ put_texts w1 (outer_words ms own (statement d1)) → w3 ≡ put_texts w2 (outer_words ms own2 (statement d2))
    → w3 ≡ put_texts w1 (outer_words ms own (statement a) ++ outer_words ms own (statement b))
both_taken ms own own2 a b d1 d2 w1 w2 w3 ea eb es first second =
    second ∙ ap (λ k. put_texts k (outer_words ms own2 (statement d2))) first
    ∙ ap (λ k. put_texts (put_texts w1 (outer_words ms own (statement d1))) (outer_words ms k (statement d2))) es
    ∙ ap (λ (k : Stmt). put_texts (put_texts w1 (outer_words ms own (statement k))) (outer_words ms own (statement d2))) ea
    ∙ ap (λ (k : Stmt). put_texts (put_texts w1 (outer_words ms own (statement a))) (outer_words ms own (statement k))) eb
    ∙ sym (put_texts_append w1 (outer_words ms own (statement a)) (outer_words ms own (statement b)))

pub taken_turn : (ms : Signatures) (own there : List (List ℕ)) (ss : List Stmt) (i : ℕ) (s : Stmt) (w v : List (List ℕ)) → i < length ss → s ≡ get_or ss i s
    → v ≡ put_texts w (outer_words ms own (statement s)) → there ≡ own_behind own (statement s)
    → put_texts v (outer_among ms there (statements (drop (i + 1) ss))) ≡ put_texts w (outer_among ms own (statements (drop i ss)))
taken_turn ms own there ss i s w v h is a b =
    let rest = statements (drop (i + 1) ss) in
    ap (λ k. put_texts k (outer_among ms there rest)) a
    ∙ ap (λ k. put_texts (put_texts w (outer_words ms own (statement s))) (outer_among ms k rest)) b
    ∙ sym (put_texts_append w (outer_words ms own (statement s)) (outer_among ms (own_behind own (statement s)) rest))
    ∙ ap (λ (k : Stmt). put_texts w (outer_among ms own (More (statement k) rest))) is
    ∙ ap (λ n. put_texts w (outer_among ms own (More (statement (get_or ss i s)) (statements (drop n ss))))) (add-one i)
    ∙ ap (λ (k : List Stmt). put_texts w (outer_among ms own (statements k))) (sym (drop-cons ss i s h))

pub own_turn : (own there : List (List ℕ)) (ss : List Stmt) (i : ℕ) (s : Stmt) → i < length ss → s ≡ get_or ss i s
    → there ≡ own_behind own (statement s) → own_after there (statements (drop (i + 1) ss)) ≡ own_after own (statements (drop i ss))
own_turn own there ss i s h is b =
    ap (λ k. own_after k (statements (drop (i + 1) ss))) b
    ∙ ap (λ (k : Stmt). own_after own (More (statement k) (statements (drop (i + 1) ss)))) is
    ∙ ap (λ n. own_after own (More (statement (get_or ss i s)) (statements (drop n ss)))) (add-one i)
    ∙ ap (λ (k : List Stmt). own_after own (statements k)) (sym (drop-cons ss i s h))
