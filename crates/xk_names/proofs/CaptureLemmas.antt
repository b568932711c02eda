-- What a body takes is the same for two lists that have the same names.
use Rattle.std.proofs.Common.{◌≡◌, ℕ, cond, List, [], ◌∷◌, ◌++◌, map, refl, sym, ap, ◌∙◌}
use Rattle.xk_tree.specs.declared.tree.Shared.{Shared}
use Rattle.xk_tree.specs.Tree.{Word, Statement, Statements, Done, More, Block, If, IfElse, For, Async, Finish, word, shared_value}
use Rattle.xk_names.specs.Scope.{has, texts}
use Rattle.xk_names.specs.Uses.{Signatures}
use Rattle.xk_names.specs.Places.{behind}
use Rattle.xk_names.specs.Captures.{loop_words, words_used, words_besides, own_behind, outer_inside, outer_among, outer_words, shared_texts, captures}
use Rattle.xk_names.specs.FaultList.{put_texts}
use Rattle.xk_names.proofs.TableAgreementLemmas.{HasSame, put_texts_same}

besides_same : (a b : List (List ℕ)) → HasSame a b → (ws : List Word) → words_besides a ws ≡ words_besides b ws
besides_same a b same [] = refl
besides_same a b same (w ∷ ws) =
    let one : List Word = w ∷ [] in
    let rest : List Word = words_besides a ws in
    ap (λ c. cond c [] one ++ rest) (same w.text) ∙ ap (λ r. cond (has b w.text) [] one ++ r) (besides_same a b same ws)

put_both : (a b : List (List ℕ)) → HasSame a b → (ws : List Word) → HasSame (put_texts a ws) (put_texts b ws)
put_both a b same ws x = put_texts_same a b ws same x ∙ sym (put_texts_same b b ws (λ z. refl) x)

behind_both : (a b : List (List ℕ)) → HasSame a b → (s : Statement) → HasSame (own_behind a s) (own_behind b s)
behind_both a b same s = put_both a b same (map (λ d. d.name) (behind 0 s))

pub append_both : (ws xs ys zs : List Word) → ws ≡ xs → ys ≡ zs → ws ++ ys ≡ xs ++ zs
append_both ws xs ys zs e f = ap (λ k. k ++ ys) e ∙ ap (λ k. xs ++ k) f

mutual
  inside_same : (ms : Signatures) (a b : List (List ℕ)) → HasSame a b → (s : Statement) → outer_inside ms a s ≡ outer_inside ms b s
  inside_same ms a b same (Block close ss) = among_same ms a b same ss
  inside_same ms a b same (If at l c r s) =
      append_both (words_besides a (words_used ms s)) (words_besides b (words_used ms s)) (outer_inside ms a s) (outer_inside ms b s)
      (besides_same a b same (words_used ms s)) (inside_same ms a b same s)
  inside_same ms a b same (IfElse at l c r s t) =
      append_both (outer_words ms a s) (outer_words ms b s) (outer_words ms a t) (outer_words ms b t)
      (append_both (words_besides a (words_used ms s)) (words_besides b (words_used ms s)) (outer_inside ms a s) (outer_inside ms b s)
      (besides_same a b same (words_used ms s)) (inside_same ms a b same s))
      (append_both (words_besides a (words_used ms t)) (words_besides b (words_used ms t)) (outer_inside ms a t) (outer_inside ms b t)
      (besides_same a b same (words_used ms t)) (inside_same ms a b same t))
  inside_same ms a b same (For at i lo k s) =
      let ws = loop_words i k in
      let c : List (List ℕ) = put_texts a ws in
      let d : List (List ℕ) = put_texts b ws in
      append_both (words_besides c (words_used ms s)) (words_besides d (words_used ms s)) (outer_inside ms c s) (outer_inside ms d s)
      (besides_same c d (put_both a b same ws) (words_used ms s)) (inside_same ms c d (put_both a b same ws) s)
  inside_same ms a b same (Async at cs s) =
      append_both (words_besides a (words_used ms s)) (words_besides b (words_used ms s)) (outer_inside ms a s) (outer_inside ms b s)
      (besides_same a b same (words_used ms s)) (inside_same ms a b same s)
  inside_same ms a b same (Finish at s) =
      append_both (words_besides a (words_used ms s)) (words_besides b (words_used ms s)) (outer_inside ms a s) (outer_inside ms b s)
      (besides_same a b same (words_used ms s)) (inside_same ms a b same s)
  inside_same ms a b same _ = refl

  among_same : (ms : Signatures) (a b : List (List ℕ)) → HasSame a b → (ss : Statements) → outer_among ms a ss ≡ outer_among ms b ss
  among_same ms a b same Done = refl
  among_same ms a b same (More s ss) =
      append_both (outer_words ms a s) (outer_words ms b s) (outer_among ms (own_behind a s) ss) (outer_among ms (own_behind b s) ss)
      (append_both (words_besides a (words_used ms s)) (words_besides b (words_used ms s)) (outer_inside ms a s) (outer_inside ms b s)
      (besides_same a b same (words_used ms s)) (inside_same ms a b same s))
      (among_same ms (own_behind a s) (own_behind b s) (behind_both a b same s) ss)

outer_same : (ms : Signatures) (a b : List (List ℕ)) → HasSame a b → (s : Statement) → outer_words ms a s ≡ outer_words ms b s
outer_same ms a b same s =
    append_both (words_besides a (words_used ms s)) (words_besides b (words_used ms s)) (outer_inside ms a s) (outer_inside ms b s)
    (besides_same a b same (words_used ms s)) (inside_same ms a b same s)

shared_named : (xs : List Shared) → texts (map (λ s. word s.name) xs) ≡ shared_texts (map shared_value xs)
shared_named [] = refl
shared_named (x ∷ xs) = ap (λ r. x.name.text.now ∷ r) (shared_named xs)

-- the shared numbers as the code keeps them, each name once
pub captures_kept : (ms : Signatures) (xs : List Shared) (s : Statement)
    → put_texts [] (outer_words ms (put_texts [] (map (λ x. word x.name) xs)) s) ≡ captures ms (shared_texts (map shared_value xs)) s
captures_kept ms xs s =
    let named : List Word = map (λ x. word x.name) xs in
    ap (put_texts []) (outer_same ms (put_texts [] named) (texts named) (put_texts_same [] [] named (λ z. refl)) s
    ∙ ap (λ k. outer_words ms k s) (shared_named xs))
