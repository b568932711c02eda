-- What is taken within a statement: the uses, in the order of the text, that mean a number from outside.
use Rattle.std.proofs.Common.{◌≡◌, inl, inr, ℕ, nat_lt, ◌<◌, Bool, true, false, cond, ◌||◌, List, [], ◌∷◌, ◌++◌, length, Option, Some, None, refl, sym, ap, ◌∙◌, subst, append_assoc, append-nil, arith}
use Rattle.std.proofs.lemmas.Bool.{lt-ltb}
use Rattle.std.specs.Cmp.Lexicographic.{bytes_decides}
use Rattle.std.proofs.lemmas.Option.{none-some}
use Rattle.std.proofs.Math.Bool.{or-true, or-false}
use Rattle.xk_names.proofs.CaptureLemmas.{append_both}
use Rattle.xk_tree.specs.declared.tree.Number.{Number}
use Rattle.xk_tree.specs.Tree.{Word, Bound, UpTo, Least, Statement, Statements, Done, More, Block, Declare, If, IfElse, For, Async, Finish}
use Rattle.xk_names.specs.declared.binding.Known.{Known}
use Rattle.xk_names.specs.declared.binding.NameKind.{NameKind}
use Rattle.xk_names.specs.declared.binding.NameKind.TheVariants as kind
use Rattle.xk_names.specs.Scope.{Table, find, has, is_text, Has, Declaration, declared, known, entry, Scope, is_shared}
use Rattle.xk_names.specs.Uses.{Signatures, uses, kind_of, declares, clocks_listed}
use Rattle.xk_names.specs.Places.{behind}
use Rattle.xk_names.specs.WellScoped.{IsSound, IsSoundInside, AreSound, with_all, with_body}
use Rattle.xk_names.specs.FaultList.{put_text, put_texts}
use Rattle.xk_names.specs.Captures.{loop_words, words_used, words_besides, own_behind, outer_inside, outer_among, outer_words}
use Rattle.xk_names.proofs.TableAgreementLemmas.{or_entry, find_behind, has_put}
use Rattle.xk_names.proofs.FreeUseLemmas.{is_inner_kind, Tells, IsTold, free_of, used_alike, kind_plain}

-- the same by places: what a statement itself uses, and then what those use that it holds
abbrev mutual
  pub free_inside : Signatures → ℕ → Scope → Statement → List Word
  free_inside ms n sc (Block close ss) = free_among ms n sc ss
  free_inside ms n sc (If at l c r s) = free_of n sc.names (uses ms sc.names s) ++ free_inside ms n sc s
  free_inside ms n sc (IfElse at l c r s t) =
      (free_of n sc.names (uses ms sc.names s) ++ free_inside ms n sc s) ++ (free_of n sc.names (uses ms sc.names t) ++ free_inside ms n sc t)
  free_inside ms n sc (For at i lo b s) =
      let there = with_all sc (declares (length sc.bodies) (For at i lo b s)) in free_of n there.names (uses ms there.names s) ++ free_inside ms n there s
  free_inside ms n sc (Async at cs s) =
      let there = with_body sc (clocks_listed cs) in free_of n there.names (uses ms there.names s) ++ free_inside ms n there s
  free_inside ms n sc (Finish at s) = free_of n sc.names (uses ms sc.names s) ++ free_inside ms n sc s
  free_inside ms n sc _ = []

  pub free_among : Signatures → ℕ → Scope → Statements → List Word
  free_among ms n sc Done = []
  free_among ms n sc (More s ss) =
      (free_of n sc.names (uses ms sc.names s) ++ free_inside ms n sc s) ++ free_among ms n (with_all sc (behind (length sc.bodies) s)) ss

abbrev pub free_words : Signatures → ℕ → Scope → Statement → List Word
free_words ms n sc s = free_of n sc.names (uses ms sc.names s) ++ free_inside ms n sc s

-- ---- what is declared within goes on the list

-- no shared number, and in more than n bodies
abbrev IsDeeper : ℕ → Known → Type 0
IsDeeper n k = (is_shared k.kind ≡ false) × (n < k.depth)

deeper_inner : (n : ℕ) (k : Known) (d : NameKind) → is_shared d ≡ false → n < k.depth → is_inner_kind d (nat_lt n k.depth) ≡ true
deeper_inner n k kind.Val h deep = lt-ltb n k.depth deep
deeper_inner n k kind.Var h deep = lt-ltb n k.depth deep
deeper_inner n k kind.Clock h deep = lt-ltb n k.depth deep
deeper_inner n k kind.Shared h deep = absurd cc

tells_put : (n : ℕ) (names : Table Known) (own : List (List ℕ)) (y : List ℕ) (k : Known) → ((x : List ℕ) → Tells n (has own x) (find names x))
    → find names y ≡ None → IsDeeper n k → (x : List ℕ) → Tells n (has (put_text own y) x) (find (names ++ (y, k) ∷ []) x)
tells_put n names own y k tells new deep x =
    subst (λ b. Tells n b (find (names ++ (y, k) ∷ []) x)) (sym (has_put own y x))
    (subst (λ o. Tells n (has own x || is_text x y) o) (sym (find_behind names y k x))
    (go (find names x) refl (is_text x y) refl (tells x)))
  where
    go : (o : Option Known) → find names x ≡ o → (b : Bool) → is_text x y ≡ b → Tells n (has own x) o → Tells n (has own x || b) (or_entry o b k)
    go None e true i t = or-true (has own x) ∙ sym (deeper_inner n k k.kind deep.0 deep.1)
    go None e false i t = tt
    go (Some j) e false i t = or-false (has own x) ∙ t
    go (Some j) e true i t = absurd (none-some j (sym new ∙ ap (find names) (sym ((bytes_decides x y).0 i)) ∙ e))

told_put : (n : ℕ) (sc : Scope) (own : List (List ℕ)) (d : Declaration) → IsTold n sc own → find sc.names d.name.text ≡ None → IsDeeper n d.known
    → IsTold n (with_all sc (d ∷ [])) (put_text own d.name.text)
told_put n sc own d told new deep = record { tells = tells_put n sc.names own d.name.text d.known told.tells new deep; deeper = told.deeper }

told_more : (n : ℕ) (sc : Scope) (own : List (List ℕ)) (d e : Declaration) → IsTold n (with_all (with_all sc (d ∷ [])) (e ∷ [])) own → IsTold n (with_all sc (d ∷ e ∷ [])) own
told_more n sc own d e told = record {
  tells = subst (λ (k : Table Known). (x : List ℕ) → Tells n (has own x) (find k x)) (append_assoc sc.names (entry d ∷ []) (entry e ∷ [])) told.tells;
  deeper = told.deeper;
}

told_same : (n : ℕ) (sc : Scope) (own : List (List ℕ)) → IsTold n sc own → IsTold n (with_all sc []) own
told_same n sc own told = record {
  tells = subst (λ (k : Table Known). (x : List ℕ) → Tells n (has own x) (find k x)) (sym (append-nil sc.names)) told.tells;
  deeper = told.deeper;
}

told_behind : (ms : Signatures) (n : ℕ) (sc : Scope) (own : List (List ℕ)) (s : Statement) → IsTold n sc own → IsSound ms sc s
    → IsTold n (with_all sc (behind (length sc.bodies) s)) (own_behind own s)
told_behind ms n sc own (Declare b x ty r) told sound =
    let d = declared x (kind_of b r) (length sc.bodies) in
    told_put n sc own d told (sound.new d (inl refl)) (kind_plain b r, told.deeper)
told_behind ms n sc own _ told sound = told_same n sc own told

told_loop : (ms : Signatures) (n : ℕ) (sc : Scope) (own : List (List ℕ)) (at : ℕ) (i : Word) (lo : Number) (b : Bound) (s : Statement) → IsTold n sc own
    → IsSound ms sc (For at i lo b s) → IsTold n (with_all sc (declares (length sc.bodies) (For at i lo b s))) (put_texts own (loop_words i b))
told_loop ms n sc own at i lo (UpTo hi) s told sound =
    let d = declared i kind.Val (length sc.bodies) in told_put n sc own d told (sound.new d (inl refl)) (refl, told.deeper)
told_loop ms n sc own at i lo (Least x v e hi) s told sound =
    let d = declared i kind.Val (length sc.bodies) in
    let f = declared x kind.Val (length sc.bodies) in
    told_more n sc (put_text (put_text own i.text) x.text) d f
    (told_put n (with_all sc (d ∷ [])) (put_text own i.text) f (told_put n sc own d told (sound.new d (inl refl)) (refl, told.deeper))
    (find_behind sc.names i.text d.known x.text ∙ ap (λ o. or_entry o (is_text x.text i.text) d.known) (sound.new f (inr (inl refl))) ∙ apart (is_text x.text i.text) refl)
    (refl, told.deeper))
  where
    apart : (b : Bool) → is_text x.text i.text ≡ b → cond b (Some (known kind.Val (length sc.bodies))) None ≡ None
    apart false same = refl
    apart true same = absurd (sound.fitting x.at (subst (λ b. Has (cond b (x.at ∷ []) []) x.at) (sym same) (inl refl)))

told_body : (n : ℕ) (sc : Scope) (own : List (List ℕ)) (cs : List Word) → IsTold n sc own → IsTold n (with_body sc cs) own
told_body n sc own cs told = record { tells = told.tells; deeper = let d = told.deeper in omega (arith, d) }

-- ---- both tell the same

one_same : (ms : Signatures) (n : ℕ) (sc : Scope) (own : List (List ℕ)) (s : Statement) → IsTold n sc own → IsSound ms sc s
    → outer_inside ms own s ≡ free_inside ms n sc s → outer_words ms own s ≡ free_words ms n sc s
one_same ms n sc own s told sound inner =
    append_both (words_besides own (words_used ms s)) (free_of n sc.names (uses ms sc.names s)) (outer_inside ms own s) (free_inside ms n sc s)
    (used_alike n sc own told ms s sound) inner

mutual
  inside_same : (ms : Signatures) (n : ℕ) (sc : Scope) (own : List (List ℕ)) (s : Statement) → IsTold n sc own → IsSound ms sc s → IsSoundInside ms sc s
      → outer_inside ms own s ≡ free_inside ms n sc s
  inside_same ms n sc own (Block close ss) told sound inner = among_same ms n sc own ss told inner
  inside_same ms n sc own (If at l c r s) told sound inner = one_same ms n sc own s told inner.0 (inside_same ms n sc own s told inner.0 inner.1)
  inside_same ms n sc own (IfElse at l c r s t) told sound inner =
      append_both (outer_words ms own s) (free_words ms n sc s) (outer_words ms own t) (free_words ms n sc t)
      (one_same ms n sc own s told inner.0.0 (inside_same ms n sc own s told inner.0.0 inner.0.1))
      (one_same ms n sc own t told inner.1.0 (inside_same ms n sc own t told inner.1.0 inner.1.1))
  inside_same ms n sc own (For at i lo b s) told sound inner =
      let there = with_all sc (declares (length sc.bodies) (For at i lo b s)) in
      let mine = put_texts own (loop_words i b) in
      let more = told_loop ms n sc own at i lo b s told sound in
      one_same ms n there mine s more inner.0 (inside_same ms n there mine s more inner.0 inner.1)
  inside_same ms n sc own (Async at cs s) told sound inner =
      let there = with_body sc (clocks_listed cs) in
      let more = told_body n sc own (clocks_listed cs) told in
      one_same ms n there own s more inner.0 (inside_same ms n there own s more inner.0 inner.1)
  inside_same ms n sc own (Finish at s) told sound inner = one_same ms n sc own s told inner.0 (inside_same ms n sc own s told inner.0 inner.1)
  inside_same ms n sc own _ told sound inner = refl

  among_same : (ms : Signatures) (n : ℕ) (sc : Scope) (own : List (List ℕ)) (ss : Statements) → IsTold n sc own → AreSound ms sc ss
      → outer_among ms own ss ≡ free_among ms n sc ss
  among_same ms n sc own Done told sound = refl
  among_same ms n sc own (More s ss) told sound =
      let there = with_all sc (behind (length sc.bodies) s) in
      append_both (outer_words ms own s) (free_words ms n sc s) (outer_among ms (own_behind own s) ss) (free_among ms n there ss)
      (one_same ms n sc own s told sound.0.0 (inside_same ms n sc own s told sound.0.0 sound.0.1))
      (among_same ms n there (own_behind own s) ss (told_behind ms n sc own s told sound.0.0) sound.1)

-- what a sound statement takes
pub free_same : (ms : Signatures) (n : ℕ) (sc : Scope) (own : List (List ℕ)) (s : Statement) → IsTold n sc own → IsSound ms sc s → IsSoundInside ms sc s
    → outer_words ms own s ≡ free_words ms n sc s
free_same ms n sc own s told sound inner = one_same ms n sc own s told sound (inside_same ms n sc own s told sound inner)
