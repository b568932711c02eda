-- Lists that have each text once: what is put on them, and what was put before.
use Rattle.std.proofs.Common.{◌≡◌, ◌⊎◌, inl, inr, ℕ, Bool, true, false, cond, ◌||◌, List, [], ◌∷◌, ◌++◌, refl, sym, ap, ◌∙◌, subst, append-nil}
use Rattle.std.specs.Cmp.Lexicographic.{bytes_decides}
use Rattle.xk_tree.specs.Tree.{Word}
use Rattle.xk_names.specs.Scope.{has, is_text, texts, Has}
use Rattle.xk_names.specs.FaultList.{put_text, put_texts}
use Rattle.xk_names.proofs.TableAgreementLemmas.{put_texts_same}
use Rattle.xk_names.proofs.MembershipLemmas.{has_left, has_right}
use Rattle.xk_names.proofs.FreePlaceLemmas.{head_is, split, nothing_left}

-- ---- elements, by the test

is_in : (ts : List (List ℕ)) (x : List ℕ) → Has ts x → has ts x ≡ true
is_in [] x h = absurd h
is_in (t ∷ ts) x (inl e) = ap (λ b. b || has ts x) ((bytes_decides x t).1 e)
is_in (t ∷ ts) x (inr h) = go (is_text x t) (is_in ts x h)
  where
    go : (b : Bool) → has ts x ≡ true → (b || has ts x) ≡ true
    go true e = refl
    go false e = e

in_by : (ts : List (List ℕ)) (x : List ℕ) → has ts x ≡ true → Has ts x
in_by [] x h = absurd cc
in_by (t ∷ ts) x h = go (is_text x t) refl (λ k. in_by ts x k) h
  where
    go : (b : Bool) → is_text x t ≡ b → (has ts x ≡ true → Has ts x) → (b || has ts x) ≡ true → Has (t ∷ ts) x
    go true e later k = inl ((bytes_decides x t).0 e)
    go false e later k = inr (later k)

to_texts : (ws : List Word) (w : Word) → Has ws w → Has (texts ws) w.text
to_texts [] w h = absurd h
to_texts (v ∷ ws) w (inl e) = inl (ap (λ (k : Word). k.text) e)
to_texts (v ∷ ws) w (inr h) = inr (to_texts ws w h)

-- where a text is among these, a word stands somewhere that has it
pub from_texts : (ws : List Word) (x : List ℕ) → Has (texts ws) x → (front : List Word) × ((w : Word) × ((back : List Word) × (ws ≡ front ++ w ∷ back) × (w.text ≡ x)))
from_texts [] x h = absurd h
from_texts (v ∷ ws) x (inl e) = ([], (v, (ws, refl, sym e)))
from_texts (v ∷ ws) x (inr h) = let r = from_texts ws x h in (v ∷ r.0, (r.1.0, (r.1.1.0, ap (λ k. v ∷ k) r.1.1.1, r.1.1.2)))

pub put_in : (ws : List Word) (w : Word) → Has ws w → Has (put_texts [] ws) w.text
put_in ws w h = in_by (put_texts [] ws) w.text (put_texts_same [] [] ws (λ x. refl) w.text ∙ is_in (texts ws) w.text (to_texts ws w h))

pub from_put : (ws : List Word) (x : List ℕ) → Has (put_texts [] ws) x → Has (texts ws) x
from_put ws x h = in_by (texts ws) x (sym (put_texts_same [] [] ws (λ y. refl) x) ∙ is_in (put_texts [] ws) x h)

-- ---- each once

abbrev AreApart : List (List ℕ) → Type 0
AreApart ts = (before : List (List ℕ)) (x : List ℕ) (after : List (List ℕ)) → ts ≡ before ++ x ∷ after → has before x ≡ false

-- a list of one element
one_in : {A : Type 0} (y : A) (before : List A) (x : A) (after : List A) → y ∷ [] ≡ before ++ x ∷ after → (before ≡ []) × (x ≡ y)
one_in y [] x after e = (refl, sym (head_is y x [] after e).0)
one_in y (z ∷ before) x after e = absurd (nothing_left before x after (head_is y z [] (before ++ x ∷ after) e).1)

apart_put : (ts : List (List ℕ)) (y : List ℕ) → AreApart ts → AreApart (put_text ts y)
apart_put ts y apart = go (has ts y) refl
  where
    go : (b : Bool) → has ts y ≡ b → AreApart (cond b ts (ts ++ y ∷ []))
    go true e before x after is = apart before x after is
    go false e before x after is = elim (split ts (y ∷ []) before x after is) [
      | inl a ↦ apart before x a.0 a.1
      | inr r ↦
          let last = one_in y r.0 x after r.2 in
          let whole : before ≡ ts = r.1 ∙ ap (λ k. ts ++ k) last.0 ∙ append-nil ts in
          ap (λ k. has k x) whole ∙ ap (has ts) last.1 ∙ e
    ]

apart_texts : (ts : List (List ℕ)) (ws : List Word) → AreApart ts → AreApart (put_texts ts ws)
apart_texts ts [] apart = apart
apart_texts ts (w ∷ ws) apart = apart_texts (put_text ts w.text) ws (apart_put ts w.text apart)

pub put_once : (ws : List Word) (before : List (List ℕ)) (x : List ℕ) (after : List (List ℕ)) → put_texts [] ws ≡ before ++ x ∷ after → Has before x → ⊥
put_once ws before x after e h =
    let apart = apart_texts [] ws (λ front y back none. absurd (nothing_left front y back none)) before x after e in
    let never : true ≡ false = sym (is_in before x h) ∙ apart in absurd cc

-- ---- in their order

-- a word that was put there, and all that were put or kept before it are before it there
pub record WasPut (kept : List (List ℕ)) (ws : List Word) (before : List (List ℕ)) (x : List ℕ) : Type 0 where
  pub front : List Word
  pub word : Word
  pub back : List Word
  pub stands : ws ≡ front ++ word ∷ back
  pub name : word.text ≡ x
  pub kept_before : (y : List ℕ) → Has kept y → Has before y
  pub put_before : (v : Word) → Has front v → Has before v.text

put_order : (kept : List (List ℕ)) (ws : List Word) (before : List (List ℕ)) (x : List ℕ) (after : List (List ℕ)) → put_texts kept ws ≡ before ++ x ∷ after
    → ((rest : List (List ℕ)) × (kept ≡ before ++ x ∷ rest)) ⊎ WasPut kept ws before x
put_order kept [] before x after e = inl (after, e)
put_order kept (w ∷ ws) before x after e = go (has kept w.text) refl (put_order (put_text kept w.text) ws before x after e)
  where
    later : (more : List (List ℕ)) → ((y : List ℕ) → Has kept y → Has more y) → Has more w.text → WasPut more ws before x → WasPut kept (w ∷ ws) before x
    later more wider mine r = record {
      front = w ∷ r.front;
      word = r.word;
      back = r.back;
      stands = ap (λ k. w ∷ k) r.stands;
      name = r.name;
      kept_before = λ y h. r.kept_before y (wider y h);
      put_before = mine_or r;
    }
      where
        mine_or : WasPut more ws before x → (v : Word) → Has (w ∷ r.front) v → Has before v.text
        mine_or q v (inl i) = subst (λ (k : Word). Has before k.text) (sym i) (r.kept_before w.text mine)
        mine_or q v (inr h) = r.put_before v h

    first : (more : List (List ℕ)) → before ≡ kept ++ more → more ≡ [] → x ≡ w.text → WasPut kept (w ∷ ws) before x
    first more is none same = record {
      front = [];
      word = w;
      back = ws;
      stands = refl;
      name = sym same;
      kept_before = λ y h. subst (λ k. Has k y) (sym is) (has_left kept more y h);
      put_before = λ v h. absurd h;
    }

    go : (b : Bool) → has kept w.text ≡ b → ((rest : List (List ℕ)) × (cond b kept (kept ++ w.text ∷ []) ≡ before ++ x ∷ rest)) ⊎ WasPut (cond b kept (kept ++ w.text ∷ [])) ws before x
        → ((rest : List (List ℕ)) × (kept ≡ before ++ x ∷ rest)) ⊎ WasPut kept (w ∷ ws) before x
    go true is (inl a) = inl a
    go true is (inr r) = inr (later kept (λ y h. h) (in_by kept w.text is) r)
    go false is (inl a) = elim (split kept (w.text ∷ []) before x a.0 a.1) [
      | inl b ↦ inl b
      | inr r ↦ let last = one_in w.text r.0 x a.0 r.2 in inr (first r.0 r.1 last.0 last.1)
    ]
    go false is (inr r) = inr (later (kept ++ w.text ∷ []) (λ y h. has_left kept (w.text ∷ []) y h) (has_right kept (w.text ∷ []) w.text (inl refl)) r)

pub was_put : (ws : List Word) (before : List (List ℕ)) (x : List ℕ) (after : List (List ℕ)) → put_texts [] ws ≡ before ++ x ∷ after → WasPut [] ws before x
was_put ws before x after e = elim (put_order [] ws before x after e) [
  | inl a ↦ absurd (nothing_left before x a.0 a.1)
  | inr r ↦ r
]
