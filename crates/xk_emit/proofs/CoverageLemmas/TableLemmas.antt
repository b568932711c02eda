-- Names and slots: what is found behind one entry more, and names that are declared one after another.
use Rattle.std.proofs.Common.{◌≡◌, ◌⊎◌, inl, inr, ℕ, ◌+◌, Bool, true, false, cond, ◌||◌, List, [], ◌∷◌, ◌++◌, Option, Some, None, refl, sym, ap, ◌∙◌, subst, append-nil}
use Rattle.std.specs.Prelude.{is_some}
use Rattle.std.specs.Cmp.Lexicographic.{bytes_decides}
use Rattle.std.proofs.lemmas.Bool.{or_cases, or_parts}
use Rattle.std.proofs.Math.Bool.{or-true}
use Rattle.xk_tree.specs.Tree.{Word}
use Rattle.xk_names.specs.Scope.{Table, find, has, is_text, texts, Has}
use Rattle.xk_names.specs.FaultList.{put_text, put_texts}
use Rattle.xk_names.proofs.TableAgreementLemmas.{find_behind, or_entry, has_behind, append_step, same_text}
use Rattle.xk_emit.specs.CodeOf.{Scope}
use Rattle.xk_emit.specs.Unit.{scope_from}
use Rattle.xk_emit.specs.NameCoverage.{IsFound, AreNew}

-- ---- tests

pub is_same : (x : List ℕ) → is_text x x ≡ true
is_same x = (bytes_decides x x).1 refl

-- ---- one entry more

entry_some : {A : Type 0} (o : Option A) (b : Bool) (a j : A) → or_entry o b a ≡ Some j → (o ≡ Some j) ⊎ ((o ≡ None) × (b ≡ true) × (a ≡ j))
entry_some (Some i) b a j e = inl e
entry_some None true a j e = inr (refl, refl, cc)
entry_some None false a j e = absurd cc

-- what is found there was found before, or is what was added
pub found_behind : {A : Type 0} (table : Table A) (y : List ℕ) (a : A) (x : List ℕ) (j : A) → find (table ++ (y, a) ∷ []) x ≡ Some j
    → (find table x ≡ Some j) ⊎ ((find table x ≡ None) × (is_text x y ≡ true) × (a ≡ j))
found_behind table y a x j e = entry_some (find table x) (is_text x y) a j (sym (find_behind table y a x) ∙ e)

entry_none : {A : Type 0} (o : Option A) (b : Bool) (a : A) → or_entry o b a ≡ None → (o ≡ None) × (b ≡ false)
entry_none (Some i) b a e = absurd cc
entry_none None true a e = absurd cc
entry_none None false a e = (refl, refl)

pub absent_behind : {A : Type 0} (table : Table A) (y : List ℕ) (a : A) (x : List ℕ) → find (table ++ (y, a) ∷ []) x ≡ None → (find table x ≡ None) × (is_text x y ≡ false)
absent_behind table y a x e = entry_none (find table x) (is_text x y) a (sym (find_behind table y a x) ∙ e)

pub still_absent : {A : Type 0} (table : Table A) (y : List ℕ) (a : A) (x : List ℕ) → find table x ≡ None → is_text x y ≡ false → find (table ++ (y, a) ∷ []) x ≡ None
still_absent table y a x e f = find_behind table y a x ∙ ap (λ o. or_entry o (is_text x y) a) e ∙ ap (λ b. or_entry None b a) f

still_some : {A : Type 0} (o : Option A) (b : Bool) (a : A) → is_some o ≡ true → is_some (or_entry o b a) ≡ true
still_some (Some j) b a h = refl
still_some None b a h = absurd cc

new_some : {A : Type 0} (o : Option A) (a : A) → is_some (or_entry o true a) ≡ true
new_some (Some j) a = refl
new_some None a = refl

pub still_found : (scope : Scope) (y : List ℕ) (n : ℕ) (x : List ℕ) → IsFound scope x → IsFound (scope ++ (y, n) ∷ []) x
still_found scope y n x h = ap is_some (find_behind scope y n x) ∙ still_some (find scope x) (is_text x y) n h

pub now_found : (scope : Scope) (y : List ℕ) (n : ℕ) (x : List ℕ) → is_text x y ≡ true → IsFound (scope ++ (y, n) ∷ []) x
now_found scope y n x e = ap is_some (find_behind scope y n x ∙ ap (λ b. or_entry (find scope x) b n) e) ∙ new_some (find scope x) n

-- ---- parameters

pub param_found : (n : ℕ) (xs : List (List ℕ)) (x : List ℕ) → is_some (find (scope_from n xs) x) ≡ has xs x
param_found n [] x = refl
param_found n (y ∷ ys) x = go (is_text x y) (param_found (n + 1) ys x)
  where
    go : (b : Bool) → is_some (find (scope_from (n + 1) ys) x) ≡ has ys x → is_some (cond b (Some n) (find (scope_from (n + 1) ys) x)) ≡ (b || has ys x)
    go true h = refl
    go false h = h

-- each name is none of those before it
abbrev pub Differ : List (List ℕ) → List (List ℕ) → Type 0
Differ seen [] = Unit {0}
Differ seen (x ∷ xs) = (has seen x ≡ false) × Differ (seen ++ x ∷ []) xs

pub differ_new : (scope : Scope) (n : ℕ) (seen xs : List (List ℕ)) → ((x : List ℕ) → has seen x ≡ false → find scope x ≡ None) → Differ seen xs → AreNew scope n xs
differ_new scope n seen [] fresh h = tt
differ_new scope n seen (x ∷ xs) fresh h = (
  ap is_some (fresh x h.0),
  differ_new (scope ++ (x, n) ∷ []) (n + 1) (seen ++ x ∷ []) xs
      (λ y e. let both = or_parts (has seen y) (is_text y x) (sym (has_behind seen x y) ∙ e) in still_absent scope x n y (fresh y both.0) both.1)
      h.1,
)

pub differ_append : (seen xs ys : List (List ℕ)) → Differ seen xs → Differ (seen ++ xs) ys → Differ seen (xs ++ ys)
differ_append seen [] ys h g = subst (λ k. Differ k ys) (append-nil seen) g
differ_append seen (x ∷ xs) ys h g = (h.0, differ_append (seen ++ x ∷ []) xs ys h.1 (subst (λ k. Differ k ys) (append_step seen x xs) g))

-- names that are put into a list once each
differ_put : (seen ts : List (List ℕ)) (x : List ℕ) → has seen x ≡ false → Differ seen ts → Differ seen (put_text ts x)
differ_put seen ts x other h = go (has ts x) refl
  where
    at_end : (before rest : List (List ℕ)) → Differ before rest → has before x ≡ false → has rest x ≡ false → Differ before (rest ++ x ∷ [])
    at_end before [] d e f = (e, tt)
    at_end before (r ∷ rest) d e f =
        let both = or_parts (is_text x r) (has rest x) f in
        (d.0, at_end (before ++ r ∷ []) rest d.1 (has_behind before r x ∙ ap (λ b. b || is_text x r) e ∙ both.0) both.1)

    go : (b : Bool) → has ts x ≡ b → Differ seen (cond b ts (ts ++ x ∷ []))
    go true e = h
    go false e = at_end seen ts h other e

pub differ_texts : (seen ts : List (List ℕ)) (ws : List Word) → ((w : Word) → Has ws w → has seen w.text ≡ false) → Differ seen ts → Differ seen (put_texts ts ws)
differ_texts seen ts [] other h = h
differ_texts seen ts (w ∷ ws) other h =
    differ_texts seen (put_text ts w.text) ws (λ v k. other v (inr k)) (differ_put seen ts w.text (other w (inl refl)) h)

-- ---- names of words

-- a text is among those of some words as that of one of them
pub among_texts : (ws : List Word) (x : List ℕ) → has (texts ws) x ≡ true → (w : Word) × (Has ws w × (w.text ≡ x))
among_texts [] x h = absurd cc
among_texts (w ∷ ws) x h = elim (or_cases (is_text x w.text) (has (texts ws) x) h) [
  | inl e ↦ (w, (inl refl, sym (same_text x w.text e)))
  | inr e ↦ let r = among_texts ws x e in (r.0, (inr r.1.0, r.1.1))
]

pub text_among : (ws : List Word) (w : Word) → Has ws w → has (texts ws) w.text ≡ true
text_among [] w h = absurd h
text_among (v ∷ ws) w (inl e) = ap (λ (k : Word). is_text w.text k.text || has (texts ws) w.text) (sym e) ∙ ap (λ b. b || has (texts ws) w.text) (is_same w.text)
text_among (v ∷ ws) w (inr h) = ap (λ b. is_text w.text v.text || b) (text_among ws w h) ∙ or-true (is_text w.text v.text)

has_append : (xs ys : List (List ℕ)) (x : List ℕ) → has (xs ++ ys) x ≡ (has xs x || has ys x)
has_append [] ys x = refl
has_append (y ∷ xs) ys x = go (is_text x y) (has_append xs ys x)
  where
    go : (b : Bool) → has (xs ++ ys) x ≡ (has xs x || has ys x) → (b || has (xs ++ ys) x) ≡ ((b || has xs x) || has ys x)
    go true h = refl
    go false h = h

pub in_either : (xs ys : List (List ℕ)) (x : List ℕ) → has (xs ++ ys) x ≡ true → (has xs x ≡ true) ⊎ (has ys x ≡ true)
in_either xs ys x h = or_cases (has xs x) (has ys x) (sym (has_append xs ys x) ∙ h)

pub in_left : (xs ys : List (List ℕ)) (x : List ℕ) → has xs x ≡ true → has (xs ++ ys) x ≡ true
in_left xs ys x h = has_append xs ys x ∙ ap (λ b. b || has ys x) h

pub in_right : (xs ys : List (List ℕ)) (x : List ℕ) → has ys x ≡ true → has (xs ++ ys) x ≡ true
in_right xs ys x h = has_append xs ys x ∙ ap (λ b. has xs x || b) h ∙ or-true (has xs x)
