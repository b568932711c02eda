-- Which texts a set has, with one more.
use Rattle.std.proofs.Common.{◌≡◌, ◌⊎◌, inl, inr, ◌∙◌, ℕ, Bool, true, false, cond, List}
use Rattle.std.proofs.Common.{[], ◌∷◌, ◌++◌, length, map, Some, slice_get, refl, sym, ap, subst}
use Rattle.std.specs.Borrow.{Bor}
use Rattle.std.specs.Ordering.{is_eq, nat_cmp}
use Rattle.std.specs.Cmp.Lexicographic.{bytes_decides, slice_cmp}
use Rattle.std.specs.BTreeSet.{BTreeSet, UpdatesBy, contains_by}
use Rattle.std.proofs.lemmas.List.{map-append}
use Rattle.std.proofs.lemmas.Map.Text.{is_eq-slice_cmp}
use Rattle.xk_outcome_lists.specs.Texts.{AreTexts}
use Rattle.xk_types.proofs.ListLemmas.{get-append_left as stays, get_push as at_end}
use Rattle.xk_readings.proofs.ListLemmas.{place}

-- whether a set has a text
abbrev has : BTreeSet (Bor (List ℕ)) → List ℕ → Bool
has texts x = contains_by (λ t. slice_cmp nat_cmp x t.now) texts

same_text : (x y : List ℕ) → is_eq (slice_cmp nat_cmp x y) ≡ true → x ≡ y
same_text x y h = (bytes_decides x y).0 (sym (is_eq-slice_cmp x y) ∙ h)

text_here : (x : List ℕ) → is_eq (slice_cmp nat_cmp x x) ≡ true
text_here x = is_eq-slice_cmp x x ∙ (bytes_decides x x).1 refl

texts_more : (told : List (List ℕ)) (y : List ℕ) (old new : BTreeSet (Bor (List ℕ))) → AreTexts told old
    → ((q : List ℕ) → has new q ≡ cond (is_eq (slice_cmp nat_cmp y q)) true (has old q)) → AreTexts (told ++ y ∷ []) new
texts_more told y old new are says = record {
  each = λ k x h. says x ∙ each k x (place told y k x h);
  other = λ x h. other x (is_eq (slice_cmp nat_cmp y x)) refl (sym (says x) ∙ h);
}
  where
    kept : (x : List ℕ) (b : Bool) → has old x ≡ true → cond b true (has old x) ≡ true
    kept x true h = refl
    kept x false h = h

    each : (k : ℕ) (x : List ℕ) → (slice_get told k ≡ Some x) ⊎ ((k ≡ length told) × (y ≡ x))
        → cond (is_eq (slice_cmp nat_cmp y x)) true (has old x) ≡ true
    each k x (inl h) = kept x (is_eq (slice_cmp nat_cmp y x)) (are.each k x h)
    each k x (inr e) = ap (λ b. cond b true (has old x)) (ap (λ z. is_eq (slice_cmp nat_cmp y z)) (sym e.1) ∙ text_here y)

    other : (x : List ℕ) (b : Bool) → is_eq (slice_cmp nat_cmp y x) ≡ b → cond b true (has old x) ≡ true
        → (k : ℕ) × (slice_get (told ++ y ∷ []) k ≡ Some x)
    other x true e h = (length told, at_end told y ∙ ap Some (same_text y x e))
    other x false e h = let f = are.other x h in (f.0, stays told (y ∷ []) f.0 x f.1)

-- what a push and an insertion leave
pub texts_pushed : (old new : List (Bor (List ℕ))) (y : Bor (List ℕ)) (texts more : BTreeSet (Bor (List ℕ)))
    → new ≡ old ++ y ∷ [] → AreTexts (map (λ t. t.now) old) texts
    → UpdatesBy (λ p q. slice_cmp nat_cmp p.now q.now) (λ t. slice_cmp nat_cmp y.now t.now) texts more true
    → AreTexts (map (λ t. t.now) new) more
texts_pushed old new y texts more is are updates =
    let both = ap (map (λ (t : Bor (List ℕ)). t.now)) is ∙ map-append (λ (t : Bor (List ℕ)). t.now) old (y ∷ []) in
    subst (λ l. AreTexts l more) (sym both)
    (texts_more (map (λ t. t.now) old) y.now texts more are (λ q. updates.0 (record { ref_ptr = (0, 0); now = q })))
