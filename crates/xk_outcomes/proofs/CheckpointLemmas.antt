-- What is kept whole stays what it is.
use Rattle.std.proofs.Common.{◌≡◌, ◌∙◌, ℕ, ◌⊎◌, inl, inr, List, [], ◌∷◌, ◌++◌, length, Some, sym, ap, subst, slice_get}
use Rattle.std.proofs.lemmas.Option.{none-some}
use Rattle.xk_types.proofs.ListLemmas.{get-append_left as stays}
use Rattle.xk_readings.proofs.ListLemmas.{place}
use Rattle.xk_outcomes.specs.declared.checkpoint.Checkpoint.{Checkpoint}
use Rattle.xk_outcomes.specs.Checkpoints.{AreCheckpoints, IsCheckpoint}
use Rattle.xk_outcomes.specs.Found.{FoundValue}

-- where the first one alone is found, and kept
pub checkpoints_first : (x : FoundValue) (list : List Checkpoint) (c : Checkpoint) → list ≡ c ∷ [] → c.number ≡ 0
    → c.found ≡ x
    → AreCheckpoints (x ∷ []) list
checkpoints_first x list c alone begins is = record {
  first = c;
  there = ap (λ (l : List Checkpoint). slice_get l 0) alone;
  begins = begins;
  each = λ i d at. by i d (place [] c i d (subst (λ (l : List Checkpoint). slice_get l i ≡ Some d) alone at));
}
  where
    here : IsCheckpoint (x ∷ []) c
    here = ap (slice_get (x ∷ [])) begins ∙ ap Some (sym is)

    by : (i : ℕ) (d : Checkpoint) → (slice_get {X = Checkpoint} [] i ≡ Some d) ⊎ ((i ≡ 0) × (c ≡ d))
        → IsCheckpoint (x ∷ []) d
    by i d (inl a) = absurd (none-some d a)
    by i d (inr b) = subst (IsCheckpoint (x ∷ [])) b.1 here

-- where one more is found
pub checkpoints_grown : (old new : List FoundValue) (x : FoundValue) (list : List Checkpoint) → new ≡ old ++ x ∷ []
    → AreCheckpoints old list → AreCheckpoints new list
checkpoints_grown old new x list one were = record {
  first = were.first;
  there = were.there;
  begins = were.begins;
  each = λ i c at. subst (λ (l : List FoundValue). IsCheckpoint l c) (sym one) (stays old (x ∷ []) c.number c.found (were.each i c at));
}

-- where one more is kept
pub checkpoints_push : (all : List FoundValue) (list more : List Checkpoint) (c : Checkpoint) → more ≡ list ++ c ∷ []
    → IsCheckpoint all c
    → AreCheckpoints all list → AreCheckpoints all more
checkpoints_push all list more c one is were = record {
  first = were.first;
  there = subst (λ (l : List Checkpoint). slice_get l 0 ≡ Some were.first) (sym one) (stays list (c ∷ []) 0 were.first were.there);
  begins = were.begins;
  each = λ i d at. by i d (place list c i d (subst (λ (l : List Checkpoint). slice_get l i ≡ Some d) one at));
}
  where
    by : (i : ℕ) (d : Checkpoint) → (slice_get list i ≡ Some d) ⊎ ((i ≡ length list) × (c ≡ d)) → IsCheckpoint all d
    by i d (inl a) = were.each i d a
    by i d (inr b) = subst (IsCheckpoint all) b.1 is
