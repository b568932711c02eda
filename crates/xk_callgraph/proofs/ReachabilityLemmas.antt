-- A search for those that are reached from one, by marks and a list; and what is needed of lists for that.
use Rattle.std.proofs.Common.{◌≡◌, ◌≢◌, ℕ, zero, suc, ◌+◌, ◌<◌, ◌≤◌, ◌⊎◌, inl, inr, List, [], ◌∷◌, ◌++◌, length, set, slice_get, slice_index, Some, refl, sym, ap, subst, arith, get_or-set_other, get_or-set_same}
use Rattle.std.proofs.lemmas.Bool.{cases_eq}
use Rattle.std.proofs.lemmas.Option.{slice_get_within}
use Rattle.xk_callgraph.specs.CallGraph.{IsCall, Path, Reaches}
use Rattle.xk_callgraph.specs.TopologicalOrder.{IsSearch, MarksReached}

-- ---- lists

pub set_here : (xs : List ℕ) (i v : ℕ) → i < length xs → slice_index (set xs i v) i ≡ v
set_here xs i v h = get_or-set_same xs i v 0 h

pub set_other : (xs : List ℕ) (i v j : ℕ) → j ≢ i → slice_index (set xs i v) j ≡ slice_index xs j
set_other xs i v j ne = rw get_or-set_other refl

-- who isn't 0 is within
pub within_full : (xs : List ℕ) (i : ℕ) → 0 < slice_index xs i → i < length xs
within_full [] i h = absurd (omega arith)
within_full (x ∷ xs) zero h = omega arith
within_full (x ∷ xs) (suc i) h = let e = within_full xs i h in omega arith

pub get_front : (xs ys : List ℕ) (n m : ℕ) → slice_get xs n ≡ Some m → slice_get (xs ++ ys) n ≡ Some m
get_front [] ys n m e = absurd cc
get_front (x ∷ xs) ys zero m e = e
get_front (x ∷ xs) ys (suc n) m e = get_front xs ys n m e

pub get_last : (xs : List ℕ) (x : ℕ) → slice_get (xs ++ x ∷ []) (length xs) ≡ Some x
get_last [] x = refl
get_last (y ∷ xs) x = get_last xs x

pub get_pushed : (xs : List ℕ) (x n m : ℕ) → slice_get (xs ++ x ∷ []) n ≡ Some m → (slice_get xs n ≡ Some m) ⊎ ((n ≡ length xs) × (x ≡ m))
get_pushed [] x zero m e = inr (refl, cc)
get_pushed [] x (suc n) m e = absurd cc
get_pushed (y ∷ xs) x zero m e = inl e
get_pushed (y ∷ xs) x (suc n) m e =
    elim (get_pushed xs x n m e) [
      | inl old ↦ inl old
      | inr new ↦ inr (ap suc new.0, new.1)
    ]

-- ---- paths

-- a path comes to another method by a last call
pub last_call : (calls : List (List ℕ)) (ns : List ℕ) (i j : ℕ) → Path calls ns i j
    → (i ≡ j) ⊎ ((m : ℕ) × (k : ℕ) × Reaches calls i m × IsCall calls m k j)
last_call calls [] i j p = inl p
last_call calls (n ∷ ns) i j p =
    elim (last_call calls ns n j p.1) [
      | inl same ↦ inr (i, p.0.0, ([], refl), subst (λ x. IsCall calls i p.0.0 x) same p.0.1)
      | inr l ↦ inr (l.0, l.1, (n ∷ l.2.0, (p.0, l.2.1)), l.3)
    ]

-- what holds at the start and goes on along calls holds of all that are reached
all_along : (calls : List (List ℕ)) (P : ℕ → Type 0) → ((i k j : ℕ) → IsCall calls i k j → P i → P j) → (ns : List ℕ) (i j : ℕ) → Path calls ns i j → P i → P j
all_along calls P on [] i j p h = subst P p h
all_along calls P on (n ∷ ns) i j p h = all_along calls P on ns n j p.1 (on i p.0.0 n p.0.1 h)

-- ---- the search

pub search_more : (calls : List (List ℕ)) (start : ℕ) (seen reached : List ℕ) (done j : ℕ) → j < length seen → IsSearch calls start seen reached done → done ≤ length reached
    → Reaches calls start j → IsSearch calls start (set seen j 1) (reached ++ j ∷ []) done
search_more calls start seen reached done j h old le new = record {
  marked = λ n i e. elim (get_pushed reached j n i e) [
    | inl was ↦ keep i (old.marked n i was)
    | inr here ↦ subst (λ x. 0 < slice_index (set seen j 1) x) here.1 full
  ];
  listed = λ i m. elim (cases_eq i j) [
    | inl same ↦ (length reached, subst (λ x. slice_get (reached ++ j ∷ []) (length reached) ≡ Some x) (sym same) (get_last reached j))
    | inr other ↦ let w = old.listed i (back i other m) in (w.0, get_front reached (j ∷ []) w.0 i w.1)
  ];
  sound = λ i m. elim (cases_eq i j) [
    | inl same ↦ subst (λ x. Reaches calls start x) (sym same) new
    | inr other ↦ old.sound i (back i other m)
  ];
  closed = λ n i k m below e call. elim (get_pushed reached j n i e) [
    | inl was ↦ keep m (old.closed n i k m below was call)
    | inr here ↦ let at = here.0 in absurd (omega arith)
  ];
}
  where
    full : 0 < slice_index (set seen j 1) j
    full = let e = set_here seen j 1 h in omega arith

    back : (i : ℕ) → i ≢ j → 0 < slice_index (set seen j 1) i → 0 < slice_index seen i
    back i ne m = let e = set_other seen j 1 i ne in omega arith

    keep : (i : ℕ) → 0 < slice_index seen i → 0 < slice_index (set seen j 1) i
    keep i m = elim (cases_eq i j) [
      | inl same ↦ subst (λ x. 0 < slice_index (set seen j 1) x) (sym same) full
      | inr other ↦ let e = set_other seen j 1 i other in omega arith
    ]

pub search_done : (calls : List (List ℕ)) (start : ℕ) (seen reached : List ℕ) (done i : ℕ) → IsSearch calls start seen reached done → slice_get reached done ≡ Some i
    → ((k j : ℕ) → IsCall calls i k j → 0 < slice_index seen j) → IsSearch calls start seen reached (done + 1)
search_done calls start seen reached done i old here marked = record {
  marked = old.marked;
  listed = old.listed;
  sound = old.sound;
  closed = λ n m k j below e call. elim (cases_eq n done) [
    | inl same ↦
        let this : i ≡ m = go n m same e in
        marked k j (subst (λ x. IsCall calls x k j) (sym this) call)
    | inr other ↦ old.closed n m k j (omega arith) e call
  ];
}
  where
    go : (n m : ℕ) → n ≡ done → slice_get reached n ≡ Some m → i ≡ m
    go n m same e = let f = ap (slice_get reached) same in cc

pub search_all : (calls : List (List ℕ)) (start : ℕ) (seen reached : List ℕ) (done : ℕ) → IsSearch calls start seen reached done → length reached ≤ done
    → 0 < slice_index seen start → MarksReached calls start seen
search_all calls start seen reached done old all first = record {
  sound = old.sound;
  complete = λ j r. all_along calls (λ i. 0 < slice_index seen i) on r.0 start j r.1 first;
}
  where
    on : (i k j : ℕ) → IsCall calls i k j → 0 < slice_index seen i → 0 < slice_index seen j
    on i k j call m =
        let w = old.listed i m in
        let b = slice_get_within reached w.0 i w.1 in
        old.closed w.0 i k j (omega arith) w.1 call

pub search_none : (calls : List (List ℕ)) (start : ℕ) (seen : List ℕ) → ((j : ℕ) → slice_index seen j ≡ 0) → IsSearch calls start seen [] 0
search_none calls start seen fresh = record {
  marked = λ n j e. absurd cc;
  listed = λ j m. let e = fresh j in absurd (omega arith);
  sound = λ j m. let e = fresh j in absurd (omega arith);
  closed = λ n i k j below e call. absurd (omega arith);
}
