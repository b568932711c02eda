-- How many calls of a method those make that are left, and the set of those that wait for none.
use Rattle.std.proofs.Common.{◌≡◌, ◌≢◌, ℕ, zero, suc, ◌+◌, ◌-◌, ◌<◌, ◌≤◌, inl, inr, Bool, true, false, cond, nat_eq, nat_lt, List, [], ◌∷◌, length, set, slice_get, slice_index, Some, IsTrue, refl, sym, ap, ◌∙◌, subst, arith, ne_eqb, eq-eqb, add-one}
use Rattle.std.proofs.lemmas.Bool.{cases_eq, cases_lt}
use Rattle.std.proofs.lemmas.Option.{slice_get_within}
use Rattle.std.specs.BTreeSet.{BTreeSet, contains, Updates}
use Rattle.std.specs.BTreeMap.{is_at}
use Rattle.std.specs.List.{list_any}
use Rattle.std.specs.Ordering.{nat_cmp, is_eq}
use Rattle.std.specs.declared.cmp.Ordering.TheVariants.{Less, Equal, Greater}
use Rattle.xk_callgraph.specs.CallGraph.{called_by, IsCall}
use Rattle.xk_callgraph.specs.TopologicalOrder.{times, pending, AreReady}
use Rattle.xk_callgraph.proofs.NumberingLemmas.{here_is, awaited_at}
use Rattle.xk_callgraph.proofs.ReachabilityLemmas.{set_here, set_other, within_full}

-- ---- how often a number stands in a list

times_some : (n : ℕ) (js : List ℕ) (k j : ℕ) → k < n → slice_index js k ≡ j → 0 < times n js j
times_some zero js k j h e = absurd (omega arith)
times_some (suc n) js k j h e =
    elim (cases_eq k n) [
      | inl same ↦
          let here : slice_index js n ≡ j = ap (slice_index js) (sym same) ∙ e in
          go (nat_eq (slice_index js n) j) (eq-eqb (slice_index js n) j here)
      | inr other ↦ let r = times_some n js k j (omega arith) e in omega arith
    ]
  where
    go : (b : Bool) → b ≡ true → 0 < cond b 1 0 + times n js j
    go true e = omega arith
    go false e = absurd cc

times_who : (n : ℕ) (js : List ℕ) (j : ℕ) → 0 < times n js j → (k : ℕ) × (k < n) × (slice_index js k ≡ j)
times_who zero js j h = absurd (omega arith)
times_who (suc n) js j h =
    elim (cases_eq (slice_index js n) j) [
      | inl same ↦ (n, omega arith, same)
      | inr other ↦
          let r = times_who n js j (go (nat_eq (slice_index js n) j) (ne_eqb (slice_index js n) j other) h) in
          (r.0, (let b = r.1 in omega arith), r.2)
    ]
  where
    go : (b : Bool) → b ≡ false → 0 < cond b 1 0 + times n js j → 0 < times n js j
    go true e p = absurd cc
    go false e p = omega arith

-- a list has what is counted in it
times_in : (js : List ℕ) (j : ℕ) → 0 < times (length js) js j → (k : ℕ) × (slice_get js k ≡ Some j)
times_in js j h =
    let w = times_who (length js) js j h in
    (w.0, here_is js w.0 w.1 ∙ ap Some w.2)

times_has : (js : List ℕ) (k j : ℕ) → slice_get js k ≡ Some j → 0 < times (length js) js j
times_has js k j e = times_some (length js) js k j (slice_get_within js k j e) (awaited_at js k j e)

times_suc_here : (n : ℕ) (js : List ℕ) (j : ℕ) → slice_index js n ≡ j → times (suc n) js j ≡ times n js j + 1
times_suc_here n js j same = go (nat_eq (slice_index js n) j) (eq-eqb (slice_index js n) j same)
  where
    go : (b : Bool) → b ≡ true → cond b 1 0 + times n js j ≡ times n js j + 1
    go true e = omega arith
    go false e = absurd cc

times_suc_other : (n : ℕ) (js : List ℕ) (j : ℕ) → slice_index js n ≢ j → times (suc n) js j ≡ times n js j
times_suc_other n js j other = go (nat_eq (slice_index js n) j) (ne_eqb (slice_index js n) j other)
  where
    go : (b : Bool) → b ≡ false → cond b 1 0 + times n js j ≡ times n js j
    go true e = absurd cc
    go false e = omega arith

times_here : (n : ℕ) (js : List ℕ) (j : ℕ) → slice_index js n ≡ j → times (n + 1) js j ≡ times n js j + 1
times_here n js j same = rw add-one (times_suc_here n js j same)

times_other : (n : ℕ) (js : List ℕ) (j : ℕ) → slice_index js n ≢ j → times (n + 1) js j ≡ times n js j
times_other n js j other = rw add-one (times_suc_other n js j other)

-- one that is still to come is counted in the whole
pub times_below : (n : ℕ) (js : List ℕ) (k j : ℕ) → k < n → slice_index js k ≡ j → times k js j < times n js j
times_below zero js k j h e = absurd (omega arith)
times_below (suc n) js k j h e =
    elim (cases_eq k n) [
      | inl same ↦
          let t = times_suc_here n js j (ap (slice_index js) (sym same) ∙ e) in
          let u = ap (λ m. times m js j) same in
          omega arith
      | inr other ↦
          let r = times_below n js k j (omega arith) e in
          elim (cases_eq (slice_index js n) j) [
            | inl this ↦ let t = times_suc_here n js j this in omega arith
            | inr that ↦ let t = times_suc_other n js j that in omega arith
          ]
    ]

-- ---- how many calls of a method those make that are left

pub times_at_most : (n : ℕ) (js : List ℕ) (j : ℕ) → times n js j ≤ n
times_at_most zero js j = omega arith
times_at_most (suc n) js j = go (nat_eq (slice_index js n) j) (times_at_most n js j)
  where
    go : (b : Bool) → times n js j ≤ n → cond b 1 0 + times n js j ≤ suc n
    go true h = omega arith
    go false h = omega arith

pub pending_some : (n : ℕ) (calls : List (List ℕ)) (left : List ℕ) (i k j : ℕ) → i < n → 0 < slice_index left i → IsCall calls i k j → 0 < pending n calls left j
pending_some zero calls left i k j h full call = absurd (omega arith)
pending_some (suc n) calls left i k j h full call =
    elim (cases_eq i n) [
      | inl same ↦
          let here : IsCall calls n k j = subst (λ m. IsCall calls m k j) same call in
          let t = times_has (called_by calls n) k j here in
          let f : slice_index left n ≢ 0 = λ z. let e = ap (slice_index left) same in absurd (omega arith) in
          go (nat_eq (slice_index left n) 0) (ne_eqb (slice_index left n) 0 f) t
      | inr other ↦ let r = pending_some n calls left i k j (omega arith) full call in omega arith
    ]
  where
    go : (b : Bool) → b ≡ false → 0 < times (length (called_by calls n)) (called_by calls n) j
        → 0 < cond b 0 (times (length (called_by calls n)) (called_by calls n) j) + pending n calls left j
    go true e t = absurd cc
    go false e t = omega arith

pub pending_who : (n : ℕ) (calls : List (List ℕ)) (left : List ℕ) (j : ℕ) → 0 < pending n calls left j
    → (i : ℕ) × (0 < slice_index left i) × ((k : ℕ) × IsCall calls i k j)
pending_who zero calls left j h = absurd (omega arith)
pending_who (suc n) calls left j h =
    elim (cases_lt 0 (pending n calls left j)) [
      | inl rest ↦ pending_who n calls left j rest
      | inr none ↦
          elim (cases_eq (slice_index left n) 0) [
            | inl gone ↦ absurd (empty (nat_eq (slice_index left n) 0) (eq-eqb (slice_index left n) 0 gone) none h)
            | inr there ↦ (n, omega arith, times_in (called_by calls n) j (here (nat_eq (slice_index left n) 0) (ne_eqb (slice_index left n) 0 there) none h))
          ]
    ]
  where
    empty : (b : Bool) → b ≡ true → pending n calls left j ≤ 0 → 0 < cond b 0 (times (length (called_by calls n)) (called_by calls n) j) + pending n calls left j → ⊥
    empty true e z p = omega arith
    empty false e z p = absurd cc

    here : (b : Bool) → b ≡ false → pending n calls left j ≤ 0 → 0 < cond b 0 (times (length (called_by calls n)) (called_by calls n) j) + pending n calls left j
        → 0 < times (length (called_by calls n)) (called_by calls n) j
    here true e z p = absurd cc
    here false e z p = omega arith

-- one more is looked at
pub pending_on : (n : ℕ) (calls : List (List ℕ)) (left : List ℕ) (j : ℕ) → slice_index left n ≢ 0
    → pending (n + 1) calls left j ≡ times (length (called_by calls n)) (called_by calls n) j + pending n calls left j
pending_on n calls left j there = rw add-one (go (nat_eq (slice_index left n) 0) (ne_eqb (slice_index left n) 0 there))
  where
    go : (b : Bool) → b ≡ false → cond b 0 (times (length (called_by calls n)) (called_by calls n) j) + pending n calls left j
        ≡ times (length (called_by calls n)) (called_by calls n) j + pending n calls left j
    go true e = absurd cc
    go false e = refl

pub pending_off : (n : ℕ) (calls : List (List ℕ)) (left : List ℕ) (j : ℕ) → slice_index left n ≡ 0 → pending (n + 1) calls left j ≡ pending n calls left j
pending_off n calls left j gone = rw add-one (go (nat_eq (slice_index left n) 0) (eq-eqb (slice_index left n) 0 gone))
  where
    go : (b : Bool) → b ≡ true → cond b 0 (times (length (called_by calls n)) (called_by calls n) j) + pending n calls left j ≡ pending n calls left j
    go true e = omega arith
    go false e = absurd cc

-- who is behind the first n makes no difference
pending_same : (n : ℕ) (calls : List (List ℕ)) (left : List ℕ) (i j : ℕ) → n ≤ i → pending n calls (set left i 0) j ≡ pending n calls left j
pending_same zero calls left i j h = refl
pending_same (suc n) calls left i j h =
    let ne : n ≢ i = λ e. absurd (omega arith) in
    let r = pending_same n calls left i j (omega arith) in
    let s = set_other left i 0 n ne in
    go (slice_index (set left i 0) n) (slice_index left n) (pending n calls (set left i 0) j) (pending n calls left j) s r
  where
    go : (a b p q : ℕ) → a ≡ b → p ≡ q
        → cond (nat_eq a 0) 0 (times (length (called_by calls n)) (called_by calls n) j) + p ≡ cond (nat_eq b 0) 0 (times (length (called_by calls n)) (called_by calls n) j) + q
    go a b p q e f = cc

-- one that isn't left any more takes its calls off
pub pending_less : (n : ℕ) (calls : List (List ℕ)) (left : List ℕ) (i j : ℕ) → i < n → 0 < slice_index left i
    → pending n calls (set left i 0) j + times (length (called_by calls i)) (called_by calls i) j ≡ pending n calls left j
pending_less zero calls left i j h full = absurd (omega arith)
pending_less (suc n) calls left i j h full =
    elim (cases_eq n i) [
      | inl same ↦
          let zero : slice_index (set left i 0) n ≡ 0 = ap (slice_index (set left i 0)) same ∙ set_here left i 0 (within_full left i full) in
          let was : slice_index left n ≢ 0 = λ z. let e = ap (slice_index left) same in absurd (omega arith) in
          let r = pending_same n calls left i j (omega arith) in
          let t = ap (λ m. times (length (called_by calls m)) (called_by calls m) j) same in
          here (nat_eq (slice_index (set left i 0) n) 0) (nat_eq (slice_index left n) 0) (times (length (called_by calls n)) (called_by calls n) j)
          (times (length (called_by calls i)) (called_by calls i) j) (pending n calls (set left i 0) j) (pending n calls left j)
          (eq-eqb (slice_index (set left i 0) n) 0 zero) (ne_eqb (slice_index left n) 0 was) t r
      | inr other ↦
          let s = set_other left i 0 n other in
          let r = pending_less n calls left i j (omega arith) full in
          there (nat_eq (slice_index (set left i 0) n) 0) (nat_eq (slice_index left n) 0) (times (length (called_by calls n)) (called_by calls n) j)
          (times (length (called_by calls i)) (called_by calls i) j) (pending n calls (set left i 0) j) (pending n calls left j)
          (ap (λ x. nat_eq x 0) s) r
    ]
  where
    here : (a b : Bool) (t u p q : ℕ) → a ≡ true → b ≡ false → t ≡ u → p ≡ q → cond a 0 t + p + u ≡ cond b 0 t + q
    here true false t u p q d e f g = omega arith
    here false b t u p q d e f g = absurd cc
    here true true t u p q d e f g = absurd cc

    there : (a b : Bool) (t u p q : ℕ) → a ≡ b → p + u ≡ q → cond a 0 t + p + u ≡ cond b 0 t + q
    there true true t u p q d e = omega arith
    there false false t u p q d e = omega arith
    there true false t u p q d e = absurd cc
    there false true t u p q d e = absurd cc

-- ---- a set of numbers

at_other : (k q : ℕ) → q ≢ k → is_at (nat_cmp k) q ≡ false
at_other k q ne = go (nat_lt k q) (nat_eq k q) (ne_eqb k q (λ e. ne (sym e)))
  where
    go : (a b : Bool) → b ≡ false → is_eq (cond a Less (cond b Equal Greater)) ≡ false
    go true b e = refl
    go false false e = refl
    go false true e = absurd cc

kept : (s n : BTreeSet ℕ) (k : ℕ) (b : Bool) → Updates nat_cmp s n k b → (q : ℕ) → q ≢ k → contains nat_cmp n q ≡ contains nat_cmp s q
kept s n k b u q ne = u.2 q (at_other k q ne)

-- ---- the counts and the set, as calls are taken off

pub taken_off : (awaited old called : List ℕ) (k : ℕ) → slice_index called k < length awaited → 0 < slice_index awaited (slice_index called k)
    → ((j : ℕ) → slice_index awaited j + times k called j ≡ slice_index old j)
    → (j : ℕ) → slice_index (set awaited (slice_index called k) (slice_index awaited (slice_index called k) - 1)) j + times (k + 1) called j ≡ slice_index old j
taken_off awaited old called k h full counts j =
    let i = slice_index called k in
    let v = slice_index awaited i - 1 in
    let c = counts j in
    elim (cases_eq j i) [
      | inl same ↦
          let new : slice_index (set awaited i v) j ≡ v = ap (slice_index (set awaited i v)) same ∙ set_here awaited i v h in
          let was : slice_index awaited j ≡ slice_index awaited i = ap (slice_index awaited) same in
          let t = times_here k called j (sym same) in
          omega arith
      | inr other ↦
          let new = set_other awaited i v j other in
          let t = times_other k called j (λ e. other (sym e)) in
          omega arith
    ]

-- one becomes ready
pub ready_more : (left awaited next : List ℕ) (s n : BTreeSet ℕ) (i : ℕ) → AreReady left awaited s → Updates nat_cmp s n i true → 0 < slice_index left i
    → slice_index next i ≡ 0 → ((j : ℕ) → j ≢ i → slice_index next j ≡ slice_index awaited j) → AreReady left next n
ready_more left awaited next s n i old u there free same = record {
  unplaced = λ j m. elim (cases_eq j i) [
    | inl e ↦ subst (λ x. 0 < slice_index left x) (sym e) there
    | inr ne ↦ old.unplaced j (sym (kept s n i true u j ne) ∙ m)
  ];
  free = λ j m. elim (cases_eq j i) [
    | inl e ↦ ap (slice_index next) e ∙ free
    | inr ne ↦ same j ne ∙ old.free j (sym (kept s n i true u j ne) ∙ m)
  ];
  all = λ j m z. elim (cases_eq j i) [
    | inl e ↦ subst (λ x. IsTrue (contains nat_cmp n x)) (sym e) u.1
    | inr ne ↦ kept s n i true u j ne ∙ old.all j m (sym (same j ne) ∙ z)
  ];
}

-- one still waits
pub ready_same : (left awaited next : List ℕ) (s : BTreeSet ℕ) (i : ℕ) → AreReady left awaited s → 0 < slice_index awaited i
    → slice_index next i ≢ 0 → ((j : ℕ) → j ≢ i → slice_index next j ≡ slice_index awaited j) → AreReady left next s
ready_same left awaited next s i old full still same = record {
  unplaced = old.unplaced;
  free = λ j m. elim (cases_eq j i) [
    | inl e ↦ let z = old.free j m in let f = ap (slice_index awaited) e in absurd (omega arith)
    | inr ne ↦ same j ne ∙ old.free j m
  ];
  all = λ j m z. elim (cases_eq j i) [
    | inl e ↦ absurd (still (sym (ap (slice_index next) e) ∙ z))
    | inr ne ↦ old.all j m (sym (same j ne) ∙ z)
  ];
}

-- one gets its place
pub not_in_empty : (s : BTreeSet ℕ) (j : ℕ) → s.keys ≡ [] → IsTrue (contains nat_cmp s j) → ⊥
not_in_empty s j e m = let f : contains nat_cmp s j ≡ false = ap (list_any (is_at (nat_cmp j))) e in cc

pub no_keys : (ks : List ℕ) → (0 < length ks → false ≡ true) → ks ≡ []
no_keys [] h = refl
no_keys (x ∷ ks) h = let e = h (omega arith) in absurd cc

-- none but one waits for no call, and that one gets its place
pub ready_none : (left awaited : List ℕ) (s : BTreeSet ℕ) (i : ℕ) → s.keys ≡ [] → i < length left → ((j : ℕ) → 0 < slice_index left j → slice_index awaited j ≡ 0 → i ≡ j)
    → AreReady (set left i 0) awaited s
ready_none left awaited s i e h only = record {
  unplaced = λ j m. absurd (not_in_empty s j e m);
  free = λ j m. absurd (not_in_empty s j e m);
  all = λ j m z. elim (cases_eq j i) [
    | inl same ↦ let k = set_here left i 0 h in let f = ap (slice_index (set left i 0)) same in absurd (omega arith)
    | inr ne ↦ let k = set_other left i 0 j ne in absurd (ne (sym (only j (omega arith) z)))
  ];
}
