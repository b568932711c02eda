-- Which nodes are marked as those from which a reading goes out.
use Rattle.std.proofs.Common.{◌≡◌, ◌∙◌, ℕ, ℤ, zero, suc, ◌+◌, ◌<◌, ◌≤◌, ◌⊎◌, inl, inr, Bool, true, false, cond, not}
use Rattle.std.proofs.Common.{eqb, List, [], ◌∷◌, ◌++◌, length, get_or, set, Some, None, refl, sym, ap, subst, arith, slice_get}
use Rattle.std.specs.Prelude.{count_by}
use Rattle.std.specs.Option.{option_to_list}
use Rattle.std.proofs.lemmas.Bool.{cases_lt, true≢false}
use Rattle.std.proofs.lemmas.Bool.Decides.{eqb_tells}
use Rattle.std.proofs.lemmas.List.Sums.{sum_by-set}
use Rattle.std.proofs.lemmas.Option.{get_or_from_slice_get, same_Some, slice_get_within}
use Rattle.xk_readings.specs.declared.edge.Edge.{Edge}
use Rattle.xk_readings.specs.Graphs.{GraphValue, HasEdge, IsWithin, graph}
use Rattle.xk_readings.specs.Readings.{Reads}
use Rattle.xk_readings.specs.Useful.{AreReadable, IsFollowed, IsMarked, IsReadable}
use Rattle.xk_types.proofs.ListLemmas.{get-append_left as stays, get_once as same_at, get_push as at_end}
use Rattle.xk_readings.proofs.ListLemmas.{place, set_other, set_same}

-- what stands for an edge that isn't there
abbrev pub no_edge : Edge
no_edge = record { from = 0; act = 0; printed = None; to = 0 }

-- a reading goes out from where an edge begins, if one does from where it ends
readable_before : (g : GraphValue) (e : Edge) → HasEdge g e → IsReadable g e.to → IsReadable g e.from
readable_before g e has r = (suc r.0, e.act ∷ r.1, option_to_list e.printed ++ r.2, (e, has, refl, r.1, r.2, r.3, refl, refl))

module _ (g : GraphValue) (e : Edge) (old new : List Bool) where
  pub marked_readable : (more : Bool) → IsMarked e old new more → HasEdge g e → AreReadable g old → AreReadable g new
  marked_readable true m has are k there = by (eqb_tells e.from k)
    where
      by : ((eqb e.from k ≡ true) × (e.from ≡ k)) ⊎ ((eqb e.from k ≡ false) × (e.from ≡ k → ⊥)) → IsReadable g k
      by (inl same) = subst (IsReadable g) same.1 (readable_before g e has (are e.to m.0))
      by (inr other) = are k (sym (set_other old e.from k true other.1) ∙ ap (λ (l : List Bool). slice_get l k) (sym m.2) ∙ there)
  marked_readable false m has are k there = are k (ap (λ (l : List Bool). slice_get l k) (sym m.0) ∙ there)

  pub marked_kept : (more : Bool) → IsMarked e old new more → (k : ℕ) → slice_get old k ≡ Some true → slice_get new k ≡ Some true
  marked_kept true m k there = ap (λ (l : List Bool). slice_get l k) m.2 ∙ by (eqb_tells e.from k)
    where
      by : ((eqb e.from k ≡ true) × (e.from ≡ k)) ⊎ ((eqb e.from k ≡ false) × (e.from ≡ k → ⊥))
          → slice_get (set old e.from true) k ≡ Some true
      by (inl same) = ap (slice_get (set old e.from true)) (sym same.1) ∙ set_same old e.from true false m.1
      by (inr other) = set_other old e.from k true other.1 ∙ there
  marked_kept false m k there = ap (λ (l : List Bool). slice_get l k) m.0 ∙ there

  pub marked_fewer : IsMarked e old new true → count_by not new < count_by not old
  marked_fewer m =
      let inside = slice_get_within old e.from false m.1 in
      let was : get_or old e.from true ≡ false = get_or_from_slice_get old e.from false true m.1 in
      let one = sum_by-set (λ (b : Bool). cond (not b) 1 0) old e.from true true inside in
      let one' = subst (λ (b : Bool). count_by not (set old e.from true) + cond (not b) 1 0 ≡ count_by not old + 0) was one in
      subst (λ (l : List Bool). count_by not l < count_by not old) (sym m.2) (omega (arith, one'))

-- marked are all from which a reading goes out, if all edges were followed
pub all_marked : (g : GraphValue) (useful : List Bool) → IsFollowed g.edges useful
    → ((k : ℕ) → slice_get g.ends k ≡ Some true → slice_get useful k ≡ Some true)
    → (n k : ℕ) (acts : List ℕ) (numbers : List ℤ) → Reads g n k acts numbers → slice_get useful k ≡ Some true
all_marked g useful followed ends zero k acts numbers r = ends k r.0
all_marked g useful followed ends (suc n) k acts numbers r =
    let e = r.0 in
    let to = all_marked g useful followed ends n e.to r.3 r.4 r.5 in
    ap (slice_get useful) (sym r.2) ∙ followed r.1.0 e r.1.1 to

-- a node from which a reading goes out is one of the graph
pub readable_within : (g : GraphValue) → IsWithin g → (n k : ℕ) (acts : List ℕ) (numbers : List ℤ) → Reads g n k acts numbers
    → k < length g.ends
readable_within g within zero k acts numbers r = slice_get_within g.ends k true r.0
readable_within g within (suc n) k acts numbers r = subst (λ m. m < length g.ends) r.2 (within r.0 r.1).0

-- an edge that stands there is within the graph
pub edge_within : (edges : List Edge) (ends : List Bool) (k : ℕ) (e : Edge) → IsWithin (graph edges ends) → slice_get edges k ≡ Some e
    → (e.from < length ends) × (e.to < length ends)
edge_within edges ends k e within there = within e (k, there)

-- one edge more that was followed
pub followed_more : (edges : List Edge) (at : ℕ) (e : Edge) (old new : List Bool) → IsMarked e old new false → slice_get edges at ≡ Some e
    → ((j : ℕ) (f : Edge) → suc at ≤ j → slice_get edges j ≡ Some f → slice_get old f.to ≡ Some true → slice_get old f.from ≡ Some true)
    → (j : ℕ) (f : Edge) → at ≤ j → slice_get edges j ≡ Some f → slice_get new f.to ≡ Some true → slice_get new f.from ≡ Some true
followed_more edges at e old new m there all j f from here to = by (cases_lt j (suc at))
  where
    was : (k : ℕ) → slice_get new k ≡ slice_get old k
    was k = ap (λ (l : List Bool). slice_get l k) m.0

    this : (f' : Edge) → e ≡ f' → slice_get new f'.to ≡ Some true → slice_get new f'.from ≡ Some true
    this f' same = subst (λ (z : Edge). slice_get new z.to ≡ Some true
        → slice_get new z.from ≡ Some true) same (λ to'. was e.from ∙ m.1 (sym (was e.to) ∙ to'))

    by : (j < suc at) ⊎ (suc at ≤ j) → slice_get new f.from ≡ Some true
    by (inl less) = (let same : at ≡ j = omega (arith, less, from) in this f
        (same_at edges j e f (ap (slice_get edges) (sym same) ∙ there) here) to)
    by (inr later) = was f.from ∙ all j f later here (sym (was f.to) ∙ to)

-- ---- the edges that are kept

module _ (edges : List Edge) (useful : List Bool) (kept more : List Edge) (n : ℕ) (e : Edge) (there : slice_get edges n ≡ Some e) where
  pub each_kept : more ≡ kept ++ e ∷ [] → slice_get useful e.to ≡ Some true
      → ((i : ℕ) (f : Edge) → slice_get kept i ≡ Some f → ((j : ℕ) × (slice_get edges j ≡ Some f)) × (slice_get useful f.to ≡ Some true))
      → (i : ℕ) (f : Edge) → slice_get more i ≡ Some f → ((j : ℕ) × (slice_get edges j ≡ Some f)) × (slice_get useful f.to ≡ Some true)
  each_kept one marked all i f at = by (place kept e i f (ap (λ (l : List Edge). slice_get l i) (sym one) ∙ at))
    where
      by : (slice_get kept i ≡ Some f) ⊎ ((i ≡ length kept) × (e ≡ f))
          → ((j : ℕ) × (slice_get edges j ≡ Some f)) × (slice_get useful f.to ≡ Some true)
      by (inl known) = all i f known
      by (inr last) = subst (λ (z : Edge). ((j : ℕ) × (slice_get edges j ≡ Some z))
          × (slice_get useful z.to ≡ Some true)) last.1 ((n, there), marked)

  pub all_kept : more ≡ kept ++ e ∷ []
      → ((j : ℕ) (f : Edge) → j < n → slice_get edges j ≡ Some f → slice_get useful f.to ≡ Some true
      → (i : ℕ) × (slice_get kept i ≡ Some f))
      → (j : ℕ) (f : Edge) → j < n + 1 → slice_get edges j ≡ Some f → slice_get useful f.to ≡ Some true
      → (i : ℕ) × (slice_get more i ≡ Some f)
  all_kept one all j f less at marked = by (cases_lt j n)
    where
      by : (j < n) ⊎ (n ≤ j) → (i : ℕ) × (slice_get more i ≡ Some f)
      by (inl before) = (let was = all j f before at marked in (
        was.0,
        ap (λ (l : List Edge). slice_get l was.0) one
            ∙ stays kept (e ∷ []) was.0 f was.1,
      ))
      by (inr after) =
          let same : n ≡ j = omega (arith, less, after) in
          let is = same_at edges j e f (ap (slice_get edges) (sym same) ∙ there) at in
          (length kept, ap (λ (l : List Edge). slice_get l (length kept)) one ∙ at_end kept e ∙ ap Some is)

  pub all_dropped : slice_get useful e.to ≡ Some false
      → ((j : ℕ) (f : Edge) → j < n → slice_get edges j ≡ Some f → slice_get useful f.to ≡ Some true
      → (i : ℕ) × (slice_get kept i ≡ Some f))
      → (j : ℕ) (f : Edge) → j < n + 1 → slice_get edges j ≡ Some f → slice_get useful f.to ≡ Some true
      → (i : ℕ) × (slice_get kept i ≡ Some f)
  all_dropped unmarked all j f less at marked = by (cases_lt j n)
    where
      by : (j < n) ⊎ (n ≤ j) → (i : ℕ) × (slice_get kept i ≡ Some f)
      by (inl before) = all j f before at marked
      by (inr after) =
          let same : n ≡ j = omega (arith, less, after) in
          let is = same_at edges j e f (ap (slice_get edges) (sym same) ∙ there) at in
          absurd (true≢false (same_Some true false (sym marked ∙ ap (λ (z : Edge). slice_get useful z.to) (sym is) ∙ unmarked)))
