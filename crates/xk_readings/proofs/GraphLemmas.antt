-- Edges that rise by where they begin.
use Rattle.std.proofs.Common.{◌≡◌, ◌∙◌, ℕ, ◌+◌, ◌-◌, ◌<◌, ◌≤◌, ◌⊎◌, inl, inr, Bool, true, false, ltb}
use Rattle.std.proofs.Common.{leb, List, length, get_or, take, drop, Some, None, refl, sym, ap, arith, slice_get}
use Rattle.std.specs.List.Sorted.{IsPermutation, IsPartitionPoint}
use Rattle.std.proofs.lemmas.Bool.{cases_lt, true≢false}
use Rattle.std.proofs.lemmas.Bool.Decides.{Decides-ltb, leb_tells}
use Rattle.std.proofs.lemmas.List.Sorted.{IsPermutation-sym}
use Rattle.std.proofs.lemmas.Option.{get_or_from_slice_get, slice_get_within}
use Rattle.xk_readings.specs.declared.edge.Edge.{Edge}
use Rattle.xk_readings.specs.Graphs.{AreFrom, HasEdge, HasSameEdges, graph}
use Rattle.xk_readings.proofs.ListLemmas.{drop_at, from_take, in_take, permuted, read}

-- the same edges in another order
pub same_edges : (edges sorted : List Edge) (ends kept : List Bool) → IsPermutation edges sorted → kept ≡ ends
    → HasSameEdges (graph edges ends) (graph sorted kept)
same_edges edges sorted ends kept moved same = record {
  there = λ e has. permuted edges sorted has.0 e moved has.1;
  back = λ e has. permuted sorted edges has.0 e (IsPermutation-sym edges sorted moved) has.1;
  ends = same;
}

module _ (edges : List Edge) (node start end : ℕ)
    (below : IsPartitionPoint (λ (e : Edge). ltb e.from node ≡ true) (λ (e : Edge). ltb e.from node ≡ false) edges start)
    (upto : IsPartitionPoint (λ (e : Edge). leb e.from node ≡ true) (λ (e : Edge). leb e.from node ≡ false) edges end) where
  -- those before the start begin at a lesser node
  lesser : (k : ℕ) (e : Edge) → slice_get edges k ≡ Some e → k < start → e.from < node
  lesser k e there less =
      let is = below.0 k e (omega arith) less in
      (Decides-ltb e.from node).0 (ap (λ (z : Edge). ltb z.from node) (sym (get_or_from_slice_get edges k e e there)) ∙ is)

  -- those from there on don't
  no_lesser : (k : ℕ) (e : Edge) → slice_get edges k ≡ Some e → start ≤ k → node ≤ e.from
  no_lesser k e there from = by (cases_lt e.from node)
    where
      is : ltb e.from node ≡ false
      is = ap (λ (z : Edge). ltb z.from node) (sym (get_or_from_slice_get edges k e e there))
          ∙ below.1 k e from (slice_get_within edges k e there)

      by : (e.from < node) ⊎ (node ≤ e.from) → node ≤ e.from
      by (inl less) = absurd (true≢false (sym ((Decides-ltb e.from node).1 less) ∙ is))
      by (inr most) = most

  -- those before the end begin at no greater node
  no_greater : (k : ℕ) (e : Edge) → slice_get edges k ≡ Some e → k < end → e.from ≤ node
  no_greater k e there less = by (leb_tells e.from node)
    where
      is : leb e.from node ≡ true
      is = ap (λ (z : Edge). leb z.from node) (sym (get_or_from_slice_get edges k e e there)) ∙ upto.0 k e (omega arith) less

      by : ((leb e.from node ≡ true) × (e.from ≤ node)) ⊎ ((leb e.from node ≡ false) × (node < e.from)) → e.from ≤ node
      by (inl most) = most.1
      by (inr more) = absurd (true≢false (sym is ∙ more.0))

  greater : (k : ℕ) (e : Edge) → slice_get edges k ≡ Some e → end ≤ k → node < e.from
  greater k e there from = by (leb_tells e.from node)
    where
      is : leb e.from node ≡ false
      is = ap (λ (z : Edge). leb z.from node) (sym (get_or_from_slice_get edges k e e there))
          ∙ upto.1 k e from (slice_get_within edges k e there)

      by : ((leb e.from node ≡ true) × (e.from ≤ node)) ⊎ ((leb e.from node ≡ false) × (node < e.from)) → node < e.from
      by (inl most) = absurd (true≢false (sym most.0 ∙ is))
      by (inr more) = more.1

  -- the start isn't behind the end
  pub in_range : start ≤ length edges → end ≤ length edges → start ≤ end
  in_range within most = by (cases_lt end start)
    where
      by : (end < start) ⊎ (start ≤ end) → start ≤ end
      by (inr less) = less
      by (inl over) =
          let nothing : Edge = record { from = 0; act = 0; printed = None; to = 0 } in
          let there = read edges end nothing (omega (arith, over, within)) in
          let less = lesser end (get_or edges end nothing) there over in
          let more = greater end (get_or edges end nothing) there (omega arith) in
          absurd (omega (arith, less, more))

  pub are_from : (ends : List Bool) → start ≤ end → AreFrom (graph edges ends) node (take (end - start) (drop start edges))
  are_from ends ordered = record {
    each = λ i e there.
        let first = from_take (end - start) (drop start edges) i e there in
        let less = first.0 in
        let at : slice_get edges (start + i) ≡ Some e = sym (drop_at start edges i (start + i) refl) ∙ first.1 in
        let most = no_greater (start + i) e at (omega (arith, less)) in
        let least = no_lesser (start + i) e at (omega arith) in
        ((start + i, at), omega (arith, most, least));
    all = λ e has from. within e has from;
  }
    where
      within : (e : Edge) → HasEdge (graph edges ends) e → e.from ≡ node
          → (i : ℕ) × (slice_get (take (end - start) (drop start edges)) i ≡ Some e)
      within e has from = by (cases_lt has.0 start) (cases_lt has.0 end)
        where
          by : (has.0 < start) ⊎ (start ≤ has.0) → (has.0 < end) ⊎ (end ≤ has.0)
              → (i : ℕ) × (slice_get (take (end - start) (drop start edges)) i ≡ Some e)
          by (inl less) other = let is = lesser has.0 e has.1 less in absurd (omega (arith, is, from))
          by (inr behind) (inr over) = let is = greater has.0 e has.1 over in absurd (omega (arith, is, from))
          by (inr behind) (inl before) =
              let place : has.0 ≡ start + (has.0 - start) = omega (arith, behind) in (
                has.0 - start,
                in_take (end - start) (drop start edges) (has.0 - start) e (omega (arith, behind, before))
                    (drop_at start edges (has.0 - start) has.0 place ∙ has.1),
              )
