-- The edges that lead to where a reading goes out have the same readings as all edges.
use Rattle.std.proofs.Common.{◌≡◌, ◌∙◌, ℕ, ℤ, zero, suc, ◌∷◌, ◌++◌, ◌<◌, Bool, List, length, refl, sym, ap, subst, slice_get}
use Rattle.std.specs.Option.{option_to_list}
use Rattle.xk_readings.specs.declared.edge.Edge.{Edge}
use Rattle.xk_readings.specs.declared.listing.Reading.{Reading}
use Rattle.xk_readings.specs.Graphs.{GraphValue, HasEdge, HasSameEdges, IsWithin, graph}
use Rattle.xk_readings.specs.Readings.{AreAllListed, AreShown, IsLongest, Reads}
use Rattle.xk_readings.specs.Counts.{AreAsMany, AreAtLeast, AreReadOnce}
use Rattle.xk_readings.specs.Rising.{AreFirst}
use Rattle.xk_readings.specs.Useful.{AreKept, AreUseful, IsReadable}
use Rattle.xk_readings.specs.Closures.{AreTrim}
use Rattle.xk_readings.specs.Beginnings.{HasMoreSets, IsBehind, LeadAlike, ReadsTo}

-- a graph with those edges alone
pub record IsTrimmed (g h : GraphValue) : Type 0 where
  pub each : (e : Edge) → HasEdge h e → HasEdge g e × IsReadable g e.to
  pub all : (e : Edge) → HasEdge g e → IsReadable g e.to → HasEdge h e
  pub ends : h.ends ≡ g.ends

pub trimmed : (edges kept : List Edge) (ends useful : List Bool) (h : GraphValue) → AreUseful (graph edges ends) useful
    → AreKept edges useful kept → HasSameEdges (graph kept ends) h
    → IsTrimmed (graph edges ends) h
trimmed edges kept ends useful h are left same = record {
  each = λ e has.
      let back = same.back e has in
      let is = left.each back.0 e back.1 in
      (is.0, are.readable e.to is.1);
  all = λ e has readable. same.there e (left.all has.0 e has.1 (are.marked e.to readable));
  ends = same.ends;
}

reads_whole : (g h : GraphValue) → IsTrimmed g h → (n k : ℕ) (acts : List ℕ) (numbers : List ℤ) → Reads h n k acts numbers
    → Reads g n k acts numbers
reads_whole g h is zero k acts numbers r = (ap (λ (l : List Bool). slice_get l k) (sym is.ends) ∙ r.0, r.1, r.2)
reads_whole g h is (suc n) k acts numbers r = (r.0, (is.each r.0 r.1).0, r.2, r.3, r.4, reads_whole g h is n r.0.to r.3 r.4 r.5, r.6, r.7)

reads_trimmed : (g h : GraphValue) → IsTrimmed g h → (n k : ℕ) (acts : List ℕ) (numbers : List ℤ) → Reads g n k acts numbers
    → Reads h n k acts numbers
reads_trimmed g h is zero k acts numbers r = (ap (λ (l : List Bool). slice_get l k) is.ends ∙ r.0, r.1, r.2)
reads_trimmed g h is (suc n) k acts numbers r =
    (r.0, is.all r.0 r.1 (n, r.3, r.4, r.5), r.2, r.3, r.4, reads_trimmed g h is n r.0.to r.3 r.4 r.5, r.6, r.7)

read_to_whole : (g h : GraphValue) → IsTrimmed g h → (n k : ℕ) (numbers : List ℤ) → ReadsTo h n numbers k → ReadsTo g n numbers k
read_to_whole g h is zero k numbers r = r
read_to_whole g h is (suc n) k numbers r = (r.0, (is.each r.0 r.1).0, r.2, r.3, read_to_whole g h is n r.0.from r.3 r.4, r.5)

read_to_trimmed : (g h : GraphValue) → IsTrimmed g h → (n k : ℕ) (numbers : List ℤ) → ReadsTo g n numbers k → IsReadable g k
    → ReadsTo h n numbers k
read_to_trimmed g h is zero k numbers r on = r
read_to_trimmed g h is (suc n) k numbers r on =
    let e = r.0 in
    let to = subst (IsReadable g) (sym r.2) on in
    let from : IsReadable g e.from =
    (suc to.0, e.act ∷ to.1, option_to_list e.printed ++ to.2, (e, r.1, refl, to.1, to.2, to.3, refl, refl)) in
    (e, is.all e r.1 to, r.2, r.3, read_to_trimmed g h is n e.from r.3 r.4 from, r.5)

module _ (g h : GraphValue) (is : IsTrimmed g h) where
  pub readable_trimmed : (k : ℕ) → IsReadable g k → IsReadable h k
  readable_trimmed k r = (r.0, r.1, r.2, reads_trimmed g h is r.0 k r.1 r.2 r.3)

  pub within_trimmed : IsWithin g → IsWithin h
  within_trimmed within e has = subst (λ (l : List Bool). (e.from < length l)
      × (e.to < length l)) (sym is.ends) (within e (is.each e has).0)

  pub trim_trimmed : AreTrim h
  trim_trimmed e has = readable_trimmed e.to (is.each e has).1

  pub longest_trimmed : (most : ℕ) → IsLongest g most → IsLongest h most
  longest_trimmed most longest n acts numbers r = longest n acts numbers (reads_whole g h is n 0 acts numbers r)

  pub shown_whole : (list : List Reading) → AreShown h list → AreShown g list
  shown_whole list shown i r there = (let s = shown i r there in (s.0, reads_whole g h is s.0 0 r.acts.items r.numbers.items s.1))

  pub all_whole : (list : List Reading) → AreAllListed h list → AreAllListed g list
  all_whole list all n acts numbers r = all n acts numbers (reads_trimmed g h is n 0 acts numbers r)

  pub first_whole : (list : List Reading) → AreFirst h list → AreFirst g list
  first_whole list first n acts numbers r = first n acts numbers (reads_trimmed g h is n 0 acts numbers r)

  once_whole : (lists : List (List ℤ)) → AreReadOnce h lists → AreReadOnce g lists
  once_whole lists are = record {
    read = λ numbers has. (let r = are.read numbers has in (r.0, r.1, reads_whole g h is r.0 0 r.1 numbers r.2));
    once = are.once;
  }

  pub least_whole : (count : ℕ) → AreAtLeast h count → AreAtLeast g count
  least_whole count least = record { lists = least.lists; read = once_whole least.lists least.read; many = least.many }

  pub many_whole : (count : ℕ) → AreAsMany h count → AreAsMany g count
  many_whole count are = record {
    lists = are.lists;
    read = once_whole are.lists are.read;
    all = λ n acts numbers r. are.all n acts numbers (reads_trimmed g h is n 0 acts numbers r);
    many = are.many;
  }

  readable_whole : (k : ℕ) → IsReadable h k → IsReadable g k
  readable_whole k r = (r.0, r.1, r.2, reads_whole g h is r.0 k r.1 r.2 r.3)

  behind_whole : (numbers : List ℤ) (k : ℕ) → IsBehind h numbers k → IsBehind g numbers k
  behind_whole numbers k b = ((b.0.0, read_to_whole g h is b.0.0 k numbers b.0.1), readable_whole k b.1)

  behind_trimmed : (numbers : List ℤ) (k : ℕ) → IsBehind g numbers k → IsBehind h numbers k
  behind_trimmed numbers k b = ((b.0.0, read_to_trimmed g h is b.0.0 k numbers b.0.1 b.1), readable_trimmed k b.1)

  pub sets_whole : (limit : ℕ) → HasMoreSets h limit → HasMoreSets g limit
  sets_whole limit are = record {
    beginnings = are.beginnings;
    some = λ i xs there. (let s = are.some i xs there in (s.0, behind_whole xs s.0 s.1));
    apart = λ i j xs ys hi hj alike. are.apart i j xs ys hi hj (λ k. (
      λ b. behind_trimmed ys k ((alike k).0 (behind_whole xs k b)),
      λ b. behind_trimmed xs k ((alike k).1 (behind_whole ys k b)),
    ));
    more = are.more;
  }
