-- Ways that stay where more are added.
use Rattle.std.proofs.Common.{◌≡◌, ◌∙◌, ℕ, ℤ, ◌+◌, ◌<◌, ◌≤◌, ◌⊎◌, inl, inr, Bool, true, false, not}
use Rattle.std.proofs.Common.{List, [], ◌∷◌, ◌++◌, length, Option, Some, None, refl, sym, ap, subst, arith, slice_get}
use Rattle.std.specs.Option.{is_some, option_to_list}
use Rattle.std.proofs.lemmas.Bool.{cases_lt, true≢false}
use Rattle.std.proofs.lemmas.List.{append-nil, length_push}
use Rattle.std.proofs.lemmas.Option.{get_or_from_slice_get, none-some}
use Rattle.xk_readings.specs.declared.edge.Edge.{Edge}
use Rattle.xk_readings.specs.Graphs.{GraphValue, HasEdge}
use Rattle.xk_readings.specs.Ways.{HasStanding, Standing, WaysValue, along, at, start}
use Rattle.xk_readings.specs.Closures.{AreTrim, IsClosed, IsReached, IsSpread, PrintsFrom}
use Rattle.xk_types.proofs.ListLemmas.{get-append_left as stays, get_inside as there_is, get_once as same_at}
use Rattle.xk_readings.proofs.ListLemmas.{place, read}
use Rattle.xk_readings.proofs.ReadingLemmas.{reached_along}

-- the one of a number is the same as before
pub at_kept : (old new : List Standing) (k : ℕ) → k < length old → ((s : Standing) → slice_get old k ≡ Some s → slice_get new k ≡ Some s)
    → at new k ≡ at old k
at_kept old new k less keeps = get_or_from_slice_get new k (at old k) start (keeps (at old k) (read old k start less))

-- a way that ends there still does
pub standing_kept : (old new : List Standing) (since node : ℕ) → ((k : ℕ) (s : Standing) → slice_get old k ≡ Some s
    → slice_get new k ≡ Some s) → HasStanding old since node
    → HasStanding new since node
standing_kept old new since node keeps h = (h.0, h.1, h.2, keeps h.0 h.1 h.3, h.4)

-- ---- one more, or none

module _ (old new : List Standing) (s : Standing) (grows : (new ≡ old) ⊎ (new ≡ old ++ s ∷ [])) where
  pub kept_grown : (k : ℕ) (t : Standing) → slice_get old k ≡ Some t → slice_get new k ≡ Some t
  kept_grown k t there = by grows
    where
      by : (new ≡ old) ⊎ (new ≡ old ++ s ∷ []) → slice_get new k ≡ Some t
      by (inl same) = ap (λ (l : List Standing). slice_get l k) same ∙ there
      by (inr one) = ap (λ (l : List Standing). slice_get l k) one ∙ stays old (s ∷ []) k t there

  pub many_grown : length old ≤ length new
  many_grown = by grows
    where
      by : (new ≡ old) ⊎ (new ≡ old ++ s ∷ []) → length old ≤ length new
      by (inl same) = let count = ap length same in omega (arith, count)
      by (inr one) =
          let count = ap length one in
          let more = length_push old s in
          omega (arith, count, more)

  pub each_grown : (P : ℕ → Standing → Type 0) → ((k : ℕ) (t : Standing) → slice_get old k ≡ Some t → P k t) → P (length old) s
      → (k : ℕ) (t : Standing) → slice_get new k ≡ Some t → P k t
  each_grown P all new' k t there = by grows
    where
      at_place : (slice_get old k ≡ Some t) ⊎ ((k ≡ length old) × (s ≡ t)) → P k t
      at_place (inl a) = all k t a
      at_place (inr b) = subst (P k) b.1 (subst (λ m. P m s) (sym b.0) new')

      by : (new ≡ old) ⊎ (new ≡ old ++ s ∷ []) → P k t
      by (inl same) = all k t (ap (λ (l : List Standing). slice_get l k) (sym same) ∙ there)
      by (inr one) = at_place (place old s k t (ap (λ (l : List Standing). slice_get l k) (sym one) ∙ there))

-- ---- ways by edges that print nothing

-- one edge more
pub spread_more : (g : GraphValue) (numbers : List ℤ) (old now new : WaysValue) (number : ℕ) (e : Edge) → AreTrim g
    → IsSpread g numbers old now → number < length old.all
    → numbers ≡ (at old.all number).numbers → HasEdge g e → e.from ≡ (at old.all number).node → e.printed ≡ None
    → (new.all ≡ now.all) ⊎ (new.all ≡ now.all ++ along e (at now.all number) ∷ []) → new.here.room ≡ now.here.room
    → IsSpread g numbers old new
spread_more g numbers old now new number e trim is less same has from silent grows room = record {
  kept = λ k t there. kept_grown now.all new.all s grows k t (is.kept k t there);
  many = (let more = many_grown now.all new.all s grows in let most = is.many in omega (arith, more, most));
  room = room ∙ is.room;
  reached = each_grown now.all new.all s grows (λ (k : ℕ) (t : Standing). IsReached g t) is.reached
      (reached_along g e before has (from ∙ ap (λ (t : Standing). t.node) (sym like)) (trim e has)
      (is.reached number before (read now.all number start inside)));
  prints = λ k t behind there.
      each_grown now.all new.all s grows (λ (k : ℕ) (t : Standing). length old.all ≤ k
      → t.numbers ≡ numbers) (λ k t there behind. is.prints k t behind there) (λ behind. printed) k t there behind;
}
  where
    before : Standing
    before = at now.all number

    s : Standing
    s = along e before

    like : before ≡ at old.all number
    like = at_kept old.all now.all number less (is.kept number)

    inside : number < length now.all
    inside = (let most = is.many in omega (arith, less, most))

    printed : s.numbers ≡ numbers
    printed = ap (λ (o : Option ℤ). before.numbers ++ option_to_list o) silent ∙ append-nil before.numbers
        ∙ ap (λ (t : Standing). t.numbers) like ∙ sym same

-- some, and then others
pub spread_on : (g : GraphValue) (numbers again : List ℤ) (old now new : WaysValue) → again ≡ numbers → IsSpread g numbers old now
    → IsSpread g again now new → IsSpread g numbers old new
spread_on g numbers again old now new same first later = record {
  kept = λ k s there. later.kept k s (first.kept k s there);
  many = (let a = first.many in let b = later.many in omega (arith, a, b));
  room = later.room ∙ first.room;
  reached = later.reached;
  prints = λ k s from there. printed k s from there (cases_lt k (length now.all));
}
  where
    printed : (k : ℕ) (s : Standing) → length old.all ≤ k → slice_get new.all k ≡ Some s → (k < length now.all) ⊎ (length now.all ≤ k)
        → s.numbers ≡ numbers
    printed k s from there (inl less) =
        let was = there_is now.all k less in
        ap (λ (t : Standing). t.numbers) (sym (same_at new.all k was.0 s (later.kept k was.0 was.1) there))
        ∙ first.prints k was.0 from was.1
    printed k s from there (inr behind) = later.prints k s behind there ∙ same

-- all from a number on print the same
pub prints_all : (g : GraphValue) (first : ℕ) (numbers : List ℤ) (old new : WaysValue) → PrintsFrom first numbers old.all
    → IsSpread g numbers old new → PrintsFrom first numbers new.all
prints_all g first numbers old new are is k s from there = by (cases_lt k (length old.all))
  where
    by : (k < length old.all) ⊎ (length old.all ≤ k) → s.numbers ≡ numbers
    by (inl less) =
        let was = there_is old.all k less in
        ap (λ (t : Standing). t.numbers) (sym (same_at new.all k was.0 s (is.kept k was.0 was.1) there)) ∙ are k was.0 from was.1
    by (inr behind) = is.prints k s behind there

-- edges that were followed are followed still
closed_kept : (g : GraphValue) (old new : List Standing) (since k : ℕ)
    → ((k : ℕ) (s : Standing) → slice_get old k ≡ Some s → slice_get new k ≡ Some s) → k < length old
    → IsClosed g old since (at old k) → IsClosed g new since (at new k)
closed_kept g old new since k keeps less closed e has from silent =
    standing_kept old new since e.to keeps (closed e has (from ∙ ap (λ (s : Standing). s.node) (at_kept old new k less (keeps k))) silent)

-- one edge more leads to where one of the ways ends
pub edges_more : (edges : List Edge) (n : ℕ) (e : Edge) (now new : WaysValue)
    → ((k : ℕ) (s : Standing) → slice_get now.all k ≡ Some s → slice_get new.all k ≡ Some s)
    → new.since ≡ now.since → slice_get edges n ≡ Some e → HasStanding new.all new.since e.to
    → ((j : ℕ) (f : Edge) → j < n → slice_get edges j ≡ Some f → f.printed ≡ None → HasStanding now.all now.since f.to)
    → (j : ℕ) (f : Edge) → j < n + 1 → slice_get edges j ≡ Some f → f.printed ≡ None → HasStanding new.all new.since f.to
edges_more edges n e now new keeps since there here all j f less at_j silent = by (cases_lt j n)
  where
    by : (j < n) ⊎ (n ≤ j) → HasStanding new.all new.since f.to
    by (inl before) = subst (λ m. HasStanding new.all m f.to) (sym since)
        (standing_kept now.all new.all now.since f.to keeps (all j f before at_j silent))
    by (inr behind) =
        let same : n ≡ j = omega (arith, less, behind) in
        subst (λ (z : Edge). HasStanding new.all new.since z.to) (same_at edges j e f (ap (slice_get edges) (sym same) ∙ there) at_j) here

-- one that prints doesn't count
pub edges_loud : (edges : List Edge) (n : ℕ) (e : Edge) (w : WaysValue) → slice_get edges n ≡ Some e → (e.printed ≡ None → ⊥)
    → ((j : ℕ) (f : Edge) → j < n → slice_get edges j ≡ Some f → f.printed ≡ None → HasStanding w.all w.since f.to)
    → (j : ℕ) (f : Edge) → j < n + 1 → slice_get edges j ≡ Some f → f.printed ≡ None → HasStanding w.all w.since f.to
edges_loud edges n e w there loud all j f less at_j silent = by (cases_lt j n)
  where
    by : (j < n) ⊎ (n ≤ j) → HasStanding w.all w.since f.to
    by (inl before) = all j f before at_j silent
    by (inr behind) =
        let same : n ≡ j = omega (arith, less, behind) in
        absurd (loud (ap (λ (z : Edge). z.printed) (same_at edges j e f (ap (slice_get edges) (sym same) ∙ there) at_j) ∙ silent))

-- an option without a value, and one with it
pub is_silent : (o : Option ℤ) (b : Bool) → is_some o ≡ not b → b ≡ true → o ≡ None
is_silent None b is said = refl
is_silent (Some x) b is said = absurd (true≢false (is ∙ ap not said))

pub is_loud : (o : Option ℤ) (b : Bool) → is_some o ≡ not b → b ≡ false → o ≡ None → ⊥
is_loud None b is denied h = absurd (true≢false (sym (is ∙ ap not denied)))
is_loud (Some x) b is denied h = absurd (none-some x (sym h))

-- a way with the edge more
abbrev pub along_of : Edge → List Standing → ℕ → Standing
along_of e all number = along e (at all number)

-- the edges from where one way more ends were followed
pub closed_next : (g : GraphValue) (old new : List Standing) (first number : ℕ)
    → ((k : ℕ) (s : Standing) → slice_get old k ≡ Some s → slice_get new k ≡ Some s) → number < length old
    → ((k : ℕ) → first ≤ k → k < number → IsClosed g old first (at old k)) → IsClosed g new first (at old number)
    → (k : ℕ) → first ≤ k → k < number + 1 → IsClosed g new first (at new k)
closed_next g old new first number keeps inside all next k from less = by (cases_lt k number)
  where
    by : (k < number) ⊎ (number ≤ k) → IsClosed g new first (at new k)
    by (inl before) = closed_kept g old new first k keeps (omega (arith, before, inside)) (all k from before)
    by (inr behind) =
        let same : number ≡ k = omega (arith, less, behind) in
        subst (λ m. IsClosed g new first (at new m)) same (subst (IsClosed g new first)
        (sym (at_kept old new number inside (keeps number))) next)
