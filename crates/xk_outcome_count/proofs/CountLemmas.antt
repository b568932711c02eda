-- From what is listed, and from what is read along links, to how many outcomes there are.
use Rattle.std.proofs.Common.{◌≡◌, ◌∙◌, ℕ, ℤ, zero, suc, ◌+◌, ◌<◌, ◌≤◌, ◌⊎◌, inl, inr, Bool, true, false, List, [], ◌∷◌, ◌++◌, length}
use Rattle.std.proofs.Common.{Some, refl, sym, ap, subst, arith, slice_get}
use Rattle.std.specs.Prelude.{map, option_map}
use Rattle.std.proofs.lemmas.List.{length-map}
use Rattle.std.proofs.lemmas.Option.{none-some, same_Some, slice_get-map}
use Rattle.xk_types.specs.Code.{ModuleValue}
use Rattle.xk_types.specs.World.{opening}
use Rattle.xk_types.specs.Schedule.{printed}
use Rattle.xk_core.specs.Core.{CoreValue, opening_core}
use Rattle.xk_readings.specs.declared.edge.Edge.{Edge}
use Rattle.xk_readings.specs.Beginnings.{HasMoreSets}
use Rattle.xk_readings.specs.Counts.{AreAsMany as AreReadAsMany, AreAtLeast as AreReadAtLeast, AreReadOnce, most_counted}
use Rattle.xk_readings.specs.Graphs.{graph}
use Rattle.xk_readings.specs.Readings.{Reads}
use Rattle.xk_readings.specs.Sets.{AreDifferent, Has}
use Rattle.xk_outcomes.specs.declared.listing.Outcome.{Outcome}
use Rattle.xk_outcomes.specs.declared.order.Order.TheVariants as order
use Rattle.xk_outcomes.specs.declared.search.Explored.{Explored}
use Rattle.xk_outcomes.specs.Explored.{IsExplored}
use Rattle.xk_outcomes.specs.Found.{FoundValue, first_found, through}
use Rattle.xk_outcomes.specs.Ways.{steps_of}
use Rattle.xk_outcomes.specs.Links.{ends}
use Rattle.xk_outcomes.specs.Listing.{AreAllIn, AreShownIn, ArePlayed}
use Rattle.xk_outcomes.specs.Outcomes.{IsOutcome}
use Rattle.xk_outcomes.specs.Search.{AreAllFound}
use Rattle.xk_outcomes.specs.Sets.{AreAllAs, AreDistinctAs, AreShownAs, HaveSameNumbers}
use Rattle.xk_outcomes.proofs.FollowLemmas.{read_to}
use Rattle.xk_outcomes.proofs.FoundLemmas.{first_is_found, found_through}
use Rattle.xk_outcomes.proofs.ListingLemmas.{printed_shown}
use Rattle.xk_outcomes.proofs.LoneOutcomeLemmas.{alone_distinct}
use Rattle.xk_outcome_count.specs.Counts.{AreAllPrinted, AreAsMany, AreAtLeast, ArePrintedOnce, IsCutOff}

-- ---- what is listed

-- the numbers of outcomes
abbrev numbers_of : Outcome → List ℤ
numbers_of o = o.numbers.items

abbrev numbers_in : List Outcome → List (List ℤ)
numbers_in list = map numbers_of list

-- each is that of one of them
listed_at : (list : List Outcome) (k : ℕ) (x : List ℤ) → slice_get (numbers_in list) k ≡ Some x
    → (o : Outcome) × (slice_get list k ≡ Some o) × (o.numbers.items ≡ x)
listed_at [] k x h = absurd (none-some x h)
listed_at (o ∷ list) zero x h = (o, refl, same_Some o.numbers.items x h)
listed_at (o ∷ list) (suc k) x h = listed_at list k x h

-- and each of them has its own
numbers_at : (list : List Outcome) (k : ℕ) (o : Outcome) → slice_get list k ≡ Some o → slice_get (numbers_in list) k ≡ Some o.numbers.items
numbers_at list k o h = slice_get-map numbers_of list k ∙ ap (option_map numbers_of) h

listed_once : (sets : Bool) (m : ModuleValue) (args : List ℤ) (list : List Outcome) → AreShownAs sets m args list → AreDistinctAs sets list
    → ArePrintedOnce sets m args (numbers_in list)
listed_once false m args list shown distinct = record {
  printed = λ k x there.
      let o = listed_at list k x there in
      (_, o.0.numbers.items, shown k o.0 o.1, o.2);
  once = λ i j x y hi hj same.
      let o = listed_at list i x hi in
      let p = listed_at list j y hj in
      distinct i j o.0 p.0 o.1 p.1 (o.2 ∙ same ∙ sym p.2);
}
listed_once true m args list shown distinct = record {
  printed = λ k x there.
      let o = listed_at list k x there in
      let s = shown k o.0 o.1 in
      (_, s.1, s.2, subst (HaveSameNumbers s.1) o.2 s.3);
  once = λ i j x y hi hj same.
      let o = listed_at list i x hi in
      let p = listed_at list j y hj in
      distinct i j o.0 p.0 o.1 p.1 (subst (λ a. HaveSameNumbers a p.0.numbers.items) (sym o.2) (subst (HaveSameNumbers x) (sym p.2) same));
}

listed_all : (sets : Bool) (m : ModuleValue) (args : List ℤ) (list : List Outcome) → AreAllAs sets m args list
    → AreAllPrinted sets m args (numbers_in list)
listed_all false m args list all schedule numbers o =
    let h = all schedule numbers o in (h.0, h.1.numbers.items, numbers_at list h.0 h.1 h.2, sym h.3)
listed_all true m args list all schedule numbers o =
    let h = all schedule numbers o in (h.0, h.1.numbers.items, numbers_at list h.0 h.1 h.2, h.3)

listed_least : (sets : Bool) (m : ModuleValue) (args : List ℤ) (list : List Outcome) (count : ℕ) → AreShownAs sets m args list
    → AreDistinctAs sets list → count ≡ length list → AreAtLeast sets m args count
listed_least sets m args list count shown distinct many =
    let same = length-map list numbers_of in record {
      outcomes = numbers_in list;
      once = listed_once sets m args list shown distinct;
      many = omega (arith, many, same);
    }

pub listed_exact : (sets : Bool) (m : ModuleValue) (args : List ℤ) (list : List Outcome) (count : ℕ) → AreShownAs sets m args list
    → AreDistinctAs sets list → AreAllAs sets m args list → count ≡ length list → AreAsMany sets m args count
listed_exact sets m args list count shown distinct all many =
    let same = length-map list numbers_of in record {
      outcomes = numbers_in list;
      once = listed_once sets m args list shown distinct;
      all = listed_all sets m args list all;
      many = omega (arith, many, same);
    }

-- the lone outcome is one
pub lone_exact : (m : ModuleValue) (args : List ℤ) (o : Outcome) → AreShownIn order.Printed m args (o ∷ []) → AreAllIn order.Printed m args (o ∷ [])
    → AreAsMany false m args 1
lone_exact m args o shown all = listed_exact false m args (o ∷ []) 1 (printed_shown m args (o ∷ []) shown) (alone_distinct o) all refl

-- as many as there are, are at least so many
pub exact_least : (sets : Bool) (m : ModuleValue) (args : List ℤ) (count : ℕ) → AreAsMany sets m args count → AreAtLeast sets m args count
exact_least sets m args count are = (let many = are.many in record { outcomes = are.outcomes; once = are.once; many = omega (arith, many) })

-- none are at least none
pub none_least : (sets : Bool) (m : ModuleValue) (args : List ℤ) → AreAtLeast sets m args 0
none_least sets m args = record {
  outcomes = [];
  once = record {
    printed = λ k x there. absurd (none-some x there);
    once = λ i j x y hi hj same. absurd (none-some x hi);
  };
  many = omega arith;
}

-- as many as are listed, or as so many others, are at least so many
pub least_of : (sets : Bool) (m : ModuleValue) (args : List ℤ) (list : List Outcome) (count read : ℕ) → AreShownAs sets m args list
    → AreDistinctAs sets list → AreAtLeast sets m args read → (count ≡ length list) ⊎ (count ≡ read) → AreAtLeast sets m args count
least_of sets m args list count read shown distinct least (inl many) = listed_least sets m args list count shown distinct many
least_of sets m args list count read shown distinct least (inr same) = subst (AreAtLeast sets m args) (sym same) least

-- ---- what is read along links

-- what is at a place is among them
there_has : (xs : List (List ℤ)) (k : ℕ) (x : List ℤ) → slice_get xs k ≡ Some x → Has xs x
there_has [] k x h = absurd (none-some x h)
there_has (z ∷ xs) zero x h = inl (sym (same_Some z x h))
there_has (z ∷ xs) (suc k) x h = inr (there_has xs k x h)

-- where different ones are, each is at one place
different_at : (xs : List (List ℤ)) → AreDifferent xs → (i j : ℕ) (x : List ℤ) → slice_get xs i ≡ Some x → slice_get xs j ≡ Some x → i ≡ j
different_at [] are i j x hi hj = absurd (none-some x hi)
different_at (z ∷ xs) are zero zero x hi hj = refl
different_at (z ∷ xs) are zero (suc j) x hi hj = absurd (are.0 (there_has xs j z (hj ∙ sym hi)))
different_at (z ∷ xs) are (suc i) zero x hi hj = absurd (are.0 (there_has xs i z (hi ∙ sym hj)))
different_at (z ∷ xs) are (suc i) (suc j) x hi hj = ap suc (different_at xs are.1 i j x hi hj)

-- what is among them is at a place
place_of : (xs : List (List ℤ)) (x : List ℤ) → Has xs x → (k : ℕ) × (y : List ℤ) × (slice_get xs k ≡ Some y) × (x ≡ y)
place_of [] x h = absurd h
place_of (z ∷ xs) x (inl same) = (0, z, refl, same)
place_of (z ∷ xs) x (inr later) = let p = place_of xs x later in (suc p.0, p.1, p.2, p.3)

module _ (m : ModuleValue) (args : List ℤ) (ways : List (List ℕ)) (all : List FoundValue) (links : List Edge)
    (played : ArePlayed (opening_core m args) ways all links) where
  -- what is read is printed by the steps that lead there
  read_printed : (n : ℕ) (acts : List ℕ) (numbers : List ℤ) → Reads (graph links (ends all)) n 0 acts numbers
      → (schedule : List ℕ) × IsOutcome m args schedule numbers
  read_printed n acts numbers reads =
      let start : CoreValue = opening_core m args in
      let p = played n acts numbers reads in
      let x : FoundValue = through (steps_of ways acts) (first_found start) in
      let f = found_through start (steps_of ways acts) (first_found start) (first_is_found start) in (
        f.0,
        record {
          last = x.core.world;
          legal = f.1.legal;
          over = p.ended;
          prints = f.1.prints ∙ p.prints;
        },
      )

  read_once : (lists : List (List ℤ)) → AreReadOnce (graph links (ends all)) lists → ArePrintedOnce false m args lists
  read_once lists read = record {
    printed = λ k x there.
        let r = read.read x (there_has lists k x there) in
        let o = read_printed r.0 r.1 x r.2 in
        (o.0, x, o.1, refl);
    once = λ i j x y hi hj same.
        different_at lists read.once i j y (hi ∙ ap Some same) hj;
  }

  pub read_least : (count : ℕ) → AreReadAtLeast (graph links (ends all)) count → AreAtLeast false m args count
  read_least count are = record {
    outcomes = are.lists;
    once = read_once are.lists are.read;
    many = are.many;
  }

  -- where whatever is printed stands along links, no more is
  pub read_exact : AreAllFound order.Printed (opening_core m args) all links → (count : ℕ) → AreReadAsMany (graph links (ends all)) count
      → AreAsMany false m args count
  read_exact found count are = record {
    outcomes = are.lists;
    once = read_once are.lists are.read;
    all = λ schedule numbers o.
        let h = found schedule o.last o.legal o.over in
        let led = h.5 in
        let reads = read_to all links h.0 h.1 (printed m schedule (opening m args)) h.2 h.3 led in
        let p = place_of are.lists numbers (are.all (led.0 + 0) (led.1 ++ []) numbers (subst (Reads (graph links (ends all)) (led.0 + 0) 0 (led.1 ++ [])) o.prints reads)) in
        (p.0, p.1, p.2, p.3);
    many = are.many;
  }

-- ---- what ends a count

-- the sets of worlds, or the most that is counted
pub cut_by : (m : ModuleValue) (args : List ℤ) (limit read count : ℕ) (x : Explored)
    → IsExplored order.Printed (opening_core m args) limit x
    → HasMoreSets (graph x.links.items (ends x.found.all)) limit ⊎ (read ≡ most_counted) → read ≤ count → IsCutOff m args limit count
cut_by m args limit read count x is (inl sets) most = record { explored = x; is = is; cut = inr (inl sets) }
cut_by m args limit read count x is (inr all) most = record { explored = x; is = is; cut = inr (inr (subst (λ n. n ≤ count) all most)) }
