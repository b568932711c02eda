-- What is read along links is listed in rising order, behind what was listed.
use Rattle.std.proofs.Common.{◌≡◌, ◌∙◌, ℕ, ℤ, zero, suc, ◌+◌, ◌<◌, ◌≤◌, ◌⊎◌, inl, inr, Bool, true, false, List, [], ◌∷◌, ◌++◌}
use Rattle.std.proofs.Common.{length, map, Some, refl, sym, ap, subst, arith, slice_get}
use Rattle.std.proofs.lemmas.Bool.{cases_lt}
use Rattle.std.proofs.lemmas.List.{length-map}
use Rattle.std.proofs.lemmas.Option.{none-some, same_Some, slice_get_within}
use Rattle.xk_types.specs.Code.{ModuleValue}
use Rattle.xk_core.specs.Core.{CoreValue, opening_core}
use Rattle.xk_readings.specs.declared.edge.Edge.{Edge}
use Rattle.xk_readings.specs.declared.listing.Reading.{Reading}
use Rattle.xk_readings.specs.Graphs.{graph}
use Rattle.xk_readings.specs.Readings.{AreShown, IsListed as IsRead}
use Rattle.xk_readings.specs.Rising.{AreFirst, AreRising, ComesBefore}
use Rattle.xk_readings.specs.Sets.{Has}
use Rattle.xk_readings.proofs.ListLemmas.{place}
use Rattle.xk_readings.proofs.RisingLemmas.{rising_most}
use Rattle.xk_types.proofs.ListLemmas.{get_once as same_at, get_push as at_end}
use Rattle.xk_outcomes.specs.declared.listing.Outcome.{Outcome}
use Rattle.xk_outcomes.specs.declared.order.Order.{Order}
use Rattle.xk_outcomes.specs.declared.order.Order.TheVariants as order
use Rattle.xk_outcomes.specs.Found.{FoundValue}
use Rattle.xk_outcomes.specs.Links.{LeadTo, ends}
use Rattle.xk_outcomes.specs.Listing.{AreAllIn, ArePlayed, KeepsListed}
use Rattle.xk_outcomes.specs.Numbering.{AreAddedFrom, AreBefore, AreInOrder, AreInOrderIn, AreNumbered, AreNumberedIn, ArePlayedAll}
use Rattle.xk_outcomes.specs.Numbering.{AreReadingsFirst, AreRisingFrom, IsAddedAs}
use Rattle.xk_outcomes.specs.Outcomes.{IsListed}
use Rattle.xk_outcomes.specs.PlainRuns.{plain_runs}
use Rattle.xk_outcomes.specs.Search.{AreAllFound}
use Rattle.xk_outcomes.proofs.FollowLemmas.{read_to}

-- nothing is listed yet from here on
pub nothing_added : (found : List Reading) (list : List Outcome) → AreAddedFrom found 0 (length list) list
nothing_added found list k o from there = (let inside = slice_get_within list k o there in absurd (omega (arith, inside, from)))

pub nothing_rises : (list : List Outcome) → AreRisingFrom (length list) list
nothing_rises list i j x y from less at_i at_j = (let inside = slice_get_within list i x at_i in absurd (omega (arith, inside, from)))

-- of fewer readings they are of more
pub added_within : (found : List Reading) (place from : ℕ) (list : List Outcome) → place ≤ length found → AreAddedFrom found place from list
    → AreAddedFrom found (length found) from list
added_within found place from list most added k o behind at_k =
    let a = added k o behind at_k in
    let less = a.2 in
    (a.0, a.1, omega (arith, less, most), a.3, a.4)

-- ---- a reading more

module _ (found : List Reading) (at from : ℕ) (here : Reading) (old new : List Outcome) (there : slice_get found at ≡ Some here)
    (added : AreAddedFrom found at from old) (is : IsAddedAs here.numbers.items old new) where
  pub added_more : AreAddedFrom found (at + 1) from new
  added_more k o behind at_k = by is
    where
      was : slice_get old k ≡ Some o → (i : ℕ) × (r : Reading) × (i < at + 1) × (slice_get found i ≡ Some r) × (o.numbers.items ≡ r.numbers.items)
      was h = (let a = added k o behind h in let less = a.2 in (a.0, a.1, omega (arith, less), a.3, a.4))

      by : IsAddedAs here.numbers.items old new
          → (i : ℕ) × (r : Reading) × (i < at + 1) × (slice_get found i ≡ Some r) × (o.numbers.items ≡ r.numbers.items)
      by (inl same) = was (ap (λ (l : List Outcome). slice_get l k) (sym same) ∙ at_k)
      by (inr (p, one, numbers)) = place_of (place old p k o (ap (λ (l : List Outcome). slice_get l k) (sym one) ∙ at_k))
        where
          place_of : (slice_get old k ≡ Some o) ⊎ ((k ≡ length old) × (p ≡ o))
              → (i : ℕ) × (r : Reading) × (i < at + 1) × (slice_get found i ≡ Some r) × (o.numbers.items ≡ r.numbers.items)
          place_of (inl h) = was h
          place_of (inr e) = (at, here, omega arith, there, ap (λ (q : Outcome). q.numbers.items) (sym e.1) ∙ numbers)

  -- what was added comes before it
  before_here : AreRising found → AreBefore from old here.numbers.items
  before_here rising k o behind at_k =
      let a = added k o behind at_k in
      subst (λ (l : List ℤ). ComesBefore l here.numbers.items) (sym a.4) (rising a.0 at a.1 here a.2 a.3 there)

  pub rising_more : AreRising found → AreRisingFrom from old → AreRisingFrom from new
  rising_more rising before i j x y behind less at_i at_j = by is
    where
      by : IsAddedAs here.numbers.items old new → ComesBefore x.numbers.items y.numbers.items
      by (inl same) = before i j x y behind less (ap (λ (l : List Outcome). slice_get l i) (sym same) ∙ at_i)
          (ap (λ (l : List Outcome). slice_get l j) (sym same) ∙ at_j)
      by (inr (p, one, numbers)) = places (place old p i x (ap (λ (l : List Outcome). slice_get l i) (sym one) ∙ at_i))
          (place old p j y (ap (λ (l : List Outcome). slice_get l j) (sym one) ∙ at_j))
        where
          places : (slice_get old i ≡ Some x) ⊎ ((i ≡ length old) × (p ≡ x)) → (slice_get old j ≡ Some y) ⊎ ((j ≡ length old) × (p ≡ y))
              → ComesBefore x.numbers.items y.numbers.items
          places (inl a) (inl b) = before i j x y behind less a b
          places (inl a) (inr b) = subst (λ (l : List ℤ). ComesBefore x.numbers.items l)
              (sym numbers ∙ ap (λ (q : Outcome). q.numbers.items) b.1) (before_here rising i x behind a)
          places (inr a) (inl b) =
              let inside = slice_get_within old j y b in
              let end = a.0 in
              absurd (omega (arith, inside, end, less))
          places (inr a) (inr b) = (let one = a.0 in let two = b.0 in absurd (omega (arith, one, two, less)))

  -- where it isn't listed, it and those behind it come behind what is
  pub first_here : AreRising found → KeepsListed old new → ((i : ℕ) (r : Reading) → i < at → slice_get found i ≡ Some r → IsListed old r.numbers.items)
      → AreReadingsFirst found from new
  first_here rising keeps listed i r at_i = by (cases_lt i at) (cases_lt at i)
    where
      behind_all : at < i → AreBefore from new r.numbers.items
      behind_all less k o behind at_k =
          let a = added_more k o behind at_k in
          let most = a.2 in
          subst (λ (l : List ℤ). ComesBefore l r.numbers.items) (sym a.4) (rising a.0 i a.1 r (omega (arith, most, less)) a.3 at_i)

      itself : i ≡ at → IsListed new r.numbers.items ⊎ AreBefore from new r.numbers.items
      itself same = by_added is
        where
          equal : here ≡ r
          equal = same_at found i here r (ap (slice_get found) same ∙ there) at_i

          by_added : IsAddedAs here.numbers.items old new → IsListed new r.numbers.items ⊎ AreBefore from new r.numbers.items
          by_added (inl none) =
              inr (subst (λ (l : List Outcome). AreBefore from l r.numbers.items) (sym none)
              (subst (λ (q : Reading). AreBefore from old q.numbers.items) equal (before_here rising)))
          by_added (inr (p, one, numbers)) =
              inl (
                length old,
                p,
                ap (λ (l : List Outcome). slice_get l (length old)) one ∙ at_end old p,
                numbers
                    ∙ ap (λ (q : Reading). q.numbers.items) equal,
              )

      by : (i < at) ⊎ (at ≤ i) → (at < i) ⊎ (i ≤ at) → IsListed new r.numbers.items ⊎ AreBefore from new r.numbers.items
      by (inl less) other = inl (keeps r.numbers.items (listed i r less at_i))
      by (inr least) (inl more) = inr (behind_all more)
      by (inr least) (inr most) = itself (omega (arith, least, most))

-- ---- all of them

-- what can be read and isn't listed comes behind what was added
pub in_order : (all : List FoundValue) (links : List Edge) (found : List Reading) (from : ℕ) (list : List Outcome)
    → AreFirst (graph links (ends all)) found → AreAddedFrom found (length found) from list → AreRisingFrom from list
    → AreReadingsFirst found from list
    → AreInOrder all links from list
in_order all links found from list least added rising first = record {
  rising = rising;
  first = λ n acts numbers reads. by numbers (least n acts numbers reads);
}
  where
    by : (numbers : List ℤ) → IsRead found numbers ⊎ ((i : ℕ) (r : Reading) → slice_get found i ≡ Some r → ComesBefore r.numbers.items numbers)
        → IsListed list numbers ⊎ AreBefore from list numbers
    by numbers (inl h) = subst (λ (l : List ℤ). IsListed list l ⊎ AreBefore from list l) h.3 (first h.0 h.1 h.2)
    by numbers (inr before) = inr (λ k o behind at_k. (let a = added k o behind at_k in
        subst (λ (l : List ℤ). ComesBefore l numbers) (sym a.4) (before a.0 a.1 a.3)))

-- there are no more readings than outcomes among which all of them are
has_numbers : (list : List Outcome) (k : ℕ) (o : Outcome) → slice_get list k ≡ Some o → Has (map (λ (o : Outcome). o.numbers.items) list) o.numbers.items
has_numbers [] k o there = absurd (none-some o there)
has_numbers (p ∷ list) zero o there = inl (ap (λ (q : Outcome). q.numbers.items) (sym (same_Some p o there)))
has_numbers (p ∷ list) (suc k) o there = inr (has_numbers list k o there)

pub readings_most : (found : List Reading) (list : List Outcome) → AreRising found
    → ((i : ℕ) (r : Reading) → slice_get found i ≡ Some r → IsListed list r.numbers.items)
    → length found ≤ length list
readings_most found list rising listed =
    let most = rising_most found (map (λ (o : Outcome). o.numbers.items) list) rising
    (λ i r there. (let h = listed i r there in
    subst (Has (map (λ (o : Outcome). o.numbers.items) list)) h.3 (has_numbers list h.0 h.1 h.2))) in
    let count = length-map list (λ (o : Outcome). o.numbers.items) in
    omega (arith, most, count)

-- each reading is played
pub played_all : (start : CoreValue) (ways : List (List ℕ)) (all : List FoundValue) (links : List Edge) (found : List Reading)
    → ArePlayed start ways all links → AreShown (graph links (ends all)) found → ArePlayedAll start ways found
played_all start ways all links found played shown i r there = (let s = shown i r there in played s.0 r.acts.items r.numbers.items s.1)

-- ---- outcomes

numbered : (m : ModuleValue) (args : List ℤ) (all : List FoundValue) (links : List Edge) (limit place : ℕ) (list : List Outcome)
    → place ≤ plain_runs → AreInOrder all links place list
    → (length all ≤ limit → AreAllFound order.Printed (opening_core m args) all links) → AreNumbered m args limit list (length all)
numbered m args all links limit place list few order found = record {
  place = place;
  few = few;
  rising = order.rising;
  first = λ within schedule numbers o.
      let h = found within schedule o.last o.legal o.over in
      let led = subst (LeadTo links h.0) o.prints h.5 in
      order.first (led.0 + 0) (led.1 ++ []) numbers (read_to all links h.0 h.1 numbers h.2 h.3 led);
}

-- a search that kept no more than the limit says is whole
pub whole_within : (complete : Bool) (entries limit : ℕ) → (complete ≡ false → limit < entries) → entries ≤ limit → complete ≡ true
whole_within true entries limit more most = refl
whole_within false entries limit more most = (let less = more refl in absurd (omega (arith, less, most)))

pub numbered_in : (o : Order) (m : ModuleValue) (args : List ℤ) (all : List FoundValue) (links : List Edge) (limit place : ℕ) (list : List Outcome)
    → place ≤ plain_runs → AreInOrderIn o all links place list
    → (length all ≤ limit → AreAllFound o (opening_core m args) all links) → AreNumberedIn o m args limit list (length all)
numbered_in order.Printed m args all links limit place list few order found = numbered m args all links limit place list few order found
numbered_in order.Rising m args all links limit place list few order found = tt

lone_numbered : (m : ModuleValue) (args : List ℤ) (limit : ℕ) (list : List Outcome) (o : Outcome) → list ≡ o ∷ []
    → AreAllIn order.Printed m args list → AreNumbered m args limit list 0
lone_numbered m args limit list o one all = record {
  place = 0;
  few = omega arith;
  rising = λ i j x y behind less at_i at_j. absurd (alone i j y less (ap (λ (l : List Outcome). slice_get l j) (sym one) ∙ at_j));
  first = λ within schedule numbers is. inl (all schedule numbers is);
}
  where
    alone : (i j : ℕ) (y : Outcome) → i < j → slice_get (o ∷ []) j ≡ Some y → ⊥
    alone i zero y less there = omega (arith, less)
    alone i (suc j) y less there = none-some y there

pub lone_numbered_in : (k : Order) (m : ModuleValue) (args : List ℤ) (limit : ℕ) (list : List Outcome) (o : Outcome) → list ≡ o ∷ []
    → AreAllIn k m args list → AreNumberedIn k m args limit list 0
lone_numbered_in order.Printed m args limit list o one all = lone_numbered m args limit list o one all
lone_numbered_in order.Rising m args limit list o one all = tt
