-- What one more leaves listed, and from what was found to what is listed.
use Rattle.std.proofs.Common.{◌≡◌, ◌∙◌, ℕ, ℤ, zero, suc, ◌+◌, ◌<◌, ◌≤◌, ◌⊎◌, inl, inr, Bool}
use Rattle.std.proofs.Common.{true, false, List, [], ◌∷◌, ◌++◌, length, Some, refl, sym, ap, subst, arith, slice_get}
use Rattle.std.specs.Prelude.{count_by}
use Rattle.std.specs.Ordering.{int_eq}
use Rattle.std.proofs.lemmas.Option.{none-some, same_Some}
use Rattle.xk_types.specs.Code.{ModuleValue}
use Rattle.xk_types.specs.World.{opening}
use Rattle.xk_types.specs.Schedule.{run, all_ended, printed}
use Rattle.xk_types.specs.Logs.{schedule_of}
use Rattle.xk_law_schedules.proofs.ReachabilityLemmas.{same_through}
use Rattle.xk_ranks.specs.Reads.{Counting, IsCounting}
use Rattle.xk_outcomes.proofs.SearchLemmas.{as_one_turned}
use Rattle.xk_core.specs.Core.{CoreValue, opening_core}
use Rattle.xk_readings.specs.declared.edge.Edge.{Edge}
use Rattle.xk_outcomes.specs.Found.{FoundValue}
use Rattle.xk_outcomes.specs.declared.listing.Outcome.{Outcome}
use Rattle.xk_outcomes.specs.declared.order.Order.{Order}
use Rattle.xk_outcomes.specs.declared.order.Order.TheVariants as order
use Rattle.xk_outcomes.specs.Links.{AreLinked}
use Rattle.xk_outcomes.specs.Alikeness.{Alikeness, AreAsOne, counted}
use Rattle.xk_outcomes.specs.Search.{AreFound, AreAllFound, AreAtRest, AreDifferent, IsFoundBy}
use Rattle.xk_outcomes.specs.Rising.{key, ordered, rising}
use Rattle.xk_outcomes.specs.Listing.{IsOf, AreApartIn, AreMet, AreOf, AreNoted}
use Rattle.xk_outcomes.specs.Listing.{AreShownIn, AreAllIn, AreEndsListedIn, HasKeptIn, KeepsListed}
use Rattle.xk_outcomes.specs.Outcomes.{IsAtRest, IsListed, IsOutcome, AreDistinct, AreShown}
use Rattle.xk_outcomes.specs.Limits.{HasKept}
use Rattle.xk_outcomes.specs.Numbering.{IsAddedAs}
use Rattle.xk_outcomes.specs.Sets.{IsRising, AreSetsShown, AreSetsDistinct, AreSetsAll}
use Rattle.xk_outcomes.proofs.RisingLemmas.{is_rising, same_rising, one_rising}
use Rattle.xk_types.proofs.ListLemmas.{get-append_left as stays, get_push as at_end}
use Rattle.xk_readings.proofs.ListLemmas.{place}

-- ---- one more

pub distinct_push : (old new : List Outcome) (o : Outcome) → new ≡ old ++ o ∷ [] → (IsListed old o.numbers.items → ⊥) → AreDistinct old
    → AreDistinct new
distinct_push old new o e fresh before i j x y hi hj same =
    by (place old o i x (subst (λ (l : List Outcome). slice_get l i ≡ Some x) e hi)) (place old o j y (subst (λ (l : List Outcome). slice_get l j ≡ Some y) e hj))
  where
    by : (slice_get old i ≡ Some x) ⊎ ((i ≡ length old) × (o ≡ x)) → (slice_get old j ≡ Some y) ⊎ ((j ≡ length old) × (o ≡ y)) → i ≡ j
    by (inl a) (inl b) = before i j x y a b same
    by (inl a) (inr b) = absurd (fresh (i, x, a, same ∙ sym (ap (λ (z : Outcome). z.numbers.items) b.1)))
    by (inr a) (inl b) = absurd (fresh (j, y, b, sym same ∙ sym (ap (λ (z : Outcome). z.numbers.items) a.1)))
    by (inr a) (inr b) = a.0 ∙ sym b.0

pub distinct_none : (list : List Outcome) → list ≡ [] → AreDistinct list
distinct_none list none i j x y hi hj same = absurd (none-some x (subst (λ (l : List Outcome). slice_get l i ≡ Some x) none hi))

pub keeps_push : (old new : List Outcome) (o : Outcome) → new ≡ old ++ o ∷ [] → KeepsListed old new
keeps_push old new o e numbers h = (h.0, h.1, subst (λ (l : List Outcome). slice_get l h.0 ≡ Some h.1) (sym e) (stays old (o ∷ []) h.0 h.1 h.2), h.3)

pub keeps_same : (old new : List Outcome) → new ≡ old → KeepsListed old new
keeps_same old new e numbers h = subst (λ (l : List Outcome). IsListed l numbers) (sym e) h

pub listed_push : (old new : List Outcome) (o : Outcome) → new ≡ old ++ o ∷ [] → IsListed new o.numbers.items
listed_push old new o e = (length old, o, subst (λ (l : List Outcome). slice_get l (length old) ≡ Some o) (sym e) (at_end old o), refl)

of_push : (order : Order) (start : CoreValue) (first : List Outcome) (schedule : List ℕ) (x : FoundValue) (old new : List Outcome) (o : Outcome)
    → new ≡ old ++ o ∷ []
    → IsFoundBy start schedule x → IsOf order schedule x o → AreOf order start first old → AreOf order start first new
of_push order start first schedule x old new o e found is before k p h =
    by (place old o k p (subst (λ (l : List Outcome). slice_get l k ≡ Some p) e h))
  where
    by : (slice_get old k ≡ Some p) ⊎ ((k ≡ length old) × (o ≡ p))
        → (slice_get first k ≡ Some p) ⊎ ((y : FoundValue) × (s : List ℕ) × IsFoundBy start s y × IsOf order s y p)
    by (inl a) = before k p a
    by (inr b) = inr (x, schedule, found, subst (λ (q : Outcome). IsOf order schedule x q) b.1 is)

-- the same where it was listed already
pub of_either : (order : Order) (start : CoreValue) (first : List Outcome) (schedule : List ℕ) (x : FoundValue) (old new : List Outcome) (o : Outcome)
    → (new ≡ old) ⊎ (new ≡ old ++ o ∷ [])
    → IsFoundBy start schedule x → IsOf order schedule x o → AreOf order start first old → AreOf order start first new
of_either order start first schedule x old new o (inl e) found is before = subst (AreOf order start first) (sym e) before
of_either order start first schedule x old new o (inr e) found is before = of_push order start first schedule x old new o e found is before

-- one was listed, or nothing was
pub added_as : (old new : List Outcome) (o : Outcome) {numbers : List ℤ} → o.numbers.items ≡ numbers → (new ≡ old) ⊎ (new ≡ old ++ o ∷ [])
    → IsAddedAs numbers old new
added_as old new o is (inl same) = inl same
added_as old new o is (inr one) = inr (o, one, is)

pub noted_more : (order : Order) (all : List FoundValue) (place : ℕ) (here : FoundValue) (old new : List Outcome)
    → slice_get all place ≡ Some here → KeepsListed old new
    → (all_ended here.core.world ≡ true → IsListed new (ordered order here.printed)) → AreNoted order all place old
    → AreNoted order all (place + 1) new
noted_more order all place here old new there kept listed before j x less at done = by (split j place less)
  where
    split : (i n : ℕ) → i < n + 1 → (i < n) ⊎ (i ≡ n)
    split i n h = grind arith

    by : (j < place) ⊎ (j ≡ place) → IsListed new (ordered order x.printed)
    by (inl l) = kept (ordered order x.printed) (before j x l at done)
    by (inr e) =
        let same : here ≡ x = same_Some here x (sym there ∙ (sym (ap (slice_get all) e) ∙ at)) in
        subst (λ (y : FoundValue). all_ended y.core.world ≡ true → IsListed new (ordered order y.printed)) same listed done

-- ---- from what was found to what is listed

pub all_shown : (order : Order) (m : ModuleValue) (args : List ℤ) (old list : List Outcome)
    → AreShownIn order m args old → AreOf order (opening_core m args) old list
    → AreShownIn order m args list
all_shown order m args old list before of k o there = by (of k o there)
  where
    by : (slice_get old k ≡ Some o)
        ⊎ ((x : FoundValue) × (s : List ℕ) × IsFoundBy (opening_core m args) s x × IsOf order s x o)
        → (numbers : List ℤ) × IsOutcome m args (schedule_of o.log.items) numbers × (o.numbers.items ≡ ordered order numbers)
    by (inl a) = before k o a
    by (inr h) =
        let x : FoundValue = h.0 in
        let f = h.2 in
        let is = h.3 in (
          x.printed,
          record {
            last = x.core.world;
            legal = ap (λ (l : List ℕ). run m l (opening m args)) is.log ∙ f.legal;
            over = is.over;
            prints = ap (λ (l : List ℕ). printed m l (opening m args)) is.log ∙ f.prints;
          },
          is.numbers,
        )

pub all_listed : (order : Order) (m : ModuleValue) (args : List ℤ) (all : List FoundValue) (links : List Edge) (list : List Outcome)
    → AreAllFound order (opening_core m args) all links
    → AreMet order all links list → AreAllIn order m args list
all_listed order m args all links list found listed schedule numbers o =
    let h = found schedule o.last o.legal o.over in
    subst (λ p. IsListed list (ordered order p)) o.prints
    (listed h.0 h.1 (printed m schedule (opening m args)) h.2 h.3 h.4 h.5)

-- schedules that lead to them
schedules : (start : CoreValue) (all : List FoundValue) → AreFound start all → List (List ℕ)
schedules start [] found = []
schedules start (x ∷ all) found = (found 0 x refl).0 ∷ schedules start all (λ k. found (suc k))

-- one for each
many_schedules : (start : CoreValue) (all : List FoundValue) (found : AreFound start all) → length (schedules start all found) ≡ length all
unfolding schedules
many_schedules start [] found = refl
many_schedules start (x ∷ all) found = ap suc (many_schedules start all (λ k. found (suc k)))

-- each leads to one of them
scheduled : (start : CoreValue) (all : List FoundValue) (found : AreFound start all) (k : ℕ) (p : List ℕ)
    → slice_get (schedules start all found) k ≡ Some p
    → (x : FoundValue) × (slice_get all k ≡ Some x) × IsFoundBy start p x
unfolding schedules
scheduled start [] found k p h = absurd (none-some p h)
scheduled start (x ∷ all) found zero p h =
    let f = found 0 x refl in
    (x, refl, subst (λ s. IsFoundBy start s x) (same_Some f.0 p h) f.1)
scheduled start (x ∷ all) found (suc k) p h = scheduled start all (λ j. found (suc j)) k p h

-- each that was found has a schedule and is at rest, and no two have the same world and numbers
all_apart : (order : Order) (like : Alikeness) → like.order ≡ order → (m : ModuleValue) (args : List ℤ) (all : List FoundValue)
    → (found : AreFound (opening_core m args) all) → AreAtRest all → AreDifferent like all
    → AreApartIn (counted like) order m args (schedules (opening_core m args) all found)
all_apart order like told m args all found rest different = record {
  legal = λ k p there.
      let x = scheduled (opening_core m args) all found k p there in (
        x.0.core.world,
        x.2.legal,
        subst (λ k. IsAtRest k x.0.core.world) x.2.module_is (rest k x.0 x.1),
      );
  apart = λ i j p q w v hi hj lead_w lead_v alike same.
      let x = scheduled (opening_core m args) all found i p hi in
      let y = scheduled (opening_core m args) all found j q hj in
      let to_w : w ≡ x.0.core.world = same_through w x.0.core.world (sym lead_w ∙ x.2.legal) in
      let to_v : v ≡ y.0.core.world = same_through v y.0.core.world (sym lead_v ∙ y.2.legal) in
      let worlds : AreAsOne (counted like) y.0.core.world x.0.core.world =
      as_one_turned (counted like) x.0.core.world y.0.core.world
      (subst (AreAsOne (counted like) x.0.core.world) to_v (subst (λ z. AreAsOne (counted like) z v) to_w alike)) in
      let numbers : key order x.0.printed ≡ key order y.0.printed =
      ap (key order) (sym x.2.prints) ∙ same ∙ ap (key order) y.2.prints in
      different i j x.0 y.0 x.1 y.1 (worlds, subst (λ o. key o x.0.printed ≡ key o y.0.printed) (sym told) numbers);
}

-- where whatever stands along links is listed, what the ones print is in which all have ended
ends_listed : (order : Order) (counts : Counting) (m : ModuleValue) (args : List ℤ) (ways : List (List ℕ)) (all : List FoundValue)
    → (links : List Edge) (list : List Outcome) (found : AreFound (opening_core m args) all) → AreLinked counts m ways all links
    → AreMet order all links list → AreEndsListedIn order m args (schedules (opening_core m args) all found) list
ends_listed order counts m args ways all links list found linked met k p numbers there o =
    let x = scheduled (opening_core m args) all found k p there in
    let same : o.last ≡ x.0.core.world = same_through o.last x.0.core.world (sym o.legal ∙ x.2.legal) in
    let prints : x.0.printed ≡ numbers = sym x.2.prints ∙ o.prints in
    subst (λ n. IsListed list (ordered order n)) prints
    (met k x.0 x.0.printed x.1 (sym (ap all_ended same) ∙ o.over) refl (linked.led k x.0 x.1))

-- so it is unless the list is as long as its limit
met_unless : (all : Bool) (P : Type 0) (limit n : ℕ) → (all ≡ true → P) → (all ≡ false → limit ≤ n) → n < limit → P
met_unless true P limit n is full less = is refl
met_unless false P limit n is full less = absurd (omega (arith, full refl, less))

pub all_kept : (order : Order) (like : Alikeness) → like.order ≡ order
    → (m : ModuleValue) (args : List ℤ) (limit : ℕ) (ways : List (List ℕ)) (all : List FoundValue) (links : List Edge)
    → (list : List Outcome) (whole : Bool)
    → AreFound (opening_core m args) all → AreLinked (counted like) m ways all links → IsCounting m (counted like)
    → AreAtRest all → AreDifferent like all → (whole ≡ true → AreMet order all links list) → (whole ≡ false → limit ≤ length list)
    → HasKeptIn order m args limit list (length all)
all_kept order like told m args limit ways all links list whole found linked counting rest different met full = record {
  schedules = schedules (opening_core m args) all found;
  many = many_schedules (opening_core m args) all found;
  counts = counted like;
  counting = counting;
  apart = all_apart order like told m args all found rest different;
  ends = λ less. ends_listed order (counted like) m args ways all links list found linked
      (met_unless whole (AreMet order all links list) limit (length list) met full less);
}

-- ---- as they are printed, and rising

pub printed_shown : (m : ModuleValue) (args : List ℤ) (list : List Outcome) → AreShownIn order.Printed m args list → AreShown m args list
printed_shown m args list shown k x there = let h = shown k x there in subst (IsOutcome m args (schedule_of x.log.items)) (sym h.2) h.1

pub sets_shown : (m : ModuleValue) (args : List ℤ) (list : List Outcome) → AreShownIn order.Rising m args list → AreSetsShown m args list
sets_shown m args list shown k x there =
    let h = shown k x there in (
      subst IsRising (sym h.2) (is_rising h.0),
      h.0,
      h.1,
      λ n. same_rising h.0 n ∙ ap (count_by (int_eq n)) (sym h.2),
    )

pub sets_distinct : (m : ModuleValue) (args : List ℤ) (list : List Outcome) → AreShownIn order.Rising m args list → AreDistinct list
    → AreSetsDistinct list
sets_distinct m args list shown distinct i j x y hi hj same =
    distinct i j x y hi hj (one_rising x.numbers.items y.numbers.items (sets_shown m args list shown i x hi).0 (sets_shown m args list shown j y hj).0 same)

pub sets_all : (m : ModuleValue) (args : List ℤ) (list : List Outcome) → AreAllIn order.Rising m args list → AreSetsAll m args list
sets_all m args list all schedule numbers o =
    let h = all schedule numbers o in (h.0, h.1, h.2, λ n. same_rising numbers n ∙ ap (count_by (int_eq n)) (sym h.3))

pub printed_kept : (m : ModuleValue) (args : List ℤ) (limit : ℕ) (list : List Outcome) (entries : ℕ)
    → HasKeptIn order.Printed m args limit list entries
    → HasKept m args false limit list entries
printed_kept m args limit list entries kept = record {
  schedules = kept.schedules;
  many = kept.many;
  counts = kept.counts;
  counting = kept.counting;
  apart = record {
    legal = kept.apart.legal;
    apart = λ i j p q w v hi hj lead_w lead_v alike. kept.apart.apart i j p q w v hi hj lead_w lead_v alike refl;
  };
  ends = kept.ends;
}

pub sets_kept : (m : ModuleValue) (args : List ℤ) (limit : ℕ) (list : List Outcome) (entries : ℕ)
    → HasKeptIn order.Rising m args limit list entries
    → HasKept m args true limit list entries
sets_kept m args limit list entries kept = record {
  schedules = kept.schedules;
  many = kept.many;
  counts = kept.counts;
  counting = kept.counting;
  apart = record {
    legal = kept.apart.legal;
    apart = λ i j p q w v hi hj lead_w lead_v alike same.
        let first = printed m p (opening m args) in
        let second = printed m q (opening m args) in
        kept.apart.apart i j p q w v hi hj lead_w lead_v alike
        (one_rising (rising first) (rising second) (is_rising first) (is_rising second) (λ n. sym (same_rising first n) ∙ same n
        ∙ same_rising second n));
  };
  ends = λ less k p numbers there o.
      let h = kept.ends less k p numbers there o in (h.0, h.1, h.2, λ n. same_rising numbers n ∙ ap (count_by (int_eq n)) (sym h.3));
}
