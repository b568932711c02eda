-- What a run before any search leaves listed.
use Rattle.std.proofs.Common.{◌≡◌, ◌∙◌, ℕ, ℤ, ◌+◌, ◌≤◌, ◌⊎◌, inl, inr, false, true}
use Rattle.std.proofs.Common.{List, [], ◌∷◌, ◌++◌, length, Some, sym, ap, subst, arith, slice_get}
use Rattle.std.specs.Prelude.{count_by}
use Rattle.std.specs.Ordering.{int_eq}
use Rattle.std.proofs.lemmas.Option.{none-some}
use Rattle.xk_types.specs.Code.{ModuleValue}
use Rattle.xk_types.specs.World.{opening}
use Rattle.xk_types.specs.Schedule.{Through, run, printed}
use Rattle.xk_types.specs.Logs.{schedule_of}
use Rattle.xk_scheduler.specs.WholeRuns.{IsRunBy, IsRunThat}
use Rattle.xk_scheduler.proofs.UnloggedRunLemmas.{follows_any, run_weaker}
use Rattle.xk_outcomes.specs.declared.listing.Outcome.{Outcome}
use Rattle.xk_outcomes.specs.declared.order.Order.{Order}
use Rattle.xk_outcomes.specs.declared.order.Order.TheVariants as order
use Rattle.xk_outcomes.specs.Rising.{ordered}
use Rattle.xk_outcomes.specs.Listing.{AreShownIn, KeepsListed}
use Rattle.xk_outcomes.specs.Outcomes.{AreDistinct, IsListed, IsOutcome}
use Rattle.xk_outcomes.specs.PlainRuns.{ArePlainListedAs, ArePlainListedIn, IsListedIn, IsOutcomeOf, ListsMore, OfPlainRuns, OfPrinted}
use Rattle.xk_outcomes.specs.Sets.{IsSetListed}
use Rattle.xk_outcomes.proofs.ListingLemmas.{distinct_none}
use Rattle.xk_outcomes.proofs.RisingLemmas.{same_rising}
use Rattle.xk_readings.proofs.ListLemmas.{place}

-- ---- one run

-- its log shows what it prints
pub run_shown : (order : Order) (Has : List ℕ → Type 0) (m : ModuleValue) (args : List ℤ) (o : Outcome) (h : IsOutcomeOf order Has m args o)
    → IsOutcome m args (schedule_of o.log.items) h.printed
run_shown order Has m args o h =
    let r = h.run in
    let list_is : r.list ≡ schedule_of o.log.items = r.follows.stands_for in
    record {
      last = r.last;
      legal = subst (λ l. run m l (opening m args) ≡ Through r.last) list_is
          (subst (λ xs. run m r.list (opening m xs) ≡ Through r.last) r.given r.leads.1);
      over = r.over;
      prints = ap (λ l. printed m l (opening m args)) (sym list_is) ∙ sym r.numbers_are;
    }

shown_push : (order : Order) (Has : List ℕ → Type 0) (m : ModuleValue) (args : List ℤ) (old new : List Outcome) (o : Outcome)
    → new ≡ old ++ o ∷ [] → IsOutcomeOf order Has m args o → AreShownIn order m args old → AreShownIn order m args new
shown_push order Has m args old new o e h before k p there =
    by (place old o k p (subst (λ (l : List Outcome). slice_get l k ≡ Some p) e there))
  where
    Shown : Outcome → Type 0
    Shown q = (numbers : List ℤ) × IsOutcome m args (schedule_of q.log.items) numbers × (q.numbers.items ≡ ordered order numbers)

    by : (slice_get old k ≡ Some p) ⊎ ((k ≡ length old) × (o ≡ p)) → Shown p
    by (inl a) = before k p a
    by (inr b) = subst Shown b.1 (h.printed, run_shown order Has m args o h, h.told)

-- where it is listed, whether or not it was before
pub shown_either : (order : Order) (Has : List ℕ → Type 0) (m : ModuleValue) (args : List ℤ) (old new : List Outcome) (o : Outcome)
    → (new ≡ old) ⊎ (new ≡ old ++ o ∷ []) → IsOutcomeOf order Has m args o → AreShownIn order m args old → AreShownIn order m args new
shown_either order Has m args old new o (inl e) h before = subst (AreShownIn order m args) (sym e) before
shown_either order Has m args old new o (inr e) h before = shown_push order Has m args old new o e h before

pub of_outcome : (order : Order) (Has : List ℕ → Type 0) (m : ModuleValue) (args : List ℤ) (o : Outcome) (list : List Outcome)
    → IsOutcomeOf order Has m args o → IsListed list o.numbers.items → OfPrinted (IsRunThat Has m args) (IsListedIn order list)
of_outcome order Has m args o list h there =
    (h.printed, h.steps, run_weaker _ _ m args h.printed h.steps (λ l f. f.follows) h.run, subst (IsListed list) h.told there)

-- what was listed stays so
pub of_kept : (Runs : List ℤ → ℕ → Type 0) (order : Order) (old new : List Outcome) → KeepsListed old new
    → OfPrinted Runs (IsListedIn order old)
    → OfPrinted Runs (IsListedIn order new)
of_kept Runs order old new kept h = (h.0, h.1, h.2, kept (ordered order h.0) h.3)

-- a chooser that has no state
pub without_state : {S : Type 0} (place : List ℕ → ℕ) (m : ModuleValue) (args : List ℤ) (s : S) (P : List ℤ → Type 0)
    → OfPrinted (IsRunBy {S = S} (λ z enabled. place enabled) (λ z enabled. z) m args s) P
    → OfPrinted (IsRunBy {S = Unit {0}} (λ z enabled. place enabled) (λ z enabled. z) m args tt) P
without_state place m args s P h =
    (h.0, h.1, run_weaker _ _ m args h.0 h.1 (λ list f. follows_any place m s list (opening m args) f) h.2, h.3)

-- ---- more and more

pub more_none : (order : Order) (m : ModuleValue) (args : List ℤ) (list : List Outcome) → ListsMore order m args 0 list list
more_none order m args list = record { distinct = λ d. d; shown = λ s. s; kept = λ numbers h. h; few = omega arith }

pub more_then : (order : Order) (m : ModuleValue) (args : List ℤ) (j k n : ℕ) (old mid new : List Outcome) → j + k ≤ n
    → ListsMore order m args j old mid → ListsMore order m args k mid new → ListsMore order m args n old new
more_then order m args j k n old mid new within f g = record {
  distinct = λ d. g.distinct (f.distinct d);
  shown = λ s. g.shown (f.shown s);
  kept = λ numbers h. g.kept numbers (f.kept numbers h);
  few = let first = f.few in let second = g.few in omega (arith, within, first, second);
}

pub more_weaker : (order : Order) (m : ModuleValue) (args : List ℤ) (k n : ℕ) (old new : List Outcome) → k ≤ n
    → ListsMore order m args k old new
    → ListsMore order m args n old new
more_weaker order m args k n old new within h = record {
  distinct = h.distinct;
  shown = h.shown;
  kept = h.kept;
  few = let few = h.few in omega (arith, within, few);
}

pub more_of_none : (order : Order) (m : ModuleValue) (args : List ℤ) (n : ℕ) (old new : List Outcome) → old ≡ []
    → ListsMore order m args n old new
    → AreDistinct new × AreShownIn order m args new × (length new ≤ n)
more_of_none order m args n old new none h = (
  h.distinct (distinct_none old none),
  h.shown (λ k o there. absurd (none-some o (subst (λ (l : List Outcome). slice_get l k ≡ Some o) none there))),
  let few = h.few in let empty : length old ≡ 0 = ap (λ (l : List Outcome). length l) none in omega (arith, few, empty),
)

-- a seed more
pub seeds_more : (P : ℕ → Type 0) (i : ℕ) → ((seed : ℕ) → 1 ≤ seed → seed ≤ i → P seed) → P (i + 1) → (seed : ℕ) → 1 ≤ seed → seed ≤ i + 1
    → P seed
seeds_more P i before last seed least most = by (split seed i most)
  where
    split : (s n : ℕ) → s ≤ n + 1 → (s ≤ n) ⊎ (s ≡ n + 1)
    split s n h = grind arith

    by : (seed ≤ i) ⊎ (seed ≡ i + 1) → P seed
    by (inl l) = before seed least l
    by (inr e) = subst P (sym e) last

-- ---- all of them

each_run : (m : ModuleValue) (args : List ℤ) (P Q : List ℤ → Type 0) → ((numbers : List ℤ) → P numbers → Q numbers)
    → OfPlainRuns m args P
    → OfPlainRuns m args Q
each_run m args P Q f h = record {
  first = (h.first.0, h.first.1, h.first.2, f h.first.0 h.first.3);
  last = (h.last.0, h.last.1, h.last.2, f h.last.0 h.last.3);
  round = (h.round.0, h.round.1, h.round.2, f h.round.0 h.round.3);
  chance = λ seed least most. let r = h.chance seed least most in (r.0, r.1, r.2, f r.0 r.3);
}

pub plain_kept : (order : Order) (m : ModuleValue) (args : List ℤ) (old new : List Outcome) → KeepsListed old new
    → ArePlainListedIn order m args old
    → ArePlainListedIn order m args new
plain_kept order m args old new kept h = each_run m args (IsListedIn order old) (IsListedIn order new)
    (λ numbers. kept (ordered order numbers)) h

pub printed_plain : (m : ModuleValue) (args : List ℤ) (list : List Outcome) → ArePlainListedIn order.Printed m args list
    → ArePlainListedAs false m args list
printed_plain m args list h = each_run m args (IsListedIn order.Printed list) (IsListed list) (λ numbers there. there) h

pub sets_plain : (m : ModuleValue) (args : List ℤ) (list : List Outcome) → ArePlainListedIn order.Rising m args list
    → ArePlainListedAs true m args list
sets_plain m args list h =
    each_run m args (IsListedIn order.Rising list) (IsSetListed list)
    (λ numbers l. (l.0, l.1, l.2, λ n. same_rising numbers n ∙ ap (count_by (int_eq n)) (sym l.3))) h
