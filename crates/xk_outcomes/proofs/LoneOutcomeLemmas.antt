-- A run that speaks for all shows the one outcome.
use Rattle.std.proofs.Common.{◌≡◌, ◌∙◌, ℕ, ℤ, zero, suc, Bool, true, List, [], ◌∷◌, Option, None, Some, refl, sym, ap, subst}
use Rattle.std.proofs.Common.{true≢false}
use Rattle.std.specs.Prelude.{count_by, is_none, slice_get, IfNone}
use Rattle.std.specs.Ordering.{int_eq}
use Rattle.std.proofs.lemmas.Bool.{and_parts}
use Rattle.std.proofs.lemmas.Option.{none-some, same_Some}
use Rattle.xk_types.specs.declared.world.Entry.{Entry}
use Rattle.xk_types.specs.Acceptance.{IsAccepted}
use Rattle.xk_types.specs.Code.{IsWithinLimits, ModuleValue}
use Rattle.xk_types.specs.World.{AreArguments, opening}
use Rattle.xk_types.specs.Logs.{schedule_of}
use Rattle.xk_law_traces.specs.OneRun.{IsWholeRun}
use Rattle.xk_law_races.proofs.SpeaksForAllLaw.{every, prints_every}
use Rattle.xk_scheduler.specs.Choosers.{Follows}
use Rattle.xk_scheduler.specs.WholeRuns.{IsLogThat, IsRunThat}
use Rattle.xk_scheduler.proofs.UnloggedRunLemmas.{follows_any, run_weaker}
use Rattle.xk_races.specs.Races.{gap_in, is_race_free, sights_of_run}
use Rattle.xk_ranks.specs.Reads.{IsCounting}
use Rattle.xk_outcomes.specs.declared.listing.Outcome.{Outcome}
use Rattle.xk_outcomes.specs.declared.order.Order.{Order}
use Rattle.xk_outcomes.specs.declared.order.Order.TheVariants as order
use Rattle.xk_outcomes.specs.LoneOutcomes.{IsLone, speaks_for_all}
use Rattle.xk_outcomes.specs.Listing.{HasKeptIn}
use Rattle.xk_outcomes.specs.Outcomes.{AreDistinct, IsOutcome}
use Rattle.xk_outcomes.specs.PlainRuns.{IsOutcomeOf}
use Rattle.xk_outcomes.specs.Rising.{ordered, rising}
use Rattle.xk_outcomes.proofs.PlainRunLemmas.{run_shown}
use Rattle.xk_outcomes.proofs.RisingLemmas.{is_rising, one_rising, same_rising}

none_of : {A : Type 0} (o : Option A) → is_none o ≡ true → o ≡ None
none_of None h = refl
none_of (Some x) h = absurd (true≢false (sym h))

module _ (m : ModuleValue) (args : List ℤ) (limits : IsWithinLimits m) (ok : IsAccepted m) (taken : AreArguments m args) where
  whole : (s : List ℕ) (numbers : List ℤ) (x : IsOutcome m args s numbers) → IsWholeRun m args s x.last
  whole s numbers x = record { legal = x.legal; ended = x.over }

  -- what the run of the outcome's log prints, told in this order, is what every run prints, told in it
  one_told : (order : Order) (Has : List ℕ → Type 0) (o : Outcome) (h : IsOutcomeOf order Has m args o)
      → speaks_for_all order m args o.log.items ≡ true
      → (s : List ℕ) (numbers : List ℤ) → IsOutcome m args s numbers → ordered order h.printed ≡ ordered order numbers
  one_told order.Printed Has o h speaks s numbers x =
      let log = o.log.items in
      let mine = run_shown order.Printed Has m args o h in
      let free = (and_parts (is_race_free m args log) _ speaks).0 in
      let none = none_of (gap_in (sights_of_run m args log)) (and_parts (is_race_free m args log) _ speaks).1 in
      sym mine.prints
      ∙ prints_every m args limits ok taken log mine.last (whole (schedule_of log) h.printed mine) free none s x.last (whole s numbers x)
      ∙ x.prints
  one_told order.Rising Has o h speaks s numbers x =
      let log = o.log.items in
      let mine = run_shown order.Rising Has m args o h in
      let come = every m args limits ok taken log mine.last (whole (schedule_of log) h.printed mine) speaks s x.last (whole s numbers x) in
      one_rising (rising h.printed) (rising numbers) (is_rising h.printed) (is_rising numbers)
      (λ n. sym (same_rising h.printed n) ∙ ap (count_by (int_eq n)) (sym mine.prints) ∙ come.numbers n ∙ ap (count_by (int_eq n)) x.prints
      ∙ same_rising numbers n)

  pub lone : (order : Order) (Has : List ℕ → Type 0) (o : Outcome) → IsOutcomeOf order Has m args o
      → speaks_for_all order m args o.log.items ≡ true
      → IsLone order m args o
  lone order Has o h speaks = record {
    shown = alone;
    all = λ s numbers x. (0, o, refl, h.told ∙ one_told order Has o h speaks s numbers x);
  }
    where
      alone : (k : ℕ) (p : Outcome) → slice_get (o ∷ []) k ≡ Some p
          → (numbers : List ℤ) × IsOutcome m args (schedule_of p.log.items) numbers × (p.numbers.items ≡ ordered order numbers)
      alone zero p there =
          subst (λ (q : Outcome). (numbers : List ℤ) × IsOutcome m args (schedule_of q.log.items) numbers
          × (q.numbers.items ≡ ordered order numbers))
          (same_Some o p there) (h.printed, run_shown order Has m args o h, h.told)
      alone (suc k) p there = absurd (none-some p there)

-- ---- a run in the order `first`

-- its chooser has no state
pub first_run : {S : Type 0} (m : ModuleValue) (args : List ℤ) (s : S) (log : List Entry) (numbers : List ℤ) (steps : ℕ)
    → IsRunThat (IsLogThat (Follows {S = S} (λ z enabled. 0) (λ z enabled. z) m s (opening m args)) log) m args numbers steps
    → IsRunThat (IsLogThat (Follows {S = Unit {0}} (λ z enabled. 0) (λ z enabled. z) m tt (opening m args)) log) m args numbers steps
first_run m args s log numbers steps r =
    run_weaker _ _ m args numbers steps
    (λ list h. record {
      follows = follows_any (λ enabled. 0) m s list (opening m args) h.follows;
      stands_for = h.stands_for;
      single = h.single;
    }) r

-- what is said of a module and arguments that are these
pub of_these : (order : Order) (k m : ModuleValue) (xs args : List ℤ) (log : List Entry) (b : Bool) → k ≡ m → xs ≡ args
    → b ≡ speaks_for_all order k xs log → b ≡ speaks_for_all order m args log
of_these order k m xs args log b same given is =
    is ∙ ap (λ n. speaks_for_all order n xs log) same ∙ ap (λ ys. speaks_for_all order m ys log) given

-- what is said where there is none
pub none_weaker : {A P Q : Type 0} (o : Option A) → (P → Q) → IfNone o P → IfNone o Q
none_weaker None f h = f h
none_weaker (Some x) f h = h

-- ---- an answer with that outcome alone, for which no world is kept

pub alone_distinct : (o : Outcome) → AreDistinct (o ∷ [])
alone_distinct o zero zero x y hi hj same = refl
alone_distinct o zero (suc j) x y hi hj same = absurd (none-some y hj)
alone_distinct o (suc i) j x y hi hj same = absurd (none-some x hi)

-- tables that have everything
all_counting : (m : ModuleValue) → IsCounting m (record { live = λ u p s. true; rest = λ u p j. true })
all_counting m = record {
  liveness = λ f i s here h. refl;
  rests = record {
    own = λ f i e. refl;
    on = λ u p j h. refl;
    goes = λ f i j q e behind h. refl;
    calls = λ f t args j e h. refl;
    starts = λ f t args j e h. refl;
  };
  tells = λ u p d s. refl;
}

pub none_kept : (order : Order) (m : ModuleValue) (args : List ℤ) (limit : ℕ) (list : List Outcome) → HasKeptIn order m args limit list 0
none_kept order m args limit list = record {
  schedules = [];
  many = refl;
  counts = record { live = λ u p s. true; rest = λ u p j. true };
  counting = all_counting m;
  apart = record {
    legal = λ k p there. absurd (none-some p there);
    apart = λ i j p q w v here there to_w to_v alike same. absurd (none-some p here);
  };
  ends = λ less k p numbers there o. absurd (none-some p there);
}
