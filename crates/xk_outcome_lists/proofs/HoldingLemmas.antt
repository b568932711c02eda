-- What a first look decides.
use Rattle.std.proofs.Common.{◌≡◌, ◌∙◌, ◌≤◌, inl, inr, ℕ, ℤ, Bool, true, false, List, refl, sym, ap, arith, true≢false}
use Rattle.xk_types.specs.Code.{ModuleValue}
use Rattle.xk_outcomes.specs.declared.all_outcomes.Limit.{Limit}
use Rattle.xk_outcome_lists.specs.declared.holding.Verdict.{Verdict}
use Rattle.xk_outcome_lists.specs.declared.holding.Verdict.TheVariants as verdict
use Rattle.xk_outcomes.specs.declared.listing.Outcome.{Outcome}
use Rattle.xk_outcome_lists.specs.Expected.{AreExpected, AreHeld, is_refuted, told_by, verdict_of}
use Rattle.xk_outcomes.specs.Limits.{GoesFar}
use Rattle.xk_outcomes.specs.Sets.{AreAllAs, AreEndsListedAs}

abbrev pub is_undecided : Verdict → Bool
is_undecided verdict.Undecided = true
is_undecided verdict.Complete = false
is_undecided verdict.Refuted = false

-- where all are listed, what any schedules print is
ends_of_all : (sets : Bool) (m : ModuleValue) (args : List ℤ) (schedules : List (List ℕ)) (list : List Outcome) → AreAllAs sets m args list
    → AreEndsListedAs sets m args schedules list
ends_of_all false m args schedules list all = λ k p numbers there o. all p numbers o
ends_of_all true m args schedules list all = λ k p numbers there o. all p numbers o

-- what is complete up to a limit is so up to a greater one
far_of_all : (m : ModuleValue) (args : List ℤ) (sets : Bool) (early limit : Limit) (list : List Outcome) (complete : Bool)
    → complete ≡ true
    → AreAllAs sets m args list → early.outcomes ≤ limit.outcomes → GoesFar m args sets early list complete
    → GoesFar m args sets limit list complete
far_of_all m args sets early limit list complete whole all less h = record {
  entries = h.entries;
  kept = record {
    schedules = h.kept.schedules;
    many = h.kept.many;
    counts = h.kept.counts;
    counting = h.kept.counting;
    apart = h.kept.apart;
    ends = λ few. ends_of_all sets m args h.kept.schedules list all;
  };
  met = λ not_whole. absurd (true≢false (sym whole ∙ not_whole));
  few = let few = h.few in omega (arith, few, less);
}

whole_of : (complete : Bool) → is_undecided (verdict_of complete) ≡ false → complete ≡ true
whole_of true h = refl
whole_of false h = absurd (true≢false h)

-- the list is refuted, or has all of a complete answer
whole_unless : (told : List (List ℕ)) (list : List Outcome) (complete : Bool) (text : List ℕ) (found : Verdict) → is_undecided found ≡ false
    → is_refuted found ≡ false → AreHeld told list complete text found → complete ≡ true
whole_unless told list complete text found sure stands (inl (place, x, first, line, refuted)) =
    absurd (true≢false (sym (ap is_refuted refuted) ∙ stands))
whole_unless told list complete text found sure stands (inr (told_all, line, is)) =
    whole_of complete (sym (ap is_undecided is) ∙ sure)

-- what isn't undecided up to a limit is said of a greater one
pub decided : (m : ModuleValue) (args : List ℤ) (sets : Bool) (early limit : Limit) (bytes text : List ℕ) (found : Verdict)
    → is_undecided found ≡ false → early.outcomes ≤ limit.outcomes → AreExpected m args sets early bytes text found
    → AreExpected m args sets limit bytes text found
decided m args sets early limit bytes text found sure less h = record {
  list = h.list;
  complete = h.complete;
  shown = h.shown;
  distinct = h.distinct;
  all = h.all;
  lone = h.lone;
  plain = h.plain;
  far = λ stands.
      let whole = whole_unless (told_by bytes) h.list h.complete text found sure stands h.held in
      far_of_all m args sets early limit h.list h.complete whole (h.all whole) less (h.far stands);
  may_stand = h.may_stand;
  held = h.held;
}
