-- Rounds of the first of those who can take a step leave no processor idle.
use Rattle.std.proofs.Common.{◌≡◌, ◌∙◌, ℕ, ℤ, zero, suc, ◌+◌, ◌-◌, ◌*◌, ◌/◌, ◌<◌, ◌≤◌, true, List, [], ◌∷◌, length, take, Some, inl, inr}
use Rattle.std.proofs.Common.{refl, sym, ap, subst, arith}
use Rattle.std.proofs.lemmas.Bool.{cases_eq}
use Rattle.xk_types.specs.declared.world.Entry.{Entry}
use Rattle.xk_types.specs.Acceptance.{IsAccepted}
use Rattle.xk_types.specs.Code.{IsWithinLimits, ModuleValue}
use Rattle.xk_types.specs.Schedule.{all_ended, is_enabled}
use Rattle.xk_types.specs.World.{AreArguments, World, opening}
use Rattle.xk_law_traces.specs.Edges.{turns_of}
use Rattle.xk_law_traces.specs.OneRun.{IsWholeRun}
use Rattle.xk_law_traces.specs.RaceFreedom.{HasNoRace}
use Rattle.xk_law_rounds.specs.Rounds.{IsSpan, steps_in}
use Rattle.xk_law_rounds.specs.Processors.{AreBusy}
use Rattle.xk_law_rounds.proofs.BusyLaw.{at_most_all, rounds_of, span_at_least, within_of, work_at_least}
use Rattle.xk_scheduler.specs.Choosers.{enabled_in}
use Rattle.xk_scheduler.proofs.LocalRunLemmas.{enabled_within}
use Rattle.xk_greedy.specs.Rounds.{AreRoundsBy, IsByRounds}
use Rattle.xk_greedy.proofs.GreedyLemmas.{other_turn, own_turn, turns_once, turns_pass, turns_there}
use Rattle.xk_greedy.proofs.SpanLemmas.{whole_run}

-- ---- the first of a list

turns_first : (a n : ℕ) (xs : List ℕ) → turns_of a (take n xs) ≤ turns_of a xs
turns_first a zero xs = omega arith
turns_first a (suc n) [] = omega arith
turns_first a (suc n) (x ∷ xs) = elim (cases_eq x a) [
  | inl same ↦ subst (λ b. turns_of a (b ∷ take n xs) ≤ turns_of a (b ∷ xs)) (sym same)
      (let rest = turns_first a n xs in omega (arith, rest, own_turn a xs, own_turn a (take n xs)))
  | inr ne ↦ (let rest = turns_first a n xs in omega (arith, rest, other_turn a x xs ne, other_turn a x (take n xs) ne))
]

first_few : (n : ℕ) (xs : List ℕ) → length (take n xs) ≤ n
first_few zero xs = omega arith
first_few (suc n) [] = omega arith
first_few (suc n) (x ∷ xs) = let rest = first_few n xs in omega (arith, rest)

-- all of them, where there are fewer
first_all : (n : ℕ) (xs : List ℕ) → length (take n xs) < n → take n xs ≡ xs
first_all zero xs less = absurd (omega (arith, less))
first_all (suc n) [] less = refl
first_all (suc n) (x ∷ xs) less = ap (λ l. x ∷ l) (first_all n xs (omega (arith, less)))

-- ---- the laws

pub busy : (m : ModuleValue) (w z : World) (p : ℕ) (rounds : List (List ℕ)) → AreRoundsBy (Some p) m w rounds z
    → AreBusy p m w rounds z
busy m w z p [] h = h
busy m w z p (r ∷ rs) h = (
  h.0,
  record {
    round = record {
      enabled = λ a some. turns_pass (is_enabled m w) a 0 (length w.activities)
          (let less = turns_first a p (enabled_in m w) in
          let here = subst (λ l. 0 < turns_of a l) h.1.chosen_are some in
          omega (arith, less, here));
      once = λ a. subst (λ l. turns_of a l ≤ 1) (sym h.1.chosen_are)
          (let less = turns_first a p (enabled_in m w) in
          let one = turns_once (is_enabled m w) a 0 (length w.activities) in
          omega (arith, less, one));
      leads = h.1.leads;
    };
    some = h.1.some;
    within = subst (λ l. length l ≤ p) (sym h.1.chosen_are) (first_few p (enabled_in m w));
    busy = λ less a able. subst (λ l. 0 < turns_of a l)
        (sym (h.1.chosen_are ∙ first_all p (enabled_in m w) (subst (λ l. length l < p) h.1.chosen_are less)))
        (turns_there (is_enabled m w) a 0 (length w.activities) able (omega arith)
        (let inside = enabled_within m w a able in omega (arith, inside)));
  },
  busy m h.0 z p rs h.2,
)

module _ (m : ModuleValue) (args : List ℤ) (log : List Entry) (s : List ℕ) (y z : World) (p n count : ℕ)
    (limits : IsWithinLimits m) (ok : IsAccepted m) (taken : AreArguments m args) (some : 0 < p)
    (one : IsWholeRun m args s y) (free : HasNoRace m (opening m args) s) (span : IsSpan m (opening m args) s n)
    (by : IsByRounds (Some p) m args log z count) (over : all_ended z ≡ true) where
  are : AreBusy p m (opening m args) by.rounds z
  are = busy m (opening m args) z p by.rounds by.are

  whole : IsWholeRun m args (steps_in by.rounds) z
  whole = whole_run (Some p) m args log z count by over

  pub least_span : n ≤ count
  least_span = subst (λ k. n ≤ k) by.as_many
      (span_at_least m args s y z n by.rounds limits ok taken one free span (rounds_of p m (opening m args) z by.rounds are) whole)

  pub least_work : length s ≤ p * count
  least_work = subst (λ k. length s ≤ p * k) by.as_many
      (work_at_least m args s y z p by.rounds limits ok taken one free (within_of p m (opening m args) z by.rounds are) whole)

  pub most : count ≤ (length s - n) / p + n
  most = subst (λ k. k ≤ (length s - n) / p + n) by.as_many
      (at_most_all m args s y z p n by.rounds limits ok taken some one free span are whole)
