-- Private steps come to an end: who is settled is at rest.
use Rattle.std.proofs.Common.{◌≡◌, ◌∙◌, ℕ, zero, suc, ◌<◌, ◌≤◌, ◌⊎◌, inl, inr, Bool}
use Rattle.std.proofs.Common.{true, false, List, length, Option, Some, None, refl, sym, ap, subst, arith}
use Rattle.std.proofs.lemmas.Option.{none-some, slice_get_within}
use Rattle.xk_types.specs.Acceptance.{IsAccepted}
use Rattle.xk_types.specs.Bound.{steps_bound}
use Rattle.xk_types.specs.Code.{IsWithinLimits}
use Rattle.xk_types.specs.World.{AreArguments, opening}
use Rattle.xk_types.specs.Step.{Stepped, step}
use Rattle.xk_types.specs.Schedule.{IsReached, Through, run}
use Rattle.xk_law_schedules.proofs.ReachabilityLemmas.{reached_room, run_arguments}
use Rattle.xk_law_schedules.proofs.StepCountLemmas.{step_counts}
use Rattle.xk_outcomes.specs.PrivateSteps.{has_private_step}
use Rattle.xk_law_commute.proofs.ChangeSquareLemmas.{found_of}
use Rattle.xk_law_commute.proofs.QuietStepLaw.{enabled_step}
use Rattle.xk_core.specs.Core.{CoreValue}
use Rattle.xk_outcomes.specs.Found.{FoundValue, at_rest, least, least_private, one_more, or_this, settled, with_outcome, with_step}
use Rattle.xk_outcomes.specs.Outcomes.{IsAtRest}
use Rattle.xk_outcomes.specs.Search.{AreAtRest, AreSettled, IsFound}
use Rattle.xk_outcomes.proofs.PrivateStepLemmas.{private_enabled}
use Rattle.xk_outcomes.proofs.FoundLemmas.{found_settled, found_with_step, least_passes}

-- ---- nobody has a private step

-- where there is none that passes, none below does
pub none_passes : (passes : ℕ → Bool) (n : ℕ) → least passes n ≡ None → (a : ℕ) → a < n → passes a ≡ false
none_passes passes zero none a less = absurd (omega (arith, less))
none_passes passes (suc n) none a less = by (least passes n) (passes n) refl refl none (none_passes passes n) (split a n less)
  where
    split : (i j : ℕ) → i < suc j → (i < j) ⊎ (i ≡ j)
    split i j h = grind arith

    by : (o : Option ℕ) (b : Bool) → least passes n ≡ o → passes n ≡ b → or_this o b n ≡ None
        → (least passes n ≡ None → (k : ℕ) → k < n → passes k ≡ false) → (a < n) ⊎ (a ≡ n) → passes a ≡ false
    by (Some c) b e f g before s = absurd (none-some c (sym g))
    by None true e f g before s = absurd (none-some n (sym g))
    by None false e f g before (inl l) = before e a l
    by None false e f g before (inr same) = ap passes same ∙ f

-- who isn't there has none
nobody_private : (c : CoreValue) → least_private c ≡ None → IsAtRest c.module_run c.world
nobody_private c none a = by (has_private_step c.module_run c.world a) refl
  where
    by : (b : Bool) → has_private_step c.module_run c.world a ≡ b → b ≡ false
    by false q = refl
    by true q =
        let m = c.module_run in
        let w = c.world in
        let taken = enabled_step (step m w a) (private_enabled m w a q) in
        let act = found_of m w a taken.0 taken.1 taken.2 in
        let inside = slice_get_within w.activities a act.0 act.1 in
        sym q ∙ none_passes (has_private_step m w) (length w.activities) none a inside

-- ---- each private step is counted

-- there is none, or the next one is a step more
step_more : (y : FoundValue) (n : ℕ) → n ≤ y.core.world.steps → (o : Option ℕ) → least_private y.core ≡ o
    → (o ≡ None) ⊎ (suc n ≤ (with_step y o).core.world.steps)
step_more y n before None is = inl refl
step_more y n before (Some a) is =
    let m = y.core.module_run in
    let w = y.core.world in
    let taken = enabled_step (step m w a) (private_enabled m w a (least_passes (has_private_step m w) (length w.activities) a is)) in
    let here : one_more a y ≡ with_outcome y a (Stepped taken.0 taken.1) = ap (with_outcome y a) taken.2 in
    let counted = step_counts m w taken.0 a taken.1 taken.2 in
    inr (subst (λ (z : FoundValue). suc n ≤ z.core.world.steps) (sym here) (omega (arith, counted, before)))

-- where there is none, none is taken
stays_none : (y : FoundValue) → least_private y.core ≡ None → least_private (with_step y (least_private y.core)).core ≡ None
stays_none y none = ap (λ o. least_private (with_step y o).core) none ∙ none

-- behind so many private steps there is none more, or so many steps were taken
rests_or_counts : (x : FoundValue) (n : ℕ) → (least_private (settled n x).core ≡ None) ⊎ (n ≤ (settled n x).core.world.steps)
rests_or_counts x zero = inr (omega arith)
rests_or_counts x (suc n) = by (rests_or_counts x n)
  where
    y : FoundValue
    y = settled n x

    after : (least_private y.core ≡ None) ⊎ (suc n ≤ (with_step y (least_private y.core)).core.world.steps)
        → (least_private (with_step y (least_private y.core)).core ≡ None) ⊎ (suc n ≤ (with_step y (least_private y.core)).core.world.steps)
    after (inl none) = inl (stays_none y none)
    after (inr more) = inr more

    by : (least_private y.core ≡ None) ⊎ (n ≤ y.core.world.steps)
        → (least_private (with_step y (least_private y.core)).core ≡ None) ⊎ (suc n ≤ (with_step y (least_private y.core)).core.world.steps)
    by (inl none) = inl (stays_none y none)
    by (inr before) = after (step_more y n before (least_private y.core) refl)

-- ---- no run has more steps than are verified

module _ (start : CoreValue) (limits : IsWithinLimits start.module_run) (ok : IsAccepted start.module_run) (taken : AreArguments start.module_run start.world.arguments)
    (begins : start.world ≡ opening start.module_run start.world.arguments) where
  pub found_reached : (x : FoundValue) → IsFound start x → IsReached start.module_run x.core.world
  found_reached x f =
      let m = start.module_run in
      let same = sym (run_arguments m f.0 start.world x.core.world f.1.legal) in (
        f.0,
        (
          subst (AreArguments m) same taken,
          subst (λ args. run m f.0 (opening m args) ≡ Through x.core.world) same (subst (λ w. run m f.0 w ≡ Through x.core.world) begins f.1.legal),
        ),
      )

  pub steps_within : (x : FoundValue) → IsFound start x → x.core.world.steps ≤ steps_bound start.module_run
  steps_within x f = (reached_room start.module_run limits ok x.core.world (found_reached x f)).steps

  too_many : (x : FoundValue) → IsFound start x → suc (steps_bound start.module_run) ≤ x.core.world.steps → ⊥
  too_many x f more = let room = steps_within x f in omega (arith, room, more)

  rests_all : (x : FoundValue) → IsFound start x → (n : ℕ) → n ≡ steps_bound start.module_run → least_private (settled n x).core ≡ None
  rests_all x f n all = by (rests_or_counts x n)
    where
      y : FoundValue
      y = settled n x

      after : (least_private y.core ≡ None) ⊎ (suc n ≤ (with_step y (least_private y.core)).core.world.steps) → least_private y.core ≡ None
      after (inl none) = none
      after (inr more) =
          absurd (too_many (with_step y (least_private y.core)) (found_with_step start y (least_private y.core) (found_settled start x n f))
          (subst (λ k. suc k ≤ (with_step y (least_private y.core)).core.world.steps) all more))

      by : (least_private y.core ≡ None) ⊎ (n ≤ y.core.world.steps) → least_private y.core ≡ None
      by (inl none) = none
      by (inr before) = after (step_more y n before (least_private y.core) refl)

  -- one that is settled is at rest
  settled_rests : (x : FoundValue) → IsFound start x → least_private (at_rest x).core ≡ None
  settled_rests x f = rests_all x f (steps_bound x.core.module_run) (ap steps_bound f.1.module_is)

  pub all_rest : (all : List FoundValue) → AreSettled start all → AreAtRest all
  all_rest all settles k x there =
      let s = settles k x there in
      subst (λ (y : FoundValue). IsAtRest y.core.module_run y.core.world) (sym s.2) (nobody_private (at_rest s.0).core (settled_rests s.0 s.1))
