-- There is a run by rounds to the end.
use Rattle.std.proofs.Common.{◌≡◌, ◌∙◌, ℕ, ℤ, zero, suc, ◌+◌, ◌<◌, Bool, true, false, List, [], ◌∷◌, length, Option, refl, ap, arith}
use Rattle.xk_types.specs.Acceptance.{IsAccepted}
use Rattle.xk_types.specs.Bound.{steps_bound}
use Rattle.xk_types.specs.Code.{IsWithinLimits, ModuleValue}
use Rattle.xk_types.specs.Schedule.{Through, all_ended, run, run_on}
use Rattle.xk_types.specs.Step.{step}
use Rattle.xk_types.specs.World.{AreArguments, World, opening}
use Rattle.xk_collections.specs.NumberSets.{IsRising}
use Rattle.xk_law_schedules.proofs.ReachabilityLemmas.{opening_reached}
use Rattle.xk_law_schedules.proofs.StepCountLemmas.{step_counts}
use Rattle.xk_law_commute.proofs.QuietStepLaw.{enabled_step}
use Rattle.xk_core.specs.Core.{IsCore}
use Rattle.xk_core.proofs.CoreLemmas.{core_bound, core_stepped}
use Rattle.xk_scheduler.specs.Choosers.{enabled_in}
use Rattle.xk_greedy.specs.Rounds.{AreRoundsBy, AreSome, chosen}
use Rattle.xk_greedy.specs.Steps.{AreEnabled}
use Rattle.xk_greedy.proofs.StepLemmas.{chosen_enabled, chosen_rise, chosen_some, still_enabled}

-- rising numbers of some who can take a step take one each
all_step : (m : ModuleValue) (acts : List ℕ) (w : World) → IsCore m w → IsRising acts → AreEnabled m w 0 acts
    → (v : World) × (run m acts w ≡ Through v) × IsCore m v × (v.steps ≡ w.steps + length acts)
all_step m [] w core rising able = (w, refl, core, omega arith)
all_step m (a ∷ acts) w core rising able =
    let x = enabled_step (step m w a) (able 0 (omega arith) (omega arith)) in
    let later = still_enabled m w x.0 (a ∷ acts) 0 x.1 core rising (omega arith) x.2 able in
    let rest = all_step m acts x.0 (core_stepped m w x.0 a x.1 core x.2) (λ i. rising (suc i))
    (λ j from inside. later (suc j) (omega arith) (omega (arith, inside))) in
    let one = step_counts m w x.0 a x.1 x.2 in
    let more = rest.3 in
    (rest.0, ap (λ o. run_on w o (run m acts)) x.2 ∙ rest.1, rest.2, omega (arith, one, more))

-- from a core, of which at most n steps are left
rounds_from : (p : Option ℕ) (m : ModuleValue) → AreSome p → (n : ℕ) (w : World) → IsCore m w → steps_bound m < w.steps + n
    → (z : World) × (rounds : List (List ℕ)) × AreRoundsBy p m w rounds z × (all_ended z ≡ true)
rounds_from p m some zero w core left = absurd (let most = core_bound m w core in omega (arith, most, left))
rounds_from p m some (suc n) w core left = by (all_ended w) refl (λ v core_then fewer. rounds_from p m some n v core_then fewer)
  where
    acts : List ℕ
    acts = chosen p (enabled_in m w)

    by : (o : Bool) → all_ended w ≡ o
        → ((v : World) → IsCore m v → steps_bound m < v.steps + n
        → (z : World) × (rounds : List (List ℕ)) × AreRoundsBy p m v rounds z × (all_ended z ≡ true))
        → (z : World) × (rounds : List (List ℕ)) × AreRoundsBy p m w rounds z × (all_ended z ≡ true)
    by true e later = (w, [], refl, e)
    by false e later =
        let v = all_step m acts w core (chosen_rise p m w) (chosen_enabled p m w) in
        let more = chosen_some p m w core some e in
        let count = v.3 in
        let rest = later v.0 v.2 (omega (arith, left, more, count)) in
        (rest.0, acts ∷ rest.1, (v.0, record { chosen_are = refl; some = more; leads = v.1 }, rest.2), rest.3)

pub rounds_exist : (p : Option ℕ) (m : ModuleValue) (args : List ℤ) → IsWithinLimits m → IsAccepted m → AreArguments m args → AreSome p
    → (z : World) × (rounds : List (List ℕ)) × AreRoundsBy p m (opening m args) rounds z × (all_ended z ≡ true)
rounds_exist p m args limits ok taken some =
    rounds_from p m some (suc (steps_bound m)) (opening m args)
    (record { limits = limits; accepted = ok; reached = opening_reached m args taken }) (omega arith)
