-- Who can take a step still can after one of an activity with a smaller number.
use Rattle.std.proofs.Common.{◌≡◌, ◌∙◌, ℕ, ◌<◌, true, false, true≢false, Option, Some, None, slice_get, length, refl, sym, arith}
use Rattle.std.specs.Option.{option_map_or}
use Rattle.xk_types.specs.declared.world.Event.{Event}
use Rattle.xk_types.specs.declared.world.Status.{Status}
use Rattle.xk_types.specs.declared.world.Status.TheVariants as status
use Rattle.xk_types.specs.Code.{ModuleValue}
use Rattle.xk_types.specs.World.{Activity, World}
use Rattle.xk_types.specs.Step.{Stepped, step, step_by, step_of, waits}
use Rattle.xk_types.specs.Schedule.{is_step, is_enabled}
use Rattle.xk_types.proofs.MembershipLemmas.{same_test}
use Rattle.xk_core.specs.Core.{IsCore, is_arrived, is_waiting}
use Rattle.xk_scheduler.proofs.BlockingClockLemmas.{free_on}
use Rattle.xk_scheduler.proofs.IndependenceLemmas.{governor_within, steps_within, untouched_by}
use Rattle.xk_scheduler.proofs.LocalRunLemmas.{enabled_within}

-- who waits at an `advance`, and is held back there, can't take a step
held_off : (m : ModuleValue) (w : World) (b : ℕ) → is_waiting w b ≡ true → waits w b ≡ true → is_enabled m w b ≡ false
held_off m w b h on = of (slice_get w.activities b) h
  where
    by : (x : Activity) (s : Status) → is_arrived s ≡ true → is_step (step_by m w b x s) ≡ false
    by x status.Running g = absurd (true≢false (sym g))
    by x status.Arrived g = rw on refl
    by x status.Ended g = absurd (true≢false (sym g))

    of : (o : Option Activity) → option_map_or (λ (y : Activity). is_arrived y.status) o false ≡ true
        → is_step (step_of m w b o) ≡ false
    of None g = absurd (true≢false (sym g))
    of (Some x) g = by x x.status g

pub still : (m : ModuleValue) (w v : World) (a b : ℕ) (e : Event) → IsCore m w → step m w a ≡ Stepped v e
    → a < b → is_enabled m w b ≡ true → is_enabled m v b ≡ true
still m w v a b e core stepped above able =
    let inside : b < length w.activities = enabled_within m w b able in
    let another : b ≡ a → ⊥ = λ same. omega (arith, same, above) in
    untouched_by m w v a e core stepped b
    (λ waiting. same_test (waits v b) (waits w b) (free_on m w v a e core stepped b inside another)
    (λ on. absurd (true≢false (sym able ∙ held_off m w b waiting on))))
    inside another
    (λ over governs. let less = governor_within m w core a b (steps_within m w v a e stepped) governs in omega (arith, less, above))
    ∙ able
