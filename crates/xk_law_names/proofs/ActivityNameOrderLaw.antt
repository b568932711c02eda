-- Schedules that begin with two starts, in either order.
use Rattle.std.proofs.Common.{◌≡◌, ℕ, suc, ◌<◌, List, [], ◌∷◌, map, length, refl, sym, ap, ◌∙◌, subst, arith}
use Rattle.xk_types.specs.declared.world.Event.{Event}
use Rattle.xk_types.specs.declared.world.Event.TheVariants as event
use Rattle.xk_types.specs.Acceptance.{IsAccepted}
use Rattle.xk_types.specs.Code.{ModuleValue, IsWithinLimits}
use Rattle.xk_types.specs.World.{World}
use Rattle.xk_types.specs.Step.{Stepped, step}
use Rattle.xk_types.specs.Schedule.{Through, run, run_on, events, events_on, IsReached}
use Rattle.xk_law_schedules.proofs.ReachabilityLemmas.{same_through, first_step, reached_step}
use Rattle.xk_law_commute.specs.PlainWorlds.{plain, AreAlike}
use Rattle.xk_law_commute.proofs.QuietStepLaw.{alike_worlds_go_alike}
use Rattle.xk_law_names.specs.ActivityNames.{renamed, activities_swapped, course_renamed, entry_renamed, GoesRenamed, GoesInEitherOrder}
use Rattle.xk_law_names.proofs.ActivityNameRunLaw.{prints_of, prints_renamed, goes_renamed, reached_full}
use Rattle.xk_law_names.proofs.ActivityNameStartLaw.{one_more, starts_square}
use Rattle.xk_law_names.proofs.ActivityNameExchangeLaw.{exchanged_twice, alike_exchanged}

-- a run begins with its first step, and so do its events
pub run_first : (m : ModuleValue) (list : List ℕ) (w u : World) (a : ℕ) (e : Event) → step m w a ≡ Stepped u e
    → run m (a ∷ list) w ≡ run m list u
run_first m list w u a e h = ap (λ o. run_on w o (run m list)) h

events_first : (m : ModuleValue) (list : List ℕ) (w u : World) (a : ℕ) (e : Event) → step m w a ≡ Stepped u e
    → events m (a ∷ list) w ≡ (a, e) ∷ events m list u
events_first m list w u a e h = ap (λ o. events_on a o (events m list)) h

-- a schedule goes alike from worlds that are alike
record RunsAlike (m : ModuleValue) (list : List ℕ) (w v z : World) : Type 0 where
  last : World
  legal : run m list v ≡ Through last
  alike : AreAlike z last
  same : events m list v ≡ events m list w

runs_alike : (m : ModuleValue) (list : List ℕ) (w v z : World) → AreAlike w v → run m list w ≡ Through z → RunsAlike m list w v z
runs_alike m [] w v z alike h = record { last = v; legal = refl; alike = subst (λ x. AreAlike x v) (same_through w z h) alike; same = refl }
runs_alike m (a ∷ list) w v z alike h =
    let f = first_step w z (step m w a) (run m list) h in
    let next = (alike_worlds_go_alike m).steps w v f.0 a f.1 alike f.2 in
    let rest : RunsAlike m list f.0 next.0 z = runs_alike m list f.0 next.0 z next.2 f.3 in
    record {
      last = rest.last;
      legal = run_first m list v next.0 a f.1 next.1 ∙ rest.legal;
      alike = rest.alike;
      same = events_first m list v next.0 a f.1 next.1 ∙ ap (λ es. (a, f.1) ∷ es) rest.same ∙ sym (events_first m list w f.0 a f.1 f.2);
    }

pub either_order : (m : ModuleValue) (w : World) → IsWithinLimits m → IsAccepted m → IsReached m w → (a b : ℕ) → (b ≡ a → ⊥) → (u v : World)
    → step m w a ≡ Stepped u event.Spawned → step m w b ≡ Stepped v event.Spawned → (s : List ℕ) (z : World)
    → run m (a ∷ b ∷ s) w ≡ Through z
    → GoesInEitherOrder m w a b s z
either_order m w limits ok reached a b differs u v hu hv s z h = record {
  last = r.last;
  legal = run_first m (a ∷ t) w v b event.Spawned hv ∙ run_first m t v x a event.Spawned q.2 ∙ r.legal;
  alike = sym (alike_exchanged n (activities_swapped n z) r.last r.alike) ∙ ap plain (exchanged_twice n z);
  rest = events m s y;
  this = one;
  other = two;
  prints = ap prints_of two ∙ prints_renamed n (events m s y) ∙ sym (ap prints_of one);
}
  where
    n : ℕ
    n = length w.activities

    t : List ℕ
    t = map (renamed n) s

    q : (x : World) × (y : World) × (step m v a ≡ Stepped x event.Spawned) × (step m u b ≡ Stepped y event.Spawned)
        × AreAlike (activities_swapped n x) y
    q = starts_square m w limits ok reached a b differs u v hu hv

    x : World
    x = q.0

    y : World
    y = q.1

    -- both of the new ones are there
    many : suc n < length y.activities
    many = omega (arith, one_more m w u a hu, one_more m u y b q.3)

    there : IsReached m y
    there = reached_step m u y b event.Spawned (reached_step m w u a event.Spawned reached hu) q.3

    g : GoesRenamed m y n s
    g = goes_renamed m y n s many (reached_full m y limits ok there)

    onward : run m s y ≡ Through z
    onward = sym (run_first m (b ∷ s) w u a event.Spawned hu ∙ run_first m s u y b event.Spawned q.3) ∙ h

    -- the world where a's start is first, with the numbers of the other order
    back : AreAlike (activities_swapped n y) x
    back = sym (alike_exchanged n (activities_swapped n x) y q.4) ∙ ap plain (exchanged_twice n x)

    r : RunsAlike m t (activities_swapped n y) x (activities_swapped n z)
    r = runs_alike m t (activities_swapped n y) x (activities_swapped n z) back (g.course ∙ ap (course_renamed n) onward)

    one : events m (a ∷ b ∷ s) w ≡ (a, event.Spawned) ∷ (b, event.Spawned) ∷ events m s y
    one = events_first m (b ∷ s) w u a event.Spawned hu ∙ ap (λ es. (a, event.Spawned) ∷ es) (events_first m s u y b event.Spawned q.3)

    two : events m (b ∷ a ∷ t) w ≡ (b, event.Spawned) ∷ (a, event.Spawned) ∷ map (entry_renamed n) (events m s y)
    two = events_first m (a ∷ t) w v b event.Spawned hv
        ∙ ap (λ es. (b, event.Spawned) ∷ es)
        (events_first m t v x a event.Spawned q.2 ∙ ap (λ es. (a, event.Spawned) ∷ es) (r.same ∙ g.events))
