-- Who waits at an `advance` is held back by somebody on the same clock, who runs, or passed earlier.
use Rattle.std.proofs.Common.{◌≡◌, ℕ, ◌+◌, ◌<◌, ◌≤◌, Bool, true, false, cond, Some, refl, sym, ap, ◌∙◌, subst, arith, ◌⊎◌, inl, inr}
use Rattle.std.specs.Prelude.{slice_get}
use Rattle.std.proofs.lemmas.Bool.{false≢true}
use Rattle.xk_types.specs.declared.world.Status.{Status}
use Rattle.xk_types.specs.declared.world.Status.TheVariants as status
use Rattle.xk_types.specs.declared.world.Standing.{Standing}
use Rattle.xk_types.specs.declared.world.Standing.TheVariants as standing
use Rattle.xk_types.specs.declared.world.Event.TheVariants as event
use Rattle.xk_types.specs.Code.{ModuleValue}
use Rattle.xk_types.specs.World.{Activity, World, standing_of, is_ended}
use Rattle.xk_types.specs.Step.{Blocked, is_signalled, is_pending, all, passed, past, done, waits, step_by, step_of}
use Rattle.xk_types.specs.Schedule.{is_step, is_enabled}
use Rattle.xk_law_schedules.proofs.Invariant.{Stands, IsSound, looks, kind_by, is_held}
use Rattle.xk_types.proofs.ListLemmas.{get_inside, any_found}
use Rattle.xk_law_schedules.proofs.ClockLemmas.AdvanceLemmas.{held_back}
use Rattle.xk_law_schedules.proofs.ClockLemmas.StandingLemmas.{stands_on_at}

-- who has arrived and isn't enabled waits
pub stuck_waits : (m : ModuleValue) (w : World) (a : ℕ) (act : Activity) → slice_get w.activities a ≡ Some act → act.status ≡ status.Arrived
    → is_enabled m w a ≡ false → waits w a ≡ true
stuck_waits m w a act found waiting stuck = cases (waits w a)
    (sym (ap (λ o. is_step (step_of m w a o)) found ∙ ap (λ st. is_step (step_by m w a act st)) waiting) ∙ stuck)
  where
    cases : (b : Bool) → is_step (cond b Blocked (done w a (past act (w.steps + 1)) (all passed) event.Passed)) ≡ false → b ≡ true
    cases true h = refl
    cases false h = absurd (false≢true (sym h))

-- where an activity is signalled, the clock hasn't advanced since its last pass
signalled_last : (st : Status) (since last : ℕ) (s : Standing) → is_signalled s ≡ true → Stands st since last s → last ≤ since
signalled_last st since last standing.Apart g h = absurd (false≢true g)
signalled_last st since last standing.Open g h = absurd (false≢true g)
signalled_last st since last standing.Signalled g h = h.1
signalled_last st since last standing.Ahead g h = absurd (false≢true g)

-- who keeps a clock back runs, or is ahead on it
pending_cases : (st : Status) (since last : ℕ) (s : Standing) → is_pending s ≡ true → Stands st since last s → (st ≡ status.Running) ⊎ ((is_ended st ≡ false) × (since < last))
pending_cases st since last standing.Apart g h = absurd (false≢true g)
pending_cases st since last standing.Open g h = inl h.0
pending_cases st since last standing.Signalled g h = absurd (false≢true g)
pending_cases st since last standing.Ahead g h = inr h

-- a standing that is signalled, or pending, is one of an activity that is registered
signalled_held : (s : Standing) → is_signalled s ≡ true → is_held (kind_by s) ≡ true
signalled_held standing.Apart h = absurd (false≢true h)
signalled_held standing.Open h = refl
signalled_held standing.Signalled h = refl
signalled_held standing.Ahead h = refl

pending_held : (s : Standing) → is_pending s ≡ true → is_held (kind_by s) ≡ true
pending_held standing.Apart h = absurd (false≢true h)
pending_held standing.Open h = refl
pending_held standing.Signalled h = refl
pending_held standing.Ahead h = refl

-- both activities are registered on a clock
pub record ShareClock (w : World) (a b : ℕ) : Type 0 where
  pub clock : ℕ
  pub first : is_held (looks w.clocks a clock) ≡ true
  pub second : is_held (looks w.clocks b clock) ≡ true

-- Who waits at an `advance` is held back by somebody on the same clock, who runs, or who passed earlier.
pub record IsHeldBack (w : World) (a : ℕ) (act : Activity) : Type 0 where
  pub b : ℕ
  pub x : Activity
  pub found : slice_get w.activities b ≡ Some x
  pub share : ShareClock w a b
  pub earlier : (x.status ≡ status.Running) ⊎ ((is_ended x.status ≡ false) × (x.since < act.since))

-- the one who holds it back
pub waits_for : (m : ModuleValue) (w : World) → IsSound m w → (a : ℕ) (act : Activity) → slice_get w.activities a ≡ Some act → waits w a ≡ true → IsHeldBack w a act
waits_for m w sound a act found h =
    let c = any_found (λ c. is_signalled (standing_of c a)) w.clocks h in
    let sc = sound.clocks c.0 c.1 c.2 in
    let back = held_back c.1 a sc.unready c.3 in
    let x = get_inside w.activities back.0 (subst (λ n. back.0 < n) sc.width back.1) in
    let last = signalled_last act.status act.since c.1.last (standing_of c.1 a) c.3 (sc.stands a act found) in
    record {
      b = back.0;
      x = x.0;
      found = x.1;
      share = record {
        clock = c.0;
        first = subst (λ s. is_held (kind_by s) ≡ true) (sym (stands_on_at w.clocks a c.0 c.1 c.2)) (signalled_held (standing_of c.1 a) c.3);
        second = subst (λ s. is_held (kind_by s) ≡ true) (sym (stands_on_at w.clocks back.0 c.0 c.1 c.2)) (pending_held (standing_of c.1 back.0) back.2);
      };
      earlier = elim (pending_cases x.0.status x.0.since c.1.last (standing_of c.1 back.0) back.2 (sc.stands back.0 x.0 x.1))
          [ inl e ↦ inl e | inr p ↦ inr (p.0, omega (arith, p.1)) ];
    }
