-- Stretches of local steps: others are left able to step as they were, and a chooser whose state stays names who takes them at each step.
use Rattle.std.proofs.Common.{◌≡◌, ◌∙◌, ℕ, zero, suc, ◌+◌, ◌<◌, true, false, true≢false, not, ◌==◌, ◌%◌, List, [], ◌∷◌, length, filter, map, replicate, Some, slice_get, refl, sym, ap, subst, arith}
use Rattle.std.specs.List.{list_all}
use Rattle.std.proofs.lemmas.Bool.{ne_eqb}
use Rattle.xk_types.specs.declared.world.Event.{Event}
use Rattle.xk_types.specs.declared.world.Event.TheVariants as event
use Rattle.xk_types.specs.Code.{ModuleValue}
use Rattle.xk_types.specs.World.{Clock, World}
use Rattle.xk_types.specs.Step.{Outcome, Blocked, Wrong, Stepped, step, none, moved, is_ready, settled_clock, waits}
use Rattle.xk_types.specs.Schedule.{Through, run, events, events_on, is_local, is_step, is_enabled}
use Rattle.xk_types.proofs.ListLemmas.{Each}
use Rattle.xk_law_schedules.proofs.Invariant.{IsClockSound}
use Rattle.xk_law_schedules.proofs.ReachabilityLemmas.{same_through, first_step, reached_sound}
use Rattle.xk_law_schedules.proofs.StepCountLemmas.{step_counts}
use Rattle.xk_law_schedules.proofs.StepFormLemmas.{step_kind}
use Rattle.xk_core.specs.Core.{CoreValue, IsCore, is_quiet, is_waiting, is_held_back_by}
use Rattle.xk_core.specs.LocalRun.{RunsTo, AreLocal, IsUnseen}
use Rattle.xk_core.proofs.CoreLemmas.{core_stepped}
use Rattle.xk_core.proofs.LocalRunLemmas.{clocks_rest}
use Rattle.xk_collections.specs.NumberSets.{numbers_from, with_member}
use Rattle.xk_collections.proofs.RisingListLemmas.{member_changed}
use Rattle.xk_collections.specs.WaitingLists.{times, times_in_all, waiters}
use Rattle.xk_collections.proofs.OccurrenceLemmas.{list_times}
use Rattle.xk_scheduler.specs.Choosers.{enabled_in, Names, Follows, IsSteadyOn, goes_on, state_after, state_on}
use Rattle.xk_scheduler.specs.Waiters.{AreHeld}
use Rattle.xk_scheduler.specs.LocalRuns.{IsStretch}
use Rattle.xk_scheduler.proofs.BlockingClockLemmas.{held_on, free_on, none_went}
use Rattle.xk_scheduler.proofs.IndependenceLemmas.{untouched, keeps_width, steps_within, awake_after, waiting_same, waiting_within}
use Rattle.xk_scheduler.proofs.WakeLemmas.{steps_nowhere}

-- ---- a local step leaves the clocks as they are

abbrev Rests : World → Outcome → Type 0
Rests w Blocked = Unit {0}
Rests w (Wrong c) = Unit {0}
Rests w (Stepped v e) = is_local e ≡ true → v.clocks ≡ w.clocks

step_rests : (m : ModuleValue) (w : World) (a : ℕ) → IsCore m w → Rests w (step m w a)
step_rests m w a core = step_kind (Rests w) m w a tt (λ c. tt) (λ act found alive. record {
  closed = λ n opened nobody runs h. absurd (true≢false (sym h));
  over = λ here alone h. absurd (true≢false (sym h));
  arrives = λ h. absurd (true≢false (sym h));
  done = λ next change e on start rests h. ap (λ ch. map (settled_clock (w.steps + 1)) (moved a ch w.clocks)) (rests h) ∙ clocks_rest (w.steps + 1) a w.clocks unready;
  made = λ next on h. absurd (true≢false (sym h));
  stored = λ s n e on start h. clocks_rest (w.steps + 1) a w.clocks unready;
  spawned = λ t args values at on h. absurd (true≢false (sym h));
})
  where
    unready : Each (λ k c. is_ready c ≡ false) w.clocks
    unready k c at = (let s : IsClockSound w.activities w.steps c = (reached_sound m core.limits core.accepted w core.reached).clocks k c at in s.unready)

-- so none advances
quiet_all : (now : ℕ) (cs : List Clock) → Each (λ k c. c.last < now) cs → list_all (λ (c : Clock). not (c.last == now)) cs ≡ true
quiet_all now [] h = refl
quiet_all now (c ∷ cs) h =
    let early : c.last < now = h 0 c refl in
    rw (ne_eqb c.last now (λ e. absurd (omega (arith, early, e)))) (quiet_all now cs (λ k d at. h (suc k) d at))

local_quiet : (m : ModuleValue) (w v : World) (a : ℕ) → IsCore m w → step m w a ≡ Stepped v event.Local → is_quiet v ≡ true
local_quiet m w v a core h =
    let counted : v.steps ≡ w.steps + 1 = step_counts m w v a event.Local h in
    let same : v.clocks ≡ w.clocks = subst (Rests w) h (step_rests m w a core) refl in
    ap (list_all (λ (c : Clock). not (c.last == v.steps))) same
    ∙ quiet_all v.steps w.clocks (λ k c at.
    let s : IsClockSound w.activities w.steps c = (reached_sound m core.limits core.accepted w core.reached).clocks k c at in
    omega (arith, s.last, counted))

-- ---- and others able to step as they were

no_end : event.Local ≡ event.Ended → ⊥
no_end h = cc

no_start : event.Local ≡ event.Spawned → ⊥
no_start h = cc

local_same : (m : ModuleValue) (w v : World) (a : ℕ) → IsCore m w → step m w a ≡ Stepped v event.Local → (b : ℕ) → b < length w.activities → (b ≡ a → ⊥)
    → is_enabled m v b ≡ is_enabled m w b
local_same m w v a core h b inside differs = untouched m w v a event.Local core h b (λ waiting. local_quiet m w v a core h) inside differs (λ e owns. no_end e)

-- so of the list of those who can take a step only this one may be gone
listed_local : (m : ModuleValue) (w v : World) (a : ℕ) → IsCore m w → step m w a ≡ Stepped v event.Local
    → enabled_in m v ≡ with_member a (is_enabled m v a) (enabled_in m w)
listed_local m w v a core h =
    ap (λ n. filter (is_enabled m v) (numbers_from 0 n)) (keeps_width m w v a event.Local h no_start)
    ∙ member_changed (is_enabled m w) (is_enabled m v) (length w.activities) a (steps_within m w v a event.Local h) (local_same m w v a core h)

-- and where it can take another step, the list is as it was
listed_still : (m : ModuleValue) (w v : World) (a : ℕ) → IsCore m w → step m w a ≡ Stepped v event.Local → is_enabled m v a ≡ true → enabled_in m v ≡ enabled_in m w
listed_still m w v a core h can =
    listed_local m w v a core h
    ∙ ap (λ b. with_member a b (enabled_in m w)) (can ∙ sym (ap is_step h))
    ∙ sym (member_changed (is_enabled m w) (is_enabled m w) (length w.activities) a (steps_within m w v a event.Local h) (λ k lt ne. refl))

-- who can take a step is there
pub enabled_within : (m : ModuleValue) (w : World) (a : ℕ) → is_enabled m w a ≡ true → a < length w.activities
enabled_within m w a h = by (step m w a) refl h
  where
    by : (o : Outcome) → step m w a ≡ o → is_step o ≡ true → a < length w.activities
    by Blocked e g = cc
    by (Wrong c) e g = cc
    by (Stepped v f) e g = steps_within m w v a f e

-- and in the list
pub listed_there : (m : ModuleValue) (w : World) (a : ℕ) → is_enabled m w a ≡ true → with_member a true (enabled_in m w) ≡ enabled_in m w
listed_there m w a can =
    ap (λ b. with_member a b (enabled_in m w)) (sym can)
    ∙ sym (member_changed (is_enabled m w) (is_enabled m w) (length w.activities) a (enabled_within m w a can) (λ k lt ne. refl))

-- ---- those who are held back

no_arrival : event.Local ≡ event.Arrived → ⊥
no_arrival h = cc

-- a local step leaves them held back by the same clocks
held_local : (m : ModuleValue) (w v : World) (a : ℕ) (lists : List (List ℕ)) → IsCore m w → step m w a ≡ Stepped v event.Local → AreHeld w lists → AreHeld v lists
held_local m w v a lists core h held = record { once = held.once; stands = stands; covers = covers }
  where
    quiet : is_quiet v ≡ true
    quiet = local_quiet m w v a core h

    nowhere : times_in_all a lists ≡ 0
    nowhere = steps_nowhere m w v a event.Local lists h held

    stands : (c b : ℕ) → 0 < times b (waiters lists c) → (is_waiting v b ≡ true) × (is_held_back_by v b c ≡ true)
    stands c b some =
        let before = held.stands c b some in
        let inside : b < length w.activities = waiting_within w b before.0 in
        let differs : b ≡ a → ⊥ = λ e. omega (arith, some, list_times b c lists, ap (λ k. times_in_all k lists) e, nowhere) in (
          waiting_same m w v a event.Local h b differs inside ∙ before.0,
          (held_on m w v a event.Local core h b inside differs c).stays before.1 (none_went v.steps v.clocks quiet c),
        )

    covers : (b : ℕ) → is_waiting v b ≡ true → waits v b ≡ true → 0 < times_in_all b lists
    covers b waiting on =
        let differs : b ≡ a → ⊥ = λ e. true≢false (sym waiting ∙ ap (is_waiting v) e ∙ awake_after m w v a event.Local h no_arrival) in
        let inside : b < length w.activities = omega (arith, waiting_within v b waiting, keeps_width m w v a event.Local h no_start) in
        held.covers b (sym (waiting_same m w v a event.Local h b differs inside) ∙ waiting) (free_on m w v a event.Local core h b inside differs on)

-- ---- several steps

-- n steps of activity a lead from w to v, and nobody else can see them
pub record GoesAlone (m : ModuleValue) (a n : ℕ) (w v : World) : Type 0 where
  pub leads : run m (replicate n a) w ≡ Through v
  pub local : events m (replicate n a) w ≡ replicate n (a, event.Local)

-- its first step, and the rest
record IsBegun (m : ModuleValue) (a n : ℕ) (w v : World) : Type 0 where
  next : World
  stepped : step m w a ≡ Stepped next event.Local
  rest : GoesAlone m a n next v

abbrev event_first : List (ℕ × Event) → Event
event_first [] = event.Local
event_first (p ∷ ps) = p.1

abbrev events_rest : List (ℕ × Event) → List (ℕ × Event)
events_rest [] = []
events_rest (p ∷ ps) = ps

begun : (m : ModuleValue) (a n : ℕ) (w v : World) → GoesAlone m a (suc n) w v → IsBegun m a n w v
begun m a n w v h =
    let t = first_step w v (step m w a) (run m (replicate n a)) h.leads in
    let seen : (a, t.1) ∷ events m (replicate n a) t.0 ≡ (a, event.Local) ∷ replicate n (a, event.Local) =
    sym (ap (λ o. events_on a o (events m (replicate n a))) t.2) ∙ h.local in
    record {
      next = t.0;
      stepped = t.2 ∙ ap (λ e. Stepped t.0 e) (ap event_first seen);
      rest = record { leads = t.3; local = ap events_rest seen };
    }

-- who takes one more step can
able : (m : ModuleValue) (a n : ℕ) (w v : World) → GoesAlone m a (suc n) w v → is_enabled m w a ≡ true
able m a n w v h = (let b = begun m a n w v h in ap is_step b.stepped)

-- a core is one behind it
pub alone_core : (m : ModuleValue) (a n : ℕ) (w v : World) → IsCore m w → GoesAlone m a n w v → IsCore m v
alone_core m a zero w v core h = subst (IsCore m) (same_through w v h.leads) core
alone_core m a (suc n) w v core h =
    let b = begun m a n w v h in
    alone_core m a n b.next v (core_stepped m w b.next a event.Local core b.stepped) b.rest

-- of those who can take a step only this one may be gone behind it
pub alone_listed : (m : ModuleValue) (a n : ℕ) (w v : World) → IsCore m w → is_enabled m w a ≡ true → GoesAlone m a n w v
    → enabled_in m v ≡ with_member a (is_enabled m v a) (enabled_in m w)
alone_listed m a zero w v core can h =
    subst (λ z. enabled_in m z ≡ with_member a (is_enabled m z a) (enabled_in m w)) (same_through w v h.leads)
    (sym (ap (λ b. with_member a b (enabled_in m w)) can ∙ listed_there m w a can))
alone_listed m a (suc zero) w v core can h =
    let b = begun m a zero w v h in
    listed_local m w v a core (b.stepped ∙ ap (λ x. Stepped x event.Local) (same_through b.next v b.rest.leads))
alone_listed m a (suc (suc n)) w v core can h =
    let b = begun m a (suc n) w v h in
    let again = able m a n b.next v b.rest in
    alone_listed m a (suc n) b.next v (core_stepped m w b.next a event.Local core b.stepped) again b.rest
    ∙ ap (with_member a (is_enabled m v a)) (listed_still m w b.next a core b.stepped again)

-- those who are held back still are
pub alone_held : (m : ModuleValue) (a n : ℕ) (w v : World) (lists : List (List ℕ)) → IsCore m w → GoesAlone m a n w v → AreHeld w lists → AreHeld v lists
alone_held m a zero w v lists core h held = subst (λ z. AreHeld z lists) (same_through w v h.leads) held
alone_held m a (suc n) w v lists core h held =
    let b = begun m a n w v h in
    alone_held m a n b.next v lists (core_stepped m w b.next a event.Local core b.stepped) b.rest (held_local m w b.next a lists core b.stepped held)

-- ---- choosers

-- a chooser whose state stays where it is shown who can step names who takes them at each of these steps
alone_follows : {S : Type 0} (answer : S → List ℕ → ℕ) (after : S → List ℕ → S) (m : ModuleValue) (s : S) (a n : ℕ) (w v : World) → IsSteadyOn after s (enabled_in m w) → IsCore m w
    → Names answer m s w a → GoesAlone m a n w v → Follows answer after m s w (replicate n a)
alone_follows answer after m s a zero w v steady core named h = tt
alone_follows answer after m s a (suc zero) w v steady core named h =
    let b = begun m a zero w v h in
    (named, subst (λ o. goes_on o (λ z. Unit {0})) (sym b.stepped) tt)
alone_follows answer after m s a (suc (suc n)) w v steady core named h =
    let b = begun m a (suc n) w v h in
    let still = listed_still m w b.next a core b.stepped (able m a n b.next v b.rest) in
    let again : Names answer m s b.next a = subst (λ (l : List ℕ). slice_get l (answer s l % length l) ≡ Some a) (sym still) named in
    let rest = alone_follows answer after m s a (suc n) b.next v (subst (IsSteadyOn after s) (sym still) steady) (core_stepped m w b.next a event.Local core b.stepped) again b.rest in (
      named,
      subst (λ o. goes_on o (λ z. Follows answer after m (after s (enabled_in m w)) z (replicate (suc n) a))) (sym b.stepped)
          (subst (λ t. Follows answer after m t b.next (replicate (suc n) a)) (sym steady) rest),
    )

-- and is left in that state
alone_state : {S : Type 0} (after : S → List ℕ → S) (m : ModuleValue) (s : S) (a n : ℕ) (w v : World) → IsSteadyOn after s (enabled_in m w) → IsCore m w
    → GoesAlone m a n w v → state_after after m s w (replicate n a) ≡ s
alone_state after m s a zero w v steady core h = refl
alone_state after m s a (suc zero) w v steady core h =
    let b = begun m a zero w v h in
    ap (λ o. state_on o s (λ z. state_after after m (after s (enabled_in m w)) z (replicate zero a))) b.stepped ∙ steady
alone_state after m s a (suc (suc n)) w v steady core h =
    let b = begun m a (suc n) w v h in
    let still = listed_still m w b.next a core b.stepped (able m a n b.next v b.rest) in
    ap (λ o. state_on o s (λ z. state_after after m (after s (enabled_in m w)) z (replicate (suc n) a))) b.stepped
    ∙ ap (λ t. state_after after m t b.next (replicate (suc n) a)) steady
    ∙ alone_state after m s a (suc n) b.next v (subst (IsSteadyOn after s) (sym still) steady) (core_stepped m w b.next a event.Local core b.stepped) b.rest

-- ---- stretches

-- a chooser that is steady names one activity for all its steps that nobody else can see, at once
pub stretch_of : {S : Type 0} (answer : S → List ℕ → ℕ) (after : S → List ℕ → S) (c d : CoreValue) (s t : S) (a n : ℕ) → IsSteadyOn after s (enabled_in c.module_run c.world)
    → IsCore c.module_run c.world → Names answer c.module_run s c.world a → RunsTo c a n d → AreLocal c a n → IsUnseen c a n → d.module_run ≡ c.module_run → t ≡ after s (enabled_in c.module_run c.world)
    → IsStretch answer after c s n d t
stretch_of answer after c d s t a n steady core named leads local unseen same asked =
    let alone : GoesAlone c.module_run a n c.world d.world = record { leads = leads; local = local } in
    record {
      act = a;
      follows = alone_follows answer after c.module_run s a n c.world d.world steady core named alone;
      leads = leads;
      unseen = unseen;
      same_module = same;
      left = asked ∙ steady ∙ sym (alone_state after c.module_run s a n c.world d.world steady core alone);
    }

-- no step is one
pub stretch_none : {S : Type 0} (answer : S → List ℕ → ℕ) (after : S → List ℕ → S) (c : CoreValue) (s : S) → IsStretch answer after c s 0 c s
stretch_none answer after c s = record { act = 0; follows = tt; leads = refl; unseen = refl; same_module = refl; left = refl }

-- who was named, and can go on behind the steps, is named again by a chooser that stayed in its state, and it stays in it
pub named_still : {S : Type 0} (answer : S → List ℕ → ℕ) (after : S → List ℕ → S) (m k : ModuleValue) (w v : World) (s t : S) (a n : ℕ)
    → IsSteadyOn after s (enabled_in m w) → IsCore m w → GoesAlone m a n w v → k ≡ m → t ≡ after s (enabled_in m w) → is_enabled m w a ≡ true → is_enabled k v a ≡ true
    → Names answer m s w a → Names answer k t v a × (t ≡ after t (enabled_in k v))
named_still answer after m k w v s t a n steady core alone same left could can named =
    let list : enabled_in k v ≡ enabled_in m w =
    ap (λ j. enabled_in j v) same ∙ alone_listed m a n w v core could alone
    ∙ ap (λ b. with_member a b (enabled_in m w)) (ap (λ j. is_enabled j v a) (sym same) ∙ can) ∙ listed_there m w a could in
    let still : t ≡ s = left ∙ steady in (
      subst (λ l. slice_get l (answer t l % length l) ≡ Some a) (sym list)
          (subst (λ z. slice_get (enabled_in m w) (answer z (enabled_in m w) % length (enabled_in m w)) ≡ Some a) (sym still) named),
      sym (ap (λ l. after t l) list ∙ ap (λ z. after z (enabled_in m w)) still ∙ steady ∙ sym still),
    )
