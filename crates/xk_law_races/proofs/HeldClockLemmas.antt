-- Whoever holds a clock in a phase, holds it in that phase behind each step by which it doesn't let the clock go; and in a step by which
-- nobody may let one go no clock advances.
use Rattle.std.proofs.Common.{◌≡◌, ℕ, zero, suc, ◌+◌, ◌<◌, ◌≤◌, ◌⊎◌, inl, inr, Bool, true, false, true≢false, not, ◌&&◌, ◌||◌, cond, List}
use Rattle.std.proofs.Common.{[], ◌∷◌, ◌++◌, map, length, set, get_or, Some, None, Option, refl, sym, ap, ◌∙◌, subst, arith}
use Rattle.std.specs.Prelude.{slice_get}
use Rattle.std.specs.List.{list_any}
use Rattle.std.specs.Option.{option_map_or}
use Rattle.std.proofs.lemmas.Bool.{cases_lt}
use Rattle.std.proofs.lemmas.List.{get_or_past}
use Rattle.std.proofs.lemmas.Option.{slice_get_within}
use Rattle.xk_types.specs.declared.world.Standing.{Standing}
use Rattle.xk_types.specs.declared.world.Standing.TheVariants as standing
use Rattle.xk_types.specs.declared.world.Event.{Event}
use Rattle.xk_types.specs.Acceptance.{IsAccepted}
use Rattle.xk_types.specs.Code.{ModuleValue, IsWithinLimits}
use Rattle.xk_types.specs.Kinds.{stands_on}
use Rattle.xk_types.specs.World.{Clock, World, standing_of}
use Rattle.xk_types.specs.Step.{Stepped, is_signalled, is_pending, is_registered, is_ready, advanced, settled_clock, moved, moved_on}
use Rattle.xk_types.specs.Step.{joined, joined_on, new_clock, step}
use Rattle.xk_types.specs.Schedule.{IsReached}
use Rattle.xk_types.proofs.ListLemmas.{Each, each_push, any_at}
use Rattle.xk_law_schedules.proofs.ReachabilityLemmas.{reached_sound}
use Rattle.xk_law_schedules.proofs.ClockLemmas.AdvanceLemmas.{settled_cases, stand-advanced, ready_pending}
use Rattle.xk_law_schedules.proofs.ClockLemmas.StandingLemmas.{each_moved, each_joined, new_same, stands_on-moved_other}
use Rattle.xk_law_schedules.proofs.ClockLemmas.StandingLemmas.{stands_on-moved_same, stands_on-push_old, stands_on-joined_old}
use Rattle.xk_law_commute.proofs.ChangeSquareLemmas.{found_of}
use Rattle.xk_law_traces.specs.Edges.{standing_on, phase_of, held_in}
use Rattle.xk_law_races.specs.Passes.{IsHeld}
use Rattle.xk_law_races.proofs.PhaseLemmas.{phase_in, moved_phase, joined_phase, pushed_phase}
use Rattle.xk_closed.proofs.ClockStepLemmas.{lets_go, leaves_clocks, Changes, AreSettled, AtClocks, Moves, Makes, Starts, at_clocks}

-- ---- standings

-- whether one is registered, and in which phase it holds a clock, by whether it is signalled or pending
registered_by : (st : Standing) → is_registered st ≡ (is_signalled st || is_pending st)
registered_by standing.Apart = refl
registered_by standing.Open = refl
registered_by standing.Signalled = refl
registered_by standing.Ahead = refl

held_by : (q : ℕ) (st : Standing) → held_in q st ≡ cond (is_signalled st) (suc q) q
held_by q standing.Apart = refl
held_by q standing.Open = refl
held_by q standing.Signalled = refl
held_by q standing.Ahead = refl

-- nobody holds a clock in an earlier phase than it is in
pub held_least : (q : ℕ) (st : Standing) → q ≤ held_in q st
held_least q standing.Apart = omega arith
held_least q standing.Open = omega arith
held_least q standing.Signalled = omega arith
held_least q standing.Ahead = omega arith

-- who stands so on a clock in phase q is registered, and holds it in phase p
abbrev Holds : ℕ → Standing → ℕ → Type 0
Holds q st p = (is_registered st ≡ true) × (held_in q st ≡ p)

alike_holds : (q p : ℕ) (st next : Standing) → is_signalled next ≡ is_signalled st → is_pending next ≡ is_pending st → Holds q st p
    → Holds q next p
alike_holds q p st next signalled pending h = (
  registered_by next ∙ ap (λ b. b || is_pending next) signalled ∙ ap (λ b. is_signalled st || b) pending ∙ sym (registered_by st) ∙ h.0,
  held_by q next ∙ ap (λ b. cond b (suc q) q) signalled ∙ sym (held_by q st) ∙ h.1,
)

-- ---- the end of a step

advance_holds : (q p : ℕ) (st : Standing) → is_pending st ≡ false → Holds q st p → Holds (q + 1) (advanced st) p
advance_holds q p standing.Apart none h = absurd (true≢false (sym h.0))
advance_holds q p standing.Open none h = absurd (true≢false none)
advance_holds q p standing.Signalled none h = (refl, (let e : q + 1 ≡ suc q = omega arith in e ∙ h.1))
advance_holds q p standing.Ahead none h = absurd (true≢false none)

settled_holds : (now : ℕ) (cs : List Clock) (x c p : ℕ) → Holds (phase_in cs c) (stands_on cs x c) p
    → Holds (phase_in (map (settled_clock now) cs) c) (stands_on (map (settled_clock now) cs) x c) p
settled_holds now [] x c p h = h
settled_holds now (k ∷ cs) x zero p h =
    settled_cases now k (λ d. Holds d.phase (standing_of d x) p)
    (λ ready. subst (λ st. Holds (k.phase + 1) st p) (sym (stand-advanced now k x))
    (advance_holds k.phase p (standing_of k x) (ready_pending k x ready) h)) (λ unready. h)
settled_holds now (k ∷ cs) x (suc c) p h = settled_holds now cs x c p h

settled_apart : (now : ℕ) (cs : List Clock) (x c : ℕ) → stands_on cs x c ≡ standing.Apart
    → stands_on (map (settled_clock now) cs) x c ≡ standing.Apart
settled_apart now [] x c h = refl
settled_apart now (k ∷ cs) x zero h =
    settled_cases now k (λ d. standing_of d x ≡ standing.Apart) (λ ready. stand-advanced now k x ∙ ap advanced h) (λ unready. h)
settled_apart now (k ∷ cs) x (suc c) h = settled_apart now cs x c h

-- a clock that isn't ready stays in its phase
settled_phase : (now : ℕ) (cs : List Clock) (c : ℕ) → Each (λ j (k : Clock). is_ready k ≡ false) cs
    → phase_in (map (settled_clock now) cs) c ≡ phase_in cs c
settled_phase now [] c none = refl
settled_phase now (k ∷ cs) zero none =
    settled_cases now k (λ d. d.phase ≡ k.phase) (λ ready. absurd (true≢false (sym ready ∙ none 0 k refl))) (λ unready. refl)
settled_phase now (k ∷ cs) (suc c) none = settled_phase now cs c (λ j x at. none (suc j) x at)

-- ---- where one is registered

-- there is a clock
there_is : (cs : List Clock) (x c : ℕ) → is_registered (stands_on cs x c) ≡ true
    → (k : Clock) × (slice_get cs c ≡ Some k) × (is_registered (standing_of k x) ≡ true)
there_is cs x c h = by (slice_get cs c) refl h
  where
    by : (o : Option Clock) → slice_get cs c ≡ o → is_registered (option_map_or (λ (k : Clock). standing_of k x) o standing.Apart) ≡ true
        → (k : Clock) × (slice_get cs c ≡ Some k) × (is_registered (standing_of k x) ≡ true)
    by None at g = absurd (true≢false (sym g))
    by (Some k) at g = (k, at, g)

-- and the activity is one of those that it knows
known : (k : Clock) (x : ℕ) → is_registered (standing_of k x) ≡ true → x < length k.standings
known k x h = by (cases_lt x (length k.standings))
  where
    by : (x < length k.standings) ⊎ (length k.standings ≤ x) → x < length k.standings
    by (inl less) = less
    by (inr beyond) = absurd (true≢false (sym h ∙ ap is_registered (get_or_past k.standings x standing.Apart beyond)))

-- ---- clocks that aren't ready

any_set : (test : Standing → Bool) (f : Standing → Standing) (xs : List Standing) (a : ℕ) → ((st : Standing) → test (f st) ≡ test st)
    → list_any test (set xs a (f (get_or xs a standing.Apart))) ≡ list_any test xs
any_set test f [] a same = refl
any_set test f (x ∷ xs) zero same = ap (λ b. b || list_any test xs) (same x)
any_set test f (x ∷ xs) (suc a) same = ap (λ b. test x || b) (any_set test f xs a same)

any_push : (test : Standing → Bool) (xs : List Standing) (new : Standing) → (test new ≡ true → list_any test xs ≡ true)
    → list_any test (xs ++ new ∷ []) ≡ list_any test xs
any_push test [] new old = by (test new) old
  where
    by : (b : Bool) → (b ≡ true → false ≡ true) → (b || false) ≡ false
    by true h = absurd (true≢false (sym (h refl)))
    by false h = refl
any_push test (x ∷ xs) new old = by (test x) old (any_push test xs new)
  where
    by : (b : Bool) → (test new ≡ true → (b || list_any test xs) ≡ true)
        → ((test new ≡ true → list_any test xs ≡ true) → list_any test (xs ++ new ∷ []) ≡ list_any test xs)
        → (b || list_any test (xs ++ new ∷ [])) ≡ (b || list_any test xs)
    by true h rest = refl
    by false h rest = rest h

-- two clocks are ready alike
same_ready : (k d : Clock) → list_any is_signalled d.standings ≡ list_any is_signalled k.standings
    → list_any is_pending d.standings ≡ list_any is_pending k.standings
    → is_ready d ≡ is_ready k
same_ready k d signalled pending =
    ap (λ b. b && not (list_any is_pending d.standings)) signalled ∙ ap (λ b. list_any is_signalled k.standings && not b) pending

moved_ready : (a : ℕ) (f : Standing → Standing) (k : Clock)
    → ((st : Standing) → (is_signalled (f st) ≡ is_signalled st) × (is_pending (f st) ≡ is_pending st))
    → is_ready (moved_on a f k) ≡ is_ready k
moved_ready a f k same =
    same_ready k (moved_on a f k) (any_set is_signalled f k.standings a (λ st. (same st).0))
    (any_set is_pending f k.standings a (λ st. (same st).1))

joined_ready : (a : ℕ) (given : Bool) (k : Clock) → is_ready (joined_on a given k) ≡ is_ready k
joined_ready a given k =
    same_ready k (joined_on a given k)
    (any_push is_signalled k.standings (cond given (standing_of k a) standing.Apart) (old is_signalled refl))
    (any_push is_pending k.standings (cond given (standing_of k a) standing.Apart) (old is_pending refl))
  where
    old : (test : Standing → Bool) → test standing.Apart ≡ false → test (cond given (standing_of k a) standing.Apart) ≡ true
        → list_any test k.standings ≡ true
    old test apart h = by given h
      where
        by : (b : Bool) → test (cond b (standing_of k a) standing.Apart) ≡ true → list_any test k.standings ≡ true
        by true g = any_at test k.standings a standing.Apart apart g
        by false g = absurd (true≢false (sym g ∙ apart))

new_unready : (n a : ℕ) → a < n → is_ready (new_clock n a) ≡ false
new_unready n a less =
    by (list_any is_signalled (new_clock n a).standings) (list_any is_pending (new_clock n a).standings)
    (any_at is_pending (new_clock n a).standings a standing.Apart refl (ap is_pending (new_same n a less)))
  where
    by : (b p : Bool) → p ≡ true → (b && not p) ≡ false
    by true p h = ap not h
    by false p h = refl

-- ---- a step

module _ (m : ModuleValue) (limits : IsWithinLimits m) (ok : IsAccepted m) (w u : World) (a : ℕ) (e : Event) (reached : IsReached m w)
    (takes : step m w a ≡ Stepped u e) where
  abbrev now : ℕ
  now = w.steps + 1

  there : a < length w.activities
  there = let x = found_of m w a u e takes in slice_get_within w.activities a x.0 x.1

  wide : Each (λ j (k : Clock). length k.standings ≡ length w.activities) w.clocks
  wide j k at = ((reached_sound m limits ok w reached).clocks j k at).width

  unready : Each (λ j (k : Clock). is_ready k ≡ false) w.clocks
  unready j k at = ((reached_sound m limits ok w reached).clocks j k at).unready

  inside : (x : ℕ) → x < length w.activities → Each (λ j (k : Clock). x < length k.standings) w.clocks
  inside x less j k at = let n = wide j k at in omega (arith, n, less)

  -- who is registered on a clock is one of the activities
  pub one_of : (x c : ℕ) → is_registered (standing_on w x c) ≡ true → x < length w.activities
  one_of x c h =
      let k = there_is w.clocks x c h in
      let less = known k.0 x k.2 in
      let n = wide c k.0 k.1 in
      omega (arith, less, n)

  -- by the clocks before the end of the step
  holds_by : (cs : List Clock) → AreSettled w u cs → (x c p : ℕ) → Holds (phase_in cs c) (stands_on cs x c) p → IsHeld u x c p
  holds_by cs is x c p h =
      let g = settled_holds now cs x c p h in
      record {
        registered = ap (λ l. is_registered (stands_on l x c)) is ∙ g.0;
        held = ap (λ l. held_in (phase_in l c) (stands_on l x c)) is ∙ g.1;
      }

  -- where it stands alike before that
  same_holds : (cs : List Clock) → AreSettled w u cs → (x c p : ℕ) → phase_in cs c ≡ phase_of w c
      → stands_on cs x c ≡ standing_on w x c → IsHeld w x c p → IsHeld u x c p
  same_holds cs is x c p phase stands h = holds_by cs is x c p (
    ap is_registered stands ∙ h.registered,
    ap (λ q. held_in q (stands_on cs x c)) phase ∙ ap (held_in (phase_of w c)) stands ∙ h.held,
  )

  made_holds : AreSettled w u (w.clocks ++ new_clock (length w.activities) a ∷ []) → (x c p : ℕ) → IsHeld w x c p → IsHeld u x c p
  made_holds is x c p h =
      same_holds (w.clocks ++ new_clock (length w.activities) a ∷ []) is x c p
      (pushed_phase w.clocks (new_clock (length w.activities) a) c refl refl)
      (stands_on-push_old w.clocks (new_clock (length w.activities) a) x c
      (λ last. let k = there_is w.clocks x c h.registered in let less = slice_get_within w.clocks c k.0 k.1 in omega (arith, less, last))) h

  started_holds : (given : ℕ → Bool) → AreSettled w u (joined a given w.clocks) → (x c p : ℕ) → IsHeld w x c p → IsHeld u x c p
  started_holds given is x c p h =
      same_holds (joined a given w.clocks) is x c p (joined_phase a given w.clocks c)
      (stands_on-joined_old a x given w.clocks c (inside x (one_of x c h.registered))) h

  own_stands : (change : ℕ → Standing → Standing) → Changes e change → (c : ℕ)
      → stands_on (moved a change w.clocks) a c ≡ change c (standing_on w a c)
  own_stands change changes c = stands_on-moved_same a change w.clocks c (inside a there) changes.apart

  -- where its own change is such that it holds the clock so
  moved_holds : (change : ℕ → Standing → Standing) → Changes e change → AreSettled w u (moved a change w.clocks) → (c p : ℕ)
      → Holds (phase_of w c) (change c (standing_on w a c)) p → IsHeld u a c p
  moved_holds change changes is c p h =
      holds_by (moved a change w.clocks) is a c p
      (subst (λ q. Holds q (stands_on (moved a change w.clocks) a c) p) (sym (moved_phase a change w.clocks c))
      (subst (λ st. Holds (phase_of w c) st p) (sym (own_stands change changes c)) h))

  -- who takes no step holds what it held
  pub others_hold : (x c p : ℕ) → (x ≡ a → ⊥) → IsHeld w x c p → IsHeld u x c p
  others_hold x c p differs h = by (at_clocks m w u a e takes)
    where
      by : AtClocks w u a e → IsHeld u x c p
      by (Moves change changes is) =
          same_holds (moved a change w.clocks) is x c p (moved_phase a change w.clocks c)
          (stands_on-moved_other a x change w.clocks c differs) h
      by (Makes quiet is) = made_holds is x c p h
      by (Starts quiet given is) = started_holds given is x c p h

  -- so does who takes a step by which nobody lets a clock go
  pub quiet_holds : lets_go e ≡ false → (c p : ℕ) → IsHeld w a c p → IsHeld u a c p
  quiet_holds quiet c p h = by (at_clocks m w u a e takes)
    where
      by : AtClocks w u a e → IsHeld u a c p
      by (Moves change changes is) =
          let r = changes.rests quiet c (standing_on w a c) in
          moved_holds change changes is c p
          (alike_holds (phase_of w c) p (standing_on w a c) (change c (standing_on w a c)) r.0 r.1 (h.registered, h.held))
      by (Makes q is) = made_holds is a c p h
      by (Starts q given is) = started_holds given is a c p h

  -- and who has resumed a clock, and is still registered on it
  pub signalled_holds : (c p : ℕ) → is_signalled (standing_on w a c) ≡ true → is_registered (standing_on u a c) ≡ true → IsHeld w a c p
      → IsHeld u a c p
  signalled_holds c p signals still h = by (at_clocks m w u a e takes)
    where
      is_it : (st : Standing) → is_signalled st ≡ true → st ≡ standing.Signalled
      is_it standing.Apart g = absurd (true≢false (sym g))
      is_it standing.Open g = absurd (true≢false (sym g))
      is_it standing.Signalled g = refl
      is_it standing.Ahead g = absurd (true≢false (sym g))

      it : standing_on w a c ≡ standing.Signalled
      it = is_it (standing_on w a c) signals

      by : AtClocks w u a e → IsHeld u a c p
      by (Moves change changes is) = of (changes.signalled c)
        where
          of : (change c standing.Signalled ≡ standing.Signalled) ⊎ (change c standing.Signalled ≡ standing.Apart) → IsHeld u a c p
          of (inl same) =
              moved_holds change changes is c p
              (subst (λ st. Holds (phase_of w c) st p) (sym (ap (change c) it ∙ same ∙ sym it)) (h.registered, h.held))
          of (inr left) =
              let apart = settled_apart now (moved a change w.clocks) a c (own_stands change changes c ∙ ap (change c) it ∙ left) in
              absurd (true≢false (sym still ∙ ap is_registered (ap (λ l. stands_on l a c) is ∙ apart)))
      by (Makes q is) = made_holds is a c p h
      by (Starts q given is) = started_holds given is a c p h

  -- who leaves no clock stays registered
  pub stays_registered : leaves_clocks e ≡ false → (c : ℕ) → is_registered (standing_on w a c) ≡ true
      → is_registered (standing_on u a c) ≡ true
  stays_registered none c h = by (at_clocks m w u a e takes)
    where
      by : AtClocks w u a e → is_registered (standing_on u a c) ≡ true
      by (Moves change changes is) = (moved_holds change changes is c _ (changes.stays none c (standing_on w a c) h, refl)).registered
      by (Makes q is) = (made_holds is a c _ (record { registered = h; held = refl })).registered
      by (Starts q given is) = (started_holds given is a c _ (record { registered = h; held = refl })).registered

  -- no clock advances where nobody lets one go
  pub quiet_phase : lets_go e ≡ false → (c : ℕ) → phase_of u c ≡ phase_of w c
  quiet_phase quiet c = by (at_clocks m w u a e takes)
    where
      by : AtClocks w u a e → phase_of u c ≡ phase_of w c
      by (Moves change changes is) =
          ap (λ l. phase_in l c) is
          ∙ settled_phase now (moved a change w.clocks) c
          (each_moved a change (λ j k. is_ready k ≡ false) w.clocks
          (λ j k at. moved_ready a (change j) k (changes.rests quiet j) ∙ unready j k at))
          ∙ moved_phase a change w.clocks c
      by (Makes q is) =
          ap (λ l. phase_in l c) is
          ∙ settled_phase now (w.clocks ++ new_clock (length w.activities) a ∷ []) c
          (each_push (λ j k. is_ready k ≡ false) w.clocks (new_clock (length w.activities) a) unready
          (new_unready (length w.activities) a there))
          ∙ pushed_phase w.clocks (new_clock (length w.activities) a) c refl refl
      by (Starts q given is) =
          ap (λ l. phase_in l c) is
          ∙ settled_phase now (joined a given w.clocks) c
          (each_joined a given (λ j k. is_ready k ≡ false) w.clocks (λ j k at. joined_ready a (given j) k ∙ unready j k at))
          ∙ joined_phase a given w.clocks c
