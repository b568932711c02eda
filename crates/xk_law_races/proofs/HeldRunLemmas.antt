-- Along a run whoever holds a clock in a phase lets it go, and that is told, before the clock comes further; and where it comes further, an
-- advance is told.
use Rattle.std.proofs.Common.{◌≡◌, ℕ, ◌<◌, ◌≤◌, ◌⊎◌, inl, inr, Bool, true, false, true≢false, not, ◌&&◌, List, [], ◌∷◌, ◌++◌, length, Some}
use Rattle.std.proofs.Common.{None, Option, refl, sym, ap, ◌∙◌, subst, arith}
use Rattle.std.specs.Prelude.{slice_get, nat_lt}
use Rattle.std.specs.Option.{option_map_or}
use Rattle.std.proofs.lemmas.Bool.{cases_eq, cases_lt, or_parts, lt-ltb}
use Rattle.xk_types.specs.declared.world.Standing.{Standing}
use Rattle.xk_types.specs.declared.world.Standing.TheVariants as standing
use Rattle.xk_types.specs.declared.world.Event.{Event}
use Rattle.xk_types.specs.Acceptance.{IsAccepted}
use Rattle.xk_types.specs.Code.{ModuleValue, IsWithinLimits}
use Rattle.xk_types.specs.World.{Clock, World, standing_of}
use Rattle.xk_types.specs.Step.{Stepped, is_signalled, is_pending, is_registered, step}
use Rattle.xk_types.specs.Schedule.{Through, run, IsReached}
use Rattle.xk_law_schedules.proofs.ReachabilityLemmas.{same_through, first_step, reached_step}
use Rattle.xk_law_names.proofs.ActivityNameOrderLaw.{run_first}
use Rattle.xk_law_traces.specs.Edges.{standing_on, phase_of}
use Rattle.xk_core.specs.Core.{has_advanced}
use Rattle.xk_races.specs.declared.deeds.Part.TheVariants as part
use Rattle.xk_races.specs.Deeds.{awaits, gives_way, has_left}
use Rattle.xk_law_races.specs.Passes.{IsHeld}
use Rattle.xk_law_races.proofs.PhaseLemmas.{phase_grows, phase_shows}
use Rattle.xk_closed.proofs.ClockStepLemmas.{lets_go, leaves_clocks}
use Rattle.xk_law_races.proofs.HeldClockLemmas.{held_least, one_of, others_hold, quiet_holds, signalled_holds, stays_registered}
use Rattle.xk_law_races.proofs.HeldClockLemmas.{quiet_phase}
use Rattle.xk_law_races.proofs.ToldDeedLemmas.{IsTold, signal_told, advance_told, leave_told}
use Rattle.xk_law_races.proofs.LinkLemmas.{stands, pending_holds}

-- ---- standings

-- where one of the activities stands on a clock is told of by the clock
pub told_of : (test : Standing → Bool) (w : World) (a c : ℕ) → test standing.Apart ≡ false → a < length w.activities
    → test (standing_on w a c) ≡ true
    → (nat_lt a (length w.activities) && option_map_or (λ (k : Clock). test (standing_of k a)) (slice_get w.clocks c) false) ≡ true
told_of test w a c apart less h =
    ap (λ b. b && option_map_or (λ (k : Clock). test (standing_of k a)) (slice_get w.clocks c) false) (lt-ltb a (length w.activities) less)
    ∙ by (slice_get w.clocks c) h
  where
    by : (o : Option Clock) → test (option_map_or (λ (k : Clock). standing_of k a) o standing.Apart) ≡ true
        → option_map_or (λ (k : Clock). test (standing_of k a)) o false ≡ true
    by None g = absurd (true≢false (sym g ∙ apart))
    by (Some k) g = g

-- ---- a step

-- a deed by which clock c is let go is told of a step of activity a
abbrev pub IsLettingGo : ModuleValue → ℕ → World → World → Event → ℕ → Type 0
IsLettingGo m a w u e c = IsTold m a w u e (part.Signal c) ⊎ IsTold m a w u e (part.Leave c)

module _ (m : ModuleValue) (limits : IsWithinLimits m) (ok : IsAccepted m) where
  module _ (w u : World) (a : ℕ) (e : Event) (reached : IsReached m w) (takes : step m w a ≡ Stepped u e) where
    -- a clock's phase is as before where it isn't seen to have advanced
    same_phase : (c : ℕ) → has_advanced u c ≡ false → phase_of u c ≡ phase_of w c
    same_phase c none = by (cases_lt (phase_of w c) (phase_of u c))
      where
        by : (phase_of w c < phase_of u c) ⊎ (phase_of u c ≤ phase_of w c) → phase_of u c ≡ phase_of w c
        by (inl more) = absurd (true≢false (sym (phase_shows m w u a c e takes more) ∙ none))
        by (inr le) =
            let up = phase_grows m (a ∷ []) w u c (run_first m [] w u a e takes) in
            omega (arith, le, up)

    -- who is awaited, and no less behind the step, holds the clock as before
    still_awaited : (c p : ℕ) → gives_way u a c ≡ false → is_pending (standing_on w a c) ≡ true → IsHeld w a c p → IsHeld u a c p
    still_awaited c p none pends h =
        let parts = or_parts (has_advanced u c) (not (awaits u a c)) none in
        let here = pending_holds (phase_of w c) (standing_on w a c) pends in
        let behind = pending_holds (phase_of u c) (standing_on u a c) (stands is_pending u a c (is_true (awaits u a c) parts.1)) in
        record { registered = behind.0; held = behind.1 ∙ same_phase c parts.0 ∙ sym here.1 ∙ h.held }
      where
        is_true : (b : Bool) → not b ≡ false → b ≡ true
        is_true true g = refl
        is_true false g = absurd (true≢false g)

    -- who isn't, or isn't any more, lets it go
    pending_lets : (c p : ℕ) → lets_go e ≡ true → is_pending (standing_on w a c) ≡ true → IsHeld w a c p
        → IsHeld u a c p ⊎ IsLettingGo m a w u e c
    pending_lets c p goes pends h = by (gives_way u a c) refl
      where
        by : (b : Bool) → gives_way u a c ≡ b → IsHeld u a c p ⊎ IsLettingGo m a w u e c
        by true gives =
            inr (inl (signal_told m a w u e c goes
            (told_of is_pending w a c refl (one_of m limits ok w u a e reached takes a c h.registered) pends) gives))
        by false none = inl (still_awaited c p none pends h)

    signalled_lets : (c p : ℕ) → is_signalled (standing_on w a c) ≡ true → IsHeld w a c p → IsHeld u a c p ⊎ IsLettingGo m a w u e c
    signalled_lets c p signals h = by (leaves_clocks e) refl
      where
        still : is_registered (standing_on u a c) ≡ true → IsHeld u a c p ⊎ IsLettingGo m a w u e c
        still registers = inl (signalled_holds m limits ok w u a e reached takes c p signals registers h)

        of : leaves_clocks e ≡ true → (b : Bool) → has_left u a c ≡ b → IsHeld u a c p ⊎ IsLettingGo m a w u e c
        of leaves true left =
            inr (inr (leave_told m a w u e c leaves
            (told_of is_signalled w a c refl (one_of m limits ok w u a e reached takes a c h.registered) signals) left))
        of leaves false left = still (stands is_registered u a c (is_true _ left))
          where
            is_true : (b : Bool) → not b ≡ false → b ≡ true
            is_true true g = refl
            is_true false g = absurd (true≢false g)

        by : (b : Bool) → leaves_clocks e ≡ b → IsHeld u a c p ⊎ IsLettingGo m a w u e c
        by true leaves = of leaves (has_left u a c) refl
        by false stays = still (stays_registered m limits ok w u a e reached takes stays c h.registered)

    -- who takes the step holds a clock as before, or lets it go
    holds_or_lets : (c p : ℕ) → IsHeld w a c p → IsHeld u a c p ⊎ IsLettingGo m a w u e c
    holds_or_lets c p h = by (lets_go e) refl
      where
        of : lets_go e ≡ true → (st : Standing) → standing_on w a c ≡ st → IsHeld u a c p ⊎ IsLettingGo m a w u e c
        of goes standing.Apart is = absurd (true≢false (sym h.registered ∙ ap is_registered is))
        of goes standing.Open is = pending_lets c p goes (ap is_pending is) h
        of goes standing.Signalled is = signalled_lets c p (ap is_signalled is) h
        of goes standing.Ahead is = pending_lets c p goes (ap is_pending is) h

        by : (b : Bool) → lets_go e ≡ b → IsHeld u a c p ⊎ IsLettingGo m a w u e c
        by true goes = of goes (standing_on w a c) refl
        by false quiet = inl (quiet_holds m limits ok w u a e reached takes quiet c p h)

    -- where a clock comes further, an advance of it is told, and by the step somebody may let clocks go
    pub further_told : (c : ℕ) → phase_of w c < phase_of u c → (lets_go e ≡ true) × IsTold m a w u e (part.Advance c)
    further_told c more = by (lets_go e) refl
      where
        by : (b : Bool) → lets_go e ≡ b → (lets_go e ≡ true) × IsTold m a w u e (part.Advance c)
        by true goes = (goes, advance_told m a w u e c goes (phase_shows m w u a c e takes more))
        by false quiet = let same = quiet_phase m limits ok w u a e reached takes quiet c in absurd (omega (arith, more, same))

  -- ---- a run

  -- on the way somebody takes a step by which clock c is let go, which it held in phase p
  pub record IsLetGoOn (list : List ℕ) (w : World) (x c p : ℕ) : Type 0 where
    pub before : List ℕ
    pub after : List ℕ
    pub here : World
    pub there : World
    pub e : Event
    pub whole : list ≡ before ++ x ∷ after
    pub leads : run m before w ≡ Through here
    pub takes : step m here x ≡ Stepped there e
    pub holds : IsHeld here x c p
    pub lets : IsLettingGo m x here there e c

  -- before the clock comes further
  pub let_go_on : (list : List ℕ) (w v : World) (x c p : ℕ) → IsReached m w → run m list w ≡ Through v → IsHeld w x c p → p < phase_of v c
      → IsLetGoOn list w x c p
  let_go_on [] w v x c p reached legal h further =
      let least = held_least (phase_of w c) (standing_on w x c) in
      let held = h.held in
      let same = ap (λ (z : World). phase_of z c) (same_through w v legal) in
      absurd (omega (arith, least, held, same, further))
  let_go_on (a ∷ list) w v x c p reached legal h further =
      by (cases_eq x a)
      (λ g. let_go_on list f.0 v x c p (reached_step m w f.0 a f.1 reached f.2) f.3 g further)
    where
      f : (u : World) × (e : Event) × (step m w a ≡ Stepped u e) × (run m list u ≡ Through v)
      f = first_step w v (step m w a) (run m list) legal

      behind : IsLetGoOn list f.0 x c p → IsLetGoOn (a ∷ list) w x c p
      behind r = record {
        before = a ∷ r.before;
        after = r.after;
        here = r.here;
        there = r.there;
        e = r.e;
        whole = ap (λ l. a ∷ l) r.whole;
        leads = run_first m r.before w f.0 a f.1 f.2 ∙ r.leads;
        takes = r.takes;
        holds = r.holds;
        lets = r.lets;
      }

      here : a ≡ x → IsHeld f.0 a c p ⊎ IsLettingGo m a w f.0 f.1 c → (IsHeld f.0 x c p → IsLetGoOn list f.0 x c p)
          → IsLetGoOn (a ∷ list) w x c p
      here is (inl g) rest = behind (rest (subst (λ b. IsHeld f.0 b c p) is g))
      here is (inr lets) rest = record {
        before = [];
        after = list;
        here = w;
        there = f.0;
        e = f.1;
        whole = ap (λ b. b ∷ list) is;
        leads = refl;
        takes = ap (step m w) (sym is) ∙ f.2;
        holds = h;
        lets = subst (λ b. IsLettingGo m b w f.0 f.1 c) is lets;
      }

      by : (x ≡ a) ⊎ (x ≡ a → ⊥) → (IsHeld f.0 x c p → IsLetGoOn list f.0 x c p) → IsLetGoOn (a ∷ list) w x c p
      by (inl is) rest = here (sym is) (holds_or_lets w f.0 a f.1 reached f.2 c p (subst (λ b. IsHeld w b c p) is h)) rest
      by (inr differs) rest = behind (rest (others_hold m limits ok w f.0 a f.1 reached f.2 x c p differs h))

-- on the way clock c comes further than it was
pub record ComesFurtherOn (m : ModuleValue) (list : List ℕ) (w : World) (c : ℕ) : Type 0 where
  pub before : List ℕ
  pub act : ℕ
  pub after : List ℕ
  pub here : World
  pub there : World
  pub e : Event
  pub whole : list ≡ before ++ act ∷ after
  pub leads : run m before w ≡ Through here
  pub takes : step m here act ≡ Stepped there e
  pub still : phase_of here c ≡ phase_of w c
  pub further : phase_of here c < phase_of there c

pub further_on : (m : ModuleValue) (list : List ℕ) (w v : World) (c : ℕ) → run m list w ≡ Through v → phase_of w c < phase_of v c
    → ComesFurtherOn m list w c
further_on m [] w v c legal more =
    let same = ap (λ (z : World). phase_of z c) (same_through w v legal) in absurd (omega (arith, same, more))
further_on m (a ∷ list) w v c legal more =
    by (cases_lt (phase_of w c) (phase_of f.0 c)) (λ g. further_on m list f.0 v c f.3 g)
  where
    f : (u : World) × (e : Event) × (step m w a ≡ Stepped u e) × (run m list u ≡ Through v)
    f = first_step w v (step m w a) (run m list) legal

    behind : phase_of f.0 c ≡ phase_of w c → ComesFurtherOn m list f.0 c → ComesFurtherOn m (a ∷ list) w c
    behind same r = record {
      before = a ∷ r.before;
      act = r.act;
      after = r.after;
      here = r.here;
      there = r.there;
      e = r.e;
      whole = ap (λ l. a ∷ l) r.whole;
      leads = run_first m r.before w f.0 a f.1 f.2 ∙ r.leads;
      takes = r.takes;
      still = r.still ∙ same;
      further = r.further;
    }

    by : (phase_of w c < phase_of f.0 c) ⊎ (phase_of f.0 c ≤ phase_of w c)
        → (phase_of f.0 c < phase_of v c → ComesFurtherOn m list f.0 c)
        → ComesFurtherOn m (a ∷ list) w c
    by (inl now) rest = record {
      before = [];
      act = a;
      after = list;
      here = w;
      there = f.0;
      e = f.1;
      whole = refl;
      leads = refl;
      takes = f.2;
      still = refl;
      further = now;
    }
    by (inr le) rest =
        let up = phase_grows m (a ∷ []) w f.0 c (run_first m [] w f.0 a f.1 f.2) in
        let same : phase_of f.0 c ≡ phase_of w c = omega (arith, le, up) in
        behind same (rest (omega (arith, same, more)))
