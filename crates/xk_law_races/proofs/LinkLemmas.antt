-- Where one deed comes before another, a cause, or the order of an activity's own steps, has the step of the one before that of the other.
use Rattle.std.proofs.Common.{◌≡◌, ℕ, ℤ, zero, suc, ◌-◌, ◌<◌, ◌≤◌, ◌⊎◌, inl, inr, Bool, true, false, true≢false, List, [], ◌∷◌, ◌++◌}
use Rattle.std.proofs.Common.{length, take, Some, None, Option, refl, sym, ap, ◌∙◌, subst, arith}
use Rattle.std.specs.Prelude.{slice_get, nat_lt, ◌&&◌}
use Rattle.std.specs.Option.{option_map_or}
use Rattle.std.proofs.lemmas.Bool.{and_parts}
use Rattle.std.proofs.lemmas.Option.{same_Some, slice_get_within}
use Rattle.xk_types.specs.declared.world.Standing.{Standing}
use Rattle.xk_types.specs.declared.world.Standing.TheVariants as standing
use Rattle.xk_types.specs.declared.world.Event.TheVariants as event
use Rattle.xk_types.specs.Acceptance.{IsAccepted}
use Rattle.xk_types.specs.Code.{ModuleValue, IsWithinLimits}
use Rattle.xk_types.specs.World.{Activity, Clock, World, AreArguments, opening, root, is_ended, standing_of}
use Rattle.xk_types.specs.Step.{Stepped, innermost, is_pending, is_signalled, is_registered}
use Rattle.xk_types.specs.Schedule.{Through, run, IsReached}
use Rattle.xk_types.proofs.ListLemmas.{get-set_same}
use Rattle.xk_law_schedules.proofs.ReachabilityLemmas.{opening_reached, reached_sound, reached_scoped}
use Rattle.xk_law_schedules.proofs.ScopeLemmas.FinishOwnerLemmas.{AreOwned, under_governed}
use Rattle.xk_law_commute.proofs.ChangeSquareLemmas.{found_of}
use Rattle.xk_law_commute.proofs.StartSquareLemmas.{alive_of}
use Rattle.xk_law_traces.specs.Edges.{StepName, turns_of, IsStart, IsTurn, standing_on, phase_of, held_in}
use Rattle.xk_law_traces.proofs.EdgeLaw.{run_behind}
use Rattle.xk_core.specs.Core.{has_advanced}
use Rattle.xk_races.specs.declared.deeds.Deed.{Deed}
use Rattle.xk_races.specs.declared.deeds.Part.{Part}
use Rattle.xk_races.specs.declared.deeds.Part.TheVariants as part
use Rattle.xk_races.specs.Deeds.{awaits, has_resumed, tell_deeds}
use Rattle.xk_races.specs.Knowledge.{Scopes, nothing_known}
use Rattle.xk_races.specs.Lists.{number_at}
use Rattle.xk_races.proofs.OrderLemmas.{IsUpTo}
use Rattle.xk_races.specs.Order.{IsAt, Reason, Own, Passed, Closed, Edge, Leads, IsLeave, IsAwaited, IsCounted, finish_at, scopes_after}
use Rattle.xk_show_events.specs.declared.steps.RunStep.{RunStep}
use Rattle.xk_show_events.specs.Steps.{run_step}
use Rattle.xk_law_races.proofs.EdgeListLemmas.{IsLed, UpTo, led_cause, led_own, led_through, up_through}
use Rattle.xk_law_races.proofs.PhaseLemmas.{phase_grows, phase_advances}
use Rattle.xk_law_races.proofs.NumberedFinishLemmas.{AreNumbered, finish, base, number}
use Rattle.xk_law_races.proofs.StepNestingLemmas.{Nests, Effect, DoesGo, DoesStart, effect_of}
use Rattle.xk_law_races.proofs.TurnLemmas.{Turn, name_of, IsToldOf, deeds, deeds_run, deeds_first, told_at, deeds_around, deed_at}
use Rattle.xk_law_races.proofs.TurnLemmas.{IsEarlier, AreOne, run_between, one_here, one_event, one_told, one_name, earlier_turns}
use Rattle.xk_law_races.proofs.TurnLemmas.{turn_taken, turn_reached, in_order, offsets_rise}
use Rattle.xk_law_races.proofs.DeedPartLemmas.{Says, is_pass, advances_once, part_is}
use Rattle.xk_law_races.proofs.ScopeLemmas.{nest, opened_in, scopes_append, scopes_step, numbered_run, opening_numbered, ended_stays}

-- ---- lists

take_front : (xs ys : List Deed) (k : ℕ) → k ≡ length xs → take k (xs ++ ys) ≡ xs
take_front xs ys k is = ap (λ n. take n (xs ++ ys)) is ∙ by xs
  where
    by : (xs : List Deed) → take (length xs) (xs ++ ys) ≡ xs
    by [] = refl
    by (x ∷ xs) = ap (λ l. x ∷ l) (by xs)

-- ---- standings

-- what is told of where an activity stands on a clock, by the clock
pub stands : (test : Standing → Bool) (w : World) (a c : ℕ)
    → (nat_lt a (length w.activities) && option_map_or (λ (k : Clock). test (standing_of k a)) (slice_get w.clocks c) false) ≡ true
    → test (standing_on w a c) ≡ true
stands test w a c h =
    by (slice_get w.clocks c)
    (and_parts (nat_lt a (length w.activities)) (option_map_or (λ (k : Clock). test (standing_of k a)) (slice_get w.clocks c) false) h).1
  where
    by : (o : Option Clock) → option_map_or (λ (k : Clock). test (standing_of k a)) o false ≡ true
        → test (option_map_or (λ (k : Clock). standing_of k a) o standing.Apart) ≡ true
    by None g = absurd (true≢false (sym g))
    by (Some k) g = g

-- who is awaited on a clock is registered there, and holds it in its phase
pub pending_holds : (p : ℕ) (st : Standing) → is_pending st ≡ true → (is_registered st ≡ true) × (held_in p st ≡ p)
pending_holds p standing.Apart h = absurd (true≢false (sym h))
pending_holds p standing.Open h = (refl, refl)
pending_holds p standing.Signalled h = absurd (true≢false (sym h))
pending_holds p standing.Ahead h = (refl, refl)

-- who has resumed it is, too, and holds it in the next one
pub signalled_holds : (p : ℕ) (st : Standing) → is_signalled st ≡ true → (is_registered st ≡ true) × (held_in p st ≡ suc p)
signalled_holds p standing.Apart h = absurd (true≢false (sym h))
signalled_holds p standing.Open h = absurd (true≢false (sym h))
signalled_holds p standing.Signalled h = (refl, refl)
signalled_holds p standing.Ahead h = absurd (true≢false (sym h))

-- ---- deeds

module _ (m : ModuleValue) (args : List ℤ) (limits : IsWithinLimits m) (ok : IsAccepted m) (taken : AreArguments m args)
    (s : List ℕ) (z : World)
    (legal : run m s (opening m args) ≡ Through z) where
  abbrev w : World
  w = opening m args

  abbrev ds : List Deed
  ds = deeds m s w

  reached : IsReached m w
  reached = opening_reached m args taken

  abbrev start : Scopes
  start = nothing_known.scopes

  -- what a deed says of its turn
  pub whose : (t : Turn m w s) (k : ℕ) (d : Deed) → IsToldOf m w s t k d → d.step.act ≡ t.act
  whose t k d r = ap (λ (p : RunStep). p.act) (part_is m w s t k d r).0

  pub says_so : (t : Turn m w s) (k : ℕ) (d : Deed) (r : IsToldOf m w s t k d) (p : Part) → d.part ≡ p
      → Says m (run_step t.act t.here t.there t.e) t.here t.there t.e r.offset p
  says_so t k d r p is = subst (Says m (run_step t.act t.here t.there t.e) t.here t.there t.e r.offset) is (part_is m w s t k d r).1

  -- ---- an activity's own

  own_up : (t u : Turn m w s) → IsEarlier m w s t u ⊎ AreOne m w s t u → t.act ≡ u.act → UpTo m w s (name_of t) (name_of u)
  own_up t u (inl e) same = inr (led_own m w s (name_of t) (name_of u) same (earlier_turns m w s t u e same))
  own_up t u (inr o) same = inl (one_name m w s t u o)

  -- ---- a start

  start_up : (t u : Turn m w s) → t.e ≡ event.Spawned → u.act ≡ length t.here.activities → UpTo m w s (name_of t) (name_of u)
  start_up t u is child = by (turns_of u.act u.before) refl
    where
      cause : IsStart m w s (name_of t) (u.act, 0)
      cause = record {
        before = t.before;
        after = t.after;
        here = t.here;
        there = t.there;
        whole = t.whole;
        leads = t.leads;
        turn = refl;
        starts = t.takes ∙ ap (Stepped t.there) is;
        child = child;
        first = refl;
      }

      first : IsLed m w s (name_of t) (u.act, 0)
      first = led_cause m w s (name_of t) (u.act, 0) (inl (inl cause))

      by : (n : ℕ) → turns_of u.act u.before ≡ n → UpTo m w s (name_of t) (name_of u)
      by zero e = inr (subst (λ n. IsLed m w s (name_of t) (u.act, n)) (sym e) first)
      by (suc n) e =
          inr (led_through m w s (name_of t) (u.act, 0) (name_of u) first (led_own m w s (u.act, 0) (name_of u) refl (omega (arith, e))))

  -- ---- a pass

  abbrev turn_of : (t : Turn m w s) → IsTurn m w s (name_of t)
  turn_of t = record { before = t.before; after = t.after; here = t.here; whole = t.whole; leads = t.leads; turn = refl }

  pub phase_between : (t u : Turn m w s) (c : ℕ) → IsEarlier m w s t u ⊎ AreOne m w s t u → phase_of t.here c ≤ phase_of u.here c
  phase_between t u c (inl e) =
      phase_grows m (t.act ∷ e.0) t.here u.here c
      (sym (run_behind m t.before (t.act ∷ e.0) w t.here t.leads) ∙ ap (λ l. run m l w) (sym e.1) ∙ u.leads)
  phase_between t u c (inr o) = let same = ap (λ (v : World). phase_of v c) (one_here m w s t u o) in omega (arith, same)

  -- where a clock advances in a turn, its phase is greater in each later one
  phase_behind : (v u : Turn m w s) (c : ℕ) → IsEarlier m w s v u → has_advanced v.there c ≡ true → phase_of v.here c < phase_of u.here c
  phase_behind v u c later advances =
      let sound = reached_sound m limits ok v.here (turn_reached m w s v reached) in
      let a = phase_advances m v.here v.there v.act c v.e v.takes (λ k at. (sound.clocks c k at).last) advances in
      let b = phase_grows m later.0 v.there u.here c (run_between m w s v u later) in
      omega (arith, a, b)

  -- no clock advances twice in one turn
  advances_apart : (l v : Turn m w s) (i n c : ℕ) (f g : Deed) → IsToldOf m w s l i f → IsToldOf m w s v n g → i < n
      → f.part ≡ part.Advance c → g.part ≡ part.Advance c → IsEarlier m w s l v
  advances_apart l v i n c f g p q less first second = by (in_order m w s l v i n f g p q less)
    where
      by : IsEarlier m w s l v ⊎ AreOne m w s l v → IsEarlier m w s l v
      by (inl earlier) = earlier
      by (inr one) = absurd (advances_once m v.act v.here v.there v.e c p.offset q.offset f g
          (offsets_rise m w s l v i n f g p q one less)
          (ap (λ list. slice_get list p.offset) (sym (one_told m w s l v one)) ∙ p.among) q.among first second)

  -- by turn u clock c has come further than who takes turn t holds it
  abbrev IsFurther : Turn m w s → Turn m w s → ℕ → Type 0
  IsFurther t u c =
      (is_registered (standing_on t.here t.act c) ≡ true)
      × (held_in (phase_of t.here c) (standing_on t.here t.act c) < phase_of u.here c)

  -- turn u passes it
  pass_led : (t u : Turn m w s) (c : ℕ) → u.e ≡ event.Passed → awaits u.here u.act c ≡ true → IsFurther t u c
      → IsLed m w s (name_of t) (name_of u)
  pass_led t u c is waits further = led_cause m w s (name_of t) (name_of u) (inr (record {
    first = turn_of t;
    second = turn_of u;
    clock = c;
    registered = further.0;
    there = u.there;
    passes = u.takes ∙ ap (Stepped u.there) is;
    awaited = stands is_pending u.here u.act c waits;
    advanced = further.1;
  }))

  -- the clock advanced in turn v, and waited for turn t
  signal_further : (t v u : Turn m w s) (c : ℕ) → IsEarlier m w s t v ⊎ AreOne m w s t v → IsEarlier m w s v u
      → awaits t.here t.act c ≡ true → has_advanced v.there c ≡ true → IsFurther t u c
  signal_further t v u c first second signals advances =
      let h = pending_holds (phase_of t.here c) (standing_on t.here t.act c) (stands is_pending t.here t.act c signals) in
      let held = h.1 in
      let a = phase_between t v c first in
      let b = phase_behind v u c second advances in
      (h.0, omega (arith, held, a, b))

  -- it advanced in turn l and in turn v; who takes turn t had resumed it
  leave_further : (t l v u : Turn m w s) (c : ℕ) → IsEarlier m w s t l ⊎ AreOne m w s t l → IsEarlier m w s l v → IsEarlier m w s v u
      → has_resumed t.here t.act c ≡ true → has_advanced l.there c ≡ true → has_advanced v.there c ≡ true → IsFurther t u c
  leave_further t l v u c first second third leaves once again =
      let h = signalled_holds (phase_of t.here c) (standing_on t.here t.act c) (stands is_signalled t.here t.act c leaves) in
      let held = h.1 in
      let a = phase_between t l c first in
      let b = phase_behind l v c second once in
      let d = phase_behind v u c third again in
      (h.0, omega (arith, held, a, b, d))

  -- ---- a finish

  abbrev scopes_at : Turn m w s → Scopes
  scopes_at t = scopes_after (deeds m t.before w) start

  pub finish_is : (t : Turn m w s) (k : ℕ) (d : Deed) (r : IsToldOf m w s t k d) → r.offset ≡ 0 → (a : ℕ)
      → finish_at ds k a ≡ number_at (scopes_at t).within a
  finish_is t k d r first a =
      ap (λ l. number_at (scopes_after l start).within a)
      (ap (take k) (deeds_around m w s t)
      ∙ take_front (deeds m t.before w) (tell_deeds m t.act t.here t.there t.e ++ deeds m t.after t.there) k
      (let n = r.number in omega (arith, n, first)))

  -- who ended earlier is still in the finish in which it ended
  module _ (t u : Turn m w s) (ends : t.e ≡ event.Ended) (e : IsEarlier m w s t u) where
    abbrev IsOver : Type 0
    IsOver = (x : Activity) × (slice_get u.here.activities t.act ≡ Some x) × (is_ended x.status ≡ true)
        × (number_at (scopes_at u).within t.act ≡ number_at (scopes_at t).within t.act)

    over : IsOver
    over = by (effect_of m t.here t.there t.act x.0 t.e x.1 t.takes)
      where
        x : (act : Activity) × (slice_get t.here.activities t.act ≡ Some act)
        x = found_of m t.here t.act t.there t.e t.takes

        along : scopes_at u ≡ scopes_after (deeds m e.0 t.there) (scopes_after (tell_deeds m t.act t.here t.there t.e) (scopes_at t))
        along =
            ap (λ l. scopes_after l start)
            (ap (λ l. deeds m l w) e.1 ∙ deeds_run m t.before (t.act ∷ e.0) w t.here t.leads
            ∙ ap (λ l. deeds m t.before w ++ l) (deeds_first m e.0 t.here t.there t.act t.e t.takes))
            ∙ scopes_append (deeds m t.before w) (tell_deeds m t.act t.here t.there t.e ++ deeds m e.0 t.there) start
            ∙ scopes_append (tell_deeds m t.act t.here t.there t.e) (deeds m e.0 t.there) (scopes_at t)

        still : scopes_after (tell_deeds m t.act t.here t.there t.e) (scopes_at t) ≡ scopes_at t
        still = ap (λ f. scopes_after (tell_deeds m t.act t.here t.there f) (scopes_at t)) ends
            ∙ scopes_step m t.act t.here t.there (scopes_at t) event.Ended

        by : Effect m t.here t.there t.act x.0 t.e → IsOver
        by (DoesGo g) =
            let nests : Nests m event.Ended x.0 g.next = subst (λ f. Nests m f x.0 g.next) ends g.nests in
            let r = ended_stays m e.0 t.there u.here (scopes_after (tell_deeds m t.act t.here t.there t.e) (scopes_at t)) t.act g.next
            (run_between m w s t u e)
            (ap (λ l. slice_get l t.act) g.activities ∙ get-set_same t.here.activities t.act x.0 g.next x.1) nests.1 in (
              g.next,
              r.0,
              nests.1,
              ap (λ q. number_at q.within t.act) along ∙ r.1 ∙ ap (λ q. number_at q.within t.act) still,
            )
        by (DoesStart g) = absurd (not_both (sym ends ∙ g.is))
          where
            not_both : event.Ended ≡ event.Spawned → ⊥
            not_both h = cc

  close_led : (t u : Turn m w s) → t.e ≡ event.Ended → u.e ≡ event.Closed → IsEarlier m w s t u
      → number_at (scopes_at t).within t.act ≡ number_at (scopes_at u).within u.act → IsLed m w s (name_of t) (name_of u)
  close_led t u ends closes e same = by (effect_of m u.here u.there u.act y.0 u.e y.1 u.takes)
    where
      y : (act : Activity) × (slice_get u.here.activities u.act ≡ Some act)
      y = found_of m u.here u.act u.there u.e u.takes

      x : IsOver t u ends e
      x = over t u ends e

      acts : List Activity
      acts = u.here.activities

      numbered : AreNumbered (nest (scopes_at u) acts)
      numbered = numbered_run m u.before w u.here start u.leads (opening_numbered m args)

      owned : AreOwned acts
      owned k act at o own = ((reached_scoped m limits ok u.here (turn_reached m w s u reached)).activities k act at).owner o own

      -- it has none open itself, or it would be the one that closes
      base_is : (n : ℕ) → opened_in acts t.act ≡ n → 0 < opened_in acts u.act
          → number_at (scopes_at u).within u.act ≡ base (nest (scopes_at u) acts) t.act
      base_is zero none some = sym same ∙ sym x.3 ∙ sym (ap (λ k. number (nest (scopes_at u) acts) t.act k) none)
      base_is (suc n) more some =
          let r = numbered.own t.act u.act 0 0 (omega (arith, more)) some (x.3 ∙ same) in
          absurd (true≢false (sym x.2 ∙ alive_of m u.here u.act x.0 u.there u.e (ap (slice_get acts) (sym r.0) ∙ x.1) u.takes))

      by : Effect m u.here u.there u.act y.0 u.e → IsLed m w s (name_of t) (name_of u)
      by (DoesGo g) =
          let nests : Nests m event.Closed y.0 g.next = subst (λ f. Nests m f y.0 g.next) closes g.nests in
          let open' : opened_in acts u.act ≡ y.0.opened = ap (λ o. option_map_or (λ (v : Activity). v.opened) o 0) y.1 in
          let some : 0 < opened_in acts u.act = (let n = nests.0 in omega (arith, open', n)) in
          let governs =
          numbered.governs t.act u.act 0 (slice_get_within acts t.act x.0 x.1) some (base_is (opened_in acts t.act) refl some) in
          let depth : opened_in acts u.act - 0 ≡ y.0.opened = omega (arith, open') in
          let governed : x.0.governed ≡ innermost u.act y.0 =
          sym (ap (λ o. option_map_or (λ (v : Activity). v.governed) o root) x.1) ∙ governs ∙ ap (finish u.act) depth in
          led_cause m w s (name_of t) (name_of u) (inl (inr (record {
            before = u.before;
            after = u.after;
            here = u.here;
            there = u.there;
            closed = u.e;
            whole = u.whole;
            leads = u.leads;
            turn = refl;
            takes = u.takes;
            closer = y.0;
            found = y.1;
            first = nests.1.0;
            closes = nests.1.1;
            child = x.0;
            known = x.1;
            under = under_governed acts owned (innermost u.act y.0) t.act x.0 x.1 governed;
            taken = turn_taken m w s t;
          })))
      by (DoesStart g) = absurd (not_both (sym closes ∙ g.is))
        where
          not_both : event.Closed ≡ event.Spawned → ⊥
          not_both h = cc

  -- ---- reasons

  -- which deed is awaited
  awaited_at : (n c k : ℕ) → IsAwaited ds n c k → (d : Deed) × IsAt ds k d
  awaited_at n c k (inl h) = (h.1, h.2)
  awaited_at n c k (inr h) = let g = h.5 in (g.1, g.2)

  -- which deed a reason is about
  reason_at : (k j : ℕ) (e : Deed) → Reason ds k j e → (d : Deed) × IsAt ds k d
  reason_at k j e (Own h) = (h.1, h.2)
  reason_at k j e (Passed c is h) = awaited_at h.0 c k h.5
  reason_at k j e (Closed is h) = (h.1, h.2)

  same_deed : (t : Turn m w s) (k : ℕ) (c d : Deed) → IsAt ds k c → IsToldOf m w s t k d → c ≡ d
  same_deed t k c d at r = same_Some c d (sym at ∙ deed_at m w s t k d r)

  -- where a clock has advanced, it has come beyond the phase in which each held it for whom that advance waited
  awaited_further : (t v u : Turn m w s) (k n c : ℕ) (d f : Deed) → IsToldOf m w s t k d → IsToldOf m w s v n f → f.part ≡ part.Advance c
      → IsEarlier m w s v u → IsAwaited ds n c k → IsFurther t u c
  awaited_further t v u k n c d f p q is later (inl h) =
      signal_further t v u c (in_order m w s t v k n d f p q h.0) later
      (says_so t k d p (part.Signal c) (ap (λ (x : Deed). x.part) (sym (same_deed t k h.1 d h.2 p)) ∙ h.3))
      (says_so v n f q (part.Advance c) is).0
  awaited_further t v u k n c d f p q is later (inr h) = by (told_at m s w z legal h.0 h.2 h.3) h.5
    where
      by : (l : Turn m w s) × IsToldOf m w s l h.0 h.2 → IsLeave ds h.0 c k → IsFurther t u c
      by (l, r) g =
          leave_further t l v u c (in_order m w s t l k h.0 d h.2 p r g.0)
          (advances_apart l v h.0 n c h.2 f r q h.1 h.4 is) later
          (says_so t k d p (part.Leave c) (ap (λ (x : Deed). x.part) (sym (same_deed t k g.1 d g.2 p)) ∙ g.3))
          (says_so l h.0 h.2 r (part.Advance c) h.4).0 (says_so v n f q (part.Advance c) is).0

  -- so it is with all that a pass counts
  pub counted_further : (t u : Turn m w s) (k j c : ℕ) (d e : Deed) → IsToldOf m w s t k d → IsToldOf m w s u j e → e.part ≡ part.Pass c
      → IsCounted ds j c k → IsFurther t u c
  counted_further t u k j c d e p q passes h = by (told_at m s w z legal h.0 h.2 h.3)
    where
      by : (v : Turn m w s) × IsToldOf m w s v h.0 h.2 → IsFurther t u c
      by (v, r) = behind (in_order m w s v u h.0 j h.2 e r q h.1)
        where
          behind : IsEarlier m w s v u ⊎ AreOne m w s v u → IsFurther t u c
          behind (inl later) = awaited_further t v u k h.0 c d h.2 p r h.4 later h.5
          behind (inr one) = absurd (true≢false
              (sym (ap is_pass (one_event m w s v u one ∙ (says_so u j e q (part.Pass c) passes).0))
              ∙ (says_so v h.0 h.2 r (part.Advance c) h.4).1))

  reason_up : (t u : Turn m w s) (k j : ℕ) (d e : Deed) → IsToldOf m w s t k d → IsToldOf m w s u j e → Reason ds k j e
      → UpTo m w s (name_of t) (name_of u)
  reason_up t u k j d e p q (Own h) = by h.3
    where
      is : h.1 ≡ d
      is = same_deed t k h.1 d h.2 p

      by : (h.1.step.act ≡ e.step.act) ⊎ (h.1.part ≡ part.Start e.step.act) → UpTo m w s (name_of t) (name_of u)
      by (inl same) =
          own_up t u (in_order m w s t u k j d e p q h.0)
          (sym (whose t k d p) ∙ ap (λ (c : Deed). c.step.act) (sym is) ∙ same ∙ whose u j e q)
      by (inr starts) =
          let g = says_so t k d p (part.Start e.step.act) (ap (λ (c : Deed). c.part) (sym is) ∙ starts) in
          start_up t u g.0 (sym (whose u j e q) ∙ g.1)
  reason_up t u k j d e p q (Passed c passes h) =
      let last = says_so u j e q (part.Pass c) passes in
      inr (pass_led t u c last.0 last.1 (counted_further t u k j c d e p q passes h))
  reason_up t u k j d e p q (Closed closes h) = by (in_order m w s t u k j d e p q h.0)
    where
      is : h.1 ≡ d
      is = same_deed t k h.1 d h.2 p

      end : (t.e ≡ event.Ended) × (p.offset ≡ 0)
      end = says_so t k d p part.End (ap (λ (c : Deed). c.part) (sym is) ∙ h.3)

      close : (u.e ≡ event.Closed) × (q.offset ≡ 0)
      close = says_so u j e q part.Close closes

      by : IsEarlier m w s t u ⊎ AreOne m w s t u → UpTo m w s (name_of t) (name_of u)
      by (inl earlier) = inr (close_led t u end.0 close.0 earlier
          (sym (finish_is t k d p end.1 t.act) ∙ ap (finish_at ds k) (sym (ap (λ (c : Deed). c.step.act) is ∙ whose t k d p)) ∙ h.4
          ∙ ap (finish_at ds j) (whose u j e q) ∙ finish_is u j e q close.1 u.act))
      by (inr one) = absurd (not_both (sym end.0 ∙ one_event m w s t u one ∙ close.0))
        where
          not_both : event.Ended ≡ event.Closed → ⊥
          not_both g = cc

  edge_up : (t u : Turn m w s) (k j : ℕ) (d e : Deed) → IsToldOf m w s t k d → IsToldOf m w s u j e → Edge ds k j
      → UpTo m w s (name_of t) (name_of u)
  edge_up t u k j d e p q edge = reason_up t u k j d e p q (subst (Reason ds k j) (same_deed u j edge.0 e edge.1 q) edge.2)

  leads_up : (ks : List ℕ) (t u : Turn m w s) (i j : ℕ) (d e : Deed) → IsToldOf m w s t i d → IsToldOf m w s u j e → Leads ds i ks j
      → UpTo m w s (name_of t) (name_of u)
  leads_up [] t u i j d e p q h = edge_up t u i j d e p q h
  leads_up (k ∷ ks) t u i j d e p q h =
      let c = reason_at k j h.1.0 h.1.2 in
      let v = told_at m s w z legal k c.0 c.1 in
      up_through m w s (name_of t) (name_of v.0) (name_of u) (leads_up ks t v.0 i k d c.0 p v.1 h.0) (edge_up v.0 u k j c.0 e v.1 q h.1)

  -- where a deed of one activity comes before a deed of another, its step leads to that of the other
  pub up_led : (t u : Turn m w s) (i j : ℕ) (d e : Deed) → IsToldOf m w s t i d → IsToldOf m w s u j e → (u.act ≡ t.act → ⊥) → IsUpTo ds i j
      → IsLed m w s (name_of t) (name_of u)
  up_led t u i j d e p q differ (inl is) =
      let same : d ≡ e = same_Some d e (sym (deed_at m w s t i d p) ∙ ap (slice_get ds) is ∙ deed_at m w s u j e q) in
      absurd (differ (sym (whose u j e q) ∙ sym (ap (λ (c : Deed). c.step.act) same) ∙ whose t i d p))
  up_led t u i j d e p q differ (inr before) = by (leads_up before.0 t u i j d e p q before.1)
    where
      by : UpTo m w s (name_of t) (name_of u) → IsLed m w s (name_of t) (name_of u)
      by (inl same) = absurd (differ (sym (ap (λ (n : StepName). n.0) same)))
      by (inr led) = led
