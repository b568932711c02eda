-- Who waits at the end of a finish takes no step as long as somebody under it moves as little; who has ended takes none.
use Rattle.std.proofs.Common.{◌≡◌, ℕ, suc, zero, ◌<◌, ◌⊎◌, inl, inr, Bool, true, false, true≢false, cond, List, [], ◌∷◌, length, set, Some}
use Rattle.std.proofs.Common.{refl, sym, ap, ◌∙◌, subst, arith}
use Rattle.std.specs.Prelude.{slice_get}
use Rattle.std.proofs.lemmas.Option.{same_Some, slice_get_within}
use Rattle.xk_types.specs.declared.instr.Instr.TheVariants as instr
use Rattle.xk_types.specs.declared.world.Status.TheVariants as status
use Rattle.xk_types.specs.declared.world.Event.{Event}
use Rattle.xk_types.specs.declared.world.Event.TheVariants as event
use Rattle.xk_types.specs.Acceptance.{IsAccepted}
use Rattle.xk_types.specs.Code.{ModuleValue, IsWithinLimits}
use Rattle.xk_types.specs.World.{Finish, Activity, World, instruction_at, is_ended}
use Rattle.xk_types.specs.Step.{Blocked, Stepped, innermost, is_under, awaits, closing, left, done, none, onward, child, carried_out, step}
use Rattle.xk_types.specs.Schedule.{Through, run, IsReached, is_step}
use Rattle.xk_types.proofs.ListLemmas.{get-set_same, get-append_left}
use Rattle.xk_law_schedules.proofs.ReachabilityLemmas.{same_through, first_step, reached_step, reached_scoped}
use Rattle.xk_law_schedules.proofs.ScopeLemmas.FinishOwnerLemmas.{AreOwned, under_governed, under_owner, under_cases}
use Rattle.xk_law_commute.proofs.AwaitIndependenceLemmas.{same_or_not, awaits_given}
use Rattle.xk_law_commute.proofs.ChangeSquareLemmas.{same_step, not_none, found_of}
use Rattle.xk_law_commute.proofs.StartSquareLemmas.{alive_of, made_world, started_world, maker}
use Rattle.xk_law_commute.proofs.StepEffect.{enacted}
use Rattle.xk_law_commute.proofs.ViewLemmas.{Goes, IsNone, DoesAct, DoesMake, DoesStart, goes, sees_itself}
use Rattle.xk_law_traces.proofs.InstructionEventLemmas.{stepped_at}
use Rattle.xk_law_traces.proofs.StepEventLemmas.{others_stay}
use Rattle.xk_closed.specs.Closed.{AreOutside, IsStuck}

-- one is there, and governed by the same finish
abbrev HasGoverned : World → ℕ → Finish → Type 0
HasGoverned u y f = (q : Activity) × (slice_get u.activities y ≡ Some q) × (q.governed ≡ f)

-- a step changes nobody's finish
governed_stays : (m : ModuleValue) (v u : World) (a y : ℕ) (e : Event) (p : Activity) → step m v a ≡ Stepped u e
    → slice_get v.activities y ≡ Some p
    → HasGoverned u y p.governed
governed_stays m v u a y e p takes at = by (same_or_not y a)
  where
    x : (z : Activity) × (slice_get v.activities a ≡ Some z)
    x = found_of m v a u e takes

    own : Goes m v v a x.0 x.0.since (step m v a) (step m v a) → HasGoverned u a x.0.governed
    own (IsNone g) = absurd (not_none (step m v a) u e takes g)
    own (DoesAct A) = (
      A.next,
      ap (λ (z : World). slice_get z.activities a) (same_step u (enacted v a A.next A.move A.writes) e A.e (sym takes ∙ A.here)).0
          ∙ get-set_same v.activities a x.0 A.next x.1,
      A.governed,
    )
    own (DoesMake M) = (
      maker x.0 M.d (length v.clocks),
      ap (λ (z : World). slice_get z.activities a)
          (same_step u (made_world v a (maker x.0 M.d (length v.clocks))) e event.Made (sym takes ∙ M.here)).0
          ∙ get-set_same v.activities a x.0 (maker x.0 M.d (length v.clocks)) x.1,
      refl,
    )
    own (DoesStart S) = (
      onward x.0,
      ap (λ (z : World). slice_get z.activities a)
          (same_step u (started_world m v a x.0 S.unit S.values) e event.Spawned (sym takes ∙ S.here)).0
          ∙ get-append_left (set v.activities a (onward x.0)) (child m a x.0 S.unit S.values ∷ []) a (onward x.0)
          (get-set_same v.activities a x.0 (onward x.0) x.1),
      refl,
    )

    by : (y ≡ a) ⊎ (y ≡ a → ⊥) → HasGoverned u y p.governed
    by (inl same) =
        let whose : x.0 ≡ p = same_Some x.0 p (sym x.1 ∙ ap (slice_get v.activities) (sym same) ∙ at) in
        subst (λ z. HasGoverned u z p.governed) (sym same)
        (subst (λ (z : Activity). HasGoverned u a z.governed) whose (own (goes m v v a x.0 x.0.since (sees_itself m v a x.0 x.1))))
    by (inr differs) = (p, others_stay m v u a y e p takes differs at, refl)

module _ (m : ModuleValue) (limits : IsWithinLimits m) (ok : IsAccepted m) where
  owned : (v : World) → IsReached m v → AreOwned v.activities
  owned v here k act at o own = ((reached_scoped m limits ok v here).activities k act at).owner o own

  -- so nobody comes from under a finish
  under_on : (v u : World) (a : ℕ) (e : Event) → IsReached m v → step m v a ≡ Stepped u e → (f : Finish) (n c : ℕ) → c < n → (p : Activity)
      → slice_get v.activities c ≡ Some p → is_under v.activities f c ≡ true → is_under u.activities f c ≡ true
  under_on v u a e here takes f zero c less p at under = absurd (omega arith)
  under_on v u a e here takes f (suc n) c less p at under =
      by (governed_stays m v u a c e p takes at) (under_cases v.activities (owned v here) f c p at under) (under_on v u a e here takes f n)
    where
      there : IsReached m u
      there = reached_step m v u a e here takes

      by : HasGoverned u c p.governed → (p.governed ≡ f) ⊎ ((o : ℕ) × (p.governed.owner ≡ Some o) × (is_under v.activities f o ≡ true))
          → ((o : ℕ) → o < n → (q : Activity) → slice_get v.activities o ≡ Some q → is_under v.activities f o ≡ true → is_under u.activities f o ≡ true)
          → is_under u.activities f c ≡ true
      by q (inl same) smaller = under_governed u.activities (owned u there) f c q.0 q.1 (q.2 ∙ same)
      by q (inr o) smaller =
          let below : o.0 < c = owned v here c p at o.0 o.1 in
          let inside : c < length v.activities = slice_get_within v.activities c p at in
          let z = get_within v.activities o.0 (omega (arith, below, inside)) in
          under_owner u.activities (owned u there) f c o.0 q.0 q.1 (ap (λ (h : Finish). h.owner) q.2 ∙ o.1)
          (smaller o.0 (omega (arith, below, less)) z.0 z.1 o.2)
        where
          get_within : (xs : List Activity) (k : ℕ) → k < length xs → (x : Activity) × (slice_get xs k ≡ Some x)
          get_within [] k h = absurd (omega (arith, h))
          get_within (x ∷ xs) zero h = (x, refl)
          get_within (x ∷ xs) (suc k) h = get_within xs k (omega (arith, h))

  module _ (set' : ℕ → Bool) (r d k : ℕ) (act z : Activity) (inside : set' d ≡ true) (runs : act.status ≡ status.Running)
      (next : instruction_at m act.frame ≡ Some (instr.EndFinish k)) (alive : is_ended z.status ≡ false) where
    -- it waits
    record Waits (v : World) : Type 0 where
      here : IsReached m v
      waiter : slice_get v.activities r ≡ Some act
      waited : slice_get v.activities d ≡ Some z
      under : is_under v.activities (innermost r act) d ≡ true

    no_step : (v u : World) (e : Event) → Waits v → step m v r ≡ Stepped u e → ⊥
    no_step v u e h takes =
        let i = stepped_at m v u r act e h.waiter takes runs in
        let same : i.0 ≡ instr.EndFinish k = same_Some i.0 (instr.EndFinish k) (sym i.1 ∙ next) in
        closes act.opened (subst (λ j. carried_out m v r act j ≡ Stepped u e) same i.2)
      where
        busy : awaits v.activities (innermost r act) ≡ true
        busy = awaits_given v.activities (innermost r act) (record { b = d; act = z; found = h.waited; under = h.under; alive = alive })

        waits_on : (n : ℕ) (q : Bool) → q ≡ true → cond q Blocked (done v r (left act n) none event.Closed) ≡ Stepped u e → ⊥
        waits_on n true p g = true≢false (sym (ap is_step g))
        waits_on n false p g = true≢false (sym p)

        closes : (n : ℕ) → closing v r act n ≡ Stepped u e → ⊥
        closes zero g = true≢false (sym (ap is_step g))
        closes (suc n) g = waits_on n (awaits v.activities (innermost r act)) busy g

    differ : (b : ℕ) → set' b ≡ false → d ≡ b → ⊥
    differ b outer same = true≢false (sym inside ∙ ap set' same ∙ outer)

    waits_on_step : (v u : World) (b : ℕ) (e : Event) → set' b ≡ false → step m v b ≡ Stepped u e → Waits v → Waits u
    waits_on_step v u b e outer takes h = by (same_or_not r b)
      where
        by : (r ≡ b) ⊎ (r ≡ b → ⊥) → Waits u
        by (inl same) = absurd (no_step v u e h (ap (step m v) same ∙ takes))
        by (inr differs) = record {
          here = reached_step m v u b e h.here takes;
          waiter = others_stay m v u b r e act takes differs h.waiter;
          waited = others_stay m v u b d e z takes (differ b outer) h.waited;
          under = under_on v u b e h.here takes (innermost r act) (suc d) d (omega arith) z h.waited h.under;
        }

    stuck_from : (list : List ℕ) (w v x : World) (e : Event) → AreOutside set' list → run m list w ≡ Through v → Waits w
        → step m v r ≡ Stepped x e → ⊥
    stuck_from [] w v x e outside legal h takes = no_step w x e h (ap (λ u. step m u r) (same_through w v legal) ∙ takes)
    stuck_from (b ∷ list) w v x e outside legal h takes =
        let f = first_step w v (step m w b) (run m list) legal in
        stuck_from list f.0 v x e outside.1 f.3 (waits_on_step w f.0 b f.1 outside.0 f.2 h) takes

  pub waits_stuck : (w : World) (set' : ℕ → Bool) (r d k : ℕ) (act z : Activity) → IsReached m w → set' d ≡ true
      → slice_get w.activities r ≡ Some act → act.status ≡ status.Running → instruction_at m act.frame ≡ Some (instr.EndFinish k)
      → slice_get w.activities d ≡ Some z → is_ended z.status ≡ false → is_under w.activities (innermost r act) d ≡ true
      → IsStuck m w set' r
  waits_stuck w set' r d k act z here inside waiter runs next waited alive under list v x e outside legal takes =
      stuck_from set' r d k act z inside runs next alive list w v x e outside legal
      (record { here = here; waiter = waiter; waited = waited; under = under }) takes

-- ---- who has ended

module _ (m : ModuleValue) (set' : ℕ → Bool) (r : ℕ) (act : Activity) (over : is_ended act.status ≡ true) where
  ended_no_step : (v u : World) (e : Event) → slice_get v.activities r ≡ Some act → step m v r ≡ Stepped u e → ⊥
  ended_no_step v u e at takes = true≢false (sym over ∙ alive_of m v r act u e at takes)

  pub ended_stuck : (w : World) → slice_get w.activities r ≡ Some act → IsStuck m w set' r
  ended_stuck w at [] v x e outside legal takes = ended_no_step w x e at (ap (λ u. step m u r) (same_through w v legal) ∙ takes)
  ended_stuck w at (b ∷ list) v x e outside legal takes = by (λ there. ended_stuck f.0 there list v x e outside.1 f.3 takes)
      (same_or_not r b)
    where
      f : (u : World) × (g : Event) × (step m w b ≡ Stepped u g) × (run m list u ≡ Through v)
      f = first_step w v (step m w b) (run m list) legal

      by : (slice_get f.0.activities r ≡ Some act → ⊥) → (r ≡ b) ⊎ (r ≡ b → ⊥) → ⊥
      by rest (inl same) = ended_no_step w f.0 f.1 at (ap (step m w) same ∙ f.2)
      by rest (inr differs) = rest (others_stay m w f.0 b r f.1 act f.2 differs at)
