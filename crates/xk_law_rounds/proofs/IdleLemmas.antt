-- Along a run: who takes no step stays as it is, and stands so on each clock; who is under a finish stays so; and who comes to be there was
-- started.
use Rattle.std.proofs.Common.{◌≡◌, ℕ, zero, suc, ◌+◌, ◌<◌, ◌≤◌, ◌==◌, ◌⊎◌, inl, inr, Bool, true, false, cond, List, [], ◌∷◌, ◌++◌}
use Rattle.std.proofs.Common.{length}
use Rattle.std.proofs.Common.{Some, refl, sym, ap, ◌∙◌, arith}
use Rattle.std.specs.Prelude.{slice_get}
use Rattle.std.proofs.lemmas.Bool.{eqb-false, cases_lt}
use Rattle.std.proofs.lemmas.Option.{slice_get_within}
use Rattle.xk_types.specs.declared.world.Event.{Event}
use Rattle.xk_types.specs.declared.world.Event.TheVariants as event
use Rattle.xk_types.specs.Acceptance.{IsAccepted}
use Rattle.xk_types.specs.Code.{ModuleValue, IsWithinLimits}
use Rattle.xk_types.specs.World.{Finish, Activity, World}
use Rattle.xk_types.specs.Step.{Stepped, is_under, step}
use Rattle.xk_types.specs.Schedule.{Through, run, IsReached}
use Rattle.xk_types.proofs.ListLemmas.{get_inside}
use Rattle.xk_law_schedules.proofs.ReachabilityLemmas.{same_through, first_step, reached_step, reached_scoped}
use Rattle.xk_law_schedules.proofs.ScopeLemmas.FinishOwnerLemmas.{AreOwned, under_governed, under_owner, under_cases}
use Rattle.xk_law_names.proofs.ActivityNameOrderLaw.{run_first}
use Rattle.xk_law_traces.specs.Moments.{is_start}
use Rattle.xk_law_traces.specs.Edges.{turns_of}
use Rattle.xk_law_traces.proofs.StageLemmas.{stage_at, moves_on}
use Rattle.xk_law_traces.proofs.StepEventLemmas.{grown, others_stay, start_is}
use Rattle.xk_law_traces.proofs.EdgeLaw.{turns_same, turns_other}
use Rattle.xk_law_traces.proofs.FinishEdgeLaw.{idle_stays}

-- ---- who takes no step

-- an activity that takes none of these steps isn't who takes the first one, and takes none of the rest
idle_first : (a d : ℕ) (list : List ℕ) → turns_of a (d ∷ list) ≡ 0 → (a ≡ d → ⊥) × (turns_of a list ≡ 0)
idle_first a d list idle = by (d == a) refl
  where
    by : (q : Bool) → (d == a) ≡ q → (a ≡ d → ⊥) × (turns_of a list ≡ 0)
    by true g = let n = turns_same a d list g in absurd (omega (arith, n, idle))
    by false g = (λ same. eqb-false d a g (sym same), sym (turns_other a d list g) ∙ idle)

-- an activity is in the second world as in the first, and at the same stage on each clock
pub record IsStill (v h : World) (a : ℕ) (act : Activity) : Type 0 where
  pub there : slice_get h.activities a ≡ Some act
  pub stages : (k : ℕ) → stage_at h k a ≡ stage_at v k a

pub idle : (m : ModuleValue) → IsWithinLimits m → IsAccepted m → (list : List ℕ) (v h : World) (a : ℕ) (act : Activity) → IsReached m v
    → slice_get v.activities a ≡ Some act → turns_of a list ≡ 0 → run m list v ≡ Through h → IsStill v h a act
idle m limits ok [] v h a act reached at none legal =
    let same = same_through v h legal in
    record {
      there = idle_stays m [] v h a act none legal at;
      stages = λ k. ap (λ (z : World). stage_at z k a) (sym same);
    }
idle m limits ok (d ∷ list) v h a act reached at none legal =
    let x = first_step v h (step m v d) (run m list) legal in
    let i = idle_first a d list none in
    let r = idle m limits ok list x.0 h a act (reached_step m v x.0 d x.1 reached x.2)
    (others_stay m v x.0 d a x.1 act x.2 i.0 at) i.1 x.3 in
    record {
      there = idle_stays m (d ∷ list) v h a act none legal at;
      stages = λ k. r.stages k ∙ (moves_on m limits ok v x.0 d x.1 reached x.2).others k a (slice_get_within v.activities a act at) i.0;
    }

-- ---- who is under a finish

-- in a reached world the owner of a finish has a smaller number than those whom it governs
pub owned_in : (m : ModuleValue) → IsWithinLimits m → IsAccepted m → (w : World) → IsReached m w → AreOwned w.activities
owned_in m limits ok w reached k act at o own = ((reached_scoped m limits ok w reached).activities k act at).owner o own

-- Who is under a finish here is under one there, by the number there, where each that is in both is governed by the same.
module _ (acts others : List Activity) (owned : AreOwned acts) (there : AreOwned others) (named : ℕ → ℕ) (over : Finish → Finish)
    (owner : (f : Finish) (o : ℕ) → f.owner ≡ Some o → (over f).owner ≡ Some (named o))
    (governed : (n : ℕ) (p q : Activity) → slice_get acts n ≡ Some p → slice_get others (named n) ≡ Some q → q.governed ≡ over p.governed)
    (f : Finish) where
  pub under_over : (n c : ℕ) → c < n → named c < length others → (p : Activity) → slice_get acts c ≡ Some p → is_under acts f c ≡ true
      → is_under others (over f) (named c) ≡ true
  under_over zero c less inside p at under = absurd (omega (arith, less))
  under_over (suc n) c less inside p at under =
      by (get_inside others (named c) inside) (under_cases acts owned f c p at under) (under_over n)
    where
      by : (q : Activity) × (slice_get others (named c) ≡ Some q)
          → (p.governed ≡ f) ⊎ ((o : ℕ) × (p.governed.owner ≡ Some o) × (is_under acts f o ≡ true))
          → ((o : ℕ) → o < n → named o < length others → (p : Activity) → slice_get acts o ≡ Some p → is_under acts f o ≡ true
          → is_under others (over f) (named o) ≡ true)
          → is_under others (over f) (named c) ≡ true
      by q (inl same) smaller =
          under_governed others there (over f) (named c) q.0 q.1 (governed c p q.0 at q.1 ∙ ap over same)
      by q (inr o) smaller =
          let below : o.0 < c = owned c p at o.0 o.1 in
          let within : c < length acts = slice_get_within acts c p at in
          let own : q.0.governed.owner ≡ Some (named o.0) =
          ap (λ (h : Finish). h.owner) (governed c p q.0 at q.1) ∙ owner p.governed o.0 o.1 in
          let lower : named o.0 < named c = there (named c) q.0 q.1 (named o.0) own in
          let r = get_inside acts o.0 (omega (arith, below, within)) in
          under_owner others there (over f) (named c) (named o.0) q.0 q.1 own
          (smaller o.0 (omega (arith, below, less)) (omega (arith, lower, inside)) r.0 r.1 o.2)

-- ---- who is started

-- the start of activity c on the way
pub record IsStartedOn (m : ModuleValue) (list : List ℕ) (w : World) (c : ℕ) : Type 0 where
  pub front : List ℕ
  pub back : List ℕ
  pub who : ℕ
  pub here : World
  pub there : World
  pub whole : list ≡ front ++ who ∷ back
  pub leads : run m front w ≡ Through here
  pub starts : step m here who ≡ Stepped there event.Spawned
  pub wide : c ≡ length here.activities

pub started_on : (m : ModuleValue) (list : List ℕ) (w v : World) (c : ℕ) → run m list w ≡ Through v → length w.activities ≤ c
    → c < length v.activities → IsStartedOn m list w c
started_on m [] w v c legal above below =
    let e = ap (λ (z : World). length z.activities) (same_through w v legal) in absurd (omega (arith, e, above, below))
started_on m (d ∷ list) w v c legal above below =
    by (is_start x.1) refl (grown m w x.0 d x.1 x.2) (cases_lt c (length x.0.activities)) (λ wide. started_on m list x.0 v c x.3 wide below)
  where
    x : (u : World) × (e : Event) × (step m w d ≡ Stepped u e) × (run m list u ≡ Through v)
    x = first_step w v (step m w d) (run m list) legal

    by : (q : Bool) → is_start x.1 ≡ q → length x.0.activities ≡ length w.activities + cond q 1 0
        → (c < length x.0.activities) ⊎ (length x.0.activities ≤ c)
        → (length x.0.activities ≤ c → IsStartedOn m list x.0 c) → IsStartedOn m (d ∷ list) w c
    by true g more (inl h) later = record {
      front = [];
      back = list;
      who = d;
      here = w;
      there = x.0;
      whole = refl;
      leads = refl;
      starts = x.2 ∙ ap (Stepped x.0) (start_is x.1 g);
      wide = omega (arith, more, h, above);
    }
    by false g more (inl h) later = absurd (omega (arith, more, h, above))
    by q g more (inr h) later =
        let r : IsStartedOn m list x.0 c = later h in
        record {
          front = d ∷ r.front;
          back = r.back;
          who = r.who;
          here = r.here;
          there = r.there;
          whole = ap (λ l. d ∷ l) r.whole;
          leads = run_first m r.front w x.0 d x.1 x.2 ∙ r.leads;
          starts = r.starts;
          wide = r.wide;
        }
