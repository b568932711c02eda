-- Worlds that are alike by rank go on alike.
use Rattle.std.proofs.Common.{◌≡◌, ℕ, ◌&&◌, not, Bool, true, false, true≢false, List, [], ◌∷◌, map, Option, Some, None}
use Rattle.std.proofs.Common.{option_map, refl, sym, ap, ◌∙◌, subst}
use Rattle.std.specs.Prelude.{slice_get, option_and_then}
use Rattle.std.specs.List.{list_all}
use Rattle.std.proofs.lemmas.List.{length-map}
use Rattle.std.proofs.lemmas.Option.{slice_get-map, same_Some, none-some, get_or_from_slice_get}
use Rattle.xk_types.specs.declared.world.Event.{Event}
use Rattle.xk_types.specs.declared.world.Standing.{Standing}
use Rattle.xk_types.specs.declared.world.Standing.TheVariants as standing
use Rattle.xk_types.specs.declared.world.Status.{Status}
use Rattle.xk_types.specs.declared.world.Status.TheVariants as status
use Rattle.xk_types.specs.Acceptance.{IsAccepted}
use Rattle.xk_types.specs.Code.{ModuleValue, IsWithinLimits}
use Rattle.xk_types.specs.World.{Activity, Clock, World, is_ended, standing_of, instruction_at}
use Rattle.xk_types.specs.Step.{Outcome, Blocked, Wrong, Stepped, step}
use Rattle.xk_types.specs.Schedule.{IsReached, all_ended, is_step, is_enabled}
use Rattle.xk_law_schedules.proofs.Invariant.{Stands, IsSound, IsClockSound}
use Rattle.xk_law_schedules.proofs.ReachabilityLemmas.{reached_sound, reached_step}
use Rattle.xk_law_commute.specs.Conflicts.{next_instruction}
use Rattle.xk_law_commute.specs.PlainWorlds.{plain_clock}
use Rattle.xk_law_commute.proofs.AwaitIndependenceLemmas.{HasOpen}
use Rattle.xk_law_commute.proofs.ChangeSquareLemmas.{same_step, found_of}
use Rattle.xk_law_commute.proofs.QuietStepLaw.{enabled_step}
use Rattle.xk_law_commute.proofs.StartSquareLemmas.{alive_of}
use Rattle.xk_liveness.specs.Liveness.{SlotTable, IsLiveness, AreAlikeWhereLive, live_activity, live_part, frame_left}
use Rattle.xk_liveness.proofs.LivenessLaw.{dead_slots, live_ends}
use Rattle.xk_closed.specs.Closed.{IsCarried}
use Rattle.xk_core.specs.Core.{IsCore}
use Rattle.xk_scheduler.proofs.FinishOwnerLemmas.{core_owned, core_open}
use Rattle.xk_ranks.specs.Ranks.{kept, rank, governed_ranked, clock_kept, acts_kept, with_only, going, remains, AreAlikeByRank}
use Rattle.xk_ranks.specs.Ranks.{ComesToRemains, HaveOneRank, GoOnByRank, StandAlike, AreReachedAlike}
use Rattle.xk_ranks.proofs.RankListLemmas.{IsMarked, map-kept, one_rank}
use Rattle.xk_ranks.proofs.RankWorldLemmas.{IsClear, one_there, act-kept}
use Rattle.xk_ranks.proofs.RankStepLaw.{IsFit, mark_of, marked_alive, step-kept}

-- ---- worlds that are reached

-- who is marked hasn't ended
pub alive_marked : (acts : List Activity) (b : ℕ) (x : Activity) → slice_get acts b ≡ Some x → IsMarked (going acts) b
    → is_ended x.status ≡ false
alive_marked acts b x found at = by (is_ended x.status) (same_Some _ _ (sym (mark_of acts b x found) ∙ at))
  where
    by : (p : Bool) → not p ≡ true → p ≡ false
    by true h = absurd (true≢false (sym h))
    by false h = refl

ended_unmarked : (acts : List Activity) (b : ℕ) (x : Activity) → slice_get acts b ≡ Some x → slice_get (going acts) b ≡ Some false
    → is_ended x.status ≡ true
ended_unmarked acts b x found at = by (is_ended x.status) (same_Some _ _ (sym (mark_of acts b x found) ∙ at))
  where
    by : (p : Bool) → not p ≡ false → p ≡ true
    by true h = refl
    by false h = absurd (true≢false h)

-- an activity has each mark
pub marked_act : (acts : List Activity) (b : ℕ) (p : Bool) → slice_get (going acts) b ≡ Some p
    → (x : Activity) × (slice_get acts b ≡ Some x)
marked_act acts b p at = by (slice_get acts b) refl
  where
    by : (o : Option Activity) → slice_get acts b ≡ o → (x : Activity) × (slice_get acts b ≡ Some x)
    by None e = absurd (none-some p
        (sym (slice_get-map (λ (act : Activity). not (is_ended act.status)) acts b
        ∙ ap (option_map (λ (act : Activity). not (is_ended act.status))) e) ∙ at))
    by (Some x) e = (x, e)

-- who has ended stands apart
stands_apart : (st : Status) (since last : ℕ) (s : Standing) → is_ended st ≡ true → Stands st since last s → s ≡ standing.Apart
stands_apart st since last standing.Apart over h = refl
stands_apart st since last standing.Open over h = absurd (true≢false (sym over ∙ ap is_ended h.0))
stands_apart st since last standing.Signalled over h = absurd (true≢false (sym over ∙ h.0))
stands_apart st since last standing.Ahead over h = absurd (true≢false (sym over ∙ h.0))

module _ (m : ModuleValue) (limits : IsWithinLimits m) (ok : IsAccepted m) where
  pub reached_fit : (w : World) → IsReached m w → IsFit w
  reached_fit w here = record {
    clear = λ j c at. clear c (sound.clocks j c at);
    owned = core_owned m w core;
    owners = λ b x found at o own.
        (let h : HasOpen w.activities o x.governed.depth =
        core_open m w core b x found (alive_marked w.activities b x found at) o own in
        marked_alive w.activities o h.x h.found h.alive);
  }
    where
      core : IsCore m w
      core = record { limits = limits; accepted = ok; reached = here }

      sound : IsSound m w
      sound = reached_sound m limits ok w here

      clear : (c : Clock) → IsClockSound w.activities w.steps c → IsClear (going w.activities) c
      clear c s = record {
        width = length-map w.activities (λ (x : Activity). not (is_ended x.status)) ∙ sym s.width;
        apart = λ b st out there.
            (let x = marked_act w.activities b false out in
            sym (get_or_from_slice_get c.standings b st standing.Apart there)
            ∙ stands_apart x.0.status x.0.since c.last (standing_of c b) (ended_unmarked w.activities b x.0 x.1 out) (s.stands b x.0 x.1));
      }

-- ---- what may still count

-- it goes with what is left
going_live : (live : SlotTable) (acts : List Activity) → going (map (live_activity live) acts) ≡ going acts
going_live live [] = refl
going_live live (x ∷ xs) = ap (λ zs. not (is_ended x.status) ∷ zs) (going_live live xs)

acts_live : (live : SlotTable) (ms : List Bool) (acts : List Activity)
    → map (live_activity live) (acts_kept ms acts) ≡ acts_kept ms (map (live_activity live) acts)
acts_live live ms acts = each (kept ms acts) ∙ ap (map (governed_ranked ms)) (map-kept (live_activity live) ms acts)
  where
    each : (xs : List Activity) → map (live_activity live) (map (governed_ranked ms) xs)
        ≡ map (governed_ranked ms) (map (live_activity live) xs)
    each [] = refl
    each (x ∷ xs) = ap (λ zs. live_activity live (governed_ranked ms x) ∷ zs) (each xs)

clocks_live : (ms : List Bool) (cs : List Clock) → map plain_clock (map (clock_kept ms) cs) ≡ map (clock_kept ms) (map plain_clock cs)
clocks_live ms [] = refl
clocks_live ms (c ∷ cs) = ap (λ zs. plain_clock (clock_kept ms c) ∷ zs) (clocks_live ms cs)

live_remains : (live : SlotTable) (w : World) → live_part live (remains w) ≡ remains (live_part live w)
live_remains live w =
    (λ i. record {
      activities = acts_live live (going w.activities) w.activities i;
      clocks = clocks_live (going w.activities) w.clocks i;
      cells = w.cells;
      steps = 0;
      arguments = w.arguments;
    })
    ∙ ap (λ gs. with_only gs (live_part live w)) (sym (going_live live w.activities))

-- worlds that are alike where slots are live are so by rank
pub live_by_rank : (live : SlotTable) (w v : World) → AreAlikeWhereLive live w v → AreAlikeByRank live w v
live_by_rank live w v same = live_remains live w ∙ ap remains same ∙ sym (live_remains live v)

-- ---- all have ended

ended_remains : (w : World) → all_ended (remains w) ≡ all_ended w
ended_remains w = each (kept (going w.activities) w.activities) ∙ by w.activities
  where
    each : (xs : List Activity) → list_all (λ (act : Activity). is_ended act.status) (map (governed_ranked (going w.activities)) xs)
        ≡ list_all (λ (act : Activity). is_ended act.status) xs
    each [] = refl
    each (x ∷ xs) = ap (λ p. is_ended x.status && p) (each xs)

    one : (x : Activity) (xs : List Activity) (p : Bool) → is_ended x.status ≡ p
        → list_all (λ (act : Activity). is_ended act.status) (kept (going xs) xs) ≡ list_all (λ (act : Activity). is_ended act.status) xs
        → list_all (λ (act : Activity). is_ended act.status) (kept (not p ∷ going xs) (x ∷ xs))
        ≡ (p && list_all (λ (act : Activity). is_ended act.status) xs)
    one x xs true e h = h
    one x xs false e h = ap (λ q. q && list_all (λ (act : Activity). is_ended act.status) (kept (going xs) xs)) e

    by : (xs : List Activity) → list_all (λ (act : Activity). is_ended act.status) (kept (going xs) xs)
        ≡ list_all (λ (act : Activity). is_ended act.status) xs
    by [] = refl
    by (x ∷ xs) = one x xs (is_ended x.status) refl (by xs)

pub rank_ends : (live : SlotTable) (w v : World) → AreAlikeByRank live w v → all_ended w ≡ all_ended v
rank_ends live w v same = sym (ended_remains w) ∙ live_ends live (remains w) (remains v) same ∙ ended_remains v

-- ---- steps

pub one_number : (w v : World) (a b c : ℕ) → HaveOneRank w a v b → HaveOneRank w a v c → b ≡ c
one_number w v a b c h g = one_rank (going v.activities) b c h.second g.second (sym h.same ∙ g.same)

pub one_turned : (w v : World) (a b : ℕ) → HaveOneRank w a v b → HaveOneRank v b w a
one_turned w v a b h = record { first = h.second; second = h.first; same = sym h.same }

module _ (m : ModuleValue) (limits : IsWithinLimits m) (ok : IsAccepted m) where
  -- a step by its rank, where those that have ended are left out
  pub remains_step : (w : World) → IsReached m w → (a : ℕ) → IsMarked (going w.activities) a
      → ComesToRemains (step m w a) (step m (remains w) (rank (going w.activities) a))
  remains_step w here a at =
      let x = marked_act w.activities a true at in
      step-kept m w (reached_fit m limits ok w here) a x.0 x.1 (alive_marked w.activities a x.0 x.1 at)

  -- who can take a step hasn't ended
  pub step_marked : (w u : World) (a : ℕ) (e : Event) → step m w a ≡ Stepped u e → IsMarked (going w.activities) a
  step_marked w u a e h =
      let x = found_of m w a u e h in
      marked_alive w.activities a x.0 x.1 (alive_of m w a x.0 u e x.1 h)

  -- where it is taken there, it is taken here
  pub back_step : (w : World) → IsReached m w → (a : ℕ) → IsMarked (going w.activities) a → (z : World) (e : Event)
      → step m (remains w) (rank (going w.activities) a) ≡ Stepped z e
      → (u : World) × (step m w a ≡ Stepped u e) × (remains z ≡ remains u)
  back_step w here a at z e h = by (step m w a) refl (remains_step w here a at)
    where
      q : Outcome
      q = step m (remains w) (rank (going w.activities) a)

      by : (o : Outcome) → step m w a ≡ o → ComesToRemains o q → (u : World) × (step m w a ≡ Stepped u e) × (remains z ≡ remains u)
      by Blocked k c = absurd (true≢false (ap is_step (sym h ∙ c)))
      by (Wrong d) k c = absurd (true≢false (ap is_step (sym h ∙ c)))
      by (Stepped u d) k c =
          let s : (z ≡ c.0) × (e ≡ d) = same_step z c.0 e d (sym h ∙ c.1) in
          (u, k ∙ ap (Stepped u) (sym s.1), ap remains s.0 ∙ c.2)

  pub there_step : (w : World) → IsReached m w → (a : ℕ) → IsMarked (going w.activities) a → (u : World) (e : Event)
      → step m w a ≡ Stepped u e
      → (z : World) × (step m (remains w) (rank (going w.activities) a) ≡ Stepped z e) × (remains z ≡ remains u)
  there_step w here a at u e h =
      subst (λ o. ComesToRemains o (step m (remains w) (rank (going w.activities) a))) h (remains_step w here a at)

  module _ (live : SlotTable) (liveness : IsLiveness m live) (w v : World) (here : IsReached m w) (there : IsReached m v)
      (same : AreAlikeByRank live w v) where
    -- the one of this rank there
    same_rank : (a : ℕ) (z : World) (e : Event) → IsMarked (going w.activities) a
        → step m (remains v) (rank (going w.activities) a) ≡ Stepped z e
        → (b : ℕ) × HaveOneRank w a v b
    same_rank a z e at h =
        let x = found_of m (remains v) (rank (going w.activities) a) z e h in
        let k = one_there (going v.activities) v.activities (rank (going w.activities) a) x.0 x.1 in
        (k.number, record { first = at; second = k.marked; same = sym k.ranks })

    rank_step : (u : World) (a : ℕ) (e : Event) → step m w a ≡ Stepped u e
        → (b : ℕ) × (z : World) × HaveOneRank w a v b × (step m v b ≡ Stepped z e) × AreAlikeByRank live u z
    rank_step u a e h =
        let r : ℕ = rank (going w.activities) a in
        let at : IsMarked (going w.activities) a = step_marked w u a e h in
        let p = there_step w here a at u e h in
        let q = (dead_slots m live liveness (remains w) (remains v) same).steps p.0 r e p.1 in
        let b = same_rank a q.0 e at q.1 in
        let t = back_step v there b.0 b.1.second q.0 e (ap (step m (remains v)) (sym b.1.same) ∙ q.1) in (
          b.0,
          t.0,
          b.1,
          t.1,
          ap (live_part live) (sym p.2) ∙ live_by_rank live p.0 q.0 q.2 ∙ ap (live_part live) t.2,
        )

    pub go_by_rank : GoOnByRank m live w v
    go_by_rank = record { steps = rank_step; ends = rank_ends live w v same; cells = ap (λ (z : World). z.cells) same }

  -- ---- who stands alike

  module _ (live : SlotTable) (liveness : IsLiveness m live) where
    one_way : (w v : World) → IsReached m w → IsReached m v → AreAlikeByRank live w v → (a b : ℕ) → HaveOneRank w a v b
        → is_enabled m w a ≡ true → is_enabled m v b ≡ true
    one_way w v here there same a b one enabled =
        let u = enabled_step (step m w a) enabled in
        let t = rank_step live liveness w v here there same u.0 a u.1 u.2 in
        subst (λ c. is_enabled m v c ≡ true) (one_number w v a t.0 b t.2 one) (ap is_step t.3)

    enabled_alike : (w v : World) → IsReached m w → IsReached m v → AreAlikeByRank live w v → (a b : ℕ) → HaveOneRank w a v b
        → is_enabled m w a ≡ is_enabled m v b
    enabled_alike w v here there same a b one =
        by (is_enabled m w a) (is_enabled m v b) (one_way w v here there same a b one)
        (one_way v w there here (sym same) b a (one_turned w v a b one))
      where
        by : (p q : Bool) → (p ≡ true → q ≡ true) → (q ≡ true → p ≡ true) → p ≡ q
        by true q to back = sym (to refl)
        by false true to back = back refl
        by false false to back = refl

    -- the instruction that an activity stands at which hasn't ended
    frames_alike : (x y : Activity) (st : Status) → x.status ≡ st → is_ended st ≡ false → live_activity live x ≡ live_activity live y
        → instruction_at m x.frame ≡ instruction_at m y.frame
    frames_alike x y st is alive same = by st alive
        (sym (ap (λ s. frame_left live s x.frame) is) ∙ ap (λ (z : Activity). z.frame) same
        ∙ ap (λ s. frame_left live s y.frame) (sym (ap (λ (z : Activity). z.status) same) ∙ is))
      where
        by : (s : Status) → is_ended s ≡ false → frame_left live s x.frame ≡ frame_left live s y.frame
            → instruction_at m x.frame ≡ instruction_at m y.frame
        by status.Running h f = ap (instruction_at m) f
        by status.Arrived h f = ap (instruction_at m) f
        by status.Ended h f = absurd (true≢false h)

    pub next_alike : (w v : World) → AreAlikeByRank live w v → (a b : ℕ) → HaveOneRank w a v b
        → next_instruction m w a ≡ next_instruction m v b
    next_alike w v same a b one =
        let x = marked_act w.activities a true one.first in
        let y = marked_act v.activities b true one.second in
        let r : ℕ = rank (going w.activities) a in
        let p : slice_get (remains w).activities r ≡ Some (governed_ranked (going w.activities) x.0) =
        act-kept (going w.activities) w.activities a one.first ∙ ap (option_map (governed_ranked (going w.activities))) x.1 in
        let q : slice_get (remains v).activities r ≡ Some (governed_ranked (going v.activities) y.0) =
        ap (slice_get (remains v).activities) one.same
        ∙ act-kept (going v.activities) v.activities b one.second ∙ ap (option_map (governed_ranked (going v.activities))) y.1 in
        let both = same_Some (live_activity live (governed_ranked (going w.activities) x.0))
        (live_activity live (governed_ranked (going v.activities) y.0))
        (sym (slice_get-map (live_activity live) (remains w).activities r ∙ ap (option_map (live_activity live)) p)
        ∙ ap (λ (z : World). slice_get z.activities r) same
        ∙ (slice_get-map (live_activity live) (remains v).activities r ∙ ap (option_map (live_activity live)) q)) in
        ap (option_and_then (λ (k : Activity). instruction_at m k.frame)) x.1
        ∙ frames_alike (governed_ranked (going w.activities) x.0) (governed_ranked (going v.activities) y.0) x.0.status refl
        (alive_marked w.activities a x.0 x.1 one.first) both
        ∙ sym (ap (option_and_then (λ (k : Activity). instruction_at m k.frame)) y.1)

    pub stand_alike : (w v : World) → IsReached m w → IsReached m v → AreAlikeByRank live w v → (a b : ℕ) → HaveOneRank w a v b
        → StandAlike m w a v b
    stand_alike w v here there same a b one =
        record { enabled = enabled_alike w v here there same a b one; instruction = next_alike w v same a b one }

    -- ---- exploration

    pub by_rank : IsCarried m (AreReachedAlike m live)
    by_rank = record {
      steps = λ w v u a e here same h.
          (let t = rank_step live liveness w v same.first same.second same.alike u a e h in (
            t.0,
            t.1,
            t.3,
            record { first = reached_step m w u a e same.first h; second = reached_step m v t.1 t.0 e same.second t.3; alike = t.4 },
          ));
      ends = λ w v same. rank_ends live w v same.alike;
    }

    pub by_rank_back : IsCarried m (λ w v. AreReachedAlike m live v w)
    by_rank_back = record {
      steps = λ w v u a e here same h.
          (let t = rank_step live liveness w v same.second same.first (sym same.alike) u a e h in (
            t.0,
            t.1,
            t.3,
            record { first = reached_step m v t.1 t.0 e same.first t.3; second = reached_step m w u a e same.second h; alike = sym t.4 },
          ));
      ends = λ w v same. sym (rank_ends live v w same.alike);
    }
