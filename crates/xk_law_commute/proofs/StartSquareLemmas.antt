-- A step that begins nothing, and one that makes a clock or starts an activity, in either order.
use Rattle.std.proofs.Common.{◌≡◌, ℕ, ℤ, ◌+◌, ◌<◌, false, List, [], ◌∷◌, ◌++◌, map, length, set, Some, Option, refl, sym, ap, ◌∙◌, subst, arith, length-set}
use Rattle.std.specs.Prelude.{slice_get}
use Rattle.std.proofs.lemmas.List.{length-map, map-set}
use Rattle.std.proofs.lemmas.Option.{same_Some, slice_get_within}
use Rattle.xk_types.specs.declared.world.Value.{Value}
use Rattle.xk_types.specs.declared.world.Value.TheVariants as value
use Rattle.xk_types.specs.declared.world.Standing.TheVariants as standing
use Rattle.xk_types.specs.declared.world.Event.{Event}
use Rattle.xk_types.specs.declared.world.Event.TheVariants as event
use Rattle.xk_types.specs.Acceptance.{IsAccepted}
use Rattle.xk_types.specs.Code.{ModuleValue, IsWithinLimits}
use Rattle.xk_types.specs.World.{Activity, Clock, World, is_ended}
use Rattle.xk_types.specs.Step.{Stepped, is_signalled, is_pending, is_ready, settled, settled_clock, moved, joined, is_given, new_clock, child, onward, with_slots, innermost, step}
use Rattle.xk_types.specs.Schedule.{IsReached}
use Rattle.xk_types.proofs.ListLemmas.{get-set_same, get-set_other, get-append_left, any_at}
use Rattle.xk_law_schedules.proofs.Invariant.{Each, Names}
use Rattle.xk_law_schedules.proofs.ReachabilityLemmas.{reached_sound, reached_scoped, reached_step}
use Rattle.xk_law_schedules.proofs.ClockLemmas.StandingLemmas.{new_same, new_other, length-moved}
use Rattle.xk_law_schedules.proofs.ScopeLemmas.Invariant.{governing_at}
use Rattle.xk_law_schedules.proofs.ScopeLemmas.FinishOwnerLemmas.{AreOwned}
use Rattle.xk_law_commute.specs.PlainWorlds.{plain_activity, plain_clock, plain}
use Rattle.xk_law_commute.specs.Conflicts.{AreConflictFree}
use Rattle.xk_law_commute.specs.Squares.{IsSquare}
use Rattle.xk_law_commute.proofs.StepEffect.{Move, change_by, enacted, aged, begins_next}
use Rattle.xk_law_commute.proofs.OneClockLemmas.{settle, settle_is}
use Rattle.xk_law_commute.proofs.ListLemmas.{map_push, set_other, set_push}
use Rattle.xk_law_commute.proofs.PlainStepLaw.{same_plain}
use Rattle.xk_law_commute.proofs.ClockLemmas.{unready_still, pushed_registers, pushed_waits, joined_registers, joined_waits, made_go, started_go, move_apart}
use Rattle.xk_law_commute.proofs.AwaitIndependenceLemmas.{awaits_push, owned_set}
use Rattle.xk_law_commute.proofs.ViewLemmas.{Sees, Acts, Makes, Starts, Goes, IsNone, DoesAct, DoesMake, DoesStart, goes, sees_itself, awaits_set}
use Rattle.xk_law_commute.proofs.ChangeSquareLemmas.{same_step, not_none, found_of, only_acts, first_sees, second_sees, both_act}

-- the worlds after such steps
abbrev pub made_world : World → ℕ → Activity → World
made_world w b next = settled (record w { activities = set w.activities b next; clocks = w.clocks ++ new_clock (length w.activities) b ∷ [] })

abbrev pub started_world : ModuleValue → World → ℕ → Activity → ℕ → List Value → World
started_world m w b y unit values = settled (record w {
  activities = set w.activities b (onward y) ++ child m b y unit values ∷ [];
  clocks = joined b (is_given values) w.clocks;
})

-- an activity that has made clock k
abbrev pub maker : Activity → ℕ → ℕ → Activity
maker y d k = onward (with_slots y (set y.frame.slots d (value.Clock k)))

-- a new clock isn't ready
pub new_still : (n b : ℕ) → b < n → settle (new_clock n b).standings ≡ (new_clock n b).standings
new_still n b h =
    settle_is (new_clock n b).standings
    ∙ rw (any_at is_pending (new_clock n b).standings b standing.Apart refl (ap is_pending (new_same n b h))) refl

module _ (m : ModuleValue) (w : World) (a b : ℕ) (x y : Activity) (found : slice_get w.activities a ≡ Some x) (known : slice_get w.activities b ≡ Some y) (differs : b ≡ a → ⊥)
    (alive : is_ended y.status ≡ false) (quiet : Each (λ k (c : Clock). is_ready c ≡ false) w.clocks)
    (named : (s k : ℕ) → Names x.frame.slots s k → k < length w.clocks) (inside : Each (λ k (c : Clock). a < length c.standings) w.clocks) (owned : AreOwned w.activities) where
  turned : a ≡ b → ⊥
  turned e = differs (sym e)

  still : Each (λ k (c : Clock). settle c.standings ≡ c.standings) w.clocks
  still k c at = unready_still c (quiet k c at)

  -- ---- what a sees after b's step

  sees_made : (next : Activity) → next.governed ≡ y.governed → Sees m w (made_world w b next) a x x.since
  sees_made next governed = record {
    there = found;
    then = get-set_other w.activities b a next turned ∙ found;
    clocks = λ s k is. pushed_registers (w.steps + 1) a w.clocks (new_clock (length w.activities) b) k (named s k is);
    cells = λ i at c g. refl;
    width = λ c. refl;
    waits = pushed_waits (w.steps + 1) a w.clocks (new_clock (length w.activities) b) (ap is_signalled (new_other (length w.activities) b a turned));
    awaits = awaits_set w.activities b y next known governed (innermost a x) alive;
  }

  sees_started : (unit : ℕ) (values : List Value) → AreOwned (started_world m w b y unit values).activities → Sees m w (started_world m w b y unit values) a x x.since
  sees_started unit values theirs = record {
    there = found;
    then = get-append_left (set w.activities b (onward y)) (child m b y unit values ∷ []) a x (get-set_other w.activities b a (onward y) turned ∙ found);
    clocks = λ s k is. joined_registers (w.steps + 1) a b (is_given values) w.clocks k inside;
    cells = λ i at c g. refl;
    width = λ c. refl;
    waits = joined_waits (w.steps + 1) a b (is_given values) w.clocks inside;
    awaits = λ h.
        awaits_push (set w.activities b (onward y)) (owned_set w.activities owned b y (onward y) known refl (innermost a x)) b (onward y)
        (get-set_same w.activities b y (onward y) known) alive (child m b y unit values) (governing_at b y) theirs (innermost a x) (λ e. turned (same_Some a b e))
        ∙ awaits_set w.activities b y (onward y) known refl (innermost a x) alive h;
  }

  -- ---- where both orders lead

  acts_go : (p q z : Activity) (s : ℕ) → plain_activity q ≡ plain_activity z
      → map plain_activity (set (set w.activities b q) a (aged p s)) ≡ map plain_activity (set (set w.activities a p) b z)
  acts_go p q z s same =
      map-set plain_activity (set w.activities b q) a (aged p s) ∙ ap (λ zs. set zs a (plain_activity p)) (map-set plain_activity w.activities b q)
      ∙ set_other (map plain_activity w.activities) b a (plain_activity q) (plain_activity p) turned
      ∙ ap (λ g. set (set (map plain_activity w.activities) a (plain_activity p)) b g) same
      ∙ sym (map-set plain_activity (set w.activities a p) b z ∙ ap (λ zs. set zs b (plain_activity z)) (map-set plain_activity w.activities a p))

  made_worlds : (p q z : Activity) (s : ℕ) (f : Move) (r : Option (ℕ × (ℤ → ℤ))) → plain_activity q ≡ plain_activity z
      → plain (enacted (made_world w b q) a (aged p s) f r) ≡ plain (made_world (enacted w a p f r) b z)
  made_worlds p q z s f r same =
      let one : World = enacted (made_world w b q) a (aged p s) f r in
      let other : World = made_world (enacted w a p f r) b z in
      same_plain one other (acts_go p q z s same)
      (made_go (w.steps + 1 + 1) (w.steps + 1) (w.steps + 1 + 1) (w.steps + 1) a (change_by f) w.clocks (new_clock (length w.activities) b) (move_apart f) still
      (new_other (length w.activities) b a turned) (new_still (length w.activities) b (slice_get_within w.activities b y known))
      ∙ ap (λ n. map plain_clock (map (settled_clock (w.steps + 1 + 1)) (map (settled_clock (w.steps + 1)) (moved a (change_by f) w.clocks) ++ new_clock n b ∷ [])))
      (sym (length-set w.activities a p)))
      refl refl

  started_worlds : (p : Activity) (s t : ℕ) (f : Move) (r : Option (ℕ × (ℤ → ℤ))) (unit : ℕ) (values : List Value)
      → plain (enacted (started_world m w b y unit values) a (aged p s) f r) ≡ plain (started_world m (enacted w a p f r) b (aged y t) unit values)
  started_worlds p s t f r unit values =
      let one : World = enacted (started_world m w b y unit values) a (aged p s) f r in
      let other : World = started_world m (enacted w a p f r) b (aged y t) unit values in
      let there : a < length (set w.activities b (onward y)) = omega (arith, slice_get_within w.activities a x found, length-set w.activities b (onward y)) in
      same_plain one other
      (ap (λ zs. map plain_activity zs) (set_push (set w.activities b (onward y)) a (aged p s) (child m b y unit values) there)
      ∙ map_push plain_activity (set (set w.activities b (onward y)) a (aged p s)) (child m b y unit values)
      ∙ ap (λ zs. zs ++ plain_activity (child m b y unit values) ∷ []) (acts_go p (onward y) (onward (aged y t)) s refl)
      ∙ sym (map_push plain_activity (set (set w.activities a p) b (onward (aged y t))) (child m b (aged y t) unit values)))
      (started_go (w.steps + 1 + 1) (w.steps + 1) (w.steps + 1 + 1) (w.steps + 1) a b (change_by f) (is_given values) w.clocks differs still inside)
      refl refl

  -- ---- squares

  pub makes_square : (u v : World) (e f : Event) → step m w a ≡ Stepped u e → step m w b ≡ Stepped v f
      → Acts m w v a x (step m w a) (step m v a) → Makes m w u b y y.since (step m w b) (step m u b)
      → (p : World) × (q : World) × (step m v a ≡ Stepped p e) × (step m u b ≡ Stepped q f) × (plain p ≡ plain q)
  makes_square u v e f hu hv A M =
      let us : (u ≡ enacted w a A.next A.move A.writes) × (e ≡ A.e) = same_step u (enacted w a A.next A.move A.writes) e A.e (sym hu ∙ A.here) in
      let vs : (v ≡ made_world w b (maker y M.d (length w.clocks))) × (f ≡ event.Made) =
      same_step v (made_world w b (maker y M.d (length w.clocks))) f event.Made (sym hv ∙ M.here) in
      let p : World = enacted v a (aged A.next A.now) A.move A.writes in
      let q : World = made_world u b (maker (aged y y.since) M.d (length u.clocks)) in
      let many : length (enacted w a A.next A.move A.writes).clocks ≡ length w.clocks =
      length-map (moved a (change_by A.move) w.clocks) (settled_clock (w.steps + 1)) ∙ length-moved a (change_by A.move) w.clocks in (
        p,
        q,
        A.there ∙ ap (λ z. Stepped p z) (sym us.1),
        M.there ∙ ap (λ z. Stepped q z) (sym vs.1),
        ap (λ z. plain (enacted z a (aged A.next A.now) A.move A.writes)) vs.0
            ∙ made_worlds A.next (maker y M.d (length w.clocks)) (maker (aged y y.since) M.d (length (enacted w a A.next A.move A.writes).clocks)) A.now A.move A.writes
            (ap (λ k. plain_activity (maker y M.d k)) (sym many))
            ∙ sym (ap (λ z. plain (made_world z b (maker (aged y y.since) M.d (length z.clocks)))) us.0),
      )

  pub starts_square : (u v : World) (e f : Event) → step m w a ≡ Stepped u e → step m w b ≡ Stepped v f
      → Acts m w v a x (step m w a) (step m v a) → Starts m w u b y y.since (step m w b) (step m u b)
      → (p : World) × (q : World) × (step m v a ≡ Stepped p e) × (step m u b ≡ Stepped q f) × (plain p ≡ plain q)
  starts_square u v e f hu hv A S =
      let us : (u ≡ enacted w a A.next A.move A.writes) × (e ≡ A.e) = same_step u (enacted w a A.next A.move A.writes) e A.e (sym hu ∙ A.here) in
      let vs : (v ≡ started_world m w b y S.unit S.values) × (f ≡ event.Spawned) =
      same_step v (started_world m w b y S.unit S.values) f event.Spawned (sym hv ∙ S.here) in
      let p : World = enacted v a (aged A.next A.now) A.move A.writes in
      let q : World = started_world m u b (aged y y.since) S.unit S.values in (
        p,
        q,
        A.there ∙ ap (λ z. Stepped p z) (sym us.1),
        S.there ∙ ap (λ z. Stepped q z) (sym vs.1),
        ap (λ z. plain (enacted z a (aged A.next A.now) A.move A.writes)) vs.0
            ∙ started_worlds A.next A.now y.since A.move A.writes S.unit S.values
            ∙ sym (ap (λ z. plain (started_world m z b (aged y y.since) S.unit S.values)) us.0),
      )

  -- b's step in w, and what a sees after it
  sees_after : (apart : AreConflictFree m w a b) (v : World) (f : Event) → step m w b ≡ Stepped v f → AreOwned v.activities
      → Goes m w w b y y.since (step m w b) (step m w b) → Sees m w v a x x.since
  sees_after apart v f hv theirs (IsNone g) = absurd (not_none (step m w b) v f hv g)
  sees_after apart v f hv theirs (DoesAct B) = first_sees m w a b x y found known differs quiet apart v (step m w b) (step m w b) B f hv
  sees_after apart v f hv theirs (DoesMake M) =
      let vs : (v ≡ made_world w b (maker y M.d (length w.clocks))) × (f ≡ event.Made) =
      same_step v (made_world w b (maker y M.d (length w.clocks))) f event.Made (sym hv ∙ M.here) in
      subst (λ z. Sees m w z a x x.since) (sym vs.0) (sees_made (maker y M.d (length w.clocks)) refl)
  sees_after apart v f hv theirs (DoesStart S) =
      let vs : (v ≡ started_world m w b y S.unit S.values) × (f ≡ event.Spawned) =
      same_step v (started_world m w b y S.unit S.values) f event.Spawned (sym hv ∙ S.here) in
      subst (λ z. Sees m w z a x x.since) (sym vs.0) (sees_started S.unit S.values (subst (λ z. AreOwned z.activities) vs.0 theirs))

  -- a's step and b's, whatever that is
  each_square : (apart : AreConflictFree m w a b) (u v : World) (e f : Event) → step m w a ≡ Stepped u e → step m w b ≡ Stepped v f
      → Acts m w v a x (step m w a) (step m v a) → Goes m w u b y y.since (step m w b) (step m u b)
      → (p : World) × (q : World) × (step m v a ≡ Stepped p e) × (step m u b ≡ Stepped q f) × (plain p ≡ plain q)
  each_square apart u v e f hu hv A (IsNone g) = absurd (not_none (step m w b) v f hv g)
  each_square apart u v e f hu hv A (DoesAct B) = both_act m w a b x y found known differs quiet apart u v e f hu hv A B
  each_square apart u v e f hu hv A (DoesMake M) = makes_square u v e f hu hv A M
  each_square apart u v e f hu hv A (DoesStart S) = starts_square u v e f hu hv A S

  any_square : (apart : AreConflictFree m w a b) → begins_next m w a ≡ false → (u v : World) (e f : Event) → step m w a ≡ Stepped u e → step m w b ≡ Stepped v f → AreOwned v.activities
      → (p : World) × (q : World) × (step m v a ≡ Stepped p e) × (step m u b ≡ Stepped q f) × (plain p ≡ plain q)
  any_square apart begun u v e f hu hv theirs =
      let a_alone : Acts m w w a x (step m w a) (step m w a) = only_acts m w w a x x.since _ _ u e found begun hu (goes m w w a x x.since (sees_itself m w a x found)) in
      let a_sees : Sees m w v a x x.since = sees_after apart v f hv theirs (goes m w w b y y.since (sees_itself m w b y known)) in
      let b_sees : Sees m w u b y y.since = second_sees m w a b x y found known differs quiet apart u (step m w a) (step m w a) a_alone e hu in
      each_square apart u v e f hu hv (only_acts m w v a x x.since _ _ u e found begun hu (goes m w v a x x.since a_sees)) (goes m w u b y y.since b_sees)

-- ---- worlds that are reached

-- who takes a step hasn't ended
pub alive_of : (m : ModuleValue) (w : World) (b : ℕ) (y : Activity) (v : World) (f : Event) → slice_get w.activities b ≡ Some y → step m w b ≡ Stepped v f → is_ended y.status ≡ false
alive_of m w b y v f known hv = by (goes m w w b y y.since (sees_itself m w b y known))
  where
    by : Goes m w w b y y.since (step m w b) (step m w b) → is_ended y.status ≡ false
    by (IsNone g) = absurd (not_none (step m w b) v f hv g)
    by (DoesAct B) = B.alive
    by (DoesMake M) = ap is_ended M.next.runs
    by (DoesStart S) = ap is_ended S.next.runs

pub reached_square : (m : ModuleValue) (w : World) → IsWithinLimits m → IsAccepted m → IsReached m w → (a b : ℕ) → (b ≡ a → ⊥)
    → AreConflictFree m w a b → begins_next m w a ≡ false → IsSquare m w a b
reached_square m w limits ok reached a b differs apart begun u v e f hu hv =
    let x = found_of m w a u e hu in
    let y = found_of m w b v f hv in
    let sound = reached_sound m limits ok w reached in
    let owned : (z : World) → IsReached m z → AreOwned z.activities = λ z r k act at o own. ((reached_scoped m limits ok z r).activities k act at).owner o own in
    any_square m w a b x.0 y.0 x.1 y.1 differs (alive_of m w b y.0 v f y.1 hv) (λ k c at. (sound.clocks k c at).unready)
    (λ s k is. (sound.activities a x.0 x.1).frame.known s k is)
    (λ k c at. omega (arith, slice_get_within w.activities a x.0 x.1, (sound.clocks k c at).width)) (owned w reached) apart begun u v e f hu hv
    (owned v (reached_step m w v b f reached hv))

-- what one sees after another's step
pub reached_sees : (m : ModuleValue) (w : World) → IsWithinLimits m → IsAccepted m → IsReached m w → (a b : ℕ) → (b ≡ a → ⊥) → AreConflictFree m w a b
    → (x : Activity) → slice_get w.activities a ≡ Some x → (v : World) (f : Event) → step m w b ≡ Stepped v f → Sees m w v a x x.since
reached_sees m w limits ok reached a b differs apart x found v f hv =
    let y = found_of m w b v f hv in
    let sound = reached_sound m limits ok w reached in
    let owned : (z : World) → IsReached m z → AreOwned z.activities = λ z r k act at o own. ((reached_scoped m limits ok z r).activities k act at).owner o own in
    sees_after m w a b x y.0 found y.1 differs (alive_of m w b y.0 v f y.1 hv) (λ k c at. (sound.clocks k c at).unready)
    (λ s k is. (sound.activities a x found).frame.known s k is)
    (λ k c at. omega (arith, slice_get_within w.activities a x found, (sound.clocks k c at).width)) (owned w reached) apart v f hv
    (owned v (reached_step m w v b f reached hv)) (goes m w w b y.0 y.0.since (sees_itself m w b y.0 y.1))
