-- One that makes a clock and one that starts an activity, in either order; and all squares but those of two that make or two that start.
use Rattle.std.proofs.Common.{◌≡◌, ℕ, suc, zero, ◌+◌, ◌<◌, Bool, true, false, List, [], ◌∷◌, ◌++◌, map, length, set, replicate, Some, refl, sym, ap, ◌∙◌, arith, length-set}
use Rattle.std.specs.Prelude.{slice_get}
use Rattle.std.specs.Option.{option_map_or}
use Rattle.std.proofs.lemmas.List.{length-map, length_push, length-replicate, map-set}
use Rattle.std.proofs.lemmas.Option.{slice_get_within}
use Rattle.xk_types.specs.declared.instr.Instr.TheVariants as instr
use Rattle.xk_types.specs.declared.world.Value.{Value}
use Rattle.xk_types.specs.declared.world.Standing.{Standing}
use Rattle.xk_types.specs.declared.world.Standing.TheVariants as standing
use Rattle.xk_types.specs.declared.world.Event.{Event}
use Rattle.xk_types.specs.declared.world.Event.TheVariants as event
use Rattle.xk_types.specs.Acceptance.{IsAccepted}
use Rattle.xk_types.specs.Code.{ModuleValue, IsWithinLimits}
use Rattle.xk_types.specs.World.{Activity, Clock, World}
use Rattle.xk_types.specs.Step.{Stepped, is_ready, settled_clock, joined, joined_on, is_given, new_clock, child, onward, step}
use Rattle.xk_types.specs.Schedule.{IsReached}
use Rattle.xk_law_schedules.proofs.Invariant.{Each, IsSound}
use Rattle.xk_law_schedules.proofs.ReachabilityLemmas.{reached_sound, reached_scoped}
use Rattle.xk_law_schedules.proofs.ScopeLemmas.FinishOwnerLemmas.{AreOwned}
use Rattle.xk_law_schedules.proofs.ClockLemmas.StandingLemmas.{new_other, length-joined}
use Rattle.xk_law_commute.specs.PlainWorlds.{plain_activity, plain_clock, plain}
use Rattle.xk_law_commute.specs.Conflicts.{AreConflictFree}
use Rattle.xk_law_commute.specs.Squares.{makes, starts, makes_next, starts_next, IsSquare}
use Rattle.xk_law_commute.proofs.StepEffect.{aged}
use Rattle.xk_law_commute.proofs.OneClockLemmas.{settle, join_of, settle_twice}
use Rattle.xk_law_commute.proofs.ListLemmas.{map_push, set_other, set_push}
use Rattle.xk_law_commute.proofs.PlainStepLaw.{same_plain}
use Rattle.xk_law_commute.proofs.ClockLemmas.{plainly, settled_standings, unready_still}
use Rattle.xk_law_commute.proofs.ViewLemmas.{Makes, Starts, Goes, IsNone, DoesAct, DoesMake, DoesStart, goes}
use Rattle.xk_law_commute.proofs.ChangeSquareLemmas.{same_step, not_none, found_of, next_is, both_act}
use Rattle.xk_law_commute.proofs.StartSquareLemmas.{made_world, started_world, maker, new_still, reached_sees, alive_of, makes_square, starts_square}

replicate_push : (n : ℕ) (s : Standing) → replicate n s ++ s ∷ [] ≡ replicate (suc n) s
replicate_push zero s = refl
replicate_push (suc n) s = ap (λ zs. s ∷ zs) (replicate_push n s)

-- a new clock, when there is one activity more
new_longer : (n b : ℕ) → b < n → (new_clock n b).standings ++ standing.Apart ∷ [] ≡ (new_clock (suc n) b).standings
new_longer n b h =
    let inside : b < length (replicate n standing.Apart) = omega (arith, h, length-replicate n standing.Apart) in
    sym (set_push (replicate n standing.Apart) b standing.Open standing.Apart inside) ∙ ap (λ zs. set zs b standing.Open) (replicate_push n standing.Apart)

join_new : (n a b : ℕ) (given : Bool) → (a ≡ b → ⊥) → b < n → join_of a given (new_clock n b).standings ≡ (new_clock (suc n) b).standings
join_new n a b true differs h = ap (λ s. (new_clock n b).standings ++ s ∷ []) (new_other n b a differs) ∙ new_longer n b h
join_new n a b false differs h = new_longer n b h

clocks_both : (k o p q n a b : ℕ) (given : ℕ → Bool) (cs : List Clock) → (a ≡ b → ⊥) → b < n → Each (λ k (c : Clock). settle c.standings ≡ c.standings) cs
    → map plain_clock (map (settled_clock k) (joined a given (map (settled_clock o) (cs ++ new_clock n b ∷ []))))
    ≡ map plain_clock (map (settled_clock p) (map (settled_clock q) (joined a given cs) ++ new_clock (suc n) b ∷ []))
clocks_both k o p q n a b given [] differs inside still =
    let one : plain_clock (settled_clock k (joined_on a (given 0) (settled_clock o (new_clock n b)))) ≡ plain_clock (settled_clock p (new_clock (suc n) b)) =
    plainly (settled_clock k (joined_on a (given 0) (settled_clock o (new_clock n b)))) (settled_clock p (new_clock (suc n) b))
    (settled_standings k (joined_on a (given 0) (settled_clock o (new_clock n b)))
    ∙ ap (λ zs. settle (join_of a (given 0) zs)) (settled_standings o (new_clock n b) ∙ new_still n b inside)
    ∙ ap settle (join_new n a b (given 0) differs inside) ∙ sym (settled_standings p (new_clock (suc n) b))) in
    λ i. one i ∷ []
clocks_both k o p q n a b given (c ∷ cs) differs inside still =
    let one : plain_clock (settled_clock k (joined_on a (given 0) (settled_clock o c))) ≡ plain_clock (settled_clock p (settled_clock q (joined_on a (given 0) c))) =
    plainly (settled_clock k (joined_on a (given 0) (settled_clock o c))) (settled_clock p (settled_clock q (joined_on a (given 0) c)))
    (settled_standings k (joined_on a (given 0) (settled_clock o c)) ∙ ap (λ zs. settle (join_of a (given 0) zs)) (settled_standings o c ∙ still 0 c refl)
    ∙ sym (settled_standings p (settled_clock q (joined_on a (given 0) c)) ∙ ap settle (settled_standings q (joined_on a (given 0) c)) ∙ settle_twice (join_of a (given 0) c.standings))) in
    let rest : map plain_clock (map (settled_clock k) (joined a (λ j. given (suc j)) (map (settled_clock o) (cs ++ new_clock n b ∷ []))))
    ≡ map plain_clock (map (settled_clock p) (map (settled_clock q) (joined a (λ j. given (suc j)) cs) ++ new_clock (suc n) b ∷ [])) =
    clocks_both k o p q n a b (λ j. given (suc j)) cs differs inside (λ j x at. still (suc j) x at) in
    λ i. one i ∷ rest i

module _ (m : ModuleValue) (w : World) (a b : ℕ) (x y : Activity) (found : slice_get w.activities a ≡ Some x) (known : slice_get w.activities b ≡ Some y) (differs : b ≡ a → ⊥)
    (quiet : Each (λ k (c : Clock). is_ready c ≡ false) w.clocks) where
  turned : a ≡ b → ⊥
  turned e = differs (sym e)

  worlds_both : (q z : Activity) (s : ℕ) (unit : ℕ) (values : List Value) → plain_activity q ≡ plain_activity z
      → plain (started_world m (made_world w b q) a (aged x s) unit values) ≡ plain (made_world (started_world m w a x unit values) b z)
  worlds_both q z s unit values same =
      let one : World = started_world m (made_world w b q) a (aged x s) unit values in
      let other : World = made_world (started_world m w a x unit values) b z in
      let p : Activity = onward x in
      let new : Activity = child m a x unit values in
      let there : b < length (set w.activities a p) = omega (arith, slice_get_within w.activities b y known, length-set w.activities a p) in
      let many : length (set w.activities a p ++ new ∷ []) ≡ suc (length w.activities) = omega (arith, length_push (set w.activities a p) new, length-set w.activities a p) in
      same_plain one other
      (map_push plain_activity (set (set w.activities b q) a (onward (aged x s))) (child m a (aged x s) unit values)
      ∙ ap (λ zs. zs ++ plain_activity new ∷ [])
      (map-set plain_activity (set w.activities b q) a (onward (aged x s)) ∙ ap (λ zs. set zs a (plain_activity p)) (map-set plain_activity w.activities b q)
      ∙ set_other (map plain_activity w.activities) b a (plain_activity q) (plain_activity p) turned
      ∙ ap (λ g. set (set (map plain_activity w.activities) a (plain_activity p)) b g) same
      ∙ sym (map-set plain_activity (set w.activities a p) b z ∙ ap (λ zs. set zs b (plain_activity z)) (map-set plain_activity w.activities a p)))
      ∙ sym (ap (λ zs. map plain_activity zs) (set_push (set w.activities a p) b z new there) ∙ map_push plain_activity (set (set w.activities a p) b z) new))
      (clocks_both (w.steps + 1 + 1) (w.steps + 1) (w.steps + 1 + 1) (w.steps + 1) (length w.activities) a b (is_given values) w.clocks turned
      (slice_get_within w.activities b y known) (λ k c at. unready_still c (quiet k c at))
      ∙ ap (λ n. map plain_clock (map (settled_clock (w.steps + 1 + 1)) (map (settled_clock (w.steps + 1)) (joined a (is_given values) w.clocks) ++ new_clock n b ∷ []))) (sym many))
      refl refl

  -- a starts an activity, b makes a clock
  start_make : (u v : World) (e f : Event) → step m w a ≡ Stepped u e → step m w b ≡ Stepped v f
      → Starts m w v a x x.since (step m w a) (step m v a) → Makes m w u b y y.since (step m w b) (step m u b)
      → (p : World) × (q : World) × (step m v a ≡ Stepped p e) × (step m u b ≡ Stepped q f) × (plain p ≡ plain q)
  start_make u v e f hu hv S M =
      let us : (u ≡ started_world m w a x S.unit S.values) × (e ≡ event.Spawned) =
      same_step u (started_world m w a x S.unit S.values) e event.Spawned (sym hu ∙ S.here) in
      let vs : (v ≡ made_world w b (maker y M.d (length w.clocks))) × (f ≡ event.Made) =
      same_step v (made_world w b (maker y M.d (length w.clocks))) f event.Made (sym hv ∙ M.here) in
      let p : World = started_world m v a (aged x x.since) S.unit S.values in
      let q : World = made_world u b (maker (aged y y.since) M.d (length u.clocks)) in
      let many : length (started_world m w a x S.unit S.values).clocks ≡ length w.clocks =
      length-map (joined a (is_given S.values) w.clocks) (settled_clock (w.steps + 1)) ∙ length-joined a (is_given S.values) w.clocks in (
        p,
        q,
        S.there ∙ ap (λ z. Stepped p z) (sym us.1),
        M.there ∙ ap (λ z. Stepped q z) (sym vs.1),
        ap (λ z. plain (started_world m z a (aged x x.since) S.unit S.values)) vs.0
            ∙ worlds_both (maker y M.d (length w.clocks)) (maker (aged y y.since) M.d (length (started_world m w a x S.unit S.values).clocks)) x.since S.unit S.values
            (ap (λ k. plain_activity (maker y M.d k)) (sym many))
            ∙ sym (ap (λ z. plain (made_world z b (maker (aged y y.since) M.d (length z.clocks)))) us.0),
      )

-- ---- all squares

apart_turned : (m : ModuleValue) (w : World) (a b : ℕ) → AreConflictFree m w a b → AreConflictFree m w b a
apart_turned m w a b h = record { second_reads = h.first_reads; first_reads = h.second_reads; first_puts = h.second_puts; second_puts = h.first_puts }

pub all_squares : (m : ModuleValue) (w : World) → IsWithinLimits m → IsAccepted m → IsReached m w → (a b : ℕ) → (b ≡ a → ⊥) → AreConflictFree m w a b
    → (makes_next m w a ≡ true → makes_next m w b ≡ true → ⊥) → (starts_next m w a ≡ true → starts_next m w b ≡ true → ⊥) → IsSquare m w a b
all_squares m w limits ok reached a b differs apart one_makes one_starts u v e f hu hv =
    by (goes m w v a x.0 x.0.since (reached_sees m w limits ok reached a b differs apart x.0 x.1 v f hv))
    (goes m w u b y.0 y.0.since (reached_sees m w limits ok reached b a turned (apart_turned m w a b apart) y.0 y.1 u e hu))
  where
    turned : a ≡ b → ⊥
    turned q = differs (sym q)

    x : (act : Activity) × (slice_get w.activities a ≡ Some act)
    x = found_of m w a u e hu

    y : (act : Activity) × (slice_get w.activities b ≡ Some act)
    y = found_of m w b v f hv

    sound : IsSound m w
    sound = reached_sound m limits ok w reached

    quiet : Each (λ k (c : Clock). is_ready c ≡ false) w.clocks
    quiet k c at = (sound.clocks k c at).unready

    inside : (d : ℕ) (z : Activity) → slice_get w.activities d ≡ Some z → Each (λ k (c : Clock). d < length c.standings) w.clocks
    inside d z there k c at = omega (arith, slice_get_within w.activities d z there, (sound.clocks k c at).width)

    owned : AreOwned w.activities
    owned k act at o own = ((reached_scoped m limits ok w reached).activities k act at).owner o own

    swap : (p : World) × (q : World) × (step m u b ≡ Stepped p f) × (step m v a ≡ Stepped q e) × (plain p ≡ plain q)
        → (p : World) × (q : World) × (step m v a ≡ Stepped p e) × (step m u b ≡ Stepped q f) × (plain p ≡ plain q)
    swap r = (r.1, r.0, r.3, r.2, sym r.4)

    by : Goes m w v a x.0 x.0.since (step m w a) (step m v a) → Goes m w u b y.0 y.0.since (step m w b) (step m u b)
        → (p : World) × (q : World) × (step m v a ≡ Stepped p e) × (step m u b ≡ Stepped q f) × (plain p ≡ plain q)
    by (IsNone g) B = absurd (not_none (step m w a) u e hu g)
    by A (IsNone g) = absurd (not_none (step m w b) v f hv g)
    by (DoesAct A) (DoesAct B) = both_act m w a b x.0 y.0 x.1 y.1 differs quiet apart u v e f hu hv A B
    by (DoesAct A) (DoesMake B) =
        makes_square m w a b x.0 y.0 x.1 y.1 differs (alive_of m w b y.0 v f y.1 hv) quiet (λ s k is. (sound.activities a x.0 x.1).frame.known s k is) (inside a x.0 x.1) owned u v e f hu hv A B
    by (DoesAct A) (DoesStart B) =
        starts_square m w a b x.0 y.0 x.1 y.1 differs (alive_of m w b y.0 v f y.1 hv) quiet (λ s k is. (sound.activities a x.0 x.1).frame.known s k is) (inside a x.0 x.1) owned u v e f hu hv A B
    by (DoesMake A) (DoesAct B) =
        swap (makes_square m w b a y.0 x.0 y.1 x.1 turned (alive_of m w a x.0 u e x.1 hu) quiet (λ s k is. (sound.activities b y.0 y.1).frame.known s k is) (inside b y.0 y.1) owned v u f e hv hu B A)
    by (DoesStart A) (DoesAct B) =
        swap (starts_square m w b a y.0 x.0 y.1 x.1 turned (alive_of m w a x.0 u e x.1 hu) quiet (λ s k is. (sound.activities b y.0 y.1).frame.known s k is) (inside b y.0 y.1) owned v u f e hv hu B A)
    by (DoesStart A) (DoesMake B) = start_make m w a b x.0 y.0 x.1 y.1 differs quiet u v e f hu hv A B
    by (DoesMake A) (DoesStart B) = swap (start_make m w b a y.0 x.0 y.1 x.1 turned quiet v u f e hv hu B A)
    by (DoesMake A) (DoesMake B) = absurd (one_makes
        (ap (λ o. option_map_or makes o false) (next_is m w a x.0 (instr.Make A.d) x.1 A.next)) (ap (λ o. option_map_or makes o false) (next_is m w b y.0 (instr.Make B.d) y.1 B.next)))
    by (DoesStart A) (DoesStart B) = absurd (one_starts
        (ap (λ o. option_map_or starts o false) (next_is m w a x.0 (instr.Spawn A.unit A.args) x.1 A.next))
        (ap (λ o. option_map_or starts o false) (next_is m w b y.0 (instr.Spawn B.unit B.args) y.1 B.next)))
