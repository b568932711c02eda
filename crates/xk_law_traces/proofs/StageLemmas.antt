-- How far an activity has come on a clock: to signal in a phase is one stage, to pass from it the next. An advance changes nobody's
-- stage, nor does a step of another; and a step of one's own goes on by a stage at most. So, other than phases, stages are the same in
-- all schedules of a class.
use Rattle.std.proofs.Common.{◌≡◌, ℕ, suc, zero, ◌+◌, ◌<◌, ◌≤◌, ◌==◌, not, ◌⊎◌, inl, inr, Bool, true, false, true≢false, cond, List, [], ◌∷◌, ◌++◌, map, length, Option, Some, None, refl, sym, ap, ◌∙◌, subst, arith, length-set}
use Rattle.std.specs.Prelude.{slice_get}
use Rattle.std.specs.List.{list_any}
use Rattle.std.specs.Option.{option_map_or}
use Rattle.std.proofs.lemmas.Bool.{and_parts, not-true, or_parts}
use Rattle.std.proofs.lemmas.Option.{slice_get_within}
use Rattle.std.proofs.Math.ListN.{get_or-map}
use Rattle.xk_types.specs.declared.world.Standing.{Standing}
use Rattle.xk_types.specs.declared.world.Standing.TheVariants as standing
use Rattle.xk_types.specs.declared.world.Event.{Event}
use Rattle.xk_types.specs.declared.world.Event.TheVariants as event
use Rattle.xk_types.specs.Acceptance.{IsAccepted}
use Rattle.xk_types.specs.Code.{ModuleValue, IsWithinLimits}
use Rattle.xk_types.specs.World.{Activity, Clock, World, standing_of}
use Rattle.xk_types.specs.Step.{Stepped, is_signalled, is_pending, is_registered, is_ready, resumed, passed, advanced, settled_clock, moved, moved_on, joined, joined_on, is_given, new_clock, step}
use Rattle.xk_types.specs.Schedule.{IsReached}
use Rattle.xk_types.proofs.ListLemmas.{none_at}
use Rattle.xk_law_schedules.proofs.Invariant.{Each}
use Rattle.xk_law_schedules.proofs.ReachabilityLemmas.{reached_sound}
use Rattle.xk_law_schedules.proofs.ClockLemmas.StandingLemmas.{stand_same, stand_other, new_same, new_other, stand_joined_new, stand_joined_old}
use Rattle.xk_law_commute.proofs.StepEffect.{Move, Rests, Resumes, Drops, Arrives, Passes, Ends, change_by, enacted}
use Rattle.xk_law_commute.proofs.ChangeSquareLemmas.{same_step, not_none, found_of}
use Rattle.xk_law_commute.proofs.StartSquareLemmas.{made_world, started_world, maker}
use Rattle.xk_law_commute.proofs.ViewLemmas.{Goes, IsNone, DoesAct, DoesMake, DoesStart, goes, sees_itself}
use Rattle.xk_law_traces.specs.Edges.{phase_of, held_in}
use Rattle.xk_law_traces.specs.Moments.{is_start}
use Rattle.xk_law_traces.proofs.StepEventLemmas.{grown}

-- ---- one clock

-- The stage of one that stands so on a clock in this phase: 0 if it isn't registered. Ahead is the stage behind the signal of the phase
-- before.
abbrev pub stage_by : ℕ → Standing → ℕ
stage_by p standing.Apart = 0
stage_by p standing.Ahead = suc (p + p)
stage_by p standing.Open = suc (suc (p + p))
stage_by p standing.Signalled = suc (suc (suc (p + p)))

abbrev pub stage_of : Clock → ℕ → ℕ
stage_of c a = stage_by c.phase (standing_of c a)

advance_stage : (p : ℕ) (s : Standing) → is_pending s ≡ false → stage_by (p + 1) (advanced s) ≡ stage_by p s
advance_stage p standing.Apart h = refl
advance_stage p standing.Open h = absurd (true≢false h)
advance_stage p standing.Signalled h = omega arith
advance_stage p standing.Ahead h = absurd (true≢false h)

-- the end of a step
settled_stage : (now : ℕ) (c : Clock) (a : ℕ) → stage_of (settled_clock now c) a ≡ stage_of c a
settled_stage now c a = by (is_ready c) refl
  where
    by : (q : Bool) → is_ready c ≡ q → stage_of
        (cond {A = Clock} q (record { phase = c.phase + 1; last = now; standings = map advanced c.standings }) c) a ≡ stage_of c a
    by true h =
        let none : list_any is_pending c.standings ≡ false =
        not-true (list_any is_pending c.standings)
        (and_parts (list_any is_signalled c.standings) (not (list_any is_pending c.standings)) h).1 in
        ap (stage_by (c.phase + 1)) (get_or-map advanced c.standings a standing.Apart)
        ∙ advance_stage c.phase (standing_of c a) (none_at is_pending c.standings a standing.Apart none refl)
    by false h = refl

-- a step of one's own goes on from stage s to t so: it ends the registration, or makes the clock, or it goes on by one stage at most
abbrev pub GoesFrom : ℕ → ℕ → Type 0
GoesFrom s t = (t ≡ 0) ⊎ (((s ≡ 0) × (t ≡ 2)) ⊎ ((0 < s) × (s ≤ t) × (t ≤ suc s)))

stays_there : (s : ℕ) → GoesFrom s s
stays_there zero = inl refl
stays_there (suc s) = inr (inr (omega arith, omega arith, omega arith))

resumed_stage : (p : ℕ) (s : Standing) → GoesFrom (stage_by p s) (stage_by p (resumed s))
resumed_stage p standing.Apart = inl refl
resumed_stage p standing.Open = inr (inr (omega arith, omega arith, omega arith))
resumed_stage p standing.Signalled = stays_there (stage_by p standing.Signalled)
resumed_stage p standing.Ahead = stays_there (stage_by p standing.Ahead)

passed_stage : (p : ℕ) (s : Standing) → GoesFrom (stage_by p s) (stage_by p (passed s))
passed_stage p standing.Apart = inl refl
passed_stage p standing.Open = stays_there (stage_by p standing.Open)
passed_stage p standing.Signalled = stays_there (stage_by p standing.Signalled)
passed_stage p standing.Ahead = inr (inr (omega arith, omega arith, omega arith))

only_stage : (c : ℕ) (f : Standing → Standing) → ((p : ℕ) (s : Standing) → GoesFrom (stage_by p s) (stage_by p (f s)))
    → (k p : ℕ) (s : Standing)
    → GoesFrom (stage_by p s) (stage_by p (cond (k == c) (f s) s))
only_stage c f h k p s = by (k == c)
  where
    by : (q : Bool) → GoesFrom (stage_by p s) (stage_by p (cond q (f s) s))
    by true = h p s
    by false = stays_there (stage_by p s)

move_stage : (move : Move) (k p : ℕ) (s : Standing) → GoesFrom (stage_by p s) (stage_by p (change_by move k s))
move_stage Rests k p s = stays_there (stage_by p s)
move_stage (Resumes c) k p s = only_stage c resumed resumed_stage k p s
move_stage (Drops c) k p s = only_stage c (λ z. standing.Apart) (λ q z. inl refl) k p s
move_stage Arrives k p s = resumed_stage p s
move_stage Passes k p s = passed_stage p s
move_stage Ends k p s = inl refl

same_parity : (r s p q t u : ℕ) → 0 < r → t ≡ r + (p + p) → u ≡ r + (q + q) → GoesFrom s t → GoesFrom s u → p ≡ q
same_parity r s p q t u some a b (inl h) k = absurd (omega arith)
same_parity r s p q t u some a b (inr h) (inl k) = absurd (omega arith)
same_parity r s p q t u some a b (inr (inl h)) (inr (inl k)) = let x = h.1 in let y = k.1 in omega arith
same_parity r s p q t u some a b (inr (inl h)) (inr (inr k)) = let x = h.0 in let y = k.0 in absurd (omega arith)
same_parity r s p q t u some a b (inr (inr h)) (inr (inl k)) = let x = h.0 in let y = k.0 in absurd (omega arith)
same_parity r s p q t u some a b (inr (inr h)) (inr (inr k)) = let x = h.1 in let y = h.2 in let z = k.1 in let v = k.2 in omega arith

-- From one stage one comes to the same, where one stands alike then, whatever the phase.
pub same_next : (s p q : ℕ) (st : Standing) → GoesFrom s (stage_by p st) → GoesFrom s (stage_by q st) → stage_by p st ≡ stage_by q st
same_next s p q standing.Apart h g = refl
same_next s p q standing.Open h g =
    ap (λ n. stage_by n standing.Open)
    (same_parity 2 s p q (stage_by p standing.Open) (stage_by q standing.Open) (omega arith) (omega arith) (omega arith) h g)
same_next s p q standing.Signalled h g =
    ap (λ n. stage_by n standing.Signalled)
    (same_parity 3 s p q (stage_by p standing.Signalled) (stage_by q standing.Signalled) (omega arith) (omega arith) (omega arith) h g)
same_next s p q standing.Ahead h g =
    ap (λ n. stage_by n standing.Ahead)
    (same_parity 1 s p q (stage_by p standing.Ahead) (stage_by q standing.Ahead) (omega arith) (omega arith) (omega arith) h g)

-- a child is apart, or at its starter's stage
abbrev pub IsGivenFrom : ℕ → ℕ → Type 0
IsGivenFrom s t = (t ≡ 0) ⊎ (t ≡ s)

some_given : (s t u : ℕ) → 0 < t → 0 < u → IsGivenFrom s t → IsGivenFrom s u → t ≡ u
some_given s t u a b (inl h) g = absurd (omega arith)
some_given s t u a b (inr h) (inl g) = absurd (omega arith)
some_given s t u a b (inr h) (inr g) = h ∙ sym g

pub same_given : (s p q : ℕ) (st : Standing) → IsGivenFrom s (stage_by p st) → IsGivenFrom s (stage_by q st) → stage_by p st ≡ stage_by q st
same_given s p q standing.Apart h g = refl
same_given s p q standing.Open h g = some_given s (stage_by p standing.Open) (stage_by q standing.Open) (omega arith) (omega arith) h g
same_given s p q standing.Signalled h g =
    some_given s (stage_by p standing.Signalled) (stage_by q standing.Signalled) (omega arith) (omega arith) h g
same_given s p q standing.Ahead h g = some_given s (stage_by p standing.Ahead) (stage_by q standing.Ahead) (omega arith) (omega arith) h g

-- ---- all clocks

-- the stage of activity a on clock k
abbrev pub stage_in : List Clock → ℕ → ℕ → ℕ
stage_in cs k a = option_map_or (λ c. stage_of c a) (slice_get cs k) 0

pub settled_in : (now : ℕ) (cs : List Clock) (k a : ℕ) → stage_in (map (settled_clock now) cs) k a ≡ stage_in cs k a
settled_in now [] k a = refl
settled_in now (c ∷ cs) zero a = settled_stage now c a
settled_in now (c ∷ cs) (suc k) a = settled_in now cs k a

moved_other : (a b : ℕ) (f : ℕ → Standing → Standing) (cs : List Clock) (k : ℕ) → (b ≡ a → ⊥)
    → stage_in (moved a f cs) k b ≡ stage_in cs k b
moved_other a b f [] k differs = refl
moved_other a b f (c ∷ cs) zero differs = ap (stage_by c.phase) (stand_other a b (f 0) c differs)
moved_other a b f (c ∷ cs) (suc k) differs = moved_other a b (λ j. f (suc j)) cs k differs

moved_own : (a : ℕ) (f : ℕ → Standing → Standing) (cs : List Clock) (k : ℕ) → Each (λ j (c : Clock). a < length c.standings) cs
    → ((j p : ℕ) (s : Standing) → GoesFrom (stage_by p s) (stage_by p (f j s))) → GoesFrom (stage_in cs k a) (stage_in (moved a f cs) k a)
moved_own a f [] k inside all = inl refl
moved_own a f (c ∷ cs) zero inside each =
    subst (λ s. GoesFrom (stage_of c a) (stage_by c.phase s)) (sym (stand_same a (f 0) c (inside 0 c refl)))
    (each 0 c.phase (standing_of c a))
moved_own a f (c ∷ cs) (suc k) inside each = moved_own a (λ j. f (suc j)) cs k (λ j x at. inside (suc j) x at) (λ j. each (suc j))

-- where a clock is made
pushed_other : (cs : List Clock) (new : Clock) (k b : ℕ) → standing_of new b ≡ standing.Apart
    → stage_in (cs ++ new ∷ []) k b ≡ stage_in cs k b
pushed_other [] new zero b apart = ap (stage_by new.phase) apart
pushed_other [] new (suc k) b apart = refl
pushed_other (c ∷ cs) new zero b apart = refl
pushed_other (c ∷ cs) new (suc k) b apart = pushed_other cs new k b apart

pushed_own : (cs : List Clock) (new : Clock) (k a : ℕ) → stage_of new a ≡ 2 → GoesFrom (stage_in cs k a) (stage_in (cs ++ new ∷ []) k a)
pushed_own [] new zero a opens = inr (inl (refl, opens))
pushed_own [] new (suc k) a opens = inl refl
pushed_own (c ∷ cs) new zero a opens = stays_there (stage_of c a)
pushed_own (c ∷ cs) new (suc k) a opens = pushed_own cs new k a opens

-- where an activity is started
pub joined_old : (a b : ℕ) (given : ℕ → Bool) (cs : List Clock) (k : ℕ) → Each (λ j (c : Clock). b < length c.standings) cs
    → stage_in (joined a given cs) k b ≡ stage_in cs k b
joined_old a b given [] k inside = refl
joined_old a b given (c ∷ cs) zero inside = ap (stage_by c.phase) (stand_joined_old a b (given 0) c (inside 0 c refl))
joined_old a b given (c ∷ cs) (suc k) inside = joined_old a b (λ j. given (suc j)) cs k (λ j x at. inside (suc j) x at)

joined_new : (a n : ℕ) (given : ℕ → Bool) (cs : List Clock) (k : ℕ) → Each (λ j (c : Clock). length c.standings ≡ n) cs
    → IsGivenFrom (stage_in cs k a) (stage_in (joined a given cs) k n)
joined_new a n given [] k wide = inl refl
joined_new a n given (c ∷ cs) zero wide =
    subst (λ s. IsGivenFrom (stage_of c a) (stage_by c.phase s)) (sym (stand_joined_new a n (given 0) c (wide 0 c refl))) (by (given 0))
  where
    by : (q : Bool) → IsGivenFrom (stage_of c a) (stage_by c.phase (cond q (standing_of c a) standing.Apart))
    by true = inr refl
    by false = inl refl
joined_new a n given (c ∷ cs) (suc k) wide = joined_new a n (λ j. given (suc j)) cs k (λ j x at. wide (suc j) x at)

-- ---- phases

-- of a clock, which never goes down
abbrev phase_in : List Clock → ℕ → ℕ
phase_in cs k = option_map_or (λ (c : Clock). c.phase) (slice_get cs k) 0

settled_phase : (now : ℕ) (c : Clock) → c.phase ≤ (settled_clock now c).phase
settled_phase now c = by (is_ready c)
  where
    by : (q : Bool)
        → c.phase ≤ (cond {A = Clock} q (record { phase = c.phase + 1; last = now; standings = map advanced c.standings }) c).phase
    by true = omega arith
    by false = omega arith

moved_phase : (now a : ℕ) (f : ℕ → Standing → Standing) (cs : List Clock) (k : ℕ)
    → phase_in cs k ≤ phase_in (map (settled_clock now) (moved a f cs)) k
moved_phase now a f [] k = omega arith
moved_phase now a f (c ∷ cs) zero = settled_phase now (moved_on a (f 0) c)
moved_phase now a f (c ∷ cs) (suc k) = moved_phase now a (λ j. f (suc j)) cs k

pushed_phase : (now : ℕ) (cs : List Clock) (new : Clock) (k : ℕ) → phase_in cs k ≤ phase_in (map (settled_clock now) (cs ++ new ∷ [])) k
pushed_phase now [] new k = omega arith
pushed_phase now (c ∷ cs) new zero = settled_phase now c
pushed_phase now (c ∷ cs) new (suc k) = pushed_phase now cs new k

joined_phase : (now a : ℕ) (given : ℕ → Bool) (cs : List Clock) (k : ℕ)
    → phase_in cs k ≤ phase_in (map (settled_clock now) (joined a given cs)) k
joined_phase now a given [] k = omega arith
joined_phase now a given (c ∷ cs) zero = settled_phase now (joined_on a (given 0) c)
joined_phase now a given (c ∷ cs) (suc k) = joined_phase now a (λ j. given (suc j)) cs k

-- ---- a step

-- the stage of activity a on clock k
abbrev pub stage_at : World → ℕ → ℕ → ℕ
stage_at w k a = stage_in w.clocks k a

-- what a step of activity a does to stages and to phases
pub record MovesOn (w u : World) (a : ℕ) (e : Event) : Type 0 where
  pub others : (k b : ℕ) → b < length w.activities → (b ≡ a → ⊥) → stage_at u k b ≡ stage_at w k b
  pub own : (k : ℕ) → GoesFrom (stage_at w k a) (stage_at u k a)
  pub child : (k : ℕ) → is_start e ≡ true → IsGivenFrom (stage_at w k a) (stage_at u k (length w.activities))
  pub phases : (k : ℕ) → phase_of w k ≤ phase_of u k

module _ (m : ModuleValue) (limits : IsWithinLimits m) (ok : IsAccepted m) where
  pub moves_on : (w u : World) (a : ℕ) (e : Event) → IsReached m w → step m w a ≡ Stepped u e → MovesOn w u a e
  moves_on w u a e reached takes = by (goes m w w a x.0 x.0.since (sees_itself m w a x.0 x.1))
    where
      x : (act : Activity) × (slice_get w.activities a ≡ Some act)
      x = found_of m w a u e takes

      there : a < length w.activities
      there = slice_get_within w.activities a x.0 x.1

      wide : Each (λ k (c : Clock). length c.standings ≡ length w.activities) w.clocks
      wide k c at = ((reached_sound m limits ok w reached).clocks k c at).width

      inside : (b : ℕ) → b < length w.activities → Each (λ k (c : Clock). b < length c.standings) w.clocks
      inside b less k c at = let n = wide k c at in omega arith

      now : ℕ
      now = w.steps + 1

      -- one more activity is one that was started
      many : is_start e ≡ true → length u.activities ≡ length w.activities → ⊥
      many h same = let n : length u.activities ≡ length w.activities + 1 = grown m w u a e takes
          ∙ ap (λ q. length w.activities + cond q 1 0) h in omega arith

      by : Goes m w w a x.0 x.0.since (step m w a) (step m w a) → MovesOn w u a e
      by (IsNone g) = absurd (not_none (step m w a) u e takes g)
      by (DoesAct A) =
          let us : u ≡ enacted w a A.next A.move A.writes =
          (same_step u (enacted w a A.next A.move A.writes) e A.e (sym takes ∙ A.here)).0 in
          let f : ℕ → Standing → Standing = change_by A.move in
          record {
            others = λ k b less differs. ap (λ (z : World). stage_at z k b) us ∙ settled_in now (moved a f w.clocks) k b
                ∙ moved_other a b f w.clocks k differs;
            own = λ k. subst (λ t. GoesFrom (stage_at w k a) t)
                (sym (ap (λ (z : World). stage_at z k a) us ∙ settled_in now (moved a f w.clocks) k a))
                (moved_own a f w.clocks k (inside a there) (move_stage A.move));
            child = λ k h. absurd (many h (ap (λ (z : World). length z.activities) us ∙ length-set w.activities a A.next));
            phases = λ k. subst (λ (z : World). phase_of w k ≤ phase_of z k) (sym us) (moved_phase now a f w.clocks k);
          }
      by (DoesMake M) =
          let next : Activity = maker x.0 M.d (length w.clocks) in
          let new : Clock = new_clock (length w.activities) a in
          let us : u ≡ made_world w a next = (same_step u (made_world w a next) e event.Made (sym takes ∙ M.here)).0 in
          record {
            others = λ k b less differs. ap (λ (z : World). stage_at z k b) us ∙ settled_in now (w.clocks ++ new ∷ []) k b
                ∙ pushed_other w.clocks new k b (new_other (length w.activities) a b differs);
            own = λ k. subst (λ t. GoesFrom (stage_at w k a) t)
                (sym (ap (λ (z : World). stage_at z k a) us ∙ settled_in now (w.clocks ++ new ∷ []) k a))
                (pushed_own w.clocks new k a (ap (stage_by 0) (new_same (length w.activities) a there)));
            child = λ k h. absurd (many h (ap (λ (z : World). length z.activities) us ∙ length-set w.activities a next));
            phases = λ k. subst (λ (z : World). phase_of w k ≤ phase_of z k) (sym us) (pushed_phase now w.clocks new k);
          }
      by (DoesStart S) =
          let us : u ≡ started_world m w a x.0 S.unit S.values =
          (same_step u (started_world m w a x.0 S.unit S.values) e event.Spawned (sym takes ∙ S.here)).0 in
          let cs : List Clock = joined a (is_given S.values) w.clocks in
          record {
            others = λ k b less differs. ap (λ (z : World). stage_at z k b) us ∙ settled_in now cs k b
                ∙ joined_old a b (is_given S.values) w.clocks k (inside b less);
            own = λ k. subst (λ t. GoesFrom (stage_at w k a) t)
                (sym (ap (λ (z : World). stage_at z k a) us ∙ settled_in now cs k a
                ∙ joined_old a a (is_given S.values) w.clocks k (inside a there)))
                (stays_there (stage_at w k a));
            child = λ k h. subst (λ t. IsGivenFrom (stage_at w k a) t)
                (sym (ap (λ (z : World). stage_at z k (length w.activities)) us ∙ settled_in now cs k (length w.activities)))
                (joined_new a (length w.activities) (is_given S.values) w.clocks k wide);
            phases = λ k. subst (λ (z : World). phase_of w k ≤ phase_of z k) (sym us) (joined_phase now a (is_given S.values) w.clocks k);
          }

-- ---- where one stands, by its stage

-- the phase in which activity a holds clock k
abbrev hold_of : Option Clock → ℕ → ℕ
hold_of o a = held_in (option_map_or (λ (c : Clock). c.phase) o 0) (option_map_or (λ (c : Clock). standing_of c a) o standing.Apart)

abbrev hold_in : List Clock → ℕ → ℕ → ℕ
hold_in cs k a = hold_of (slice_get cs k) a

-- one that is registered has its stage up to the phase that it holds the clock in
pub held_stage : (cs : List Clock) (k a : ℕ)
    → is_registered (option_map_or (λ (c : Clock). standing_of c a) (slice_get cs k) standing.Apart) ≡ true
    → (0 < stage_in cs k a) × (stage_in cs k a ≤ suc (suc (hold_in cs k a + hold_in cs k a)))
held_stage cs k a h = of (slice_get cs k) h
  where
    by : (p : ℕ) (s : Standing) → is_registered s ≡ true → (0 < stage_by p s) × (stage_by p s ≤ suc (suc (held_in p s + held_in p s)))
    by p standing.Apart g = absurd (true≢false (sym g))
    by p standing.Open g = (omega arith, omega arith)
    by p standing.Signalled g = (omega arith, omega arith)
    by p standing.Ahead g = (omega arith, omega arith)

    of : (o : Option Clock) → is_registered (option_map_or (λ (c : Clock). standing_of c a) o standing.Apart) ≡ true
        → (0 < option_map_or (λ (c : Clock). stage_of c a) o 0)
        × (option_map_or (λ (c : Clock). stage_of c a) o 0 ≤ suc (suc (hold_of o a + hold_of o a)))
    of None g = absurd (true≢false (sym g))
    of (Some c) g = by c.phase (standing_of c a) g

-- one that is registered and not signalled has its stage in this phase
pub pending_stage : (cs : List Clock) (k a : ℕ)
    → is_pending (option_map_or (λ (c : Clock). standing_of c a) (slice_get cs k) standing.Apart) ≡ true
    → suc (phase_in cs k + phase_in cs k) ≤ stage_in cs k a
pending_stage cs k a h = of (slice_get cs k) h
  where
    by : (p : ℕ) (s : Standing) → is_pending s ≡ true → suc (p + p) ≤ stage_by p s
    by p standing.Apart g = absurd (true≢false (sym g))
    by p standing.Open g = omega arith
    by p standing.Signalled g = absurd (true≢false (sym g))
    by p standing.Ahead g = omega arith

    of : (o : Option Clock) → is_pending (option_map_or (λ (c : Clock). standing_of c a) o standing.Apart) ≡ true
        → suc (option_map_or (λ (c : Clock). c.phase) o 0 + option_map_or (λ (c : Clock). c.phase) o 0) ≤ option_map_or
        (λ (c : Clock). stage_of c a) o 0
    of None g = absurd (true≢false (sym g))
    of (Some c) g = by c.phase (standing_of c a) g

-- whoever is registered has one in this phase or behind it
pub registered_stage : (cs : List Clock) (k a : ℕ) → 0 < stage_in cs k a → suc (phase_in cs k + phase_in cs k) ≤ stage_in cs k a
registered_stage cs k a h = of (slice_get cs k) h
  where
    by : (p : ℕ) (s : Standing) → 0 < stage_by p s → suc (p + p) ≤ stage_by p s
    by p standing.Apart g = absurd (omega arith)
    by p standing.Open g = omega arith
    by p standing.Signalled g = omega arith
    by p standing.Ahead g = omega arith

    of : (o : Option Clock) → 0 < option_map_or (λ (c : Clock). stage_of c a) o 0
        → suc (option_map_or (λ (c : Clock). c.phase) o 0 + option_map_or (λ (c : Clock). c.phase) o 0) ≤ option_map_or
        (λ (c : Clock). stage_of c a) o 0
    of None g = absurd (omega arith)
    of (Some c) g = by c.phase (standing_of c a) g

-- and who waits for no clock has none behind it
pub unsignalled_stage : (cs : List Clock) (k a : ℕ) → list_any (λ (c : Clock). is_signalled (standing_of c a)) cs ≡ false
    → stage_in cs k a ≤ suc (suc (phase_in cs k + phase_in cs k))
unsignalled_stage [] k a h = omega arith
unsignalled_stage (c ∷ cs) zero a h = by c.phase (standing_of c a)
    (or_parts (is_signalled (standing_of c a)) (list_any (λ (d : Clock). is_signalled (standing_of d a)) cs) h).0
  where
    by : (p : ℕ) (s : Standing) → is_signalled s ≡ false → stage_by p s ≤ suc (suc (p + p))
    by p standing.Apart g = omega arith
    by p standing.Open g = omega arith
    by p standing.Signalled g = absurd (true≢false g)
    by p standing.Ahead g = omega arith
unsignalled_stage (c ∷ cs) (suc k) a h =
    unsignalled_stage cs k a (or_parts (is_signalled (standing_of c a)) (list_any (λ (d : Clock). is_signalled (standing_of d a)) cs) h).1
