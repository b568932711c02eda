-- Worlds in step: by their numbers there all activities have come as far on all clocks. Steps of one activity from worlds that are the
-- same but for names and in step lead to such worlds, and so do two steps that commute, in either order.
use Rattle.std.proofs.Common.{◌≡◌, ℕ, ◌+◌, ◌<◌, ◌≤◌, inl, inr, Bool, true, false, cond, length, List, Option, Some, None, option_map, refl, sym, ap, ◌∙◌, subst, arith, eqb-true, eq-eqb}
use Rattle.std.specs.Prelude.{slice_get}
use Rattle.std.specs.Option.{option_map_or}
use Rattle.std.proofs.lemmas.Bool.{cases_lt}
use Rattle.std.proofs.lemmas.Option.{none-some, same_Some, slice_get_within}
use Rattle.xk_types.specs.declared.world.Standing.{Standing}
use Rattle.xk_types.specs.declared.world.Standing.TheVariants as standing
use Rattle.xk_types.specs.declared.world.Event.{Event}
use Rattle.xk_types.specs.Acceptance.{IsAccepted}
use Rattle.xk_types.specs.Code.{ModuleValue, IsWithinLimits}
use Rattle.xk_types.specs.World.{Clock, World, standing_of}
use Rattle.xk_types.specs.Step.{Stepped, step}
use Rattle.xk_types.specs.Schedule.{IsReached}
use Rattle.xk_law_schedules.proofs.ReachabilityLemmas.{reached_step}
use Rattle.xk_law_commute.proofs.AwaitIndependenceLemmas.{same_or_not}
use Rattle.xk_law_commute.proofs.ChangeSquareLemmas.{found_of}
use Rattle.xk_law_names.specs.Names.{Exchange, all_named, AreSameBy, exchange_of}
use Rattle.xk_law_names.proofs.NameLaw.{same_activities, named_beyond, named_inside, named_same, clocks_named}
use Rattle.xk_law_names.proofs.NamelessLemmas.{stands_same}
use Rattle.xk_law_names.proofs.ActivityNameRunLaw.{reached_full}
use Rattle.xk_law_traces.specs.Moments.{is_start}
use Rattle.xk_law_traces.specs.Classes.{DoCommute}
use Rattle.xk_law_traces.proofs.StepEventLemmas.{grown, wider}
use Rattle.xk_law_traces.proofs.StageLemmas.{stage_by, stage_of, stage_at, GoesFrom, IsGivenFrom, same_next, same_given, MovesOn, moves_on}
use Rattle.xk_law_traces.proofs.ExchangeLemmas.{stays_named, inside_first, inside_second, number_first, number_second, far}

-- whoever is in the one has come as far in the other, by the numbers there
abbrev pub AreInStep : List Exchange → World → World → Type 0
AreInStep xs w v = (k a : ℕ) → a < length w.activities → stage_at w k a ≡ stage_at v (clocks_named xs k) (all_named xs a)

-- ---- one stands alike, on each clock in its phase

record StandsAlike (o q : Option Clock) (a b : ℕ) : Type 0 where
  one : ℕ
  other : ℕ
  st : Standing
  this : option_map_or (λ (c : Clock). stage_of c a) o 0 ≡ stage_by one st
  that : option_map_or (λ (c : Clock). stage_of c b) q 0 ≡ stage_by other st

stands_alike : (o q : Option Clock) (a b : ℕ)
    → option_map (λ (c : Clock). standing_of c b) q ≡ option_map (λ (c : Clock). standing_of c a) o → StandsAlike o q a b
stands_alike None None a b h = record { one = 0; other = 0; st = standing.Apart; this = refl; that = refl }
stands_alike None (Some d) a b h = absurd (none-some (standing_of d b) (sym h))
stands_alike (Some c) None a b h = absurd (none-some (standing_of c a) h)
stands_alike (Some c) (Some d) a b h = record {
  one = c.phase;
  other = d.phase;
  st = standing_of c a;
  this = refl;
  that = ap (stage_by d.phase) (same_Some (standing_of d b) (standing_of c a) h);
}

-- two numbers that aren't one aren't one there
named_apart : (xs : List Exchange) (a b : ℕ) → (b ≡ a → ⊥) → all_named xs b ≡ all_named xs a → ⊥
named_apart xs a b differs e = differs (eqb-true b a (sym (named_same xs b a) ∙ eq-eqb (all_named xs b) (all_named xs a) e))

module _ (m : ModuleValue) (limits : IsWithinLimits m) (ok : IsAccepted m) where
  -- so those that came there from one stage have come as far
  module _ (xs : List Exchange) (w v : World) (k a s : ℕ) (reached : IsReached m w) (same : AreSameBy xs w v) where
    alike : StandsAlike (slice_get w.clocks k) (slice_get v.clocks (clocks_named xs k)) a (all_named xs a)
    alike = stands_alike (slice_get w.clocks k) (slice_get v.clocks (clocks_named xs k)) a (all_named xs a)
        (stands_same m xs w v k a (reached_full m w limits ok reached) same)

    next_same : GoesFrom s (stage_at w k a) → GoesFrom s (stage_at v (clocks_named xs k) (all_named xs a))
        → stage_at w k a ≡ stage_at v (clocks_named xs k) (all_named xs a)
    next_same h g =
        alike.this ∙ same_next s alike.one alike.other alike.st (subst (GoesFrom s) alike.this h) (subst (GoesFrom s) alike.that g)
        ∙ sym alike.that

    given_same : IsGivenFrom s (stage_at w k a)
        → IsGivenFrom s (stage_at v (clocks_named xs k) (all_named xs a)) → stage_at w k a ≡ stage_at v (clocks_named xs k) (all_named xs a)
    given_same h g =
        alike.this ∙ same_given s alike.one alike.other alike.st (subst (IsGivenFrom s) alike.this h) (subst (IsGivenFrom s) alike.that g)
        ∙ sym alike.that

  -- who is there behind a step was there, or was started
  newcomer : (w u : World) (a : ℕ) (e : Event) → step m w a ≡ Stepped u e → (b : ℕ) → length w.activities ≤ b → b < length u.activities
      → (is_start e ≡ true) × (b ≡ length w.activities)
  newcomer w u a e h b least less = by (is_start e) (grown m w u a e h)
    where
      by : (q : Bool) → length u.activities ≡ length w.activities + cond q 1 0 → (q ≡ true) × (b ≡ length w.activities)
      by true n = (refl, omega arith)
      by false n = absurd (omega arith)

  -- ---- the same step

  pub steps_in_step : (xs : List Exchange) (w v u z : World) (a : ℕ) (e : Event) → IsReached m w → IsReached m v → AreSameBy xs w v
      → AreInStep xs w v
      → step m w a ≡ Stepped u e → step m v (all_named xs a) ≡ Stepped z e → AreSameBy xs u z → AreInStep xs u z
  steps_in_step xs w v u z a e here there same step_same hu hz after k b less = elim (same_or_not b a) [
    | inl is ↦ subst (λ d. stage_at u k d ≡ stage_at z (clocks_named xs k) (all_named xs d)) (sym is) own
    | inr differs ↦ elim (cases_lt b (length w.activities)) [
      | inl old ↦
          one.others k b old differs ∙ step_same k b old
          ∙ sym (other.others (clocks_named xs k) (all_named xs b) (named_inside xs w v b same old) (named_apart xs a b differs))
      | inr new ↦
          let r = newcomer w u a e hu b new less in
          subst (λ d. stage_at u k d ≡ stage_at z (clocks_named xs k) (all_named xs d)) (sym r.1) (child r.0)
    ]
  ]
    where
      one : MovesOn w u a e
      one = moves_on m limits ok w u a e here hu

      other : MovesOn v z (all_named xs a) e
      other = moves_on m limits ok v z (all_named xs a) e there hz

      next : IsReached m u
      next = reached_step m w u a e here hu

      inside : a < length w.activities
      inside = let x = found_of m w a u e hu in slice_get_within w.activities a x.0 x.1

      many : length v.activities ≡ all_named xs (length w.activities)
      many = sym (same_activities xs w v same) ∙ sym (named_beyond xs w (length w.activities) same.there (omega arith))

      own : stage_at u k a ≡ stage_at z (clocks_named xs k) (all_named xs a)
      own = next_same xs u z k a (stage_at w k a) next after (one.own k)
          (subst (λ s. GoesFrom s (stage_at z (clocks_named xs k) (all_named xs a))) (sym (step_same k a inside))
          (other.own (clocks_named xs k)))

      child : is_start e ≡ true → stage_at u k (length w.activities) ≡ stage_at z (clocks_named xs k) (all_named xs (length w.activities))
      child h = given_same xs u z k (length w.activities) (stage_at w k a) next after (one.child k h)
          (subst (λ d. IsGivenFrom (stage_at w k a) (stage_at z (clocks_named xs k) d)) many
          (subst (λ s. IsGivenFrom s (stage_at z (clocks_named xs k) (length v.activities))) (sym (step_same k a inside))
          (other.child (clocks_named xs k) h)))

  -- ---- two steps, in either order

  module _ (w x y : World) (a b : ℕ) (c : DoCommute m w a b) (reached : IsReached m w)
      (hx : step m c.second_world a ≡ Stepped x c.first_event)
      (hy : step m c.first_world b ≡ Stepped y c.second_event) (same : AreSameBy (exchange_of m w a b) y x) where
    abbrev xs : List Exchange
    xs = exchange_of m w a b

    abbrev u : World
    u = c.first_world

    abbrev v : World
    v = c.second_world

    turned : a ≡ b → ⊥
    turned h = c.differ (sym h)

    first : a < length w.activities
    first = inside_first m limits ok w a b c reached

    second : b < length w.activities
    second = inside_second m limits ok w a b c reached

    reached_u : IsReached m u
    reached_u = reached_step m w u a c.first_event reached c.first_steps

    reached_y : IsReached m y
    reached_y = reached_step m u y b c.second_event reached_u hy

    to_u : MovesOn w u a c.first_event
    to_u = moves_on m limits ok w u a c.first_event reached c.first_steps

    to_v : MovesOn w v b c.second_event
    to_v = moves_on m limits ok w v b c.second_event reached c.second_steps

    to_x : MovesOn v x a c.first_event
    to_x = moves_on m limits ok v x a c.first_event (reached_step m w v b c.second_event reached c.second_steps) hx

    to_y : MovesOn u y b c.second_event
    to_y = moves_on m limits ok u y b c.second_event reached_u hy

    wide_u : length w.activities ≤ length u.activities
    wide_u = wider m w u a c.first_event c.first_steps

    wide_v : length w.activities ≤ length v.activities
    wide_v = wider m w v b c.second_event c.second_steps

    there : (k d : ℕ) → stage_at w (clocks_named xs k) d ≡ stage_at w k d
    there k d = far m limits ok w a b c reached w (omega arith) k d

    stays : (d : ℕ) → d < length w.activities → all_named xs d ≡ d
    stays d h = stays_named m limits ok w a b c reached d h

    -- of one that was there
    as_far : (k d : ℕ) → d < length w.activities → stage_at y k d ≡ stage_at x (clocks_named xs k) d
        → stage_at y k d ≡ stage_at x (clocks_named xs k) (all_named xs d)
    as_far k d h g = g ∙ ap (stage_at x (clocks_named xs k)) (sym (stays d h))

    own_first : (k : ℕ) → stage_at y k a ≡ stage_at x (clocks_named xs k) (all_named xs a)
    own_first k = next_same xs y x k a (stage_at w k a) reached_y same
        (subst (GoesFrom (stage_at w k a)) (sym (to_y.others k a (omega (arith, first, wide_u)) turned)) (to_u.own k))
        (subst (λ d. GoesFrom (stage_at w k a) (stage_at x (clocks_named xs k) d)) (sym (stays a first))
        (subst (λ s. GoesFrom s (stage_at x (clocks_named xs k) a)) (to_v.others (clocks_named xs k) a first turned ∙ there k a)
        (to_x.own (clocks_named xs k))))

    own_second : (k : ℕ) → stage_at y k b ≡ stage_at x (clocks_named xs k) (all_named xs b)
    own_second k = next_same xs y x k b (stage_at w k b) reached_y same
        (subst (λ s. GoesFrom s (stage_at y k b)) (to_u.others k b second c.differ) (to_y.own k))
        (subst (λ d. GoesFrom (stage_at w k b) (stage_at x (clocks_named xs k) d)) (sym (stays b second))
        (subst (GoesFrom (stage_at w k b)) (sym (to_x.others (clocks_named xs k) b (omega (arith, second, wide_v)) c.differ))
        (subst (λ s. GoesFrom s (stage_at v (clocks_named xs k) b)) (there k b) (to_v.own (clocks_named xs k)))))

    others : (k d : ℕ) → d < length w.activities → (d ≡ a → ⊥) → (d ≡ b → ⊥)
        → stage_at y k d ≡ stage_at x (clocks_named xs k) (all_named xs d)
    others k d less no_first no_second = as_far k d less
        (to_y.others k d (omega (arith, less, wide_u)) no_second ∙ to_u.others k d less no_first
        ∙ sym (to_x.others (clocks_named xs k) d (omega (arith, less, wide_v)) no_first
        ∙ to_v.others (clocks_named xs k) d less no_second ∙ there k d))

    child_first : (k : ℕ) → is_start c.first_event ≡ true
        → stage_at y k (length w.activities) ≡ stage_at x (clocks_named xs k) (all_named xs (length w.activities))
    child_first k h =
        let more : length u.activities ≡ length w.activities + 1 = grown m w u a c.first_event c.first_steps
        ∙ ap (λ q. length w.activities + cond q 1 0) h in
        let new : length w.activities ≡ b → ⊥ = λ is. omega (arith, second, is) in
        given_same xs y x k (length w.activities) (stage_at w k a) reached_y same
        (subst (IsGivenFrom (stage_at w k a)) (sym (to_y.others k (length w.activities) (omega arith) new)) (to_u.child k h))
        (subst (λ d. IsGivenFrom (stage_at w k a) (stage_at x (clocks_named xs k) d)) (number_first m limits ok w a b c reached h)
        (subst (λ s. IsGivenFrom s (stage_at x (clocks_named xs k) (length v.activities)))
        (to_v.others (clocks_named xs k) a first turned ∙ there k a)
        (to_x.child (clocks_named xs k) h)))

    child_second : (k : ℕ) → is_start c.second_event ≡ true
        → stage_at y k (length u.activities) ≡ stage_at x (clocks_named xs k) (all_named xs (length u.activities))
    child_second k h =
        let more : length v.activities ≡ length w.activities + 1 = grown m w v b c.second_event c.second_steps
        ∙ ap (λ q. length w.activities + cond q 1 0) h in
        let new : length w.activities ≡ a → ⊥ = λ is. omega (arith, first, is) in
        given_same xs y x k (length u.activities) (stage_at w k b) reached_y same
        (subst (λ s. IsGivenFrom s (stage_at y k (length u.activities))) (to_u.others k b second c.differ) (to_y.child k h))
        (subst (λ d. IsGivenFrom (stage_at w k b) (stage_at x (clocks_named xs k) d)) (number_second m limits ok w a b c reached h)
        (subst (IsGivenFrom (stage_at w k b)) (sym (to_x.others (clocks_named xs k) (length w.activities) (omega arith) new))
        (subst (λ s. IsGivenFrom s (stage_at v (clocks_named xs k) (length w.activities))) (there k b) (to_v.child (clocks_named xs k) h))))

    pub square_in_step : AreInStep xs y x
    square_in_step k d less = elim (cases_lt d (length w.activities)) [
      | inl old ↦ elim (same_or_not d a) [
        | inl is ↦ subst (λ j. stage_at y k j ≡ stage_at x (clocks_named xs k) (all_named xs j)) (sym is) (own_first k)
        | inr no_first ↦ elim (same_or_not d b) [
          | inl is ↦ subst (λ j. stage_at y k j ≡ stage_at x (clocks_named xs k) (all_named xs j)) (sym is) (own_second k)
          | inr no_second ↦ others k d old no_first no_second
        ]
      ]
      | inr new ↦ elim (cases_lt d (length u.activities)) [
        | inl now ↦
            let r = newcomer w u a c.first_event c.first_steps d new now in
            subst (λ j. stage_at y k j ≡ stage_at x (clocks_named xs k) (all_named xs j)) (sym r.1) (child_first k r.0)
        | inr later ↦
            let r = newcomer u y b c.second_event hy d later less in
            subst (λ j. stage_at y k j ≡ stage_at x (clocks_named xs k) (all_named xs j)) (sym r.1) (child_second k r.0)
      ]
    ]
