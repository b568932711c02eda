-- Worlds that are alike by rank: activities of one rank have private steps in both or in neither, and go on alike.
use Rattle.std.proofs.Common.{◌≡◌, ◌∙◌, ℕ, ℤ, zero, suc, ◌<◌, ◌≤◌, ◌⊎◌, inl, inr, Bool, true, false, true≢false, ◌&&◌, List}
use Rattle.std.proofs.Common.{[], ◌∷◌, ◌++◌, length, Option, Some, None, refl, sym, ap, subst, append_assoc, arith}
use Rattle.std.specs.Option.{option_map_or, option_to_list}
use Rattle.std.proofs.lemmas.List.{append-nil}
use Rattle.std.proofs.lemmas.Option.{none-some, same_Some, slice_get_within}
use Rattle.xk_types.specs.declared.world.Event.{Event}
use Rattle.xk_types.specs.Acceptance.{IsAccepted}
use Rattle.xk_types.specs.Bound.{steps_bound}
use Rattle.xk_types.specs.Code.{ModuleValue, IsWithinLimits}
use Rattle.xk_types.specs.World.{World}
use Rattle.xk_types.specs.Step.{Outcome, Blocked, Wrong, Stepped, step}
use Rattle.xk_types.specs.Schedule.{all_ended, is_enabled, is_step, number_printed}
use Rattle.xk_law_schedules.proofs.ReachabilityLemmas.{reached_step}
use Rattle.xk_law_commute.specs.Conflicts.{next_instruction}
use Rattle.xk_law_commute.proofs.ChangeSquareLemmas.{found_of, same_step}
use Rattle.xk_law_commute.proofs.QuietStepLaw.{enabled_step}
use Rattle.xk_law_commute.proofs.StartSquareLemmas.{alive_of}
use Rattle.xk_ranks.specs.Reads.{Counting, IsCounting}
use Rattle.xk_closed.specs.Futures.{is_private}
use Rattle.xk_core.specs.Core.{CoreValue}
use Rattle.xk_ranks.specs.Ranks.{HaveOneRank, StandAlike, going, rank}
use Rattle.xk_ranks.specs.Reads.{AreReachedByReads}
use Rattle.xk_ranks.proofs.RankLaw.{one_number, one_turned}
use Rattle.xk_ranks.proofs.ReadLaw.{go_by_reads, stand_by_reads}
use Rattle.xk_ranks.proofs.RankListLemmas.{IsMarked, rank_less}
use Rattle.xk_ranks.proofs.RankStepLaw.{marked_alive}
use Rattle.xk_rank_digests.proofs.NumberLemmas.{going_length, number_here, number_rank}
use Rattle.xk_outcomes.specs.PrivateSteps.{has_private_step}
use Rattle.xk_outcomes.specs.Found.{FoundValue, act_of, at_rest, least, least_private, next, next_by_rank, one_more, or_this, settled}
use Rattle.xk_outcomes.specs.Found.{through, with_outcome, with_step}
use Rattle.xk_outcomes.specs.Ways.{CanGo}
use Rattle.xk_outcomes.proofs.FoundLemmas.{least_passes}
use Rattle.xk_outcomes.proofs.PrivateStepLemmas.{private_enabled}
use Rattle.xk_outcomes.proofs.RestLemmas.{none_passes}

-- ---- ranks

-- who can take a step is there, and hasn't ended
pub enabled_there : (m : ModuleValue) (w : World) (a : ℕ) → is_enabled m w a ≡ true
    → (a < length w.activities) × IsMarked (going w.activities) a
enabled_there m w a enabled =
    let u = enabled_step (step m w a) enabled in
    let x = found_of m w a u.0 u.1 u.2 in
    (slice_get_within w.activities a x.0 x.1, marked_alive w.activities a x.0 x.1 (alive_of m w a x.0 u.0 u.1 x.1 u.2))

-- so it is the one of its rank
pub act_again : (m : ModuleValue) (w : World) (a : ℕ) → is_enabled m w a ≡ true → act_of w (rank (going w.activities) a) ≡ a
act_again m w a enabled =
    number_here (going w.activities) a (rank (going w.activities) a) (record { marked = (enabled_there m w a enabled).1; ranks = refl })

-- and so are those who have it in two worlds
abbrev AreOne : World → Option ℕ → World → Option ℕ → Type 0
AreOne w None v None = Unit {0}
AreOne w None v (Some b) = ⊥
AreOne w (Some a) v None = ⊥
AreOne w (Some a) v (Some b) = HaveOneRank w a v b

-- what stands before the least that passes doesn't
least_first : (passes : ℕ → Bool) (n a : ℕ) → least passes n ≡ Some a → least passes a ≡ None
least_first passes zero a h = absurd (none-some a h)
least_first passes (suc n) a h = by (least_first passes n a) (least passes n) (passes n) refl h
  where
    by : (least passes n ≡ Some a → least passes a ≡ None) → (o : Option ℕ) (b : Bool) → least passes n ≡ o → or_this o b n ≡ Some a
        → least passes a ≡ None
    by before (Some c) b e g = before (e ∙ g)
    by before None true e g = subst (λ k. least passes k ≡ None) (same_Some n a g) e
    by before None false e g = absurd (none-some a g)

-- what is alike goes on alike, with all that is said here of it
module _ (m : ModuleValue) (limits : IsWithinLimits m) (ok : IsAccepted m) (counts : Counting) (counting : IsCounting m counts) where
  -- ---- steps

  abbrev Alike : World → World → Type 0
  Alike w v = AreReachedByReads m counts w v

  turned : (w v : World) → Alike w v → Alike v w
  turned w v same = record { first = same.second; second = same.first; alike = sym same.alike }

  go_alike : (w v u : World) (a : ℕ) (e : Event) → Alike w v → step m w a ≡ Stepped u e
      → (b : ℕ) × (z : World) × HaveOneRank w a v b × (step m v b ≡ Stepped z e) × Alike u z
  go_alike w v u a e same h =
      let t = (go_by_reads m limits ok counts counting w v same.first same.second same.alike).steps u a e h in (
        t.0,
        t.1,
        t.2,
        t.3,
        record { first = reached_step m w u a e same.first h; second = reached_step m v t.1 t.0 e same.second t.3; alike = t.4 },
      )

  pub ends_alike : (w v : World) → Alike w v → all_ended w ≡ all_ended v
  ends_alike w v same = (go_by_reads m limits ok counts counting w v same.first same.second same.alike).ends

  stand_alike : (w v : World) (a b : ℕ) → Alike w v → HaveOneRank w a v b → StandAlike m w a v b
  stand_alike w v a b same one = stand_by_reads m limits ok counts counting w v same.first same.second same.alike a b one

  -- who has a rank at which a step can be taken there has it here
  one_of_rank : (w v : World) (r : ℕ) → Alike w v → is_enabled m w (act_of w r) ≡ true → HaveOneRank w (act_of w r) v (act_of v r)
  one_of_rank w v r same enabled =
      let a : ℕ = act_of w r in
      let u = enabled_step (step m w a) enabled in
      let t = go_alike w v u.0 a u.1 same u.2 in
      let has : rank (going v.activities) t.0 ≡ r = sym t.2.same ∙ number_rank (going w.activities) r t.2.first in
      let is : act_of v r ≡ t.0 = number_here (going v.activities) t.0 r (record { marked = t.2.second; ranks = has }) in
      subst (HaveOneRank w a v) (sym is) t.2

  enabled_alike : (w v : World) (a b : ℕ) → Alike w v → HaveOneRank w a v b → is_enabled m w a ≡ is_enabled m v b
  enabled_alike w v a b same one = (stand_alike w v a b same one).enabled

  -- ---- who has a private step

  private_alike : (w v : World) (a b : ℕ) → Alike w v → HaveOneRank w a v b → has_private_step m w a ≡ has_private_step m v b
  private_alike w v a b same one =
      let s = stand_alike w v a b same one in
      ap (λ q. q && option_map_or is_private (next_instruction m w a) true) s.enabled
      ∙ ap (λ o. is_enabled m v b && option_map_or is_private o true) s.instruction

  private_there : (w v : World) (a : ℕ) → Alike w v → has_private_step m w a ≡ true
      → (b : ℕ) × HaveOneRank w a v b × (has_private_step m v b ≡ true)
  private_there w v a same private =
      let u = enabled_step (step m w a) (private_enabled m w a private) in
      let t = go_alike w v u.0 a u.1 same u.2 in
      (t.0, t.2, sym (private_alike w v a t.0 same t.2) ∙ private)

  -- the least that has one has no greater rank than any that has one in a world that is alike
  least_rank : (w v : World) (a c : ℕ) → Alike w v → least (has_private_step m w) a ≡ None → has_private_step m w a ≡ true
      → has_private_step m v c ≡ true
      → rank (going w.activities) a ≤ rank (going v.activities) c
  least_rank w v a c same first mine theirs =
      let b = private_there v w c (turned w v same) theirs in
      let inside = (enabled_there m w b.0 (private_enabled m w b.0 b.2)).0 in
      let long = going_length w.activities in
      let is : rank (going v.activities) c ≡ rank (going w.activities) b.0 = b.1.same in
      by b.0 b.2 is (omega (arith, inside, long)) (split a b.0)
    where
      split : (i j : ℕ) → (j < i) ⊎ ((i ≡ j) ⊎ (i < j))
      split i j = grind arith

      at : IsMarked (going w.activities) a
      at = (enabled_there m w a (private_enabled m w a mine)).1

      by : (b : ℕ) → has_private_step m w b ≡ true → rank (going v.activities) c ≡ rank (going w.activities) b
          → b ≤ length (going w.activities)
          → (b < a) ⊎ ((a ≡ b) ⊎ (a < b)) → rank (going w.activities) a ≤ rank (going v.activities) c
      by b has is within (inl before) = absurd (true≢false (sym has ∙ none_passes (has_private_step m w) a first b before))
      by b has is within (inr (inl here)) =
          let ranks : rank (going w.activities) a ≡ rank (going w.activities) b =
          ap (rank (going w.activities)) here in omega (arith, is, ranks)
      by b has is within (inr (inr behind)) = let less = rank_less (going w.activities) a b at behind within in omega (arith, is, less)

  -- the least has one rank in both, if there is one
  least_one : (w v : World) → Alike w v
      → AreOne w (least (has_private_step m w) (length w.activities)) v (least (has_private_step m v) (length v.activities))
  least_one w v same = by (least (has_private_step m w) (length w.activities))
      (least (has_private_step m v) (length v.activities)) refl refl
    where
      -- where somebody has one there, somebody has one here
      someone : (x y : World) (a : ℕ) → Alike x y → has_private_step m x a ≡ true
          → least (has_private_step m y) (length y.activities) ≡ None → ⊥
      someone x y a alike has none =
          let b = private_there x y a alike has in
          let inside = (enabled_there m y b.0 (private_enabled m y b.0 b.2)).0 in
          true≢false (sym b.2 ∙ none_passes (has_private_step m y) (length y.activities) none b.0 inside)

      by : (o p : Option ℕ) → least (has_private_step m w) (length w.activities) ≡ o
          → least (has_private_step m v) (length v.activities) ≡ p
          → AreOne w o v p
      by None None f g = tt
      by None (Some b) f g = someone v w b (turned w v same) (least_passes (has_private_step m v) (length v.activities) b g) f
      by (Some a) None f g = someone w v a same (least_passes (has_private_step m w) (length w.activities) a f) g
      by (Some a) (Some b) f g =
          let mine = least_passes (has_private_step m w) (length w.activities) a f in
          let theirs = least_passes (has_private_step m v) (length v.activities) b g in
          let up = least_rank w v a b same (least_first (has_private_step m w) (length w.activities) a f) mine theirs in
          let down = least_rank v w b a (turned w v same) (least_first (has_private_step m v) (length v.activities) b g) theirs mine in
          record {
            first = (enabled_there m w a (private_enabled m w a mine)).1;
            second = (enabled_there m v b (private_enabled m v b theirs)).1;
            same = omega (arith, up, down);
          }

  least_alike : (x y : CoreValue) → x.module_run ≡ m → y.module_run ≡ m → Alike x.world y.world
      → AreOne x.world (least_private x) y.world (least_private y)
  least_alike x y mx my same =
      subst (λ k. AreOne x.world (least (has_private_step k x.world) (length x.world.activities)) y.world (least_private y)) (sym mx)
      (subst (λ k. AreOne x.world (least (has_private_step m x.world) (length x.world.activities)) y.world
      (least (has_private_step k y.world) (length y.world.activities))) (sym my) (least_one x.world y.world same))

  -- ---- those that were found there

  -- One goes on to z and the other to t: to worlds that are alike, and the same was printed on the way.
  pub record GoAlike (x y z t : FoundValue) : Type 0 where
    pub first_module : z.core.module_run ≡ m
    pub second_module : t.core.module_run ≡ m
    pub alike : Alike z.core.world t.core.world
    pub more : List ℤ
    pub first_prints : z.printed ≡ x.printed ++ more
    pub second_prints : t.printed ≡ y.printed ++ more

  -- neither goes on
  stay : (x y : FoundValue) → x.core.module_run ≡ m → y.core.module_run ≡ m → Alike x.core.world y.core.world
      → GoAlike x y x y
  stay x y mx my same = record {
    first_module = mx;
    second_module = my;
    alike = same;
    more = [];
    first_prints = sym (append-nil x.printed);
    second_prints = sym (append-nil y.printed);
  }

  joined : (x y z t p q : FoundValue) → GoAlike x y z t → GoAlike z t p q → GoAlike x y p q
  joined x y z t p q g h = record {
    first_module = h.first_module;
    second_module = h.second_module;
    alike = h.alike;
    more = g.more ++ h.more;
    first_prints = h.first_prints ∙ ap (λ ns. ns ++ h.more) g.first_prints ∙ append_assoc x.printed g.more h.more;
    second_prints = h.second_prints ∙ ap (λ ns. ns ++ h.more) g.second_prints ∙ append_assoc y.printed g.more h.more;
  }

  one_alike : (x y : FoundValue) (a b : ℕ) → x.core.module_run ≡ m → y.core.module_run ≡ m
      → Alike x.core.world y.core.world → HaveOneRank x.core.world a y.core.world b
      → GoAlike x y (one_more a x) (one_more b y)
  one_alike x y a b mx my same one = subst (λ (z : FoundValue). GoAlike x y z (one_more b y)) (sym (of x a mx))
      (subst (λ (t : FoundValue). GoAlike x y (with_outcome x a (step m x.core.world a)) t) (sym (of y b my))
      (by (step m x.core.world a) (step m y.core.world b) refl refl))
    where
      of : (z : FoundValue) (c : ℕ) → z.core.module_run ≡ m → one_more c z ≡ with_outcome z c (step m z.core.world c)
      of z c is = ap (λ k. with_outcome z c (step k z.core.world c)) is

      both : (o p : Outcome) → step m x.core.world a ≡ o → step m y.core.world b ≡ p → is_step o ≡ is_step p
      both o p f g = sym (ap is_step f) ∙ enabled_alike x.core.world y.core.world a b same one ∙ ap is_step g

      by : (o p : Outcome) → step m x.core.world a ≡ o → step m y.core.world b ≡ p → GoAlike x y (with_outcome x a o) (with_outcome y b p)
      by (Stepped u e) (Stepped v f) g h =
          let next = go_alike x.core.world y.core.world u a e same g in
          let number : next.0 ≡ b = one_number x.core.world y.core.world a next.0 b next.2 one in
          let is : (next.1 ≡ v) × (e ≡ f) = same_step next.1 v e f (sym next.3 ∙ ap (step m y.core.world) number ∙ h) in
          record {
            first_module = mx;
            second_module = my;
            alike = subst (Alike u) is.0 next.4;
            more = option_to_list (number_printed e);
            first_prints = refl;
            second_prints = ap (λ d. y.printed ++ option_to_list (number_printed d)) (sym is.1);
          }
      by (Stepped u e) Blocked g h = absurd (true≢false (both (Stepped u e) Blocked g h))
      by (Stepped u e) (Wrong c) g h = absurd (true≢false (both (Stepped u e) (Wrong c) g h))
      by Blocked (Stepped v f) g h = absurd (true≢false (sym (both Blocked (Stepped v f) g h)))
      by (Wrong c) (Stepped v f) g h = absurd (true≢false (sym (both (Wrong c) (Stepped v f) g h)))
      by Blocked Blocked g h = stay x y mx my same
      by Blocked (Wrong c) g h = stay x y mx my same
      by (Wrong c) Blocked g h = stay x y mx my same
      by (Wrong c) (Wrong d) g h = stay x y mx my same

  with_step_alike : (x y : FoundValue) (o p : Option ℕ) → x.core.module_run ≡ m → y.core.module_run ≡ m
      → Alike x.core.world y.core.world → AreOne x.core.world o y.core.world p
      → GoAlike x y (with_step x o) (with_step y p)
  with_step_alike x y None None mx my same one = stay x y mx my same
  with_step_alike x y None (Some b) mx my same one = absurd one
  with_step_alike x y (Some a) None mx my same one = absurd one
  with_step_alike x y (Some a) (Some b) mx my same one = one_alike x y a b mx my same one

  settled_alike : (x y : FoundValue) (n : ℕ) → x.core.module_run ≡ m → y.core.module_run ≡ m
      → Alike x.core.world y.core.world
      → GoAlike x y (settled n x) (settled n y)
  settled_alike x y zero mx my same = stay x y mx my same
  settled_alike x y (suc n) mx my same =
      let z = settled n x in
      let t = settled n y in
      let g = settled_alike x y n mx my same in
      joined x y z t (with_step z (least_private z.core)) (with_step t (least_private t.core)) g
      (with_step_alike z t (least_private z.core) (least_private t.core) g.first_module g.second_module g.alike
      (least_alike z.core t.core g.first_module g.second_module g.alike))

  rest_alike : (x y : FoundValue) → x.core.module_run ≡ m → y.core.module_run ≡ m → Alike x.core.world y.core.world
      → GoAlike x y (at_rest x) (at_rest y)
  rest_alike x y mx my same =
      subst (λ n. GoAlike x y (at_rest x) (settled n y)) (ap steps_bound (mx
      ∙ sym my)) (settled_alike x y (steps_bound x.core.module_run) mx my same)

  -- a step of the activity of a rank more, if it can take one there, and private steps behind it
  next_goes_alike : (x y : FoundValue) (r : ℕ) → x.core.module_run ≡ m → y.core.module_run ≡ m
      → Alike x.core.world y.core.world → HaveOneRank x.core.world (act_of x.core.world r) y.core.world (act_of y.core.world r)
      → GoAlike x y (next_by_rank r x) (next_by_rank r y)
  next_goes_alike x y r mx my same one =
      let a : ℕ = act_of x.core.world r in
      let b : ℕ = act_of y.core.world r in
      let g = one_alike x y a b mx my same one in
      joined x y (one_more a x) (one_more b y) (next a x) (next b y) g
      (rest_alike (one_more a x) (one_more b y) g.first_module g.second_module g.alike)

  -- so it is along a way, and who can go it from the one can from the other
  pub through_alike : (way : List ℕ) (x y : FoundValue) → x.core.module_run ≡ m → y.core.module_run ≡ m
      → Alike x.core.world y.core.world → CanGo m y way → GoAlike x y (through way x) (through way y) × CanGo m x way
  through_alike [] x y mx my same goes = (stay x y mx my same, tt)
  through_alike (r ∷ way) x y mx my same goes =
      let a : ℕ = act_of x.core.world r in
      let b : ℕ = act_of y.core.world r in
      let one : HaveOneRank x.core.world a y.core.world b =
      one_turned y.core.world x.core.world b a
      (one_of_rank y.core.world x.core.world r (turned x.core.world y.core.world same) goes.0) in
      let enabled = enabled_alike x.core.world y.core.world a b same one ∙ goes.0 in
      let g = next_goes_alike x y r mx my same one in
      let rest = through_alike way (next_by_rank r x) (next_by_rank r y) g.first_module g.second_module g.alike goes.1 in (
        joined x y (next_by_rank r x) (next_by_rank r y) (through way (next_by_rank r x)) (through way (next_by_rank r y)) g rest.0,
        (enabled, rest.1),
      )
