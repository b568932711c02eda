-- What the other order of two steps that commute exchanges: the numbers of what both make, or start.
use Rattle.std.proofs.Common.{◌≡◌, ℕ, suc, zero, ◌+◌, ◌<◌, ◌≤◌, ◌&&◌, ◌⊎◌, inl, inr, Bool, true, false, true≢false, cond, List, [], ◌∷◌, length, Some, None, Option, refl, sym, ap, ◌∙◌, arith}
use Rattle.std.specs.Option.{option_map_or}
use Rattle.std.proofs.lemmas.Bool.{and_parts}
use Rattle.std.proofs.lemmas.Option.{slice_get_within}
use Rattle.xk_types.specs.declared.instr.Instr.{Instr}
use Rattle.xk_types.specs.declared.instr.Instr.TheVariants as instr
use Rattle.xk_types.specs.Acceptance.{IsAccepted}
use Rattle.xk_types.specs.Code.{ModuleValue, IsWithinLimits}
use Rattle.xk_types.specs.World.{Clock, World}
use Rattle.xk_types.specs.Step.{Stepped}
use Rattle.xk_types.specs.Schedule.{IsReached}
use Rattle.xk_law_commute.specs.Conflicts.{next_instruction}
use Rattle.xk_law_commute.specs.Squares.{makes, starts, makes_next, starts_next}
use Rattle.xk_law_commute.proofs.ChangeSquareLemmas.{found_of}
use Rattle.xk_law_names.specs.ActivityNames.{renamed}
use Rattle.xk_law_names.specs.Names.{Exchange, OfClocks, OfActivities, all_named, exchange_of}
use Rattle.xk_law_names.proofs.NameLaw.{clocks_named, clocks_unnamed}
use Rattle.xk_law_names.proofs.ActivityNameListLemmas.{renamed_below}
use Rattle.xk_law_names.proofs.ClockNameListLemmas.{renamed_first, renamed_second}
use Rattle.xk_law_names.proofs.StartEventLemmas.{event_started, start_says}
use Rattle.xk_law_traces.specs.Moments.{is_start}
use Rattle.xk_law_traces.specs.Classes.{DoCommute}
use Rattle.xk_law_traces.proofs.StepEventLemmas.{start_is, grown}
use Rattle.xk_law_traces.proofs.StageLemmas.{stage_in, stage_at}

-- on clocks that aren't there yet all are apart, by each number
far_one : (n : ℕ) (cs : List Clock) → length cs ≤ n → (k d : ℕ) → stage_in cs (renamed n k) d ≡ stage_in cs k d
far_one n [] h k d = refl
far_one zero (c ∷ cs) h k d = absurd (omega arith)
far_one (suc n) (c ∷ cs) h zero d = refl
far_one (suc n) (c ∷ cs) h (suc k) d = far_one n cs (omega arith) k d

module _ (m : ModuleValue) (limits : IsWithinLimits m) (ok : IsAccepted m) where
  -- ---- what the other order exchanges

  -- no instruction does both
  not_both : (o : Option Instr) → option_map_or makes o false ≡ true → option_map_or starts o false ≡ true → ⊥
  not_both (Some (instr.Make d)) h g = true≢false (sym g)
  not_both None h g = true≢false (sym h)
  not_both (Some _) h g = true≢false (sym h)

  module _ (w : World) (a b : ℕ) (c : DoCommute m w a b) (reached : IsReached m w) where
    abbrev xs : List Exchange
    xs = exchange_of m w a b

    -- both start an activity, and these exchange their numbers; or not both do, and all keep theirs
    abbrev Exchanges : List Exchange → Type 0
    Exchanges ys = ((is_start c.first_event ≡ true) × (is_start c.second_event ≡ true) × (ys ≡ OfActivities (length w.activities) ∷ []))
        ⊎ ((is_start c.first_event ≡ true → is_start c.second_event ≡ true → ⊥) × ((j : ℕ) → all_named ys j ≡ j))

    says_first : is_start c.first_event ≡ true → starts_next m w a ≡ true
    says_first h = start_says m w c.first_world a (c.first_steps ∙ ap (Stepped c.first_world) (start_is c.first_event h))

    says_second : is_start c.second_event ≡ true → starts_next m w b ≡ true
    says_second h = start_says m w c.second_world b (c.second_steps ∙ ap (Stepped c.second_world) (start_is c.second_event h))

    exchanges : Exchanges xs
    exchanges = by (makes_next m w a && makes_next m w b) (starts_next m w a && starts_next m w b) refl refl
      where
        none : (p q : Bool) → (p && q) ≡ false → p ≡ true → q ≡ true → ⊥
        none true q h g k = true≢false (sym k ∙ h)
        none false q h g k = true≢false (sym g)

        by : (x y : Bool) → (makes_next m w a && makes_next m w b) ≡ x → (starts_next m w a && starts_next m w b) ≡ y
            → Exchanges (cond x (OfClocks (length w.clocks) ∷ []) (cond y (OfActivities (length w.activities) ∷ []) []))
        by true y hx hy = inr
            ((λ p q. not_both (next_instruction m w a) (and_parts (makes_next m w a) (makes_next m w b) hx).0 (says_first p)), (λ j. refl))
        by false true hx hy =
            let p = and_parts (starts_next m w a) (starts_next m w b) hy in
            inl (
              ap is_start (event_started m limits ok w c.first_world a c.first_event reached c.first_steps p.0),
              ap is_start (event_started m limits ok w c.second_world b c.second_event reached c.second_steps p.1),
              refl,
            )
        by false false hx hy = inr ((λ p q. none (starts_next m w a) (starts_next m w b) hy (says_first p) (says_second q)), (λ j. refl))

    -- who is there already keeps his number
    pub stays_named : (j : ℕ) → j < length w.activities → all_named xs j ≡ j
    stays_named j h = by xs exchanges
      where
        by : (ys : List Exchange) → Exchanges ys → all_named ys j ≡ j
        by ys (inl p) = ap (λ zs. all_named zs j) p.2 ∙ renamed_below (length w.activities) j h
        by ys (inr p) = p.1 j

    abbrev u : World
    u = c.first_world

    abbrev v : World
    v = c.second_world

    pub inside_first : a < length w.activities
    inside_first = let x = found_of m w a u c.first_event c.first_steps in slice_get_within w.activities a x.0 x.1

    pub inside_second : b < length w.activities
    inside_second = let x = found_of m w b v c.second_event c.second_steps in slice_get_within w.activities b x.0 x.1

    -- the number of what either starts, behind the other's step
    pub number_second : is_start c.second_event ≡ true → length w.activities ≡ all_named xs (length u.activities)
    number_second h = by xs exchanges (is_start c.first_event) refl (grown m w u a c.first_event c.first_steps)
      where
        by : (ys : List Exchange) → Exchanges ys → (q : Bool) → is_start c.first_event ≡ q
            → length u.activities ≡ length w.activities + cond q 1 0
            → length w.activities ≡ all_named ys (length u.activities)
        by ys (inl p) true g k =
            sym (renamed_second (length w.activities)) ∙ ap (renamed (length w.activities)) (omega arith)
            ∙ sym (ap (λ zs. all_named zs (length u.activities)) p.2)
        by ys (inl p) false g k = absurd (true≢false (sym p.0 ∙ g))
        by ys (inr p) true g k = absurd (p.0 g h)
        by ys (inr p) false g k = let r = p.1 (length u.activities) in omega arith

    pub number_first : is_start c.first_event ≡ true → length v.activities ≡ all_named xs (length w.activities)
    number_first h = by xs exchanges (is_start c.second_event) refl (grown m w v b c.second_event c.second_steps)
      where
        by : (ys : List Exchange) → Exchanges ys → (q : Bool) → is_start c.second_event ≡ q
            → length v.activities ≡ length w.activities + cond q 1 0
            → length v.activities ≡ all_named ys (length w.activities)
        by ys (inl p) true g k =
            let one : length v.activities ≡ suc (length w.activities) = omega arith in
            one ∙ sym (renamed_first (length w.activities)) ∙ sym (ap (λ zs. all_named zs (length w.activities)) p.2)
        by ys (inl p) false g k = absurd (true≢false (sym p.1 ∙ g))
        by ys (inr p) true g k = absurd (p.0 h g)
        by ys (inr p) false g k = let r = p.1 (length w.activities) in omega arith

    -- in a world without the new clocks all stand by each number of a clock as before
    pub far : (z : World) → length z.clocks ≤ length w.clocks → (k d : ℕ) → stage_at z (clocks_named xs k) d ≡ stage_at z k d
    far z h k d = by (makes_next m w a && makes_next m w b) (starts_next m w a && starts_next m w b)
      where
        by : (x y : Bool) → stage_at z (clocks_named
            (cond x (OfClocks (length w.clocks) ∷ []) (cond y (OfActivities (length w.activities) ∷ []) [])) k) d ≡ stage_at z k d
        by true y = far_one (length w.clocks) z.clocks h k d
        by false true = refl
        by false false = refl

    pub far_back : (z : World) → length z.clocks ≤ length w.clocks → (k d : ℕ) → stage_at z (clocks_unnamed xs k) d ≡ stage_at z k d
    far_back z h k d = by (makes_next m w a && makes_next m w b) (starts_next m w a && starts_next m w b)
      where
        by : (x y : Bool) → stage_at z (clocks_unnamed
            (cond x (OfClocks (length w.clocks) ∷ []) (cond y (OfActivities (length w.activities) ∷ []) [])) k) d ≡ stage_at z k d
        by true y = far_one (length w.clocks) z.clocks h k d
        by false true = refl
        by false false = refl
