-- Which clocks hold an activity back, before a step of another and after it.
use Rattle.std.proofs.Common.{◌≡◌, ℕ, zero, suc, ◌+◌, ◌<◌, ◌||◌, ◌==◌, not, Bool, true, false, true≢false, List, [], ◌∷◌, ◌++◌, map, length, refl, sym, ap, ◌∙◌, subst, arith, slice_get}
use Rattle.std.specs.List.{list_all, list_any}
use Rattle.std.specs.Option.{option_map_or}
use Rattle.std.proofs.lemmas.Bool.{and_parts, eq-eqb}
use Rattle.xk_types.specs.declared.world.Standing.{Standing}
use Rattle.xk_types.specs.declared.world.Standing.TheVariants as standing
use Rattle.xk_types.specs.declared.world.Event.{Event}
use Rattle.xk_types.specs.Code.{ModuleValue}
use Rattle.xk_types.specs.World.{Clock, World, standing_of}
use Rattle.xk_types.specs.Step.{Outcome, Blocked, Wrong, Stepped, step, is_signalled, settled_clock, moved, joined, new_clock, is_given, none, all, dropped, resumed, waits}
use Rattle.xk_law_schedules.proofs.Invariant.{IsClockSound}
use Rattle.xk_types.proofs.ListLemmas.{Each}
use Rattle.xk_types.proofs.MembershipLemmas.{same_test}
use Rattle.xk_types.proofs.StandingLemmas.{advanced_quiet}
use Rattle.xk_law_schedules.proofs.StepFormLemmas.{step_kind}
use Rattle.xk_law_schedules.proofs.ReachabilityLemmas.{reached_sound}
use Rattle.xk_law_schedules.proofs.ClockLemmas.AdvanceLemmas.{settled_cases, stand-advanced}
use Rattle.xk_law_schedules.proofs.ClockLemmas.StandingLemmas.{stand_other, new_other, stand_joined_old}
use Rattle.xk_core.specs.Core.{IsCore, is_quiet}
use Rattle.xk_core.specs.Core.{is_held_back_by, has_advanced}

-- clock c of these holds activity b back
abbrev holds : ℕ → List Clock → ℕ → Bool
holds b clocks c = option_map_or (λ k. is_signalled (standing_of k b)) (slice_get clocks c) false

-- it advanced in the step of this number
abbrev went : ℕ → List Clock → ℕ → Bool
went now clocks c = option_map_or (λ k. k.last == now) (slice_get clocks c) false

-- ---- the end of a step

-- a clock that didn't advance holds back whom it did
clock_stays : (now b : ℕ) (c : Clock) → is_signalled (standing_of c b) ≡ true → ((settled_clock now c).last == now) ≡ false → is_signalled (standing_of (settled_clock now c) b) ≡ true
clock_stays now b c held = settled_cases now c (λ d. (d.last == now) ≡ false → is_signalled (standing_of d b) ≡ true)
    (λ ready off. absurd (true≢false (sym (eq-eqb now now refl) ∙ off))) (λ unready off. held)

-- and none holds back whom it didn't
clock_only : (now b : ℕ) (c : Clock) → is_signalled (standing_of (settled_clock now c) b) ≡ true → is_signalled (standing_of c b) ≡ true
clock_only now b c = settled_cases now c (λ d. is_signalled (standing_of d b) ≡ true → is_signalled (standing_of c b) ≡ true)
    (λ ready held. absurd (true≢false (sym held ∙ ap is_signalled (stand-advanced now c b) ∙ advanced_quiet (standing_of c b)))) (λ unready held. held)

stays : (now b : ℕ) (clocks : List Clock) (c : ℕ) → holds b clocks c ≡ true → went now (map (settled_clock now) clocks) c ≡ false → holds b (map (settled_clock now) clocks) c ≡ true
stays now b [] c held off = held
stays now b (k ∷ clocks) zero held off = clock_stays now b k held off
stays now b (k ∷ clocks) (suc c) held off = stays now b clocks c held off

only : (now b : ℕ) (clocks : List Clock) (c : ℕ) → holds b (map (settled_clock now) clocks) c ≡ true → holds b clocks c ≡ true
only now b [] c held = held
only now b (k ∷ clocks) zero held = clock_only now b k held
only now b (k ∷ clocks) (suc c) held = only now b clocks c held

-- ---- what a step of another does to clocks before its end

moved_same : (a b : ℕ) (change : ℕ → Standing → Standing) (clocks : List Clock) (c : ℕ) → (b ≡ a → ⊥) → holds b (moved a change clocks) c ≡ holds b clocks c
moved_same a b change [] c differs = refl
moved_same a b change (k ∷ clocks) zero differs = ap is_signalled (stand_other a b (change 0) k differs)
moved_same a b change (k ∷ clocks) (suc c) differs = moved_same a b (λ j. change (suc j)) clocks c differs

made_same : (n a b : ℕ) (clocks : List Clock) (c : ℕ) → (b ≡ a → ⊥) → holds b (clocks ++ new_clock n a ∷ []) c ≡ holds b clocks c
made_same n a b [] zero differs = ap is_signalled (new_other n a b differs)
made_same n a b [] (suc c) differs = refl
made_same n a b (k ∷ clocks) zero differs = refl
made_same n a b (k ∷ clocks) (suc c) differs = made_same n a b clocks c differs

joined_same : (a b : ℕ) (given : ℕ → Bool) (clocks : List Clock) (c : ℕ) → Each (λ k d. b < length d.standings) clocks → holds b (joined a given clocks) c ≡ holds b clocks c
joined_same a b given [] c wide = refl
joined_same a b given (k ∷ clocks) zero wide = ap is_signalled (stand_joined_old a b (given 0) k (wide zero k refl))
joined_same a b given (k ∷ clocks) (suc c) wide = joined_same a b (λ j. given (suc j)) clocks c (λ j. wide (suc j))

-- ---- a step of another

-- Clock c holds activity b back in a later world, if it did and didn't advance in between; and only if it did.
pub record IsHeldOn (w v : World) (b c : ℕ) : Type 0 where
  pub stays : is_held_back_by w b c ≡ true → has_advanced v c ≡ false → is_held_back_by v b c ≡ true
  pub only : is_held_back_by v b c ≡ true → is_held_back_by w b c ≡ true

abbrev HoldsOn : World → ℕ → ℕ → Outcome → Type 0
HoldsOn w b c Blocked = Unit {0}
HoldsOn w b c (Wrong e) = Unit {0}
HoldsOn w b c (Stepped v e) = IsHeldOn w v b c

settles : (w v : World) (b c : ℕ) (clocks : List Clock) → v.clocks ≡ map (settled_clock (w.steps + 1)) clocks → v.steps ≡ w.steps + 1
    → holds b clocks c ≡ holds b w.clocks c → IsHeldOn w v b c
settles w v b c clocks is steps same = record {
  stays = λ held off. ap (λ l. holds b l c) is ∙ stays (w.steps + 1) b clocks c (same ∙ held) (sym (ap (λ l. went (w.steps + 1) l c) is) ∙ sym (ap (λ n. went n v.clocks c) steps) ∙ off);
  only = λ held. sym same ∙ only (w.steps + 1) b clocks c (sym (ap (λ l. holds b l c) is) ∙ held);
}

module _ (m : ModuleValue) (w : World) (a b c : ℕ) (core : IsCore m w) (inside : b < length w.activities) (differs : b ≡ a → ⊥) where
  by_move : (v : World) (change : ℕ → Standing → Standing) → v.clocks ≡ map (settled_clock (w.steps + 1)) (moved a change w.clocks) → v.steps ≡ w.steps + 1 → IsHeldOn w v b c
  by_move v change is steps = settles w v b c (moved a change w.clocks) is steps (moved_same a b change w.clocks c differs)

  wide : Each (λ k d. b < length d.standings) w.clocks
  wide k d at = (let s : IsClockSound w.activities w.steps d = (reached_sound m core.limits core.accepted w core.reached).clocks k d at in omega (arith, s.width, inside))

  holds_on : HoldsOn w b c (step m w a)
  holds_on = step_kind (HoldsOn w b c) m w a tt (λ e. tt) (λ act found alive. record {
    closed = λ n opened nobody runs. by_move _ none refl refl;
    over = λ here alone. by_move _ (all dropped) refl refl;
    arrives = by_move _ (all resumed) refl refl;
    done = λ next change e on start rests. by_move _ change refl refl;
    made = λ next on. settles w _ b c (w.clocks ++ new_clock (length w.activities) a ∷ []) refl refl (made_same (length w.activities) a b w.clocks c differs);
    stored = λ s n e on start. by_move _ none refl refl;
    spawned = λ t args values at on. settles w _ b c (joined a (is_given values) w.clocks) refl refl (joined_same a b (is_given values) w.clocks c wide);
  })

-- a step of another leaves a clock holding somebody back as it was, but where it advances
pub held_on : (m : ModuleValue) (w v : World) (a : ℕ) (e : Event) → IsCore m w → step m w a ≡ Stepped v e → (b : ℕ) → b < length w.activities → (b ≡ a → ⊥)
    → (c : ℕ) → IsHeldOn w v b c
held_on m w v a e core h b inside differs c = subst (HoldsOn w b c) h (holds_on m w a b c core inside differs)

-- ---- who waits is held back by a clock, and by none else

on_some : (b : ℕ) (clocks : List Clock) → list_any (λ k. is_signalled (standing_of k b)) clocks ≡ true → (c : ℕ) × (holds b clocks c ≡ true)
on_some b [] h = absurd (true≢false (sym h))
on_some b (k ∷ clocks) h = of (is_signalled (standing_of k b)) refl h (on_some b clocks)
  where
    of : (s : Bool) → is_signalled (standing_of k b) ≡ s → (s || list_any (λ j. is_signalled (standing_of j b)) clocks) ≡ true
        → (list_any (λ j. is_signalled (standing_of j b)) clocks ≡ true → (c : ℕ) × (holds b clocks c ≡ true)) → (c : ℕ) × (holds b (k ∷ clocks) c ≡ true)
    of true e g later = (zero, e)
    of false e g later = let r = later g in (suc r.0, r.1)

by_some : (b : ℕ) (clocks : List Clock) (c : ℕ) → holds b clocks c ≡ true → list_any (λ k. is_signalled (standing_of k b)) clocks ≡ true
by_some b [] c h = absurd (true≢false (sym h))
by_some b (k ∷ clocks) zero h = ap (λ s. s || list_any (λ j. is_signalled (standing_of j b)) clocks) h
by_some b (k ∷ clocks) (suc c) h = or_true (is_signalled (standing_of k b)) (by_some b clocks c h)
  where
    or_true : (s : Bool) {t : Bool} → t ≡ true → (s || t) ≡ true
    or_true true e = refl
    or_true false e = e

pub waits_by : (w : World) (b c : ℕ) → is_held_back_by w b c ≡ true → waits w b ≡ true
waits_by w b c h = by_some b w.clocks c h

held_by : (w : World) (b : ℕ) → waits w b ≡ true → (c : ℕ) × (is_held_back_by w b c ≡ true)
held_by w b h = on_some b w.clocks h

-- who doesn't wait goes on so
pub free_on : (m : ModuleValue) (w v : World) (a : ℕ) (e : Event) → IsCore m w → step m w a ≡ Stepped v e → (b : ℕ) → b < length w.activities → (b ≡ a → ⊥)
    → waits v b ≡ true → waits w b ≡ true
free_on m w v a e core h b inside differs waiting =
    let c = held_by v b waiting in
    waits_by w b c.0 ((held_on m w v a e core h b inside differs c.0).only c.1)

-- where no clock advances, none did
pub none_went : (now : ℕ) (clocks : List Clock) → list_all (λ k. not (k.last == now)) clocks ≡ true → (c : ℕ) → went now clocks c ≡ false
none_went now [] quiet c = refl
none_went now (k ∷ clocks) quiet zero = not_true (k.last == now) (and_parts (not (k.last == now)) (list_all (λ j. not (j.last == now)) clocks) quiet).0
  where
    not_true : (b : Bool) → not b ≡ true → b ≡ false
    not_true true h = sym h
    not_true false h = refl
none_went now (k ∷ clocks) quiet (suc c) = none_went now clocks (and_parts (not (k.last == now)) (list_all (λ j. not (j.last == now)) clocks) quiet).1 c

-- so others are held back as before
pub waits_same : (m : ModuleValue) (w v : World) (a : ℕ) (e : Event) → IsCore m w → step m w a ≡ Stepped v e → (b : ℕ) → b < length w.activities → (b ≡ a → ⊥)
    → is_quiet v ≡ true → waits v b ≡ waits w b
waits_same m w v a e core h b inside differs quiet = same_test (waits v b) (waits w b) (free_on m w v a e core h b inside differs)
    (λ waiting.
    let c = held_by w b waiting in
    waits_by v b c.0 ((held_on m w v a e core h b inside differs c.0).stays c.1 (none_went v.steps v.clocks quiet c.0)))
