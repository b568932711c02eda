-- What calls of the clocks owe holds between two steps.
use Rattle.std.proofs.Common.{◌≡◌, ℕ, zero, suc, ◌+◌, ◌<◌, ◌≤◌, ◌^◌, ◌&&◌, Bool, true, false, cond, List, [], ◌∷◌, length, is_none, Option, Some, None, refl, sym, ap, ◌∙◌, subst, arith, slice_get}
use Rattle.std.proofs.lemmas.List.{length-map}
use Rattle.std.proofs.lemmas.Option.{none-some, same_Some}
use Rattle.xk_types.specs.declared.world.Standing.{Standing}
use Rattle.xk_types.specs.declared.world.Standing.TheVariants as standing
use Rattle.xk_types.specs.Step.{is_pending, is_registered, is_signalled}
use Rattle.xk_clocks.specs.Table.{CountValue, count_at, one_if}
use Rattle.xk_clocks.specs.StandingCounts.{tally}
use Rattle.xk_clocks.proofs.TallyLemmas.{tally_one, tally_parts}
use Rattle.xk_clocks.proofs.CountStepLemmas.{owed_by_rest_is}
use Rattle.xk_registrations.specs.View.{Registration, standing_at, stands, row, reg_on, held, IsFit, IsKept, AreSound, AreDistinct}
use Rattle.xk_registrations.specs.RegistrationChanges.{is_open, regs_on, regs_open, Allows, AreAllowed, OwesResume, OwesDrop, OwesRegister, HavePhasesLeft, IsGiven}
use Rattle.xk_registrations.proofs.StandingChangeLemmas.{row_at}
use Rattle.xk_registrations.proofs.StandingLemmas.{stands_reg, reg_clock, reg_where, if_passes, registered_mark}
use Rattle.xk_registrations.proofs.NewActivityLemmas.{counted_at}

-- ---- a registration that is held

below : (k n : ℕ) → (n ≤ k → ⊥) → k < n
below k zero refuted = absurd (refuted (omega arith))
below zero (suc n) refuted = omega arith
below (suc k) (suc n) refuted = omega (arith, below k n (λ h. refuted (omega arith)))

-- is on a clock that exists
pub found : (n : ℕ) (rs : List Registration) (k : ℕ) (r : Registration) → AreSound n rs → reg_on rs k ≡ Some r → k < n
found n rs k r sound is = below k n (λ h. none-some r (sym (sound.exist k h) ∙ is))

pub get_there : (cs : List CountValue) (k : ℕ) → k < length cs → slice_get cs k ≡ Some (count_at cs k)
get_there [] k h = absurd (omega arith)
get_there (c ∷ cs) zero h = refl
get_there (c ∷ cs) (suc k) h = get_there cs k (omega arith)

passes : (t : Registration → Bool) (o : Option Registration) (r : Registration) → if_passes t o ≡ Some r → (o ≡ Some r) × (t r ≡ true)
passes t None r h = absurd (none-some r h)
passes t (Some s) r h = go (t s) refl h
  where
    go : (b : Bool) → t s ≡ b → cond b (Some s) None ≡ Some r → (Some s ≡ Some r) × (t r ≡ true)
    go true e h = (h, subst (λ (x : Registration). t x ≡ true) (same_Some s r h) e)
    go false e h = absurd (none-some r h)

-- ---- its clock

-- what is owed of the clock of number k is owed of the registration's
allows : (owes : Registration → CountValue → Type 0) (cs : List CountValue) (k : ℕ) (r : Registration) → r.clock ≡ k → k < length cs → owes r (count_at cs k) → Allows owes cs r
allows owes cs k r clock inside owed = record {
  exists = subst (λ n. n < length cs) (sym clock) inside;
  owed = subst (λ n. owes r (count_at cs n)) (sym clock) owed;
}

second : (a b : Bool) → (a && b) ≡ true → b ≡ true
second true b h = h
second false b h = absurd (grind arith)

open_pending : (p : ℕ) (m : Option ℕ) → is_none m ≡ true → is_pending (standing_at p m) ≡ true
open_pending p None h = refl
open_pending p (Some q) h = absurd (grind arith)

signalled : (s : Standing) → is_registered s ≡ true → is_pending s ≡ false → is_signalled s ≡ true
signalled standing.Apart h g = absurd (grind arith)
signalled standing.Open h g = absurd (grind arith)
signalled standing.Signalled h g = refl
signalled standing.Ahead h g = absurd (grind arith)

-- ---- the calls

pub may_resume : (ls : List ℕ) (acts : List (List Registration)) (cs : List CountValue) (a : ℕ) → IsKept ls acts cs → a < length acts → HavePhasesLeft cs
    → (test : ℕ → Bool) → AreAllowed OwesResume cs (regs_open test (held acts a))
may_resume ls acts cs a kept inside left test k r is =
    let found_by = passes (λ r. test r.clock && is_open r) (reg_on (held acts a) k) r
    (sym (reg_where (λ r. test r.clock && is_open r) (held acts a) k (kept.sound a).distinct) ∙ is) in
    let there : k < length cs = found (length cs) (held acts a) k r (kept.sound a) found_by.0 in
    let at : slice_get cs k ≡ Some (count_at cs k) = get_there cs k there in
    allows OwesResume cs k r (reg_clock (held acts a) k r found_by.0) there (
      pending (count_at cs k) found_by.0 (open_pending (count_at cs k).phase r.resumed (second (test r.clock) (is_open r) found_by.1)) (kept.fit k (count_at cs k) at),
      left k (count_at cs k) at,
    )
  where
    pending : (c : CountValue) → reg_on (held acts a) k ≡ Some r → is_pending (standing_at c.phase r.resumed) ≡ true → IsFit acts k c → 0 < c.pending
    pending c held_by e fit =
        let counted = counted_at is_pending acts a k c.phase c.pending inside refl fit.counts.pending in
        let stood : stands (held acts a) k c.phase ≡ standing_at c.phase r.resumed = stands_reg (held acts a) k c.phase ∙ rw held_by refl in
        omega (arith, counted, ap (λ s. one_if (is_pending s)) stood, ap one_if e)

pub may_drop : (ls : List ℕ) (acts : List (List Registration)) (cs : List CountValue) (a : ℕ) → IsKept ls acts cs → a < length acts → HavePhasesLeft cs
    → (test : ℕ → Bool) → AreAllowed OwesDrop cs (regs_on test (held acts a))
may_drop ls acts cs a kept inside left test k r is =
    let found_by = passes (λ r. test r.clock) (reg_on (held acts a) k) r
    (sym (reg_where (λ r. test r.clock) (held acts a) k (kept.sound a).distinct) ∙ is) in
    let there : k < length cs = found (length cs) (held acts a) k r (kept.sound a) found_by.0 in
    let at : slice_get cs k ≡ Some (count_at cs k) = get_there cs k there in
    allows OwesDrop cs k r (reg_clock (held acts a) k r found_by.0) there
    (owed (count_at cs k) (stands_reg (held acts a) k (count_at cs k).phase ∙ rw found_by.0 refl) (kept.fit k (count_at cs k) at) (left k (count_at cs k) at))
  where
    owed : (c : CountValue) → stands (held acts a) k c.phase ≡ standing_at c.phase r.resumed → IsFit acts k c → c.phase + 1 < 2 ^ 64 → OwesDrop r c
    owed c stood fit phase =
        let registered : is_registered (standing_at c.phase r.resumed) ≡ true = registered_mark c.phase r.resumed in (
          omega (arith, counted_at is_pending acts a k c.phase c.pending inside refl fit.counts.pending, ap (λ s. one_if (is_pending s)) stood),
          (λ quiet. omega (
            arith,
            tally_one is_signalled (row acts k c.phase) a refl,
            tally_parts (row acts k c.phase),
            fit.counts.pending,
            fit.counts.registered,
            ap (λ s. one_if (is_signalled s)) (row_at acts k c.phase a ∙ stood),
            ap one_if (signalled (standing_at c.phase r.resumed) registered quiet),
          )),
          omega (arith, counted_at is_registered acts a k c.phase c.registered inside refl fit.counts.registered, ap (λ s. one_if (is_registered s)) stood, ap one_if registered),
          phase,
        )

-- ---- a start

-- no more pass the test than there are
tally_most : (test : Standing → Bool) (ss : List Standing) → tally test ss ≤ length ss
tally_most test [] = omega arith
tally_most test (s ∷ ss) = go (test s) (tally_most test ss)
  where
    go : (b : Bool) → tally test ss ≤ length ss → cond b (suc (tally test ss)) (tally test ss) ≤ suc (length ss)
    go true h = omega (arith, h)
    go false h = omega (arith, h)

given_from : (given : ℕ → Bool) (old new : List Registration) (k : ℕ) (r : Registration) → IsGiven given old new → reg_on new k ≡ Some r → reg_on old k ≡ Some r
given_from given old new k r is at = go (given k) (sym (is k) ∙ at)
  where
    go : (b : Bool) → cond b (reg_on old k) None ≡ Some r → reg_on old k ≡ Some r
    go true h = h
    go false h = absurd (none-some r h)

pub may_register : (ls : List ℕ) (acts : List (List Registration)) (cs : List CountValue) (a : ℕ) → IsKept ls acts cs → a < length acts → length acts + 1 < 2 ^ 32
    → (given : ℕ → Bool) (new : List Registration) → IsGiven given (held acts a) new → AreAllowed OwesRegister cs new
may_register ls acts cs a kept inside few given new gives k r is =
    let held_by : reg_on (held acts a) k ≡ Some r = given_from given (held acts a) new k r gives is in
    let there : k < length cs = found (length cs) (held acts a) k r (kept.sound a) held_by in
    let at : slice_get cs k ≡ Some (count_at cs k) = get_there cs k there in
    allows OwesRegister cs k r (reg_clock (held acts a) k r held_by) there
    (owed (count_at cs k) (stands_reg (held acts a) k (count_at cs k).phase ∙ rw held_by refl) (kept.fit k (count_at cs k) at))
  where
    owed : (c : CountValue) → stands (held acts a) k c.phase ≡ standing_at c.phase r.resumed → IsFit acts k c → OwesRegister r c
    owed c stood fit =
        let registered : 0 < c.registered = omega (
          arith,
          counted_at is_registered acts a k c.phase c.registered inside refl fit.counts.registered,
          ap (λ s. one_if (is_registered s)) stood,
          ap one_if (registered_mark c.phase r.resumed),
        ) in (
          owed_by_rest_is c fit.kept registered,
          registered,
          omega (arith, tally_most is_registered (row acts k c.phase), length-map acts (λ (rs : List Registration). stands rs k c.phase), fit.counts.registered),
        )

-- what is given is sound
pub sound_start : (n : ℕ) (given : ℕ → Bool) (old new : List Registration) → AreSound n old → AreDistinct new → IsGiven given old new → AreSound n new
sound_start n given old new sound distinct is = record { distinct = distinct; exist = λ k h. is k ∙ go (given k) (sound.exist k h) }
  where
    go : (b : Bool) {o : Option Registration} → o ≡ None → cond b o None ≡ None
    go true e = e
    go false e = refl
