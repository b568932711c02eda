-- Whether an activity is signalled on some clock, by its own registrations.
use Rattle.std.proofs.Common.{◌≡◌, ℕ, zero, suc, ◌<◌, ◌≤◌, ◌==◌, ◌||◌, Bool, true, false, cond, List, [], ◌∷◌, length, get_or, Option, Some, None, is_some, refl, sym, ap, ◌∙◌, subst, arith, slice_get, slice_index_or, All}
use Rattle.std.specs.List.{list_any, find as find_in}
use Rattle.std.specs.Option.{option_map_or}
use Rattle.std.proofs.lemmas.Bool.{eqb-true}
use Rattle.std.proofs.lemmas.Option.{none-some, same_Some, get_or_from_slice_get}
use Rattle.xk_types.specs.declared.world.Standing.TheVariants as standing
use Rattle.xk_types.specs.World.{Clock, standing_of}
use Rattle.xk_types.specs.Step.{is_signalled}
use Rattle.xk_types.proofs.MembershipLemmas.{same_test}
use Rattle.xk_clocks.specs.Table.{CountValue, count_at}
use Rattle.xk_registrations.specs.View.{Registration, standing_at, reg_on, AreDistinct, AreSound, told, told_by, told_clock, held, IsKept}
use Rattle.xk_registrations.specs.RegistrationChanges.{RegistrationsValue, phase_at, is_signalled_in}
use Rattle.xk_registrations.specs.Standings.{lists, is_held_by}
use Rattle.xk_registrations.proofs.StandingChangeLemmas.{row_at}
use Rattle.xk_registrations.proofs.StandingLemmas.{stands_reg, reg_clock, same_number}
use Rattle.xk_registrations.proofs.CallPreconditionLemmas.{found, get_there}
use Rattle.xk_registrations.proofs.AllRegistrationsLemmas.{held_item, told_at}

-- ---- among registrations

any_at : (test : Registration → Bool) (rs : List Registration) (k : ℕ) (r : Registration) → reg_on rs k ≡ Some r → test r ≡ true → list_any test rs ≡ true
any_at test [] k r is h = absurd (none-some r is)
any_at test (s ∷ rs) k r is h = go (s.clock == k) is (any_at test rs k r)
  where
    or_true : (b : Bool) → (b || true) ≡ true
    or_true true = refl
    or_true false = refl

    go : (b : Bool) → cond b (Some s) (reg_on rs k) ≡ Some r → (reg_on rs k ≡ Some r → test r ≡ true → list_any test rs ≡ true) → (test s || list_any test rs) ≡ true
    go true e later = rw (same_Some s r e, h) refl
    go false e later = rw (later e h) (or_true (test s))

-- one that passes, which is the one on its clock
pub record Found (test : Registration → Bool) (rs : List Registration) : Type 0 where
  pub one : Registration
  pub is : reg_on rs one.clock ≡ Some one
  pub passes : test one ≡ true

find : (test : Registration → Bool) (rs : List Registration) → AreDistinct rs → list_any test rs ≡ true → Found test rs
find test [] distinct h = absurd (grind arith)
find test (s ∷ rs) distinct h = go (test s) refl h (find test rs distinct.1)
  where
    further : (r : Registration) → reg_on rs r.clock ≡ Some r → (b : Bool) → (s.clock == r.clock) ≡ b → cond b (Some s) (reg_on rs r.clock) ≡ Some r
    further r is true e = absurd (none-some r (sym distinct.0 ∙ ap (reg_on rs) (eqb-true s.clock r.clock e) ∙ is))
    further r is false e = is

    go : (b : Bool) → test s ≡ b → (b || list_any test rs) ≡ true → (list_any test rs ≡ true → Found test rs) → Found test (s ∷ rs)
    go true e h later = record { one = s; is = rw (same_number s.clock) refl; passes = e }
    go false e h later =
        let rest = later h in
        record { one = rest.one; is = further rest.one rest.is (s.clock == rest.one.clock) refl; passes = rest.passes }

-- ---- among clocks

any_told : (test : Clock → Bool) (f : ℕ → CountValue → Clock) (cs : List CountValue) (k : ℕ) (c : CountValue) → slice_get cs k ≡ Some c → test (f k c) ≡ true
    → list_any test (told_by f cs) ≡ true
any_told test f [] k c at h = absurd (none-some c at)
any_told test f (d ∷ cs) zero c at h = let e : test (f 0 d) ≡ true = ap (λ x. test (f 0 x)) (same_Some d c at) ∙ h in rw e refl
any_told test f (d ∷ cs) (suc k) c at h = rw (any_told test (λ j. f (suc j)) cs k c at h) (or_true (test (f 0 d)))
  where
    or_true : (b : Bool) → (b || true) ≡ true
    or_true true = refl
    or_true false = refl

pub record Told (test : Clock → Bool) (f : ℕ → CountValue → Clock) (cs : List CountValue) : Type 0 where
  pub k : ℕ
  pub c : CountValue
  pub at : slice_get cs k ≡ Some c
  pub passes : test (f k c) ≡ true

find_told : (test : Clock → Bool) (f : ℕ → CountValue → Clock) (cs : List CountValue) → list_any test (told_by f cs) ≡ true → Told test f cs
find_told test f [] h = absurd (grind arith)
find_told test f (d ∷ cs) h = go (test (f 0 d)) refl h (find_told test (λ j. f (suc j)) cs)
  where
    go : (b : Bool) → test (f 0 d) ≡ b → (b || list_any test (told_by (λ j. f (suc j)) cs)) ≡ true
        → (list_any test (told_by (λ j. f (suc j)) cs) ≡ true → Told test (λ j. f (suc j)) cs) → Told test f (d ∷ cs)
    go true e h later = record { k = 0; c = d; at = refl; passes = e }
    go false e h later = let rest = later h in record { k = suc rest.k; c = rest.c; at = rest.at; passes = rest.passes }

-- ---- both are one

signalled_by : (p : ℕ) (o : Option Registration) → is_signalled (option_map_or (λ r. standing_at p r.resumed) o standing.Apart) ≡ true
    → (r : Registration) × (o ≡ Some r) × (is_signalled (standing_at p r.resumed) ≡ true)
signalled_by p None h = absurd (grind arith)
signalled_by p (Some r) h = (r, refl, h)

stood : (ls : List ℕ) (acts : List (List Registration)) (a k : ℕ) (c : CountValue) → is_signalled (standing_of (told_clock (λ j. slice_index_or ls j 0) acts k c) a)
    ≡ is_signalled (option_map_or (λ r. standing_at c.phase r.resumed) (reg_on (held acts a) k) standing.Apart)
stood ls acts a k c = ap is_signalled (row_at acts k c.phase a ∙ stands_reg (held acts a) k c.phase)

pub waits_in : (ls : List ℕ) (acts : List (List Registration)) (cs : List CountValue) (a : ℕ) → IsKept ls acts cs
    → list_any (is_signalled_in cs) (held acts a) ≡ list_any (λ c. is_signalled (standing_of c a)) (told ls acts cs)
waits_in ls acts cs a kept =
    same_test (list_any (is_signalled_in cs) (held acts a)) (list_any (λ c. is_signalled (standing_of c a)) (told ls acts cs)) there back
  where
    last : ℕ → ℕ
    last k = slice_index_or ls k 0

    there : list_any (is_signalled_in cs) (held acts a) ≡ true → list_any (λ c. is_signalled (standing_of c a)) (told ls acts cs) ≡ true
    there h =
        let one = find (is_signalled_in cs) (held acts a) (kept.sound a).distinct h in
        any_told (λ c. is_signalled (standing_of c a)) (told_clock last acts) cs one.one.clock (count_at cs one.one.clock)
        (get_there cs one.one.clock (found (length cs) (held acts a) one.one.clock one.one (kept.sound a) one.is))
        (stood ls acts a one.one.clock (count_at cs one.one.clock)
        ∙ ap (λ o. is_signalled (option_map_or (λ r. standing_at (count_at cs one.one.clock).phase r.resumed) o standing.Apart)) one.is ∙ one.passes)

    back : list_any (λ c. is_signalled (standing_of c a)) (told ls acts cs) ≡ true → list_any (is_signalled_in cs) (held acts a) ≡ true
    back h =
        let clock = find_told (λ c. is_signalled (standing_of c a)) (told_clock last acts) cs h in
        let one = signalled_by clock.c.phase (reg_on (held acts a) clock.k) (sym (stood ls acts a clock.k clock.c) ∙ clock.passes) in
        any_at (is_signalled_in cs) (held acts a) clock.k one.0 one.1
        (ap (λ n. is_signalled (standing_at (phase_at cs n) one.0.resumed)) (reg_clock (held acts a) clock.k one.0 one.1)
        ∙ ap (λ (c : CountValue). is_signalled (standing_at c.phase one.0.resumed)) (get_or_from_slice_get cs clock.k clock.c _ clock.at) ∙ one.2)

-- ---- the first that holds an activity back

pub find_any : (test : Registration → Bool) (rs : List Registration) (o : Option Registration) → o ≡ find_in test rs → is_some o ≡ list_any test rs
find_any test rs o is = ap is_some is ∙ go rs
  where
    go : (rs : List Registration) → is_some (find_in test rs) ≡ list_any test rs
    go [] = refl
    go (r ∷ rs) = either (test r) (go rs)
      where
        either : (b : Bool) → is_some (find_in test rs) ≡ list_any test rs → is_some (cond b (Some r) (find_in test rs)) ≡ (b || list_any test rs)
        either true e = refl
        either false e = e

-- it is the one on its clock
find_is : (test : Registration → Bool) (rs : List Registration) (r : Registration) → AreDistinct rs → find_in test rs ≡ Some r
    → (reg_on rs r.clock ≡ Some r) × (test r ≡ true)
find_is test [] r distinct is = absurd (none-some r is)
find_is test (s ∷ rs) r distinct is = go (test s) refl is (find_is test rs r distinct.1)
  where
    further : (b : Bool) → (s.clock == r.clock) ≡ b → reg_on rs r.clock ≡ Some r → cond b (Some s) (reg_on rs r.clock) ≡ Some r
    further true e at = absurd (none-some r (sym distinct.0 ∙ ap (reg_on rs) (eqb-true s.clock r.clock e) ∙ at))
    further false e at = at

    go : (b : Bool) → test s ≡ b → cond b (Some s) (find_in test rs) ≡ Some r → (find_in test rs ≡ Some r → (reg_on rs r.clock ≡ Some r) × (test r ≡ true))
        → (reg_on (s ∷ rs) r.clock ≡ Some r) × (test r ≡ true)
    go true e h later = subst (λ (x : Registration). (reg_on (s ∷ rs) x.clock ≡ Some x) × (test x ≡ true)) (same_Some s r h) (rw (same_number s.clock) refl, e)
    go false e h later = let rest = later h in (further (s.clock == r.clock) refl rest.0, rest.1)

pub held_in : (ls : List ℕ) (acts : List (List Registration)) (cs : List CountValue) (a : ℕ) (r : Registration) → IsKept ls acts cs
    → find_in (is_signalled_in cs) (held acts a) ≡ Some r → is_held_by (told ls acts cs) a r.clock ≡ true
held_in ls acts cs a r kept is =
    let one = find_is (is_signalled_in cs) (held acts a) r (kept.sound a).distinct is in
    ap (λ o. option_map_or (λ (c : Clock). is_signalled (standing_of c a)) o false)
    (told_at ls acts cs r.clock (found (length cs) (held acts a) r.clock r (kept.sound a) one.0))
    ∙ stood ls acts a r.clock (count_at cs r.clock)
    ∙ ap (λ o. is_signalled (option_map_or (λ (x : Registration). standing_at (count_at cs r.clock).phase x.resumed) o standing.Apart)) one.0 ∙ one.1

-- ---- each is on a clock that exists

all_exist : (n : ℕ) (rs : List Registration) → AreSound n rs → All (λ r. r.clock < n) rs
all_exist n rs sound i d h = below (get_or rs i d).clock n (λ past. listed rs i d h (sound.exist (get_or rs i d).clock past))
  where
    below : (k n : ℕ) → (n ≤ k → ⊥) → k < n
    below k zero refuted = absurd (refuted (omega arith))
    below zero (suc n) refuted = omega arith
    below (suc k) (suc n) refuted = omega (arith, below k n (λ h. refuted (omega arith)))

    listed : (rs : List Registration) (i : ℕ) (d : Registration) → i < length rs → reg_on rs (get_or rs i d).clock ≡ None → ⊥
    listed [] i d h none = absurd (omega arith)
    listed (r ∷ rs) zero d h none = none-some r (sym (rw (same_number r.clock) at none))
    listed (r ∷ rs) (suc i) d h none = go (r.clock == (get_or rs i d).clock) none (listed rs i d (omega arith))
      where
        go : (b : Bool) → cond b (Some r) (reg_on rs (get_or rs i d).clock) ≡ None → (reg_on rs (get_or rs i d).clock ≡ None → ⊥) → ⊥
        go true e later = none-some r (sym e)
        go false e later = later e

pub all_exist_in : (ls : List ℕ) (items : List RegistrationsValue) (cs : List CountValue) (a : ℕ) (x : RegistrationsValue) → IsKept ls (lists items) cs
    → a < length items → x ≡ get_or items a x → All (λ r. r.clock < length cs) x.list
all_exist_in ls items cs a x kept h is =
    subst (λ (l : List Registration). All (λ r. r.clock < length cs) l) (held_item items a x h is) (all_exist (length cs) (held (lists items) a) (kept.sound a))
