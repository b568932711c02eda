-- Calls of the table, one after the other, and what they make of each clock.
use Rattle.std.proofs.Common.{◌≡◌, ℕ, zero, suc, ◌<◌, ◌==◌, Bool, true, false, cond, List, [], ◌∷◌, length, get_or, set, Some, None, refl, sym, ap, ◌∙◌, subst, arith, slice_get, length-set, get_or-set_same, get_or-set_other}
use Rattle.std.specs.Option.{option_map_or}
use Rattle.std.proofs.lemmas.Bool.{eqb-true, eqb-false}
use Rattle.std.proofs.lemmas.Option.{same_Some, get_or_from_slice_get}
use Rattle.xk_types.proofs.ListLemmas.{get-set_same}
use Rattle.xk_clocks.specs.Table.{CountValue, is_ready_count, count_settled, count_at}
use Rattle.xk_registrations.specs.View.{Registration, reg_on, AreDistinct, changed_by, last_settled}
use Rattle.xk_registrations.specs.RegistrationChanges.{called, noted}

-- ---- lists by number

set_there : {X : Type 0} (xs : List X) (i j : ℕ) (x y z : X) → i ≡ j → y ≡ z → slice_get xs j ≡ Some x → slice_get (set xs i y) j ≡ Some z
set_there xs i j x y z e same h = subst (λ n. slice_get (set xs n y) j ≡ Some z) (sym e) (get-set_same xs j x y h ∙ ap Some same)

get-set_other : {X : Type 0} (xs : List X) (i j : ℕ) (y : X) → (i ≡ j → ⊥) → slice_get (set xs i y) j ≡ slice_get xs j
get-set_other [] i j y h = refl
get-set_other (z ∷ xs) zero zero y h = absurd (h refl)
get-set_other (z ∷ xs) zero (suc j) y h = refl
get-set_other (z ∷ xs) (suc i) zero y h = refl
get-set_other (z ∷ xs) (suc i) (suc j) y h = get-set_other xs i j y (λ e. h (ap suc e))

-- a list that is another one changed at each number
pub changed_is : (change : ℕ → CountValue → CountValue) (cs ds : List CountValue) → length ds ≡ length cs
    → ((k : ℕ) (c : CountValue) → slice_get cs k ≡ Some c → slice_get ds k ≡ Some (change k c)) → ds ≡ changed_by change cs
changed_is change [] [] e each = refl
changed_is change [] (d ∷ ds) e each = absurd (omega arith)
changed_is change (c ∷ cs) [] e each = absurd (omega arith)
changed_is change (c ∷ cs) (d ∷ ds) e each =
    rw (same_Some d (change 0 c) (each 0 c refl), ← changed_is (λ k. change (suc k)) cs ds (omega arith) (λ k. each (suc k))) refl

pub length-called : (f : Registration → CountValue → CountValue) (rs : List Registration) (cs : List CountValue) → length (called f rs cs) ≡ length cs
length-called f [] cs = refl
length-called f (r ∷ rs) cs =
    length-called f rs (set cs r.clock (count_settled (f r (count_at cs r.clock)))) ∙ length-set cs r.clock (count_settled (f r (count_at cs r.clock)))

pub length-noted : (now : ℕ) (f : Registration → CountValue → CountValue) (rs : List Registration) (cs : List CountValue) (ls : List ℕ) → length (noted now f rs cs ls) ≡ length ls
length-noted now f [] cs ls = refl
length-noted now f (r ∷ rs) cs ls =
    length-noted now f rs (set cs r.clock (count_settled (f r (count_at cs r.clock)))) (cond (is_ready_count (f r (count_at cs r.clock))) (set ls r.clock now) ls)
    ∙ go (is_ready_count (f r (count_at cs r.clock)))
  where
    go : (b : Bool) → length (cond b (set ls r.clock now) ls) ≡ length ls
    go true = length-set ls r.clock now
    go false = refl

-- ---- each clock after the calls

pub called_at : (f : Registration → CountValue → CountValue) (rs : List Registration) → AreDistinct rs → (cs : List CountValue) (k : ℕ) (c : CountValue) → slice_get cs k ≡ Some c
    → slice_get (called f rs cs) k ≡ Some (option_map_or (λ r. count_settled (f r c)) (reg_on rs k) c)
called_at f [] distinct cs k c at = at
called_at f (r ∷ rs) distinct cs k c at = go (r.clock == k) refl (called_at f rs distinct.1 (set cs r.clock (count_settled (f r (count_at cs r.clock)))) k)
  where
    go : (b : Bool) → (r.clock == k) ≡ b
        → ((d : CountValue) → slice_get (set cs r.clock (count_settled (f r (count_at cs r.clock)))) k ≡ Some d
        → slice_get (called f rs (set cs r.clock (count_settled (f r (count_at cs r.clock))))) k ≡ Some (option_map_or (λ r. count_settled (f r d)) (reg_on rs k) d))
        → slice_get (called f rs (set cs r.clock (count_settled (f r (count_at cs r.clock))))) k ≡ Some (option_map_or (λ r. count_settled (f r c)) (cond b (Some r) (reg_on rs k)) c)
    go true e again =
        let same : r.clock ≡ k = eqb-true r.clock k e in
        let here : count_at cs r.clock ≡ c = ap (count_at cs) same ∙ get_or_from_slice_get cs k c _ at in
        let alone : reg_on rs k ≡ None = ap (reg_on rs) (sym same) ∙ distinct.0 in
        again (count_settled (f r c))
        (set_there cs r.clock k c (count_settled (f r (count_at cs r.clock))) (count_settled (f r c)) same (ap (λ x. count_settled (f r x)) here) at)
        ∙ rw alone refl
    go false e again =
        again c
        (get-set_other cs r.clock k (count_settled (f r (count_at cs r.clock))) (eqb-false r.clock k e) ∙ at)

pub noted_at : (now : ℕ) (f : Registration → CountValue → CountValue) (rs : List Registration) → AreDistinct rs → (cs : List CountValue) (ls : List ℕ) (k : ℕ) (c : CountValue)
    → slice_get cs k ≡ Some c → k < length ls
    → get_or (noted now f rs cs ls) k 0 ≡ option_map_or (λ r. last_settled now (f r c) (get_or ls k 0)) (reg_on rs k) (get_or ls k 0)
noted_at now f [] distinct cs ls k c at inside = refl
noted_at now f (r ∷ rs) distinct cs ls k c at inside =
    go (r.clock == k) refl (is_ready_count (f r (count_at cs r.clock))) refl
    (λ ms. noted_at now f rs distinct.1 (set cs r.clock (count_settled (f r (count_at cs r.clock)))) ms k)
  where
    more : (b : Bool) → k < length (cond b (set ls r.clock now) ls)
    more true = omega (arith, length-set ls r.clock now)
    more false = inside

    go : (b : Bool) → (r.clock == k) ≡ b → (a : Bool) → is_ready_count (f r (count_at cs r.clock)) ≡ a
        → ((ms : List ℕ) (d : CountValue) → slice_get (set cs r.clock (count_settled (f r (count_at cs r.clock)))) k ≡ Some d → k < length ms
        → get_or (noted now f rs (set cs r.clock (count_settled (f r (count_at cs r.clock)))) ms) k 0
        ≡ option_map_or (λ r. last_settled now (f r d) (get_or ms k 0)) (reg_on rs k) (get_or ms k 0))
        → get_or (noted now f rs (set cs r.clock (count_settled (f r (count_at cs r.clock)))) (cond a (set ls r.clock now) ls)) k 0
        ≡ option_map_or (λ r. last_settled now (f r c) (get_or ls k 0)) (cond b (Some r) (reg_on rs k)) (get_or ls k 0)
    go true e a is again =
        let same : r.clock ≡ k = eqb-true r.clock k e in
        let here : count_at cs r.clock ≡ c = ap (count_at cs) same ∙ get_or_from_slice_get cs k c _ at in
        let alone : reg_on rs k ≡ None = ap (reg_on rs) (sym same) ∙ distinct.0 in
        let ready : is_ready_count (f r c) ≡ a = ap (λ x. is_ready_count (f r x)) (sym here) ∙ is in
        again (cond a (set ls r.clock now) ls) (count_settled (f r c))
        (set_there cs r.clock k c (count_settled (f r (count_at cs r.clock))) (count_settled (f r c)) same (ap (λ x. count_settled (f r x)) here) at) (more a)
        ∙ rw (alone, ready) (written a same)
      where
        written : (a : Bool) → r.clock ≡ k → get_or (cond a (set ls r.clock now) ls) k 0 ≡ cond a now (get_or ls k 0)
        written true same = ap (λ n. get_or (set ls n now) k 0) same ∙ get_or-set_same ls k now 0 inside
        written false same = refl
    go false e a is again =
        again (cond a (set ls r.clock now) ls) c
        (get-set_other cs r.clock k (count_settled (f r (count_at cs r.clock))) (eqb-false r.clock k e) ∙ at) (more a)
        ∙ rw (kept a) refl
      where
        kept : (a : Bool) → get_or (cond a (set ls r.clock now) ls) k 0 ≡ get_or ls k 0
        kept true = get_or-set_other ls r.clock k now 0 (λ g. eqb-false r.clock k e (sym g))
        kept false = refl
