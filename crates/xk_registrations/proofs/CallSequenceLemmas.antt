-- Calls of the clocks, one registration after the other.
use Rattle.std.proofs.Common.{◌≡◌, ℕ, zero, suc, ◌+◌, ◌<◌, ◌==◌, ◌&&◌, Bool, true, false, cond, List, [], ◌∷◌, ◌++◌, length, get_or, set, take, drop, is_none, Option, Some, None, refl, sym, ap, ◌∙◌, subst, arith, add-one, drop-cons, length-set, length-drop, get_or-set_other}
use Rattle.std.proofs.lemmas.Bool.{eqb-true, eqb-false}
use Rattle.std.proofs.lemmas.List.{append-nil, take_all, drop-drop}
use Rattle.std.proofs.lemmas.Option.{none-some}
use Rattle.xk_clocks.specs.Table.{CountValue, count_at, count_settled}
use Rattle.xk_registrations.specs.View.{Registration, reg_on, AreDistinct}
use Rattle.xk_registrations.specs.RegistrationChanges.{ClocksValue, is_open, regs_where, regs_open, called, calls, call_resume, mark_resumed, regs_resumed, regs_passed, phase_at, reg_resumed, regs_resumed_in_turn, Allows, AreAllowed, AreAllowedInTurn}
use Rattle.xk_registrations.proofs.StandingLemmas.{same_number}

-- ---- the first one, then the others

calls_more : (now : ℕ) (f : Registration → CountValue → CountValue) (t : Registration → Bool) (x : Registration) (rest : List Registration) (v : ClocksValue)
    → calls now f (regs_where t (x ∷ rest)) v ≡ calls now f (regs_where t rest) (calls now f (regs_where t (x ∷ [])) v)
calls_more now f t x rest v = go (t x)
  where
    go : (b : Bool) → calls now f (cond b (x ∷ regs_where t rest) (regs_where t rest)) v ≡ calls now f (regs_where t rest) (calls now f (cond b (x ∷ []) []) v)
    go true = refl
    go false = refl

allowed_more : (owes : Registration → CountValue → Type 0) (f : Registration → CountValue → CountValue) (t : Registration → Bool) (x : Registration) (rest : List Registration) (cs : List CountValue)
    → AreAllowedInTurn owes f (regs_where t (x ∷ rest)) cs
    → AreAllowedInTurn owes f (regs_where t (x ∷ [])) cs × AreAllowedInTurn owes f (regs_where t rest) (called f (regs_where t (x ∷ [])) cs)
allowed_more owes f t x rest cs = go (t x)
  where
    go : (b : Bool) → AreAllowedInTurn owes f (cond b (x ∷ regs_where t rest) (regs_where t rest)) cs
        → AreAllowedInTurn owes f (cond b (x ∷ []) []) cs × AreAllowedInTurn owes f (regs_where t rest) (called f (cond b (x ∷ []) []) cs)
    go true h = ((h.0, tt), h.1)
    go false h = (tt, h)

-- ---- a call for one leaves the other clocks

count_other : (f : Registration → CountValue → CountValue) (r : Registration) (cs : List CountValue) (k : ℕ) → (k ≡ r.clock → ⊥) → count_at (called f (r ∷ []) cs) k ≡ count_at cs k
count_other f r cs k other = get_or-set_other cs r.clock k (count_settled (f r (count_at cs r.clock))) _ other

-- so each call may be made in its turn, where each might be made first
pub allowed_in_turn : (owes : Registration → CountValue → Type 0) (f : Registration → CountValue → CountValue) (rs : List Registration) (cs : List CountValue)
    → AreDistinct rs → AreAllowed owes cs rs → AreAllowedInTurn owes f rs cs
allowed_in_turn owes f rs cs distinct each = turn rs cs distinct (λ k r is at. each k r is)
  where
    turn : (rs : List Registration) (cs : List CountValue) → AreDistinct rs
        → ((k : ℕ) (r : Registration) → reg_on rs k ≡ Some r → r.clock ≡ k → Allows owes cs r) → AreAllowedInTurn owes f rs cs
    turn [] cs distinct each = tt
    turn (r ∷ rs) cs distinct each =
        (each r.clock r (rw (same_number r.clock) refl) refl, turn rs (called f (r ∷ []) cs) distinct.1 (λ k s is at. later k s is at (r.clock == k) refl))
      where
        later : (k : ℕ) (s : Registration) → reg_on rs k ≡ Some s → s.clock ≡ k → (b : Bool) → (r.clock == k) ≡ b → Allows owes (called f (r ∷ []) cs) s
        later k s is at true e = absurd (none-some s (sym distinct.0 ∙ ap (reg_on rs) (eqb-true r.clock k e) ∙ is))
        later k s is at false e =
            let first : Allows owes cs s = each k s (rw e is) at in
            let same : count_at (called f (r ∷ []) cs) s.clock ≡ count_at cs s.clock = count_other f r cs s.clock (λ h. eqb-false r.clock k e (sym h ∙ at)) in
            record {
              exists = rw (length-set cs r.clock (count_settled (f r (count_at cs r.clock)))) first.exists;
              owed = subst (owes s) (sym same) first.owed;
            }

-- ---- what a resume makes of the registrations

-- phases of other clocks don't matter
resumed_same : (n : ℕ) (test : ℕ → Bool) (f g : ℕ → ℕ) (rs : List Registration) → reg_on rs n ≡ None → ((k : ℕ) → (k ≡ n → ⊥) → f k ≡ g k)
    → regs_resumed test f rs ≡ regs_resumed test g rs
resumed_same n test f g [] none same = refl
resumed_same n test f g (r ∷ rs) none same = go (r.clock == n) refl none (λ h. resumed_same n test f g rs h same)
  where
    go : (b : Bool) → (r.clock == n) ≡ b → cond b (Some r) (reg_on rs n) ≡ None → (reg_on rs n ≡ None → regs_resumed test f rs ≡ regs_resumed test g rs)
        → regs_resumed test f (r ∷ rs) ≡ regs_resumed test g (r ∷ rs)
    go true e h later = absurd (none-some r (sym h))
    go false e h later = rw (same r.clock (eqb-false r.clock n e), later h) refl

resumed_one : (test : ℕ → Bool) (r : Registration) (cs : List CountValue)
    → reg_resumed test r cs ≡ record { clock = r.clock; resumed = cond (test r.clock) (mark_resumed (phase_at cs r.clock) r.resumed) r.resumed }
resumed_one test r cs = ap (λ (m : Option ℕ). record { clock = r.clock; resumed = m }) (go (test r.clock) r.resumed)
  where
    go : (b : Bool) (m : Option ℕ) → cond (b && is_none m) (Some (phase_at cs r.clock)) m ≡ cond b (mark_resumed (phase_at cs r.clock) m) m
    go true None = refl
    go true (Some q) = refl
    go false m = refl

pub resumed_in_turn : (test : ℕ → Bool) (rs : List Registration) (cs : List CountValue) → AreDistinct rs → regs_resumed_in_turn test rs cs ≡ regs_resumed test (phase_at cs) rs
resumed_in_turn test [] cs distinct = refl
resumed_in_turn test (r ∷ rs) cs distinct =
    ap (λ (x : Registration). x ∷ regs_resumed_in_turn test rs (called call_resume (regs_open test (r ∷ [])) cs)) (resumed_one test r cs)
    ∙ ap (λ (l : List Registration). record { clock = r.clock; resumed = cond (test r.clock) (mark_resumed (phase_at cs r.clock) r.resumed) r.resumed } ∷ l)
    (resumed_in_turn test rs (called call_resume (regs_open test (r ∷ [])) cs) distinct.1
    ∙ resumed_same r.clock test (phase_at (called call_resume (regs_open test (r ∷ [])) cs)) (phase_at cs) rs distinct.0
    (λ k other. go (test r.clock && is_open r) k other))
  where
    go : (b : Bool) (k : ℕ) → (k ≡ r.clock → ⊥) → phase_at (called call_resume (cond b (r ∷ []) []) cs) k ≡ phase_at cs k
    go true k other = ap (λ (c : CountValue). c.phase) (count_other call_resume r cs k other)
    go false k other = refl

-- ---- lists

-- what is left begins with the one looked at
pub left_is : (xs : List Registration) (i : ℕ) (x : Registration) → i < length xs → x ≡ get_or xs i x → drop i xs ≡ x ∷ drop (i + 1) xs
left_is xs i x h is = rw (add-one, drop-cons xs i x, ← is) refl

drop-set : (xs : List Registration) (i : ℕ) (y : Registration) → drop (i + 1) (set xs i y) ≡ drop (i + 1) xs
drop-set xs i y = rw add-one (go xs i)
  where
    go : (xs : List Registration) (i : ℕ) → drop (suc i) (set xs i y) ≡ drop (suc i) xs
    go [] i = refl
    go (x ∷ xs) zero = refl
    go (x ∷ xs) (suc i) = go xs i

take-set : (xs : List Registration) (i : ℕ) (y : Registration) (rest : List Registration) → i < length xs → take (i + 1) (set xs i y) ++ rest ≡ take i xs ++ y ∷ rest
take-set xs i y rest h = rw add-one (go xs i h)
  where
    go : (xs : List Registration) (i : ℕ) → i < length xs → take (suc i) (set xs i y) ++ rest ≡ take i xs ++ y ∷ rest
    go [] i h = absurd (omega arith)
    go (x ∷ xs) zero h = refl
    go (x ∷ xs) (suc i) h = ap (λ (l : List Registration). x ∷ l) (go xs i (omega arith))

-- ---- one more in a loop that writes

pub more_registrations : (test : ℕ → Bool) (i : ℕ) (xs out : List Registration) (cs : List CountValue) (x : Registration) → i < length xs → x ≡ get_or xs i x
    → take i xs ++ regs_resumed_in_turn test (drop i xs) cs ≡ out
    → take (i + 1) (set xs i (reg_resumed test x cs))
    ++ regs_resumed_in_turn test (drop (i + 1) (set xs i (reg_resumed test x cs))) (called call_resume (regs_open test (x ∷ [])) cs) ≡ out
more_registrations test i xs out cs x h is so =
    take-set xs i (reg_resumed test x cs) (regs_resumed_in_turn test (drop (i + 1) (set xs i (reg_resumed test x cs))) (called call_resume (regs_open test (x ∷ [])) cs)) h
    ∙ ap (λ (l : List Registration). take i xs ++ reg_resumed test x cs ∷ regs_resumed_in_turn test l (called call_resume (regs_open test (x ∷ [])) cs)) (drop-set xs i (reg_resumed test x cs))
    ∙ ap (λ (l : List Registration). take i xs ++ regs_resumed_in_turn test l cs) (sym (left_is xs i x h is)) ∙ so

pub more_rest : (i : ℕ) (xs ys : List Registration) (y : Registration) → drop i xs ≡ drop i ys → drop (i + 1) (set xs i y) ≡ drop (i + 1) ys
more_rest i xs ys y so = drop-set xs i y ∙ further xs ys i so
  where
    further : (xs ys : List Registration) (i : ℕ) → drop i xs ≡ drop i ys → drop (i + 1) xs ≡ drop (i + 1) ys
    further xs ys i e = sym (drop-drop 1 i xs) ∙ ap (drop 1) e ∙ drop-drop 1 i ys

pub more_calls : (now : ℕ) (f : Registration → CountValue → CountValue) (t : Registration → Bool) (i : ℕ) (xs : List Registration) (v out : ClocksValue) (x : Registration)
    → i < length xs → x ≡ get_or xs i x
    → calls now f (regs_where t (drop i xs)) v ≡ out → calls now f (regs_where t (drop (i + 1) xs)) (calls now f (regs_where t (x ∷ [])) v) ≡ out
more_calls now f t i xs v out x h is so =
    sym (calls_more now f t x (drop (i + 1) xs) v) ∙ ap (λ (l : List Registration). calls now f (regs_where t l) v) (sym (left_is xs i x h is)) ∙ so

pub more_allowed : (owes : Registration → CountValue → Type 0) (f : Registration → CountValue → CountValue) (t : Registration → Bool) (i : ℕ) (xs : List Registration) (cs : List CountValue) (x : Registration)
    → i < length xs → x ≡ get_or xs i x → AreAllowedInTurn owes f (regs_where t (drop i xs)) cs
    → AreAllowedInTurn owes f (regs_where t (x ∷ [])) cs × AreAllowedInTurn owes f (regs_where t (drop (i + 1) xs)) (called f (regs_where t (x ∷ [])) cs)
more_allowed owes f t i xs cs x h is may =
    allowed_more owes f t x (drop (i + 1) xs) cs (subst (λ (l : List Registration). AreAllowedInTurn owes f (regs_where t l) cs) (left_is xs i x h is) may)

pub calls_set : (now : ℕ) (f : Registration → CountValue → CountValue) (t : Registration → Bool) (i : ℕ) (xs : List Registration) (y : Registration) (v out : ClocksValue)
    → calls now f (regs_where t (drop (i + 1) xs)) v ≡ out → calls now f (regs_where t (drop (i + 1) (set xs i y))) v ≡ out
calls_set now f t i xs y v out so = rw (drop-set xs i y) so

pub allowed_set : (owes : Registration → CountValue → Type 0) (f : Registration → CountValue → CountValue) (t : Registration → Bool) (i : ℕ) (xs : List Registration) (y : Registration) (cs : List CountValue)
    → AreAllowedInTurn owes f (regs_where t (drop (i + 1) xs)) cs → AreAllowedInTurn owes f (regs_where t (drop (i + 1) (set xs i y))) cs
allowed_set owes f t i xs y cs so = rw (drop-set xs i y) so

pub more_passed : (i : ℕ) (xs out : List Registration) (x : Registration) → i < length xs → x ≡ get_or xs i x
    → take i xs ++ regs_passed (drop i xs) ≡ out
    → take (i + 1) (set xs i (record { clock = x.clock; resumed = None })) ++ regs_passed (drop (i + 1) (set xs i (record { clock = x.clock; resumed = None }))) ≡ out
more_passed i xs out x h is so =
    take-set xs i (record { clock = x.clock; resumed = None }) (regs_passed (drop (i + 1) (set xs i (record { clock = x.clock; resumed = None })))) h
    ∙ ap (λ (l : List Registration). take i xs ++ record { clock = x.clock; resumed = None } ∷ regs_passed l) (drop-set xs i (record { clock = x.clock; resumed = None }))
    ∙ ap (λ (l : List Registration). take i xs ++ regs_passed l) (sym (left_is xs i x h is)) ∙ so

-- all of them
pub all_passed : (i : ℕ) (xs out : List Registration) → drop i xs ≡ [] → take i xs ++ regs_passed (drop i xs) ≡ out → xs ≡ out
all_passed i xs out none so =
    sym (append-nil xs)
    ∙ ap (λ (l : List Registration). l ++ []) (sym (take_all i xs (omega (arith, length-drop i xs, ap length none))))
    ∙ ap (λ (l : List Registration). take i xs ++ regs_passed l) (sym none) ∙ so

pub all_registrations : (test : ℕ → Bool) (i : ℕ) (xs out : List Registration) (cs : List CountValue) → drop i xs ≡ []
    → take i xs ++ regs_resumed_in_turn test (drop i xs) cs ≡ out → xs ≡ out
all_registrations test i xs out cs none so =
    sym (append-nil xs)
    ∙ ap (λ (l : List Registration). l ++ []) (sym (take_all i xs (omega (arith, length-drop i xs, ap length none))))
    ∙ ap (λ (l : List Registration). take i xs ++ regs_resumed_in_turn test l cs) (sym none) ∙ so
