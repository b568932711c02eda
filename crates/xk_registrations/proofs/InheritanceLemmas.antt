-- What a new activity takes on of its starter's registrations.
use Rattle.std.proofs.Common.{◌≡◌, ℕ, zero, suc, ◌+◌, ◌<◌, ◌==◌, ◌||◌, Bool, true, false, cond, List, [], ◌∷◌, ◌++◌, length, get_or, take, is_none, Option, Some, None, refl, sym, ap, ◌∙◌, arith, add-one}
use Rattle.std.specs.List.{list_any}
use Rattle.std.specs.Option.{option_to_list}
use Rattle.std.proofs.lemmas.Bool.{eqb-true}
use Rattle.std.proofs.lemmas.Option.{none-some}
use Rattle.std.proofs.Math.Bool.{or-false}
use Rattle.xk_types.specs.declared.world.Value.{Value}
use Rattle.xk_types.specs.declared.world.Value.TheVariants as value
use Rattle.xk_types.specs.Step.{names_clock, is_given}
use Rattle.xk_registrations.specs.View.{Registration, reg_on, AreDistinct}
use Rattle.xk_registrations.specs.RegistrationChanges.{with_taken, IsGiven}
use Rattle.xk_registrations.proofs.StandingLemmas.{reg_clock}
use Rattle.xk_registrations.proofs.NewClockLemmas.{distinct_push}

-- ---- lists, one behind the other

reg_behind : (xs ys : List Registration) (k : ℕ) → reg_on xs k ≡ None → reg_on (xs ++ ys) k ≡ reg_on ys k
reg_behind [] ys k none = refl
reg_behind (x ∷ xs) ys k none = go (x.clock == k) none (reg_behind xs ys k)
  where
    go : (b : Bool) → cond b (Some x) (reg_on xs k) ≡ None → (reg_on xs k ≡ None → reg_on (xs ++ ys) k ≡ reg_on ys k) → cond b (Some x) (reg_on (xs ++ ys) k) ≡ reg_on ys k
    go true h later = absurd (none-some x (sym h))
    go false h later = later h

reg_before : (xs ys : List Registration) (k : ℕ) → reg_on ys k ≡ None → reg_on (xs ++ ys) k ≡ reg_on xs k
reg_before [] ys k none = none
reg_before (x ∷ xs) ys k none = ap (cond (x.clock == k) (Some x)) (reg_before xs ys k none)

-- one registration on clock c, or none
reg_one : (o : Option Registration) (c k : ℕ) → ((r : Registration) → o ≡ Some r → r.clock ≡ c) → reg_on (option_to_list o) k ≡ cond (c == k) o None
reg_one None c k on = go (c == k)
  where
    nobody : Option Registration
    nobody = None

    go : (b : Bool) → nobody ≡ cond b nobody nobody
    go true = refl
    go false = refl
reg_one (Some r) c k on = ap (λ n. cond (n == k) (Some r) None) (on r refl)

-- ---- one value more

taken_given : (from rs : List Registration) (before : ℕ → Bool) (v : Value) → IsGiven before from rs → IsGiven (λ k. before k || names_clock k v) from (with_taken from v rs)
taken_given from rs before value.Unset is k = is k ∙ nothing (before k)
  where
    nothing : (b : Bool) → cond b (reg_on from k) None ≡ cond (b || false) (reg_on from k) None
    nothing true = refl
    nothing false = refl
taken_given from rs before (value.Number n) is k = is k ∙ nothing (before k)
  where
    nothing : (b : Bool) → cond b (reg_on from k) None ≡ cond (b || false) (reg_on from k) None
    nothing true = refl
    nothing false = refl
taken_given from rs before (value.Clock c) is k = go (reg_on rs c) refl (c == k) refl
  where
    nothing : (b : Bool) → cond b (reg_on from k) None ≡ cond (b || false) (reg_on from k) None
    nothing true = refl
    nothing false = refl

    all : (b : Bool) → reg_on from k ≡ cond (b || true) (reg_on from k) None
    all true = refl
    all false = refl

    there : (r : Registration) → reg_on rs k ≡ Some r → (b : Bool) → reg_on rs k ≡ cond b (reg_on from k) None → reg_on rs k ≡ cond (b || true) (reg_on from k) None
    there r at true h = h
    there r at false h = absurd (none-some r (sym h ∙ at))

    one : (e : Bool) → (c == k) ≡ e → reg_on (option_to_list (reg_on from c)) k ≡ cond e (reg_on from c) None
    one e is = reg_one (reg_on from c) c k (λ r. reg_clock from c r) ∙ ap (λ b. cond b (reg_on from c) None) is

    go : (o : Option Registration) → reg_on rs c ≡ o → (e : Bool) → (c == k) ≡ e
        → reg_on (cond (is_none o) (rs ++ option_to_list (reg_on from c)) rs) k ≡ cond (before k || e) (reg_on from k) None
    go (Some r) at false e = is k ∙ nothing (before k)
    go (Some r) at true e = there r (ap (reg_on rs) (sym (eqb-true c k e)) ∙ at) (before k) (is k)
    go None at false e = reg_before rs (option_to_list (reg_on from c)) k (one false e) ∙ is k ∙ nothing (before k)
    go None at true e =
        reg_behind rs (option_to_list (reg_on from c)) k (ap (reg_on rs) (sym (eqb-true c k e)) ∙ at)
        ∙ one true e ∙ ap (reg_on from) (eqb-true c k e) ∙ all (before k)

-- no two are on one clock still
pub taken_distinct : (rs from : List Registration) (c : ℕ) (r : Registration) → AreDistinct rs → None ≡ reg_on rs c → Some r ≡ reg_on from c → AreDistinct (rs ++ r ∷ [])
taken_distinct rs from c r distinct none is = distinct_push rs r distinct (ap (reg_on rs) (reg_clock from c r (sym is)) ∙ sym none)

-- ---- all of them

or_further : (a b c : Bool) → (a || (b || c)) ≡ ((a || b) || c)
or_further true b c = refl
or_further false b c = refl

any_more : (test : Value → Bool) (xs : List Value) (i : ℕ) (x : Value) → i < length xs → x ≡ get_or xs i x → list_any test (take (i + 1) xs) ≡ (list_any test (take i xs) || test x)
any_more test xs i x h is = rw add-one (go xs i h is)
  where
    go : (xs : List Value) (i : ℕ) → i < length xs → x ≡ get_or xs i x → list_any test (take (suc i) xs) ≡ (list_any test (take i xs) || test x)
    go [] i h is = absurd (omega arith)
    go (y ∷ xs) zero h is = or-false (test y) ∙ ap test (sym is)
    go (y ∷ xs) (suc i) h is = ap (λ b. test y || b) (go xs i (omega arith) is) ∙ or_further (test y) (list_any test (take i xs)) (test x)

pub more_given : (from rs : List Registration) (values : List Value) (i : ℕ) (v : Value) → i < length values → v ≡ get_or values i v
    → IsGiven (is_given (take i values)) from rs → IsGiven (is_given (take (i + 1) values)) from (with_taken from v rs)
more_given from rs values i v h at is k =
    taken_given from rs (is_given (take i values)) v is k
    ∙ ap (λ b. cond b (reg_on from k) None) (sym (any_more (names_clock k) values i v h at))
