-- Whom an answer names in a list.
use Rattle.std.proofs.Common.{◌≡◌, ◌∙◌, ℕ, zero, suc, ◌%◌, ◌≤◌, nat_le, Bool, true, false, cond, List, [], ◌∷◌, length, filter, Option, Some, None, slice_get, sym, ap, arith}
use Rattle.std.proofs.Math.Nat.{mod_self, mod-eq_of_lt}
use Rattle.std.proofs.lemmas.Option.{slice_get_within, get_or_from_slice_get}
use Rattle.xk_scheduler.specs.Choosers.{IsAloneIn, turn_of, turn_after}

-- the place of a member
pub at_place : (xs : List ℕ) (t a : ℕ) → Some a ≡ slice_get xs t → slice_get xs (t % length xs) ≡ Some a
at_place xs t a e = ap (slice_get xs) (mod-eq_of_lt (slice_get_within xs t a (sym e))) ∙ sym e

none_there : (xs : List ℕ) (t : ℕ) → None ≡ slice_get xs t → length xs ≤ t
none_there [] t e = omega arith
none_there (x ∷ xs) zero e = cc
none_there (x ∷ xs) (suc t) e = (let h : length xs ≤ t = none_there xs t e in omega (arith, h))

-- the place behind the last: the turn begins again
pub at_end : (xs : List ℕ) (t a : ℕ) → None ≡ slice_get xs t → t ≤ length xs → Some a ≡ slice_get xs 0 → slice_get xs (t % length xs) ≡ Some a
at_end xs t a none le e =
    (let is : t ≡ length xs = omega (arith, none_there xs t none, le) in ap (λ k. slice_get xs (k % length xs)) is ∙ ap (slice_get xs) (mod_self (length xs)) ∙ sym e)

few_kept : (p : ℕ → Bool) (xs : List ℕ) → length (filter p xs) ≤ length xs
few_kept p [] = omega arith
few_kept p (x ∷ xs) = on (p x) (few_kept p xs)
  where
    on : (b : Bool) → length (filter p xs) ≤ length xs → length (cond b (x ∷ filter p xs) (filter p xs)) ≤ length (x ∷ xs)
    on true h = omega (arith, h)
    on false h = omega (arith, h)

pub turn_within : (o : Option ℕ) (xs : List ℕ) → turn_of o xs ≤ length xs
turn_within None xs = omega arith
turn_within (Some taken) xs = few_kept (λ a. nat_le a taken) xs

-- one that is alone has its turn again
pub alone_again : (x : ℕ) (xs : List ℕ) → IsAloneIn xs x → turn_after (Some x) xs ≡ Some x
alone_again x xs h =
    ap (λ k. Some k) (get_or_from_slice_get xs (turn_of (Some x) xs % length xs) x 0
    (at_end xs (turn_of (Some x) xs) x (sym h.greatest) (turn_within (Some x) xs) (sym h.least)))
