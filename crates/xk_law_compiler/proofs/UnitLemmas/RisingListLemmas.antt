-- Numbers that rise along a list: each is less than all that are further on.
use Rattle.std.proofs.Common.{inl, inr, ℕ, suc, ◌<◌, List, [], ◌∷◌, ◌++◌, subst, arith}
use Rattle.std.specs.Prelude.{⊤}
use Rattle.std.specs.List.{AllPairs}
use Rattle.std.specs.List.Sorted.{IsStrictlyIncreasing}
use Rattle.std.proofs.lemmas.List.Kept.{AllPairs-from_increasing}
use Rattle.std.proofs.lemmas.Option.{slice_get_within, get_or_from_slice_get}
use Rattle.xk_names.specs.Scope.{Has}
use Rattle.xk_names.proofs.MembershipLemmas.{has_left, has_right}
use Rattle.xk_callgraph.proofs.CallPlaceLemmas.{place_of}

abbrev pub Rising : List ℕ → Type 0
Rising [] = ⊤
Rising (x ∷ xs) = ((y : ℕ) → Has xs y → x < y) × Rising xs

rises_on : (x : ℕ) (xs : List ℕ) → AllPairs (λ a b. a < b) (x ∷ xs) → AllPairs (λ a b. a < b) xs
rises_on x xs h i j d less within = h (suc i) (suc j) d (omega arith) (omega arith)

all_rising : (xs : List ℕ) → AllPairs (λ a b. a < b) xs → Rising xs
all_rising [] h = tt
all_rising (x ∷ xs) h = (above, all_rising xs (rises_on x xs h))
  where
    above : (y : ℕ) → Has xs y → x < y
    above y there =
        let k = place_of xs y there in
        let within = slice_get_within xs k.0 y k.1 in
        subst (λ n. x < n) (get_or_from_slice_get xs k.0 y 0 k.1) (h 0 (suc k.0) 0 (omega arith) (omega arith))

pub is_rising : (xs : List ℕ) → IsStrictlyIncreasing xs → Rising xs
is_rising xs h = all_rising xs (AllPairs-from_increasing xs h)

pub rising_left : (xs ys : List ℕ) → Rising (xs ++ ys) → Rising xs
rising_left [] ys h = tt
rising_left (x ∷ xs) ys h = (λ y there. h.0 y (has_left xs ys y there), rising_left xs ys h.1)

pub rising_right : (xs ys : List ℕ) → Rising (xs ++ ys) → Rising ys
rising_right [] ys h = h
rising_right (x ∷ xs) ys h = rising_right xs ys h.1

pub rising_apart : (xs ys : List ℕ) → Rising (xs ++ ys) → (a b : ℕ) → Has xs a → Has ys b → a < b
rising_apart [] ys h a b left right = absurd left
rising_apart (x ∷ xs) ys h a b (inl e) right = let less = h.0 b (has_right xs ys b right) in omega arith
rising_apart (x ∷ xs) ys h a b (inr left) right = rising_apart xs ys h.1 a b left right
