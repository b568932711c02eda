-- Members as lists: what a search finds stands at a place of the list.
use Rattle.std.proofs.Common.{◌≡◌, ◌∙◌, ℕ, zero, suc, ◌+◌, ◌-◌, ◌<◌, ◌≤◌, Bool, true, false, nat_le, List, [], ◌∷◌, length, filter, Option, Some, None, slice_get, ◌⊎◌, inl, inr, refl, sym, ap, subst, arith}
use Rattle.std.proofs.lemmas.Bool.{cases_eq, le-leb, lt-leb}
use Rattle.xk_collections.specs.NumberSets.{numbers_from, place_above}
use Rattle.xk_collections.specs.BitWords.{IsNext, IsLast}

-- the first of those that pass a test
first_of : (p : ℕ → Bool) (a n : ℕ) (r : Option ℕ) → IsNext p a (a + n) r → r ≡ slice_get (filter p (numbers_from a n)) 0
first_of p a zero None h = refl
first_of p a zero (Some r) h = absurd (omega (arith, h.0, h.1))
first_of p a (suc n) None h = rw (h a (omega arith) (omega arith)) (first_of p (suc a) n None (λ j from to. h j (omega arith) (omega arith)))
first_of p a (suc n) (Some r) h =
    of (λ lt. first_of p (suc a) n (Some r) (lt, omega (arith, h.1), h.2, λ j from to. h.3 j (omega arith) to)) (cases_eq a r)
  where
    of : (suc a ≤ r → Some r ≡ slice_get (filter p (numbers_from (suc a) n)) 0) → (a ≡ r) ⊎ (a ≡ r → ⊥)
        → Some r ≡ slice_get (filter p (numbers_from a (suc n))) 0
    of later (inl e) = rw (subst (λ (x : ℕ). p x ≡ true) (sym e) h.2) (ap (λ (x : ℕ). Some x) (sym e))
    of later (inr ne) = rw (h.3 a (omega arith) (omega (arith, h.0, ne))) (later (omega (arith, h.0, ne)))

pub first_in : (p : ℕ → Bool) (n : ℕ) (r : Option ℕ) → IsNext p 0 n r → r ≡ slice_get (filter p (numbers_from 0 n)) 0
first_in p n r h = first_of p 0 n r (let e : n ≡ 0 + n = omega arith in subst (λ (x : ℕ). IsNext p 0 x r) e h)

none_up_to : (p : ℕ → Bool) (k a n : ℕ) → k < a → filter (λ x. nat_le x k) (filter p (numbers_from a n)) ≡ []
none_up_to p k a zero lt = refl
none_up_to p k a (suc n) lt = of (none_up_to p k (suc a) n (omega arith)) (p a) refl
  where
    of : filter (λ x. nat_le x k) (filter p (numbers_from (suc a) n)) ≡ [] → (b : Bool) → p a ≡ b
        → filter (λ x. nat_le x k) (filter p (numbers_from a (suc n))) ≡ []
    of later true e = rw (e, lt-leb a k lt) later
    of later false e = rw e later

-- the first of them above a number
above_from : (p : ℕ → Bool) (k a n : ℕ) (r : Option ℕ) → a ≤ suc k → IsNext p (suc k) (a + n) r
    → r ≡ slice_get (filter p (numbers_from a n)) (place_above k (filter p (numbers_from a n)))
above_from p k a zero None le h = refl
above_from p k a zero (Some r) le h = absurd (omega (arith, h.0, h.1))
above_from p k a (suc n) r le h =
    of (λ lt. above_from p k (suc a) n r lt (let e : a + suc n ≡ suc a + n = omega arith in subst (λ (x : ℕ). IsNext p (suc k) x r) e h)) (cases_eq a (suc k))
  where
    on : (b : Bool) → p a ≡ b → a ≤ k → r ≡ slice_get (filter p (numbers_from (suc a) n)) (place_above k (filter p (numbers_from (suc a) n)))
        → r ≡ slice_get (filter p (numbers_from a (suc n))) (place_above k (filter p (numbers_from a (suc n))))
    on true e below later = rw (e, le-leb a k below) later
    on false e below later = rw e later

    of : (suc a ≤ suc k → r ≡ slice_get (filter p (numbers_from (suc a) n)) (place_above k (filter p (numbers_from (suc a) n)))) → (a ≡ suc k) ⊎ (a ≡ suc k → ⊥)
        → r ≡ slice_get (filter p (numbers_from a (suc n))) (place_above k (filter p (numbers_from a (suc n))))
    of later (inl e) =
        rw (none_up_to p k a (suc n) (omega arith)) (first_of p a (suc n) r (subst (λ (x : ℕ). IsNext p x (a + suc n) r) (sym e) h))
    of later (inr ne) = on (p a) refl (omega (arith, ne, le)) (later (omega (arith, ne, le)))

pub above_of : (p : ℕ → Bool) (k n : ℕ) (r : Option ℕ) → IsNext p (k + 1) n r
    → r ≡ slice_get (filter p (numbers_from 0 n)) (place_above k (filter p (numbers_from 0 n)))
above_of p k n r h =
    let e : n ≡ 0 + n = omega arith in
    let f : k + 1 ≡ suc k = omega arith in
    above_from p k 0 n r (omega arith) (subst (λ (x : ℕ). IsNext p (suc k) x r) e (subst (λ (x : ℕ). IsNext p x n r) f h))

pub none_of : (p : ℕ → Bool) (a n : ℕ) → ((j : ℕ) → a ≤ j → j < a + n → p j ≡ false) → filter p (numbers_from a n) ≡ []
none_of p a zero h = refl
none_of p a (suc n) h = rw (h a (omega arith) (omega arith)) (none_of p (suc a) n (λ j from to. h j (omega arith) (omega arith)))

there_some : (xs : List ℕ) (r : ℕ) → Some r ≡ slice_get xs (length xs - 1) → 0 < length xs
there_some [] r e = cc
there_some (x ∷ xs) r e = omega arith

behind_first : (a : ℕ) (xs : List ℕ) → 0 < length xs → slice_get (a ∷ xs) (length (a ∷ xs) - 1) ≡ slice_get xs (length xs - 1)
behind_first a [] lt = absurd (omega arith)
behind_first a (x ∷ xs) lt =
    let e : length (a ∷ x ∷ xs) - 1 ≡ suc (length xs) = omega arith in
    let f : length (x ∷ xs) - 1 ≡ length xs = omega arith in
    rw (e, f) refl

-- the last of them
last_from : (p : ℕ → Bool) (a n r : ℕ) → IsLast p a (a + n) (Some r) → Some r ≡ slice_get (filter p (numbers_from a n)) (length (filter p (numbers_from a n)) - 1)
last_from p a zero r h = absurd (omega (arith, h.0, h.1))
last_from p a (suc n) r h =
    of (λ lt. last_from p (suc a) n r (lt, omega (arith, h.1), h.2, λ j from to. h.3 j from (omega arith))) (cases_eq a r)
  where
    on : (b : Bool) → p a ≡ b → Some r ≡ slice_get (filter p (numbers_from (suc a) n)) (length (filter p (numbers_from (suc a) n)) - 1)
        → Some r ≡ slice_get (filter p (numbers_from a (suc n))) (length (filter p (numbers_from a (suc n))) - 1)
    on true e later =
        rw e (later ∙ sym (behind_first a (filter p (numbers_from (suc a) n)) (there_some (filter p (numbers_from (suc a) n)) r later)))
    on false e later = rw e later

    of : (suc a ≤ r → Some r ≡ slice_get (filter p (numbers_from (suc a) n)) (length (filter p (numbers_from (suc a) n)) - 1)) → (a ≡ r) ⊎ (a ≡ r → ⊥)
        → Some r ≡ slice_get (filter p (numbers_from a (suc n))) (length (filter p (numbers_from a (suc n))) - 1)
    of later (inl e) =
        rw (subst (λ (x : ℕ). p x ≡ true) (sym e) h.2, none_of p (suc a) n (λ j from to. h.3 j (omega (arith, e)) (omega arith)))
        (ap (λ (x : ℕ). Some x) (sym e))
    of later (inr ne) = on (p a) refl (later (omega (arith, h.0, ne)))

pub last_of : (p : ℕ → Bool) (n : ℕ) (r : Option ℕ) → IsLast p 0 n r → r ≡ slice_get (filter p (numbers_from 0 n)) (length (filter p (numbers_from 0 n)) - 1)
last_of p n None h = rw (none_of p 0 n (λ j from to. h j from (omega arith))) refl
last_of p n (Some r) h = last_from p 0 n r (h.0, omega (arith, h.1), h.2, λ j from to. h.3 j from (omega arith))

-- more numbers, none of which passes the test
longer_from : (p : ℕ → Bool) (a n k : ℕ) → ((j : ℕ) → a + n ≤ j → p j ≡ false) → filter p (numbers_from a (n + k)) ≡ filter p (numbers_from a n)
longer_from p a zero k h = let e : 0 + k ≡ k = omega arith in rw e (none_of p a k (λ j from to. h j (omega arith)))
longer_from p a (suc n) k h = of (longer_from p (suc a) n k (λ j from. h j (omega arith))) (p a) refl
  where
    of : filter p (numbers_from (suc a) (n + k)) ≡ filter p (numbers_from (suc a) n) → (b : Bool) → p a ≡ b
        → filter p (numbers_from a (suc n + k)) ≡ filter p (numbers_from a (suc n))
    of later b e = let s : suc n + k ≡ suc (n + k) = omega arith in rw s (on b e later)
      where
        on : (b : Bool) → p a ≡ b → filter p (numbers_from (suc a) (n + k)) ≡ filter p (numbers_from (suc a) n)
            → filter p (a ∷ numbers_from (suc a) (n + k)) ≡ filter p (a ∷ numbers_from (suc a) n)
        on true e later = rw e (ap (λ l. a ∷ l) later)
        on false e later = rw e later

pub longer : (p : ℕ → Bool) (n k : ℕ) → ((j : ℕ) → n ≤ j → p j ≡ false) → filter p (numbers_from 0 (n + k)) ≡ filter p (numbers_from 0 n)
longer p n k h = longer_from p 0 n k (λ j from. h j (omega arith))
