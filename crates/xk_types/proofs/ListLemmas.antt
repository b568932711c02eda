-- Lists by number: what a write of one element, a push and a map leave at each place; tests over a list, and sums.
use Rattle.std.proofs.Common.{◌≡◌, ℕ, zero, suc, ◌+◌, ◌<◌, ◌≤◌, max, Bool, true, false, ◌||◌, List, [], ◌∷◌, ◌++◌, map, length, set, Some, fold, replicate, refl, sym, ap, ◌∙◌, subst, arith, sum_by, get_or}
use Rattle.std.specs.Prelude.{slice_get}
use Rattle.std.specs.List.{list_any, list_all}
use Rattle.std.proofs.lemmas.List.Sums.{sum_by-set}
use Rattle.std.proofs.lemmas.Bool.{or_left, or_right, or_parts, true≢false}
use Rattle.std.proofs.lemmas.Option.{slice_get_within, get_or_from_slice_get, none-some, same_Some}

-- something holds of each element, under its number
abbrev pub Each : {X : Type 0} → (ℕ → X → Type 0) → List X → Type 0
Each {X} P xs = (i : ℕ) (x : X) → slice_get xs i ≡ Some x → P i x

-- two functions that agree everywhere are one
pub fun_ext : {A B : Type 0} (f g : A → B) → ((x : A) → f x ≡ g x) → f ≡ g
fun_ext f g h = λ i x. h x i

-- an element that is there
pub get_inside : {X : Type 0} (xs : List X) (k : ℕ) → k < length xs → (x : X) × (slice_get xs k ≡ Some x)
get_inside [] k h = absurd (omega arith)
get_inside (x ∷ xs) zero h = (x, refl)
get_inside (x ∷ xs) (suc k) h = get_inside xs k (omega arith)

-- a place holds one element
pub get_once : {X : Type 0} (xs : List X) (k : ℕ) (x y : X) → slice_get xs k ≡ Some x → slice_get xs k ≡ Some y → x ≡ y
get_once xs k x y p q = same_Some x y (sym p ∙ q)

-- the element that was written
pub get-set_same : {X : Type 0} (xs : List X) (i : ℕ) (x y : X) → slice_get xs i ≡ Some x → slice_get (set xs i y) i ≡ Some y
get-set_same [] i x y h = absurd (none-some x h)
get-set_same (z ∷ xs) zero x y h = refl
get-set_same (z ∷ xs) (suc i) x y h = get-set_same xs i x y h

-- all others stay
pub get-set_other : {X : Type 0} (xs : List X) (i j : ℕ) (y : X) → (j ≡ i → ⊥) → slice_get (set xs i y) j ≡ slice_get xs j
get-set_other [] i j y h = refl
get-set_other (z ∷ xs) zero zero y h = absurd (h refl)
get-set_other (z ∷ xs) zero (suc j) y h = refl
get-set_other (z ∷ xs) (suc i) zero y h = refl
get-set_other (z ∷ xs) (suc i) (suc j) y h = get-set_other xs i j y (λ e. h (ap suc e))

-- What holds of all others, and of the new element if there was an old one, holds of each after a write.
pub each_put : {X : Type 0} (P : ℕ → X → Type 0) (xs : List X) (a : ℕ) (new : X) → ((old : X) → slice_get xs a ≡ Some old → P a new)
    → ((i : ℕ) (x : X) → (i ≡ a → ⊥) → slice_get xs i ≡ Some x → P i x) → Each P (set xs a new)
each_put P [] a new here rest i x h = absurd (none-some x h)
each_put P (z ∷ xs) zero new here rest zero x h = subst (P zero) (same_Some new x h) (here z refl)
each_put P (z ∷ xs) zero new here rest (suc i) x h = rest (suc i) x (λ e. absurd (omega arith)) h
each_put P (z ∷ xs) (suc a) new here rest zero x h = rest zero x (λ e. absurd (omega arith)) h
each_put P (z ∷ xs) (suc a) new here rest (suc i) x h =
    each_put (λ j. P (suc j)) xs a new here (λ j y ne. rest (suc j) y (λ e. ne (omega arith))) i x h

-- what holds of the new element and of all others holds of each after a write
pub each_set : {X : Type 0} (P : ℕ → X → Type 0) (xs : List X) (a : ℕ) (old new : X) → slice_get xs a ≡ Some old
    → P a new → ((i : ℕ) (x : X) → (i ≡ a → ⊥) → slice_get xs i ≡ Some x → P i x) → Each P (set xs a new)
each_set P xs a old new at here rest = each_put P xs a new (λ z h. here) rest

-- what holds of each and of the new element holds of each after a push
pub each_push : {X : Type 0} (P : ℕ → X → Type 0) (xs : List X) (new : X) → Each P xs → P (length xs) new → Each P (xs ++ new ∷ [])
each_push P [] new all here zero x h = subst (P zero) (same_Some new x h) here
each_push P [] new all here (suc i) x h = absurd (none-some x h)
each_push P (z ∷ xs) new all here zero x h = all zero x h
each_push P (z ∷ xs) new all here (suc i) x h = each_push (λ j. P (suc j)) xs new (λ j y. all (suc j) y) here i x h

-- what holds of each image holds of each element of the map
pub each_map : {X Y : Type 0} (f : X → Y) (P : ℕ → Y → Type 0) (xs : List X) → Each (λ i x. P i (f x)) xs → Each P (map f xs)
each_map f P [] all i y h = absurd (none-some y h)
each_map f P (x ∷ xs) all zero y h = subst (P zero) (same_Some (f x) y h) (all zero x refl)
each_map f P (x ∷ xs) all (suc i) y h = each_map f (λ j. P (suc j)) xs (λ j z. all (suc j) z) i y h

-- the element that was pushed
pub get_push : {X : Type 0} (xs : List X) (y : X) → slice_get (xs ++ y ∷ []) (length xs) ≡ Some y
get_push [] y = refl
get_push (x ∷ xs) y = get_push xs y

-- all others stay
pub get-push_other : {X : Type 0} (xs : List X) (y : X) (k : ℕ) → (k ≡ length xs → ⊥) → slice_get (xs ++ y ∷ []) k ≡ slice_get xs k
get-push_other [] y zero h = absurd (h refl)
get-push_other [] y (suc k) h = refl
get-push_other (x ∷ xs) y zero h = refl
get-push_other (x ∷ xs) y (suc k) h = get-push_other xs y k (λ e. h (ap suc e))

-- equal elements are equal
pub get-replicate : {X : Type 0} (n : ℕ) (y x : X) (s : ℕ) → slice_get (replicate n y) s ≡ Some x → y ≡ x
get-replicate zero y x s h = absurd (none-some x h)
get-replicate (suc n) y x zero h = same_Some y x h
get-replicate (suc n) y x (suc s) h = get-replicate n y x s h

-- an element of the first of two lists
pub get-append_left : {X : Type 0} (xs ys : List X) (k : ℕ) (x : X) → slice_get xs k ≡ Some x → slice_get (xs ++ ys) k ≡ Some x
get-append_left [] ys k x h = absurd (none-some x h)
get-append_left (z ∷ xs) ys zero x h = h
get-append_left (z ∷ xs) ys (suc k) x h = get-append_left xs ys k x h

-- what holds of each, and of an element at each place behind them, holds of each after a filling with that element
pub each_filled : {X : Type 0} (P : ℕ → X → Type 0) (xs : List X) (n : ℕ) (y : X) → Each P xs → ((s : ℕ) → length xs ≤ s → P s y) → Each P (xs ++ replicate n y)
each_filled P [] n y all behind s x h = subst (P s) (get-replicate n y x s h) (behind s (omega arith))
each_filled P (z ∷ xs) n y all behind zero x h = all zero x h
each_filled P (z ∷ xs) n y all behind (suc s) x h =
    each_filled (λ j. P (suc j)) xs n y (λ j w. all (suc j) w) (λ j g. behind (suc j) (omega arith)) s x h

-- ---- tests over a list

-- one element that passes is enough
pub any_given : {X : Type 0} (test : X → Bool) (xs : List X) (k : ℕ) (x : X) → slice_get xs k ≡ Some x → test x ≡ true → list_any test xs ≡ true
any_given test [] k x h e = absurd (none-some x h)
any_given test (z ∷ xs) zero x h e = or_left (test z) (list_any test xs) (ap test (same_Some z x h) ∙ e)
any_given test (z ∷ xs) (suc k) x h e = or_right (test z) (list_any test xs) (any_given test xs k x h e)

-- an element that passes
pub any_found : {X : Type 0} (test : X → Bool) (xs : List X) → list_any test xs ≡ true → (k : ℕ) × (x : X) × (slice_get xs k ≡ Some x) × (test x ≡ true)
any_found test [] h = absurd (grind arith)
any_found {X} test (x ∷ xs) h = go (test x) refl (any_found test xs) h
  where
    go : (b : Bool) → test x ≡ b → (list_any test xs ≡ true → (k : ℕ) × (y : X) × (slice_get xs k ≡ Some y) × (test y ≡ true))
        → (b || list_any test xs) ≡ true → (k : ℕ) × (y : X) × (slice_get (x ∷ xs) k ≡ Some y) × (test y ≡ true)
    go true e later g = (zero, x, refl, e)
    go false e later g = let r = later g in (suc r.0, r.1, r.2, r.3)

-- all pass
pub all_given : {X : Type 0} (test : X → Bool) (xs : List X) → Each (λ k x. test x ≡ true) xs → list_all test xs ≡ true
all_given test [] h = refl
all_given test (x ∷ xs) h = rw (h zero x refl) (all_given test xs (λ k y. h (suc k) y))

-- ---- sums and the greatest

-- a fold of `max` is no less than its start
max_start : (xs : List ℕ) (s : ℕ) → s ≤ fold max s xs
max_start [] s = omega arith
max_start (x ∷ xs) s = let h = max_start xs (max s x) in omega arith

-- nor than any element
pub max_each : (xs : List ℕ) (s i x : ℕ) → slice_get xs i ≡ Some x → x ≤ fold max s xs
max_each [] s i x h = absurd (none-some x h)
max_each (y ∷ xs) s zero x h = let g = max_start xs (max s y) in let e = same_Some y x h in omega arith
max_each (y ∷ xs) s (suc i) x h = max_each xs (max s y) i x h

-- a sum after a write
pub sum_set : {X : Type 0} (f : X → ℕ) (xs : List X) (a : ℕ) (old new : X) → slice_get xs a ≡ Some old → sum_by f (set xs a new) + f old ≡ sum_by f xs + f new
sum_set f xs a old new h = rw (get_or_from_slice_get xs a old old h) at (sum_by-set f xs a new old (slice_get_within xs a old h))

-- ---- tests at a place, or past the end

-- where none passes, and the default doesn't, this one doesn't
pub none_at : {X : Type 0} (test : X → Bool) (xs : List X) (i : ℕ) (d : X) → list_any test xs ≡ false → test d ≡ false → test (get_or xs i d) ≡ false
none_at test [] i d h g = g
none_at test (x ∷ xs) zero d h g = (or_parts (test x) (list_any test xs) h).0
none_at test (x ∷ xs) (suc i) d h g = none_at test xs i d (or_parts (test x) (list_any test xs) h).1 g

-- one place that passes is enough, where the default doesn't
pub any_at : {X : Type 0} (test : X → Bool) (xs : List X) (i : ℕ) (d : X) → test d ≡ false → test (get_or xs i d) ≡ true → list_any test xs ≡ true
any_at test [] i d e h = absurd (true≢false (sym h ∙ e))
any_at test (x ∷ xs) zero d e h = or_left (test x) (list_any test xs) h
any_at test (x ∷ xs) (suc i) d e h = or_right (test x) (list_any test xs) (any_at test xs i d e h)
