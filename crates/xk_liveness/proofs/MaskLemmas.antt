-- Slots under masks: what is read where they agree, and what they are after a write.
use Rattle.std.proofs.Common.{◌≡◌, ℕ, zero, suc, Bool, true, false, not, ◌&&◌, ◌||◌, true≢false, cond, List, [], ◌∷◌, set, Option, Some}
use Rattle.std.proofs.Common.{None, option_map, is_some, refl, sym, ap, ◌∙◌, arith}
use Rattle.std.specs.Prelude.{slice_get}
use Rattle.xk_types.specs.declared.world.Value.{Value}
use Rattle.xk_types.specs.declared.world.Value.TheVariants as value
use Rattle.xk_liveness.specs.Liveness.{masked}

-- ---- tests

pub or_left : (p q : Bool) → p ≡ true → (p || q) ≡ true
or_left p q h = rw h refl

pub or_right : (p q : Bool) → q ≡ true → (p || q) ≡ true
or_right true q h = refl
or_right false q h = h

pub and_not : (p q : Bool) → p ≡ false → q ≡ true → (not p && q) ≡ true
and_not true q h g = absurd (true≢false h)
and_not false q h g = g

-- ---- lists

abbrev first_or : {X : Type 0} → X → List X → X
first_or d [] = d
first_or d (x ∷ xs) = x

abbrev rest_of : {X : Type 0} → List X → List X
rest_of [] = []
rest_of (x ∷ xs) = xs

abbrev is_nil : {X : Type 0} → List X → Bool
is_nil [] = true
is_nil (x ∷ xs) = false

pub same_first : {X : Type 0} (x y : X) (xs ys : List X) → x ∷ xs ≡ y ∷ ys → x ≡ y
same_first x y xs ys h = ap (first_or x) h

pub same_rest : {X : Type 0} (x y : X) (xs ys : List X) → x ∷ xs ≡ y ∷ ys → xs ≡ ys
same_rest x y xs ys h = ap rest_of h

pub nil_cons : {X : Type 0} (x : X) (xs : List X) → [] ≡ x ∷ xs → ⊥
nil_cons x xs h = true≢false (ap is_nil h)

-- ---- masks

get_masked : (L : ℕ → Bool) (xs : List Value) (s : ℕ)
    → slice_get (masked L xs) s ≡ option_map (λ (x : Value). cond (L s) x value.Unset) (slice_get xs s)
get_masked L [] s = refl
get_masked L (x ∷ xs) zero = refl
get_masked L (x ∷ xs) (suc s) = get_masked (λ k. L (suc k)) xs s

get_live : (L : ℕ → Bool) (xs : List Value) (s : ℕ) → L s ≡ true → slice_get (masked L xs) s ≡ slice_get xs s
get_live L xs s h = get_masked L xs s ∙ ap (λ b. option_map (λ (x : Value). cond b x value.Unset) (slice_get xs s)) h ∙ by (slice_get xs s)
  where
    by : (o : Option Value) → option_map (λ (x : Value). x) o ≡ o
    by None = refl
    by (Some x) = refl

-- what is live is the same
pub agree_get : (L : ℕ → Bool) (xs ys : List Value) → masked L xs ≡ masked L ys → (s : ℕ) → L s ≡ true → slice_get xs s ≡ slice_get ys s
agree_get L xs ys h s live = sym (get_live L xs s live) ∙ ap (λ zs. slice_get zs s) h ∙ get_live L ys s live

some_masked : (L : ℕ → Bool) (xs : List Value) (s : ℕ) → is_some (slice_get (masked L xs) s) ≡ is_some (slice_get xs s)
some_masked L xs s = ap is_some (get_masked L xs s) ∙ by (slice_get xs s)
  where
    by : (o : Option Value) → is_some (option_map (λ (x : Value). cond (L s) x value.Unset) o) ≡ is_some o
    by None = refl
    by (Some x) = refl

-- and the slots are as many
pub agree_some : (L : ℕ → Bool) (xs ys : List Value) → masked L xs ≡ masked L ys → (s : ℕ)
    → is_some (slice_get xs s) ≡ is_some (slice_get ys s)
agree_some L xs ys h s = sym (some_masked L xs s) ∙ ap (λ zs. is_some (slice_get zs s)) h ∙ some_masked L ys s

masked_head : (l k : Bool) (x : Value) → (k ≡ true → l ≡ true) → cond k (cond l x value.Unset) value.Unset ≡ cond k x value.Unset
masked_head l true x h = rw (h refl) refl
masked_head l false x h = refl

masked_less : (L K : ℕ → Bool) → ((s : ℕ) → K s ≡ true → L s ≡ true) → (xs : List Value) → masked K (masked L xs) ≡ masked K xs
masked_less L K h [] = refl
masked_less L K h (x ∷ xs) =
    λ i. masked_head (L 0) (K 0) x (h 0) i ∷ masked_less (λ s. L (suc s)) (λ s. K (suc s)) (λ s k. h (suc s) k) xs i

masked_set : (L K : ℕ → Bool) (xs : List Value) (d : ℕ) (x : Value) → ((s : ℕ) → K s ≡ true → (s ≡ d → ⊥) → L s ≡ true)
    → masked K (set (masked L xs) d x) ≡ masked K (set xs d x)
masked_set L K [] d x h = refl
masked_set L K (y ∷ ys) zero x h = ap (λ zs. cond (K 0) x value.Unset ∷ zs)
    (masked_less (λ s. L (suc s)) (λ s. K (suc s)) (λ s k. h (suc s) k (λ e. omega (arith, e))) ys)
masked_set L K (y ∷ ys) (suc d) x h =
    λ i. masked_head (L 0) (K 0) y (λ k. h 0 k (λ e. omega (arith, e))) i
    ∷ masked_set (λ s. L (suc s)) (λ s. K (suc s)) ys d x (λ s k n. h (suc s) k (λ e. n (omega (arith, e)))) i

-- what agrees agrees where less is live
pub agree_less : (L K : ℕ → Bool) → ((s : ℕ) → K s ≡ true → L s ≡ true) → (xs ys : List Value) → masked L xs ≡ masked L ys
    → masked K xs ≡ masked K ys
agree_less L K h xs ys e = sym (masked_less L K h xs) ∙ ap (masked K) e ∙ masked_less L K h ys

-- and after a write of a slot that need not have been live
pub agree_set : (L K : ℕ → Bool) (d : ℕ) (x : Value) → ((s : ℕ) → K s ≡ true → (s ≡ d → ⊥) → L s ≡ true)
    → (xs ys : List Value) → masked L xs ≡ masked L ys → masked K (set xs d x) ≡ masked K (set ys d x)
agree_set L K d x h xs ys e = sym (masked_set L K xs d x h) ∙ ap (λ zs. masked K (set zs d x)) e ∙ masked_set L K ys d x h

-- where all is live nothing is masked
pub masked_none : (xs : List Value) → masked (λ s. true) xs ≡ xs
masked_none [] = refl
masked_none (x ∷ xs) = ap (λ zs. x ∷ zs) (masked_none xs)
