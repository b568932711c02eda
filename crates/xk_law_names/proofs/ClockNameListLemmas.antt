-- Two neighbours among the clocks that have changed places: what goes with them.
use Rattle.std.proofs.Common.{◌≡◌, ℕ, zero, suc, ◌<◌, Bool, cond, List, [], ◌∷◌, map, length, Some, refl, ap, arith}
use Rattle.std.specs.Prelude.{slice_get}
use Rattle.xk_types.specs.declared.world.Value.{Value}
use Rattle.xk_types.specs.declared.world.Value.TheVariants as value
use Rattle.xk_types.specs.declared.world.Standing.{Standing}
use Rattle.xk_types.specs.World.{Clock}
use Rattle.xk_types.specs.Step.{moved, moved_on, joined, joined_on, only, names_clock, is_given}
use Rattle.xk_law_names.specs.ClockNames.{value_renamed}
use Rattle.xk_law_names.specs.ActivityNames.{neighbours_swapped, renamed}
use Rattle.xk_law_names.proofs.ActivityNameListLemmas.{renamed_same}

-- what holds of each holds of each
pub each-swapped : {X : Type 0} (P : X → Type 0) (k : ℕ) (xs : List X) → ((j : ℕ) (x : X) → slice_get xs j ≡ Some x → P x)
    → (j : ℕ) (x : X) → slice_get (neighbours_swapped k xs) j ≡ Some x → P x
each-swapped P k [] h j x at = h j x at
each-swapped P zero (y ∷ []) h j x at = h j x at
each-swapped P zero (y ∷ z ∷ xs) h zero x at = h 1 x at
each-swapped P zero (y ∷ z ∷ xs) h (suc zero) x at = h 0 x at
each-swapped P zero (y ∷ z ∷ xs) h (suc (suc j)) x at = h (suc (suc j)) x at
each-swapped P (suc k) (y ∷ xs) h zero x at = h 0 x at
each-swapped P (suc k) (y ∷ xs) h (suc j) x at = each-swapped P k xs (λ i z g. h (suc i) z g) j x at

-- ---- numbers

-- one past both stays
pub renamed_beyond : (k c : ℕ) → suc k < c → renamed k c ≡ c
renamed_beyond zero zero h = absurd (omega arith)
renamed_beyond zero (suc zero) h = absurd (omega arith)
renamed_beyond zero (suc (suc c)) h = refl
renamed_beyond (suc k) zero h = refl
renamed_beyond (suc k) (suc c) h = ap suc (renamed_beyond k c (omega arith))

-- the two that are exchanged
pub renamed_first : (k : ℕ) → renamed k k ≡ suc k
renamed_first zero = refl
renamed_first (suc k) = ap suc (renamed_first k)

pub renamed_second : (k : ℕ) → renamed k (suc k) ≡ k
renamed_second zero = refl
renamed_second (suc k) = ap suc (renamed_second k)

-- ---- clocks

pub moved-swapped : (a k : ℕ) (f g : ℕ → Standing → Standing) (cs : List Clock) → suc k < length cs → ((c : ℕ) → g (renamed k c) ≡ f c)
    → moved a g (neighbours_swapped k cs) ≡ neighbours_swapped k (moved a f cs)
moved-swapped a k f g [] h e = refl
moved-swapped a zero f g (x ∷ []) h e = absurd (omega arith)
moved-swapped a zero f g (x ∷ y ∷ cs) h e = λ i. moved_on a (e 1 i) y ∷ moved_on a (e 0 i) x ∷ moved a (λ c. e (suc (suc c)) i) cs
moved-swapped a (suc k) f g (x ∷ cs) h e =
    λ i. moved_on a (e 0 i) x ∷ moved-swapped a k (λ c. f (suc c)) (λ c. g (suc c)) cs (omega arith) (λ c. e (suc c)) i

pub joined-swapped : (a k : ℕ) (f g : ℕ → Bool) (cs : List Clock) → suc k < length cs → ((c : ℕ) → g (renamed k c) ≡ f c)
    → joined a g (neighbours_swapped k cs) ≡ neighbours_swapped k (joined a f cs)
joined-swapped a k f g [] h e = refl
joined-swapped a zero f g (x ∷ []) h e = absurd (omega arith)
joined-swapped a zero f g (x ∷ y ∷ cs) h e = λ i. joined_on a (e 1 i) y ∷ joined_on a (e 0 i) x ∷ joined a (λ c. e (suc (suc c)) i) cs
joined-swapped a (suc k) f g (x ∷ cs) h e =
    λ i. joined_on a (e 0 i) x ∷ joined-swapped a k (λ c. f (suc c)) (λ c. g (suc c)) cs (omega arith) (λ c. e (suc c)) i

pub only-swapped : (k c : ℕ) (f : Standing → Standing) (d : ℕ) → only (renamed k c) f (renamed k d) ≡ only c f d
only-swapped k c f d = λ i s. cond (renamed_same k d c i) (f s) s

names-swapped : (k c : ℕ) (v : Value) → names_clock (renamed k c) (value_renamed k v) ≡ names_clock c v
names-swapped k c value.Unset = refl
names-swapped k c (value.Number n) = refl
names-swapped k c (value.Clock d) = renamed_same k d c

pub given-swapped : (k c : ℕ) (values : List Value) → is_given (map (value_renamed k) values) (renamed k c) ≡ is_given values c
given-swapped k c [] = refl
given-swapped k c (v ∷ values) = rw (names-swapped k c v, given-swapped k c values)
