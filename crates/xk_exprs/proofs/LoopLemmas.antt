-- What loops over tokens read.
use Rattle.std.proofs.Common.{◌≡◌, ℕ, zero, suc, ◌<◌, List, length, Option, Some, None, refl, ap, subst, ◌∙◌, arith}
use Rattle.xk_exprs.specs.Marks.{Mark}
use Rattle.xk_exprs.specs.ReaderCombinators.{◌>>=◌, Turn, Fails, Stops, Goes, turned, turns, loop}

-- the value of a step that did not fail
pub bind_some : {A B : Type 0} (o : Option A) (f : A → Option B) (y : B) → (o >>= f) ≡ Some y → (x : A) × (o ≡ Some x) × (f x ≡ Some y)
bind_some None f y e = absurd cc
bind_some (Some x) f y e = (x, refl, e)

-- a step that goes on takes a token
abbrev pub Shrinks : {A : Type 0} → (A → List Mark → Turn A) → Type 0
Shrinks {A = A} step = (x : A) (ts : List Mark) (y : A) (us : List Mark) → step x ts ≡ Goes y us → length us < length ts

-- more turns than tokens make no difference
turns_enough : {A : Type 0} (step : A → List Mark → Turn A) → Shrinks step → (n m : ℕ) (x : A) (ts : List Mark) → length ts < n → length ts < m
    → turns step n x ts ≡ turns step m x ts
unfolding turns
turns_enough step s zero m x ts h k = absurd (omega arith)
turns_enough step s (suc n) zero x ts h k = absurd (omega arith)
turns_enough {A = A} step s (suc n) (suc m) x ts h k = by (λ y us p q. turns_enough step s n m y us p q) (step x ts) refl
  where
    by : ((y : A) (us : List Mark) → length us < n → length us < m → turns step n y us ≡ turns step m y us) → (t : Turn A) → step x ts ≡ t
        → turned t x ts (turns step n) ≡ turned t x ts (turns step m)
    by ih Fails e = refl
    by ih Stops e = refl
    by ih (Goes y us) e = let lt = s x ts y us e in ih y us (omega arith) (omega arith)

pub loop_goes : {A : Type 0} (step : A → List Mark → Turn A) → Shrinks step → (x : A) (ts : List Mark) (y : A) (us : List Mark) → step x ts ≡ Goes y us
    → loop step x ts ≡ loop step y us
unfolding loop turns
loop_goes step s x ts y us e =
    let lt = s x ts y us e in
    ap (λ (t : Turn _). turned t x ts (turns step (length ts))) e ∙ turns_enough step s (length ts) (suc (length us)) y us lt (omega arith)

pub loop_stops : {A : Type 0} (step : A → List Mark → Turn A) (x : A) (ts : List Mark) → step x ts ≡ Stops → loop step x ts ≡ Some (x, ts)
unfolding loop turns
loop_stops step x ts e = ap (λ (t : Turn _). turned t x ts (turns step (length ts))) e

pub loop_fails : {A : Type 0} (step : A → List Mark → Turn A) (x : A) (ts : List Mark) → step x ts ≡ Fails → loop step x ts ≡ None
unfolding loop turns
loop_fails step x ts e = ap (λ (t : Turn _). turned t x ts (turns step (length ts))) e

-- what each turn keeps holds at the end
turns_keep : {A : Type 0} (step : A → List Mark → Turn A) (P : A → List Mark → Type 0)
    → ((x : A) (ts : List Mark) (y : A) (us : List Mark) → P x ts → step x ts ≡ Goes y us → P y us) → (n : ℕ) (x : A) (ts : List Mark) (r : A × List Mark)
    → P x ts → turns step n x ts ≡ Some r → P r.0 r.1
unfolding turns
turns_keep step P each zero x ts r p e = absurd cc
turns_keep {A = A} step P each (suc n) x ts r p e = by (λ y us. turns_keep step P each n y us r) (step x ts) refl e
  where
    by : ((y : A) (us : List Mark) → P y us → turns step n y us ≡ Some r → P r.0 r.1) → (t : Turn A) → step x ts ≡ t → turned t x ts (turns step n) ≡ Some r → P r.0 r.1
    by ih Fails h e = absurd cc
    by ih Stops h e = let q : (x, ts) ≡ r = cc in subst (λ (z : A × List Mark). P z.0 z.1) q p
    by ih (Goes y us) h e = ih y us (each x ts y us p h) e

pub loop_keeps : {A : Type 0} (step : A → List Mark → Turn A) (P : A → List Mark → Type 0)
    → ((x : A) (ts : List Mark) (y : A) (us : List Mark) → P x ts → step x ts ≡ Goes y us → P y us) → (x : A) (ts : List Mark) (r : A × List Mark) → P x ts
    → loop step x ts ≡ Some r → P r.0 r.1
unfolding loop
loop_keeps step P each x ts r p e = turns_keep step P each (suc (length ts)) x ts r p e

-- where turns come to an end, the step stops
turns_stopped : {A : Type 0} (step : A → List Mark → Turn A) (n : ℕ) (x : A) (ts : List Mark) (r : A × List Mark) → turns step n x ts ≡ Some r → step r.0 r.1 ≡ Stops
unfolding turns
turns_stopped step zero x ts r e = absurd cc
turns_stopped {A = A} step (suc n) x ts r e = by (λ y us. turns_stopped step n y us r) (step x ts) refl e
  where
    by : ((y : A) (us : List Mark) → turns step n y us ≡ Some r → step r.0 r.1 ≡ Stops) → (t : Turn A) → step x ts ≡ t → turned t x ts (turns step n) ≡ Some r
        → step r.0 r.1 ≡ Stops
    by ih Fails h e = absurd cc
    by ih Stops h e = let q : (x, ts) ≡ r = cc in subst (λ (z : A × List Mark). step z.0 z.1 ≡ Stops) q h
    by ih (Goes y us) h e = ih y us e

pub loop_stopped : {A : Type 0} (step : A → List Mark → Turn A) (x : A) (ts : List Mark) (r : A × List Mark) → loop step x ts ≡ Some r → step r.0 r.1 ≡ Stops
unfolding loop
loop_stopped step x ts r e = turns_stopped step (suc (length ts)) x ts r e
