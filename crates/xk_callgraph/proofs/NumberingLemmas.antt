-- Numbers that fall along calls, and paths of calls.
use Rattle.std.proofs.Common.{◌≡◌, ◌≢◌, ℕ, zero, suc, ◌+◌, ◌<◌, ◌≤◌, inl, inr, Bool, true, false, cond, nat_eq, Vec, List, [], ◌∷◌, ◌++◌, length, set, get_or, slice_get, slice_index, Some, refl, sym, ap, ◌∙◌, subst, arith, get_or-set_other, get_or-set_same, ne_eqb, eq-eqb}
use Rattle.std.proofs.lemmas.Bool.Decides.{eqb_tells}
use Rattle.std.specs.declared.alloc.Global.{Global}
use Rattle.xk_callgraph.specs.CallGraph.{adjacency, called_by, IsCall, Path, Reaches, IsRecursive, IsNumbered, AtMost, Falls, zeros}

-- a row, as code reads it
pub row_at : (vs : List (Vec ℕ Global)) (i : ℕ) (v : Vec ℕ Global) → i < length vs → v ≡ get_or vs i v → v.items ≡ called_by (adjacency vs) i
row_at [] i v h e = absurd (omega arith)
row_at (x ∷ vs) zero v h e = ap (λ (w : Vec ℕ Global). w.items) e
row_at (x ∷ vs) (suc i) v h e = row_at vs i v (omega arith) e

pub length-adjacency : (vs : List (Vec ℕ Global)) → length (adjacency vs) ≡ length vs
length-adjacency [] = refl
length-adjacency (v ∷ vs) = ap suc (length-adjacency vs)

falls_along : (calls : List (List ℕ)) (numbers : List ℕ) → Falls calls numbers → (ns : List ℕ) (i j : ℕ) → Path calls ns i j → slice_index numbers j ≤ slice_index numbers i
falls_along calls numbers falls [] i j p = let e = ap (slice_index numbers) p in omega arith
falls_along calls numbers falls (n ∷ ns) i j p =
    let down = falls i p.0.0 n p.0.1 in
    let rest = falls_along calls numbers falls ns n j p.1 in
    omega arith

-- where numbers fall along each call there is no recursion
pub none_recursive : (calls : List (List ℕ)) (numbers : List ℕ) → Falls calls numbers → (i k : ℕ) → IsRecursive calls i k → ⊥
none_recursive calls numbers falls i k r =
    let down = falls i k r.called r.is_call in
    let up = falls_along calls numbers falls r.comes_back.0 r.called i r.comes_back.1 in
    absurd (omega arith)

-- a path goes on
goes_on : (calls : List (List ℕ)) (ns : List ℕ) (i j n : ℕ) → Path calls ns i j → (k : ℕ) → IsCall calls j k n → Path calls (ns ++ n ∷ []) i n
goes_on calls [] i j n p k c = ((k, subst (λ m. IsCall calls m k n) (sym p) c), refl)
goes_on calls (x ∷ ns) i j n p k c = (p.0, goes_on calls ns x j n p.1 k c)

pub reaches_on : (calls : List (List ℕ)) (i j n k : ℕ) → Reaches calls i j → IsCall calls j k n → Reaches calls i n
reaches_on calls i j n k r c = (r.0 ++ n ∷ [], goes_on calls r.0 i j n r.1 k c)

pub zeros_set : (xs : List ℕ) (i v : ℕ) → i < length xs → slice_index xs i ≡ 0 → 0 < v → zeros (set xs i v) + 1 ≡ zeros xs
zeros_set [] i v h z p = absurd (omega arith)
zeros_set (x ∷ xs) zero v h z p = go (nat_eq v 0) (nat_eq x 0) (ne_eqb v 0 (λ e. absurd (omega arith))) (eq-eqb x 0 z)
  where
    go : (a b : Bool) → a ≡ false → b ≡ true → cond a 1 0 + zeros xs + 1 ≡ cond b 1 0 + zeros xs
    go false true e f = omega arith
    go true b e f = cc
    go false false e f = cc
zeros_set (x ∷ xs) (suc i) v h z p = let e = zeros_set xs i v (omega arith) z p in omega arith

-- one method more has a number
pub numbered_more : (calls : List (List ℕ)) (numbers : List ℕ) (i top v : ℕ) → IsNumbered calls numbers → AtMost numbers top → i < length numbers → slice_index numbers i ≡ 0 → top < v
    → ((k j : ℕ) → IsCall calls i k j → 0 < slice_index numbers j) → IsNumbered calls (set numbers i v)
numbered_more calls numbers i top v old most h z above ready m k j call has =
    elim (eqb_tells m i) [
      | inl same ↦
          let here : IsCall calls i k j = subst (λ n. IsCall calls n k j) same.1 call in
          let full = ready k j here in
          let ne : j ≢ i = λ e. let w = ap (slice_index numbers) e in absurd (omega arith) in
          let keep : slice_index (set numbers i v) j ≡ slice_index numbers j = rw get_or-set_other refl in
          let new : slice_index (set numbers i v) m ≡ v = ap (slice_index (set numbers i v)) same.1 ∙ get_or-set_same numbers i v 0 h in
          let le = most j in
          (omega arith, omega arith)
      | inr other ↦
          let ne : m ≢ i = other.1 in
          let was : slice_index (set numbers i v) m ≡ slice_index numbers m = rw get_or-set_other refl in
          let o = old m k j call (omega arith) in
          let ne2 : j ≢ i = λ e. let w = ap (slice_index numbers) e in let q = o.0 in absurd (omega arith) in
          let keep : slice_index (set numbers i v) j ≡ slice_index numbers j = rw get_or-set_other refl in
          let a = o.0 in
          let b = o.1 in
          (omega arith, omega arith)
    ]

-- ---- the walk from one that waits to the one that it waits for

-- all that were met reach the place of the walk
abbrev pub Lead : List (List ℕ) → List ℕ → ℕ → Type 0
Lead calls seen here = (j : ℕ) → 0 < slice_index seen j → Reaches calls j here

pub lead_same : (calls : List (List ℕ)) (seen : List ℕ) (here : ℕ) → here < length seen → Lead calls seen here → Lead calls (set seen here 1) here
lead_same calls seen here h lead j full =
    elim (eqb_tells j here) [
      | inl same ↦ ([], same.1)
      | inr other ↦
          let ne : j ≢ here = other.1 in
          let keep : slice_index (set seen here 1) j ≡ slice_index seen j = rw get_or-set_other refl in
          lead j (omega arith)
    ]

pub lead_on : (calls : List (List ℕ)) (seen : List ℕ) (here next k : ℕ) → IsCall calls here k next → Lead calls seen here → Lead calls seen next
lead_on calls seen here next k call lead j full = reaches_on calls j here next k (lead j full) call

-- what stands at a place, read as a number
pub awaited_at : (xs : List ℕ) (k j : ℕ) → slice_get xs k ≡ Some j → slice_index xs k ≡ j
awaited_at [] k j e = absurd cc
awaited_at (x ∷ xs) zero j e = cc
awaited_at (x ∷ xs) (suc k) j e = awaited_at xs k j e

-- what stands at a place within
pub here_is : (xs : List ℕ) (k : ℕ) → k < length xs → slice_get xs k ≡ Some (slice_index xs k)
here_is [] k h = absurd (omega arith)
here_is (x ∷ xs) zero h = refl
here_is (x ∷ xs) (suc k) h = here_is xs k (omega arith)

-- an element, as code reads it by a reference
pub read_is : (xs : List ℕ) (k x : ℕ) → k < length xs → x ≡ get_or xs k x → slice_get xs k ≡ Some x
read_is [] k x h e = absurd (omega arith)
read_is (y ∷ xs) zero x h e = ap Some (sym e)
read_is (y ∷ xs) (suc k) x h e = read_is xs k x (omega arith) e

-- a method's call, as code reads it
pub call_at : (calls : List (List ℕ)) (i k : ℕ) (row : List ℕ) → row ≡ called_by calls i → k < length row → IsCall calls i k (slice_index row k)
call_at calls i k row e h = subst (λ (xs : List ℕ). slice_get xs k ≡ Some (slice_index row k)) e (here_is row k h)

-- ---- at the start

-- a method that calls is one of those
pub caller_within : (calls : List (List ℕ)) (i k j : ℕ) → IsCall calls i k j → i < length calls
caller_within [] i k j call = absurd cc
caller_within (c ∷ calls) zero k j call = omega arith
caller_within (c ∷ calls) (suc i) k j call = let h = caller_within calls i k j call in omega arith
