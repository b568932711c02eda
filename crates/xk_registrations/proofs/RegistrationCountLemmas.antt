-- On how many of the clocks told an activity is registered: on as many at least as it has registrations, since no two are on one clock.
use Rattle.std.proofs.Common.{◌≡◌, ℕ, zero, suc, ◌+◌, ◌<◌, ◌≤◌, ◌==◌, Bool, true, false, cond, List, [], ◌∷◌, length, Option, Some, None, is_some, inl, inr, refl, sym, ap, ◌∙◌, arith, slice_index_or}
use Rattle.std.specs.Option.{option_map_or}
use Rattle.std.proofs.lemmas.Bool.{false≢true, cases_lt}
use Rattle.std.proofs.lemmas.Option.{none-some}
use Rattle.std.proofs.lemmas.List.Sums.{sum_by-cons}
use Rattle.xk_types.specs.declared.world.Standing.TheVariants as standing
use Rattle.xk_types.specs.World.{Clock, standing_of}
use Rattle.xk_types.specs.Step.{is_registered}
use Rattle.xk_clocks.specs.Table.{CountValue}
use Rattle.xk_registrations.specs.View.{Registration, standing_at, reg_on, told, told_by, told_clock, held, AreDistinct, IsKept}
use Rattle.xk_registrations.specs.Standings.{registrations}
use Rattle.xk_registrations.proofs.StandingChangeLemmas.{row_at}
use Rattle.xk_registrations.proofs.StandingLemmas.{stands_reg, same_number}

-- how many of the first n numbers pass the test
abbrev how_many : (ℕ → Bool) → ℕ → ℕ
how_many p zero = 0
how_many p (suc n) = cond (p 0) 1 0 + how_many (λ k. p (suc k)) n

one_more : (b d : Bool) → (b ≡ true → d ≡ true) → cond b 1 0 ≤ cond d 1 0
one_more false d h = omega arith
one_more true true h = omega arith
one_more true false h = absurd (false≢true (h refl))

-- what an answer counts for
abbrev one_if_true : Bool → ℕ
one_if_true b = cond b 1 0

counts_one : (b : Bool) → b ≡ true → one_if_true b ≡ 1
counts_one true e = refl
counts_one false e = absurd (false≢true e)

counts_none : (b : Bool) → b ≡ false → one_if_true b ≡ 0
counts_none true e = absurd (false≢true (sym e))
counts_none false e = refl

-- where more pass there are as many
as_many : (p q : ℕ → Bool) (n : ℕ) → ((k : ℕ) → q k ≡ true → p k ≡ true) → how_many q n ≤ how_many p n
as_many p q zero h = omega arith
as_many p q (suc n) h = let here = one_more (q 0) (p 0) (h 0) in let rest = as_many (λ k. p (suc k)) (λ k. q (suc k)) n (λ k. h (suc k)) in omega arith

-- and more, where one of them is new
more : (p q : ℕ → Bool) (c n : ℕ) → c < n → p c ≡ true → q c ≡ false → ((k : ℕ) → q k ≡ true → p k ≡ true) → how_many q n + 1 ≤ how_many p n
more p q c zero lt passes new h = absurd (omega arith)
more p q zero (suc n) lt passes new h =
    let rest = as_many (λ k. p (suc k)) (λ k. q (suc k)) n (λ k. h (suc k)) in
    omega (arith, rest, counts_one (p 0) passes, counts_none (q 0) new)
more p q (suc c) (suc n) lt passes new h =
    let here = one_more (q 0) (p 0) (h 0) in
    let rest = more (λ k. p (suc k)) (λ k. q (suc k)) c n (omega arith) passes new (λ k. h (suc k)) in
    omega arith

-- these are on so many clocks
on_clocks : (rs : List Registration) (n : ℕ) → AreDistinct rs → ((k : ℕ) → n ≤ k → reg_on rs k ≡ None) → length rs ≤ how_many (λ k. is_some (reg_on rs k)) n
on_clocks [] n distinct exist = omega arith
on_clocks (r ∷ rs) n distinct exist =
    let rest = on_clocks rs n distinct.1 (λ k le. behind k (exist k le)) in
    let this = more (λ k. is_some (reg_on (r ∷ rs) k)) (λ k. is_some (reg_on rs k)) r.clock n inside here (ap is_some distinct.0) among in
    omega arith
  where
    here : is_some (reg_on (r ∷ rs) r.clock) ≡ true
    here = rw (same_number r.clock) refl

    behind : (k : ℕ) → reg_on (r ∷ rs) k ≡ None → reg_on rs k ≡ None
    behind k h = go (r.clock == k) h
      where
        go : (b : Bool) → cond b (Some r) (reg_on rs k) ≡ None → reg_on rs k ≡ None
        go true e = absurd (none-some r (sym e))
        go false e = e

    among : (k : ℕ) → is_some (reg_on rs k) ≡ true → is_some (reg_on (r ∷ rs) k) ≡ true
    among k h = go (r.clock == k)
      where
        go : (b : Bool) → is_some (cond b (Some r) (reg_on rs k)) ≡ true
        go true = refl
        go false = h

    inside : r.clock < n
    inside = elim (cases_lt r.clock n) [ inl lt ↦ lt | inr le ↦ absurd (false≢true (sym (ap is_some (exist r.clock le)) ∙ here)) ]

-- an activity is registered where it has a registration
registered_at : (acts : List (List Registration)) (a k : ℕ) (last : ℕ → ℕ) (c : CountValue)
    → is_registered (standing_of (told_clock last acts k c) a) ≡ is_some (reg_on (held acts a) k)
registered_at acts a k last c = ap is_registered (row_at acts k c.phase a ∙ stands_reg (held acts a) k c.phase) ∙ go (reg_on (held acts a) k)
  where
    marks : (m : Option ℕ) → is_registered (standing_at c.phase m) ≡ true
    marks None = refl
    marks (Some p) = by (p == c.phase)
      where
        by : (b : Bool) → is_registered (cond b standing.Signalled standing.Ahead) ≡ true
        by true = refl
        by false = refl

    go : (o : Option Registration) → is_registered (option_map_or (λ r. standing_at c.phase r.resumed) o standing.Apart) ≡ is_some o
    go None = refl
    go (Some r) = marks r.resumed

told_many : (f : ℕ → CountValue → Clock) (cs : List CountValue) (a : ℕ) (p : ℕ → Bool) → ((k : ℕ) (c : CountValue) → is_registered (standing_of (f k c) a) ≡ p k)
    → registrations (told_by f cs) a ≡ how_many p (length cs)
told_many f [] a p same = refl
told_many f (c ∷ cs) a p same =
    sum_by-cons (λ (x : Clock). cond (is_registered (standing_of x a)) 1 0) (f 0 c) (told_by (λ k. f (suc k)) cs)
    ∙ ap (λ b. cond b 1 0 + registrations (told_by (λ k. f (suc k)) cs) a) (same 0 c)
    ∙ ap (λ n. cond (p 0) 1 0 + n) (told_many (λ k. f (suc k)) cs a (λ k. p (suc k)) (λ k. same (suc k)))

pub registered_many : (ls : List ℕ) (acts : List (List Registration)) (cs : List CountValue) (a : ℕ) → IsKept ls acts cs
    → length (held acts a) ≤ registrations (told ls acts cs) a
registered_many ls acts cs a kept =
    let s = kept.sound a in
    let h = on_clocks (held acts a) (length cs) s.distinct s.exist in
    let e = told_many (told_clock (λ k. slice_index_or ls k 0) acts) cs a (λ k. is_some (reg_on (held acts a) k)) (λ k c. registered_at acts a k (λ j. slice_index_or ls j 0) c) in
    omega arith
