-- What a step changes of finishes, and what it leaves: one that is still open keeps its number, and so does what governs an activity.
use Rattle.std.proofs.Common.{◌≡◌, ℕ, suc, ◌-◌, ◌<◌, ◌≤◌, ◌⊎◌, inl, inr, sym, ap, ◌∙◌, subst, arith}
use Rattle.std.proofs.lemmas.Bool.{cases_eq, cases_lt}
use Rattle.xk_types.proofs.ListLemmas.{fun_ext}
use Rattle.xk_types.specs.declared.world.Event.{Event}
use Rattle.xk_types.specs.declared.world.Event.TheVariants as event
use Rattle.xk_law_races.proofs.NumberedFinishLemmas.{Nest, AreNumbered, number, base, Opens, Closes, Begins, Keeps, opened_numbered}
use Rattle.xk_law_races.proofs.NumberedFinishLemmas.{closed_numbered, begun_numbered, kept_numbered, own_number, other_number, opens_base}
use Rattle.xk_law_races.proofs.NumberedFinishLemmas.{own_closed, other_kept, closes_base, still}

-- activity b opens a finish; it closes one; it starts the next activity; or nothing of this changes
pub data Change (s t : Nest) (b : ℕ) (e : Event) : Type 0 where
  GoesIn : Opens s t b → Change s t b e
  GoesOut : e ≡ event.Closed → Closes s t b → Change s t b e
  Begun : Begins s t b → Change s t b e
  Still : Keeps s t → Change s t b e

-- finishes are numbered behind it
pub changed_numbered : (s t : Nest) (b : ℕ) (e : Event) → Change s t b e → AreNumbered s → AreNumbered t
changed_numbered s t b e (GoesIn c) was = opened_numbered s t b was c
changed_numbered s t b e (GoesOut is c) was = closed_numbered s t b was c
changed_numbered s t b e (Begun c) was = begun_numbered s t b was c
changed_numbered s t b e (Still c) was = kept_numbered s t was c

-- there are no fewer finishes, and no fewer activities
pub finishes_grow : (s t : Nest) (b : ℕ) (e : Event) → Change s t b e → s.finishes ≤ t.finishes
finishes_grow s t b e (GoesIn c) = let f = c.finishes in omega (arith, f)
finishes_grow s t b e (GoesOut is c) = let f = c.finishes in omega (arith, f)
finishes_grow s t b e (Begun c) = let f = c.finishes in omega (arith, f)
finishes_grow s t b e (Still c) = let f = c.finishes in omega (arith, f)

pub activities_grow : (s t : Nest) (b : ℕ) (e : Event) → Change s t b e → s.activities ≤ t.activities
activities_grow s t b e (GoesIn c) = let f = c.activities in omega (arith, f)
activities_grow s t b e (GoesOut is c) = let f = c.activities in omega (arith, f)
activities_grow s t b e (Begun c) = let f = c.activities in omega (arith, f)
activities_grow s t b e (Still c) = let f = c.activities in omega (arith, f)

-- one finish governs an activity for good
pub governed_stays : (s t : Nest) (b : ℕ) (e : Event) → Change s t b e → (x : ℕ) → x < s.activities → t.governed x ≡ s.governed x
governed_stays s t b e (GoesIn c) x inside = c.governed x
governed_stays s t b e (GoesOut is c) x inside = c.governed x
governed_stays s t b e (Begun c) x inside = c.governed x (λ is. absurd (omega (arith, is, inside)))
governed_stays s t b e (Still c) x inside = c.governed x

-- where nothing changes, no number does
kept_number : (s t : Nest) → Keeps s t → (a k : ℕ) → number t a k ≡ number s a k
kept_number s t c a k =
    ap (λ f. number (record t { around = f }) a k) (fun_ext t.around s.around c.around)
    ∙ ap (λ n. number (record s { within = λ i. n }) a k) (c.within a)

-- there are so many finishes at least, and if activity a has one open at depth d, its number is none of the first so many
abbrev pub IsAbove : ℕ → ℕ → ℕ → Nest → Type 0
IsAbove many a d r = (many ≤ r.finishes) × (d ≤ r.opened a → many ≤ number r a (r.opened a - d))

module _ (s t : Nest) (b : ℕ) (e : Event) (was : AreNumbered s) where
  -- the number of what governs an activity stays
  pub base_stays : Change s t b e → (x : ℕ) → x < s.activities → base t x ≡ base s x
  base_stays (GoesIn c) x inside = opens_base s t b was c x
  base_stays (GoesOut is c) x inside = closes_base s t b was c x
  base_stays (Begun c) x inside =
      let differs : x ≡ s.activities → ⊥ = (λ is. absurd (omega (arith, is, inside))) in
      ap (number t x) (c.opened x differs) ∙ still s t b was c x (s.opened x) differs
  base_stays (Still c) x inside = ap (number t x) (c.opened x) ∙ kept_number s t c x (s.opened x)

  -- so does that of a finish of activity a at depth d, as long as it is open
  pub number_stays : Change s t b e → (a d : ℕ) → 0 < d → d ≤ s.opened a → d ≤ t.opened a
      → number t a (t.opened a - d) ≡ number s a (s.opened a - d)
  number_stays (GoesIn c) a d some before behind = by (cases_eq a b)
    where
      own : t.opened b ≡ suc (s.opened b) → d ≤ s.opened b → number t b (t.opened b - d) ≡ number s b (s.opened b - d)
      own more le =
          let n : t.opened b - d ≡ suc (s.opened b - d) = omega (arith, more, le) in
          ap (number t b) n ∙ own_number s t b was c (s.opened b - d)

      by : (a ≡ b) ⊎ (a ≡ b → ⊥) → number t a (t.opened a - d) ≡ number s a (s.opened a - d)
      by (inl is) =
          subst (λ i. number t i (t.opened i - d) ≡ number s i (s.opened i - d)) (sym is) (own c.more (subst (λ i. d ≤ s.opened i) is before))
      by (inr differs) = ap (λ n. number t a (n - d)) (c.opened a differs) ∙ other_number s t b was c a (s.opened a - d) differs
  number_stays (GoesOut closed c) a d some before behind = by (cases_eq a b)
    where
      own : s.opened b ≡ suc (t.opened b) → d ≤ t.opened b → number t b (t.opened b - d) ≡ number s b (s.opened b - d)
      own fewer le =
          let n : suc (t.opened b - d) ≡ s.opened b - d = omega (arith, fewer, le) in
          own_closed s t b was c (t.opened b - d) ∙ ap (number s b) n

      by : (a ≡ b) ⊎ (a ≡ b → ⊥) → number t a (t.opened a - d) ≡ number s a (s.opened a - d)
      by (inl is) =
          subst (λ i. number t i (t.opened i - d) ≡ number s i (s.opened i - d)) (sym is) (own c.fewer (subst (λ i. d ≤ t.opened i) is behind))
      by (inr differs) = ap (λ n. number t a (n - d)) (c.opened a differs) ∙ other_kept s t b was c a (s.opened a - d) differs
  number_stays (Begun c) a d some before behind =
      let differs : a ≡ s.activities → ⊥ = (λ is. (let n = ap t.opened is ∙ c.none in absurd (omega (arith, n, some, behind)))) in
      ap (λ n. number t a (n - d)) (c.opened a differs) ∙ still s t b was c a (s.opened a - d) differs
  number_stays (Still c) a d some before behind = ap (λ n. number t a (n - d)) (c.opened a) ∙ kept_number s t c a (s.opened a - d)

  -- only a close has one that was open not be open any more: that of the activity's deepest
  pub open_falls : Change s t b e → (a d : ℕ) → d ≤ s.opened a → t.opened a < d → (a ≡ b) × (e ≡ event.Closed) × (s.opened a ≡ d)
  open_falls (GoesIn c) a d before fell = by (cases_eq a b)
    where
      by : (a ≡ b) ⊎ (a ≡ b → ⊥) → (a ≡ b) × (e ≡ event.Closed) × (s.opened a ≡ d)
      by (inl is) = let n = subst (λ i. t.opened i ≡ suc (s.opened i)) (sym is) c.more in absurd (omega (arith, n, before, fell))
      by (inr differs) = let n = c.opened a differs in absurd (omega (arith, n, before, fell))
  open_falls (GoesOut closed c) a d before fell = by (cases_eq a b)
    where
      by : (a ≡ b) ⊎ (a ≡ b → ⊥) → (a ≡ b) × (e ≡ event.Closed) × (s.opened a ≡ d)
      by (inl is) = let n = subst (λ i. s.opened i ≡ suc (t.opened i)) (sym is) c.fewer in (is, closed, omega (arith, n, before, fell))
      by (inr differs) = let n = c.opened a differs in absurd (omega (arith, n, before, fell))
  open_falls (Begun c) a d before fell = by (cases_eq a s.activities)
    where
      by : (a ≡ s.activities) ⊎ (a ≡ s.activities → ⊥) → (a ≡ b) × (e ≡ event.Closed) × (s.opened a ≡ d)
      by (inl is) = let n = was.absent a (omega (arith, is)) in absurd (omega (arith, n, before, fell))
      by (inr differs) = let n = c.opened a differs in absurd (omega (arith, n, before, fell))
  open_falls (Still c) a d before fell = let n = c.opened a in absurd (omega (arith, n, before, fell))

  -- so it stays: one that is opened has a number that was none before
  pub above_stays : Change s t b e → (many a d : ℕ) → 0 < d → IsAbove many a d s → IsAbove many a d t
  above_stays c many a d some above = (
    (let g = finishes_grow s t b e c in let m = above.0 in omega (arith, g, m)),
    λ open'. by (cases_lt (s.opened a) d) open',
  )
    where
      rose : Change s t b e → s.opened a < d → d ≤ t.opened a → many ≤ number t a (t.opened a - d)
      rose (GoesIn o) closed' open' = own (cases_eq a b)
        where
          own : (a ≡ b) ⊎ (a ≡ b → ⊥) → many ≤ number t a (t.opened a - d)
          own (inl is) =
              let n = subst (λ i. t.opened i ≡ suc (s.opened i)) (sym is) o.more in
              let k : t.opened a - d ≡ 0 = omega (arith, n, closed', open') in
              let top = ap (number t a) k ∙ ap t.within is ∙ o.goes in
              let m = above.0 in
              omega (arith, top, m)
          own (inr differs) = let n = o.opened a differs in absurd (omega (arith, n, closed', open'))
      rose (GoesOut closed o) closed' open' = own (cases_eq a b)
        where
          own : (a ≡ b) ⊎ (a ≡ b → ⊥) → many ≤ number t a (t.opened a - d)
          own (inl is) = let n = subst (λ i. s.opened i ≡ suc (t.opened i)) (sym is) o.fewer in absurd (omega (arith, n, closed', open'))
          own (inr differs) = let n = o.opened a differs in absurd (omega (arith, n, closed', open'))
      rose (Begun o) closed' open' = own (cases_eq a s.activities)
        where
          own : (a ≡ s.activities) ⊎ (a ≡ s.activities → ⊥) → many ≤ number t a (t.opened a - d)
          own (inl is) = let n = ap t.opened is ∙ o.none in absurd (omega (arith, n, some, open'))
          own (inr differs) = let n = o.opened a differs in absurd (omega (arith, n, closed', open'))
      rose (Still o) closed' open' = let n = o.opened a in absurd (omega (arith, n, closed', open'))

      by : (s.opened a < d) ⊎ (d ≤ s.opened a) → d ≤ t.opened a → many ≤ number t a (t.opened a - d)
      by (inl closed') open' = rose c closed' open'
      by (inr before) open' = let same = number_stays c a d some before open' in let m = above.1 before in omega (arith, same, m)
