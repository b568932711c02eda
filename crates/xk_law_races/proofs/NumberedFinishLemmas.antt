-- Finishes by number, in the order in which they are opened, and by owner and depth: as long as they are open, these are the same finishes.
use Rattle.std.proofs.Common.{◌≡◌, ℕ, zero, suc, ◌-◌, ◌<◌, ◌≤◌, ◌⊎◌, inl, inr, refl, sym, ap, ◌∙◌, subst, arith}
use Rattle.std.proofs.lemmas.Bool.{cases_eq}
use Rattle.std.specs.Prelude.{Some}
use Rattle.xk_types.specs.World.{Finish}

-- the finish around a finish, so many times
abbrev up : (ℕ → ℕ) → ℕ → ℕ → ℕ
up around zero n = n
up around (suc k) n = up around k (around n)

-- the finish that activity a opened at this depth
abbrev pub finish : ℕ → ℕ → Finish
finish a d = record { owner = Some a; depth = d }

-- Which finish each activity is in, and which one is around each; how many each activity has open, and what governs it; how many finishes
-- there are by number, and how many activities.
pub record Nest : Type 0 where
  pub within : ℕ → ℕ
  pub around : ℕ → ℕ
  pub opened : ℕ → ℕ
  pub governed : ℕ → Finish
  pub finishes : ℕ
  pub activities : ℕ

-- the number of the finish that activity a opened, k open ones before its last
abbrev pub number : Nest → ℕ → ℕ → ℕ
number s a k = up s.around k (s.within a)

-- the number of the one that governs it
abbrev pub base : Nest → ℕ → ℕ
base s x = number s x (s.opened x)

-- No two open finishes have one number; and if the number of what governs an activity is that of an open one, then it is that one.
pub record AreNumbered (s : Nest) : Type 0 where
  pub within : (a : ℕ) → s.within a < s.finishes
  pub around : (n : ℕ) → s.around n < s.finishes
  pub absent : (a : ℕ) → s.activities ≤ a → s.opened a ≡ 0
  pub own : (a b k l : ℕ) → k < s.opened a → l < s.opened b → number s a k ≡ number s b l → (a ≡ b) × (k ≡ l)
  pub governs : (x a k : ℕ) → x < s.activities → k < s.opened a → number s a k ≡ base s x → s.governed x ≡ finish a (s.opened a - k)

up_below : (around : ℕ → ℕ) (count : ℕ) → ((n : ℕ) → around n < count) → (k n : ℕ) → n < count → up around k n < count
up_below around count wraps zero n less = less
up_below around count wraps (suc k) n less = up_below around count wraps k (around n) (wraps n)

up_same : (p q : ℕ → ℕ) (count : ℕ) → ((n : ℕ) → p n < count) → ((n : ℕ) → n < count → q n ≡ p n) → (k n : ℕ) → n < count
    → up q k n ≡ up p k n
up_same p q count wraps same zero n less = refl
up_same p q count wraps same (suc k) n less = ap (up q k) (same n less) ∙ up_same p q count wraps same k (p n) (wraps n)

-- a finish that was open before
abbrev WasOpen : Nest → Nest → ℕ → ℕ → Type 0
WasOpen s t b k = (j : ℕ) × (j < s.opened b) × (number t b k ≡ number s b j) × (t.opened b - k ≡ s.opened b - j) × (k < t.opened b)

-- a finish that was opened now
abbrev IsNew : Nest → Nest → ℕ → ℕ → ℕ → Type 0
IsNew s t a b k = (b ≡ a) × (k ≡ 0) × (number t b k ≡ s.finishes)

-- where each open one was open before, or is the one that activity a has opened now, and the rest is as it was
module _ (s t : Nest) (a : ℕ) (was : AreNumbered s) (open' : (b k : ℕ) → k < t.opened b → WasOpen s t b k ⊎ IsNew s t a b k)
    (bases : (x : ℕ) → base t x ≡ base s x) (governs : (x : ℕ) → t.governed x ≡ s.governed x) (same : t.activities ≡ s.activities) where
  below : (b k : ℕ) → number s b k < s.finishes
  below b k = up_below s.around s.finishes was.around k (s.within b) (was.within b)

  own_kept : (b c k l : ℕ) → k < t.opened b → l < t.opened c → number t b k ≡ number t c l → (b ≡ c) × (k ≡ l)
  own_kept b c k l less other one = by (open' b k less) (open' c l other)
    where
      by : WasOpen s t b k ⊎ IsNew s t a b k → WasOpen s t c l ⊎ IsNew s t a c l → (b ≡ c) × (k ≡ l)
      by (inl p) (inl q) =
          let r = was.own b c p.0 q.0 p.1 q.1 (sym p.2 ∙ one ∙ q.2) in
          let o : s.opened b ≡ s.opened c = ap s.opened r.0 in
          let n : t.opened b ≡ t.opened c = ap t.opened r.0 in
          (r.0, omega (arith, p.1, p.3, p.4, q.1, q.3, q.4, r.1, o, n))
      by (inl p) (inr q) = absurd (let i = below b p.0 in let e = sym p.2 ∙ one ∙ q.2 in omega (arith, i, e))
      by (inr p) (inl q) = absurd (let i = below c q.0 in let e = sym q.2 ∙ sym one ∙ p.2 in omega (arith, i, e))
      by (inr p) (inr q) = (p.0 ∙ sym q.0, p.1 ∙ sym q.1)

  governs_kept : (x b k : ℕ) → x < t.activities → k < t.opened b → number t b k ≡ base t x → t.governed x ≡ finish b (t.opened b - k)
  governs_kept x b k inside less one = by (open' b k less)
    where
      by : WasOpen s t b k ⊎ IsNew s t a b k → t.governed x ≡ finish b (t.opened b - k)
      by (inl p) = governs x ∙ was.governs x b p.0 (subst (λ n. x < n) same inside) p.1 (sym p.2 ∙ one ∙ bases x) ∙ ap (finish b) (sym p.3)
      by (inr q) = absurd (let i = below x (s.opened x) in let e = sym (bases x) ∙ sym one ∙ q.2 in omega (arith, i, e))

-- what stays at all but one number
abbrev StaysBut : {X : Type 0} → ℕ → (ℕ → X) → (ℕ → X) → Type 0
StaysBut a f g = (b : ℕ) → (b ≡ a → ⊥) → g b ≡ f b

-- ---- activity a opens a finish

-- it goes into a finish of the next number, which has the one around it that the activity was in
pub record Opens (s t : Nest) (a : ℕ) : Type 0 where
  pub known : a < s.activities
  pub goes : t.within a ≡ s.finishes
  pub others : StaysBut a s.within t.within
  pub wraps : t.around s.finishes ≡ s.within a
  pub rest : StaysBut s.finishes s.around t.around
  pub more : t.opened a ≡ suc (s.opened a)
  pub opened : StaysBut a s.opened t.opened
  pub governed : (x : ℕ) → t.governed x ≡ s.governed x
  pub finishes : t.finishes ≡ suc s.finishes
  pub activities : t.activities ≡ s.activities

module _ (s t : Nest) (a : ℕ) (was : AreNumbered s) (o : Opens s t a) where
  old : (n : ℕ) → n < s.finishes → t.around n ≡ s.around n
  old n less = o.rest n (λ e. absurd (omega (arith, less, e)))

  up_old : (k n : ℕ) → n < s.finishes → up t.around k n ≡ up s.around k n
  up_old = up_same s.around t.around s.finishes was.around old

  pub other_number : (b k : ℕ) → (b ≡ a → ⊥) → number t b k ≡ number s b k
  other_number b k differs = ap (up t.around k) (o.others b differs) ∙ up_old k (s.within b) (was.within b)

  pub own_number : (j : ℕ) → number t a (suc j) ≡ number s a j
  own_number j = ap (λ n. up t.around j (t.around n)) o.goes ∙ ap (up t.around j) o.wraps ∙ up_old j (s.within a) (was.within a)

  opens_open : (b k : ℕ) → k < t.opened b → WasOpen s t b k ⊎ IsNew s t a b k
  opens_open b k less = by (cases_eq b a)
    where
      own : (k : ℕ) → k < t.opened b → b ≡ a → WasOpen s t b k ⊎ IsNew s t a b k
      own zero less is = inr (is, refl, ap t.within is ∙ o.goes)
      own (suc j) less is =
          let n : t.opened b ≡ suc (s.opened b) = subst (λ c. t.opened c ≡ suc (s.opened c)) (sym is) o.more in
          inl (j, omega (arith, less, n), subst (λ c. number t c (suc j) ≡ number s c j) (sym is) (own_number j), omega (arith, n), less)

      by : (b ≡ a) ⊎ (b ≡ a → ⊥) → WasOpen s t b k ⊎ IsNew s t a b k
      by (inl is) = own k less is
      by (inr differs) =
          let n : t.opened b ≡ s.opened b = o.opened b differs in
          inl (k, omega (arith, less, n), other_number b k differs, omega (arith, n), less)

  pub opens_base : (x : ℕ) → base t x ≡ base s x
  opens_base x = by (cases_eq x a)
    where
      by : (x ≡ a) ⊎ (x ≡ a → ⊥) → base t x ≡ base s x
      by (inl is) = subst (λ c. base t c ≡ base s c) (sym is) (ap (number t a) o.more ∙ own_number (s.opened a))
      by (inr differs) = ap (number t x) (o.opened x differs) ∙ other_number x (s.opened x) differs

  -- the new finish has a number of its own
  pub opened_numbered : AreNumbered t
  opened_numbered = record {
    within = λ b. (let e = o.finishes in by b (cases_eq b a));
    around = λ n. wrapped n (cases_eq n s.finishes);
    absent = λ b le. (let e = o.activities in let n = was.absent b (omega (arith, le, e)) in
        o.opened b (λ is. absurd (let i = o.known in omega (arith, le, e, is, i))) ∙ n);
    own = own_kept s t a was opens_open opens_base o.governed o.activities;
    governs = governs_kept s t a was opens_open opens_base o.governed o.activities;
  }
    where
      by : (b : ℕ) → (b ≡ a) ⊎ (b ≡ a → ⊥) → t.within b < t.finishes
      by b (inl is) = let e = ap t.within is ∙ o.goes in let f = o.finishes in omega (arith, e, f)
      by b (inr differs) = let e = o.others b differs in let f = o.finishes in let i = was.within b in omega (arith, e, f, i)

      wrapped : (n : ℕ) → (n ≡ s.finishes) ⊎ (n ≡ s.finishes → ⊥) → t.around n < t.finishes
      wrapped n (inl is) = let e = ap t.around is ∙ o.wraps in let f = o.finishes in let i = was.within a in omega (arith, e, f, i)
      wrapped n (inr differs) = let e = o.rest n differs in let f = o.finishes in let i = was.around n in omega (arith, e, f, i)

-- ---- activity a closes a finish

-- it goes into the finish around the one that it was in
pub record Closes (s t : Nest) (a : ℕ) : Type 0 where
  pub goes : t.within a ≡ s.around (s.within a)
  pub others : StaysBut a s.within t.within
  pub around : (n : ℕ) → t.around n ≡ s.around n
  pub fewer : s.opened a ≡ suc (t.opened a)
  pub opened : StaysBut a s.opened t.opened
  pub governed : (x : ℕ) → t.governed x ≡ s.governed x
  pub finishes : t.finishes ≡ s.finishes
  pub activities : t.activities ≡ s.activities

module _ (s t : Nest) (a : ℕ) (was : AreNumbered s) (c : Closes s t a) where
  up_kept : (k n : ℕ) → n < s.finishes → up t.around k n ≡ up s.around k n
  up_kept = up_same s.around t.around s.finishes was.around (λ n less. c.around n)

  pub other_kept : (b k : ℕ) → (b ≡ a → ⊥) → number t b k ≡ number s b k
  other_kept b k differs = ap (up t.around k) (c.others b differs) ∙ up_kept k (s.within b) (was.within b)

  pub own_closed : (k : ℕ) → number t a k ≡ number s a (suc k)
  own_closed k = ap (up t.around k) c.goes ∙ up_kept k (s.around (s.within a)) (was.around (s.within a))

  closes_open : (b k : ℕ) → k < t.opened b → WasOpen s t b k ⊎ IsNew s t a b k
  closes_open b k less = by (cases_eq b a)
    where
      by : (b ≡ a) ⊎ (b ≡ a → ⊥) → WasOpen s t b k ⊎ IsNew s t a b k
      by (inl is) =
          let n : s.opened b ≡ suc (t.opened b) = subst (λ d. s.opened d ≡ suc (t.opened d)) (sym is) c.fewer in
          inl (
            suc k,
            omega (arith, less, n),
            subst (λ d. number t d k ≡ number s d (suc k)) (sym is) (own_closed k),
            omega (arith, n),
            less,
          )
      by (inr differs) =
          let n : t.opened b ≡ s.opened b = c.opened b differs in
          inl (k, omega (arith, less, n), other_kept b k differs, omega (arith, n), less)

  pub closes_base : (x : ℕ) → base t x ≡ base s x
  closes_base x = by (cases_eq x a)
    where
      by : (x ≡ a) ⊎ (x ≡ a → ⊥) → base t x ≡ base s x
      by (inl is) = subst (λ d. base t d ≡ base s d) (sym is) (own_closed (t.opened a) ∙ ap (number s a) (sym c.fewer))
      by (inr differs) = ap (number t x) (c.opened x differs) ∙ other_kept x (s.opened x) differs

  -- those that are still open keep their numbers
  pub closed_numbered : AreNumbered t
  closed_numbered = record {
    within = λ b. by b (cases_eq b a);
    around = λ n. (let e = c.around n in let f = c.finishes in let i = was.around n in omega (arith, e, f, i));
    absent = λ b le. (let e = c.activities in let n = was.absent b (omega (arith, le, e)) in
        c.opened b (λ is. absurd (let m = ap s.opened is in let f = c.fewer in omega (arith, n, m, f))) ∙ n);
    own = own_kept s t a was closes_open closes_base c.governed c.activities;
    governs = governs_kept s t a was closes_open closes_base c.governed c.activities;
  }
    where
      by : (b : ℕ) → (b ≡ a) ⊎ (b ≡ a → ⊥) → t.within b < t.finishes
      by b (inl is) = let e = ap t.within is ∙ c.goes in let f = c.finishes in let i = was.around (s.within a) in omega (arith, e, f, i)
      by b (inr differs) = let e = c.others b differs in let f = c.finishes in let i = was.within b in omega (arith, e, f, i)

-- ---- activity a starts the next one

-- that one is in the finish in which the activity is, which governs it
pub record Begins (s t : Nest) (a : ℕ) : Type 0 where
  pub known : a < s.activities
  pub goes : t.within s.activities ≡ s.within a
  pub others : StaysBut s.activities s.within t.within
  pub around : (n : ℕ) → t.around n ≡ s.around n
  pub none : t.opened s.activities ≡ 0
  pub opened : StaysBut s.activities s.opened t.opened
  pub outer : s.opened a ≡ 0 → t.governed s.activities ≡ s.governed a
  pub inner : (n : ℕ) → s.opened a ≡ suc n → t.governed s.activities ≡ finish a (suc n)
  pub governed : StaysBut s.activities s.governed t.governed
  pub finishes : t.finishes ≡ s.finishes
  pub activities : t.activities ≡ suc s.activities

module _ (s t : Nest) (a : ℕ) (was : AreNumbered s) (c : Begins s t a) where
  up_still : (k n : ℕ) → n < s.finishes → up t.around k n ≡ up s.around k n
  up_still = up_same s.around t.around s.finishes was.around (λ n less. c.around n)

  pub still : (b k : ℕ) → (b ≡ s.activities → ⊥) → number t b k ≡ number s b k
  still b k differs = ap (up t.around k) (c.others b differs) ∙ up_still k (s.within b) (was.within b)

  no_child : (b k : ℕ) → k < t.opened b → b ≡ s.activities → ⊥
  no_child b k less is = let e = ap t.opened is ∙ c.none in absurd (omega (arith, less, e))

  begins_own : (b d k l : ℕ) → k < t.opened b → l < t.opened d → number t b k ≡ number t d l → (b ≡ d) × (k ≡ l)
  begins_own b d k l less other one =
      let p = no_child b k less in
      let q = no_child d l other in
      was.own b d k l (subst (λ n. k < n) (c.opened b p) less) (subst (λ n. l < n) (c.opened d q) other)
      (sym (still b k p) ∙ one ∙ still d l q)

  begins_governs : (x b k : ℕ) → x < t.activities → k < t.opened b → number t b k ≡ base t x → t.governed x ≡ finish b (t.opened b - k)
  begins_governs x b k inside less one = by (cases_eq x s.activities)
    where
      p : b ≡ s.activities → ⊥
      p = no_child b k less

      n : t.opened b ≡ s.opened b
      n = c.opened b p

      within : k < s.opened b
      within = subst (λ i. k < i) n less

      child : x ≡ s.activities → (o : ℕ) → s.opened a ≡ o → t.governed x ≡ finish b (t.opened b - k)
      child is zero e =
          ap t.governed is ∙ c.outer e ∙ was.governs a b k c.known within
          (sym (still b k p) ∙ one ∙ ap (base t) is ∙ ap (number t s.activities) c.none ∙ c.goes ∙ sym (ap (number s a) e))
          ∙ ap (λ i. finish b (i - k)) (sym n)
      child is (suc o) e =
          let r = was.own b a k 0 within (omega (arith, e))
          (sym (still b k p) ∙ one ∙ ap (base t) is ∙ ap (number t s.activities) c.none ∙ c.goes) in
          let d : suc o ≡ t.opened b - k = (let i = ap s.opened r.0 in let j = r.1 in omega (arith, i, j, e, n)) in
          ap t.governed is ∙ c.inner o e ∙ ap (λ i. finish i (suc o)) (sym r.0) ∙ ap (finish b) d

      by : (x ≡ s.activities) ⊎ (x ≡ s.activities → ⊥) → t.governed x ≡ finish b (t.opened b - k)
      by (inl is) = child is (s.opened a) refl
      by (inr differs) =
          c.governed x differs
          ∙ was.governs x b k (let e = c.activities in omega (arith, e, inside, differs)) within
          (sym (still b k p) ∙ one ∙ ap (number t x) (c.opened x differs) ∙ still x (s.opened x) differs)
          ∙ ap (λ i. finish b (i - k)) (sym n)

  -- it is governed by the finish whose number it has
  pub begun_numbered : AreNumbered t
  begun_numbered = record {
    within = λ b. by b (cases_eq b s.activities);
    around = λ n. (let e = c.around n in let f = c.finishes in let i = was.around n in omega (arith, e, f, i));
    absent = λ b le. (let e = c.activities in
        c.opened b (λ is. absurd (omega (arith, le, e, is))) ∙ was.absent b (omega (arith, le, e)));
    own = begins_own;
    governs = begins_governs;
  }
    where
      by : (b : ℕ) → (b ≡ s.activities) ⊎ (b ≡ s.activities → ⊥) → t.within b < t.finishes
      by b (inl is) = let e = ap t.within is ∙ c.goes in let f = c.finishes in let i = was.within a in omega (arith, e, f, i)
      by b (inr differs) = let e = c.others b differs in let f = c.finishes in let i = was.within b in omega (arith, e, f, i)

-- ---- nothing of this changes

pub record Keeps (s t : Nest) : Type 0 where
  pub within : (b : ℕ) → t.within b ≡ s.within b
  pub around : (n : ℕ) → t.around n ≡ s.around n
  pub opened : (b : ℕ) → t.opened b ≡ s.opened b
  pub governed : (x : ℕ) → t.governed x ≡ s.governed x
  pub finishes : t.finishes ≡ s.finishes
  pub activities : t.activities ≡ s.activities

-- then finishes are numbered as before
pub kept_numbered : (s t : Nest) → AreNumbered s → Keeps s t → AreNumbered t
kept_numbered s t was c = record {
  within = λ b. (let e = c.within b in let f = c.finishes in let i = was.within b in omega (arith, e, f, i));
  around = λ n. (let e = c.around n in let f = c.finishes in let i = was.around n in omega (arith, e, f, i));
  absent = λ b le. (let e = c.activities in c.opened b ∙ was.absent b (omega (arith, le, e)));
  own = own_kept s t 0 was open' bases c.governed c.activities;
  governs = governs_kept s t 0 was open' bases c.governed c.activities;
}
  where
    numbers : (b k : ℕ) → number t b k ≡ number s b k
    numbers b k =
        ap (up t.around k) (c.within b)
        ∙ up_same s.around t.around s.finishes was.around (λ n less. c.around n) k (s.within b) (was.within b)

    open' : (b k : ℕ) → k < t.opened b → WasOpen s t b k ⊎ IsNew s t 0 b k
    open' b k less = let n = c.opened b in inl (k, omega (arith, less, n), numbers b k, omega (arith, n), less)

    bases : (x : ℕ) → base t x ≡ base s x
    bases x = ap (number t x) (c.opened x) ∙ numbers x (s.opened x)
