-- The times and the span of deeds are exact.
use Rattle.std.proofs.Common.{◌≡◌, ◌∙◌, ℕ, zero, suc, ◌+◌, ◌<◌, ◌≤◌, nat_lt, Bool, true, false, List, [], ◌∷◌, length, Some}
use Rattle.std.proofs.Common.{slice_get}
use Rattle.std.proofs.Common.{◌⊎◌, inl, inr, refl, sym, ap, subst, arith, if◌then◌else◌, ltb-true, ltb-false}
use Rattle.xk_races.specs.declared.deeds.Deed.{Deed}
use Rattle.xk_races.specs.Lists.{number_at}
use Rattle.xk_races.specs.Order.{IsAt, IsOf, Edge}
use Rattle.xk_races.proofs.SightLemmas.{IsRest, rest_head, rest_tail}
use Rattle.xk_span.specs.declared.marks.Mark.{Mark}
use Rattle.xk_span.specs.Chains.{Weights, IsChain, weight_of, IsLong, IsTime}
use Rattle.xk_span.specs.Times.{Known, nothing_known, no_mark, later, mark_at, link, after, known_from, links_from, links_of}
use Rattle.xk_span.specs.Times.{times_from, time_at}
use Rattle.xk_span.specs.Times.{latest_from, last_of, span_of}
use Rattle.xk_span.specs.Exactness.{TimesAreExact, SpanIsExact}
use Rattle.xk_span.proofs.TimeLemmas.{Tells, IsReached, tells_marked}
use Rattle.xk_span.proofs.PassLemmas.{IsKnown, known_first, known_more, heard_here}

whole_rest : (ds : List Deed) → IsRest ds 0 ds
whole_rest ds i d at = let e : i ≡ 0 + i = omega arith in subst (λ m. IsAt ds m d) e at

past : (ds : List Deed) (w : Weights) (rest : List Deed) (n : ℕ) (k : Known) → IsRest ds n rest → IsKnown ds w n k
    → IsKnown ds w (n + length rest) (known_from w n rest k)
past ds w [] n k is known = let e : n ≡ n + 0 = omega arith in subst (λ m. IsKnown ds w m k) e known
past ds w (d ∷ rest) n k is known =
    let e : suc n + length rest ≡ n + suc (length rest) = omega arith in
    subst (λ m. IsKnown ds w m (known_from w (suc n) rest (after n (w n) d k))) e
    (past ds w rest (suc n) (after n (w n) d k) (rest_tail ds n d rest is) (known_more ds w n d k (rest_head ds n d rest is) known))

whole : (ds : List Deed) (w : Weights) → IsKnown ds w (length ds) (known_from w 0 ds nothing_known)
whole ds w =
    let e : 0 + length ds ≡ length ds = omega arith in
    subst (λ m. IsKnown ds w m (known_from w 0 ds nothing_known)) e (past ds w ds 0 nothing_known (whole_rest ds) (known_first ds w))

-- ---- links

-- the link at place i tells of those right before deed n + i
links_rest : (ds : List Deed) (w : Weights) (rest : List Deed) (n : ℕ) (k : Known) → IsRest ds n rest → IsKnown ds w n k
    → (i : ℕ) (d : Deed) → slice_get rest i ≡ Some d → Tells ds w (mark_at (links_from w n rest k) i) (λ m. Edge ds m (n + i))
links_rest ds w [] n k is known i d at = absurd (none at)
  where
    none : slice_get [] i ≡ Some d → ⊥
    none e = cc
links_rest ds w (x ∷ rest) n k is known zero d at =
    let e : n ≡ n + 0 = omega arith in
    subst (λ m. Tells ds w (link x.step.act x.part k) (λ j. Edge ds j m)) e
    (heard_here ds w n x k (rest_head ds n x rest is) known x.part refl)
links_rest ds w (x ∷ rest) n k is known (suc i) d at =
    let e : suc n + i ≡ n + suc i = omega arith in
    subst (λ m. Tells ds w (mark_at (links_from w (suc n) rest (after n (w n) x k)) i) (λ j. Edge ds j m)) e
    (links_rest ds w rest (suc n) (after n (w n) x k) (rest_tail ds n x rest is)
    (known_more ds w n x k (rest_head ds n x rest is) known) i d at)

pub links_tell : (w : Weights) (ds : List Deed) (j : ℕ) (d : Deed) → IsAt ds j d
    → Tells ds w (mark_at (links_of w ds) j) (λ m. Edge ds m j)
links_tell w ds j d at =
    let e : 0 + j ≡ j = omega arith in
    subst (λ m. Tells ds w (mark_at (links_of w ds) j) (λ i. Edge ds i m)) e
    (links_rest ds w ds 0 nothing_known (whole_rest ds) (known_first ds w) j d at)

pub time_is_exact : (w : Weights) (ds : List Deed) (j : ℕ) (d : Deed) → IsAt ds j d → IsTime ds w j (time_at w ds j)
time_is_exact w ds j d here = record { long = of told.reached; most = λ n long. told.most j n refl long }
  where
    l : Mark
    l = mark_at (links_of w ds) j

    told : Tells ds w (record { time = l.time + w j; from = j }) (λ k. k ≡ j)
    told = tells_marked ds w l j d here (links_tell w ds j d here)

    of : IsReached ds w (record { time = l.time + w j; from = j }) (λ k. k ≡ j) → IsLong ds w j (l.time + w j)
    of (inl none) = ([], (d, here), omega (arith, none))
    of (inr h) = h.1

-- the list of times has them
times_rest : (w : Weights) (rest : List Deed) (n : ℕ) (k : Known) (i : ℕ) (d : Deed) → slice_get rest i ≡ Some d
    → number_at (times_from w n rest k) i ≡ (mark_at (links_from w n rest k) i).time + w (n + i)
times_rest w [] n k i d at = absurd (none at)
  where
    none : slice_get [] i ≡ Some d → ⊥
    none e = cc
times_rest w (x ∷ rest) n k zero d at =
    let e : n ≡ n + 0 = omega arith in ap (λ m. (link x.step.act x.part k).time + w m) e
times_rest w (x ∷ rest) n k (suc i) d at =
    let e : suc n + i ≡ n + suc i = omega arith in
    times_rest w rest (suc n) (after n (w n) x k) i d at
    ∙ ap (λ m. (mark_at (links_from w (suc n) rest (after n (w n) x k)) i).time + w m) e

pub times_are_exact : (w : Weights) (ds : List Deed) → TimesAreExact w ds
times_are_exact w ds j d here =
    let e : 0 + j ≡ j = omega arith in
    let told = times_rest w ds 0 nothing_known j d here ∙ ap (λ m. (mark_at (links_of w ds) j).time + w m) e in
    subst (IsTime ds w j) (sym told) (time_is_exact w ds j d here)

-- ---- the latest of some marks

latest_least : (xs : List Mark) (best : Mark) → best.time ≤ (latest_from best xs).time
latest_least [] best = omega arith
latest_least (x ∷ xs) best = by (latest_least xs) (nat_lt best.time x.time) refl
  where
    by : ((b : Mark) → b.time ≤ (latest_from b xs).time) → (o : Bool) → nat_lt best.time x.time ≡ o
        → best.time ≤ (latest_from (if o then x else best) xs).time
    by rest true e = let a = rest x in omega (arith, a, ltb-true best.time x.time e)
    by rest false e = rest best

no_later : (xs : List Mark) (best : Mark) (k : ℕ) → (mark_at xs k).time ≤ (latest_from best xs).time
no_later [] best k = omega arith
no_later (x ∷ xs) best zero = by (nat_lt best.time x.time) refl
  where
    by : (o : Bool) → nat_lt best.time x.time ≡ o → x.time ≤ (latest_from (if o then x else best) xs).time
    by true e = latest_least xs x
    by false e = let a = latest_least xs best in omega (arith, a, ltb-false best.time x.time e)
no_later (x ∷ xs) best (suc k) = no_later xs (later best x) k

-- it is one of them, or the one before them
one_is : (xs : List Mark) (best : Mark) → (latest_from best xs ≡ best) ⊎ ((k : ℕ) × (mark_at xs k ≡ latest_from best xs))
one_is [] best = inl refl
one_is (x ∷ xs) best = by (one_is xs) (nat_lt best.time x.time)
  where
    by : ((b : Mark) → (latest_from b xs ≡ b) ⊎ ((k : ℕ) × (mark_at xs k ≡ latest_from b xs))) → (o : Bool)
        → (latest_from (if o then x else best) xs ≡ best) ⊎ ((k : ℕ) × (mark_at (x ∷ xs) k ≡ latest_from (if o then x else best) xs))
    by rest true = of (rest x)
      where
        of : (latest_from x xs ≡ x) ⊎ ((k : ℕ) × (mark_at xs k ≡ latest_from x xs))
            → (latest_from x xs ≡ best) ⊎ ((k : ℕ) × (mark_at (x ∷ xs) k ≡ latest_from x xs))
        of (inl is) = inr (zero, sym is)
        of (inr h) = inr (suc h.0, h.1)
    by rest false = of (rest best)
      where
        of : (latest_from best xs ≡ best) ⊎ ((k : ℕ) × (mark_at xs k ≡ latest_from best xs))
            → (latest_from best xs ≡ best) ⊎ ((k : ℕ) × (mark_at (x ∷ xs) k ≡ latest_from best xs))
        of (inl is) = inl is
        of (inr h) = inr (suc h.0, h.1)

-- ---- the span

pub at_chain : (ds : List Deed) (j : ℕ) (ks : List ℕ) → IsChain ds j ks → (d : Deed) × IsAt ds j d
at_chain ds j [] h = h
at_chain ds j (k ∷ ks) h = (h.0.0, h.0.1)

within : (ds : List Deed) (j : ℕ) (d : Deed) → IsAt ds j d → j < length ds
within [] j d at = absurd (none at)
  where
    none : slice_get [] j ≡ Some d → ⊥
    none e = cc
within (x ∷ ds) zero d at = omega arith
within (x ∷ ds) (suc j) d at = let a = within ds j d at in omega (arith, a)

-- the last deed of the greatest chain
pub last_reached : (w : Weights) (ds : List Deed)
    → ((last_of w ds).time ≡ 0) ⊎ IsLong ds w (last_of w ds).from (last_of w ds).time
last_reached w ds = by (one_is acts no_mark)
  where
    acts : List Mark
    acts = (known_from w 0 ds nothing_known).acts

    told : (a : ℕ) → IsReached ds w (mark_at acts a) (IsOf ds (length ds) a)
        → ((mark_at acts a).time ≡ 0) ⊎ IsLong ds w (mark_at acts a).from (mark_at acts a).time
    told a (inl none) = inl none
    told a (inr h) = inr h.1

    by : (latest_from no_mark acts ≡ no_mark) ⊎ ((k : ℕ) × (mark_at acts k ≡ latest_from no_mark acts))
        → ((last_of w ds).time ≡ 0) ⊎ IsLong ds w (last_of w ds).from (last_of w ds).time
    by (inl none) = inl (ap (λ (m : Mark). m.time) none)
    by (inr h) =
        subst (λ (m : Mark). (m.time ≡ 0) ⊎ IsLong ds w m.from m.time) h.1 (told h.0 ((whole ds w).acts h.0).reached)

pub span_most : (w : Weights) (ds : List Deed) (j n : ℕ) → IsLong ds w j n → n ≤ span_of w ds
span_most w ds j n long =
    let f = at_chain ds j long.0 long.1 in
    let a = ((whole ds w).acts f.0.step.act).most j n (within ds j f.0 f.1, f.0, f.1, inl refl) long in
    let b = no_later (known_from w 0 ds nothing_known).acts no_mark f.0.step.act in
    omega (arith, a, b)

pub span_is_exact : (w : Weights) (ds : List Deed) → SpanIsExact w ds
span_is_exact w ds = record { reached = of (last_reached w ds); most = span_most w ds }
  where
    of : ((last_of w ds).time ≡ 0) ⊎ IsLong ds w (last_of w ds).from (last_of w ds).time
        → (span_of w ds ≡ 0) ⊎ ((j : ℕ) × IsLong ds w j (span_of w ds))
    of (inl none) = inl none
    of (inr long) = inr ((last_of w ds).from, long)
