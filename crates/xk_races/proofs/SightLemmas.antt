-- What is seen of a run has the rows of the least order.
use Rattle.std.proofs.Common.{◌≡◌, ◌∙◌, ℕ, zero, suc, ◌+◌, ◌<◌, Bool, true, false, List, [], ◌∷◌, ◌++◌, Some, slice_get, ◌⊎◌, inl, inr, refl, sym, ap, subst, arith}
use Rattle.std.specs.Prelude.{pred, if◌then◌else◌}
use Rattle.std.proofs.lemmas.Bool.{leb-true, le-leb, false≢true}
use Rattle.std.proofs.lemmas.Option.{same_Some}
use Rattle.xk_races.specs.declared.deeds.Deed.{Deed}
use Rattle.xk_races.specs.Lists.{number_at, row_at}
use Rattle.xk_races.specs.Knowledge.{Known, Sight, after, is_sight, nothing_known, sight, sights_from}
use Rattle.xk_races.specs.Order.{IsAt, IsOf, Own, Before}
use Rattle.xk_races.specs.Exactness.{IsSeen, OrderIsExact}
use Rattle.xk_races.proofs.OrderLemmas.{Reaches, Tells, tells_within}
use Rattle.xk_races.proofs.KnowledgeLemmas.{IsKnown, known_first, known_more, at_last}

-- a deed of the run, with a row that tells of it
record IsRight (ds : List Deed) (x : Sight) : Type 0 where
  place : ℕ
  number : x.number ≡ suc place
  there : IsAt ds place x.deed
  tells : Tells ds x.row (λ m. m ≡ place)

right_here : (ds : List Deed) (n : ℕ) (d : Deed) (k : Known) → IsAt ds n d → IsKnown ds (suc n) k → IsRight ds (sight (suc n) d k)
right_here ds n d k here known = record {
  place = n;
  number = refl;
  there = here;
  tells = tells_within ds (row_at k.acts d.step.act) (IsOf ds (suc n) d.step.act) (λ m. m ≡ n)
      (λ m h. to m h (at_last m n h.0)) from (known.acts d.step.act);
}
  where
    to : (m : ℕ) → IsOf ds (suc n) d.step.act m → (m < n) ⊎ (m ≡ n) → Reaches ds (λ i. i ≡ n) m
    to m h (inl less) = (n, refl, inr ([], (d, here, Own (less, h.1, h.2, h.3))))
    to m h (inr is) = (m, is, inl refl)

    from : (m : ℕ) → m ≡ n → Reaches ds (IsOf ds (suc n) d.step.act) m
    from m is = (m, (omega (arith, is), d, subst (λ i. IsAt ds i d) (sym is) here, inl refl), inl refl)

-- these deeds stand in the run from number n on
abbrev pub IsRest : List Deed → ℕ → List Deed → Type 0
IsRest ds n rest = (i : ℕ) (d : Deed) → slice_get rest i ≡ Some d → IsAt ds (n + i) d

pub rest_head : (ds : List Deed) (n : ℕ) (d : Deed) (rest : List Deed) → IsRest ds n (d ∷ rest) → IsAt ds n d
rest_head ds n d rest h = let e : n + 0 ≡ n = omega arith in subst (λ i. IsAt ds i d) e (h 0 d refl)

pub rest_tail : (ds : List Deed) (n : ℕ) (d : Deed) (rest : List Deed) → IsRest ds n (d ∷ rest) → IsRest ds (suc n) rest
rest_tail ds n d rest h i x at = let e : n + suc i ≡ suc n + i = omega arith in subst (λ j. IsAt ds j x) e (h (suc i) x at)

right : (ds rest : List Deed) (n : ℕ) (k : Known) → IsKnown ds n k → IsRest ds n rest → (p : ℕ) (x : Sight) → slice_get (sights_from k n rest) p ≡ Some x → IsRight ds x
right ds [] n k known h p x at = absurd (none at)
  where
    none : slice_get [] p ≡ Some x → ⊥
    none e = cc
right ds (d ∷ rest) n k known h p x at =
    let here = rest_head ds n d rest h in
    let next = known_more ds n d k here known in
    of (is_sight d.part) p (right_here ds n d (after (suc n) d k) here next)
    (right ds rest (suc n) (after (suc n) d k) next (rest_tail ds n d rest h)) at
  where
    of : (b : Bool) (q : ℕ) → IsRight ds (sight (suc n) d (after (suc n) d k))
        → ((i : ℕ) (y : Sight) → slice_get (sights_from (after (suc n) d k) (suc n) rest) i ≡ Some y → IsRight ds y)
        → slice_get ((if b then sight (suc n) d (after (suc n) d k) ∷ [] else []) ++ sights_from (after (suc n) d k) (suc n) rest) q ≡ Some x → IsRight ds x
    of true zero first others e = subst (IsRight ds) (same_Some (sight (suc n) d (after (suc n) d k)) x e) first
    of true (suc i) first others e = others i x e
    of false i first others e = others i x e

seen : (ds : List Deed) (p : ℕ) (x : Sight) → IsSeen ds p x → IsRight ds x
seen ds = right ds ds 0 nothing_known (known_first ds) (λ i d at. let e : i ≡ 0 + i = omega arith in subst (λ j. IsAt ds j d) e at)

-- deed number i of these, of which the first has number n, is seen
abbrev IsSeenFrom : ℕ → Known → List Deed → ℕ → Type 0
IsSeenFrom n k rest i = (p : ℕ) × (x : Sight) × (slice_get (sights_from k n rest) p ≡ Some x) × (x.number ≡ suc (n + i))

all_seen : (rest : List Deed) (n : ℕ) (k : Known) (i : ℕ) (d : Deed) → slice_get rest i ≡ Some d → is_sight d.part ≡ true → IsSeenFrom n k rest i
all_seen [] n k i d at is = absurd (none at)
  where
    none : slice_get [] i ≡ Some d → ⊥
    none e = cc
all_seen (e ∷ rest) n k zero d at is = of (is_sight e.part) (ap (λ (y : Deed). is_sight y.part) (same_Some e d at) ∙ is)
  where
    others : List Sight
    others = sights_from (after (suc n) e k) (suc n) rest

    first : Sight
    first = sight (suc n) e (after (suc n) e k)

    of : (b : Bool) → b ≡ true → (p : ℕ) × (x : Sight) × (slice_get ((if b then first ∷ [] else []) ++ others) p ≡ Some x) × (x.number ≡ suc (n + 0))
    of true h = (0, first, refl, omega arith)
    of false h = absurd (false≢true h)
all_seen (e ∷ rest) n k (suc i) d at is = of (is_sight e.part) (all_seen rest (suc n) (after (suc n) e k) i d at is)
  where
    others : List Sight
    others = sights_from (after (suc n) e k) (suc n) rest

    first : Sight
    first = sight (suc n) e (after (suc n) e k)

    of : (b : Bool) → IsSeenFrom (suc n) (after (suc n) e k) rest i
        → (p : ℕ) × (x : Sight) × (slice_get ((if b then first ∷ [] else []) ++ others) p ≡ Some x) × (x.number ≡ suc (n + suc i))
    of true f = (suc f.0, f.1, f.2, let a : f.1.number ≡ suc (suc n + i) = f.3 in omega (arith, a))
    of false f = (f.0, f.1, f.2, let a : f.1.number ≡ suc (suc n + i) = f.3 in omega (arith, a))

pub order_is_exact : (ds : List Deed) → OrderIsExact ds
order_is_exact ds = record {
  deeds = λ p x at. let r = seen ds p x at in subst (λ i. IsAt ds i x.deed) (sym (ap pred r.number)) r.there;
  all = λ i d at is.
      let f = all_seen ds 0 nothing_known i d at is in
      let e : 0 + i ≡ i = omega arith in (f.0, f.1, f.2, f.3 ∙ ap suc e);
  sound = λ p q x y here there h.
      let r = seen ds p x here in
      let s = seen ds q y there in
      let le = leb-true x.number (number_at y.row x.deed.step.act) h in
      let g = s.tells.true_of r.place x.deed r.there (omega (arith, le, r.number)) in
      subst (λ i. (i ≡ pred y.number) ⊎ Before ds i (pred y.number)) (sym (ap pred r.number))
      (subst (λ j. (r.place ≡ j) ⊎ Before ds r.place j) (g.1 ∙ sym (ap pred s.number)) g.2);
  complete = λ p q x y here there h.
      let r = seen ds p x here in
      let s = seen ds q y there in
      let b = subst (λ i. Before ds i s.place) (ap pred r.number) (subst (λ j. Before ds (pred x.number) j) (ap pred s.number) h) in
      let lt = s.tells.all_of r.place x.deed r.there (s.place, refl, inr b) in
      le-leb x.number (number_at y.row x.deed.step.act) (omega (arith, lt, r.number));
}
