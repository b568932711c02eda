-- The order of the units of a program is one: each next place is that of the least number that may be next.
use Rattle.std.proofs.Common.{◌≡◌, ◌∙◌, inl, inr, ℕ, zero, suc, ◌<◌, List, [], ◌∷◌, Option, Some, None, slice_get, refl, sym, ap, subst, arith}
use Rattle.std.specs.Prelude.{◌⊎◌}
use Rattle.std.proofs.lemmas.Option.{none-some, same_Some}
use Rattle.xk_callgraph.specs.CallGraph.{AreReached, Path, Reaches}
use Rattle.xk_callgraph.specs.TopologicalOrder.{AreLeast, IsInOrder, IsOnce, IsReady}

-- ---- lists

-- lists that have the same at each place
pub same_lists : {A : Type 0} (xs ys : List A) → ((k : ℕ) → slice_get xs k ≡ slice_get ys k) → xs ≡ ys
same_lists [] [] h = refl
same_lists [] (y ∷ ys) h = absurd (none-some y (h 0))
same_lists (x ∷ xs) [] h = absurd (none-some x (sym (h 0)))
same_lists (x ∷ xs) (y ∷ ys) h = ap (λ z. z ∷ xs) (same_Some x y (h 0)) ∙ ap (λ zs. y ∷ zs) (same_lists xs ys (λ k. h (suc k)))

-- where a list has nothing, it is past all that it has
before_end : {A : Type 0} (xs : List A) (k n : ℕ) (x : A) → slice_get xs k ≡ None → slice_get xs n ≡ Some x → n < k
before_end [] k n x past at = absurd (none-some x at)
before_end (y ∷ ys) zero n x past at = absurd (none-some y (sym past))
before_end (y ∷ ys) (suc k) zero x past at = omega arith
before_end (y ∷ ys) (suc k) (suc n) x past at = let less = before_end ys k n x past at in omega (arith, less)

below : (a k : ℕ) → a < suc k → (a < k) ⊎ (a ≡ k)
below zero zero less = inr refl
below zero (suc k) less = inl (omega arith)
below (suc a) zero less = absurd (omega (arith, less))
below (suc a) (suc k) less = elim (below a k (omega (arith, less))) [
  | inl lt ↦ inl (omega (arith, lt))
  | inr e ↦ inr (ap suc e)
]

-- ---- orders

pub record IsOrdered (calls : List (List ℕ)) (start : ℕ) (order : List ℕ) : Type 0 where
  pub first : slice_get order 0 ≡ Some start
  pub reached : AreReached calls start order
  pub later : IsInOrder calls order
  pub once : IsOnce order
  pub least : AreLeast calls start order

-- one that is reached from one with a place has a place
path_placed : (calls : List (List ℕ)) (order : List ℕ) → IsInOrder calls order → (ns : List ℕ) (i j a : ℕ) → slice_get order a ≡ Some i → Path calls ns i j
    → (b : ℕ) × (slice_get order b ≡ Some j)
path_placed calls order later [] i j a at p = (a, at ∙ ap Some p)
path_placed calls order later (n ∷ ns) i j a at p =
    let b = later a i p.0.0 n at p.0.1 in path_placed calls order later ns n j b.0 b.2 p.1

module _ (calls : List (List ℕ)) (start : ℕ) where
  placed : (order : List ℕ) → IsOrdered calls start order → (j : ℕ) → Reaches calls start j → (b : ℕ) × (slice_get order b ≡ Some j)
  placed order p j r = path_placed calls order p.later r.0 start j 0 p.first r.1

  abbrev Agree : List ℕ → List ℕ → ℕ → Type 0
  Agree xs ys k = (a : ℕ) → a < k → slice_get xs a ≡ slice_get ys a

  -- the one that has the next place in one order may be next in the other
  ready_too : (xs ys : List ℕ) → IsOrdered calls start ys → (k j : ℕ) → Agree xs ys k → slice_get ys k ≡ Some j → IsReady calls start xs k j
  ready_too xs ys q k j same at = record {
    reached = q.reached k j at;
    placeless = λ h. let less = h.1 in let e = q.once h.0 k j (sym (same h.0 less) ∙ h.2) at in omega (arith, e, less);
    callers = λ i c r call.
        let a = placed ys q i r in
        let b = q.later a.0 i c j a.1 call in
        let e : b.0 ≡ k = q.once b.0 k j b.2 at in
        let less : a.0 < k = subst (λ z. a.0 < z) e b.1 in
        (a.0, less, same a.0 less ∙ a.1);
  }

  -- no order goes on where the other ends
  goes_on : (xs ys : List ℕ) → IsOrdered calls start xs → IsOrdered calls start ys → (k i : ℕ) → Agree xs ys k → slice_get xs k ≡ Some i → slice_get ys k ≡ None → ⊥
  goes_on xs ys p q k i same at past =
      let b = placed ys q i (p.reached k i at) in
      let less = before_end ys k b.0 i past b.1 in
      let e = p.once b.0 k i (same b.0 less ∙ b.1) at in
      omega (arith, e, less)

  same_here : (xs ys : List ℕ) → IsOrdered calls start xs → IsOrdered calls start ys → (k : ℕ) → Agree xs ys k → (o e : Option ℕ) → slice_get xs k ≡ o → slice_get ys k ≡ e → o ≡ e
  same_here xs ys p q k same None None here there = refl
  same_here xs ys p q k same (Some i) None here there = absurd (goes_on xs ys p q k i same here there)
  same_here xs ys p q k same None (Some j) here there = absurd (goes_on ys xs q p k j (λ a less. sym (same a less)) there here)
  same_here xs ys p q k same (Some i) (Some j) here there =
      let most = p.least k i j here (ready_too xs ys q k j same there) in
      let least = q.least k j i there (ready_too ys xs p k i (λ a less. sym (same a less)) here) in
      let e : i ≡ j = omega (arith, most, least) in
      ap Some e

  agree : (xs ys : List ℕ) → IsOrdered calls start xs → IsOrdered calls start ys → (k : ℕ) → Agree xs ys k
  agree xs ys p q zero a less = absurd (omega (arith, less))
  agree xs ys p q (suc k) a less =
      let before = agree xs ys p q k in
      elim (below a k less) [
        | inl lt ↦ before a lt
        | inr e ↦ subst (λ z. slice_get xs z ≡ slice_get ys z) (sym e) (same_here xs ys p q k before (slice_get xs k) (slice_get ys k) refl refl)
      ]

  pub one_order : (xs ys : List ℕ) → IsOrdered calls start xs → IsOrdered calls start ys → xs ≡ ys
  one_order xs ys p q = same_lists xs ys (λ k. same_here xs ys p q k (agree xs ys p q k) (slice_get xs k) (slice_get ys k) refl refl)
