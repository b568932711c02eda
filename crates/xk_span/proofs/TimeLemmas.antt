-- Marks that tell how much the greatest chains up to some deeds weigh, and with which of these deeds one of them ends.
use Rattle.std.proofs.Common.{◌≡◌, ◌∙◌, ℕ, ◌+◌, ◌<◌, ◌≤◌, nat_lt, Bool, true, false, List, [], ◌∷◌, ◌⊎◌, inl, inr, refl, sym}
use Rattle.std.proofs.Common.{subst, arith}
use Rattle.std.proofs.Common.{ltb-true, ltb-false, if◌then◌else◌}
use Rattle.xk_races.specs.declared.deeds.Deed.{Deed}
use Rattle.xk_races.specs.Order.{IsAt, Edge}
use Rattle.xk_span.specs.declared.marks.Mark.{Mark}
use Rattle.xk_span.specs.Chains.{Weights, weight_of, IsChain, IsLong}
use Rattle.xk_span.specs.Times.{no_mark, later, behind}

-- one of these deeds, or one that comes right before one of them
abbrev pub Reaches : List Deed → (ℕ → Type 0) → ℕ → Type 0
Reaches ds S i = (k : ℕ) × S k × ((i ≡ k) ⊎ Edge ds i k)

-- nothing weighs up to there, or a chain that ends with one of these deeds weighs so much
abbrev pub IsReached : List Deed → Weights → Mark → (ℕ → Type 0) → Type 0
IsReached ds w t S = (t.time ≡ 0) ⊎ (S t.from × IsLong ds w t.from t.time)

-- a mark is how much the greatest chain up to any of these deeds weighs
pub record Tells (ds : List Deed) (w : Weights) (t : Mark) (S : ℕ → Type 0) : Type 0 where
  pub reached : IsReached ds w t S
  pub most : (k n : ℕ) → S k → IsLong ds w k n → n ≤ t.time

pub tells_none : (ds : List Deed) (w : Weights) → Tells ds w no_mark (λ k. ⊥)
tells_none ds w = record { reached = inl refl; most = λ k n none h. absurd none }

-- of more deeds
reached_more : (ds : List Deed) (w : Weights) (t : Mark) (S T : ℕ → Type 0) → ((k : ℕ) → S k → T k)
    → IsReached ds w t S → IsReached ds w t T
reached_more ds w t S T to (inl none) = inl none
reached_more ds w t S T to (inr h) = inr (to t.from h.0, h.1)

-- of the same deeds
pub tells_same : (ds : List Deed) (w : Weights) (t : Mark) (S T : ℕ → Type 0) → ((k : ℕ) → S k → T k) → ((k : ℕ) → T k → S k)
    → Tells ds w t S → Tells ds w t T
tells_same ds w t S T to from r = record {
  reached = reached_more ds w t S T to r.reached;
  most = λ k n h long. r.most k n (from k h) long;
}

-- the later one tells of both
pub tells_joined : (ds : List Deed) (w : Weights) (r s : Mark) (S T : ℕ → Type 0) → Tells ds w r S → Tells ds w s T
    → Tells ds w (later r s) (λ k. S k ⊎ T k)
tells_joined ds w r s S T t u = by (nat_lt r.time s.time) refl
  where
    by : (o : Bool) → nat_lt r.time s.time ≡ o → Tells ds w (if o then s else r) (λ k. S k ⊎ T k)
    by true e = record { reached = reached_more ds w s T (λ k. S k ⊎ T k) (λ k h. inr h) u.reached; most = most }
      where
        most : (k n : ℕ) → S k ⊎ T k → IsLong ds w k n → n ≤ s.time
        most k n (inl h) long = let a = t.most k n h long in omega (arith, a, ltb-true r.time s.time e)
        most k n (inr h) long = u.most k n h long
    by false e = record { reached = reached_more ds w r S (λ k. S k ⊎ T k) (λ k h. inl h) t.reached; most = most }
      where
        most : (k n : ℕ) → S k ⊎ T k → IsLong ds w k n → n ≤ r.time
        most k n (inl h) long = t.most k n h long
        most k n (inr h) long = let a = u.most k n h long in omega (arith, a, ltb-false r.time s.time e)

-- what tells of those right before a deed, with what that one weighs, tells of it
pub tells_marked : (ds : List Deed) (w : Weights) (t : Mark) (n : ℕ) (e : Deed) → IsAt ds n e → Tells ds w t (λ k. Edge ds k n)
    → Tells ds w (behind n (w n) t) (λ k. k ≡ n)
tells_marked ds w t n e here r = record { reached = of r.reached; most = λ k m is long. by m (subst (λ i. IsLong ds w i m) is long) }
  where
    of : IsReached ds w t (λ k. Edge ds k n) → IsReached ds w (behind n (w n) t) (λ k. k ≡ n)
    of (inl none) = inr (refl, ([], (e, here), omega (arith, none)))
    of (inr (edge, (ks, chain, is))) = inr (refl, (t.from ∷ ks, (edge, chain), omega (arith, is)))

    by : (m : ℕ) → IsLong ds w n m → m ≤ t.time + w n
    by m ([], first, is) = omega (arith, is)
    by m (k ∷ ks, (edge, chain), is) = let a = r.most k (weight_of w (k ∷ ks)) edge (ks, chain, refl) in omega (arith, a, is)

-- of more deeds, each of which is one of the others, or comes right before one
pub tells_within : (ds : List Deed) (w : Weights) (t : Mark) (S T : ℕ → Type 0) → ((k : ℕ) → S k → T k)
    → ((k : ℕ) → T k → Reaches ds S k) → Tells ds w t S → Tells ds w t T
tells_within ds w t S T to from r = record {
  reached = reached_more ds w t S T to r.reached;
  most = λ k n h long. by k n long (from k h);
}
  where
    by : (k n : ℕ) → IsLong ds w k n → Reaches ds S k → n ≤ t.time
    by k n long (i, h, inl is) = r.most i n h (subst (λ x. IsLong ds w x n) is long)
    by k n (ks, chain, is) (i, h, inr edge) =
        let a = r.most i (w i + weight_of w (k ∷ ks)) h (k ∷ ks, (edge, chain), refl) in omega (arith, a, is)
