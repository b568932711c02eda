-- Rows that tell of each activity its last deed that came before, are exactly the least order.
use Rattle.std.proofs.Common.{◌≡◌, ◌∙◌, ℕ, suc, ◌<◌, ◌≤◌, List, [], ◌∷◌, ◌++◌, slice_get, ◌⊎◌, inl, inr, refl, sym, ap, subst, arith}
use Rattle.std.proofs.lemmas.Bool.{cases_eq, cases_lt}
use Rattle.std.proofs.lemmas.Option.{same_Some}
use Rattle.xk_races.specs.declared.deeds.Deed.{Deed}
use Rattle.xk_races.specs.Lists.{number_at, with_at, joined}
use Rattle.xk_races.specs.Order.{IsAt, IsAwaited, Reason, Own, Passed, Closed, Edge, Leads, Before}
use Rattle.xk_races.proofs.RowLemmas.{joined_at, with_at_same, with_at_other}

-- ---- what some deeds are reached from

-- number i is number k, or comes before it
abbrev pub IsUpTo : List Deed → ℕ → ℕ → Type 0
IsUpTo ds i k = (i ≡ k) ⊎ Before ds i k

-- one of these deeds, or one that comes before one of them
abbrev pub Reaches : List Deed → (ℕ → Type 0) → ℕ → Type 0
Reaches ds S i = (k : ℕ) × S k × IsUpTo ds i k

-- a row tells of exactly these
pub record Tells (ds : List Deed) (row : List ℕ) (S : ℕ → Type 0) : Type 0 where
  pub true_of : (i : ℕ) (d : Deed) → IsAt ds i d → i < number_at row d.step.act → Reaches ds S i
  pub all_of : (i : ℕ) (d : Deed) → IsAt ds i d → Reaches ds S i → i < number_at row d.step.act

-- ---- the order goes forward

awaited_before : (ds : List Deed) (n c k : ℕ) → IsAwaited ds n c k → k < n
awaited_before ds n c k (inl h) = h.0
awaited_before ds n c k (inr h) = omega (arith, h.1, h.5.0)

pub reason_less : (ds : List Deed) (k j : ℕ) (e : Deed) → Reason ds k j e → k < j
reason_less ds k j e (Own h) = h.0
reason_less ds k j e (Passed c is h) = let a = awaited_before ds h.0 c k h.5 in omega (arith, h.1, a)
reason_less ds k j e (Closed is h) = h.0

leads_less : (ds : List Deed) (i : ℕ) (ks : List ℕ) (j : ℕ) → Leads ds i ks j → i < j
leads_less ds i [] j h = reason_less ds i j h.0 h.2
leads_less ds i (k ∷ ks) j h = let a = leads_less ds i ks k h.0 in let b = reason_less ds k j h.1.0 h.1.2 in omega (arith, a, b)

before_less : (ds : List Deed) (i j : ℕ) → Before ds i j → i < j
before_less ds i j h = leads_less ds i h.0 j h.1

up_to_le : (ds : List Deed) (i k : ℕ) → IsUpTo ds i k → i ≤ k
up_to_le ds i k (inl is) = omega (arith, is)
up_to_le ds i k (inr h) = let a = before_less ds i k h in omega (arith, a)

-- what comes before is what comes up to one that comes right before
before_by : (ds : List Deed) (i k j : ℕ) → IsUpTo ds i k → Edge ds k j → Before ds i j
before_by ds i k j (inl is) e = ([], subst (λ m. Edge ds m j) (sym is) e)
before_by ds i k j (inr h) e = (k ∷ h.0, (h.1, e))

before_from : (ds : List Deed) (i j : ℕ) → Before ds i j → (k : ℕ) × IsUpTo ds i k × Edge ds k j
before_from ds i j ([], e) = (i, inl refl, e)
before_from ds i j (k ∷ ks, h) = (k, inr (ks, h.0), h.1)

-- ---- rows

pub tells_none : (ds : List Deed) → Tells ds [] (λ k. ⊥)
tells_none ds = record { true_of = λ i d at lt. absurd (omega (arith, lt)); all_of = λ i d at h. absurd h.1 }

-- of the same deeds
pub tells_same : (ds : List Deed) (row : List ℕ) (S T : ℕ → Type 0) → ((k : ℕ) → S k → T k) → ((k : ℕ) → T k → S k) → Tells ds row S → Tells ds row T
tells_same ds row S T to from t = record {
  true_of = λ i d at lt. let h = t.true_of i d at lt in (h.0, to h.0 h.1, h.2);
  all_of = λ i d at h. t.all_of i d at (h.0, from h.0 h.1, h.2);
}

-- two rows joined tell of what either tells of
pub tells_joined : (ds : List Deed) (r s : List ℕ) (S T : ℕ → Type 0) → Tells ds r S → Tells ds s T → Tells ds (joined r s) (λ k. S k ⊎ T k)
tells_joined ds r s S T t u = record { true_of = known; all_of = knows }
  where
    known : (i : ℕ) (d : Deed) → IsAt ds i d → i < number_at (joined r s) d.step.act → Reaches ds (λ k. S k ⊎ T k) i
    known i d at lt = of (cases_lt i (number_at r d.step.act))
      where
        of : (i < number_at r d.step.act) ⊎ (number_at r d.step.act ≤ i) → Reaches ds (λ k. S k ⊎ T k) i
        of (inl less) = let h = t.true_of i d at less in (h.0, inl h.1, h.2)
        of (inr ge) = let h = u.true_of i d at (omega (arith, lt, ge, joined_at r s d.step.act)) in (h.0, inr h.1, h.2)

    knows : (i : ℕ) (d : Deed) → IsAt ds i d → Reaches ds (λ k. S k ⊎ T k) i → i < number_at (joined r s) d.step.act
    knows i d at (k, inl x, up) = let a = t.all_of i d at (k, x, up) in omega (arith, a, joined_at r s d.step.act)
    knows i d at (k, inr x, up) = let a = u.all_of i d at (k, x, up) in omega (arith, a, joined_at r s d.step.act)

-- A row that tells of what comes right before a deed, with the deed itself, tells of that deed.
pub tells_marked : (ds : List Deed) (r : List ℕ) (n : ℕ) (e : Deed) → IsAt ds n e → Tells ds r (λ k. Edge ds k n)
    → Tells ds (with_at 0 r e.step.act (suc n)) (λ k. k ≡ n)
tells_marked ds r n e here t = record { true_of = known; all_of = knows }
  where
    known_by : (i : ℕ) (d : Deed) → IsAt ds i d → (d.step.act ≡ e.step.act) ⊎ (d.step.act ≡ e.step.act → ⊥) → i < number_at (with_at 0 r e.step.act (suc n)) d.step.act
        → Reaches ds (λ k. k ≡ n) i
    known_by i d at (inl same) lt =
        let less : i < suc n = subst (λ x. i < x) (ap (number_at (with_at 0 r e.step.act (suc n))) same ∙ with_at_same 0 r e.step.act (suc n)) lt in
        of less (cases_lt i n)
      where
        of : i < suc n → (i < n) ⊎ (n ≤ i) → Reaches ds (λ k. k ≡ n) i
        of less (inl before) = (n, refl, inr ([], (e, here, Own (before, d, at, inl same))))
        of less (inr ge) = (n, refl, inl (omega (arith, less, ge)))
    known_by i d at (inr other) lt =
        let h = t.true_of i d at (subst (λ x. i < x) (with_at_other 0 r e.step.act d.step.act (suc n) other) lt) in
        (n, refl, inr (before_by ds i h.0 n h.2 h.1))

    known : (i : ℕ) (d : Deed) → IsAt ds i d → i < number_at (with_at 0 r e.step.act (suc n)) d.step.act → Reaches ds (λ k. k ≡ n) i
    known i d at lt = known_by i d at (cases_eq d.step.act e.step.act) lt

    knows_by : (i : ℕ) (d : Deed) → IsAt ds i d → (d.step.act ≡ e.step.act) ⊎ (d.step.act ≡ e.step.act → ⊥) → IsUpTo ds i n
        → i < number_at (with_at 0 r e.step.act (suc n)) d.step.act
    knows_by i d at (inl same) up =
        subst (λ x. i < x) (sym (ap (number_at (with_at 0 r e.step.act (suc n))) same ∙ with_at_same 0 r e.step.act (suc n)))
        (let le = up_to_le ds i n up in omega (arith, le))
    knows_by i d at (inr other) (inl is) =
        absurd (other (ap (λ (x : Deed). x.step.act) (same_Some d e (sym at ∙ ap (slice_get ds) is ∙ here))))
    knows_by i d at (inr other) (inr h) =
        let f = before_from ds i n h in
        subst (λ x. i < x) (sym (with_at_other 0 r e.step.act d.step.act (suc n) other)) (t.all_of i d at (f.0, f.2, f.1))

    knows : (i : ℕ) (d : Deed) → IsAt ds i d → Reaches ds (λ k. k ≡ n) i → i < number_at (with_at 0 r e.step.act (suc n)) d.step.act
    knows i d at h = knows_by i d at (cases_eq d.step.act e.step.act) (subst (λ m. IsUpTo ds i m) h.1 h.2)

-- ---- by way of others

leads_through : (ds : List Deed) (i k : ℕ) (ks js : List ℕ) (m : ℕ) → Leads ds i ks k → Leads ds k js m → Leads ds i (js ++ k ∷ ks) m
leads_through ds i k ks [] m h g = (h, g)
leads_through ds i k ks (j ∷ js) m h g = (leads_through ds i k ks js j h g.0, g.1)

pub up_to_through : (ds : List Deed) (i k m : ℕ) → IsUpTo ds i k → IsUpTo ds k m → IsUpTo ds i m
up_to_through ds i k m (inl is) g = subst (λ j. IsUpTo ds j m) (sym is) g
up_to_through ds i k m (inr h) (inl is) = inr (subst (λ j. Before ds i j) is h)
up_to_through ds i k m (inr h) (inr g) = inr (g.0 ++ k ∷ h.0, leads_through ds i k h.0 g.0 m h.1 g.1)

-- of deeds each of which comes up to one of the others
pub tells_within : (ds : List Deed) (row : List ℕ) (S T : ℕ → Type 0) → ((k : ℕ) → S k → Reaches ds T k) → ((k : ℕ) → T k → Reaches ds S k)
    → Tells ds row S → Tells ds row T
tells_within ds row S T to from t = record {
  true_of = λ i d at lt. let h = t.true_of i d at lt in let g = to h.0 h.1 in (g.0, g.1, up_to_through ds i h.0 g.0 h.2 g.2);
  all_of = λ i d at h. let g = from h.0 h.1 in t.all_of i d at (g.0, g.1, up_to_through ds i h.0 g.0 h.2 g.2);
}
