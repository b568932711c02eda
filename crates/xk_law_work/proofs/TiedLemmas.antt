-- The order of deeds rests on those alone that wait for others or let others go on, and on where each stands among these.
use Rattle.std.proofs.Common.{◌≡◌, ◌∙◌, ℕ, zero, suc, ◌<◌, ◌≤◌, ◌⊎◌, inl, inr, Bool, true, false, true≢false, ◌||◌, cond, List, [], ◌∷◌}
use Rattle.std.proofs.Common.{length, take}
use Rattle.std.proofs.Common.{filter, Some, refl, sym, ap, subst, arith}
use Rattle.std.specs.Prelude.{slice_get}
use Rattle.std.proofs.lemmas.Bool.{cases_lt}
use Rattle.std.proofs.lemmas.Option.{none-some, same_Some}
use Rattle.xk_races.specs.declared.deeds.Deed.{Deed}
use Rattle.xk_races.specs.declared.deeds.Part.{Part}
use Rattle.xk_races.specs.declared.deeds.Part.TheVariants as part
use Rattle.xk_races.specs.Knowledge.{Scopes, nothing_known, scoped}
use Rattle.xk_races.specs.Lists.{number_at}
use Rattle.xk_races.specs.Order.{IsAt, IsAwaited, IsCounted, IsEnd, finish_at, scopes_after}
use Rattle.xk_span.specs.Steps.{lets_go, waits}

-- it waits for others, or lets others go on
abbrev pub is_tied : Part → Bool
is_tied p = waits p || lets_go p

abbrev pub tied : Deed → Bool
tied d = is_tied d.part

-- how many of those stand before place i
abbrev pub rank : List Deed → ℕ → ℕ
rank ds i = length (filter tied (take i ds))

-- ---- places

-- one of them stands at its rank
at_rank : (ds : List Deed) (i : ℕ) (d : Deed) → IsAt ds i d → tied d ≡ true → IsAt (filter tied ds) (rank ds i) d
at_rank [] i d at t = absurd (none-some d at)
at_rank (x ∷ ds) zero d at t = by (tied x) (ap tied (same_Some x d at) ∙ t)
  where
    by : (b : Bool) → b ≡ true → slice_get (cond b (x ∷ filter tied ds) (filter tied ds)) 0 ≡ Some d
    by true e = at
    by false e = absurd (true≢false (sym e))
at_rank (x ∷ ds) (suc i) d at t = by (tied x) (at_rank ds i d at t)
  where
    by : (b : Bool) → IsAt (filter tied ds) (rank ds i) d
        → slice_get (cond b (x ∷ filter tied ds) (filter tied ds))
        (length (cond b (x ∷ filter tied (take i ds)) (filter tied (take i ds)))) ≡ Some d
    by true h = h
    by false h = h

-- the rank behind one more
rank_behind : (x : Deed) (ds : List Deed) (i : ℕ) (b : Bool) → tied x ≡ b
    → rank (x ∷ ds) (suc i) ≡ length (cond b (x ∷ filter tied (take i ds)) (filter tied (take i ds)))
rank_behind x ds i b e = ap (λ q. length (cond q (x ∷ filter tied (take i ds)) (filter tied (take i ds)))) e

-- what stands there is one of them
IsPlaced : List Deed → ℕ → Deed → Type 0
IsPlaced ds r d = (i : ℕ) × IsAt ds i d × (tied d ≡ true) × (rank ds i ≡ r)

of_rank : (ds : List Deed) (r : ℕ) (d : Deed) → IsAt (filter tied ds) r d → IsPlaced ds r d
unfolding IsPlaced
of_rank [] r d at = absurd (none-some d at)
of_rank (x ∷ ds) r d at = by (tied x) refl r at (λ k g. of_rank ds k d g)
  where
    by : (b : Bool) → tied x ≡ b → (r : ℕ) → slice_get (cond b (x ∷ filter tied ds) (filter tied ds)) r ≡ Some d
        → ((k : ℕ) → IsAt (filter tied ds) k d → (i : ℕ) × IsAt ds i d × (tied d ≡ true) × (rank ds i ≡ k))
        → (i : ℕ) × IsAt (x ∷ ds) i d × (tied d ≡ true) × (rank (x ∷ ds) i ≡ r)
    by true e zero h rest = (0, h, ap tied (sym (same_Some x d h)) ∙ e, refl)
    by true e (suc r) h rest = let q = rest r h in (suc q.0, q.1, q.2, rank_behind x ds q.0 true e ∙ ap suc q.3)
    by false e r h rest = let q = rest r h in (suc q.0, q.1, q.2, rank_behind x ds q.0 false e ∙ q.3)

-- who stands further on has no less before it
rank_le : (ds : List Deed) (j i : ℕ) → j ≤ i → rank ds j ≤ rank ds i
rank_le [] zero i le = omega arith
rank_le [] (suc j) zero le = omega arith
rank_le [] (suc j) (suc i) le = omega arith
rank_le (x ∷ ds) zero i le = omega arith
rank_le (x ∷ ds) (suc j) zero le = absurd (omega (arith, le))
rank_le (x ∷ ds) (suc j) (suc i) le = by (tied x) (rank_le ds j i (omega (arith, le)))
  where
    by : (b : Bool) → rank ds j ≤ rank ds i
        → length (cond b (x ∷ filter tied (take j ds)) (filter tied (take j ds)))
        ≤ length (cond b (x ∷ filter tied (take i ds)) (filter tied (take i ds)))
    by true h = omega (arith, h)
    by false h = h

-- and one more behind one of them
rank_up : (ds : List Deed) (i j : ℕ) (d : Deed) → i < j → IsAt ds i d → tied d ≡ true → rank ds i < rank ds j
rank_up [] i j d less at t = absurd (none-some d at)
rank_up (x ∷ ds) i zero d less at t = absurd (omega (arith, less))
rank_up (x ∷ ds) zero (suc j) d less at t =
    let n = rank_behind x ds j true (ap tied (same_Some x d at) ∙ t) in omega (arith, n)
rank_up (x ∷ ds) (suc i) (suc j) d less at t = by (tied x) (rank_up ds i j d (omega (arith, less)) at t)
  where
    by : (b : Bool) → rank ds i < rank ds j
        → length (cond b (x ∷ filter tied (take i ds)) (filter tied (take i ds)))
        < length (cond b (x ∷ filter tied (take j ds)) (filter tied (take j ds)))
    by true h = omega (arith, h)
    by false h = h

rank_down : (ds : List Deed) (i j : ℕ) → rank ds i < rank ds j → i < j
rank_down ds i j less = by (cases_lt i j)
  where
    by : (i < j) ⊎ (j ≤ i) → i < j
    by (inl h) = h
    by (inr h) = absurd (let n = rank_le ds j i h in omega (arith, n, less))

-- ---- finishes

untied_scoped : (a : ℕ) (p : Part) (s : Scopes) → is_tied p ≡ false → scoped a p s ≡ s
untied_scoped a (part.Start b) s e = absurd (true≢false e)
untied_scoped a part.Open s e = absurd (true≢false e)
untied_scoped a part.Close s e = absurd (true≢false e)
untied_scoped a (part.Signal c) s e = refl
untied_scoped a (part.Leave c) s e = refl
untied_scoped a (part.Advance c) s e = refl
untied_scoped a (part.Pass c) s e = refl
untied_scoped a part.End s e = refl
untied_scoped a (part.Access x) s e = refl
untied_scoped a part.Print s e = refl

scopes_tied : (ds : List Deed) (s : Scopes) → scopes_after ds s ≡ scopes_after (filter tied ds) s
scopes_tied [] s = refl
scopes_tied (x ∷ ds) s = by (tied x) refl (λ t. scopes_tied ds t)
  where
    by : (b : Bool) → tied x ≡ b → ((t : Scopes) → scopes_after ds t ≡ scopes_after (filter tied ds) t)
        → scopes_after ds (scoped x.step.act x.part s) ≡ scopes_after (cond b (x ∷ filter tied ds) (filter tied ds)) s
    by true e rest = rest (scoped x.step.act x.part s)
    by false e rest = ap (scopes_after ds) (untied_scoped x.step.act x.part s e) ∙ rest s

take_tied : (ds : List Deed) (i : ℕ) → filter tied (take i ds) ≡ take (rank ds i) (filter tied ds)
take_tied [] zero = refl
take_tied [] (suc i) = refl
take_tied (x ∷ ds) zero = refl
take_tied (x ∷ ds) (suc i) = by (tied x) (take_tied ds i)
  where
    by : (b : Bool) → filter tied (take i ds) ≡ take (rank ds i) (filter tied ds)
        → cond b (x ∷ filter tied (take i ds)) (filter tied (take i ds))
        ≡ take (length (cond b (x ∷ filter tied (take i ds)) (filter tied (take i ds)))) (cond b (x ∷ filter tied ds) (filter tied ds))
    by true h = ap (λ l. x ∷ l) h
    by false h = h

finish_tied : (ds : List Deed) (i a : ℕ) → finish_at ds i a ≡ finish_at (filter tied ds) (rank ds i) a
finish_tied ds i a =
    ap (λ (s : Scopes). number_at s.within a)
    (scopes_tied (take i ds) nothing_known.scopes ∙ ap (λ l. scopes_after l nothing_known.scopes) (take_tied ds i))

-- ---- two lists of which those are the same

module _ (ds es : List Deed) (same : filter tied ds ≡ filter tied es) where
  -- one of them stands in the other, too
  pub placed : (i : ℕ) (d : Deed) → IsAt ds i d → tied d ≡ true → (j : ℕ) × IsAt es j d × (rank es j ≡ rank ds i)
  unfolding IsPlaced
  placed i d at t =
      let q = of_rank es (rank ds i) d (subst (λ l. IsAt l (rank ds i) d) same (at_rank ds i d at t)) in
      (q.0, q.1, q.3)

  -- in the same order
  pub in_order : (i k j l : ℕ) (d : Deed) → i < k → IsAt ds i d → tied d ≡ true → rank es j ≡ rank ds i → rank es l ≡ rank ds k → j < l
  in_order i k j l d less at t p q = rank_down es j l (let n = rank_up ds i k d less at t in omega (arith, n, p, q))

  -- in the same finish
  in_finish : (i j a : ℕ) → rank es j ≡ rank ds i → finish_at es j a ≡ finish_at ds i a
  in_finish i j a p =
      finish_tied es j a ∙ ap (λ r. finish_at (filter tied es) r a) p ∙ ap (λ l. finish_at l (rank ds i) a) (sym same)
      ∙ sym (finish_tied ds i a)

  -- and counted by the same
  pub counted_too : (j c k l i : ℕ) (d : Deed) → IsAt ds k d → IsAt es i d → tied d ≡ true
      → rank es l ≡ rank ds j → rank es i ≡ rank ds k → IsCounted ds j c k → IsCounted es l c i
  counted_too j c k l i d at there t p q h =
      let n = placed h.0 h.2 h.3 (ap is_tied h.4) in (
        n.0,
        in_order h.0 j n.0 l h.2 h.1 h.3 (ap is_tied h.4) n.2 p,
        h.2,
        n.1,
        h.4,
        awaited h.0 n.0 n.2 h.5,
      )
    where
      part_is : (e : Deed) (f : Part) → IsAt ds k e → e.part ≡ f → d.part ≡ f
      part_is e f g is = ap (λ (x : Deed). x.part) (same_Some d e (sym at ∙ g)) ∙ is

      awaited : (m n : ℕ) → rank es n ≡ rank ds m → IsAwaited ds m c k → IsAwaited es n c i
      awaited m n r (inl g) = inl (in_order k m i n d g.0 at t q r, d, there, part_is g.1 (part.Signal c) g.2 g.3)
      awaited m n r (inr g) =
          let b = placed g.0 g.2 g.3 (ap is_tied g.4) in
          let f = g.5 in
          inr (
            b.0,
            in_order g.0 m b.0 n g.2 g.1 g.3 (ap is_tied g.4) b.2 r,
            g.2,
            b.1,
            g.4,
            (in_order k g.0 i b.0 d f.0 at t q b.2, d, there, part_is f.1 (part.Leave c) f.2 f.3),
          )

  pub ended_too : (j k l i a : ℕ) (d : Deed) → IsAt ds k d → IsAt es i d → tied d ≡ true
      → rank es l ≡ rank ds j → rank es i ≡ rank ds k → IsEnd ds j (finish_at ds j a) k → IsEnd es l (finish_at es l a) i
  ended_too j k l i a d at there t p q h =
      let same_deed = same_Some d h.1 (sym at ∙ h.2) in (
        in_order k j i l d h.0 at t q p,
        d,
        there,
        ap (λ (x : Deed). x.part) same_deed ∙ h.3,
        in_finish k i d.step.act q ∙ ap (λ (x : Deed). finish_at ds k x.step.act) same_deed ∙ h.4 ∙ sym (in_finish j l a p),
      )
