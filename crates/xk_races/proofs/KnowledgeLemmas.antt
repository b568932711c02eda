-- What is known deed by deed is exactly the least order.
use Rattle.std.proofs.Common.{◌≡◌, ◌∙◌, ℕ, zero, suc, ◌<◌, ◌≤◌, Bool, true, false, List, [], ◌∷◌, take, Some, slice_get, ◌⊎◌, inl, inr, refl, sym, ap, subst, arith, true≢false}
use Rattle.std.proofs.lemmas.Bool.{cases_eq, cases_lt}
use Rattle.std.proofs.lemmas.Option.{same_Some}
use Rattle.xk_races.specs.declared.deeds.Deed.{Deed}
use Rattle.xk_races.specs.declared.deeds.Part.{Part}
use Rattle.xk_races.specs.declared.deeds.Part.TheVariants as part
use Rattle.xk_races.specs.Lists.{number_at, row_at, with_at, joined}
use Rattle.xk_races.specs.Knowledge.{Known, Scopes, scoped, nothing_known, told_to, finish_of, heard, marked, taught, with_acts, after}
use Rattle.xk_races.specs.Order.{IsAt, IsOf, IsLeave, IsLeft, IsAwaited, IsCounted, IsEnd, Reason, Own, Passed, Closed, Edge, finish_at, scopes_after}
use Rattle.xk_races.proofs.RowLemmas.{with_at_same, with_at_other}
use Rattle.xk_races.proofs.OrderLemmas.{Reaches, Tells, tells_none, tells_same, tells_joined, tells_marked, tells_within}

-- ---- parts of steps

abbrev pub is_start : Part → Bool
is_start (part.Start b) = true
is_start _ = false

abbrev pub is_signal : Part → Bool
is_signal (part.Signal c) = true
is_signal _ = false

abbrev pub is_leave : Part → Bool
is_leave (part.Leave c) = true
is_leave _ = false

abbrev pub is_advance : Part → Bool
is_advance (part.Advance c) = true
is_advance _ = false

abbrev pub is_pass : Part → Bool
is_pass (part.Pass c) = true
is_pass _ = false

abbrev pub is_close : Part → Bool
is_close part.Close = true
is_close _ = false

abbrev pub is_end : Part → Bool
is_end part.End = true
is_end _ = false

abbrev pub number_in : Part → ℕ
number_in (part.Start b) = b
number_in (part.Signal c) = c
number_in (part.Leave c) = c
number_in (part.Advance c) = c
number_in (part.Pass c) = c
number_in (part.Access s) = s
number_in _ = 0

-- two parts that a test tells apart
pub apart : {A : Type 0} (test : Part → Bool) (p q : Part) → test p ≡ false → test q ≡ true → p ≡ q → A
apart test p q never holds same = absurd (true≢false (sym holds ∙ sym (ap test same) ∙ never))

-- ---- what holds behind some deeds

pub record IsKnown (ds : List Deed) (n : ℕ) (k : Known) : Type 0 where
  pub acts : (a : ℕ) → Tells ds (row_at k.acts a) (IsOf ds n a)
  pub signals : (c : ℕ) → Tells ds (row_at k.signals c) (IsAwaited ds n c)
  pub leaves : (c : ℕ) → Tells ds (row_at k.leaves c) (IsLeave ds n c)
  pub advances : (c : ℕ) → Tells ds (row_at k.advances c) (IsCounted ds n c)
  pub ends : (f : ℕ) → Tells ds (row_at k.ends f) (IsEnd ds n f)
  pub scopes : k.scopes ≡ scopes_after (take n ds) nothing_known.scopes

nothing : (ds : List Deed) (S : ℕ → Type 0) → ((m : ℕ) → S m → ⊥) → Tells ds [] S
nothing ds S never = tells_same ds [] (λ m. ⊥) S (λ m h. absurd h) (λ m h. never m h) (tells_none ds)

pub known_first : (ds : List Deed) → IsKnown ds 0 nothing_known
known_first ds = record {
  acts = λ a. nothing ds (IsOf ds 0 a) (λ m h. omega (arith, h.0));
  signals = λ c. nothing ds (IsAwaited ds 0 c) (none c);
  leaves = λ c. nothing ds (IsLeave ds 0 c) (λ m h. omega (arith, h.0));
  advances = λ c. nothing ds (IsCounted ds 0 c) (λ m h. omega (arith, h.1));
  ends = λ f. nothing ds (IsEnd ds 0 f) (λ m h. omega (arith, h.0));
  scopes = refl;
}
  where
    none : (c m : ℕ) → IsAwaited ds 0 c m → ⊥
    none c m (inl h) = omega (arith, h.0)
    none c m (inr h) = omega (arith, h.1)

-- ---- rows that are told

told_here : (rows : List (List ℕ)) (x : ℕ) (row : List ℕ) → row_at (told_to rows x row) x ≡ joined (row_at rows x) row
told_here rows x row = with_at_same [] rows x (joined (row_at rows x) row)

told_elsewhere : (rows : List (List ℕ)) (x y : ℕ) (row : List ℕ) → (y ≡ x → ⊥) → row_at (told_to rows x row) y ≡ row_at rows y
told_elsewhere rows x y row ne = with_at_other [] rows x y (joined (row_at rows x) row) ne

-- row y of a table that learns, in row x, what another row tells of
tells_told : (ds : List Deed) (rows : List (List ℕ)) (x y : ℕ) (row : List ℕ) (S T : ℕ → Type 0) → Tells ds (row_at rows y) S → Tells ds row T
    → Tells ds (row_at (told_to rows x row) y) (λ m. S m ⊎ ((y ≡ x) × T m))
tells_told ds rows x y row S T s t = of (cases_eq y x)
  where
    of : (y ≡ x) ⊎ (y ≡ x → ⊥) → Tells ds (row_at (told_to rows x row) y) (λ m. S m ⊎ ((y ≡ x) × T m))
    of (inl is) =
        tells_same ds (row_at (told_to rows x row) y) (λ m. S m ⊎ T m) (λ m. S m ⊎ ((y ≡ x) × T m)) (to is) from
        (subst (λ r. Tells ds r (λ m. S m ⊎ T m)) (sym (subst (λ z. row_at (told_to rows x row) z ≡ joined (row_at rows z) row) (sym is) (told_here rows x row)))
        (tells_joined ds (row_at rows y) row S T s t))
      where
        to : y ≡ x → (m : ℕ) → S m ⊎ T m → S m ⊎ ((y ≡ x) × T m)
        to e m (inl h) = inl h
        to e m (inr h) = inr (e, h)

        from : (m : ℕ) → S m ⊎ ((y ≡ x) × T m) → S m ⊎ T m
        from m (inl h) = inl h
        from m (inr h) = inr h.1
    of (inr ne) =
        tells_same ds (row_at (told_to rows x row) y) S (λ m. S m ⊎ ((y ≡ x) × T m)) (λ m h. inl h) from
        (subst (λ r. Tells ds r S) (sym (told_elsewhere rows x y row ne)) s)
      where
        from : (m : ℕ) → S m ⊎ ((y ≡ x) × T m) → S m
        from m (inl h) = h
        from m (inr h) = absurd (ne h.0)

-- ---- one more deed

-- before n, or n itself
pub at_last : (m n : ℕ) → m < suc n → (m < n) ⊎ (m ≡ n)
at_last m n lt = of (cases_lt m n)
  where
    of : (m < n) ⊎ (n ≤ m) → (m < n) ⊎ (m ≡ n)
    of (inl less) = inl less
    of (inr ge) = inr (omega (arith, lt, ge))

-- the deed there
same_deed : (ds : List Deed) (m n : ℕ) (d e : Deed) → m ≡ n → IsAt ds m d → IsAt ds n e → d ≡ e
same_deed ds m n d e is at here = same_Some d e (sym at ∙ ap (slice_get ds) is ∙ here)

-- what is of activity x before number n + 1
pub of_more : (ds : List Deed) (n x : ℕ) (e : Deed) → IsAt ds n e → (m : ℕ) → IsOf ds n x m ⊎ (((e.step.act ≡ x) ⊎ (e.part ≡ part.Start x)) × (m ≡ n)) → IsOf ds (suc n) x m
of_more ds n x e here m (inl h) = (omega (arith, h.0), h.1, h.2, h.3)
of_more ds n x e here m (inr h) = (omega (arith, h.1), e, subst (λ i. IsAt ds i e) (sym h.1) here, h.0)

pub of_less : (ds : List Deed) (n x : ℕ) (e : Deed) → IsAt ds n e → (m : ℕ) → IsOf ds (suc n) x m → IsOf ds n x m ⊎ (((e.step.act ≡ x) ⊎ (e.part ≡ part.Start x)) × (m ≡ n))
of_less ds n x e here m h = by (at_last m n h.0)
  where
    by : (m < n) ⊎ (m ≡ n) → IsOf ds n x m ⊎ (((e.step.act ≡ x) ⊎ (e.part ≡ part.Start x)) × (m ≡ n))
    by (inl less) = inl (less, h.1, h.2, h.3)
    by (inr is) = inr (subst (λ (d : Deed). (d.step.act ≡ x) ⊎ (d.part ≡ part.Start x)) (same_deed ds m n h.1 e is h.2 here) h.3, is)

-- deeds before number n of which each has this part
abbrev IsMade : List Deed → ℕ → Part → ℕ → Type 0
IsMade ds n p m = (m < n) × (d : Deed) × IsAt ds m d × (d.part ≡ p)

pub made_more : (ds : List Deed) (n : ℕ) (p : Part) (e : Deed) → IsAt ds n e → (m : ℕ)
    → IsMade ds n p m ⊎ ((e.part ≡ p) × (m ≡ n)) → IsMade ds (suc n) p m
made_more ds n p e here m (inl h) = (omega (arith, h.0), h.1, h.2, h.3)
made_more ds n p e here m (inr h) = (omega (arith, h.1), e, subst (λ i. IsAt ds i e) (sym h.1) here, h.0)

pub made_less : (ds : List Deed) (n : ℕ) (p : Part) (e : Deed) → IsAt ds n e → (m : ℕ)
    → IsMade ds (suc n) p m → IsMade ds n p m ⊎ ((e.part ≡ p) × (m ≡ n))
made_less ds n p e here m h = by (at_last m n h.0)
  where
    by : (m < n) ⊎ (m ≡ n) → IsMade ds n p m ⊎ ((e.part ≡ p) × (m ≡ n))
    by (inl less) = inl (less, h.1, h.2, h.3)
    by (inr is) = inr (subst (λ (d : Deed). d.part ≡ p) (same_deed ds m n h.1 e is h.2 here) h.3, is)

-- deeds of which this was so at an advance of clock c before number n
abbrev WasAtAdvance : List Deed → ℕ → ℕ → (ℕ → ℕ → Type 0) → ℕ → Type 0
WasAtAdvance ds n c S m = (i : ℕ) × (i < n) × (d : Deed) × IsAt ds i d × (d.part ≡ part.Advance c) × S i m

pub advance_more : (ds : List Deed) (n c : ℕ) (S : ℕ → ℕ → Type 0) (e : Deed) → IsAt ds n e → (m : ℕ)
    → WasAtAdvance ds n c S m ⊎ ((e.part ≡ part.Advance c) × S n m) → WasAtAdvance ds (suc n) c S m
advance_more ds n c S e here m (inl h) = (h.0, omega (arith, h.1), h.2, h.3, h.4, h.5)
advance_more ds n c S e here m (inr h) = (n, omega arith, e, here, h.0, h.1)

pub advance_less : (ds : List Deed) (n c : ℕ) (S : ℕ → ℕ → Type 0) (e : Deed) → IsAt ds n e → (m : ℕ)
    → WasAtAdvance ds (suc n) c S m → WasAtAdvance ds n c S m ⊎ ((e.part ≡ part.Advance c) × S n m)
advance_less ds n c S e here m h = by (at_last h.0 n h.1)
  where
    by : (h.0 < n) ⊎ (h.0 ≡ n) → WasAtAdvance ds n c S m ⊎ ((e.part ≡ part.Advance c) × S n m)
    by (inl less) = inl (h.0, less, h.2, h.3, h.4, h.5)
    by (inr is) = inr (subst (λ (d : Deed). d.part ≡ part.Advance c) (same_deed ds h.0 n h.2 e is h.3 here) h.4, subst (λ i. S i m) is h.5)

-- by which deed number m comes to be awaited: it is a signal, or the clock advances behind a leave
abbrev pub ComesToBeAwaited : List Deed → ℕ → ℕ → Deed → ℕ → Type 0
ComesToBeAwaited ds n c e m = ((e.part ≡ part.Signal c) × (m ≡ n)) ⊎ ((e.part ≡ part.Advance c) × IsLeave ds n c m)

pub awaited_more : (ds : List Deed) (n c : ℕ) (e : Deed) → IsAt ds n e → (m : ℕ)
    → IsAwaited ds n c m ⊎ ComesToBeAwaited ds n c e m → IsAwaited ds (suc n) c m
awaited_more ds n c e here m (inl (inl h)) = inl (made_more ds n (part.Signal c) e here m (inl h))
awaited_more ds n c e here m (inl (inr h)) = inr (advance_more ds n c (λ i. IsLeave ds i c) e here m (inl h))
awaited_more ds n c e here m (inr (inl h)) = inl (made_more ds n (part.Signal c) e here m (inr h))
awaited_more ds n c e here m (inr (inr h)) = inr (advance_more ds n c (λ i. IsLeave ds i c) e here m (inr h))

pub awaited_less : (ds : List Deed) (n c : ℕ) (e : Deed) → IsAt ds n e → (m : ℕ)
    → IsAwaited ds (suc n) c m → IsAwaited ds n c m ⊎ ComesToBeAwaited ds n c e m
awaited_less ds n c e here m (inl h) = of (made_less ds n (part.Signal c) e here m h)
  where
    of : IsMade ds n (part.Signal c) m ⊎ ((e.part ≡ part.Signal c) × (m ≡ n)) → IsAwaited ds n c m ⊎ ComesToBeAwaited ds n c e m
    of (inl x) = inl (inl x)
    of (inr x) = inr (inl x)
awaited_less ds n c e here m (inr h) = of (advance_less ds n c (λ i. IsLeave ds i c) e here m h)
  where
    of : IsLeft ds n c m ⊎ ((e.part ≡ part.Advance c) × IsLeave ds n c m) → IsAwaited ds n c m ⊎ ComesToBeAwaited ds n c e m
    of (inl x) = inl (inr x)
    of (inr x) = inr (inr x)

pub end_more : (ds : List Deed) (n f : ℕ) (e : Deed) → IsAt ds n e → (m : ℕ)
    → IsEnd ds n f m ⊎ ((e.part ≡ part.End) × (finish_at ds n e.step.act ≡ f) × (m ≡ n)) → IsEnd ds (suc n) f m
end_more ds n f e here m (inl h) = (omega (arith, h.0), h.1, h.2, h.3, h.4)
end_more ds n f e here m (inr h) = (omega (arith, h.2), e, subst (λ i. IsAt ds i e) (sym h.2) here, h.0, ap (λ i. finish_at ds i e.step.act) h.2 ∙ h.1)

pub end_less : (ds : List Deed) (n f : ℕ) (e : Deed) → IsAt ds n e → (m : ℕ) → IsEnd ds (suc n) f m
    → IsEnd ds n f m ⊎ ((e.part ≡ part.End) × (finish_at ds n e.step.act ≡ f) × (m ≡ n))
end_less ds n f e here m h = by (at_last m n h.0)
  where
    by : (m < n) ⊎ (m ≡ n) → IsEnd ds n f m ⊎ ((e.part ≡ part.End) × (finish_at ds n e.step.act ≡ f) × (m ≡ n))
    by (inl less) = inl (less, h.1, h.2, h.3, h.4)
    by (inr is) =
        let same = same_deed ds m n h.1 e is h.2 here in
        inr (ap (λ (d : Deed). d.part) (sym same) ∙ h.3, sym (ap (λ i. finish_at ds i e.step.act) is) ∙ ap (λ (d : Deed). finish_at ds m d.step.act) (sym same) ∙ h.4, is)

-- ---- what an activity learns

pub reason_here : (ds : List Deed) (m n : ℕ) (e : Deed) → IsAt ds n e → Edge ds m n → Reason ds m n e
reason_here ds m n e here h = subst (λ (d : Deed). Reason ds m n d) (same_Some h.0 e (sym h.1 ∙ here)) h.2

edges_plain : (ds : List Deed) (n : ℕ) (e : Deed) (row : List ℕ) → IsAt ds n e → is_pass e.part ≡ false → is_close e.part ≡ false
    → Tells ds row (IsOf ds n e.step.act) → Tells ds row (λ m. Edge ds m n)
edges_plain ds n e row here pass close t =
    tells_same ds row (IsOf ds n e.step.act) (λ m. Edge ds m n) (λ m h. (e, here, Own h)) (λ m h. by m (reason_here ds m n e here h)) t
  where
    by : (m : ℕ) → Reason ds m n e → IsOf ds n e.step.act m
    by m (Own h) = h
    by m (Passed c is h) = apart is_pass e.part (part.Pass c) pass refl is
    by m (Closed is h) = apart is_close e.part part.Close close refl is

edges_passed : (ds : List Deed) (n c : ℕ) (e : Deed) (row : List ℕ) → IsAt ds n e → e.part ≡ part.Pass c
    → Tells ds row (λ m. IsOf ds n e.step.act m ⊎ ((e.step.act ≡ e.step.act) × IsCounted ds n c m)) → Tells ds row (λ m. Edge ds m n)
edges_passed ds n c e row here is t =
    tells_same ds row (λ m. IsOf ds n e.step.act m ⊎ ((e.step.act ≡ e.step.act) × IsCounted ds n c m)) (λ m. Edge ds m n) to
    (λ m h. by m (reason_here ds m n e here h)) t
  where
    to : (m : ℕ) → IsOf ds n e.step.act m ⊎ ((e.step.act ≡ e.step.act) × IsCounted ds n c m) → Edge ds m n
    to m (inl h) = (e, here, Own h)
    to m (inr h) = (e, here, Passed c is h.1)

    by : (m : ℕ) → Reason ds m n e → IsOf ds n e.step.act m ⊎ ((e.step.act ≡ e.step.act) × IsCounted ds n c m)
    by m (Own h) = inl h
    by m (Passed b was h) = inr (refl, subst (λ x. IsCounted ds n x m) (ap number_in (sym was ∙ is)) h)
    by m (Closed was h) = apart is_close e.part part.Close (ap is_close is) refl was

edges_closed : (ds : List Deed) (n f : ℕ) (e : Deed) (row : List ℕ) → IsAt ds n e → e.part ≡ part.Close → f ≡ finish_at ds n e.step.act
    → Tells ds row (λ m. IsOf ds n e.step.act m ⊎ ((e.step.act ≡ e.step.act) × IsEnd ds n f m)) → Tells ds row (λ m. Edge ds m n)
edges_closed ds n f e row here is finish t =
    tells_same ds row (λ m. IsOf ds n e.step.act m ⊎ ((e.step.act ≡ e.step.act) × IsEnd ds n f m)) (λ m. Edge ds m n) to
    (λ m h. by m (reason_here ds m n e here h)) t
  where
    to : (m : ℕ) → IsOf ds n e.step.act m ⊎ ((e.step.act ≡ e.step.act) × IsEnd ds n f m) → Edge ds m n
    to m (inl h) = (e, here, Own h)
    to m (inr h) = (e, here, Closed is (subst (λ x. IsEnd ds n x m) finish h.1))

    by : (m : ℕ) → Reason ds m n e → IsOf ds n e.step.act m ⊎ ((e.step.act ≡ e.step.act) × IsEnd ds n f m)
    by m (Own h) = inl h
    by m (Passed c was h) = apart is_pass e.part (part.Pass c) (ap is_pass is) refl was
    by m (Closed was h) = inr (refl, subst (λ x. IsEnd ds n x m) (sym finish) h)

finish_known : (ds : List Deed) (n a : ℕ) (k : Known) → IsKnown ds n k → finish_of a k ≡ finish_at ds n a
finish_known ds n a k known = ap (λ (s : Scopes). number_at s.within a) known.scopes

heard_here : (ds : List Deed) (n : ℕ) (e : Deed) (k : Known) → IsAt ds n e → IsKnown ds n k → (p : Part) → e.part ≡ p
    → Tells ds (row_at (heard e.step.act p k) e.step.act) (λ m. Edge ds m n)
heard_here ds n e k here known (part.Pass c) is =
    edges_passed ds n c e (row_at (heard e.step.act (part.Pass c) k) e.step.act) here is
    (tells_told ds k.acts e.step.act e.step.act (row_at k.advances c) (IsOf ds n e.step.act) (IsCounted ds n c) (known.acts e.step.act) (known.advances c))
heard_here ds n e k here known part.Close is =
    edges_closed ds n (finish_of e.step.act k) e (row_at (heard e.step.act part.Close k) e.step.act) here is (finish_known ds n e.step.act k known)
    (tells_told ds k.acts e.step.act e.step.act (row_at k.ends (finish_of e.step.act k)) (IsOf ds n e.step.act) (IsEnd ds n (finish_of e.step.act k))
    (known.acts e.step.act) (known.ends (finish_of e.step.act k)))
heard_here ds n e k here known (part.Start b) is = edges_plain ds n e (row_at k.acts e.step.act) here (ap is_pass is) (ap is_close is) (known.acts e.step.act)
heard_here ds n e k here known (part.Signal c) is = edges_plain ds n e (row_at k.acts e.step.act) here (ap is_pass is) (ap is_close is) (known.acts e.step.act)
heard_here ds n e k here known (part.Leave c) is = edges_plain ds n e (row_at k.acts e.step.act) here (ap is_pass is) (ap is_close is) (known.acts e.step.act)
heard_here ds n e k here known (part.Advance c) is = edges_plain ds n e (row_at k.acts e.step.act) here (ap is_pass is) (ap is_close is) (known.acts e.step.act)
heard_here ds n e k here known part.Open is = edges_plain ds n e (row_at k.acts e.step.act) here (ap is_pass is) (ap is_close is) (known.acts e.step.act)
heard_here ds n e k here known part.End is = edges_plain ds n e (row_at k.acts e.step.act) here (ap is_pass is) (ap is_close is) (known.acts e.step.act)
heard_here ds n e k here known (part.Access s) is = edges_plain ds n e (row_at k.acts e.step.act) here (ap is_pass is) (ap is_close is) (known.acts e.step.act)
heard_here ds n e k here known part.Print is = edges_plain ds n e (row_at k.acts e.step.act) here (ap is_pass is) (ap is_close is) (known.acts e.step.act)

heard_elsewhere : (a y : ℕ) (p : Part) (k : Known) → (y ≡ a → ⊥) → row_at (heard a p k) y ≡ row_at k.acts y
heard_elsewhere a y (part.Pass c) k ne = told_elsewhere k.acts a y (row_at k.advances c) ne
heard_elsewhere a y part.Close k ne = told_elsewhere k.acts a y (row_at k.ends (finish_of a k)) ne
heard_elsewhere a y (part.Start b) k ne = refl
heard_elsewhere a y (part.Signal c) k ne = refl
heard_elsewhere a y (part.Leave c) k ne = refl
heard_elsewhere a y (part.Advance c) k ne = refl
heard_elsewhere a y part.Open k ne = refl
heard_elsewhere a y part.End k ne = refl
heard_elsewhere a y (part.Access s) k ne = refl
heard_elsewhere a y part.Print k ne = refl

-- ---- its deed itself

marked_here : (ds : List Deed) (n : ℕ) (e : Deed) (k : Known) → IsAt ds n e → IsKnown ds n k
    → Tells ds (row_at (marked e.step.act (suc n) (heard e.step.act e.part k)) e.step.act) (λ m. m ≡ n)
marked_here ds n e k here known =
    let row = row_at (heard e.step.act e.part k) e.step.act in
    subst (λ r. Tells ds r (λ m. m ≡ n)) (sym (with_at_same [] (heard e.step.act e.part k) e.step.act (with_at 0 row e.step.act (suc n))))
    (tells_marked ds row n e here (heard_here ds n e k here known e.part refl))

marked_all : (ds : List Deed) (n : ℕ) (e : Deed) (k : Known) → IsAt ds n e → IsKnown ds n k → (y : ℕ)
    → Tells ds (row_at (marked e.step.act (suc n) (heard e.step.act e.part k)) y) (λ m. IsOf ds n y m ⊎ ((e.step.act ≡ y) × (m ≡ n)))
marked_all ds n e k here known y = of (cases_eq y e.step.act)
  where
    to : e.step.act ≡ y → (m : ℕ) → m ≡ n → Reaches ds (λ i. IsOf ds n y i ⊎ ((e.step.act ≡ y) × (i ≡ n))) m
    to is m h = (m, inr (is, h), inl refl)

    from : e.step.act ≡ y → (m : ℕ) → IsOf ds n y m ⊎ ((e.step.act ≡ y) × (m ≡ n)) → Reaches ds (λ i. i ≡ n) m
    from is m (inl h) = (n, refl, inr ([], (e, here, Own (subst (λ x. IsOf ds n x m) (sym is) h))))
    from is m (inr h) = (m, h.1, inl refl)

    less : (e.step.act ≡ y → ⊥) → (m : ℕ) → IsOf ds n y m ⊎ ((e.step.act ≡ y) × (m ≡ n)) → IsOf ds n y m
    less ne m (inl h) = h
    less ne m (inr h) = absurd (ne h.0)

    of : (y ≡ e.step.act) ⊎ (y ≡ e.step.act → ⊥)
        → Tells ds (row_at (marked e.step.act (suc n) (heard e.step.act e.part k)) y) (λ m. IsOf ds n y m ⊎ ((e.step.act ≡ y) × (m ≡ n)))
    of (inl is) =
        tells_within ds (row_at (marked e.step.act (suc n) (heard e.step.act e.part k)) y) (λ m. m ≡ n) (λ m. IsOf ds n y m ⊎ ((e.step.act ≡ y) × (m ≡ n)))
        (to (sym is)) (from (sym is))
        (subst (λ x. Tells ds (row_at (marked e.step.act (suc n) (heard e.step.act e.part k)) x) (λ m. m ≡ n)) (sym is) (marked_here ds n e k here known))
    of (inr ne) =
        tells_same ds (row_at (marked e.step.act (suc n) (heard e.step.act e.part k)) y) (IsOf ds n y) (λ m. IsOf ds n y m ⊎ ((e.step.act ≡ y) × (m ≡ n)))
        (λ m h. inl h) (less (λ is. ne (sym is)))
        (subst (λ r. Tells ds r (IsOf ds n y))
        (sym (with_at_other [] (heard e.step.act e.part k) e.step.act y (with_at 0 (row_at (heard e.step.act e.part k) e.step.act) e.step.act (suc n)) ne
        ∙ heard_elsewhere e.step.act y e.part k ne))
        (known.acts y))

-- ---- who is told of it

-- what holds once the activity knows deed number n, before it tells
record IsHeard (ds : List Deed) (n : ℕ) (e : Deed) (k : Known) : Type 0 where
  here : IsAt ds n e
  all : (y : ℕ) → Tells ds (row_at k.acts y) (λ m. IsOf ds n y m ⊎ ((e.step.act ≡ y) × (m ≡ n)))
  own : Tells ds (row_at k.acts e.step.act) (λ m. m ≡ n)
  signals : (c : ℕ) → Tells ds (row_at k.signals c) (IsAwaited ds n c)
  leaves : (c : ℕ) → Tells ds (row_at k.leaves c) (IsLeave ds n c)
  advances : (c : ℕ) → Tells ds (row_at k.advances c) (IsCounted ds n c)
  ends : (f : ℕ) → Tells ds (row_at k.ends f) (IsEnd ds n f)
  finish : finish_of e.step.act k ≡ finish_at ds n e.step.act

acts_plain : (ds : List Deed) (n y : ℕ) (e : Deed) (k : Known) → IsHeard ds n e k → is_start e.part ≡ false → Tells ds (row_at k.acts y) (IsOf ds (suc n) y)
acts_plain ds n y e k h never =
    tells_same ds (row_at k.acts y) (λ m. IsOf ds n y m ⊎ ((e.step.act ≡ y) × (m ≡ n))) (IsOf ds (suc n) y) (λ m x. of_more ds n y e h.here m (to m x))
    (λ m x. from m (of_less ds n y e h.here m x)) (h.all y)
  where
    to : (m : ℕ) → IsOf ds n y m ⊎ ((e.step.act ≡ y) × (m ≡ n)) → IsOf ds n y m ⊎ (((e.step.act ≡ y) ⊎ (e.part ≡ part.Start y)) × (m ≡ n))
    to m (inl x) = inl x
    to m (inr x) = inr (inl x.0, x.1)

    from : (m : ℕ) → IsOf ds n y m ⊎ (((e.step.act ≡ y) ⊎ (e.part ≡ part.Start y)) × (m ≡ n)) → IsOf ds n y m ⊎ ((e.step.act ≡ y) × (m ≡ n))
    from m (inl x) = inl x
    from m (inr (inl is, at)) = inr (is, at)
    from m (inr (inr is, at)) = apart is_start e.part (part.Start y) never refl is

acts_told : (ds : List Deed) (n y : ℕ) (e : Deed) (k : Known) → IsHeard ds n e k → (p : Part) → e.part ≡ p
    → Tells ds (row_at (taught e.step.act p k).acts y) (IsOf ds (suc n) y)
acts_told ds n y e k h (part.Start b) is =
    tells_same ds (row_at (told_to k.acts b (row_at k.acts e.step.act)) y) (λ m. (IsOf ds n y m ⊎ ((e.step.act ≡ y) × (m ≡ n))) ⊎ ((y ≡ b) × (m ≡ n)))
    (IsOf ds (suc n) y) (λ m x. of_more ds n y e h.here m (to m x)) (λ m x. from m (of_less ds n y e h.here m x))
    (tells_told ds k.acts b y (row_at k.acts e.step.act) (λ m. IsOf ds n y m ⊎ ((e.step.act ≡ y) × (m ≡ n))) (λ m. m ≡ n) (h.all y) h.own)
  where
    to : (m : ℕ) → (IsOf ds n y m ⊎ ((e.step.act ≡ y) × (m ≡ n))) ⊎ ((y ≡ b) × (m ≡ n))
        → IsOf ds n y m ⊎ (((e.step.act ≡ y) ⊎ (e.part ≡ part.Start y)) × (m ≡ n))
    to m (inl (inl x)) = inl x
    to m (inl (inr x)) = inr (inl x.0, x.1)
    to m (inr x) = inr (inr (is ∙ ap (λ i. part.Start i) (sym x.0)), x.1)

    from : (m : ℕ) → IsOf ds n y m ⊎ (((e.step.act ≡ y) ⊎ (e.part ≡ part.Start y)) × (m ≡ n))
        → (IsOf ds n y m ⊎ ((e.step.act ≡ y) × (m ≡ n))) ⊎ ((y ≡ b) × (m ≡ n))
    from m (inl x) = inl (inl x)
    from m (inr (inl q, at)) = inl (inr (q, at))
    from m (inr (inr q, at)) = inr (ap number_in (sym q ∙ is), at)
acts_told ds n y e k h (part.Signal c) is = acts_plain ds n y e k h (ap is_start is)
acts_told ds n y e k h (part.Leave c) is = acts_plain ds n y e k h (ap is_start is)
acts_told ds n y e k h (part.Advance c) is = acts_plain ds n y e k h (ap is_start is)
acts_told ds n y e k h (part.Pass c) is = acts_plain ds n y e k h (ap is_start is)
acts_told ds n y e k h part.Open is = acts_plain ds n y e k h (ap is_start is)
acts_told ds n y e k h part.Close is = acts_plain ds n y e k h (ap is_start is)
acts_told ds n y e k h part.End is = acts_plain ds n y e k h (ap is_start is)
acts_told ds n y e k h (part.Access s) is = acts_plain ds n y e k h (ap is_start is)
acts_told ds n y e k h part.Print is = acts_plain ds n y e k h (ap is_start is)

signals_plain : (ds : List Deed) (n c : ℕ) (e : Deed) (k : Known) → IsHeard ds n e k → is_signal e.part ≡ false → is_advance e.part ≡ false
    → Tells ds (row_at k.signals c) (IsAwaited ds (suc n) c)
signals_plain ds n c e k h never still =
    tells_same ds (row_at k.signals c) (IsAwaited ds n c) (IsAwaited ds (suc n) c) (λ m x. awaited_more ds n c e h.here m (inl x))
    (λ m x. from m (awaited_less ds n c e h.here m x)) (h.signals c)
  where
    from : (m : ℕ) → IsAwaited ds n c m ⊎ ComesToBeAwaited ds n c e m → IsAwaited ds n c m
    from m (inl x) = x
    from m (inr (inl x)) = apart is_signal e.part (part.Signal c) never refl x.0
    from m (inr (inr x)) = apart is_advance e.part (part.Advance c) still refl x.0

signals_told : (ds : List Deed) (n c : ℕ) (e : Deed) (k : Known) → IsHeard ds n e k → (p : Part) → e.part ≡ p
    → Tells ds (row_at (taught e.step.act p k).signals c) (IsAwaited ds (suc n) c)
signals_told ds n c e k h (part.Signal b) is =
    tells_same ds (row_at (told_to k.signals b (row_at k.acts e.step.act)) c) (λ m. IsAwaited ds n c m ⊎ ((c ≡ b) × (m ≡ n)))
    (IsAwaited ds (suc n) c) (λ m x. awaited_more ds n c e h.here m (to m x)) (λ m x. from m (awaited_less ds n c e h.here m x))
    (tells_told ds k.signals b c (row_at k.acts e.step.act) (IsAwaited ds n c) (λ m. m ≡ n) (h.signals c) h.own)
  where
    to : (m : ℕ) → IsAwaited ds n c m ⊎ ((c ≡ b) × (m ≡ n)) → IsAwaited ds n c m ⊎ ComesToBeAwaited ds n c e m
    to m (inl x) = inl x
    to m (inr x) = inr (inl (is ∙ ap (λ i. part.Signal i) (sym x.0), x.1))

    from : (m : ℕ) → IsAwaited ds n c m ⊎ ComesToBeAwaited ds n c e m → IsAwaited ds n c m ⊎ ((c ≡ b) × (m ≡ n))
    from m (inl x) = inl x
    from m (inr (inl x)) = inr (ap number_in (sym x.0 ∙ is), x.1)
    from m (inr (inr x)) = apart is_advance e.part (part.Advance c) (ap is_advance is) refl x.0
signals_told ds n c e k h (part.Advance b) is =
    tells_same ds (row_at (told_to k.signals b (row_at k.leaves b)) c) (λ m. IsAwaited ds n c m ⊎ ((c ≡ b) × IsLeave ds n b m))
    (IsAwaited ds (suc n) c) (λ m x. awaited_more ds n c e h.here m (to m x)) (λ m x. from m (awaited_less ds n c e h.here m x))
    (tells_told ds k.signals b c (row_at k.leaves b) (IsAwaited ds n c) (IsLeave ds n b) (h.signals c) (h.leaves b))
  where
    to : (m : ℕ) → IsAwaited ds n c m ⊎ ((c ≡ b) × IsLeave ds n b m) → IsAwaited ds n c m ⊎ ComesToBeAwaited ds n c e m
    to m (inl x) = inl x
    to m (inr x) = inr (inr (is ∙ ap (λ i. part.Advance i) (sym x.0), subst (λ i. IsLeave ds n i m) (sym x.0) x.1))

    from : (m : ℕ) → IsAwaited ds n c m ⊎ ComesToBeAwaited ds n c e m → IsAwaited ds n c m ⊎ ((c ≡ b) × IsLeave ds n b m)
    from m (inl x) = inl x
    from m (inr (inl x)) = apart is_signal e.part (part.Signal c) (ap is_signal is) refl x.0
    from m (inr (inr x)) = let same : c ≡ b = ap number_in (sym x.0 ∙ is) in inr (same, subst (λ i. IsLeave ds n i m) same x.1)
signals_told ds n c e k h (part.Start b) is = signals_plain ds n c e k h (ap is_signal is) (ap is_advance is)
signals_told ds n c e k h (part.Leave b) is = signals_plain ds n c e k h (ap is_signal is) (ap is_advance is)
signals_told ds n c e k h (part.Pass b) is = signals_plain ds n c e k h (ap is_signal is) (ap is_advance is)
signals_told ds n c e k h part.Open is = signals_plain ds n c e k h (ap is_signal is) (ap is_advance is)
signals_told ds n c e k h part.Close is = signals_plain ds n c e k h (ap is_signal is) (ap is_advance is)
signals_told ds n c e k h part.End is = signals_plain ds n c e k h (ap is_signal is) (ap is_advance is)
signals_told ds n c e k h (part.Access s) is = signals_plain ds n c e k h (ap is_signal is) (ap is_advance is)
signals_told ds n c e k h part.Print is = signals_plain ds n c e k h (ap is_signal is) (ap is_advance is)

leaves_plain : (ds : List Deed) (n c : ℕ) (e : Deed) (k : Known) → IsHeard ds n e k → is_leave e.part ≡ false
    → Tells ds (row_at k.leaves c) (IsLeave ds (suc n) c)
leaves_plain ds n c e k h never =
    tells_same ds (row_at k.leaves c) (IsLeave ds n c) (IsLeave ds (suc n) c) (λ m x. made_more ds n (part.Leave c) e h.here m (inl x))
    (λ m x. from m (made_less ds n (part.Leave c) e h.here m x)) (h.leaves c)
  where
    from : (m : ℕ) → IsLeave ds n c m ⊎ ((e.part ≡ part.Leave c) × (m ≡ n)) → IsLeave ds n c m
    from m (inl x) = x
    from m (inr x) = apart is_leave e.part (part.Leave c) never refl x.0

leaves_told : (ds : List Deed) (n c : ℕ) (e : Deed) (k : Known) → IsHeard ds n e k → (p : Part) → e.part ≡ p
    → Tells ds (row_at (taught e.step.act p k).leaves c) (IsLeave ds (suc n) c)
leaves_told ds n c e k h (part.Leave b) is =
    tells_same ds (row_at (told_to k.leaves b (row_at k.acts e.step.act)) c) (λ m. IsLeave ds n c m ⊎ ((c ≡ b) × (m ≡ n)))
    (IsLeave ds (suc n) c) (λ m x. made_more ds n (part.Leave c) e h.here m (to m x)) (λ m x. from m (made_less ds n (part.Leave c) e h.here m x))
    (tells_told ds k.leaves b c (row_at k.acts e.step.act) (IsLeave ds n c) (λ m. m ≡ n) (h.leaves c) h.own)
  where
    to : (m : ℕ) → IsLeave ds n c m ⊎ ((c ≡ b) × (m ≡ n)) → IsLeave ds n c m ⊎ ((e.part ≡ part.Leave c) × (m ≡ n))
    to m (inl x) = inl x
    to m (inr x) = inr (is ∙ ap (λ i. part.Leave i) (sym x.0), x.1)

    from : (m : ℕ) → IsLeave ds n c m ⊎ ((e.part ≡ part.Leave c) × (m ≡ n)) → IsLeave ds n c m ⊎ ((c ≡ b) × (m ≡ n))
    from m (inl x) = inl x
    from m (inr x) = inr (ap number_in (sym x.0 ∙ is), x.1)
leaves_told ds n c e k h (part.Start b) is = leaves_plain ds n c e k h (ap is_leave is)
leaves_told ds n c e k h (part.Signal b) is = leaves_plain ds n c e k h (ap is_leave is)
leaves_told ds n c e k h (part.Advance b) is = leaves_plain ds n c e k h (ap is_leave is)
leaves_told ds n c e k h (part.Pass b) is = leaves_plain ds n c e k h (ap is_leave is)
leaves_told ds n c e k h part.Open is = leaves_plain ds n c e k h (ap is_leave is)
leaves_told ds n c e k h part.Close is = leaves_plain ds n c e k h (ap is_leave is)
leaves_told ds n c e k h part.End is = leaves_plain ds n c e k h (ap is_leave is)
leaves_told ds n c e k h (part.Access s) is = leaves_plain ds n c e k h (ap is_leave is)
leaves_told ds n c e k h part.Print is = leaves_plain ds n c e k h (ap is_leave is)

advances_plain : (ds : List Deed) (n c : ℕ) (e : Deed) (k : Known) → IsHeard ds n e k → is_advance e.part ≡ false
    → Tells ds (row_at k.advances c) (IsCounted ds (suc n) c)
advances_plain ds n c e k h never =
    tells_same ds (row_at k.advances c) (IsCounted ds n c) (IsCounted ds (suc n) c)
    (λ m x. advance_more ds n c (λ i. IsAwaited ds i c) e h.here m (inl x))
    (λ m x. from m (advance_less ds n c (λ i. IsAwaited ds i c) e h.here m x)) (h.advances c)
  where
    from : (m : ℕ) → IsCounted ds n c m ⊎ ((e.part ≡ part.Advance c) × IsAwaited ds n c m) → IsCounted ds n c m
    from m (inl x) = x
    from m (inr x) = apart is_advance e.part (part.Advance c) never refl x.0

advances_told : (ds : List Deed) (n c : ℕ) (e : Deed) (k : Known) → IsHeard ds n e k → (p : Part) → e.part ≡ p
    → Tells ds (row_at (taught e.step.act p k).advances c) (IsCounted ds (suc n) c)
advances_told ds n c e k h (part.Advance b) is =
    tells_same ds (row_at (told_to k.advances b (row_at k.signals b)) c) (λ m. IsCounted ds n c m ⊎ ((c ≡ b) × IsAwaited ds n b m))
    (IsCounted ds (suc n) c) (λ m x. advance_more ds n c (λ i. IsAwaited ds i c) e h.here m (to m x))
    (λ m x. from m (advance_less ds n c (λ i. IsAwaited ds i c) e h.here m x))
    (tells_told ds k.advances b c (row_at k.signals b) (IsCounted ds n c) (IsAwaited ds n b) (h.advances c) (h.signals b))
  where
    to : (m : ℕ) → IsCounted ds n c m ⊎ ((c ≡ b) × IsAwaited ds n b m)
        → IsCounted ds n c m ⊎ ((e.part ≡ part.Advance c) × IsAwaited ds n c m)
    to m (inl x) = inl x
    to m (inr x) = inr (is ∙ ap (λ i. part.Advance i) (sym x.0), subst (λ i. IsAwaited ds n i m) (sym x.0) x.1)

    from : (m : ℕ) → IsCounted ds n c m ⊎ ((e.part ≡ part.Advance c) × IsAwaited ds n c m)
        → IsCounted ds n c m ⊎ ((c ≡ b) × IsAwaited ds n b m)
    from m (inl x) = inl x
    from m (inr x) = let same : c ≡ b = ap number_in (sym x.0 ∙ is) in inr (same, subst (λ i. IsAwaited ds n i m) same x.1)
advances_told ds n c e k h (part.Start b) is = advances_plain ds n c e k h (ap is_advance is)
advances_told ds n c e k h (part.Signal b) is = advances_plain ds n c e k h (ap is_advance is)
advances_told ds n c e k h (part.Leave b) is = advances_plain ds n c e k h (ap is_advance is)
advances_told ds n c e k h (part.Pass b) is = advances_plain ds n c e k h (ap is_advance is)
advances_told ds n c e k h part.Open is = advances_plain ds n c e k h (ap is_advance is)
advances_told ds n c e k h part.Close is = advances_plain ds n c e k h (ap is_advance is)
advances_told ds n c e k h part.End is = advances_plain ds n c e k h (ap is_advance is)
advances_told ds n c e k h (part.Access s) is = advances_plain ds n c e k h (ap is_advance is)
advances_told ds n c e k h part.Print is = advances_plain ds n c e k h (ap is_advance is)

ends_plain : (ds : List Deed) (n f : ℕ) (e : Deed) (k : Known) → IsHeard ds n e k → is_end e.part ≡ false → Tells ds (row_at k.ends f) (IsEnd ds (suc n) f)
ends_plain ds n f e k h never =
    tells_same ds (row_at k.ends f) (IsEnd ds n f) (IsEnd ds (suc n) f) (λ m x. end_more ds n f e h.here m (inl x))
    (λ m x. from m (end_less ds n f e h.here m x)) (h.ends f)
  where
    from : (m : ℕ) → IsEnd ds n f m ⊎ ((e.part ≡ part.End) × (finish_at ds n e.step.act ≡ f) × (m ≡ n)) → IsEnd ds n f m
    from m (inl x) = x
    from m (inr x) = apart is_end e.part part.End never refl x.0

ends_told : (ds : List Deed) (n f : ℕ) (e : Deed) (k : Known) → IsHeard ds n e k → (p : Part) → e.part ≡ p
    → Tells ds (row_at (taught e.step.act p k).ends f) (IsEnd ds (suc n) f)
ends_told ds n f e k h part.End is =
    tells_same ds (row_at (told_to k.ends (finish_of e.step.act k) (row_at k.acts e.step.act)) f)
    (λ m. IsEnd ds n f m ⊎ ((f ≡ finish_of e.step.act k) × (m ≡ n))) (IsEnd ds (suc n) f)
    (λ m x. end_more ds n f e h.here m (to m x)) (λ m x. from m (end_less ds n f e h.here m x))
    (tells_told ds k.ends (finish_of e.step.act k) f (row_at k.acts e.step.act) (IsEnd ds n f) (λ m. m ≡ n) (h.ends f) h.own)
  where
    to : (m : ℕ) → IsEnd ds n f m ⊎ ((f ≡ finish_of e.step.act k) × (m ≡ n))
        → IsEnd ds n f m ⊎ ((e.part ≡ part.End) × (finish_at ds n e.step.act ≡ f) × (m ≡ n))
    to m (inl x) = inl x
    to m (inr x) = inr (is, sym h.finish ∙ sym x.0, x.1)

    from : (m : ℕ) → IsEnd ds n f m ⊎ ((e.part ≡ part.End) × (finish_at ds n e.step.act ≡ f) × (m ≡ n))
        → IsEnd ds n f m ⊎ ((f ≡ finish_of e.step.act k) × (m ≡ n))
    from m (inl x) = inl x
    from m (inr x) = inr (sym x.1 ∙ sym h.finish, x.2)
ends_told ds n f e k h (part.Start b) is = ends_plain ds n f e k h (ap is_end is)
ends_told ds n f e k h (part.Signal b) is = ends_plain ds n f e k h (ap is_end is)
ends_told ds n f e k h (part.Leave b) is = ends_plain ds n f e k h (ap is_end is)
ends_told ds n f e k h (part.Advance b) is = ends_plain ds n f e k h (ap is_end is)
ends_told ds n f e k h (part.Pass b) is = ends_plain ds n f e k h (ap is_end is)
ends_told ds n f e k h part.Open is = ends_plain ds n f e k h (ap is_end is)
ends_told ds n f e k h part.Close is = ends_plain ds n f e k h (ap is_end is)
ends_told ds n f e k h (part.Access s) is = ends_plain ds n f e k h (ap is_end is)
ends_told ds n f e k h part.Print is = ends_plain ds n f e k h (ap is_end is)

pub scopes_more : (ds : List Deed) (n : ℕ) (e : Deed) (s : Scopes) → IsAt ds n e
    → scopes_after (take (suc n) ds) s ≡ scoped e.step.act e.part (scopes_after (take n ds) s)
scopes_more [] n e s here = absurd (none here)
  where
    none : slice_get [] n ≡ Some e → ⊥
    none h = cc
scopes_more (d ∷ ds) zero e s here = ap (λ (x : Deed). scoped x.step.act x.part s) (same_Some d e here)
scopes_more (d ∷ ds) (suc n) e s here = scopes_more ds n e (scoped d.step.act d.part s) here

-- behind deed number n
pub known_more : (ds : List Deed) (n : ℕ) (e : Deed) (k : Known) → IsAt ds n e → IsKnown ds n k → IsKnown ds (suc n) (after (suc n) e k)
known_more ds n e k here known =
    let a = e.step.act in
    let there = with_acts k (marked a (suc n) (heard a e.part k)) in
    let h : IsHeard ds n e there = record {
      here = here;
      all = marked_all ds n e k here known;
      own = marked_here ds n e k here known;
      signals = known.signals;
      leaves = known.leaves;
      advances = known.advances;
      ends = known.ends;
      finish = finish_known ds n a k known;
    } in
    record {
      acts = λ y. acts_told ds n y e there h e.part refl;
      signals = λ c. signals_told ds n c e there h e.part refl;
      leaves = λ c. leaves_told ds n c e there h e.part refl;
      advances = λ c. advances_told ds n c e there h e.part refl;
      ends = λ f. ends_told ds n f e there h e.part refl;
      scopes = ap (scoped a e.part) known.scopes ∙ sym (scopes_more ds n e nothing_known.scopes here);
    }
