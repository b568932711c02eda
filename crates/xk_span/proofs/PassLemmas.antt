-- What the pass along the deeds knows is how much the greatest chains weigh. As `KnowledgeLemmas.antt` of `xk_races` goes, with
-- marks for rows.
use Rattle.std.proofs.Common.{◌≡◌, ◌∙◌, ℕ, suc, ◌<◌, ◌≤◌, false, List, [], take, ◌⊎◌, inl, inr, refl, sym, ap, subst, arith}
use Rattle.std.proofs.lemmas.Bool.{cases_eq}
use Rattle.xk_races.specs.declared.deeds.Deed.{Deed}
use Rattle.xk_races.specs.declared.deeds.Part.{Part}
use Rattle.xk_races.specs.declared.deeds.Part.TheVariants as part
use Rattle.xk_races.specs.Lists.{number_at}
use Rattle.xk_races.specs.Knowledge.{Scopes, scoped}
use Rattle.xk_races.specs.Order.{IsAt, IsOf, IsLeave, IsAwaited, IsCounted, IsEnd}
use Rattle.xk_races.specs.Order.{Reason, Own, Passed, Closed, Edge, finish_at, scopes_after}
use Rattle.xk_races.proofs.RowLemmas.{with_at_same, with_at_other}
use Rattle.xk_races.proofs.KnowledgeLemmas.{is_start, is_signal, is_leave, is_advance, is_pass, is_close, is_end, number_in}
use Rattle.xk_races.proofs.KnowledgeLemmas.{apart}
use Rattle.xk_races.proofs.KnowledgeLemmas.{of_more, of_less, made_more, made_less, advance_more, advance_less}
use Rattle.xk_races.proofs.KnowledgeLemmas.{ComesToBeAwaited, awaited_more, awaited_less, end_more, end_less, reason_here}
use Rattle.xk_races.proofs.KnowledgeLemmas.{scopes_more}
use Rattle.xk_span.specs.declared.marks.Mark.{Mark}
use Rattle.xk_span.specs.Chains.{Weights}
use Rattle.xk_span.specs.Times.{Known, nothing_known, no_mark, later, mark_at, told_to, finish_of, heard, link, behind}
use Rattle.xk_span.specs.Times.{marked, taught}
use Rattle.xk_span.specs.Times.{learnt, after}
use Rattle.xk_span.proofs.TimeLemmas.{Reaches, Tells, tells_none, tells_same, tells_joined, tells_marked, tells_within}

-- ---- what holds behind some deeds

pub record IsKnown (ds : List Deed) (w : Weights) (n : ℕ) (k : Known) : Type 0 where
  pub acts : (a : ℕ) → Tells ds w (mark_at k.acts a) (IsOf ds n a)
  pub signals : (c : ℕ) → Tells ds w (mark_at k.signals c) (IsAwaited ds n c)
  pub leaves : (c : ℕ) → Tells ds w (mark_at k.leaves c) (IsLeave ds n c)
  pub advances : (c : ℕ) → Tells ds w (mark_at k.advances c) (IsCounted ds n c)
  pub ends : (f : ℕ) → Tells ds w (mark_at k.ends f) (IsEnd ds n f)
  pub scopes : k.scopes ≡ scopes_after (take n ds) nothing_known.scopes

nothing : (ds : List Deed) (w : Weights) (S : ℕ → Type 0) → ((m : ℕ) → S m → ⊥) → Tells ds w no_mark S
nothing ds w S never = tells_same ds w no_mark (λ m. ⊥) S (λ m h. absurd h) (λ m h. never m h) (tells_none ds w)

pub known_first : (ds : List Deed) (w : Weights) → IsKnown ds w 0 nothing_known
known_first ds w = record {
  acts = λ a. nothing ds w (IsOf ds 0 a) (λ m h. omega (arith, h.0));
  signals = λ c. nothing ds w (IsAwaited ds 0 c) (none c);
  leaves = λ c. nothing ds w (IsLeave ds 0 c) (λ m h. omega (arith, h.0));
  advances = λ c. nothing ds w (IsCounted ds 0 c) (λ m h. omega (arith, h.1));
  ends = λ f. nothing ds w (IsEnd ds 0 f) (λ m h. omega (arith, h.0));
  scopes = refl;
}
  where
    none : (c m : ℕ) → IsAwaited ds 0 c m → ⊥
    none c m (inl h) = omega (arith, h.0)
    none c m (inr h) = omega (arith, h.1)

-- ---- marks that are told

told_here : (rows : List Mark) (x : ℕ) (row : Mark) → mark_at (told_to rows x row) x ≡ later (mark_at rows x) row
told_here rows x row = with_at_same no_mark rows x (later (mark_at rows x) row)

told_elsewhere : (rows : List Mark) (x y : ℕ) (row : Mark) → (y ≡ x → ⊥) → mark_at (told_to rows x row) y ≡ mark_at rows y
told_elsewhere rows x y row ne = with_at_other no_mark rows x y (later (mark_at rows x) row) ne

-- mark y of a table that learns, at place x, what another mark tells of
tells_told : (ds : List Deed) (w : Weights) (rows : List Mark) (x y : ℕ) (row : Mark) (S T : ℕ → Type 0)
    → Tells ds w (mark_at rows y) S → Tells ds w row T
    → Tells ds w (mark_at (told_to rows x row) y) (λ m. S m ⊎ ((y ≡ x) × T m))
tells_told ds w rows x y row S T s t = of (cases_eq y x)
  where
    of : (y ≡ x) ⊎ (y ≡ x → ⊥) → Tells ds w (mark_at (told_to rows x row) y) (λ m. S m ⊎ ((y ≡ x) × T m))
    of (inl is) =
        tells_same ds w (mark_at (told_to rows x row) y) (λ m. S m ⊎ T m) (λ m. S m ⊎ ((y ≡ x) × T m)) (to is) from
        (subst (λ r. Tells ds w r (λ m. S m ⊎ T m))
        (sym (subst (λ z. mark_at (told_to rows x row) z ≡ later (mark_at rows z) row) (sym is) (told_here rows x row)))
        (tells_joined ds w (mark_at rows y) row S T s t))
      where
        to : y ≡ x → (m : ℕ) → S m ⊎ T m → S m ⊎ ((y ≡ x) × T m)
        to e m (inl h) = inl h
        to e m (inr h) = inr (e, h)

        from : (m : ℕ) → S m ⊎ ((y ≡ x) × T m) → S m ⊎ T m
        from m (inl h) = inl h
        from m (inr h) = inr h.1
    of (inr ne) =
        tells_same ds w (mark_at (told_to rows x row) y) S (λ m. S m ⊎ ((y ≡ x) × T m)) (λ m h. inl h) from
        (subst (λ r. Tells ds w r S) (sym (told_elsewhere rows x y row ne)) s)
      where
        from : (m : ℕ) → S m ⊎ ((y ≡ x) × T m) → S m
        from m (inl h) = h
        from m (inr h) = absurd (ne h.0)

-- ---- what an activity learns

edges_plain : (ds : List Deed) (w : Weights) (n : ℕ) (e : Deed) (row : Mark) → IsAt ds n e → is_pass e.part ≡ false
    → is_close e.part ≡ false
    → Tells ds w row (IsOf ds n e.step.act) → Tells ds w row (λ m. Edge ds m n)
edges_plain ds w n e row here pass close t =
    tells_same ds w row (IsOf ds n e.step.act) (λ m. Edge ds m n) (λ m h. (e, here, Own h)) (λ m h. by m (reason_here ds m n e here h)) t
  where
    by : (m : ℕ) → Reason ds m n e → IsOf ds n e.step.act m
    by m (Own h) = h
    by m (Passed c is h) = apart is_pass e.part (part.Pass c) pass refl is
    by m (Closed is h) = apart is_close e.part part.Close close refl is

edges_passed : (ds : List Deed) (w : Weights) (n c : ℕ) (e : Deed) (row : Mark) → IsAt ds n e → e.part ≡ part.Pass c
    → Tells ds w row (λ m. IsOf ds n e.step.act m ⊎ ((e.step.act ≡ e.step.act) × IsCounted ds n c m))
    → Tells ds w row (λ m. Edge ds m n)
edges_passed ds w n c e row here is t =
    tells_same ds w row (λ m. IsOf ds n e.step.act m ⊎ ((e.step.act ≡ e.step.act) × IsCounted ds n c m)) (λ m. Edge ds m n) to
    (λ m h. by m (reason_here ds m n e here h)) t
  where
    to : (m : ℕ) → IsOf ds n e.step.act m ⊎ ((e.step.act ≡ e.step.act) × IsCounted ds n c m) → Edge ds m n
    to m (inl h) = (e, here, Own h)
    to m (inr h) = (e, here, Passed c is h.1)

    by : (m : ℕ) → Reason ds m n e → IsOf ds n e.step.act m ⊎ ((e.step.act ≡ e.step.act) × IsCounted ds n c m)
    by m (Own h) = inl h
    by m (Passed b was h) = inr (refl, subst (λ x. IsCounted ds n x m) (ap number_in (sym was ∙ is)) h)
    by m (Closed was h) = apart is_close e.part part.Close (ap is_close is) refl was

edges_closed : (ds : List Deed) (w : Weights) (n f : ℕ) (e : Deed) (row : Mark) → IsAt ds n e → e.part ≡ part.Close
    → f ≡ finish_at ds n e.step.act
    → Tells ds w row (λ m. IsOf ds n e.step.act m ⊎ ((e.step.act ≡ e.step.act) × IsEnd ds n f m))
    → Tells ds w row (λ m. Edge ds m n)
edges_closed ds w n f e row here is finish t =
    tells_same ds w row (λ m. IsOf ds n e.step.act m ⊎ ((e.step.act ≡ e.step.act) × IsEnd ds n f m)) (λ m. Edge ds m n) to
    (λ m h. by m (reason_here ds m n e here h)) t
  where
    to : (m : ℕ) → IsOf ds n e.step.act m ⊎ ((e.step.act ≡ e.step.act) × IsEnd ds n f m) → Edge ds m n
    to m (inl h) = (e, here, Own h)
    to m (inr h) = (e, here, Closed is (subst (λ x. IsEnd ds n x m) finish h.1))

    by : (m : ℕ) → Reason ds m n e → IsOf ds n e.step.act m ⊎ ((e.step.act ≡ e.step.act) × IsEnd ds n f m)
    by m (Own h) = inl h
    by m (Passed c was h) = apart is_pass e.part (part.Pass c) (ap is_pass is) refl was
    by m (Closed was h) = inr (refl, subst (λ x. IsEnd ds n x m) (sym finish) h)

finish_known : (ds : List Deed) (w : Weights) (n a : ℕ) (k : Known) → IsKnown ds w n k → finish_of a k ≡ finish_at ds n a
finish_known ds w n a k known = ap (λ (s : Scopes). number_at s.within a) known.scopes

pub heard_here : (ds : List Deed) (w : Weights) (n : ℕ) (e : Deed) (k : Known) → IsAt ds n e → IsKnown ds w n k
    → (p : Part) → e.part ≡ p
    → Tells ds w (mark_at (heard e.step.act p k) e.step.act) (λ m. Edge ds m n)
heard_here ds w n e k here known (part.Pass c) is =
    edges_passed ds w n c e (mark_at (heard e.step.act (part.Pass c) k) e.step.act) here is
    (tells_told ds w k.acts e.step.act e.step.act (mark_at k.advances c) (IsOf ds n e.step.act) (IsCounted ds n c)
    (known.acts e.step.act) (known.advances c))
heard_here ds w n e k here known part.Close is =
    edges_closed ds w n (finish_of e.step.act k) e (mark_at (heard e.step.act part.Close k) e.step.act) here is
    (finish_known ds w n e.step.act k known)
    (tells_told ds w k.acts e.step.act e.step.act (mark_at k.ends (finish_of e.step.act k)) (IsOf ds n e.step.act)
    (IsEnd ds n (finish_of e.step.act k))
    (known.acts e.step.act) (known.ends (finish_of e.step.act k)))
heard_here ds w n e k here known (part.Start b) is =
    edges_plain ds w n e (mark_at k.acts e.step.act) here (ap is_pass is) (ap is_close is) (known.acts e.step.act)
heard_here ds w n e k here known (part.Signal c) is =
    edges_plain ds w n e (mark_at k.acts e.step.act) here (ap is_pass is) (ap is_close is) (known.acts e.step.act)
heard_here ds w n e k here known (part.Leave c) is =
    edges_plain ds w n e (mark_at k.acts e.step.act) here (ap is_pass is) (ap is_close is) (known.acts e.step.act)
heard_here ds w n e k here known (part.Advance c) is =
    edges_plain ds w n e (mark_at k.acts e.step.act) here (ap is_pass is) (ap is_close is) (known.acts e.step.act)
heard_here ds w n e k here known part.Open is =
    edges_plain ds w n e (mark_at k.acts e.step.act) here (ap is_pass is) (ap is_close is) (known.acts e.step.act)
heard_here ds w n e k here known part.End is =
    edges_plain ds w n e (mark_at k.acts e.step.act) here (ap is_pass is) (ap is_close is) (known.acts e.step.act)
heard_here ds w n e k here known (part.Access s) is =
    edges_plain ds w n e (mark_at k.acts e.step.act) here (ap is_pass is) (ap is_close is) (known.acts e.step.act)
heard_here ds w n e k here known part.Print is =
    edges_plain ds w n e (mark_at k.acts e.step.act) here (ap is_pass is) (ap is_close is) (known.acts e.step.act)

heard_elsewhere : (a y : ℕ) (p : Part) (k : Known) → (y ≡ a → ⊥) → mark_at (heard a p k) y ≡ mark_at k.acts y
heard_elsewhere a y (part.Pass c) k ne = told_elsewhere k.acts a y (mark_at k.advances c) ne
heard_elsewhere a y part.Close k ne = told_elsewhere k.acts a y (mark_at k.ends (finish_of a k)) ne
heard_elsewhere a y (part.Start b) k ne = refl
heard_elsewhere a y (part.Signal c) k ne = refl
heard_elsewhere a y (part.Leave c) k ne = refl
heard_elsewhere a y (part.Advance c) k ne = refl
heard_elsewhere a y part.Open k ne = refl
heard_elsewhere a y part.End k ne = refl
heard_elsewhere a y (part.Access s) k ne = refl
heard_elsewhere a y part.Print k ne = refl

-- ---- its deed itself

marked_here : (ds : List Deed) (w : Weights) (n : ℕ) (e : Deed) (k : Known) → IsAt ds n e → IsKnown ds w n k
    → Tells ds w (mark_at (marked e.step.act n (w n) (heard e.step.act e.part k)) e.step.act) (λ m. m ≡ n)
marked_here ds w n e k here known =
    let row = mark_at (heard e.step.act e.part k) e.step.act in
    subst (λ r. Tells ds w r (λ m. m ≡ n)) (sym (with_at_same no_mark (heard e.step.act e.part k) e.step.act (behind n (w n) row)))
    (tells_marked ds w row n e here (heard_here ds w n e k here known e.part refl))

marked_all : (ds : List Deed) (w : Weights) (n : ℕ) (e : Deed) (k : Known) → IsAt ds n e → IsKnown ds w n k → (y : ℕ)
    → Tells ds w (mark_at (marked e.step.act n (w n) (heard e.step.act e.part k)) y) (λ m. IsOf ds n y m ⊎ ((e.step.act ≡ y) × (m ≡ n)))
marked_all ds w n e k here known y = of (cases_eq y e.step.act)
  where
    to : e.step.act ≡ y → (m : ℕ) → m ≡ n → IsOf ds n y m ⊎ ((e.step.act ≡ y) × (m ≡ n))
    to is m h = inr (is, h)

    from : e.step.act ≡ y → (m : ℕ) → IsOf ds n y m ⊎ ((e.step.act ≡ y) × (m ≡ n)) → Reaches ds (λ i. i ≡ n) m
    from is m (inl h) = (n, refl, inr (e, here, Own (subst (λ x. IsOf ds n x m) (sym is) h)))
    from is m (inr h) = (m, h.1, inl refl)

    less : (e.step.act ≡ y → ⊥) → (m : ℕ) → IsOf ds n y m ⊎ ((e.step.act ≡ y) × (m ≡ n)) → IsOf ds n y m
    less ne m (inl h) = h
    less ne m (inr h) = absurd (ne h.0)

    of : (y ≡ e.step.act) ⊎ (y ≡ e.step.act → ⊥)
        → Tells ds w (mark_at (marked e.step.act n (w n) (heard e.step.act e.part k)) y)
        (λ m. IsOf ds n y m ⊎ ((e.step.act ≡ y) × (m ≡ n)))
    of (inl is) =
        tells_within ds w (mark_at (marked e.step.act n (w n) (heard e.step.act e.part k)) y) (λ m. m ≡ n)
        (λ m. IsOf ds n y m ⊎ ((e.step.act ≡ y) × (m ≡ n)))
        (to (sym is)) (from (sym is))
        (subst (λ x. Tells ds w (mark_at (marked e.step.act n (w n) (heard e.step.act e.part k)) x) (λ m. m ≡ n)) (sym is)
        (marked_here ds w n e k here known))
    of (inr ne) =
        tells_same ds w (mark_at (marked e.step.act n (w n) (heard e.step.act e.part k)) y) (IsOf ds n y)
        (λ m. IsOf ds n y m ⊎ ((e.step.act ≡ y) × (m ≡ n)))
        (λ m h. inl h) (less (λ is. ne (sym is)))
        (subst (λ r. Tells ds w r (IsOf ds n y))
        (sym (with_at_other no_mark (heard e.step.act e.part k) e.step.act y
        (behind n (w n) (mark_at (heard e.step.act e.part k) e.step.act)) ne
        ∙ heard_elsewhere e.step.act y e.part k ne))
        (known.acts y))

-- ---- who is told of it

-- what holds once the activity knows deed number n, before it tells
record IsHeard (ds : List Deed) (w : Weights) (n : ℕ) (e : Deed) (k : Known) : Type 0 where
  here : IsAt ds n e
  all : (y : ℕ) → Tells ds w (mark_at k.acts y) (λ m. IsOf ds n y m ⊎ ((e.step.act ≡ y) × (m ≡ n)))
  own : Tells ds w (mark_at k.acts e.step.act) (λ m. m ≡ n)
  signals : (c : ℕ) → Tells ds w (mark_at k.signals c) (IsAwaited ds n c)
  leaves : (c : ℕ) → Tells ds w (mark_at k.leaves c) (IsLeave ds n c)
  advances : (c : ℕ) → Tells ds w (mark_at k.advances c) (IsCounted ds n c)
  ends : (f : ℕ) → Tells ds w (mark_at k.ends f) (IsEnd ds n f)
  finish : finish_of e.step.act k ≡ finish_at ds n e.step.act

acts_plain : (ds : List Deed) (w : Weights) (n y : ℕ) (e : Deed) (k : Known) → IsHeard ds w n e k → is_start e.part ≡ false
    → Tells ds w (mark_at k.acts y) (IsOf ds (suc n) y)
acts_plain ds w n y e k h never =
    tells_same ds w (mark_at k.acts y) (λ m. IsOf ds n y m ⊎ ((e.step.act ≡ y) × (m ≡ n))) (IsOf ds (suc n) y)
    (λ m x. of_more ds n y e h.here m (to m x))
    (λ m x. from m (of_less ds n y e h.here m x)) (h.all y)
  where
    to : (m : ℕ) → IsOf ds n y m ⊎ ((e.step.act ≡ y) × (m ≡ n))
        → IsOf ds n y m ⊎ (((e.step.act ≡ y) ⊎ (e.part ≡ part.Start y)) × (m ≡ n))
    to m (inl x) = inl x
    to m (inr x) = inr (inl x.0, x.1)

    from : (m : ℕ) → IsOf ds n y m ⊎ (((e.step.act ≡ y) ⊎ (e.part ≡ part.Start y)) × (m ≡ n))
        → IsOf ds n y m ⊎ ((e.step.act ≡ y) × (m ≡ n))
    from m (inl x) = inl x
    from m (inr (inl is, at)) = inr (is, at)
    from m (inr (inr is, at)) = apart is_start e.part (part.Start y) never refl is

acts_told : (ds : List Deed) (w : Weights) (n y : ℕ) (e : Deed) (k : Known) → IsHeard ds w n e k → (p : Part) → e.part ≡ p
    → Tells ds w (mark_at (taught e.step.act p k).acts y) (IsOf ds (suc n) y)
acts_told ds w n y e k h (part.Start b) is =
    tells_same ds w (mark_at (told_to k.acts b (mark_at k.acts e.step.act)) y)
    (λ m. (IsOf ds n y m ⊎ ((e.step.act ≡ y) × (m ≡ n))) ⊎ ((y ≡ b) × (m ≡ n)))
    (IsOf ds (suc n) y) (λ m x. of_more ds n y e h.here m (to m x)) (λ m x. from m (of_less ds n y e h.here m x))
    (tells_told ds w k.acts b y (mark_at k.acts e.step.act) (λ m. IsOf ds n y m ⊎ ((e.step.act ≡ y) × (m ≡ n))) (λ m. m ≡ n)
    (h.all y) h.own)
  where
    to : (m : ℕ) → (IsOf ds n y m ⊎ ((e.step.act ≡ y) × (m ≡ n))) ⊎ ((y ≡ b) × (m ≡ n))
        → IsOf ds n y m ⊎ (((e.step.act ≡ y) ⊎ (e.part ≡ part.Start y)) × (m ≡ n))
    to m (inl (inl x)) = inl x
    to m (inl (inr x)) = inr (inl x.0, x.1)
    to m (inr x) = inr (inr (is ∙ ap (λ i. part.Start i) (sym x.0)), x.1)

    from : (m : ℕ) → IsOf ds n y m ⊎ (((e.step.act ≡ y) ⊎ (e.part ≡ part.Start y)) × (m ≡ n))
        → (IsOf ds n y m ⊎ ((e.step.act ≡ y) × (m ≡ n))) ⊎ ((y ≡ b) × (m ≡ n))
    from m (inl x) = inl (inl x)
    from m (inr (inl q, at)) = inl (inr (q, at))
    from m (inr (inr q, at)) = inr (ap number_in (sym q ∙ is), at)
acts_told ds w n y e k h (part.Signal c) is = acts_plain ds w n y e k h (ap is_start is)
acts_told ds w n y e k h (part.Leave c) is = acts_plain ds w n y e k h (ap is_start is)
acts_told ds w n y e k h (part.Advance c) is = acts_plain ds w n y e k h (ap is_start is)
acts_told ds w n y e k h (part.Pass c) is = acts_plain ds w n y e k h (ap is_start is)
acts_told ds w n y e k h part.Open is = acts_plain ds w n y e k h (ap is_start is)
acts_told ds w n y e k h part.Close is = acts_plain ds w n y e k h (ap is_start is)
acts_told ds w n y e k h part.End is = acts_plain ds w n y e k h (ap is_start is)
acts_told ds w n y e k h (part.Access s) is = acts_plain ds w n y e k h (ap is_start is)
acts_told ds w n y e k h part.Print is = acts_plain ds w n y e k h (ap is_start is)

signals_plain : (ds : List Deed) (w : Weights) (n c : ℕ) (e : Deed) (k : Known) → IsHeard ds w n e k
    → is_signal e.part ≡ false → is_advance e.part ≡ false
    → Tells ds w (mark_at k.signals c) (IsAwaited ds (suc n) c)
signals_plain ds w n c e k h never still =
    tells_same ds w (mark_at k.signals c) (IsAwaited ds n c) (IsAwaited ds (suc n) c) (λ m x. awaited_more ds n c e h.here m (inl x))
    (λ m x. from m (awaited_less ds n c e h.here m x)) (h.signals c)
  where
    from : (m : ℕ) → IsAwaited ds n c m ⊎ ComesToBeAwaited ds n c e m → IsAwaited ds n c m
    from m (inl x) = x
    from m (inr (inl x)) = apart is_signal e.part (part.Signal c) never refl x.0
    from m (inr (inr x)) = apart is_advance e.part (part.Advance c) still refl x.0

signals_told : (ds : List Deed) (w : Weights) (n c : ℕ) (e : Deed) (k : Known) → IsHeard ds w n e k → (p : Part) → e.part ≡ p
    → Tells ds w (mark_at (taught e.step.act p k).signals c) (IsAwaited ds (suc n) c)
signals_told ds w n c e k h (part.Signal b) is =
    tells_same ds w (mark_at (told_to k.signals b (mark_at k.acts e.step.act)) c) (λ m. IsAwaited ds n c m ⊎ ((c ≡ b) × (m ≡ n)))
    (IsAwaited ds (suc n) c) (λ m x. awaited_more ds n c e h.here m (to m x)) (λ m x. from m (awaited_less ds n c e h.here m x))
    (tells_told ds w k.signals b c (mark_at k.acts e.step.act) (IsAwaited ds n c) (λ m. m ≡ n) (h.signals c) h.own)
  where
    to : (m : ℕ) → IsAwaited ds n c m ⊎ ((c ≡ b) × (m ≡ n)) → IsAwaited ds n c m ⊎ ComesToBeAwaited ds n c e m
    to m (inl x) = inl x
    to m (inr x) = inr (inl (is ∙ ap (λ i. part.Signal i) (sym x.0), x.1))

    from : (m : ℕ) → IsAwaited ds n c m ⊎ ComesToBeAwaited ds n c e m → IsAwaited ds n c m ⊎ ((c ≡ b) × (m ≡ n))
    from m (inl x) = inl x
    from m (inr (inl x)) = inr (ap number_in (sym x.0 ∙ is), x.1)
    from m (inr (inr x)) = apart is_advance e.part (part.Advance c) (ap is_advance is) refl x.0
signals_told ds w n c e k h (part.Advance b) is =
    tells_same ds w (mark_at (told_to k.signals b (mark_at k.leaves b)) c) (λ m. IsAwaited ds n c m ⊎ ((c ≡ b) × IsLeave ds n b m))
    (IsAwaited ds (suc n) c) (λ m x. awaited_more ds n c e h.here m (to m x)) (λ m x. from m (awaited_less ds n c e h.here m x))
    (tells_told ds w k.signals b c (mark_at k.leaves b) (IsAwaited ds n c) (IsLeave ds n b) (h.signals c) (h.leaves b))
  where
    to : (m : ℕ) → IsAwaited ds n c m ⊎ ((c ≡ b) × IsLeave ds n b m) → IsAwaited ds n c m ⊎ ComesToBeAwaited ds n c e m
    to m (inl x) = inl x
    to m (inr x) = inr (inr (is ∙ ap (λ i. part.Advance i) (sym x.0), subst (λ i. IsLeave ds n i m) (sym x.0) x.1))

    from : (m : ℕ) → IsAwaited ds n c m ⊎ ComesToBeAwaited ds n c e m → IsAwaited ds n c m ⊎ ((c ≡ b) × IsLeave ds n b m)
    from m (inl x) = inl x
    from m (inr (inl x)) = apart is_signal e.part (part.Signal c) (ap is_signal is) refl x.0
    from m (inr (inr x)) = let same : c ≡ b = ap number_in (sym x.0 ∙ is) in inr (same, subst (λ i. IsLeave ds n i m) same x.1)
signals_told ds w n c e k h (part.Start b) is = signals_plain ds w n c e k h (ap is_signal is) (ap is_advance is)
signals_told ds w n c e k h (part.Leave b) is = signals_plain ds w n c e k h (ap is_signal is) (ap is_advance is)
signals_told ds w n c e k h (part.Pass b) is = signals_plain ds w n c e k h (ap is_signal is) (ap is_advance is)
signals_told ds w n c e k h part.Open is = signals_plain ds w n c e k h (ap is_signal is) (ap is_advance is)
signals_told ds w n c e k h part.Close is = signals_plain ds w n c e k h (ap is_signal is) (ap is_advance is)
signals_told ds w n c e k h part.End is = signals_plain ds w n c e k h (ap is_signal is) (ap is_advance is)
signals_told ds w n c e k h (part.Access s) is = signals_plain ds w n c e k h (ap is_signal is) (ap is_advance is)
signals_told ds w n c e k h part.Print is = signals_plain ds w n c e k h (ap is_signal is) (ap is_advance is)

leaves_plain : (ds : List Deed) (w : Weights) (n c : ℕ) (e : Deed) (k : Known) → IsHeard ds w n e k → is_leave e.part ≡ false
    → Tells ds w (mark_at k.leaves c) (IsLeave ds (suc n) c)
leaves_plain ds w n c e k h never =
    tells_same ds w (mark_at k.leaves c) (IsLeave ds n c) (IsLeave ds (suc n) c) (λ m x. made_more ds n (part.Leave c) e h.here m (inl x))
    (λ m x. from m (made_less ds n (part.Leave c) e h.here m x)) (h.leaves c)
  where
    from : (m : ℕ) → IsLeave ds n c m ⊎ ((e.part ≡ part.Leave c) × (m ≡ n)) → IsLeave ds n c m
    from m (inl x) = x
    from m (inr x) = apart is_leave e.part (part.Leave c) never refl x.0

leaves_told : (ds : List Deed) (w : Weights) (n c : ℕ) (e : Deed) (k : Known) → IsHeard ds w n e k → (p : Part) → e.part ≡ p
    → Tells ds w (mark_at (taught e.step.act p k).leaves c) (IsLeave ds (suc n) c)
leaves_told ds w n c e k h (part.Leave b) is =
    tells_same ds w (mark_at (told_to k.leaves b (mark_at k.acts e.step.act)) c) (λ m. IsLeave ds n c m ⊎ ((c ≡ b) × (m ≡ n)))
    (IsLeave ds (suc n) c) (λ m x. made_more ds n (part.Leave c) e h.here m (to m x))
    (λ m x. from m (made_less ds n (part.Leave c) e h.here m x))
    (tells_told ds w k.leaves b c (mark_at k.acts e.step.act) (IsLeave ds n c) (λ m. m ≡ n) (h.leaves c) h.own)
  where
    to : (m : ℕ) → IsLeave ds n c m ⊎ ((c ≡ b) × (m ≡ n)) → IsLeave ds n c m ⊎ ((e.part ≡ part.Leave c) × (m ≡ n))
    to m (inl x) = inl x
    to m (inr x) = inr (is ∙ ap (λ i. part.Leave i) (sym x.0), x.1)

    from : (m : ℕ) → IsLeave ds n c m ⊎ ((e.part ≡ part.Leave c) × (m ≡ n)) → IsLeave ds n c m ⊎ ((c ≡ b) × (m ≡ n))
    from m (inl x) = inl x
    from m (inr x) = inr (ap number_in (sym x.0 ∙ is), x.1)
leaves_told ds w n c e k h (part.Start b) is = leaves_plain ds w n c e k h (ap is_leave is)
leaves_told ds w n c e k h (part.Signal b) is = leaves_plain ds w n c e k h (ap is_leave is)
leaves_told ds w n c e k h (part.Advance b) is = leaves_plain ds w n c e k h (ap is_leave is)
leaves_told ds w n c e k h (part.Pass b) is = leaves_plain ds w n c e k h (ap is_leave is)
leaves_told ds w n c e k h part.Open is = leaves_plain ds w n c e k h (ap is_leave is)
leaves_told ds w n c e k h part.Close is = leaves_plain ds w n c e k h (ap is_leave is)
leaves_told ds w n c e k h part.End is = leaves_plain ds w n c e k h (ap is_leave is)
leaves_told ds w n c e k h (part.Access s) is = leaves_plain ds w n c e k h (ap is_leave is)
leaves_told ds w n c e k h part.Print is = leaves_plain ds w n c e k h (ap is_leave is)

advances_plain : (ds : List Deed) (w : Weights) (n c : ℕ) (e : Deed) (k : Known) → IsHeard ds w n e k
    → is_advance e.part ≡ false
    → Tells ds w (mark_at k.advances c) (IsCounted ds (suc n) c)
advances_plain ds w n c e k h never =
    tells_same ds w (mark_at k.advances c) (IsCounted ds n c) (IsCounted ds (suc n) c)
    (λ m x. advance_more ds n c (λ i. IsAwaited ds i c) e h.here m (inl x))
    (λ m x. from m (advance_less ds n c (λ i. IsAwaited ds i c) e h.here m x)) (h.advances c)
  where
    from : (m : ℕ) → IsCounted ds n c m ⊎ ((e.part ≡ part.Advance c) × IsAwaited ds n c m) → IsCounted ds n c m
    from m (inl x) = x
    from m (inr x) = apart is_advance e.part (part.Advance c) never refl x.0

advances_told : (ds : List Deed) (w : Weights) (n c : ℕ) (e : Deed) (k : Known) → IsHeard ds w n e k → (p : Part) → e.part ≡ p
    → Tells ds w (mark_at (taught e.step.act p k).advances c) (IsCounted ds (suc n) c)
advances_told ds w n c e k h (part.Advance b) is =
    tells_same ds w (mark_at (told_to k.advances b (mark_at k.signals b)) c) (λ m. IsCounted ds n c m ⊎ ((c ≡ b) × IsAwaited ds n b m))
    (IsCounted ds (suc n) c) (λ m x. advance_more ds n c (λ i. IsAwaited ds i c) e h.here m (to m x))
    (λ m x. from m (advance_less ds n c (λ i. IsAwaited ds i c) e h.here m x))
    (tells_told ds w k.advances b c (mark_at k.signals b) (IsCounted ds n c) (IsAwaited ds n b) (h.advances c) (h.signals b))
  where
    to : (m : ℕ) → IsCounted ds n c m ⊎ ((c ≡ b) × IsAwaited ds n b m)
        → IsCounted ds n c m ⊎ ((e.part ≡ part.Advance c) × IsAwaited ds n c m)
    to m (inl x) = inl x
    to m (inr x) = inr (is ∙ ap (λ i. part.Advance i) (sym x.0), subst (λ i. IsAwaited ds n i m) (sym x.0) x.1)

    from : (m : ℕ) → IsCounted ds n c m ⊎ ((e.part ≡ part.Advance c) × IsAwaited ds n c m)
        → IsCounted ds n c m ⊎ ((c ≡ b) × IsAwaited ds n b m)
    from m (inl x) = inl x
    from m (inr x) = let same : c ≡ b = ap number_in (sym x.0 ∙ is) in inr (same, subst (λ i. IsAwaited ds n i m) same x.1)
advances_told ds w n c e k h (part.Start b) is = advances_plain ds w n c e k h (ap is_advance is)
advances_told ds w n c e k h (part.Signal b) is = advances_plain ds w n c e k h (ap is_advance is)
advances_told ds w n c e k h (part.Leave b) is = advances_plain ds w n c e k h (ap is_advance is)
advances_told ds w n c e k h (part.Pass b) is = advances_plain ds w n c e k h (ap is_advance is)
advances_told ds w n c e k h part.Open is = advances_plain ds w n c e k h (ap is_advance is)
advances_told ds w n c e k h part.Close is = advances_plain ds w n c e k h (ap is_advance is)
advances_told ds w n c e k h part.End is = advances_plain ds w n c e k h (ap is_advance is)
advances_told ds w n c e k h (part.Access s) is = advances_plain ds w n c e k h (ap is_advance is)
advances_told ds w n c e k h part.Print is = advances_plain ds w n c e k h (ap is_advance is)

ends_plain : (ds : List Deed) (w : Weights) (n f : ℕ) (e : Deed) (k : Known) → IsHeard ds w n e k → is_end e.part ≡ false
    → Tells ds w (mark_at k.ends f) (IsEnd ds (suc n) f)
ends_plain ds w n f e k h never =
    tells_same ds w (mark_at k.ends f) (IsEnd ds n f) (IsEnd ds (suc n) f) (λ m x. end_more ds n f e h.here m (inl x))
    (λ m x. from m (end_less ds n f e h.here m x)) (h.ends f)
  where
    from : (m : ℕ) → IsEnd ds n f m ⊎ ((e.part ≡ part.End) × (finish_at ds n e.step.act ≡ f) × (m ≡ n)) → IsEnd ds n f m
    from m (inl x) = x
    from m (inr x) = apart is_end e.part part.End never refl x.0

ends_told : (ds : List Deed) (w : Weights) (n f : ℕ) (e : Deed) (k : Known) → IsHeard ds w n e k → (p : Part) → e.part ≡ p
    → Tells ds w (mark_at (taught e.step.act p k).ends f) (IsEnd ds (suc n) f)
ends_told ds w n f e k h part.End is =
    tells_same ds w (mark_at (told_to k.ends (finish_of e.step.act k) (mark_at k.acts e.step.act)) f)
    (λ m. IsEnd ds n f m ⊎ ((f ≡ finish_of e.step.act k) × (m ≡ n))) (IsEnd ds (suc n) f)
    (λ m x. end_more ds n f e h.here m (to m x)) (λ m x. from m (end_less ds n f e h.here m x))
    (tells_told ds w k.ends (finish_of e.step.act k) f (mark_at k.acts e.step.act) (IsEnd ds n f) (λ m. m ≡ n) (h.ends f) h.own)
  where
    to : (m : ℕ) → IsEnd ds n f m ⊎ ((f ≡ finish_of e.step.act k) × (m ≡ n))
        → IsEnd ds n f m ⊎ ((e.part ≡ part.End) × (finish_at ds n e.step.act ≡ f) × (m ≡ n))
    to m (inl x) = inl x
    to m (inr x) = inr (is, sym h.finish ∙ sym x.0, x.1)

    from : (m : ℕ) → IsEnd ds n f m ⊎ ((e.part ≡ part.End) × (finish_at ds n e.step.act ≡ f) × (m ≡ n))
        → IsEnd ds n f m ⊎ ((f ≡ finish_of e.step.act k) × (m ≡ n))
    from m (inl x) = inl x
    from m (inr x) = inr (sym x.1 ∙ sym h.finish, x.2)
ends_told ds w n f e k h (part.Start b) is = ends_plain ds w n f e k h (ap is_end is)
ends_told ds w n f e k h (part.Signal b) is = ends_plain ds w n f e k h (ap is_end is)
ends_told ds w n f e k h (part.Leave b) is = ends_plain ds w n f e k h (ap is_end is)
ends_told ds w n f e k h (part.Advance b) is = ends_plain ds w n f e k h (ap is_end is)
ends_told ds w n f e k h (part.Pass b) is = ends_plain ds w n f e k h (ap is_end is)
ends_told ds w n f e k h part.Open is = ends_plain ds w n f e k h (ap is_end is)
ends_told ds w n f e k h part.Close is = ends_plain ds w n f e k h (ap is_end is)
ends_told ds w n f e k h (part.Access s) is = ends_plain ds w n f e k h (ap is_end is)
ends_told ds w n f e k h part.Print is = ends_plain ds w n f e k h (ap is_end is)

-- behind deed number n
pub known_more : (ds : List Deed) (w : Weights) (n : ℕ) (e : Deed) (k : Known) → IsAt ds n e → IsKnown ds w n k
    → IsKnown ds w (suc n) (after n (w n) e k)
known_more ds w n e k here known =
    let a = e.step.act in
    let there = learnt a n (w n) e.part k in
    let h : IsHeard ds w n e there = record {
      here = here;
      all = marked_all ds w n e k here known;
      own = marked_here ds w n e k here known;
      signals = known.signals;
      leaves = known.leaves;
      advances = known.advances;
      ends = known.ends;
      finish = finish_known ds w n a k known;
    } in
    record {
      acts = λ y. acts_told ds w n y e there h e.part refl;
      signals = λ c. signals_told ds w n c e there h e.part refl;
      leaves = λ c. leaves_told ds w n c e there h e.part refl;
      advances = λ c. advances_told ds w n c e there h e.part refl;
      ends = λ f. ends_told ds w n f e there h e.part refl;
      scopes = ap (scoped a e.part) known.scopes ∙ sym (scopes_more ds n e nothing_known.scopes here);
    }
