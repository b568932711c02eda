-- What is told of the steps of a run, whoever tells it, and of which step each deed is told.
use Rattle.std.proofs.Common.{◌≡◌, ℕ, ◌+◌, ◌<◌, ◌⊎◌, inl, inr, List, [], ◌∷◌, ◌++◌, length, Some, refl, sym, ap, ◌∙◌, subst, append_assoc}
use Rattle.std.proofs.Common.{drop, get_or, length-append, arith}
use Rattle.std.specs.Prelude.{slice_get}
use Rattle.std.proofs.lemmas.Option.{none-some, slice_get_within}
use Rattle.xk_types.specs.declared.world.Event.{Event}
use Rattle.xk_types.specs.Code.{ModuleValue}
use Rattle.xk_types.specs.World.{World}
use Rattle.xk_types.specs.Step.{Stepped, step}
use Rattle.xk_types.specs.Schedule.{Through, run}
use Rattle.xk_types.proofs.ListLemmas.{get-append_left}
use Rattle.xk_types.proofs.RunLemmas.{first_step, same_through}
use Rattle.xk_law_names.proofs.ActivityNameOrderLaw.{run_first}
use Rattle.xk_show_events.specs.Steps.{Teller, told, told_on}
use Rattle.xk_races.specs.declared.deeds.Deed.{Deed}
use Rattle.xk_law_races.proofs.TurnLemmas.{AreOne, IsEarlier, Turn, get_right, get_split}

-- ---- turns

-- one list, cut at an element in two ways: the first cut comes first, or they are one, or the second comes first
cuts : (xs ys us vs : List ℕ) (a b : ℕ) → xs ++ a ∷ ys ≡ us ++ b ∷ vs
    → ((zs : List ℕ) × (us ≡ xs ++ a ∷ zs)) ⊎ (((xs ≡ us) × (a ≡ b)) ⊎ ((zs : List ℕ) × (xs ≡ us ++ b ∷ zs)))
cuts [] ys [] vs a b h = inr (inl (refl, ap (λ l. get_or l 0 0) h))
cuts [] ys (u ∷ us) vs a b h = inl (us, ap (λ c. c ∷ us) (sym (ap (λ l. get_or l 0 0) h)))
cuts (x ∷ xs) ys [] vs a b h = inr (inr (xs, ap (λ c. c ∷ xs) (ap (λ l. get_or l 0 0) h)))
cuts (x ∷ xs) ys (u ∷ us) vs a b h = by (ap (λ l. get_or l 0 0) h) (cuts xs ys us vs a b (ap (drop 1) h))
  where
    by : x ≡ u → ((zs : List ℕ) × (us ≡ xs ++ a ∷ zs)) ⊎ (((xs ≡ us) × (a ≡ b)) ⊎ ((zs : List ℕ) × (xs ≡ us ++ b ∷ zs)))
        → ((zs : List ℕ) × (u ∷ us ≡ x ∷ (xs ++ a ∷ zs)))
        ⊎ (((x ∷ xs ≡ u ∷ us) × (a ≡ b)) ⊎ ((zs : List ℕ) × (x ∷ xs ≡ u ∷ (us ++ b ∷ zs))))
    by e (inl p) = inl (p.0, ap (λ c. c ∷ us) (sym e) ∙ ap (λ l. x ∷ l) p.1)
    by e (inr (inl p)) = inr (inl (ap (λ c. c ∷ xs) e ∙ ap (λ l. u ∷ l) p.0, p.1))
    by e (inr (inr p)) = inr (inr (p.0, ap (λ c. c ∷ xs) e ∙ ap (λ l. u ∷ l) p.1))

-- of two turns one is earlier, or they are one
pub compared : (m : ModuleValue) (w : World) (s : List ℕ) (t u : Turn m w s)
    → IsEarlier m w s t u ⊎ (AreOne m w s t u ⊎ IsEarlier m w s u t)
compared m w s t u = cuts t.before t.after u.before u.after t.act u.act (sym t.whole ∙ u.whole)

-- the earlier one comes behind fewer steps
pub fewer : (m : ModuleValue) (w : World) (s : List ℕ) (t u : Turn m w s) → IsEarlier m w s t u → length t.before < length u.before
fewer m w s t u e = let n = ap length e.1 ∙ length-append t.before (t.act ∷ e.0) in omega (arith, n)

-- so two that come behind as many are one
pub as_many : (m : ModuleValue) (w : World) (s : List ℕ) (t u : Turn m w s) → length t.before ≡ length u.before → AreOne m w s t u
as_many m w s t u same = by (compared m w s t u)
  where
    by : IsEarlier m w s t u ⊎ (AreOne m w s t u ⊎ IsEarlier m w s u t) → AreOne m w s t u
    by (inl e) = absurd (let n = fewer m w s t u e in omega (arith, n, same))
    by (inr (inl o)) = o
    by (inr (inr e)) = absurd (let n = fewer m w s u t e in omega (arith, n, same))

-- ---- what is told

module _ (tell : Teller Deed) (m : ModuleValue) where
  told_first : (list : List ℕ) (w u : World) (a : ℕ) (e : Event) → step m w a ≡ Stepped u e
      → told tell m (a ∷ list) w ≡ tell a w u e ++ told tell m list u
  told_first list w u a e takes = ap (λ o. told_on tell a w o (told tell m list)) takes

  told_run : (p q : List ℕ) (w v : World) → run m p w ≡ Through v → told tell m (p ++ q) w ≡ told tell m p w ++ told tell m q v
  told_run [] q w v h = ap (told tell m q) (same_through w v h)
  told_run (a ∷ p) q w v h =
      let x = first_step w v (step m w a) (run m p) h in
      told_first (p ++ q) w x.0 a x.1 x.2 ∙ ap (λ l. tell a w x.0 x.1 ++ l) (told_run p q x.0 v x.3)
      ∙ sym (append_assoc (tell a w x.0 x.1) (told tell m p x.0) (told tell m q v))
      ∙ sym (ap (λ l. l ++ told tell m q v) (told_first p w x.0 a x.1 x.2))

  -- deed number k, which is d, is told of this step
  pub record IsToldBy (w : World) (s : List ℕ) (t : Turn m w s) (k : ℕ) (d : Deed) : Type 0 where
    pub offset : ℕ
    pub number : k ≡ length (told tell m t.before w) + offset
    pub among : slice_get (tell t.act t.here t.there t.e) offset ≡ Some d

  -- the step of each deed
  pub told_of : (s : List ℕ) (w z : World) → run m s w ≡ Through z → (k : ℕ) (d : Deed) → slice_get (told tell m s w) k ≡ Some d
      → (t : Turn m w s) × IsToldBy w s t k d
  told_of [] w z legal k d at = absurd (none-some d at)
  told_of (a ∷ s) w z legal k d at =
      by (get_split front (told tell m s x.0) k d (subst (λ l. slice_get l k ≡ Some d) (told_first s w x.0 a x.1 x.2) at))
      (told_of s x.0 z x.3)
    where
      x : (u : World) × (e : Event) × (step m w a ≡ Stepped u e) × (run m s u ≡ Through z)
      x = first_step w z (step m w a) (run m s) legal

      front : List Deed
      front = tell a w x.0 x.1

      turn : Turn m w (a ∷ s)
      turn = record { before = []; after = s; act = a; here = w; there = x.0; e = x.1; whole = refl; leads = refl; takes = x.2 }

      behind : (j : ℕ) → k ≡ length front + j → (t : Turn m x.0 s) × IsToldBy x.0 s t j d
          → (t : Turn m w (a ∷ s)) × IsToldBy w (a ∷ s) t k d
      behind j is (t, r) = (
        record {
          before = a ∷ t.before;
          after = t.after;
          act = t.act;
          here = t.here;
          there = t.there;
          e = t.e;
          whole = ap (λ l. a ∷ l) t.whole;
          leads = run_first m t.before w x.0 a x.1 x.2 ∙ t.leads;
          takes = t.takes;
        },
        record {
          offset = r.offset;
          number =
              (let n = r.number in
              let l = ap length (told_first t.before w x.0 a x.1 x.2) ∙ length-append front (told tell m t.before x.0) in
              omega (arith, is, n, l));
          among = r.among;
        },
      )

      by : ((k < length front) × (slice_get front k ≡ Some d))
          ⊎ ((j : ℕ) × (k ≡ length front + j) × (slice_get (told tell m s x.0) j ≡ Some d))
          → ((j : ℕ) (c : Deed) → slice_get (told tell m s x.0) j ≡ Some c → (t : Turn m x.0 s) × IsToldBy x.0 s t j c)
          → (t : Turn m w (a ∷ s)) × IsToldBy w (a ∷ s) t k d
      by (inl p) rest = (turn, record { offset = k; number = omega arith; among = p.1 })
      by (inr p) rest = behind p.0 p.1 (rest p.0 d p.2)

  module _ (w : World) (s : List ℕ) where
    told_around : (t : Turn m w s)
        → told tell m s w ≡ told tell m t.before w ++ (tell t.act t.here t.there t.e ++ told tell m t.after t.there)
    told_around t =
        ap (λ l. told tell m l w) t.whole ∙ told_run t.before (t.act ∷ t.after) w t.here t.leads
        ∙ ap (λ l. told tell m t.before w ++ l) (told_first t.after t.here t.there t.act t.e t.takes)

    -- it stands among those of the run
    pub told_stands : (t : Turn m w s) (k : ℕ) (d : Deed) → IsToldBy w s t k d → slice_get (told tell m s w) k ≡ Some d
    told_stands t k d r =
        ap (λ l. slice_get l k) (told_around t)
        ∙ ap (slice_get (told tell m t.before w ++ (tell t.act t.here t.there t.e ++ told tell m t.after t.there))) r.number
        ∙ get_right (told tell m t.before w) (tell t.act t.here t.there t.e ++ told tell m t.after t.there) r.offset
        ∙ get-append_left (tell t.act t.here t.there t.e) (told tell m t.after t.there) r.offset d r.among

    -- those of an earlier turn come first
    pub told_rises : (t u : Turn m w s) (k j : ℕ) (d e : Deed) → IsToldBy w s t k d → IsToldBy w s u j e → IsEarlier m w s t u → k < j
    told_rises t u k j d e p q earlier =
        let l = ap (λ b. length (told tell m b w)) earlier.1 ∙ ap length (told_run t.before (t.act ∷ earlier.0) w t.here t.leads
        ∙ ap (λ l. told tell m t.before w ++ l) (told_first earlier.0 t.here t.there t.act t.e t.takes))
        ∙ length-append (told tell m t.before w) (tell t.act t.here t.there t.e ++ told tell m earlier.0 t.there) in
        let n = length-append (tell t.act t.here t.there t.e) (told tell m earlier.0 t.there) in
        let i = slice_get_within (tell t.act t.here t.there t.e) p.offset d p.among in
        let a = q.number in
        let b = p.number in
        omega (arith, l, n, i, a, b)

    -- and a later deed is told of the same turn or of a later one
    pub told_order : (t u : Turn m w s) (k j : ℕ) (d e : Deed) → IsToldBy w s t k d → IsToldBy w s u j e → k < j
        → IsEarlier m w s t u ⊎ AreOne m w s t u
    told_order t u k j d e p q less = by (compared m w s t u)
      where
        by : IsEarlier m w s t u ⊎ (AreOne m w s t u ⊎ IsEarlier m w s u t) → IsEarlier m w s t u ⊎ AreOne m w s t u
        by (inl earlier) = inl earlier
        by (inr (inl one)) = inr one
        by (inr (inr later)) = absurd (let back = told_rises u t j k e d q p later in omega (arith, less, back))

    -- two deeds of one turn stand as they are told of it
    pub told_offsets : (t u : Turn m w s) (k j : ℕ) (d e : Deed) (p : IsToldBy w s t k d) (q : IsToldBy w s u j e)
        → AreOne m w s t u → k < j
        → p.offset < q.offset
    told_offsets t u k j d e p q one less =
        let l = ap (λ b. length (told tell m b w)) one.0 in
        let a = p.number in
        let b = q.number in
        omega (arith, less, l, a, b)
