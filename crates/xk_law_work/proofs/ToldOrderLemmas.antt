-- What comes before in the order of races comes before among what is told of the steps of a run, too.
use Rattle.std.proofs.Common.{◌≡◌, ◌∙◌, ℕ, ℤ, zero, suc, ◌+◌, ◌<◌, ◌≤◌, ◌⊎◌, inl, inr, Bool, true, false, true≢false, List, [], ◌∷◌}
use Rattle.std.proofs.Common.{length, filter, Some, refl, sym, ap, subst, arith}
use Rattle.std.specs.Prelude.{flat_map, slice_get}
use Rattle.std.proofs.lemmas.Option.{same_Some, slice_get_within}
use Rattle.xk_types.specs.declared.world.Entry.{Entry}
use Rattle.xk_types.specs.declared.world.Event.{Event}
use Rattle.xk_types.specs.declared.world.Event.TheVariants as event
use Rattle.xk_types.specs.Acceptance.{IsAccepted}
use Rattle.xk_types.specs.Code.{ModuleValue, IsWithinLimits}
use Rattle.xk_types.specs.World.{Activity, World, AreArguments, opening}
use Rattle.xk_types.specs.Schedule.{Through, run}
use Rattle.xk_types.specs.Logs.{schedule_of}
use Rattle.xk_law_commute.proofs.ChangeSquareLemmas.{found_of}
use Rattle.xk_law_names.proofs.ActivityNameOrderLaw.{run_first}
use Rattle.xk_law_traces.proofs.StepEventLemmas.{run_wider}
use Rattle.xk_show_events.specs.Steps.{run_step, told}
use Rattle.xk_races.specs.declared.deeds.Deed.{Deed}
use Rattle.xk_races.specs.declared.deeds.Part.{Part}
use Rattle.xk_races.specs.declared.deeds.Part.TheVariants as part
use Rattle.xk_races.specs.Deeds.{deed, tell_deeds}
use Rattle.xk_races.specs.Order.{Closed, Edge, IsAt, IsAwaited, IsEnd, Leads, Own, Passed, Reason, finish_at}
use Rattle.xk_races.proofs.OrderLemmas.{IsUpTo, up_to_through}
use Rattle.xk_law_races.proofs.DeedPartLemmas.{at_clock, clock_parts}
use Rattle.xk_law_races.proofs.LinkLemmas.{says_so, whose}
use Rattle.xk_law_races.proofs.TurnLemmas.{AreOne, IsEarlier, IsToldOf, Turn, deed_at, deeds, in_order, offsets_rise, one_event}
use Rattle.xk_law_races.proofs.TurnLemmas.{one_told, run_between, told_at}
use Rattle.xk_span.specs.Steps.{if_waits, lets_go, tell_step, waits}
use Rattle.xk_law_work.proofs.TellLemmas.{Back, Front, Mid, Place, stands_mid, waiting}
use Rattle.xk_law_work.proofs.TiedLemmas.{counted_too, ended_too, in_order as tied_order, is_tied, placed, rank, tied}
use Rattle.xk_law_work.proofs.ToldChainLemmas.{awaited_so, free, one_turn, place, same, stands, turn_at, waits_one, whose_is}
use Rattle.xk_law_work.proofs.ToldLemmas.{IsToldBy, compared, fewer, told_rises}

-- ---- deeds that are no part of the order but by their activity

clock_tied : (p : Part) → at_clock p ≡ true → is_tied p ≡ true
clock_tied (part.Pass c) h = refl
clock_tied part.Close h = refl
clock_tied (part.Start b) h = refl
clock_tied (part.Signal c) h = refl
clock_tied (part.Leave c) h = refl
clock_tied (part.Advance c) h = refl
clock_tied part.Open h = refl
clock_tied part.End h = refl
clock_tied (part.Access x) h = absurd (true≢false (sym h))
clock_tied part.Print h = absurd (true≢false (sym h))

-- where one is told of a step, nothing else is
untied_alone : (m : ModuleValue) (a : ℕ) (w v : World) (e : Event) (i : ℕ) (d : Deed) → slice_get (tell_deeds m a w v e) i ≡ Some d
    → tied d ≡ false → length (tell_deeds m a w v e) ≤ 1
untied_alone m a w v event.Local i d at t = omega arith
untied_alone m a w v (event.Printed n) i d at t = omega arith
untied_alone m a w v event.Made i d at t = omega arith
untied_alone m a w v event.Got i d at t = omega arith
untied_alone m a w v event.Put i d at t = omega arith
untied_alone m a w v event.Added i d at t = omega arith
untied_alone m a w v event.Opened i d at t = omega arith
untied_alone m a w v event.Closed i d at t = omega arith
untied_alone m a w v event.Spawned i d at t = omega arith
untied_alone m a w v event.Resumed i d at t =
    absurd (true≢false (sym (clock_tied d.part (clock_parts m a w v event.Resumed i d at).1) ∙ t))
untied_alone m a w v event.Dropped i d at t =
    absurd (true≢false (sym (clock_tied d.part (clock_parts m a w v event.Dropped i d at).1) ∙ t))
untied_alone m a w v event.Arrived i d at t =
    absurd (true≢false (sym (clock_tied d.part (clock_parts m a w v event.Arrived i d at).1) ∙ t))
untied_alone m a w v event.Passed i d at t =
    absurd (true≢false (sym (clock_tied d.part (clock_parts m a w v event.Passed i d at).1) ∙ t))
untied_alone m a w v event.Ended zero d at t =
    absurd (true≢false (sym (ap tied (sym (same_Some (deed (run_step a w v event.Ended) part.End) d at))) ∙ t))
untied_alone m a w v event.Ended (suc i) d at t =
    absurd (true≢false (sym (clock_tied d.part (clock_parts m a w v event.Ended i d at).1) ∙ t))

module _ (m : ModuleValue) (args : List ℤ) (limits : IsWithinLimits m) (ok : IsAccepted m) (taken : AreArguments m args)
    (log : List Entry) (z : World) (legal : run m (schedule_of log) (opening m args) ≡ Through z) where
  abbrev w : World
  w = opening m args

  abbrev s : List ℕ
  s = schedule_of log

  abbrev ds : List Deed
  ds = deeds m s w

  abbrev es : List Deed
  es = told (tell_step m) m s w

  abbrev At : Type 0
  At = Turn m w s

  -- deed number k, which is d, is told of this step
  abbrev Is : At → ℕ → Deed → Type 0
  Is t k d = IsToldBy (tell_step m) m w s t k d

  at : (t : At) (k : ℕ) (d : Deed) → Is t k d → IsAt es k d
  at t k d r = stands m args limits ok taken log z legal t k d r

  whose_here : (t : At) (k : ℕ) (d : Deed) → Is t k d → d.step.act ≡ t.act
  whose_here t k d r = whose_is m args limits ok taken log z legal t k d r

  pub ds_es : filter tied ds ≡ filter tied es
  ds_es = sym (same m args limits ok taken log z legal)

  -- ---- the step itself

  abbrev pub mid : At → ℕ
  mid t = length (told (tell_step m) m t.before w) + waiting m t.here t.there t.act t.e

  abbrev pub itself : At → Deed
  itself t = deed (run_step t.act t.here t.there t.e) part.Print

  pub told_mid : (t : At) → Is t (mid t) (itself t)
  told_mid t = record {
    offset = waiting m t.here t.there t.act t.e;
    number = refl;
    among = stands_mid m t.here t.there t.act t.e;
  }

  pub mid_one : (t u : At) → AreOne m w s t u → mid t ≡ mid u
  mid_one t u one =
      let a = ap (λ l. length (told (tell_step m) m l w)) one.0 in
      let b : waiting m t.here t.there t.act t.e ≡ waiting m u.here u.there u.act u.e =
      ap (λ l. length (flat_map if_waits l)) (one_told m w s t u one) in
      omega (arith, a, b)

  behind_own : (t : At) (k : ℕ) (d : Deed) (r : Is t k d) → lets_go d.part ≡ true → mid t < k
  behind_own t k d r lets = by (place m args limits ok taken log z legal t k d r)
    where
      by : Place m t.here t.there t.act t.e r.offset d → mid t < k
      by (Front less is j h) = absurd (let a = waits_one d.part is in let b = (free d.part lets).1 in omega (arith, a, b))
      by (Mid is x) = absurd (true≢false (sym (ap (λ (c : Deed). lets_go c.part) x ∙ lets)))
      by (Back less is j h) = let n = r.number in omega (arith, less, n)

  before_own : (t : At) (k : ℕ) (d : Deed) (r : Is t k d) → waits d.part ≡ true → k < mid t
  before_own t k d r waiting_is = by (place m args limits ok taken log z legal t k d r)
    where
      by : Place m t.here t.there t.act t.e r.offset d → k < mid t
      by (Front less is j h) = let n = r.number in omega (arith, less, n)
      by (Mid is x) = absurd (true≢false (sym (ap (λ (c : Deed). waits c.part) x ∙ waiting_is)))
      by (Back less is j h) = absurd (let a = waits_one d.part waiting_is in let b = (free d.part is).1 in omega (arith, a, b))

  -- one that lets go in that step or later stands behind the step, and one that waits in it before
  pub behind_mid : (t u : At) (k : ℕ) (d : Deed) → Is u k d → lets_go d.part ≡ true → length t.before ≤ length u.before → mid t < k
  behind_mid t u k d r lets le = by (compared m w s t u)
    where
      by : IsEarlier m w s t u ⊎ (AreOne m w s t u ⊎ IsEarlier m w s u t) → mid t < k
      by (inl earlier) = told_rises (tell_step m) m w s t u (mid t) k (itself t) d (told_mid t) r earlier
      by (inr (inl one)) = let a = mid_one t u one in let b = behind_own u k d r lets in omega (arith, a, b)
      by (inr (inr later)) = absurd (let n = fewer m w s u t later in omega (arith, n, le))

  pub before_mid : (t u : At) (k : ℕ) (d : Deed) → Is u k d → waits d.part ≡ true → AreOne m w s u t → k < mid t
  before_mid t u k d r is one = let a = mid_one u t one in let b = before_own u k d r is in omega (arith, a, b)

  -- ---- an activity's own

  pub own_edge : (t u : At) (k j : ℕ) (d e : Deed) → Is t k d → Is u j e → k < j → t.act ≡ u.act → Edge es k j
  own_edge t u k j d e p q less one =
      (e, at u j e q, Own (less, d, at t k d p, inl (whose_here t k d p ∙ one ∙ sym (whose_here u j e q))))

  -- who is started takes its steps later
  pub started_later : (t u : At) → u.act ≡ length t.here.activities → IsEarlier m w s t u
  started_later t u child = by (compared m w s t u)
    where
      x : (act : Activity) × (slice_get t.here.activities t.act ≡ Some act)
      x = found_of m t.here t.act t.there t.e t.takes

      y : (act : Activity) × (slice_get u.here.activities u.act ≡ Some act)
      y = found_of m u.here u.act u.there u.e u.takes

      by : IsEarlier m w s t u ⊎ (AreOne m w s t u ⊎ IsEarlier m w s u t) → IsEarlier m w s t u
      by (inl earlier) = earlier
      by (inr (inl one)) = absurd
          (let inside = slice_get_within t.here.activities t.act x.0 x.1 in let a = one.1 in omega (arith, inside, a, child))
      by (inr (inr later)) = absurd
          (let inside = slice_get_within u.here.activities u.act y.0 y.1 in
          let more = run_wider m (u.act ∷ later.0) u.here t.here
          (run_first m later.0 u.here u.there u.act u.e u.takes ∙ run_between m w s u t later) in
          omega (arith, inside, more, child))

  -- ---- one of the order of races, and what stands for it here

  -- deed number i there, which is d, is told of the same step as number k here: the same, or, where it orders nothing, the step itself
  pub record Image (i k : ℕ) : Type 0 where
    pub d : Deed
    pub t : At
    pub there : IsToldOf m w s t i d
    pub e : Deed
    pub u : At
    pub here : Is u k e
    pub one : AreOne m w s t u
    pub is : ((tied d ≡ true) × (e ≡ d) × (rank es k ≡ rank ds i)) ⊎ (tied d ≡ false)

  pub image : (i : ℕ) (d : Deed) → IsAt ds i d → (k : ℕ) × Image i k
  image i d h = by (tied d) refl
    where
      t : (t : At) × IsToldOf m w s t i d
      t = told_at m s w z legal i d h

      by : (b : Bool) → tied d ≡ b → (k : ℕ) × Image i k
      by true g =
          let p = placed ds es ds_es i d h g in
          let u = turn_at m args limits ok taken log z legal p.0 d p.1 in (
            p.0,
            record {
              d = d;
              t = t.0;
              there = t.1;
              e = d;
              u = u.0;
              here = u.1;
              one = one_turn m args limits ok taken log z legal u.0 t.0 p.0 i d u.1 t.1;
              is = inl (g, refl, p.2);
            },
          )
      by false g = (
        mid t.0,
        record {
          d = d;
          t = t.0;
          there = t.1;
          e = itself t.0;
          u = t.0;
          here = told_mid t.0;
          one = (refl, refl);
          is = inr g;
        },
      )

  -- the same deed, where it is tied
  tied_image : (i k : ℕ) (p : Image i k) → tied p.d ≡ true → IsAt es k p.d × (rank es k ≡ rank ds i)
  tied_image i k p g = by p.is
    where
      by : ((tied p.d ≡ true) × (p.e ≡ p.d) × (rank es k ≡ rank ds i)) ⊎ (tied p.d ≡ false) → IsAt es k p.d × (rank es k ≡ rank ds i)
      by (inl h) = (subst (IsAt es k) h.1 (at p.u k p.e p.here), h.2)
      by (inr h) = absurd (true≢false (sym g ∙ h))

  -- of two in an order their steps are so
  turns_so : (i j k l : ℕ) (p : Image i k) (q : Image j l) → IsEarlier m w s p.t q.t → IsEarlier m w s p.u q.u
  turns_so i j k l p q earlier = by (compared m w s p.u q.u)
    where
      a : length p.t.before ≡ length p.u.before
      a = ap length p.one.0

      b : length q.t.before ≡ length q.u.before
      b = ap length q.one.0

      by : IsEarlier m w s p.u q.u ⊎ (AreOne m w s p.u q.u ⊎ IsEarlier m w s q.u p.u) → IsEarlier m w s p.u q.u
      by (inl e) = e
      by (inr (inl o)) = absurd
          (let n = fewer m w s p.t q.t earlier in let c = ap length o.0 in let x = a in let y = b in omega (arith, n, c, x, y))
      by (inr (inr e)) = absurd
          (let n = fewer m w s p.t q.t earlier in let c = fewer m w s q.u p.u e in let x = a in let y = b in omega (arith, n, c, x, y))

  -- the deed of an image
  deed_is : (i k : ℕ) (p : Image i k) (d : Deed) → IsAt ds i d → d ≡ p.d
  deed_is i k p d h = same_Some d p.d (sym h ∙ deed_at m w s p.t i p.d p.there)

  -- where it is tied, it is the same
  pub image_is : (i k : ℕ) (p : Image i k) (d : Deed) → IsAt ds i d → tied d ≡ true → p.e ≡ d
  image_is i k p d h g = by p.is
    where
      same_deed : d ≡ p.d
      same_deed = deed_is i k p d h

      by : ((tied p.d ≡ true) × (p.e ≡ p.d) × (rank es k ≡ rank ds i)) ⊎ (tied p.d ≡ false) → p.e ≡ d
      by (inl q) = q.1 ∙ sym same_deed
      by (inr none) = absurd (true≢false (sym g ∙ ap tied same_deed ∙ none))

  -- an end is told of a step by which its activity ends
  pub end_image : (i k : ℕ) (p : Image i k) (d : Deed) → IsAt ds i d → d.part ≡ part.End → p.u.e ≡ event.Ended
  end_image i k p d h is =
      sym (one_event m w s p.t p.u p.one)
      ∙ (says_so m args limits ok taken s z legal p.t i p.d p.there part.End
      (ap (λ (x : Deed). x.part) (sym (deed_is i k p d h)) ∙ is)).0

  own_image : (i j k l : ℕ) (p : Image i k) (q : Image j l) → i < j → p.t.act ≡ q.t.act → Edge es k l
  own_image i j k l p q less one = by (in_order m w s p.t q.t i j p.d q.d p.there q.there less)
    where
      acts : p.u.act ≡ q.u.act
      acts = sym p.one.1 ∙ one ∙ q.one.1

      edge : k < l → Edge es k l
      edge n = own_edge p.u q.u k l p.e q.e p.here q.here n acts

      -- in one step nothing is told beside one that orders nothing
      alone : AreOne m w s p.t q.t → length (tell_deeds m p.t.act p.t.here p.t.there p.t.e) ≤ 1 → ⊥
      alone o few =
          let n = offsets_rise m w s p.t q.t i j p.d q.d p.there q.there o less in
          let inside = slice_get_within (tell_deeds m q.t.act q.t.here q.t.there q.t.e) q.there.offset q.d q.there.among in
          let same_list = ap length (one_told m w s p.t q.t o) in
          omega (arith, n, inside, same_list, few)

      both : AreOne m w s p.t q.t → (b c : Bool) → tied p.d ≡ b → tied q.d ≡ c → k < l
      both o true true g h =
          tied_order ds es ds_es i j k l p.d less (deed_at m w s p.t i p.d p.there) g (tied_image i k p g).1 (tied_image j l q h).1
      both o false c g h =
          absurd (alone o (untied_alone m p.t.act p.t.here p.t.there p.t.e p.there.offset p.d p.there.among g))
      both o true false g h =
          let few = untied_alone m q.t.act q.t.here q.t.there q.t.e q.there.offset q.d q.there.among h in
          let same_list = ap length (one_told m w s p.t q.t o) in
          absurd (alone o (omega (arith, few, same_list)))

      by : IsEarlier m w s p.t q.t ⊎ AreOne m w s p.t q.t → Edge es k l
      by (inl earlier) =
          edge (told_rises (tell_step m) m w s p.u q.u k l p.e q.e p.here q.here (turns_so i j k l p q earlier))
      by (inr o) = edge (both o (tied p.d) (tied q.d) refl refl)

  edge_image : (i j k l : ℕ) (p : Image i k) (q : Image j l) → Edge ds i j → Edge es k l
  edge_image i j k l p q edge = of edge.2
    where
      second : edge.0 ≡ q.d
      second = deed_is j l q edge.0 edge.1

      whose_second : edge.0.step.act ≡ q.t.act
      whose_second = ap (λ (x : Deed). x.step.act) second ∙ whose m args limits ok taken s z legal q.t j q.d q.there

      of : Reason ds i j edge.0 → Edge es k l
      of (Own h) = by h.3
        where
          is : h.1 ≡ p.d
          is = deed_is i k p h.1 h.2

          by : (h.1.step.act ≡ edge.0.step.act) ⊎ (h.1.part ≡ part.Start edge.0.step.act) → Edge es k l
          by (inl one) = own_image i j k l p q h.0
              (sym (whose m args limits ok taken s z legal p.t i p.d p.there) ∙ ap (λ (x : Deed). x.step.act) (sym is) ∙ one ∙ whose_second)
          by (inr starts) =
              let part_is : p.d.part ≡ part.Start edge.0.step.act = ap (λ (x : Deed). x.part) (sym is) ∙ starts in
              let says = says_so m args limits ok taken s z legal p.t i p.d p.there (part.Start edge.0.step.act) part_is in
              let t = tied_image i k p (ap is_tied part_is) in
              let later = started_later p.t q.t (sym whose_second ∙ says.1) in
              let same_act : edge.0.step.act ≡ q.e.step.act = whose_second ∙ q.one.1 ∙ sym (whose_here q.u l q.e q.here) in (
                q.e,
                at q.u l q.e q.here,
                Own (
                  told_rises (tell_step m) m w s p.u q.u k l p.e q.e p.here q.here (turns_so i j k l p q later),
                  p.d,
                  t.0,
                  inr (part_is ∙ ap part.Start same_act),
                ),
              )
      of (Passed c is h) =
          let here = deed_at m w s p.t i p.d p.there in
          let g = (awaited_so ds h.0 c i p.d here h.5).1 in
          let is_second : q.d.part ≡ part.Pass c = ap (λ (x : Deed). x.part) (sym second) ∙ is in
          let x = tied_image i k p g in
          let y = tied_image j l q (ap is_tied is_second) in
          (q.d, y.0, Passed c is_second (counted_too ds es ds_es j c i l k p.d here x.0 g y.1 x.1 h))
      of (Closed is h) =
          let here = deed_at m w s p.t i p.d p.there in
          let g : tied p.d ≡ true = ap (λ (x : Deed). is_tied x.part) (sym (deed_is i k p h.1 h.2)) ∙ ap is_tied h.3 in
          let is_second : q.d.part ≡ part.Close = ap (λ (x : Deed). x.part) (sym second) ∙ is in
          let x = tied_image i k p g in
          let y = tied_image j l q (ap is_tied is_second) in (
            q.d,
            y.0,
            Closed is_second
                (ended_too ds es ds_es j i l k q.d.step.act p.d here x.0 g y.1 x.1
                (subst (λ (c : Deed). IsEnd ds j (finish_at ds j c.step.act) i) second h)),
          )

  -- which deed an edge leads from
  edge_from : (i j : ℕ) (e : Deed) → Reason ds i j e → (d : Deed) × IsAt ds i d
  edge_from i j e (Own h) = (h.1, h.2)
  edge_from i j e (Passed c is h) = by h.5
    where
      by : IsAwaited ds h.0 c i → (d : Deed) × IsAt ds i d
      by (inl g) = (g.1, g.2)
      by (inr g) = let f = g.5 in (f.1, f.2)
  edge_from i j e (Closed is h) = (h.1, h.2)

  pub before_image : (js : List ℕ) (i j k l : ℕ) → Image i k → Image j l → Leads ds i js j → IsUpTo es k l
  before_image [] i j k l p q h = inr ([], edge_image i j k l p q h)
  before_image (n ∷ js) i j k l p q h =
      let f = edge_from n j h.1.0 h.1.2 in
      let x = image n f.0 f.1 in
      up_to_through es k x.0 l (before_image js i n k x.0 p x.1 h.0) (inr ([], edge_image n j x.0 l x.1 q h.1))
