-- A chain of what is told of the steps of a run has no more steps than some chain of steps by their causes.
use Rattle.std.proofs.Common.{◌≡◌, ◌∙◌, ℕ, ℤ, zero, suc, ◌+◌, ◌<◌, ◌≤◌, ◌⊎◌, inl, inr, true, true≢false, cond, List, []}
use Rattle.std.proofs.Common.{◌∷◌}
use Rattle.std.proofs.Common.{length, filter, refl, sym, ap, subst, arith}
use Rattle.std.specs.Prelude.{flat_map}
use Rattle.std.proofs.lemmas.Bool.{cases_eq}
use Rattle.std.proofs.lemmas.Option.{same_Some}
use Rattle.xk_types.specs.declared.world.Entry.{Entry}
use Rattle.xk_types.specs.declared.world.Event.TheVariants as event
use Rattle.xk_types.specs.Acceptance.{IsAccepted}
use Rattle.xk_types.specs.Code.{ModuleValue, IsWithinLimits}
use Rattle.xk_types.specs.World.{World, AreArguments, opening}
use Rattle.xk_types.specs.Step.{Stepped}
use Rattle.xk_types.specs.Schedule.{Through, run}
use Rattle.xk_types.specs.Logs.{schedule_of}
use Rattle.xk_law_schedules.proofs.ReachabilityLemmas.{run_counts}
use Rattle.xk_law_schedules.proofs.StepCountLemmas.{step_counts}
use Rattle.xk_law_traces.specs.Edges.{StepName, IsCause, IsEdge, IsLink, IsStart, IsWay, turns_of}
use Rattle.xk_show_events.specs.declared.steps.RunStep.{RunStep}
use Rattle.xk_show_events.specs.Steps.{run_step, told}
use Rattle.xk_races.specs.declared.deeds.Deed.{Deed}
use Rattle.xk_races.specs.declared.deeds.Part.{Part}
use Rattle.xk_races.specs.declared.deeds.Part.TheVariants as part
use Rattle.xk_races.specs.Order.{Closed, Edge, IsAt, IsAwaited, Own, Passed, Reason}
use Rattle.xk_law_races.proofs.DeedPartLemmas.{part_is}
use Rattle.xk_law_races.proofs.EdgeListLemmas.{IsLed}
use Rattle.xk_law_races.proofs.LinkLemmas.{says_so, up_led}
use Rattle.xk_law_races.proofs.RunWorldLemmas.{number_is}
use Rattle.xk_law_races.proofs.TurnLemmas.{AreOne, IsEarlier, IsToldOf, Turn, deeds, earlier_turns, name_of, one_name, one_told, told_at}
use Rattle.xk_span.specs.Chains.{IsChain, weight_of}
use Rattle.xk_span.specs.Steps.{if_waits, lets_go, steps_weigh, tell_step, waits, weight_at, weight_in}
use Rattle.xk_law_rounds.specs.Rounds.{IsChainBy}
use Rattle.xk_law_work.proofs.TellLemmas.{Back, Front, Mid, Place, place_of, run_tied, waiting}
use Rattle.xk_law_work.proofs.TiedLemmas.{counted_too, ended_too, is_tied, placed, tied}
use Rattle.xk_law_work.proofs.ToldLemmas.{IsToldBy, as_many, told_of, told_offsets, told_order, told_stands}

-- ---- parts

-- 1 for one that waits
abbrev held_back : Part → ℕ
held_back p = cond (waits p) 1 0

light : (p : Part) → weight_in p + held_back p ≤ 1
light (part.Pass c) = omega arith
light part.Close = omega arith
light (part.Start b) = omega arith
light (part.Signal c) = omega arith
light (part.Leave c) = omega arith
light (part.Advance c) = omega arith
light part.Open = omega arith
light part.End = omega arith
light (part.Access x) = omega arith
light part.Print = omega arith

pub free : (p : Part) → lets_go p ≡ true → (weight_in p ≡ 0) × (held_back p ≡ 0)
free (part.Pass c) h = absurd (true≢false (sym h))
free part.Close h = absurd (true≢false (sym h))
free (part.Start b) h = (refl, refl)
free (part.Signal c) h = (refl, refl)
free (part.Leave c) h = (refl, refl)
free (part.Advance c) h = (refl, refl)
free part.Open h = (refl, refl)
free part.End h = (refl, refl)
free (part.Access x) h = absurd (true≢false (sym h))
free part.Print h = absurd (true≢false (sym h))

pub waits_one : (p : Part) → waits p ≡ true → held_back p ≡ 1
waits_one p h = ap (λ b. cond b 1 0) h

-- a start is tied, and the step itself isn't
not_print : (p : Part) → is_tied p ≡ true → part.Print ≡ p → ⊥
not_print p t h = true≢false (sym t ∙ ap is_tied (sym h))

-- a deed that is awaited stands before, and is tied
pub awaited_so : (ds : List Deed) (n c k : ℕ) (d : Deed) → IsAt ds k d → IsAwaited ds n c k → (k < n) × (tied d ≡ true)
awaited_so ds n c k d at (inl h) =
    (h.0, ap (λ (x : Deed). is_tied x.part) (same_Some d h.1 (sym at ∙ h.2)) ∙ ap is_tied h.3)
awaited_so ds n c k d at (inr h) =
    let g = h.5 in
    let a = h.1 in
    let b = g.0 in
    (omega (arith, a, b), ap (λ (x : Deed). is_tied x.part) (same_Some d g.1 (sym at ∙ g.2)) ∙ ap is_tied g.3)

module _ (m : ModuleValue) (args : List ℤ) (limits : IsWithinLimits m) (ok : IsAccepted m) (taken : AreArguments m args)
    (log : List Entry) (z : World) (legal : run m (schedule_of log) (opening m args) ≡ Through z) where
  abbrev w : World
  w = opening m args

  abbrev s : List ℕ
  s = schedule_of log

  abbrev ds : List Deed
  ds = deeds m s w

  abbrev es : List Deed
  es = told (tell_step m) m s w

  pub same : filter tied es ≡ filter tied ds
  same = run_tied m s w

  abbrev At : Type 0
  At = Turn m w s

  -- deed number k, which is d, is told of this step
  abbrev Told : At → ℕ → Deed → Type 0
  Told t k d = IsToldBy (tell_step m) m w s t k d

  pub turn_at : (k : ℕ) (d : Deed) → IsAt es k d → (t : At) × Told t k d
  turn_at k d at = told_of (tell_step m) m s w z legal k d at

  pub stands : (t : At) (k : ℕ) (d : Deed) → Told t k d → IsAt es k d
  stands t k d r = told_stands (tell_step m) m w s t k d r

  -- where it stands among those of the step
  pub place : (t : At) (k : ℕ) (d : Deed) (r : Told t k d) → Place m t.here t.there t.act t.e r.offset d
  place t k d r = place_of m t.here t.there t.act t.e r.offset d r.among

  step_is : (t : At) (k : ℕ) (d : Deed) → Told t k d → d.step ≡ run_step t.act t.here t.there t.e
  step_is t k d r = by (place t k d r)
    where
      by : Place m t.here t.there t.act t.e r.offset d → d.step ≡ run_step t.act t.here t.there t.e
      by (Front less is j at) = (part_is m w s t (length (deeds m t.before w) + j) d (record { offset = j; number = refl; among = at })).0
      by (Mid is same) = ap (λ (x : Deed). x.step) (sym same)
      by (Back less is j at) = (part_is m w s t (length (deeds m t.before w) + j) d (record { offset = j; number = refl; among = at })).0

  pub whose_is : (t : At) (k : ℕ) (d : Deed) → Told t k d → d.step.act ≡ t.act
  whose_is t k d r = ap (λ (x : RunStep). x.act) (step_is t k d r)

  pub number_of : (t : At) (k : ℕ) (d : Deed) → Told t k d → d.step.number ≡ suc (length t.before)
  number_of t k d r =
      let n = ap (λ (x : RunStep). x.number) (step_is t k d r) in
      let i = step_counts m t.here t.there t.act t.e t.takes in
      let j = run_counts m t.before w t.here t.leads in
      omega (arith, n, i, j)

  -- a tied one is one of the order of races, of the same step
  pub one_turn : (t u : At) (k j : ℕ) (d : Deed) → Told t k d → IsToldOf m w s u j d → AreOne m w s u t
  one_turn t u k j d p q =
      as_many m w s u t (let a = number_of t k d p in let b = number_is m args log u j d q in omega (arith, a, b))

  deed_of_tied : (t : At) (k : ℕ) (d : Deed) (r : Told t k d) → tied d ≡ true
      → (j : ℕ) × IsToldOf m w s t (length (deeds m t.before w) + j) d
  deed_of_tied t k d r is = by (place t k d r)
    where
      by : Place m t.here t.there t.act t.e r.offset d → (j : ℕ) × IsToldOf m w s t (length (deeds m t.before w) + j) d
      by (Front less b j at) = (j, record { offset = j; number = refl; among = at })
      by (Mid b same) = absurd (not_print d.part is (ap (λ (x : Deed). x.part) same))
      by (Back less b j at) = (j, record { offset = j; number = refl; among = at })

  -- ---- chains of steps

  -- each chain up to the first step goes on to the second one
  abbrev Extends : StepName → StepName → Type 0
  Extends x y = (xs : List StepName) → IsChainBy (IsCause m w s) x xs
      → (ys : List StepName) × IsChainBy (IsCause m w s) y ys × (suc (length xs) ≤ length ys)

  by_link : (x y : StepName) → IsCause m w s x y ⊎ ((x.0 ≡ y.0) × (x.1 < y.1)) → Extends x y
  by_link x y link xs chain = (x ∷ xs, (link, chain), omega arith)

  through : (x y v : StepName) → Extends x y → Extends y v → Extends x v
  through x y v p q xs chain =
      let a = p xs chain in
      let b = q a.0 a.1 in
      (b.0, b.1, (let k = a.2 in let l = b.2 in omega (arith, k, l)))

  by_way : (edges : List (StepName × StepName)) → ((u v : StepName) → IsEdge edges u v → IsCause m w s u v)
      → (x : StepName) (zs : List StepName) (y : StepName) → IsWay edges x zs y → Extends x y
  by_way edges causes x [] y way = by_link x y (link way)
    where
      link : IsLink edges x y → IsCause m w s x y ⊎ ((x.0 ≡ y.0) × (x.1 < y.1))
      link (inl e) = inl (causes x y e)
      link (inr o) = inr o
  by_way edges causes x (v ∷ zs) y way = through x v y (by_link x v (link way.0)) (by_way edges causes v zs y way.1)
    where
      link : IsLink edges x v → IsCause m w s x v ⊎ ((x.0 ≡ v.0) × (x.1 < v.1))
      link (inl e) = inl (causes x v e)
      link (inr o) = inr o

  by_led : (x y : StepName) → IsLed m w s x y → Extends x y
  by_led x y l = by_way l.edges l.causes x l.before.between y l.before.way

  -- a start
  by_start : (t u : At) → t.e ≡ event.Spawned → u.act ≡ length t.here.activities → Extends (name_of t) (name_of u)
  by_start t u is child = by (turns_of u.act u.before) refl
    where
      cause : IsStart m w s (name_of t) (u.act, 0)
      cause = record {
        before = t.before;
        after = t.after;
        here = t.here;
        there = t.there;
        whole = t.whole;
        leads = t.leads;
        turn = refl;
        starts = t.takes ∙ ap (Stepped t.there) is;
        child = child;
        first = refl;
      }

      first : Extends (name_of t) (u.act, 0)
      first = by_link (name_of t) (u.act, 0) (inl (inl (inl cause)))

      by : (n : ℕ) → turns_of u.act u.before ≡ n → Extends (name_of t) (name_of u)
      by zero e = subst (λ n. Extends (name_of t) (u.act, n)) (sym e) first
      by (suc n) e =
          through (name_of t) (u.act, 0) (name_of u) first (by_link (u.act, 0) (name_of u) (inr (refl, omega (arith, e))))

  -- ---- an edge

  -- both are told of one step, or each chain up to the first one's step goes on to that of the other
  abbrev Goes : At → At → Type 0
  Goes t u = AreOne m w s t u ⊎ Extends (name_of t) (name_of u)

  by_order : (t u : At) (k j : ℕ) (d e : Deed) → Told t k d → Told u j e → k < j → t.act ≡ u.act → Goes t u
  by_order t u k j d e p q less one = by (told_order (tell_step m) m w s t u k j d e p q less)
    where
      by : IsEarlier m w s t u ⊎ AreOne m w s t u → Goes t u
      by (inl earlier) = inr (by_link (name_of t) (name_of u) (inr (one, earlier_turns m w s t u earlier one)))
      by (inr o) = inl o

  -- where the order of races has both
  by_races : (t u : At) (k j : ℕ) (d e : Deed) → Told t k d → Told u j e → k < j
      → (i n : ℕ) → IsAt ds i d → IsAt ds n e → Edge ds i n → Goes t u
  by_races t u k j d e p q less i n there here edge = by (cases_eq t.act u.act)
    where
      f : (v : At) × IsToldOf m w s v i d
      f = told_at m s w z legal i d there

      g : (v : At) × IsToldOf m w s v n e
      g = told_at m s w z legal n e here

      first : AreOne m w s f.0 t
      first = one_turn t f.0 k i d p f.1

      second : AreOne m w s g.0 u
      second = one_turn u g.0 j n e q g.1

      by : (t.act ≡ u.act) ⊎ (t.act ≡ u.act → ⊥) → Goes t u
      by (inl one) = by_order t u k j d e p q less one
      by (inr differ) =
          let led = up_led m args limits ok taken s z legal f.0 g.0 i n d e f.1 g.1
          (λ h. differ (sym first.1 ∙ sym h ∙ second.1)) (inr ([], edge)) in
          inr (by_led (name_of t) (name_of u)
          (subst (λ x. IsLed m w s x (name_of u)) (one_name m w s f.0 t first)
          (subst (λ y. IsLed m w s (name_of f.0) y) (one_name m w s g.0 u second) led)))

  by_reason : (t u : At) (k j : ℕ) (d e : Deed) → Told t k d → Told u j e → Reason es k j e → (k < j) × Goes t u
  by_reason t u k j d e p q (Own h) = (h.0, by h.3)
    where
      is : h.1 ≡ d
      is = same_Some h.1 d (sym h.2 ∙ stands t k d p)

      by : (h.1.step.act ≡ e.step.act) ⊎ (h.1.part ≡ part.Start e.step.act) → Goes t u
      by (inl one) =
          by_order t u k j d e p q h.0
          (sym (whose_is t k d p) ∙ ap (λ (x : Deed). x.step.act) (sym is) ∙ one ∙ whose_is u j e q)
      by (inr starts) =
          let part_is : d.part ≡ part.Start e.step.act = ap (λ (x : Deed). x.part) (sym is) ∙ starts in
          let r = deed_of_tied t k d p (ap is_tied part_is) in
          let says = says_so m args limits ok taken s z legal t (length (deeds m t.before w) + r.0) d r.1 (part.Start e.step.act) part_is in
          inr (by_start t u says.0 (sym (whose_is u j e q) ∙ says.1))
  by_reason t u k j d e p q (Passed c is h) =
      let a = stands t k d p in
      let b = stands u j e q in
      let so = awaited_so es h.0 c k d a h.5 in
      let f = placed es ds same k d a so.1 in
      let g = placed es ds same j e b (ap is_tied is) in
      let less = h.1 in
      let more = so.0 in
      let before : k < j = omega (arith, less, more) in (
        before,
        by_races t u k j d e p q before f.0 g.0 f.1 g.1
            (e, g.1, Passed c is (counted_too es ds same j c k g.0 f.0 d a f.1 so.1 g.2 f.2 h)),
      )
  by_reason t u k j d e p q (Closed is h) =
      let a = stands t k d p in
      let b = stands u j e q in
      let t_is : tied d ≡ true = ap (λ (x : Deed). is_tied x.part) (same_Some d h.1 (sym a ∙ h.2)) ∙ ap is_tied h.3 in
      let f = placed es ds same k d a t_is in
      let g = placed es ds same j e b (ap is_tied is) in (
        h.0,
        by_races t u k j d e p q h.0 f.0 g.0 f.1 g.1
            (e, g.1, Closed is (ended_too es ds same j k g.0 f.0 e.step.act d a f.1 t_is g.2 f.2 h)),
      )

  -- of two deeds of one step the later one is the step itself, or waits, only where the first one waits
  in_step : (t u : At) (k j : ℕ) (d e : Deed) → Told t k d → Told u j e → AreOne m w s t u → k < j
      → weight_in e.part + held_back e.part ≤ held_back d.part
  in_step t u k j d e p q one less = by (place t k d p) (place u j e q)
    where
      up : p.offset < q.offset
      up = told_offsets (tell_step m) m w s t u k j d e p q one less

      same_front : waiting m t.here t.there t.act t.e ≡ waiting m u.here u.there u.act u.e
      same_front = ap (λ l. length (flat_map if_waits l)) (one_told m w s t u one)

      by : Place m t.here t.there t.act t.e p.offset d → Place m u.here u.there u.act u.e q.offset e
          → weight_in e.part + held_back e.part ≤ held_back d.part
      by f (Back a lets i at) = let r = free e.part lets in let x = r.0 in let y = r.1 in omega (arith, x, y)
      by (Front a is i at) g = let n = waits_one d.part is in let l = light e.part in omega (arith, n, l)
      by (Mid is x) (Front a b i at) = absurd (let f = same_front in omega (arith, is, a, f, up))
      by (Mid is x) (Mid js y) = absurd (let f = same_front in omega (arith, is, js, f, up))
      by (Back a lets i at) (Front b c l bt) = absurd (let f = same_front in omega (arith, a, b, f, up))
      by (Back a lets i at) (Mid js y) = absurd (let f = same_front in omega (arith, a, js, f, up))

  -- ---- a chain

  weight_is : (u : At) (j : ℕ) (e : Deed) → Told u j e → steps_weigh es j ≡ weight_in e.part
  weight_is u j e q = ap weight_at (stands u j e q)

  chain_deed : (j : ℕ) (ks : List ℕ) → IsChain es j ks → (d : Deed) × IsAt es j d
  chain_deed j [] h = h
  chain_deed j (k ∷ ks) h = (h.0.0, h.0.1)

  pub chain_within : (ks : List ℕ) (u : At) (j : ℕ) (e : Deed) → Told u j e → IsChain es j ks
      → (xs : List StepName) × IsChainBy (IsCause m w s) (name_of u) xs
      × (weight_of (steps_weigh es) (j ∷ ks) + held_back e.part ≤ suc (length xs))
  chain_within [] u j e q h =
      let n = weight_is u j e q in
      let l = light e.part in
      ([], refl, omega (arith, n, l))
  chain_within (k ∷ ks) u j e q h =
      let c = chain_deed k ks h.1 in
      let t = turn_at k c.0 c.1 in
      let r = chain_within ks t.0 k c.0 t.1 h.1 in
      by c.0 t.0 t.1 r (by_reason t.0 u k j c.0 e t.1 q (subst (Reason es k j) (same_Some h.0.0 e (sym h.0.1 ∙ stands u j e q)) h.0.2))
    where
      n : steps_weigh es j ≡ weight_in e.part
      n = weight_is u j e q

      by : (d : Deed) (t : At) → Told t k d → (xs : List StepName) × IsChainBy (IsCause m w s) (name_of t) xs
          × (weight_of (steps_weigh es) (k ∷ ks) + held_back d.part ≤ suc (length xs))
          → (k < j) × Goes t u
          → (xs : List StepName) × IsChainBy (IsCause m w s) (name_of u) xs
          × (weight_of (steps_weigh es) (j ∷ (k ∷ ks)) + held_back e.part ≤ suc (length xs))
      by d t p r (less, inl one) =
          let l = in_step t u k j d e p q one less in
          let i = r.2 in
          (r.0, subst (λ x. IsChainBy (IsCause m w s) x r.0) (one_name m w s t u one) r.1, omega (arith, n, l, i))
      by d t p r (less, inr extends) =
          let x = extends r.0 r.1 in
          let l = light e.part in
          let i = r.2 in
          let f = x.2 in
          (x.0, x.1, omega (arith, n, l, i, f))
