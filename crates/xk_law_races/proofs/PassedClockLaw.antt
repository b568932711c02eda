-- A deed is among those that a pass waited for exactly where by it somebody let the clock go who had held it in an earlier phase.
use Rattle.std.proofs.Common.{◌≡◌, ℕ, ℤ, suc, ◌+◌, ◌-◌, ◌<◌, ◌≤◌, ◌⊎◌, inl, inr, true, false, true≢false, List, [], ◌∷◌, ◌++◌, length, take}
use Rattle.std.proofs.Common.{drop, Some, None, Option, refl, sym, ap, ◌∙◌, subst, append_assoc, length-append, arith}
use Rattle.std.specs.Prelude.{pred, slice_get}
use Rattle.std.specs.Option.{option_map_or}
use Rattle.std.proofs.lemmas.Bool.{cases_lt, cases_order}
use Rattle.std.proofs.lemmas.List.{take-append-drop, take-append-le, length-take}
use Rattle.std.proofs.Math.Seq.{take-append-add, drop-cons}
use Rattle.std.proofs.lemmas.Option.{same_Some, slice_get_within, get_or_from_slice_get}
use Rattle.xk_types.specs.declared.world.Entry.{Entry}
use Rattle.xk_types.specs.declared.world.Standing.{Standing}
use Rattle.xk_types.specs.declared.world.Standing.TheVariants as standing
use Rattle.xk_types.specs.declared.world.Event.TheVariants as event
use Rattle.xk_types.specs.Acceptance.{IsAccepted}
use Rattle.xk_types.specs.Code.{ModuleValue, IsWithinLimits}
use Rattle.xk_types.specs.World.{Activity, Clock, World, AreArguments, opening, standing_of}
use Rattle.xk_types.specs.Step.{is_pending, is_registered, is_signalled, waits}
use Rattle.xk_types.specs.Schedule.{Through, run, IsReached, is_step}
use Rattle.xk_types.proofs.ListLemmas.{any_given}
use Rattle.xk_types.specs.Logs.{schedule_of}
use Rattle.xk_law_schedules.proofs.ReachabilityLemmas.{same_through, opening_reached}
use Rattle.xk_law_names.proofs.ActivityNameOrderLaw.{run_first}
use Rattle.xk_law_traces.specs.Edges.{standing_on, phase_of}
use Rattle.xk_law_commute.proofs.ChangeSquareLemmas.{found_of}
use Rattle.xk_law_traces.proofs.EdgeLaw.{run_behind}
use Rattle.xk_law_traces.proofs.InstructionEventLemmas.{passes_arrived, arrived_free}
use Rattle.xk_law_traces.proofs.SwapLemmas.{reached_run}
use Rattle.xk_races.specs.declared.deeds.Deed.{Deed}
use Rattle.xk_races.specs.declared.deeds.Part.{Part}
use Rattle.xk_races.specs.declared.deeds.Part.TheVariants as part
use Rattle.xk_races.specs.Deeds.{deeds_of_run}
use Rattle.xk_races.specs.Order.{IsAt, IsAwaited, IsCounted}
use Rattle.xk_law_races.specs.Finishes.{IsWorldOf}
use Rattle.xk_law_races.specs.Passes.{phase_held, IsHeld, IsLetGo, IsPassOf, IsStepPast, PassesAreExact}
use Rattle.xk_law_races.proofs.TurnLemmas.{Turn, IsToldOf, deeds, told_at, deed_at, IsEarlier, AreOne, run_between, one_here, one_told}
use Rattle.xk_law_races.proofs.TurnLemmas.{turn_reached, numbers_rise, in_order}
use Rattle.xk_law_races.proofs.PhaseLemmas.{phase_grows, phase_near}
use Rattle.xk_law_races.proofs.DeedPartLemmas.{is_advance}
use Rattle.xk_law_races.proofs.StepDeedLemmas.{IsDeedOf, deed_told}
use Rattle.xk_law_races.proofs.RunWorldLemmas.{number_is, world_of}
use Rattle.xk_law_races.proofs.HeldClockLemmas.{held_least}
use Rattle.xk_law_races.proofs.ToldDeedLemmas.{IsTold, advances_last, pass_told}
use Rattle.xk_law_races.proofs.LinkLemmas.{stands, pending_holds, signalled_holds, whose, says_so, phase_between, counted_further}
use Rattle.xk_law_races.proofs.HeldRunLemmas.{told_of, IsLettingGo, further_told, IsLetGoOn, let_go_on, ComesFurtherOn, further_on}

-- a deed by which clock c is let go
abbrev Lets : Deed → ℕ → Type 0
Lets d c = (d.part ≡ part.Signal c) ⊎ (d.part ≡ part.Leave c)

no_advance : (d : Deed) (c : ℕ) → Lets d c → is_advance d.part ≡ false
no_advance d c (inl is) = ap is_advance is
no_advance d c (inr is) = ap is_advance is

no_pass : (d : Deed) (c b : ℕ) → Lets d c → d.part ≡ part.Pass b → ⊥
no_pass d c b (inl is) h = cc
no_pass d c b (inr is) h = cc

module _ (m : ModuleValue) (args : List ℤ) (limits : IsWithinLimits m) (ok : IsAccepted m) (taken : AreArguments m args)
    (log : List Entry) (z : World)
    (legal : run m (schedule_of log) (opening m args) ≡ Through z) where
  abbrev w : World
  w = opening m args

  abbrev s : List ℕ
  s = schedule_of log

  abbrev ds : List Deed
  ds = deeds_of_run m args log

  abbrev At : Type 0
  At = Turn m w s

  reached : IsReached m w
  reached = opening_reached m args taken

  -- ---- who lets go, and who passes

  -- deed number k, by which clock c is let go, and its turn
  record LetsAt (k x c p : ℕ) : Type 0 where
    deed : Deed
    turn : At
    told : IsToldOf m w s turn k deed
    lets : Lets deed c
    mine : turn.act ≡ x
    holds : IsHeld turn.here turn.act c p

  lets_at : (k x c p : ℕ) → IsLetGo m args log k x c p → LetsAt k x c p
  lets_at k x c p l = record {
    deed = l.deed;
    turn = t.0;
    told = t.1;
    lets = l.lets;
    mine = same;
    holds = subst (λ a. IsHeld t.0.here a c p) (sym same) (subst (λ (v : World). IsHeld v x c p) one l.holds);
  }
    where
      t : (t : At) × IsToldOf m w s t k l.deed
      t = told_at m s w z legal k l.deed l.at

      same : t.0.act ≡ x
      same = sym (whose m args limits ok taken s z legal t.0 k l.deed t.1) ∙ l.mine

      one : l.here ≡ t.0.here
      one = same_through l.here t.0.here (sym l.there ∙ world_of m args log t.0 k l.deed t.1)

  abbrev let_go : (k c p : ℕ) (d : Deed) (t : At) → IsToldOf m w s t k d → Lets d c → IsHeld t.here t.act c p
      → IsLetGo m args log k t.act c p
  let_go k c p d t r lets holds = record {
    deed = d;
    at = deed_at m w s t k d r;
    lets = lets;
    mine = whose m args limits ok taken s z legal t k d r;
    here = t.here;
    there = world_of m args log t k d r;
    holds = holds;
  }

  -- deed number j, which passes clock c, and its turn
  record PassesAt (j c : ℕ) : Type 0 where
    deed : Deed
    turn : At
    told : IsToldOf m w s turn j deed
    passes : deed.part ≡ part.Pass c

  passes_at : (j c q : ℕ) (r : IsPassOf m args log j c q) → (u : PassesAt j c) × (phase_of u.turn.here c ≡ q)
  passes_at j c q r =
      let t = told_at m s w z legal j r.deed r.at in
      let one = same_through r.here t.0.here (sym r.there ∙ world_of m args log t.0 j r.deed t.1) in (
        record { deed = r.deed; turn = t.0; told = t.1; passes = r.passes },
        sym (ap (λ (v : World). phase_of v c) one) ∙ r.phase,
      )

  abbrev pass_of : (j c q : ℕ) (u : PassesAt j c) → phase_of u.turn.here c ≡ q → IsPassOf m args log j c q
  pass_of j c q u phase =
      let says = says_so m args limits ok taken s z legal u.turn j u.deed u.told (part.Pass c) u.passes in
      let pends = stands is_pending u.turn.here u.turn.act c says.1 in
      record {
        deed = u.deed;
        at = deed_at m w s u.turn j u.deed u.told;
        passes = u.passes;
        here = u.turn.here;
        there = world_of m args log u.turn j u.deed u.told;
        registered = ap (λ a. is_registered (standing_on u.turn.here a c)) (whose m args limits ok taken s z legal u.turn j u.deed u.told)
            ∙ (pending_holds (phase_of u.turn.here c) (standing_on u.turn.here u.turn.act c) pends).0;
        phase = phase;
      }

  -- ---- from the order to the worlds

  awaited_lets : (n c k : ℕ) → IsAwaited ds n c k → (d : Deed) × IsAt ds k d × Lets d c
  awaited_lets n c k (inl h) = (h.1, h.2, inl h.3)
  awaited_lets n c k (inr h) = let g = h.5 in (g.1, g.2, inr g.3)

  sound : (k j c : ℕ) (e : Deed) → IsAt ds j e → e.part ≡ part.Pass c → IsCounted ds j c k
      → (x p q : ℕ) × IsLetGo m args log k x c p × IsPassOf m args log j c q × (p < q)
  sound k j c e at passes counted =
      let d = awaited_lets counted.0 c k counted.5 in
      let t = told_at m s w z legal k d.0 d.1 in
      let u = told_at m s w z legal j e at in
      let further = counted_further m args limits ok taken s z legal t.0 u.0 k j c d.0 e t.1 u.1 passes counted in (
        t.0.act,
        phase_held t.0.here t.0.act c,
        phase_of u.0.here c,
        let_go k c (phase_held t.0.here t.0.act c) d.0 t.0 t.1 d.2 (record { registered = further.0; held = refl }),
        pass_of j c (phase_of u.0.here c) (record { deed = e; turn = u.0; told = u.1; passes = passes }) refl,
        further.1,
      )

  -- ---- advances

  -- a deed by which clock c advances, in a turn before turn u
  record AdvancesBefore (u : At) (c : ℕ) : Type 0 where
    place : ℕ
    deed : Deed
    turn : At
    told : IsToldOf m w s turn place deed
    advances : deed.part ≡ part.Advance c
    before : IsEarlier m w s turn u
    further : phase_of turn.here c < phase_of turn.there c

  -- of a turn in which it comes further
  advance_in : (v u : At) (c : ℕ) → IsEarlier m w s v u → phase_of v.here c < phase_of v.there c → (a : AdvancesBefore u c) × (a.turn ≡ v)
  advance_in v u c before more =
      let told = (further_told m limits ok v.here v.there v.act v.e (turn_reached m w s v reached) v.takes c more).1 in
      let d = deed_told m w s v (part.Advance c) told.0 told.1 in
      (record { place = d.number; deed = d.deed; turn = v; told = d.told; advances = d.part; before = before; further = more }, refl)

  -- where a clock comes further behind turn t and before turn u
  module _ (t u : At) (earlier : IsEarlier m w s t u) (c : ℕ) (more : phase_of t.there c < phase_of u.here c) where
    g : ComesFurtherOn m earlier.0 t.there c
    g = further_on m earlier.0 t.there u.here c (run_between m w s t u earlier) more

    split : u.before ≡ (t.before ++ t.act ∷ g.before) ++ g.act ∷ g.after
    split = earlier.1 ∙ ap (λ l. t.before ++ t.act ∷ l) g.whole ∙ sym (append_assoc t.before (t.act ∷ g.before) (g.act ∷ g.after))

    abbrev v : At
    v = record {
      before = t.before ++ t.act ∷ g.before;
      after = g.after ++ u.act ∷ u.after;
      act = g.act;
      here = g.here;
      there = g.there;
      e = g.e;
      whole = u.whole ∙ ap (λ l. l ++ u.act ∷ u.after) split
          ∙ append_assoc (t.before ++ t.act ∷ g.before) (g.act ∷ g.after) (u.act ∷ u.after);
      leads = run_behind m t.before (t.act ∷ g.before) w t.here t.leads ∙ run_first m g.before t.here t.there t.act t.e t.takes ∙ g.leads;
      takes = g.takes;
    }

    -- there is an advance
    advance_between : (a : AdvancesBefore u c) × IsEarlier m w s t a.turn × (phase_of a.turn.here c ≡ phase_of t.there c)
    advance_between =
        let a = advance_in v u c (g.after, split) g.further in (
          a.0,
          subst (λ (x : At). IsEarlier m w s t x) (sym a.1) (g.before, refl),
          subst (λ (x : At). phase_of x.here c ≡ phase_of t.there c) (sym a.1) g.still,
        )

  -- where it comes further from turn t on, there is one in it or behind it, before which the clock has come no further
  advance_from : (t u : At) → IsEarlier m w s t u → (c : ℕ) → phase_of t.here c < phase_of u.here c
      → (a : AdvancesBefore u c) × (IsEarlier m w s t a.turn ⊎ AreOne m w s t a.turn) × (phase_of a.turn.here c ≡ phase_of t.here c)
  advance_from t u earlier c more = by (cases_lt (phase_of t.here c) (phase_of t.there c))
    where
      by : (phase_of t.here c < phase_of t.there c) ⊎ (phase_of t.there c ≤ phase_of t.here c)
          → (a : AdvancesBefore u c) × (IsEarlier m w s t a.turn ⊎ AreOne m w s t a.turn) × (phase_of a.turn.here c ≡ phase_of t.here c)
      by (inl now) =
          let a = advance_in t u c earlier now in (
            a.0,
            inr (sym (ap (λ (x : At). x.before) a.1), sym (ap (λ (x : At). x.act) a.1)),
            ap (λ (x : At). phase_of x.here c) a.1,
          )
      by (inr le) =
          let up = phase_grows m (t.act ∷ []) t.here t.there c (run_first m [] t.here t.there t.act t.e t.takes) in
          let same : phase_of t.there c ≡ phase_of t.here c = omega (arith, le, up) in
          let a = advance_between t u earlier c (omega (arith, same, more)) in
          (a.0, inl a.1, a.2 ∙ same)

  -- a deed by which a clock is let go stands before an advance of its turn
  before_advance : (t : At) (k c : ℕ) (d : Deed) → IsToldOf m w s t k d → Lets d c → (u : At) (b : ℕ) (a : AdvancesBefore u b)
      → IsEarlier m w s t a.turn ⊎ AreOne m w s t a.turn
      → k < a.place
  before_advance t k c d p lets u b a (inl earlier) = numbers_rise m w s a.turn t a.place k a.deed d a.told p earlier
  before_advance t k c d p lets u b a (inr one) =
      let v = a.turn in
      let goes = (further_told m limits ok v.here v.there v.act v.e (turn_reached m w s v reached) v.takes b a.further).0 in
      let rise = advances_last m v.act v.here v.there v.e goes p.offset a.told.offset d a.deed
      (ap (λ l. slice_get l p.offset) (sym (one_told m w s t v one)) ∙ p.among) a.told.among (no_advance d c lets)
      (ap is_advance a.advances) in
      let same = ap (λ l. length (deeds m l w)) one.0 in
      let i = p.number in
      let j = a.told.number in
      omega (arith, rise, same, i, j)

  -- ---- from the worlds to the order

  module _ (k j x c p q : ℕ) (l : LetsAt k x c p) (u : PassesAt j c) (phase : phase_of u.turn.here c ≡ q) (less : p < q) where
    abbrev t : At
    t = l.turn

    -- the clock comes further in between
    further : phase_of t.here c < phase_of u.turn.here c
    further =
        let least = held_least (phase_of t.here c) (standing_on t.here t.act c) in
        let held = l.holds.held in
        omega (arith, least, held, phase, less)

    earlier : IsEarlier m w s t u.turn
    earlier = by (cases_order k j)
      where
        up : IsEarlier m w s t u.turn ⊎ AreOne m w s t u.turn → IsEarlier m w s t u.turn
        up (inl is) = is
        up (inr one) = let same = ap (λ (v : World). phase_of v c) (one_here m w s t u.turn one) in absurd (omega (arith, same, further))

        by : (k ≡ j) ⊎ ((k < j) ⊎ (j < k)) → IsEarlier m w s t u.turn
        by (inl same) =
            let d = same_Some l.deed u.deed
            (sym (deed_at m w s t k l.deed l.told) ∙ ap (slice_get ds) same ∙ deed_at m w s u.turn j u.deed u.told) in
            absurd (no_pass l.deed c c l.lets (ap (λ (e : Deed). e.part) d ∙ u.passes))
        by (inr (inl before)) = up (in_order m w s t u.turn k j l.deed u.deed l.told u.told before)
        by (inr (inr behind)) =
            let grown = phase_between m args limits ok taken s z legal u.turn t c
            (in_order m w s u.turn t j k u.deed l.deed u.told l.told behind) in
            absurd (omega (arith, grown, further))

    first : (a : AdvancesBefore u.turn c) × (IsEarlier m w s t a.turn ⊎ AreOne m w s t a.turn)
        × (phase_of a.turn.here c ≡ phase_of t.here c)
    first = advance_from t u.turn earlier c further

    before_first : k < first.0.place
    before_first = before_advance t k c l.deed l.told l.lets u.turn c first.0 first.1

    counted : (a : AdvancesBefore u.turn c) → IsAwaited ds a.place c k → IsCounted ds j c k
    counted a awaited = (
      a.place,
      numbers_rise m w s u.turn a.turn j a.place u.deed a.deed u.told a.told a.before,
      a.deed,
      deed_at m w s a.turn a.place a.deed a.told,
      a.advances,
      awaited,
    )

    -- an advance waits for whom it awaited
    signal_counted : l.deed.part ≡ part.Signal c → IsCounted ds j c k
    signal_counted is = counted first.0 (inl (before_first, l.deed, deed_at m w s t k l.deed l.told, is))

    -- the one behind it for who had resumed
    leave_counted : l.deed.part ≡ part.Leave c → IsCounted ds j c k
    leave_counted is =
        let a = first.0 in
        let resumes = stands is_signalled t.here t.act c (says_so m args limits ok taken s z legal t k l.deed l.told (part.Leave c) is) in
        let next = (signalled_holds (phase_of t.here c) (standing_on t.here t.act c) resumes).1 in
        let held = l.holds.held in
        let near = phase_near m a.turn.here a.turn.there a.turn.act c a.turn.e a.turn.takes in
        let still = first.2 in
        let b = advance_between a.turn u.turn a.before c (omega (arith, next, held, near, still, phase, less)) in
        counted b.0 (inr (
          a.place,
          numbers_rise m w s b.0.turn a.turn b.0.place a.place b.0.deed a.deed b.0.told a.told b.1,
          a.deed,
          deed_at m w s a.turn a.place a.deed a.told,
          a.advances,
          (before_first, l.deed, deed_at m w s t k l.deed l.told, is),
        ))

    lets_counted : Lets l.deed c → IsCounted ds j c k
    lets_counted (inl is) = signal_counted is
    lets_counted (inr is) = leave_counted is

  complete : (k j x c p q : ℕ) → IsLetGo m args log k x c p → IsPassOf m args log j c q → p < q → IsCounted ds j c k
  complete k j x c p q l r less =
      let t = lets_at k x c p l in let u = passes_at j c q r in lets_counted k j x c p q t u.0 u.1 less t.lets

  -- ---- whoever holds a clock

  -- who holds the clock in world `here`, before turn u, in which the clock has come further
  module _ (u : At) (n x c p : ℕ) (here : World) (there : IsWorldOf m args log n here) (holds : IsHeld here x c p)
      (more : p < phase_of u.here c) where
    -- that world is an earlier one
    before_u : pred n ≤ length u.before
    before_u = by (cases_lt (length u.before) (pred n))
      where
        by : (length u.before < pred n) ⊎ (pred n ≤ length u.before) → pred n ≤ length u.before
        by (inr le) = le
        by (inl less) =
            let rest : ℕ = pred n - length u.before in
            let cut : take (pred n) s ≡ u.before ++ take rest (u.act ∷ u.after) =
            ap (take (pred n)) u.whole
            ∙ ap (λ i. take i (u.before ++ u.act ∷ u.after)) (let e : pred n ≡ length u.before + rest = omega arith in e)
            ∙ take-append-add u.before (u.act ∷ u.after) rest in
            let grown = phase_grows m (take rest (u.act ∷ u.after)) u.here here c
            (sym (run_behind m u.before (take rest (u.act ∷ u.after)) w u.here u.leads) ∙ ap (λ l. run m l w) (sym cut) ∙ there) in
            let least = held_least (phase_of here c) (standing_on here x c) in
            let held = holds.held in
            absurd (omega (arith, grown, least, held, more))

    abbrev front : List ℕ
    front = take (pred n) s

    abbrev way : List ℕ
    way = drop (pred n) u.before

    parts : u.before ≡ front ++ way
    parts =
        sym (take-append-drop (pred n) u.before)
        ∙ ap (λ l. l ++ drop (pred n) u.before)
        (sym (take-append-le (pred n) u.before (u.act ∷ u.after) before_u) ∙ ap (take (pred n)) (sym u.whole))

    many : length front ≡ pred n
    many =
        let long = ap length u.whole ∙ length-append u.before (u.act ∷ u.after) in
        simp length-take (let le = before_u in omega (arith, long, le))

    on_way : IsLetGoOn m limits ok way here x c p
    on_way =
        let_go_on m limits ok way here u.here x c p (reached_run m front w here reached there)
        (sym (run_behind m front way w here there) ∙ ap (λ l. run m l w) (sym parts) ∙ u.leads) holds more

    its_split : u.before ≡ (front ++ on_way.before) ++ x ∷ on_way.after
    its_split = parts ∙ ap (λ l. front ++ l) on_way.whole ∙ sym (append_assoc front on_way.before (x ∷ on_way.after))

    abbrev its_turn : At
    its_turn = record {
      before = front ++ on_way.before;
      after = on_way.after ++ u.act ∷ u.after;
      act = x;
      here = on_way.here;
      there = on_way.there;
      e = on_way.e;
      whole = u.whole ∙ ap (λ l. l ++ u.act ∷ u.after) its_split
          ∙ append_assoc (front ++ on_way.before) (x ∷ on_way.after) (u.act ∷ u.after);
      leads = run_behind m front on_way.before w here there ∙ on_way.leads;
      takes = on_way.takes;
    }

    -- lets it go, there or later
    abbrev LetsLater : Type 0
    LetsLater = (k : ℕ) × (l : IsLetGo m args log k x c p) × (n ≤ l.deed.step.number)

    by_deed : (d : Part) → IsDeedOf m w s its_turn d → (d ≡ part.Signal c) ⊎ (d ≡ part.Leave c) → LetsLater
    by_deed d r is = (
      r.number,
      let_go r.number c p r.deed its_turn r.told (lets is) on_way.holds,
      (let i = number_is m args log its_turn r.number r.deed r.told in
          let j = length-append front on_way.before in
          omega (arith, i, j, many)),
    )
      where
        lets : (d ≡ part.Signal c) ⊎ (d ≡ part.Leave c) → Lets r.deed c
        lets (inl h) = inl (r.part ∙ h)
        lets (inr h) = inr (r.part ∙ h)

    lets_later : LetsLater
    lets_later = by on_way.lets
      where
        by : IsLettingGo m x on_way.here on_way.there on_way.e c → LetsLater
        by (inl told) = by_deed (part.Signal c) (deed_told m w s its_turn (part.Signal c) told.0 told.1) (inl refl)
        by (inr told) = by_deed (part.Leave c) (deed_told m w s its_turn (part.Leave c) told.0 told.1) (inr refl)

  all : (n j x c p q : ℕ) (here : World) → IsWorldOf m args log n here → IsHeld here x c p → IsPassOf m args log j c q → p < q
      → (k : ℕ) × (l : IsLetGo m args log k x c p) × (n ≤ l.deed.step.number)
  all n j x c p q here there holds r less =
      let u = passes_at j c q r in
      lets_later u.0.turn n x c p here there holds (let phase = u.1 in omega (arith, phase, less))

  -- ---- each pass is told of

  each : (n a c q : ℕ) → IsStepPast m args log n a c q
      → (j : ℕ) × (r : IsPassOf m args log j c q) × (r.deed.step.act ≡ a) × (r.deed.step.number ≡ n)
  each n a c q h = (
    r.number,
    pass_of r.number c q (record { deed = r.deed; turn = t; told = r.told; passes = r.part }) h.phase,
    whose m args limits ok taken s z legal t r.number r.deed r.told,
    (let i = number_is m args log t r.number r.deed r.told in let some = h.some in omega (arith, i, many, some)),
  )
    where
      inside : pred n < length s
      inside = slice_get_within s (pred n) a h.whose

      t : At
      t = record {
        before = take (pred n) s;
        after = drop (suc (pred n)) s;
        act = a;
        here = h.here;
        there = h.next;
        e = event.Passed;
        whole = sym (take-append-drop (pred n) s)
            ∙ ap (λ l. take (pred n) s ++ l)
            (drop-cons s (pred n) a inside ∙ ap (λ b. b ∷ drop (suc (pred n)) s) (get_or_from_slice_get s (pred n) a a h.whose));
        leads = h.there;
        takes = h.passes;
      }

      many : length (take (pred n) s) ≡ pred n
      many = let less = inside in simp length-take (omega (arith, less))

      act : (act : Activity) × (slice_get h.here.activities a ≡ Some act)
      act = found_of m h.here a h.next event.Passed h.passes

      free : waits h.here a ≡ false
      free = arrived_free m h.here a act.0 act.1 (passes_arrived m h.here h.next a act.0 h.passes act.1) (ap is_step h.passes)

      unsignalled : (o : Option Clock) → slice_get h.here.clocks c ≡ o
          → is_signalled (option_map_or (λ (k : Clock). standing_of k a) o standing.Apart) ≡ true
          → ⊥
      unsignalled None at signals = true≢false (sym signals)
      unsignalled (Some k) at signals = true≢false
          (sym (any_given (λ (k : Clock). is_signalled (standing_of k a)) h.here.clocks c k at signals) ∙ free)

      pends : (st : Standing) → standing_on h.here a c ≡ st → is_pending st ≡ true
      pends standing.Apart is = absurd (true≢false (sym h.registered ∙ ap is_registered is))
      pends standing.Open is = refl
      pends standing.Signalled is = absurd (unsignalled (slice_get h.here.clocks c) refl (ap is_signalled is))
      pends standing.Ahead is = refl

      told : IsTold m a h.here h.next event.Passed (part.Pass c)
      told = pass_told m a h.here h.next c
          (told_of is_pending h.here a c refl (slice_get_within h.here.activities a act.0 act.1) (pends (standing_on h.here a c) refl))

      r : IsDeedOf m w s t (part.Pass c)
      r = deed_told m w s t (part.Pass c) told.0 told.1

  pub passes_are_exact : PassesAreExact m args log
  passes_are_exact = record { sound = sound; complete = complete; all = all; each = each }
