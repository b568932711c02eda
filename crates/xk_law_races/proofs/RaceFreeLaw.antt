-- A run of which no race is told has none in any schedule of its class. For of two accesses that conflict one comes before the other by
-- the least order of the run's deeds; so what orders those orders their steps.
use Rattle.std.proofs.Common.{◌≡◌, ℕ, ℤ, ◌<◌, ◌≤◌, ◌&&◌, ◌⊎◌, inl, inr, not, Bool, true, false, true≢false, List, [], ◌∷◌, length, Some}
use Rattle.std.proofs.Common.{None, Option, refl, sym, ap, ◌∙◌, subst, eq-eqb, arith}
use Rattle.std.specs.Prelude.{slice_get}
use Rattle.std.proofs.lemmas.Bool.{cases_eq, cases_lt}
use Rattle.std.proofs.lemmas.Option.{none-some, same_Some}
use Rattle.xk_types.specs.declared.instr.Instr.{Instr}
use Rattle.xk_types.specs.Acceptance.{IsAccepted}
use Rattle.xk_types.specs.Code.{ModuleValue, IsWithinLimits}
use Rattle.xk_types.specs.World.{World, AreArguments, opening}
use Rattle.xk_types.specs.Schedule.{Through, run, IsReached, all_ended}
use Rattle.xk_law_schedules.proofs.ReachabilityLemmas.{opening_reached}
use Rattle.xk_law_commute.specs.Conflicts.{next_instruction}
use Rattle.xk_law_traces.specs.RaceFreedom.{HasNoRace}
use Rattle.xk_law_traces.specs.Edges.{StepName, turns_of, IsBefore, instruction_of, AreApart, AreOrdered}
use Rattle.xk_law_traces.proofs.OneRunLaw.{ordered_run}
use Rattle.xk_law_traces.proofs.PassEdgeLaw.{causes_sound}
use Rattle.xk_show_events.specs.declared.steps.RunStep.{RunStep}
use Rattle.xk_races.specs.declared.deeds.Deed.{Deed}
use Rattle.xk_races.specs.declared.deeds.Part.{Part}
use Rattle.xk_races.specs.declared.deeds.Part.TheVariants as part
use Rattle.xk_races.specs.declared.pairs.Race.{Race}
use Rattle.xk_races.specs.Knowledge.{Sight, sights_of, comes_before, is_sight}
use Rattle.xk_races.specs.Races.{clash, have_one_number, is_race, races_in, has_none}
use Rattle.xk_races.specs.Exactness.{Has}
use Rattle.xk_races.proofs.RaceListLemmas.{races_are_exact}
use Rattle.xk_law_races.proofs.TurnLemmas.{Turn, name_of, deeds, deed_at, turn_reached, IsTurnOf, turn_of_step, name_inside}
use Rattle.xk_law_races.proofs.EdgeListLemmas.{Edges, no_cause, before_more, IsLed, Grows, Gathered, gather_pairs}
use Rattle.xk_law_races.proofs.DeedPartLemmas.{part_is}
use Rattle.xk_law_races.proofs.LinkLemmas.{up_led}
use Rattle.xk_law_races.proofs.SeenLemmas.{IsSight, sight_of, sight_up}
use Rattle.xk_law_races.proofs.AccessLemmas.{Mode, event_of, Accesses, Sort, Does, DoesNone, sort_of, apart_none, apart_turned, apart_by}
use Rattle.xk_law_races.proofs.AccessLemmas.{IsAccess, access_of}

-- ---- the order of accesses

-- a list with an element isn't empty
not_none : (rs : List Race) (r : Race) → Has rs r → has_none rs ≡ true → ⊥
not_none [] r h e = none-some r h.1
not_none (q ∷ rs) r h e = true≢false (sym e)

module _ (m : ModuleValue) (args : List ℤ) (limits : IsWithinLimits m) (ok : IsAccepted m) (taken : AreArguments m args)
    (s : List ℕ) (z : World)
    (legal : run m s (opening m args) ≡ Through z) (free : has_none (races_in (sights_of (deeds m s (opening m args)))) ≡ true) where
  abbrev w : World
  w = opening m args

  abbrev ds : List Deed
  ds = deeds m s w

  reached : IsReached m w
  reached = opening_reached m args taken

  -- of two that clash, the one that is seen first came before
  clash_before : (p q : ℕ) (x y : Sight) → p < q → slice_get (sights_of ds) p ≡ Some x → slice_get (sights_of ds) q ≡ Some y
      → have_one_number x.deed.part y.deed.part ≡ true → clash x.deed.step.event y.deed.step.event ≡ true → comes_before x y ≡ true
  clash_before p q x y less here there one clashes = by (comes_before x y) refl
    where
      by : (b : Bool) → comes_before x y ≡ b → comes_before x y ≡ true
      by true e = e
      by false e =
          let is : is_race x y ≡ true =
          ap (λ b. b && (clash x.deed.step.event y.deed.step.event && not (comes_before x y))) one
          ∙ ap (λ b. b && not (comes_before x y)) clashes ∙ ap not e in
          let r = (races_are_exact (sights_of ds)).complete p q x y less here there is in
          absurd (not_none (races_in (sights_of ds)) r.0 r.1 free)

  clash_turned : (k l : Mode) → clash (event_of k) (event_of l) ≡ clash (event_of l) (event_of k)
  clash_turned Mode.Gets Mode.Gets = refl
  clash_turned Mode.Gets Mode.Puts = refl
  clash_turned Mode.Gets Mode.Adds = refl
  clash_turned Mode.Puts Mode.Gets = refl
  clash_turned Mode.Puts Mode.Puts = refl
  clash_turned Mode.Puts Mode.Adds = refl
  clash_turned Mode.Adds Mode.Gets = refl
  clash_turned Mode.Adds Mode.Puts = refl
  clash_turned Mode.Adds Mode.Adds = refl

  -- a sight of an access is of this shared number, and was seen to do this
  cell_seen : (t : Turn m w s) (c : ℕ) (k : Mode) (p : IsAccess m w s t c k) (x : IsSight ds p.deed.number p.deed.deed)
      → x.sight.deed.part ≡ part.Access c
  cell_seen t c k p x = ap (λ (d : Deed). d.part) x.deed ∙ p.deed.part

  event_seen : (t : Turn m w s) (c : ℕ) (k : Mode) (p : IsAccess m w s t c k) (x : IsSight ds p.deed.number p.deed.deed)
      → x.sight.deed.step.event ≡ event_of k
  event_seen t c k p x =
      ap (λ (d : Deed). d.step.event) x.deed
      ∙ ap (λ (r : RunStep). r.event) (part_is m w s t p.deed.number p.deed.deed p.deed.told).0 ∙ p.event

  act_seen : (t : Turn m w s) (c : ℕ) (k : Mode) (p : IsAccess m w s t c k) (x : IsSight ds p.deed.number p.deed.deed)
      → x.sight.deed.step.act ≡ t.act
  act_seen t c k p x =
      ap (λ (d : Deed). d.step.act) x.deed
      ∙ ap (λ (r : RunStep). r.act) (part_is m w s t p.deed.number p.deed.deed p.deed.told).0

  one_number : (f g : Part) (c d : ℕ) → f ≡ part.Access c → g ≡ part.Access d → c ≡ d → have_one_number f g ≡ true
  one_number f g c d p q same = ap (λ h. have_one_number h g) p ∙ ap (have_one_number (part.Access c)) q ∙ eq-eqb c d same

  -- of two accesses that clash, the one that is seen first leads to the other
  sights_led : (t u : Turn m w s) (c d : ℕ) (k l : Mode) (p : IsAccess m w s t c k) (q : IsAccess m w s u d l) → (u.act ≡ t.act → ⊥) → c ≡ d
      → clash (event_of k) (event_of l) ≡ true → (x : IsSight ds p.deed.number p.deed.deed) (y : IsSight ds q.deed.number q.deed.deed)
      → x.place < y.place
      → IsLed m w s (name_of t) (name_of u)
  sights_led t u c d k l p q differ same clashes x y less =
      up_led m args limits ok taken s z legal t u p.deed.number q.deed.number p.deed.deed q.deed.deed p.deed.told q.deed.told differ
      (sight_up ds p.deed.number q.deed.number p.deed.deed q.deed.deed x y
      (clash_before x.place y.place x.sight y.sight less x.there y.there
      (one_number x.sight.deed.part y.sight.deed.part c d (cell_seen t c k p x) (cell_seen u d l q y) same)
      (ap (λ f. clash f y.sight.deed.step.event) (event_seen t c k p x) ∙ ap (clash (event_of k)) (event_seen u d l q y) ∙ clashes)))

  -- and one sight is of one activity
  one_act : (t u : Turn m w s) (c d : ℕ) (k l : Mode) (p : IsAccess m w s t c k) (q : IsAccess m w s u d l)
      (x : IsSight ds p.deed.number p.deed.deed)
      (y : IsSight ds q.deed.number q.deed.deed) → x.place ≡ y.place → u.act ≡ t.act
  one_act t u c d k l p q x y is =
      let sights : x.sight ≡ y.sight = same_Some x.sight y.sight (sym x.there ∙ ap (slice_get (sights_of ds)) is ∙ y.there) in
      sym (act_seen u d l q y) ∙ sym (ap (λ (a : Sight). a.deed.step.act) sights) ∙ act_seen t c k p x

  -- one of two steps leads to the other
  abbrev EitherLed : StepName → StepName → Type 0
  EitherLed x y = IsLed m w s x y ⊎ IsLed m w s y x

  access_led : (t u : Turn m w s) (c d : ℕ) (k l : Mode) → IsAccess m w s t c k → IsAccess m w s u d l → (u.act ≡ t.act → ⊥) → c ≡ d
      → clash (event_of k) (event_of l) ≡ true → EitherLed (name_of t) (name_of u)
  access_led t u c d k l p q differ same clashes = by (cases_lt x.place y.place)
    where
      x : IsSight ds p.deed.number p.deed.deed
      x = sight_of ds p.deed.number p.deed.deed (deed_at m w s t p.deed.number p.deed.deed p.deed.told) (ap is_sight p.deed.part)

      y : IsSight ds q.deed.number q.deed.deed
      y = sight_of ds q.deed.number q.deed.deed (deed_at m w s u q.deed.number q.deed.deed q.deed.told) (ap is_sight q.deed.part)

      first : x.place < y.place → IsLed m w s (name_of t) (name_of u)
      first less = sights_led t u c d k l p q differ same clashes x y less

      second : y.place < x.place → IsLed m w s (name_of u) (name_of t)
      second less = sights_led u t d c l k q p (λ e. differ (sym e)) (sym same) (sym (clash_turned k l) ∙ clashes) y x less

      by : (x.place < y.place) ⊎ (y.place ≤ x.place) → EitherLed (name_of t) (name_of u)
      by (inl less) = inl (first less)
      by (inr le) = later (cases_lt y.place x.place)
        where
          later : (y.place < x.place) ⊎ (x.place ≤ y.place) → EitherLed (name_of t) (name_of u)
          later (inl less) = inr (second less)
          later (inr ge) = absurd (differ (one_act t u c d k l p q x y (omega (arith, le, ge))))

  -- ---- all steps

  -- the two are apart, or one leads to the other
  abbrev AreLed : StepName → StepName → Type 0
  AreLed x y = AreApart (instruction_of m s w x) (instruction_of m s w y) ⊎ EitherLed x y

  led : (x y : StepName) → (y.0 ≡ x.0 → ⊥) → AreLed x y
  led x y differ = by (instruction_of m s w x) (instruction_of m s w y) refl refl
    where
      Either : Option Instr → Option Instr → Type 0
      Either o p = AreApart o p ⊎ EitherLed x y

      name_is : (a : StepName) (o : Option Instr) (r : IsTurnOf m w s a.0 a.1 o) → name_of r.turn ≡ a
      name_is a o r = ap (λ b. (b, turns_of b r.turn.before)) r.who ∙ ap (λ k. (a.0, k)) r.many

      accesses : (a : StepName) (i : Instr) (r : IsTurnOf m w s a.0 a.1 (Some i)) (c : ℕ) (k : Mode) → Accesses i c k
          → IsAccess m w s r.turn c k
      accesses a i r c k p = access_of m limits ok w s r.turn (turn_reached m w s r.turn reached) i c k
          (ap (next_instruction m r.turn.here) r.who ∙ sym r.next) p

      clashing : (i j : Instr) (r : IsTurnOf m w s x.0 x.1 (Some i)) (q : IsTurnOf m w s y.0 y.1 (Some j)) (c d : ℕ) (k l : Mode)
          → Accesses i c k → Accesses j d l
          → c ≡ d → clash (event_of k) (event_of l) ≡ true → EitherLed x y
      clashing i j r q c d k l f g same clashes =
          subst (λ a. EitherLed a y) (name_is x (Some i) r) (subst (λ b. EitherLed (name_of r.turn) b) (name_is y (Some j) q)
          (access_led r.turn q.turn c d k l (accesses x i r c k f) (accesses y j q d l g)
          (λ e. differ (sym q.who ∙ e ∙ r.who)) same clashes))

      same_cell : (i j : Instr) (r : IsTurnOf m w s x.0 x.1 (Some i)) (q : IsTurnOf m w s y.0 y.1 (Some j)) (c d : ℕ) (k l : Mode)
          → Accesses i c k → Accesses j d l
          → c ≡ d → (b : Bool) → clash (event_of k) (event_of l) ≡ b → Either (Some i) (Some j)
      same_cell i j r q c d k l f g same true e = inr (clashing i j r q c d k l f g same e)
      same_cell i j r q c d k l f g same false e = inl (apart_by i j c d k l f g (λ h. e))

      both : (i j : Instr) → IsTurnOf m w s x.0 x.1 (Some i) → IsTurnOf m w s y.0 y.1 (Some j) → Sort i → Sort j → Either (Some i) (Some j)
      both i j r q (DoesNone a b c) other = inl (apart_none (Some i) (Some j) a b c)
      both i j r q (Does c k f) (DoesNone a b d) = inl (apart_turned (Some j) (Some i) (apart_none (Some j) (Some i) a b d))
      both i j r q (Does c k f) (Does d l g) = cells (cases_eq c d)
        where
          cells : (c ≡ d) ⊎ (c ≡ d → ⊥) → Either (Some i) (Some j)
          cells (inl same) = same_cell i j r q c d k l f g same (clash (event_of k) (event_of l)) refl
          cells (inr other) = inl (apart_by i j c d k l f g (λ is. absurd (other is)))

      by : (o p : Option Instr) → instruction_of m s w x ≡ o → instruction_of m s w y ≡ p → Either o p
      by None p here there = inl (apart_none None p (λ c. refl) (λ c. refl) (λ c. refl))
      by (Some i) None here there = inl (apart_turned None (Some i) (apart_none None (Some i) (λ c. refl) (λ c. refl) (λ c. refl)))
      by (Some i) (Some j) here there =
          both i j (turn_of_step m s w z x i legal here) (turn_of_step m s w z y j legal there) (sort_of i) (sort_of j)

  -- the two are apart, or these edges order them
  abbrev InOrder : StepName → StepName → Edges → Type 0
  InOrder x y edges = (y.0 ≡ x.0 → ⊥)
      → AreApart (instruction_of m s w x) (instruction_of m s w y) ⊎ (IsBefore edges x y ⊎ IsBefore edges y x)

  order_grows : (x y : StepName) → Grows (InOrder x y)
  order_grows x y xs ys has h differ = by (h differ)
    where
      by : AreApart (instruction_of m s w x) (instruction_of m s w y) ⊎ (IsBefore xs x y ⊎ IsBefore xs y x)
          → AreApart (instruction_of m s w x) (instruction_of m s w y) ⊎ (IsBefore ys x y ⊎ IsBefore ys y x)
      by (inl a) = inl a
      by (inr (inl b)) = inr (inl (before_more xs ys has x y b))
      by (inr (inr b)) = inr (inr (before_more xs ys has y x b))

  pair : (x y : StepName) → Gathered m w s (InOrder x y)
  pair x y = by (cases_eq y.0 x.0)
    where
      of : AreLed x y → Gathered m w s (InOrder x y)
      of (inl a) = record { edges = []; causes = no_cause m w s; holds = λ differ. inl a }
      of (inr (inl l)) = record { edges = l.edges; causes = l.causes; holds = λ differ. inr (inl l.before) }
      of (inr (inr l)) = record { edges = l.edges; causes = l.causes; holds = λ differ. inr (inr l.before) }

      by : (y.0 ≡ x.0) ⊎ (y.0 ≡ x.0 → ⊥) → Gathered m w s (InOrder x y)
      by (inl same) = record { edges = []; causes = no_cause m w s; holds = λ differ. absurd (differ same) }
      by (inr differ) = of (led x y differ)

  -- edges with causes that order each pair of steps that conflict
  all_pairs : Gathered m w s
      (λ edges. (a : ℕ) → a < length z.activities → (k : ℕ) → k < length s → (b : ℕ) → b < length z.activities → (l : ℕ) → l < length s
      → InOrder (a, k) (b, l) edges)
  all_pairs = gather_pairs m w s InOrder order_grows (length z.activities) (length s) pair

  -- they order all that conflict
  ordered : AreOrdered m w s all_pairs.edges
  ordered x y differ = by (instruction_of m s w x) (instruction_of m s w y) refl refl
    where
      Either : Option Instr → Option Instr → Type 0
      Either o p = AreApart o p ⊎ (IsBefore all_pairs.edges x y ⊎ IsBefore all_pairs.edges y x)

      by : (o p : Option Instr) → instruction_of m s w x ≡ o → instruction_of m s w y ≡ p
          → AreApart (instruction_of m s w x) (instruction_of m s w y) ⊎ (IsBefore all_pairs.edges x y ⊎ IsBefore all_pairs.edges y x)
      by None p here there =
          inl (subst (λ o. AreApart o (instruction_of m s w y)) (sym here)
          (apart_none None (instruction_of m s w y) (λ c. refl) (λ c. refl) (λ c. refl)))
      by (Some i) None here there =
          inl (subst (λ p. AreApart (instruction_of m s w x) p) (sym there)
          (apart_turned None (instruction_of m s w x) (apart_none None (instruction_of m s w x) (λ c. refl) (λ c. refl) (λ c. refl))))
      by (Some i) (Some j) here there =
          let p = name_inside m s w z x i legal here in
          let q = name_inside m s w z y j legal there in
          all_pairs.holds x.0 p.0 x.1 p.1 y.0 q.0 y.1 q.1 differ

  -- so where all have ended, the class has no race
  pub free_run : all_ended z ≡ true → HasNoRace m w s
  free_run over = ordered_run m args limits ok taken s z all_pairs.edges (record { legal = legal; ended = over })
      (causes_sound m args limits ok taken s z legal over all_pairs.edges all_pairs.causes) ordered
