-- Where the prints of a run are told to be in one order, no two numbers could be printed at once in any schedule of its class: so each of
-- them prints the same list.
use Rattle.std.proofs.Common.{◌≡◌, ◌∙◌, ℕ, ℤ, zero, suc, ◌<◌, ◌≤◌, ◌⊎◌, inl, inr, Bool, true, false, true≢false, List, [], ◌∷◌, length}
use Rattle.std.proofs.Common.{Some, None, Option, refl, sym, ap, subst, arith}
use Rattle.std.specs.Prelude.{slice_get, pred, if◌then◌else◌}
use Rattle.std.specs.Option.{option_map_or}
use Rattle.std.proofs.lemmas.Bool.{cases_eq, cases_lt}
use Rattle.std.proofs.lemmas.Option.{none-some, same_Some}
use Rattle.xk_types.specs.declared.instr.Instr.{Instr}
use Rattle.xk_types.specs.declared.instr.Instr.TheVariants as instr
use Rattle.xk_types.specs.declared.world.Event.{Event}
use Rattle.xk_types.specs.declared.world.Event.TheVariants as event
use Rattle.xk_types.specs.Acceptance.{IsAccepted}
use Rattle.xk_types.specs.Code.{ModuleValue, IsWithinLimits}
use Rattle.xk_types.specs.World.{World, AreArguments, opening}
use Rattle.xk_types.specs.Schedule.{Through, run, IsReached, all_ended}
use Rattle.xk_law_schedules.proofs.ReachabilityLemmas.{opening_reached}
use Rattle.xk_law_commute.specs.Conflicts.{next_instruction}
use Rattle.xk_law_traces.specs.Moments.{is_print}
use Rattle.xk_law_traces.specs.RaceFreedom.{HasNeverTwo}
use Rattle.xk_law_traces.specs.Edges.{StepName, turns_of, IsBefore, instruction_of, prints, AreOneByOne}
use Rattle.xk_law_traces.proofs.StepEventLemmas.{print_says}
use Rattle.xk_law_traces.proofs.InstructionEventLemmas.{shows}
use Rattle.xk_law_traces.proofs.EdgeLaw.{never_two_ordered}
use Rattle.xk_law_traces.proofs.PassEdgeLaw.{causes_sound}
use Rattle.xk_races.specs.declared.deeds.Deed.{Deed}
use Rattle.xk_races.specs.declared.deeds.Part.TheVariants as part
use Rattle.xk_races.specs.declared.pairs.Gap.{Gap}
use Rattle.xk_races.specs.Knowledge.{Sight, sights_of, comes_before, is_sight}
use Rattle.xk_races.specs.Races as races
use Rattle.xk_races.specs.Races.{gap_behind, gap_in}
use Rattle.xk_races.proofs.OrderLemmas.{IsUpTo, up_to_through}
use Rattle.xk_races.proofs.SightLemmas.{order_is_exact}
use Rattle.xk_show_events.specs.declared.steps.RunStep.{RunStep}
use Rattle.xk_show_events.specs.Steps.{run_step}
use Rattle.xk_races.specs.Deeds.{deed, tell_deeds}
use Rattle.xk_law_races.proofs.TurnLemmas.{Turn, name_of, deeds, deed_at, turn_reached, turn_of_step, name_inside}
use Rattle.xk_law_races.proofs.EdgeListLemmas.{Edges, no_cause, before_more, IsLed, Grows, Gathered, gather_pairs}
use Rattle.xk_law_races.proofs.DeedPartLemmas.{part_is}
use Rattle.xk_law_races.proofs.LinkLemmas.{up_led}
use Rattle.xk_law_races.proofs.SeenLemmas.{IsSight, sight_of}
use Rattle.xk_law_races.proofs.StepDeedLemmas.{event_at, IsDeedOf, first_deed}

-- ---- prints that are told to be in one order

-- where no print is told to have a gap behind it, each comes before each later one, by any relation that leads on and is told of neighbours
module _ (T : Sight → Sight → Type 0) (on : (x y z : Sight) → T x y → T y z → T x z) (M : Sight → Type 0)
    (tells : (x y : Sight) → M x → M y → comes_before x y ≡ true → T x y) where
  abbrev IsPrint : Sight → Type 0
  IsPrint x = races.is_print x.deed.part ≡ true

  abbrev AllAre : List Sight → Type 0
  AllAre ys = (i : ℕ) (y : Sight) → slice_get ys i ≡ Some y → M y

  -- behind print x, what is next
  abbrev after_print : Sight → Sight → List Sight → Bool → Option Gap
  after_print x y ys b = if b then gap_behind (Some y) ys else Some (record { first = x.deed.step; second = y.deed.step })

  abbrev after_sight : Sight → Sight → List Sight → Bool → Option Gap
  after_sight x y ys b = if b then after_print x y ys (comes_before x y) else gap_behind (Some x) ys

  in_order : (x y : Sight) (ys : List Sight) (b : Bool) → after_print x y ys b ≡ None → (b ≡ true) × (gap_behind (Some y) ys ≡ None)
  in_order x y ys true h = (refl, h)
  in_order x y ys false h = absurd (none-some (record { first = x.deed.step; second = y.deed.step }) (sym h))

  chain : (x : Sight) → M x → (ys : List Sight) → AllAre ys → gap_behind (Some x) ys ≡ None → (i : ℕ) (y : Sight) → slice_get ys i ≡ Some y
      → IsPrint y → T x y
  chain x mx [] all none i y at is = absurd (none-some y at)
  chain x mx (z ∷ ys) all none i y at is =
      by (races.is_print z.deed.part) refl none i at (λ mz h j g. chain z mz ys (λ k v found. all (suc k) v found) h j y g is)
      (λ h j g. chain x mx ys (λ k v found. all (suc k) v found) h j y g is)
    where
      by : (b : Bool) → races.is_print z.deed.part ≡ b → after_sight x z ys b ≡ None → (i : ℕ) → slice_get (z ∷ ys) i ≡ Some y
          → (M z → gap_behind (Some z) ys ≡ None → (j : ℕ) → slice_get ys j ≡ Some y → T z y)
          → (gap_behind (Some x) ys ≡ None → (j : ℕ) → slice_get ys j ≡ Some y → T x y) → T x y
      by true e h zero g from_z from_x =
          let o = in_order x z ys (comes_before x z) h in
          subst (T x) (same_Some z y g) (tells x z mx (all 0 z refl) o.0)
      by true e h (suc j) g from_z from_x =
          let o = in_order x z ys (comes_before x z) h in
          on x z y (tells x z mx (all 0 z refl) o.0) (from_z (all 0 z refl) o.1 j g)
      by false e h zero g from_z from_x =
          absurd (true≢false (sym is ∙ ap (λ (v : Sight). races.is_print v.deed.part) (sym (same_Some z y g)) ∙ e))
      by false e h (suc j) g from_z from_x = from_x h j g

  -- what is left behind a sight
  behind : (o : Option Sight) (z : Sight) (ys : List Sight) → gap_behind o (z ∷ ys) ≡ None
      → (IsPrint z → gap_behind (Some z) ys ≡ None) × ((p : Option Sight) × (gap_behind p ys ≡ None))
  behind None z ys none = by (races.is_print z.deed.part) refl none
    where
      by : (b : Bool) → races.is_print z.deed.part ≡ b → gap_behind (if b then Some z else None) ys ≡ None
          → (IsPrint z → gap_behind (Some z) ys ≡ None) × ((p : Option Sight) × (gap_behind p ys ≡ None))
      by true e h = (λ is. h, (Some z, h))
      by false e h = (λ is. absurd (true≢false (sym is ∙ e)), (None, h))
  behind (Some x) z ys none = by (races.is_print z.deed.part) refl none
    where
      by : (b : Bool) → races.is_print z.deed.part ≡ b → after_sight x z ys b ≡ None
          → (IsPrint z → gap_behind (Some z) ys ≡ None) × ((p : Option Sight) × (gap_behind p ys ≡ None))
      by true e h = let o = in_order x z ys (comes_before x z) h in (λ is. o.1, (Some z, o.1))
      by false e h = (λ is. absurd (true≢false (sym is ∙ e)), (Some x, h))

  -- so it is of each two prints
  pairs : (o : Option Sight) (ys : List Sight) → ((i : ℕ) (y : Sight) → slice_get ys i ≡ Some y → M y) → gap_behind o ys ≡ None
      → (p q : ℕ) (x y : Sight) → p < q → slice_get ys p ≡ Some x → slice_get ys q ≡ Some y → races.is_print x.deed.part ≡ true
      → races.is_print y.deed.part ≡ true → T x y
  pairs o [] all none p q x y less here there first second = absurd (none-some x here)
  pairs o (z ∷ ys) all none p zero x y less here there first second = absurd (omega (arith, less))
  pairs o (z ∷ ys) all none zero (suc q) x y less here there first second =
      let is : z ≡ x = same_Some z x here in
      let print : IsPrint z = ap (λ (v : Sight). races.is_print v.deed.part) is ∙ first in
      subst (λ v. T v y) is
      (chain z (all 0 z refl) ys (λ k v found. all (suc k) v found) ((behind o z ys none).0 print) q y there second)
  pairs o (z ∷ ys) all none (suc p) (suc q) x y less here there first second =
      let r = (behind o z ys none).1 in
      pairs r.0 ys (λ k v found. all (suc k) v found) r.1 p q x y (omega (arith, less)) here there first second

-- two prints of a run without a gap
prints_up : (ds : List Deed) → gap_in (sights_of ds) ≡ None → (k j : ℕ) (d e : Deed) (x : IsSight ds k d) (y : IsSight ds j e)
    → x.place < y.place
    → d.part ≡ part.Print → e.part ≡ part.Print → IsUpTo ds k j
prints_up ds none k j d e x y less first second =
    subst (λ n. IsUpTo ds n j) (ap pred x.number) (subst (λ n. IsUpTo ds (pred x.sight.number) n) (ap pred y.number)
    (pairs AreUpTo (λ a b c. up_to_through ds (pred a.number) (pred b.number) (pred c.number)) Seen
    (λ a b p q before. (order_is_exact ds).sound p.0 q.0 a b p.1 q.1 before) None (sights_of ds)
    (λ i v at. (i, at)) none x.place y.place x.sight y.sight less
    x.there y.there
    (ap (λ (c : Deed). races.is_print c.part) x.deed ∙ ap races.is_print first)
    (ap (λ (c : Deed). races.is_print c.part) y.deed ∙ ap races.is_print second)))
  where
    AreUpTo : Sight → Sight → Type 0
    AreUpTo a b = IsUpTo ds (pred a.number) (pred b.number)

    Seen : Sight → Type 0
    Seen a = (p : ℕ) × (slice_get (sights_of ds) p ≡ Some a)

-- ---- steps that print

-- the instruction prints a slot
print_form : (i : Instr) → prints i ≡ true → (x : ℕ) × (i ≡ instr.Print x)
print_form (instr.Print x) h = (x, refl)
print_form _ h = absurd (true≢false (sym h))

-- a number is printed
abbrev IsPrinted : Event → Type 0
IsPrinted e = (n : ℤ) × (e ≡ event.Printed n)

printed_event : (x : ℕ) (e : Event) → shows e (instr.Print x) ≡ true → IsPrinted e
printed_event x (event.Printed n) h = (n, refl)
printed_event x _ h = absurd (true≢false (sym h))

not_advance : (x : ℕ) → instr.Print x ≡ instr.Advance → ⊥
not_advance x h = cc

-- such a step is told of as a print
print_deed : (m : ModuleValue) (limits : IsWithinLimits m) (ok : IsAccepted m) (w : World) (s : List ℕ) (t : Turn m w s)
    → IsReached m t.here
    → (i : Instr) → next_instruction m t.here t.act ≡ Some i → prints i ≡ true → IsDeedOf m w s t part.Print
print_deed m limits ok w s t reached i next is =
    first_deed m w s t part.Print
    (ap (λ f. slice_get (tell_deeds m t.act t.here t.there f) 0) seen.1
    ∙ ap (λ f. Some (deed (run_step t.act t.here t.there f) part.Print)) (sym seen.1))
  where
    form : (x : ℕ) × (i ≡ instr.Print x)
    form = print_form i is

    seen : IsPrinted t.e
    seen = printed_event form.0 t.e
        (event_at m limits ok t.here t.there t.act t.e reached t.takes (instr.Print form.0) (next ∙ ap Some form.1) (not_advance form.0))

-- ---- the law

module _ (m : ModuleValue) (args : List ℤ) (limits : IsWithinLimits m) (ok : IsAccepted m) (taken : AreArguments m args)
    (s : List ℕ) (z : World)
    (legal : run m s (opening m args) ≡ Through z) (none' : gap_in (sights_of (deeds m s (opening m args))) ≡ None) where
  abbrev w : World
  w = opening m args

  abbrev ds : List Deed
  ds = deeds m s w

  reached : IsReached m w
  reached = opening_reached m args taken

  -- the step prints
  abbrev DoesPrint : StepName → Type 0
  DoesPrint x = option_map_or prints (instruction_of m s w x) false ≡ true

  -- with a turn that prints
  record IsPrintTurn (x : StepName) : Type 0 where
    turn : Turn m w s
    name : name_of turn ≡ x
    deed : IsDeedOf m w s turn part.Print

  print_turn : (x : StepName) → DoesPrint x → IsPrintTurn x
  print_turn x is = by (instruction_of m s w x) refl is
    where
      by : (o : Option Instr) → instruction_of m s w x ≡ o → option_map_or prints o false ≡ true → IsPrintTurn x
      by None here h = absurd (true≢false (sym h))
      by (Some i) here h =
          let r = turn_of_step m s w z x i legal here in
          record {
            turn = r.turn;
            name = ap (λ b. (b, turns_of b r.turn.before)) r.who ∙ ap (λ k. (x.0, k)) r.many;
            deed = print_deed m limits ok w s r.turn (turn_reached m w s r.turn reached) i
                (ap (next_instruction m r.turn.here) r.who ∙ sym r.next) h;
          }

  sight_at : (x : StepName) (p : IsPrintTurn x) → IsSight ds p.deed.number p.deed.deed
  sight_at x p =
      sight_of ds p.deed.number p.deed.deed (deed_at m w s p.turn p.deed.number p.deed.deed p.deed.told) (ap is_sight p.deed.part)

  act_at : (x : StepName) (p : IsPrintTurn x) → (sight_at x p).sight.deed.step.act ≡ x.0
  act_at x p =
      ap (λ (d : Deed). d.step.act) (sight_at x p).deed
      ∙ ap (λ (r : RunStep). r.act) (part_is m w s p.turn p.deed.number p.deed.deed p.deed.told).0
      ∙ ap (λ (n : StepName). n.0) p.name

  print_led : (x y : StepName) (p : IsPrintTurn x) (q : IsPrintTurn y) → (y.0 ≡ x.0 → ⊥) → (sight_at x p).place < (sight_at y q).place
      → IsLed m w s x y
  print_led x y p q differ less =
      subst (λ a. IsLed m w s a y) p.name (subst (λ b. IsLed m w s (name_of p.turn) b) q.name
      (up_led m args limits ok taken s z legal p.turn q.turn p.deed.number q.deed.number p.deed.deed q.deed.deed p.deed.told q.deed.told
      (λ e. differ (sym (ap (λ (n : StepName). n.0) q.name) ∙ e ∙ ap (λ (n : StepName). n.0) p.name))
      (prints_up ds none' p.deed.number q.deed.number p.deed.deed q.deed.deed (sight_at x p) (sight_at y q) less p.deed.part q.deed.part)))

  print_either : (x y : StepName) → (y.0 ≡ x.0 → ⊥) → DoesPrint x → DoesPrint y → IsLed m w s x y ⊎ IsLed m w s y x
  print_either x y differ first second = by (cases_lt a.place b.place)
    where
      p : IsPrintTurn x
      p = print_turn x first

      q : IsPrintTurn y
      q = print_turn y second

      a : IsSight ds p.deed.number p.deed.deed
      a = sight_at x p

      b : IsSight ds q.deed.number q.deed.deed
      b = sight_at y q

      one : a.place ≡ b.place → y.0 ≡ x.0
      one is =
          let sights : a.sight ≡ b.sight = same_Some a.sight b.sight (sym a.there ∙ ap (slice_get (sights_of ds)) is ∙ b.there) in
          sym (act_at y q) ∙ sym (ap (λ (v : Sight). v.deed.step.act) sights) ∙ act_at x p

      later : b.place ≤ a.place → (b.place < a.place) ⊎ (a.place ≤ b.place) → IsLed m w s x y ⊎ IsLed m w s y x
      later le (inl less) = inr (print_led y x q p (λ e. differ (sym e)) less)
      later le (inr ge) = absurd (differ (one (omega (arith, le, ge))))

      by : (a.place < b.place) ⊎ (b.place ≤ a.place) → IsLed m w s x y ⊎ IsLed m w s y x
      by (inl less) = inl (print_led x y p q differ less)
      by (inr le) = later le (cases_lt b.place a.place)

  -- where both print, these edges order them
  abbrev InOrder : StepName → StepName → Edges → Type 0
  InOrder x y edges = (y.0 ≡ x.0 → ⊥) → DoesPrint x → DoesPrint y → IsBefore edges x y ⊎ IsBefore edges y x

  order_grows : (x y : StepName) → Grows (InOrder x y)
  order_grows x y xs ys has h differ first second = by (h differ first second)
    where
      by : IsBefore xs x y ⊎ IsBefore xs y x → IsBefore ys x y ⊎ IsBefore ys y x
      by (inl b) = inl (before_more xs ys has x y b)
      by (inr b) = inr (before_more xs ys has y x b)

  pair : (x y : StepName) → Gathered m w s (InOrder x y)
  pair x y = by (cases_eq y.0 x.0) (option_map_or prints (instruction_of m s w x) false) refl
      (option_map_or prints (instruction_of m s w y) false) refl
    where
      of : IsLed m w s x y ⊎ IsLed m w s y x → Gathered m w s (InOrder x y)
      of (inl l) = record { edges = l.edges; causes = l.causes; holds = λ differ first second. inl l.before }
      of (inr l) = record { edges = l.edges; causes = l.causes; holds = λ differ first second. inr l.before }

      by : (y.0 ≡ x.0) ⊎ (y.0 ≡ x.0 → ⊥) → (b : Bool) → option_map_or prints (instruction_of m s w x) false ≡ b → (c : Bool)
          → option_map_or prints (instruction_of m s w y) false ≡ c → Gathered m w s (InOrder x y)
      by (inl same) b e c f = record { edges = []; causes = no_cause m w s; holds = λ differ first second. absurd (differ same) }
      by (inr differ) false e c f =
          record { edges = []; causes = no_cause m w s; holds = λ d first second. absurd (true≢false (sym first ∙ e)) }
      by (inr differ) true e false f =
          record { edges = []; causes = no_cause m w s; holds = λ d first second. absurd (true≢false (sym second ∙ f)) }
      by (inr differ) true e true f = of (print_either x y differ e f)

  all_prints : Gathered m w s
      (λ edges. (a : ℕ) → a < length z.activities → (k : ℕ) → k < length s → (b : ℕ) → b < length z.activities → (l : ℕ) → l < length s
      → InOrder (a, k) (b, l) edges)
  all_prints = gather_pairs m w s InOrder order_grows (length z.activities) (length s) pair

  inside : (x : StepName) → DoesPrint x → (x.0 < length z.activities) × (x.1 < length s)
  inside x is = by (instruction_of m s w x) refl is
    where
      by : (o : Option Instr) → instruction_of m s w x ≡ o → option_map_or prints o false ≡ true
          → (x.0 < length z.activities) × (x.1 < length s)
      by None here h = absurd (true≢false (sym h))
      by (Some i) here h = name_inside m s w z x i legal here

  one_by_one : AreOneByOne prints m w s all_prints.edges
  one_by_one x y differ first second =
      let p = inside x first in
      let q = inside y second in
      all_prints.holds x.0 p.0 x.1 p.1 y.0 q.0 y.1 q.1 differ first second

  -- no two numbers could be printed at once
  pub never_two_prints : all_ended z ≡ true → HasNeverTwo is_print m w s
  never_two_prints over =
      never_two_ordered m limits ok w z reached s legal over is_print prints (print_says m) all_prints.edges
      (causes_sound m args limits ok taken s z legal over all_prints.edges all_prints.causes) one_by_one
