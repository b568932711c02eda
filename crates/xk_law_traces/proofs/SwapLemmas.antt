-- Two neighbours whose steps commute, in either order: both schedules are legal or neither, they lead to worlds that are the same but for
-- names, and have the same entries but for these two, and for names.
use Rattle.std.proofs.Common.{◌≡◌, ℕ, suc, zero, ◌+◌, ◌<◌, ◌≤◌, Bool, true, false, cond, List, [], ◌∷◌, ◌++◌, map, length, Option, Some, None, option_map, refl, sym, ap, ◌∙◌, subst, arith}
use Rattle.std.specs.Prelude.{filter, slice_get, option_and_then}
use Rattle.std.proofs.lemmas.Option.{slice_get_within}
use Rattle.xk_types.specs.declared.instr.Instr.{Instr}
use Rattle.xk_types.specs.declared.world.Event.{Event}
use Rattle.xk_types.specs.Acceptance.{IsAccepted}
use Rattle.xk_types.specs.Code.{ModuleValue, IsWithinLimits}
use Rattle.xk_types.specs.World.{Activity, World, instruction_at}
use Rattle.xk_types.specs.Step.{Outcome, Blocked, Wrong, Stepped, step}
use Rattle.xk_types.specs.Schedule.{Through, run, IsReached, events, events_on}
use Rattle.xk_law_schedules.proofs.ReachabilityLemmas.{same_through, first_step, reached_step}
pub use Rattle.xk_law_schedules.proofs.ReachabilityLemmas.{reached_run}
use Rattle.xk_law_commute.specs.Conflicts.{next_instruction}
use Rattle.xk_law_commute.proofs.ChangeSquareLemmas.{found_of}
use Rattle.xk_law_names.specs.Names.{Exchange, all_named, AreSameBy, exchange_of}
use Rattle.xk_law_names.proofs.ClockNameRunLaw.{Keeps, step_keeps}
use Rattle.xk_law_names.proofs.NameLaw.{same_activities, named_beyond, clocks_unnamed, clock_back, go_as_one, squares_but_names}
use Rattle.xk_law_names.proofs.NamelessLemmas.{nameless_activity, state_of, state_same}
use Rattle.xk_law_names.proofs.ActivityNameRunLaw.{reached_full}
use Rattle.xk_law_names.proofs.ActivityNameOrderLaw.{run_first}
use Rattle.xk_law_traces.specs.Moments.{is_start}
use Rattle.xk_law_traces.specs.Classes.{DoCommute}
use Rattle.xk_law_traces.specs.Edges.{carried, carried_on}
use Rattle.xk_law_traces.proofs.StageLemmas.{stage_at, moves_on}
use Rattle.xk_law_traces.proofs.ExchangeLemmas.{stays_named, number_first, number_second, far_back}
use Rattle.xk_law_traces.proofs.InStepLemmas.{AreInStep, steps_in_step, square_in_step}
use Rattle.xk_law_traces.proofs.StepEventLemmas.{grown, wider, run_wider, others_stay}

-- ---- entries: who takes each step of a run, and the deed: its event, how who takes it stands, and the activity that it starts

-- how an activity stands: what it is, if it's there, but for names; and its stage on each clock
abbrev pub State : Type 0
State = Option Activity × (ℕ → ℕ)

abbrev pub stand_of : World → ℕ → State
stand_of w a = (state_of w a, λ k. stage_at w k a)

abbrev pub Deed : Type 0
Deed = Event × State × Option ℕ

abbrev pub Entry : Type 0
Entry = ℕ × Deed

-- the number of an activity that is started here
abbrev child_of : World → Event → Option ℕ
child_of w e = cond (is_start e) (Some (length w.activities)) None

abbrev pub deed_of : World → ℕ → Event → Deed
deed_of w a e = (e, stand_of w a, child_of w e)

abbrev pub entry_of : World → ℕ → Event → Entry
entry_of w a e = (a, deed_of w a e)

-- what an activity that stands so carries out
abbrev pub instruction_by : ModuleValue → State → Option Instr
instruction_by m st = option_and_then (λ act. instruction_at m act.frame) st.0

abbrev pub entries_on : ℕ → World → Outcome → (World → List Entry) → List Entry
entries_on a w Blocked go = []
entries_on a w (Wrong c) go = []
entries_on a w (Stepped next e) go = entry_of w a e ∷ go next

abbrev pub entries : ModuleValue → List ℕ → World → List Entry
entries m [] w = []
entries m (a ∷ list) w = entries_on a w (step m w a) (entries m list)

-- by other numbers
abbrev pub stand_named : List Exchange → State → State
stand_named xs st = (st.0, λ k. st.1 (clocks_unnamed xs k))

abbrev pub deed_named : List Exchange → Deed → Deed
deed_named xs d = (d.0, stand_named xs d.1, option_map (all_named xs) d.2)

abbrev pub entry_named : List Exchange → Entry → Entry
entry_named xs x = (all_named xs x.0, deed_named xs x.1)

-- a list of what entries have, of which some pass
filter_of_map : {X Y : Type 0} (g : X → Y) (p : Y → Bool) (xs : List X) → filter p (map g xs) ≡ map g (filter (λ x. p (g x)) xs)
filter_of_map g p [] = refl
filter_of_map {X} {Y} g p (x ∷ xs) = ap (λ ys. cond (p (g x)) (g x ∷ ys) ys) (filter_of_map g p xs) ∙ by (p (g x))
  where
    by : (q : Bool) → cond q (g x ∷ map g (filter (λ y. p (g y)) xs)) (map g (filter (λ y. p (g y)) xs))
        ≡ map g (cond q (x ∷ filter (λ y. p (g y)) xs) (filter (λ y. p (g y)) xs))
    by true = refl
    by false = refl

abbrev pub event_in : Entry → ℕ × Event
event_in x = (x.0, x.1.0)

abbrev pub instruction_in : ModuleValue → Entry → ℕ × Option Instr
instruction_in m x = (x.0, instruction_by m x.1.1)

-- the next instruction is that of how one stands
pub next_by_state : (m : ModuleValue) (w : World) (a : ℕ) → next_instruction m w a ≡ instruction_by m (stand_of w a)
next_by_state m w a = by (slice_get w.activities a)
  where
    by : (o : Option Activity) → option_and_then (λ (x : Activity). instruction_at m x.frame) o
        ≡ instruction_by m (option_map nameless_activity o, λ k. stage_at w k a)
    by None = refl
    by (Some x) = refl

-- and that of the activity
pub next_of : (m : ModuleValue) (w : World) (a : ℕ) (act : Activity) → slice_get w.activities a ≡ Some act
    → next_instruction m w a ≡ instruction_at m act.frame
next_of m w a act h = ap (option_and_then (λ (x : Activity). instruction_at m x.frame)) h

pub events_are : (m : ModuleValue) (list : List ℕ) (w : World) → events m list w ≡ map event_in (entries m list w)
events_are m [] w = refl
events_are m (a ∷ list) w = by (step m w a) (events_are m list)
  where
    by : (o : Outcome) → ((u : World) → events m list u ≡ map event_in (entries m list u))
        → events_on a o (events m list) ≡ map event_in (entries_on a w o (entries m list))
    by Blocked h = refl
    by (Wrong c) h = refl
    by (Stepped u e) h = ap (λ es. (a, e) ∷ es) (h u)

carried_are : (m : ModuleValue) (list : List ℕ) (w : World) → carried m list w ≡ map (instruction_in m) (entries m list w)
carried_are m [] w = refl
carried_are m (a ∷ list) w = by (step m w a) (carried_are m list)
  where
    by : (o : Outcome) → ((u : World) → carried m list u ≡ map (instruction_in m) (entries m list u))
        → carried_on (a, next_instruction m w a) o (carried m list) ≡ map (instruction_in m) (entries_on a w o (entries m list))
    by Blocked h = refl
    by (Wrong c) h = refl
    by (Stepped u e) h = ap (λ es. (a, next_instruction m w a) ∷ es) (h u)
        ∙ ap (λ i. (a, i) ∷ map (instruction_in m) (entries m list u)) (next_by_state m w a)

pub events_filtered : (p : ℕ × Event → Bool) (m : ModuleValue) (list : List ℕ) (w : World)
    → filter p (events m list w) ≡ map event_in (filter (λ (x : Entry). p (event_in x)) (entries m list w))
events_filtered p m list w = ap (filter p) (events_are m list w) ∙ filter_of_map event_in p (entries m list w)

pub carried_filtered : (p : ℕ × Option Instr → Bool) (m : ModuleValue) (list : List ℕ) (w : World)
    → filter p (carried m list w) ≡ map (instruction_in m) (filter (λ (x : Entry). p (instruction_in m x)) (entries m list w))
carried_filtered p m list w = ap (filter p) (carried_are m list w) ∙ filter_of_map (instruction_in m) p (entries m list w)

-- an element of a list to which a function was applied
pub get_map : {X Y : Type 0} (g : X → Y) (xs : List X) (k : ℕ) → slice_get (map g xs) k ≡ option_map g (slice_get xs k)
get_map g [] k = refl
get_map g (x ∷ xs) zero = refl
get_map g (x ∷ xs) (suc k) = get_map g xs k

-- in two worlds one stands so that is the same in both, and has come as far on each clock
same_stand : (w v : World) (a : ℕ) (f : ℕ → ℕ) → state_of w a ≡ state_of v a → ((k : ℕ) → stage_at w (f k) a ≡ stage_at v k a)
    → (state_of w a, (λ k. stage_at w (f k) a)) ≡ stand_of v a
same_stand w v a f h g = λ i. (h i, λ k. g k i)

-- another's step leaves that as it is
pub state_stays : (m : ModuleValue) → IsWithinLimits m → IsAccepted m → (w u : World) (a b : ℕ) (e : Event) (y : Activity) → IsReached m w
    → step m w a ≡ Stepped u e
    → (b ≡ a → ⊥) → slice_get w.activities b ≡ Some y → stand_of u b ≡ stand_of w b
state_stays m limits ok w u a b e y reached h differs at = same_stand u w b (λ k. k)
    (ap (option_map nameless_activity) (others_stay m w u a b e y h differs at ∙ sym at))
    (λ k. (moves_on m limits ok w u a e reached h).others k b (slice_get_within w.activities b y at) differs)

-- no run takes a clock away
run_keeps : (m : ModuleValue) (list : List ℕ) (w v : World) → run m list w ≡ Through v → length w.clocks ≤ length v.clocks
run_keeps m [] w v h = let e = ap (λ (z : World). length z.clocks) (same_through w v h) in omega arith
run_keeps m (d ∷ list) w v h =
    let x = first_step w v (step m w d) (run m list) h in
    let one : length w.clocks ≤ length x.0.clocks = subst (Keeps (length w.clocks)) x.2 (step_keeps m w d) in
    let rest = run_keeps m list x.0 v x.3 in
    omega arith

-- ---- the first step of a run

pub entries_first : (m : ModuleValue) (list : List ℕ) (w u : World) (a : ℕ) (e : Event) → step m w a ≡ Stepped u e
    → entries m (a ∷ list) w ≡ entry_of w a e ∷ entries m list u
entries_first m list w u a e h = ap (λ o. entries_on a w o (entries m list)) h

-- ---- worlds that are the same but for names

-- an entry by its numbers there
entry_same : (xs : List Exchange) (w v : World) (a : ℕ) (e : Event) → AreSameBy xs w v → AreInStep xs w v → a < length w.activities
    → entry_of v (all_named xs a) e ≡ entry_named xs (entry_of w a e)
entry_same xs w v a e same step_same inside =
    λ i. (all_named xs a, (e, (state_same xs w v a same i, λ k. stage k i), child (is_start e) i))
  where
    many : length v.activities ≡ all_named xs (length w.activities)
    many = sym (same_activities xs w v same) ∙ sym (named_beyond xs w (length w.activities) same.there (omega arith))

    stage : (k : ℕ) → stage_at v k (all_named xs a) ≡ stage_at w (clocks_unnamed xs k) a
    stage k = sym (step_same (clocks_unnamed xs k) a inside ∙ ap (λ j. stage_at v j (all_named xs a)) (clock_back xs k))

    child : (q : Bool) → cond q (Some (length v.activities)) None ≡ option_map (all_named xs) (cond q (Some (length w.activities)) None)
    child true = ap (λ n. Some n) many
    child false = refl

pub record RunsAlike (m : ModuleValue) (xs : List Exchange) (list : List ℕ) (w v z : World) : Type 0 where
  pub last : World
  pub legal : run m (map (all_named xs) list) v ≡ Through last
  pub alike : AreSameBy xs z last
  pub same : entries m (map (all_named xs) list) v ≡ map (entry_named xs) (entries m list w)

module _ (m : ModuleValue) (limits : IsWithinLimits m) (ok : IsAccepted m) where
  runs_alike : (xs : List Exchange) (list : List ℕ) (w v z : World) → IsReached m w → IsReached m v → AreSameBy xs w v → AreInStep xs w v
      → run m list w ≡ Through z
      → RunsAlike m xs list w v z
  runs_alike xs [] w v z here there same step_same h =
      record { last = v; legal = refl; alike = subst (λ x. AreSameBy xs x v) (same_through w z h) same; same = refl }
  runs_alike xs (a ∷ list) w v z here there same step_same h =
      let f = first_step w z (step m w a) (run m list) h in
      let next = (go_as_one m xs w v (reached_full m w limits ok here) same).steps f.0 a f.1 f.2 in
      let x = found_of m w a f.0 f.1 f.2 in
      let rest : RunsAlike m xs list f.0 next.0 z =
      runs_alike xs list f.0 next.0 z (reached_step m w f.0 a f.1 here f.2)
      (reached_step m v next.0 (all_named xs a) f.1 there next.1) next.2
      (steps_in_step m limits ok xs w v f.0 next.0 a f.1 here there same step_same f.2 next.1 next.2) f.3 in
      record {
        last = rest.last;
        legal = run_first m (map (all_named xs) list) v next.0 (all_named xs a) f.1 next.1 ∙ rest.legal;
        alike = rest.alike;
        same = entries_first m (map (all_named xs) list) v next.0 (all_named xs a) f.1 next.1
            ∙ ap (λ y. y ∷ entries m (map (all_named xs) list) next.0)
            (entry_same xs w v a f.1 same step_same (slice_get_within w.activities a x.0 x.1))
            ∙ ap (λ es. entry_named xs (entry_of w a f.1) ∷ es) rest.same
            ∙ sym (ap (map (entry_named xs)) (entries_first m list w f.0 a f.1 f.2));
      }

  -- ---- the entries of both in the other order

  module _ (w : World) (a b : ℕ) (c : DoCommute m w a b) (reached : IsReached m w) where
    abbrev xs : List Exchange
    xs = exchange_of m w a b

    abbrev u : World
    u = c.first_world

    abbrev v : World
    v = c.second_world

    child_by : (e : Event) (n k : ℕ) → (is_start e ≡ true → n ≡ all_named xs k)
        → cond (is_start e) (Some n) None ≡ option_map (all_named xs) (cond (is_start e) (Some k) None)
    child_by e n k h = by (is_start e) h
      where
        by : (q : Bool) → (q ≡ true → n ≡ all_named xs k) → cond q (Some n) None ≡ option_map (all_named xs) (cond q (Some k) None)
        by true g = ap (λ j. Some j) (g refl)
        by false g = refl

    second_entry : entry_of w b c.second_event ≡ entry_named xs (entry_of u b c.second_event)
    second_entry =
        let y = found_of m w b v c.second_event c.second_steps in
        let inside : b < length w.activities = slice_get_within w.activities b y.0 y.1 in
        let who : b ≡ all_named xs b = sym (stays_named m limits ok w a b c reached b inside) in
        let stand : stand_of u b ≡ stand_of w b = state_stays m limits ok w u a b c.first_event y.0 reached c.first_steps c.differ y.1 in
        let far_off : stand_named xs (stand_of w b) ≡ stand_of w b =
        same_stand w w b (clocks_unnamed xs) refl (λ k. far_back m limits ok w a b c reached w (omega arith) k b) in
        let same : stand_of w b ≡ stand_named xs (stand_of u b) = sym (ap (stand_named xs) stand ∙ far_off) in
        λ i. (
          who i,
          (
            c.second_event,
            same i,
            child_by c.second_event (length w.activities) (length u.activities)
                (number_second m limits ok w a b c reached) i,
          ),
        )

    first_entry : entry_of v a c.first_event ≡ entry_named xs (entry_of w a c.first_event)
    first_entry =
        let x = found_of m w a u c.first_event c.first_steps in
        let inside : a < length w.activities = slice_get_within w.activities a x.0 x.1 in
        let who : a ≡ all_named xs a = sym (stays_named m limits ok w a b c reached a inside) in
        let stand : stand_of v a ≡ stand_of w a =
        state_stays m limits ok w v b a c.second_event x.0 reached c.second_steps (λ q. c.differ (sym q)) x.1 in
        let far_off : stand_named xs (stand_of w a) ≡ stand_of w a =
        same_stand w w a (clocks_unnamed xs) refl (λ k. far_back m limits ok w a b c reached w (omega arith) k a) in
        let same : stand_of v a ≡ stand_named xs (stand_of w a) = stand ∙ sym far_off in
        λ i. (
          who i,
          (
            c.first_event,
            same i,
            child_by c.first_event (length v.activities) (length w.activities)
                (number_first m limits ok w a b c reached) i,
          ),
        )

  -- ---- a swap

  -- what comes of the second order, and where the entries of the two differ
  pub record IsExchange (w z here : World) (before after : List ℕ) (a b : ℕ) (c : DoCommute m here a b) : Type 0 where
    pub last : World
    pub legal : run m (before ++ b ∷ a ∷ map (all_named (exchange_of m here a b)) after) w ≡ Through last
    pub alike : AreSameBy (exchange_of m here a b) z last
    pub front : List Entry
    pub back : List Entry
    pub this : entries m (before ++ a ∷ b ∷ after) w
        ≡ front ++ entry_of here a c.first_event ∷ entry_of c.first_world b c.second_event ∷ back
    pub other : entries m (before ++ b ∷ a ∷ map (all_named (exchange_of m here a b)) after) w
        ≡ map (entry_named (exchange_of m here a b))
        (front ++ entry_of c.first_world b c.second_event ∷ entry_of here a c.first_event ∷ back)

  -- at the front
  at_once : (w z : World) (after : List ℕ) (a b : ℕ) (c : DoCommute m w a b) → IsReached m w → run m (a ∷ b ∷ after) w ≡ Through z
      → IsExchange w z w [] after a b c
  at_once w z after a b c reached h =
      let f : ℕ → ℕ = all_named (exchange_of m w a b) in
      let s = squares_but_names m w limits ok reached a b c.differ c.apart c.first_world c.second_world c.first_event c.second_event
      c.first_steps c.second_steps in
      let x : World = s.0 in
      let y : World = s.1 in
      let there : IsReached m y =
      reached_step m c.first_world y b c.second_event (reached_step m w c.first_world a c.first_event reached c.first_steps) s.3 in
      let here : IsReached m x =
      reached_step m c.second_world x a c.first_event (reached_step m w c.second_world b c.second_event reached c.second_steps) s.2 in
      let r : RunsAlike m (exchange_of m w a b) after y x z =
      runs_alike (exchange_of m w a b) after y x z there here s.4 (square_in_step m limits ok w x y a b c reached s.2 s.3 s.4)
      (sym (run_first m (b ∷ after) w c.first_world a c.first_event c.first_steps
      ∙ run_first m after c.first_world y b c.second_event s.3) ∙ h) in
      record {
        last = r.last;
        legal = run_first m (a ∷ map f after) w c.second_world b c.second_event c.second_steps
            ∙ run_first m (map f after) c.second_world x a c.first_event s.2 ∙ r.legal;
        alike = r.alike;
        front = [];
        back = entries m after y;
        this = entries_first m (b ∷ after) w c.first_world a c.first_event c.first_steps
            ∙ ap (λ es. entry_of w a c.first_event ∷ es) (entries_first m after c.first_world y b c.second_event s.3);
        other = entries_first m (a ∷ map f after) w c.second_world b c.second_event c.second_steps
            ∙ ap (λ es. entry_of w b c.second_event ∷ es) (entries_first m (map f after) c.second_world x a c.first_event s.2)
            ∙ (λ i. second_entry w a b c reached i ∷ first_entry w a b c reached i ∷ r.same i);
      }

  -- an entry of before stays
  entry_stays : (w u here : World) (d : ℕ) (e : Event) (a b : ℕ) (c : DoCommute m here a b) → IsReached m here → step m w d ≡ Stepped u e
      → length u.activities ≤ length here.activities → length w.clocks ≤ length here.clocks
      → entry_of w d e ≡ entry_named (exchange_of m here a b) (entry_of w d e)
  entry_stays w u here d e a b c reached takes wide few =
      let x = found_of m w d u e takes in
      let inside : d < length w.activities = slice_get_within w.activities d x.0 x.1 in
      let one = grown m w u d e takes in
      let taker : d ≡ all_named (exchange_of m here a b) d =
      sym (stays_named m limits ok here a b c reached d (let more = wider m w u d e takes in omega arith)) in
      let stand : stand_of w d ≡ stand_named (exchange_of m here a b) (stand_of w d) =
      sym (same_stand w w d (clocks_unnamed (exchange_of m here a b)) refl (λ k. far_back m limits ok here a b c reached w few k d)) in
      λ i. (taker i, (e, stand i, by (is_start e) one i))
    where
      by : (q : Bool) → length u.activities ≡ length w.activities + cond q 1 0
          → cond q (Some (length w.activities)) None
          ≡ option_map (all_named (exchange_of m here a b)) (cond q (Some (length w.activities)) None)
      by true g = ap (λ n. Some n) (sym (stays_named m limits ok here a b c reached (length w.activities) (omega arith)))
      by false g = refl

  pub exchange : (before : List ℕ) (w here z : World) (after : List ℕ) (a b : ℕ) (c : DoCommute m here a b) → IsReached m w
      → run m before w ≡ Through here
      → run m (before ++ a ∷ b ∷ after) w ≡ Through z → IsExchange w z here before after a b c
  exchange [] w here z after a b c reached leads h =
      let same : w ≡ here = same_through w here leads in
      subst (λ x. IsExchange x z here [] after a b c) (sym same)
      (at_once here z after a b c (subst (IsReached m) same reached) (subst (λ x. run m (a ∷ b ∷ after) x ≡ Through z) same h))
  exchange (d ∷ before) w here z after a b c reached leads h =
      let f = first_step w here (step m w d) (run m before) leads in
      let g : ℕ → ℕ = all_named (exchange_of m here a b) in
      let go = sym (run_first m (before ++ a ∷ b ∷ after) w f.0 d f.1 f.2) ∙ h in
      let next : IsReached m f.0 = reached_step m w f.0 d f.1 reached f.2 in
      let few : length w.clocks ≤ length here.clocks = run_keeps m (d ∷ before) w here leads in
      let r : IsExchange f.0 z here before after a b c = exchange before f.0 here z after a b c next f.3 go in
      record {
        last = r.last;
        legal = run_first m (before ++ b ∷ a ∷ map g after) w f.0 d f.1 f.2 ∙ r.legal;
        alike = r.alike;
        front = entry_of w d f.1 ∷ r.front;
        back = r.back;
        this = entries_first m (before ++ a ∷ b ∷ after) w f.0 d f.1 f.2 ∙ ap (λ es. entry_of w d f.1 ∷ es) r.this;
        other = entries_first m (before ++ b ∷ a ∷ map g after) w f.0 d f.1 f.2
            ∙ (λ i. entry_stays w f.0 here d f.1 a b c (reached_run m before f.0 here next f.3) f.2
            (run_wider m before f.0 here f.3) few i ∷ r.other i);
      }
