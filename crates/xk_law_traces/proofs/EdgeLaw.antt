-- Where sound edges order all steps of a run that conflict, its class has no race: for of two steps that could both be taken, neither was
-- taken.
use Rattle.std.proofs.Common.{◌≡◌, ℕ, zero, suc, ◌+◌, ◌<◌, ◌==◌, ◌⊎◌, inl, inr, Bool, true, false, true≢false, cond, List, [], ◌∷◌, ◌++◌, map, length, Option, Some, None, option_map, refl, sym, ap, ◌∙◌, subst, arith, eqb-true, append_assoc, length-append}
use Rattle.std.specs.Prelude.{filter, slice_get, option_and_then}
use Rattle.std.specs.Option.{option_map_or}
use Rattle.std.proofs.lemmas.Bool.{eqb-false}
use Rattle.std.proofs.lemmas.List.Elements.{filter-append}
use Rattle.std.proofs.lemmas.Option.{none-some, same_Some}
use Rattle.xk_types.specs.declared.instr.Instr.{Instr}
use Rattle.xk_types.specs.declared.world.Event.{Event}
use Rattle.xk_types.specs.Acceptance.{IsAccepted}
use Rattle.xk_types.specs.Code.{ModuleValue, IsWithinLimits}
use Rattle.xk_types.specs.World.{Activity, World, is_ended}
use Rattle.xk_types.specs.Step.{Stepped, step}
use Rattle.xk_types.specs.Schedule.{Through, run, IsReached, is_step, is_enabled, all_ended}
pub use Rattle.xk_types.proofs.RunLemmas.{run_then as run_behind}
use Rattle.xk_law_schedules.proofs.ReachabilityLemmas.{same_through, first_step, reached_step}
use Rattle.xk_law_commute.specs.Conflicts.{next_instruction, AreConflictFree}
use Rattle.xk_law_commute.proofs.ChangeSquareLemmas.{found_of}
use Rattle.xk_law_commute.proofs.StartSquareLemmas.{alive_of}
use Rattle.xk_law_commute.proofs.QuietStepLaw.{enabled_step}
use Rattle.xk_law_commute.proofs.ExplorationLaw.{ended_at}
use Rattle.xk_law_names.specs.Names.{Exchange, all_named}
use Rattle.xk_law_names.proofs.NameLaw.{same_ends, all_unnamed, named_unnamed}
use Rattle.xk_law_names.proofs.ActivityNameOrderLaw.{run_first}
use Rattle.xk_law_traces.specs.Classes.{AreJoined, AreOneClass, names_along, name_in, IsMet}
use Rattle.xk_law_traces.specs.RaceFreedom.{HasNoRace, HasNeverTwo}
use Rattle.xk_law_traces.specs.Edges.{StepName, turns_of, IsTaken, carried_by, instruction_of, AreApart, IsLink, IsWay, IsBefore, AreSound, AreOrdered, AreOneByOne}
use Rattle.xk_law_traces.specs.OneRun.{GoesAsWell}
use Rattle.xk_law_traces.proofs.StepEventLemmas.{others_stay}
use Rattle.xk_law_traces.proofs.SwapLemmas.{State, stand_of, stand_named, state_stays, reached_run, Deed, Entry, deed_named, deed_of, entries, entries_first, instruction_by, instruction_in, carried_filtered, get_map, next_by_state}
use Rattle.xk_law_traces.proofs.ClassLemmas.{by_taker, deed_in, deeds, same_deeds, class_as_well}

-- ---- turns

pub turns_on : (a : ℕ) (xs ys : List ℕ) → turns_of a (xs ++ ys) ≡ turns_of a xs + turns_of a ys
turns_on a xs ys = ap length (filter-append (λ b. b == a) xs ys) ∙ length-append (filter (λ b. b == a) xs) (filter (λ b. b == a) ys)

pub turns_same : (a d : ℕ) (xs : List ℕ) → (d == a) ≡ true → turns_of a (d ∷ xs) ≡ suc (turns_of a xs)
turns_same a d xs e = ap (λ q. length (cond q (d ∷ filter (λ b. b == a) xs) (filter (λ b. b == a) xs))) e

pub turns_other : (a d : ℕ) (xs : List ℕ) → (d == a) ≡ false → turns_of a (d ∷ xs) ≡ turns_of a xs
turns_other a d xs e = ap (λ q. length (cond q (d ∷ filter (λ b. b == a) xs) (filter (λ b. b == a) xs))) e

taken_on : (xs ys : List ℕ) (x : StepName) → IsTaken xs x → IsTaken (xs ++ ys) x
taken_on xs ys x h = let n = turns_on x.0 xs ys in omega arith

-- when activity a took its k-th step
pub record WasTaken (m : ModuleValue) (w : World) (before : List ℕ) (a k : ℕ) : Type 0 where
  pub front : List ℕ
  pub back : List ℕ
  pub here : World
  pub there : World
  pub e : Event
  pub whole : before ≡ front ++ a ∷ back
  pub leads : run m front w ≡ Through here
  pub takes : step m here a ≡ Stepped there e
  pub turn : turns_of a front ≡ k

pub was_taken : (m : ModuleValue) (before : List ℕ) (w v : World) (a k : ℕ) → run m before w ≡ Through v → k < turns_of a before
    → WasTaken m w before a k
was_taken m [] w v a k legal is = absurd (omega arith)
was_taken m (d ∷ before) w v a k legal is = by (d == a) refl k is (was_taken m before x.0 v a)
  where
    x : (u : World) × (e : Event) × (step m w d ≡ Stepped u e) × (run m before u ≡ Through v)
    x = first_step w v (step m w d) (run m before) legal

    behind : (j k : ℕ) (r : WasTaken m x.0 before a j) → turns_of a (d ∷ r.front) ≡ k → WasTaken m w (d ∷ before) a k
    behind j k r turn = record {
      front = d ∷ r.front;
      back = r.back;
      here = r.here;
      there = r.there;
      e = r.e;
      whole = ap (λ l. d ∷ l) r.whole;
      leads = run_first m r.front w x.0 d x.1 x.2 ∙ r.leads;
      takes = r.takes;
      turn = turn;
    }

    by : (q : Bool) → (d == a) ≡ q → (k : ℕ) → k < length (cond q (d ∷ filter (λ b. b == a) before) (filter (λ b. b == a) before))
        → ((k : ℕ) → run m before x.0 ≡ Through v → k < turns_of a before → WasTaken m x.0 before a k) → WasTaken m w (d ∷ before) a k
    by true e zero is shorter = record {
      front = [];
      back = before;
      here = w;
      there = x.0;
      e = x.1;
      whole = ap (λ c. c ∷ before) (eqb-true d a e);
      leads = refl;
      takes = ap (step m w) (sym (eqb-true d a e)) ∙ x.2;
      turn = refl;
    }
    by true e (suc k) is shorter =
        let r : WasTaken m x.0 before a k = shorter k x.3 (omega arith) in
        behind k (suc k) r (turns_same a d r.front e ∙ ap suc r.turn)
    by false e k is shorter =
        let r : WasTaken m x.0 before a k = shorter k x.3 is in
        behind k k r (turns_other a d r.front e ∙ r.turn)

-- ---- what is carried out

abbrev second_of : ℕ × Option Instr → Option Instr
second_of x = x.1

-- ---- what activity a does

-- by the first step of all
pub by_first : (m : ModuleValue) (list : List ℕ) (w u : World) (d : ℕ) (e : Event) (a : ℕ) → step m w d ≡ Stepped u e
    → deeds m (d ∷ list) w a ≡ cond (d == a) (deed_of w d e ∷ deeds m list u a) (deeds m list u a)
by_first m list w u d e a h = ap (λ es. map deed_in (filter (by_taker a) es)) (entries_first m list w u d e h) ∙ by (d == a)
  where
    by : (q : Bool)
        → map deed_in (cond q ((d, deed_of w d e) ∷ filter (by_taker a) (entries m list u)) (filter (by_taker a) (entries m list u)))
        ≡ cond q (deed_of w d e ∷ deeds m list u a) (deeds m list u a)
    by true = refl
    by false = refl

-- as much as it has turns
pub turns_done : (m : ModuleValue) (list : List ℕ) (w v : World) (a : ℕ) → run m list w ≡ Through v
    → length (deeds m list w a) ≡ turns_of a list
turns_done m [] w v a h = refl
turns_done m (d ∷ list) w v a h =
    let x = first_step w v (step m w d) (run m list) h in
    ap length (by_first m list w x.0 d x.1 a x.2) ∙ by x.0 (deed_of w d x.1) (d == a) (turns_done m list x.0 v a x.3)
  where
    by : (u : World) (n : Deed) (q : Bool) → length (deeds m list u a) ≡ turns_of a list
        → length (cond q (n ∷ deeds m list u a) (deeds m list u a))
        ≡ length (cond q (d ∷ filter (λ b. b == a) list) (filter (λ b. b == a) list))
    by u n true g = ap suc g
    by u n false g = g

-- first what it does in the front, and then the rest
pub done_on : (m : ModuleValue) (before after : List ℕ) (w v : World) (a : ℕ) → run m before w ≡ Through v
    → deeds m (before ++ after) w a ≡ deeds m before w a ++ deeds m after v a
done_on m [] after w v a h = ap (λ z. deeds m after z a) (same_through w v h)
done_on m (d ∷ before) after w v a h =
    let x = first_step w v (step m w d) (run m before) h in
    by_first m (before ++ after) w x.0 d x.1 a x.2 ∙ by x.0 (deed_of w d x.1) (d == a) (done_on m before after x.0 v a x.3)
    ∙ sym (ap (λ l. l ++ deeds m after v a) (by_first m before w x.0 d x.1 a x.2))
  where
    by : (u : World) (n : Deed) (q : Bool) → deeds m (before ++ after) u a ≡ deeds m before u a ++ deeds m after v a
        → cond q (n ∷ deeds m (before ++ after) u a) (deeds m (before ++ after) u a)
        ≡ cond q (n ∷ deeds m before u a) (deeds m before u a) ++ deeds m after v a
    by u n true g = ap (λ l. n ∷ l) g
    by u n false g = g

-- an element of two lists together
pub get_front : {X : Type 0} (xs ys : List X) (k : ℕ) → k < length xs → slice_get (xs ++ ys) k ≡ slice_get xs k
get_front [] ys k h = absurd (omega arith)
get_front (x ∷ xs) ys zero h = refl
get_front (x ∷ xs) ys (suc k) h = get_front xs ys k (omega arith)

pub get_back : {X : Type 0} (xs ys : List X) (n k : ℕ) → length xs ≡ n → slice_get (xs ++ ys) (n + k) ≡ slice_get ys k
get_back [] ys n k h = ap (slice_get ys) (omega arith)
get_back (x ∷ xs) ys zero k h = absurd (omega arith)
get_back (x ∷ xs) ys (suc n) k h = ap (slice_get (x ∷ (xs ++ ys))) (let e : suc n + k ≡ suc (n + k) = omega arith in e)
    ∙ get_back xs ys n k (omega arith)

-- behind these steps it does what it does from there on
pub at_turn : (m : ModuleValue) (before after : List ℕ) (w v : World) (a : ℕ) → run m before w ≡ Through v
    → slice_get (deeds m (before ++ after) w a) (turns_of a before) ≡ slice_get (deeds m after v a) 0
at_turn m before after w v a h =
    ap (λ l. slice_get l (turns_of a before)) (done_on m before after w v a h)
    ∙ ap (slice_get (deeds m before w a ++ deeds m after v a)) (let e : turns_of a before ≡ turns_of a before + 0 = omega arith in e)
    ∙ get_back (deeds m before w a) (deeds m after v a) (turns_of a before) 0 (turns_done m before w v a h)

-- how one stands who does it
abbrev pub state_in : Option Deed → Option State
state_in o = option_map (λ d. d.1) o

-- one that hasn't ended takes its next step as it stands, if all end
stands_next : (m : ModuleValue) → IsWithinLimits m → IsAccepted m → (after : List ℕ) (v z : World) (a : ℕ) (act : Activity) → IsReached m v
    → slice_get v.activities a ≡ Some act → is_ended act.status ≡ false
    → run m after v ≡ Through z → all_ended z ≡ true → state_in (slice_get (deeds m after v a) 0) ≡ Some (stand_of v a)
stands_next m limits ok [] v z a act reached at alive h ended =
    absurd (true≢false (sym (ended_at v.activities a act (ap all_ended (same_through v z h) ∙ ended) at) ∙ alive))
stands_next m limits ok (d ∷ after) v z a act reached at alive h ended =
    let x = first_step v z (step m v d) (run m after) h in
    ap (λ l. state_in (slice_get l 0)) (by_first m after v x.0 d x.1 a x.2)
    ∙ by (d == a) refl x.0 x.1 x.2
    (λ there. stands_next m limits ok after x.0 z a act (reached_step m v x.0 d x.1 reached x.2) there alive x.3 ended)
  where
    by : (q : Bool) → (d == a) ≡ q → (u : World) (e : Event) → step m v d ≡ Stepped u e
        → (slice_get u.activities a ≡ Some act → state_in (slice_get (deeds m after u a) 0) ≡ Some (stand_of u a))
        → state_in (slice_get (cond q (deed_of v d e ∷ deeds m after u a) (deeds m after u a)) 0) ≡ Some (stand_of v a)
    by true g u e takes shorter = ap (λ c. Some (stand_of v c)) (eqb-true d a g)
    by false g u e takes shorter =
        let differs : a ≡ d → ⊥ = λ q. eqb-false d a g (sym q) in
        shorter (others_stay m v u d a e act takes differs at)
        ∙ ap (λ st. Some st) (state_stays m limits ok v u d a e act reached takes differs at)

-- what an activity carries out is what it does as it stands
carried_is : (m : ModuleValue) (list : List ℕ) (w : World) (a : ℕ)
    → carried_by m list w a ≡ map (λ (d : Deed). instruction_by m d.1) (deeds m list w a)
carried_is m list w a = ap (map second_of) (carried_filtered (λ x. x.0 == a) m list w) ∙ by (filter (by_taker a) (entries m list w))
  where
    by : (xs : List Entry) → map second_of (map (instruction_in m) xs) ≡ map (λ (d : Deed). instruction_by m d.1) (map deed_in xs)
    by [] = refl
    by (x ∷ xs) = ap (λ l. instruction_by m x.1.1 ∷ l) (by xs)

-- ---- edges

module _ (m : ModuleValue) (w : World) (s : List ℕ) (edges : List (StepName × StepName)) (sound : AreSound m w s edges) where
  -- a link to a step that could be taken
  link_taken : (x y : StepName) → IsLink edges x y → (before after : List ℕ) (v : World) (member : AreOneClass m w s (before ++ after))
      → run m before w ≡ Through v
      → turns_of (name_in member y.0) before ≡ y.1 → is_enabled m v (name_in member y.0) ≡ true → IsTaken before (name_in member x.0, x.1)
  link_taken x y (inl edge) before after v member leads turn enabled = sound x y edge before after v member leads turn enabled
  link_taken x y (inr own) before after v member leads turn enabled =
      let lower : x.1 < y.1 = own.1 in
      let less : x.1 < turns_of (name_in member y.0) before = omega arith in
      subst (λ a. x.1 < turns_of (name_in member a) before) (sym own.0) less

  -- a link to a step that was taken
  link_back : (x y : StepName) → IsLink edges x y → (before after : List ℕ) (v : World) (member : AreOneClass m w s (before ++ after))
      → run m before w ≡ Through v
      → IsTaken before (name_in member y.0, y.1) → IsTaken before (name_in member x.0, x.1)
  link_back x y link before after v member leads taken =
      let r : WasTaken m w before (name_in member y.0) y.1 = was_taken m before w v (name_in member y.0) y.1 leads taken in
      let whole : before ++ after ≡ r.front ++ (name_in member y.0 ∷ (r.back ++ after)) =
      ap (λ l. l ++ after) r.whole ∙ append_assoc r.front (name_in member y.0 ∷ r.back) after in
      let same : AreOneClass m w s (r.front ++ (name_in member y.0 ∷ (r.back ++ after))) =
      record { between = member.between; joined = subst (AreJoined m w s member.between) whole member.joined } in
      let first : IsTaken r.front (name_in member x.0, x.1) =
      link_taken x y link r.front (name_in member y.0 ∷ (r.back ++ after)) r.here same r.leads r.turn (ap is_step r.takes) in
      subst (λ l. IsTaken l (name_in member x.0, x.1)) (sym r.whole)
      (taken_on r.front (name_in member y.0 ∷ r.back) (name_in member x.0, x.1) first)

  -- a way to a step that could be taken
  way_taken : (zs : List StepName) (x y : StepName) → IsWay edges x zs y → (before after : List ℕ) (v : World)
      → (member : AreOneClass m w s (before ++ after)) → run m before w ≡ Through v
      → turns_of (name_in member y.0) before ≡ y.1 → is_enabled m v (name_in member y.0) ≡ true → IsTaken before (name_in member x.0, x.1)
  way_taken [] x y way before after v member leads turn enabled = link_taken x y way before after v member leads turn enabled
  way_taken (z ∷ zs) x y way before after v member leads turn enabled =
      link_back x z way.0 before after v member leads (way_taken zs z y way.1 before after v member leads turn enabled)

module _ (m : ModuleValue) (limits : IsWithinLimits m) (ok : IsAccepted m) (w z : World) (reached : IsReached m w)
    (s : List ℕ) (legal : run m s w ≡ Through z) (ended : all_ended z ≡ true) where
  module _ (before after : List ℕ) (v : World) (member : AreOneClass m w s (before ++ after)) (leads : run m before w ≡ Through v) where
    -- the rest of that schedule
    pub rest_of : (g : GoesAsWell m w s (before ++ after) member z) → run m after v ≡ Through g.last
    rest_of g = sym (run_behind m before after w v leads) ∙ g.legal

    -- how one stands that can take a step, in a schedule of the class as in this one, by the numbers there
    pub stands : (a : ℕ) → is_enabled m v (name_in member a) ≡ true
        → option_map (stand_named (names_along member.between)) (state_in (slice_get (deeds m s w a) (turns_of (name_in member a) before)))
        ≡ Some (stand_of v (name_in member a))
    stands a enabled =
        let b : ℕ = name_in member a in
        let g : GoesAsWell m w s (before ++ after) member z = class_as_well m limits ok w z reached s (before ++ after) member legal in
        let over : all_ended g.last ≡ true = sym (same_ends m (names_along member.between) z g.last g.alike) ∙ ended in
        let u = enabled_step (step m v b) enabled in
        let x = found_of m v b u.0 u.1 u.2 in
        sym (named (slice_get (deeds m s w a) (turns_of b before)))
        ∙ sym (ap state_in (get_map (deed_named (names_along member.between)) (deeds m s w a) (turns_of b before)))
        ∙ ap (λ l. state_in (slice_get l (turns_of b before))) (sym (same_deeds m limits ok w z reached s (before ++ after) member legal a))
        ∙ ap state_in (at_turn m before after w v b leads)
        ∙ stands_next m limits ok after v g.last b x.0 (reached_run m before w v reached leads) x.1 (alive_of m v b x.0 u.0 u.1 x.1 u.2)
        (rest_of g) over
      where
        named : (o : Option Deed) → state_in (option_map (deed_named (names_along member.between)) o)
            ≡ option_map (stand_named (names_along member.between)) (state_in o)
        named None = refl
        named (Some d) = refl

    -- and what it carries out
    carries : (a : ℕ) → is_enabled m v (name_in member a) ≡ true
        → instruction_of m s w (a, turns_of (name_in member a) before) ≡ next_instruction m v (name_in member a)
    carries a enabled =
        let k : ℕ = turns_of (name_in member a) before in
        ap (λ l. option_and_then (λ i. i) (slice_get l k)) (carried_is m s w a)
        ∙ ap (option_and_then (λ i. i)) (get_map (λ (d : Deed). instruction_by m d.1) (deeds m s w a) k)
        ∙ by (slice_get (deeds m s w a) k) (stands a enabled)
        ∙ sym (next_by_state m v (name_in member a))
      where
        by : (o : Option Deed) → option_map (stand_named (names_along member.between)) (state_in o) ≡ Some (stand_of v (name_in member a))
            → option_and_then (λ i. i) (option_map (λ (d : Deed). instruction_by m d.1) o)
            ≡ instruction_by m (stand_of v (name_in member a))
        by None h = absurd (none-some _ h)
        by (Some d) h = ap (instruction_by m) (same_Some (stand_named (names_along member.between) d.1) (stand_of v (name_in member a)) h)

  -- where two could both be taken, neither is before the other
  neither_before : (edges : List (StepName × StepName)) → AreSound m w s edges → (v : World) (met : IsMet m w s v) (a b : ℕ)
      → is_enabled m v (name_in met.member a) ≡ true → is_enabled m v (name_in met.member b) ≡ true
      → IsBefore edges (a, turns_of (name_in met.member a) met.before) (b, turns_of (name_in met.member b) met.before)
      ⊎ IsBefore edges (b, turns_of (name_in met.member b) met.before) (a, turns_of (name_in met.member a) met.before) → ⊥
  neither_before edges sound v met a b first second (inl h) =
      let i : ℕ = turns_of (name_in met.member a) met.before in
      let j : ℕ = turns_of (name_in met.member b) met.before in
      let taken : i < i =
      way_taken m w s edges sound h.between (a, i) (b, j) h.way met.before met.after v met.member met.leads refl second in
      omega arith
  neither_before edges sound v met a b first second (inr h) =
      let i : ℕ = turns_of (name_in met.member a) met.before in
      let j : ℕ = turns_of (name_in met.member b) met.before in
      let taken : j < j =
      way_taken m w s edges sound h.between (b, j) (a, i) h.way met.before met.after v met.member met.leads refl first in
      omega arith

  free_named : (edges : List (StepName × StepName)) → AreSound m w s edges → AreOrdered m w s edges
      → (v : World) (met : IsMet m w s v) (a b : ℕ) → (b ≡ a → ⊥)
      → is_enabled m v (name_in met.member a) ≡ true → is_enabled m v (name_in met.member b) ≡ true
      → AreConflictFree m v (name_in met.member a) (name_in met.member b)
  free_named edges sound ordered v met a b differs first second = by (ordered (a, i) (b, j) differs)
    where
      i : ℕ
      i = turns_of (name_in met.member a) met.before

      j : ℕ
      j = turns_of (name_in met.member b) met.before

      by : AreApart (instruction_of m s w (a, i)) (instruction_of m s w (b, j))
          ⊎ (IsBefore edges (a, i) (b, j) ⊎ IsBefore edges (b, j) (a, i))
          → AreConflictFree m v (name_in met.member a) (name_in met.member b)
      by (inl apart) =
          let here : AreApart (next_instruction m v (name_in met.member a)) (next_instruction m v (name_in met.member b)) =
          subst (λ o. AreApart o (next_instruction m v (name_in met.member b)))
          (carries met.before met.after v met.member met.leads a first)
          (subst (λ o. AreApart (instruction_of m s w (a, i)) o) (carries met.before met.after v met.member met.leads b second) apart) in
          record {
            second_reads = here.second_reads;
            first_reads = here.first_reads;
            first_puts = here.first_puts;
            second_puts = here.second_puts;
          }
      by (inr h) = absurd (neither_before edges sound v met a b first second h)

  pub ordered_free : (edges : List (StepName × StepName)) → AreSound m w s edges → AreOrdered m w s edges → HasNoRace m w s
  ordered_free edges sound ordered v met a b differs first second =
      let xs : List Exchange = names_along met.member.between in
      let p : name_in met.member (all_unnamed xs a) ≡ a = named_unnamed xs a in
      let q : name_in met.member (all_unnamed xs b) ≡ b = named_unnamed xs b in
      subst (λ d. AreConflictFree m v d b) p (subst (λ d. AreConflictFree m v (name_in met.member (all_unnamed xs a)) d) q
      (free_named edges sound ordered v met (all_unnamed xs a) (all_unnamed xs b) (λ e. differs (sym q ∙ ap (all_named xs) e ∙ p))
      (ap (is_enabled m v) p ∙ first) (ap (is_enabled m v) q ∙ second)))

  -- nor could two both be taken that are one by one
  pub never_two_ordered : (test : Event → Bool) (kind : Instr → Bool)
      → ((v u : World) (a : ℕ) (e : Event) → step m v a ≡ Stepped u e → test e ≡ true
      → option_map_or kind (next_instruction m v a) false ≡ true)
      → (edges : List (StepName × StepName)) → AreSound m w s edges → AreOneByOne kind m w s edges → HasNeverTwo test m w s
  never_two_ordered test kind says edges sound ordered v met a b differs x y e f hx hy first second =
      let xs : List Exchange = names_along met.member.between in
      let p : name_in met.member (all_unnamed xs a) ≡ a = named_unnamed xs a in
      let q : name_in met.member (all_unnamed xs b) ≡ b = named_unnamed xs b in
      let c : is_enabled m v (name_in met.member (all_unnamed xs a)) ≡ true = ap (is_enabled m v) p ∙ ap is_step hx in
      let d : is_enabled m v (name_in met.member (all_unnamed xs b)) ≡ true = ap (is_enabled m v) q ∙ ap is_step hy in
      neither_before edges sound v met (all_unnamed xs a) (all_unnamed xs b) c d
      (ordered (all_unnamed xs a, turns_of (name_in met.member (all_unnamed xs a)) met.before)
      (all_unnamed xs b, turns_of (name_in met.member (all_unnamed xs b)) met.before)
      (λ g. differs (sym q ∙ ap (all_named xs) g ∙ p))
      (ap (λ o. option_map_or kind o false)
      (carries met.before met.after v met.member met.leads (all_unnamed xs a) c ∙ ap (next_instruction m v) p) ∙ says v x a e hx first)
      (ap (λ o. option_map_or kind o false) (carries met.before met.after v met.member met.leads (all_unnamed xs b) d
      ∙ ap (next_instruction m v) q) ∙ says v y b f hy second))
