-- Each deed of a run is told of a step of its schedule, and a later deed of the same step or of a later one.
use Rattle.std.proofs.Common.{◌≡◌, ℕ, zero, suc, ◌+◌, ◌<◌, ◌≤◌, ◌==◌, ◌⊎◌, inl, inr, Bool, true, false, cond, Option, None, map, eqb-true}
use Rattle.std.proofs.Common.{List, [], ◌∷◌, ◌++◌, length, Some, refl, sym, ap, ◌∙◌, subst, append_assoc, length-append, eq-eqb, arith}
use Rattle.std.specs.Prelude.{slice_get, filter, option_and_then}
use Rattle.std.proofs.lemmas.Option.{none-some, same_Some, slice_get_within}
use Rattle.xk_types.specs.declared.instr.Instr.{Instr}
use Rattle.xk_types.specs.declared.world.Event.{Event}
use Rattle.xk_types.specs.Code.{ModuleValue}
use Rattle.xk_types.specs.World.{World}
use Rattle.xk_types.specs.Step.{Stepped, step}
use Rattle.xk_types.specs.Schedule.{Through, run, IsReached}
use Rattle.xk_types.proofs.ListLemmas.{get-append_left}
use Rattle.xk_law_schedules.proofs.ReachabilityLemmas.{same_through, first_step}
use Rattle.xk_law_commute.specs.Conflicts.{next_instruction}
use Rattle.xk_law_commute.proofs.ChangeSquareLemmas.{same_step, found_of}
use Rattle.xk_law_names.proofs.ActivityNameOrderLaw.{run_first}
use Rattle.xk_law_traces.specs.Edges.{StepName, turns_of, IsTaken, carried_on, carried, carried_by, instruction_of}
use Rattle.xk_law_traces.proofs.SwapLemmas.{reached_run}
use Rattle.xk_law_traces.proofs.EdgeLaw.{turns_on, turns_same, turns_other, run_behind}
use Rattle.xk_law_traces.proofs.StepEventLemmas.{run_wider}
use Rattle.xk_show_events.specs.Steps.{told_on, told}
use Rattle.xk_races.specs.declared.deeds.Deed.{Deed}
use Rattle.xk_races.specs.Deeds.{tell_deeds}

-- the deeds of a schedule from this world on
abbrev pub deeds : ModuleValue → List ℕ → World → List Deed
deeds m list w = told (tell_deeds m) m list w

-- ---- lists

-- an element of two lists, one behind the other, is one of the first, or of the second
pub get_split : {X : Type 0} (xs ys : List X) (k : ℕ) (x : X) → slice_get (xs ++ ys) k ≡ Some x
    → ((k < length xs) × (slice_get xs k ≡ Some x)) ⊎ ((j : ℕ) × (k ≡ length xs + j) × (slice_get ys j ≡ Some x))
get_split [] ys k x h = inr (k, omega arith, h)
get_split (y ∷ xs) ys zero x h = inl (omega arith, h)
get_split (y ∷ xs) ys (suc k) x h = by (get_split xs ys k x h)
  where
    by : ((k < length xs) × (slice_get xs k ≡ Some x)) ⊎ ((j : ℕ) × (k ≡ length xs + j) × (slice_get ys j ≡ Some x))
        → ((suc k < length (y ∷ xs)) × (slice_get (y ∷ xs) (suc k) ≡ Some x))
        ⊎ ((j : ℕ) × (suc k ≡ length (y ∷ xs) + j) × (slice_get ys j ≡ Some x))
    by (inl p) = let less = p.0 in inl (omega (arith, less), p.1)
    by (inr p) = let e = p.1 in inr (p.0, omega (arith, e), p.2)

-- what stands behind the first list
pub get_right : {X : Type 0} (xs ys : List X) (k : ℕ) → slice_get (xs ++ ys) (length xs + k) ≡ slice_get ys k
get_right [] ys k = let e : 0 + k ≡ k = omega arith in ap (slice_get ys) e
get_right (x ∷ xs) ys k = let e : suc (length xs) + k ≡ suc (length xs + k) = omega arith in ap (slice_get (x ∷ (xs ++ ys))) e
    ∙ get_right xs ys k

-- one list, cut at an element in two ways
pub data Cut (xs us : List ℕ) (a b : ℕ) : Type 0 where
  First : (zs : List ℕ) → us ≡ xs ++ a ∷ zs → Cut xs us a b
  Here : xs ≡ us → a ≡ b → Cut xs us a b
  Second : (zs : List ℕ) → xs ≡ us ++ b ∷ zs → Cut xs us a b

head_same : (a b : ℕ) (xs ys : List ℕ) → a ∷ xs ≡ b ∷ ys → a ≡ b
head_same a b xs ys h = cc

tail_same : (a b : ℕ) (xs ys : List ℕ) → a ∷ xs ≡ b ∷ ys → xs ≡ ys
tail_same a b xs ys h = cc

pub cut_of : (xs ys us vs : List ℕ) (a b : ℕ) → xs ++ a ∷ ys ≡ us ++ b ∷ vs → Cut xs us a b
cut_of [] ys [] vs a b h = Here refl (head_same a b ys vs h)
cut_of [] ys (u ∷ us) vs a b h = First us (ap (λ c. c ∷ us) (sym (head_same a u ys (us ++ b ∷ vs) h)))
cut_of (x ∷ xs) ys [] vs a b h = Second xs (ap (λ c. c ∷ xs) (head_same x b (xs ++ a ∷ ys) vs h))
cut_of (x ∷ xs) ys (u ∷ us) vs a b h =
    by (head_same x u (xs ++ a ∷ ys) (us ++ b ∷ vs) h) (cut_of xs ys us vs a b (tail_same x u (xs ++ a ∷ ys) (us ++ b ∷ vs) h))
  where
    by : x ≡ u → Cut xs us a b → Cut (x ∷ xs) (u ∷ us) a b
    by e (First zs is) = First zs (ap (λ c. c ∷ us) (sym e) ∙ ap (λ l. x ∷ l) is)
    by e (Here is same) = Here (ap (λ c. c ∷ xs) e ∙ ap (λ l. u ∷ l) is) same
    by e (Second zs is) = Second zs (ap (λ c. c ∷ xs) e ∙ ap (λ l. u ∷ l) is)

-- ---- turns

-- a step of the schedule: those before it, who takes it, and the worlds around it
pub record Turn (m : ModuleValue) (w : World) (s : List ℕ) : Type 0 where
  pub before : List ℕ
  pub after : List ℕ
  pub act : ℕ
  pub here : World
  pub there : World
  pub e : Event
  pub whole : s ≡ before ++ act ∷ after
  pub leads : run m before w ≡ Through here
  pub takes : step m here act ≡ Stepped there e

-- the step by its name
abbrev pub name_of : {m : ModuleValue} {w : World} {s : List ℕ} → Turn m w s → StepName
name_of t = (t.act, turns_of t.act t.before)

-- deed number k, which is d, is told of that step
pub record IsToldOf (m : ModuleValue) (w : World) (s : List ℕ) (t : Turn m w s) (k : ℕ) (d : Deed) : Type 0 where
  pub offset : ℕ
  pub number : k ≡ length (deeds m t.before w) + offset
  pub among : slice_get (tell_deeds m t.act t.here t.there t.e) offset ≡ Some d

-- the deeds of the first step, and those of the rest
pub deeds_first : (m : ModuleValue) (list : List ℕ) (w u : World) (a : ℕ) (e : Event) → step m w a ≡ Stepped u e
    → deeds m (a ∷ list) w ≡ tell_deeds m a w u e ++ deeds m list u
deeds_first m list w u a e takes = ap (λ o. told_on (tell_deeds m) a w o (told (tell_deeds m) m list)) takes

-- the deeds of two runs, one after the other
pub deeds_run : (m : ModuleValue) (p q : List ℕ) (w v : World) → run m p w ≡ Through v → deeds m (p ++ q) w ≡ deeds m p w ++ deeds m q v
deeds_run m [] q w v h = ap (deeds m q) (same_through w v h)
deeds_run m (a ∷ p) q w v h =
    let x = first_step w v (step m w a) (run m p) h in
    deeds_first m (p ++ q) w x.0 a x.1 x.2 ∙ ap (λ l. tell_deeds m a w x.0 x.1 ++ l) (deeds_run m p q x.0 v x.3)
    ∙ sym (append_assoc (tell_deeds m a w x.0 x.1) (deeds m p x.0) (deeds m q v))
    ∙ sym (ap (λ l. l ++ deeds m q v) (deeds_first m p w x.0 a x.1 x.2))

-- the turn of each deed
pub told_at : (m : ModuleValue) (s : List ℕ) (w z : World) → run m s w ≡ Through z → (k : ℕ) (d : Deed) → slice_get (deeds m s w) k ≡ Some d
    → (t : Turn m w s) × IsToldOf m w s t k d
told_at m [] w z legal k d at = absurd (none-some d at)
told_at m (a ∷ s) w z legal k d at =
    by (get_split front (deeds m s x.0) k d (subst (λ l. slice_get l k ≡ Some d) (deeds_first m s w x.0 a x.1 x.2) at))
    (told_at m s x.0 z x.3)
  where
    x : (u : World) × (e : Event) × (step m w a ≡ Stepped u e) × (run m s u ≡ Through z)
    x = first_step w z (step m w a) (run m s) legal

    front : List Deed
    front = tell_deeds m a w x.0 x.1

    turn : Turn m w (a ∷ s)
    turn = record { before = []; after = s; act = a; here = w; there = x.0; e = x.1; whole = refl; leads = refl; takes = x.2 }

    behind : (j : ℕ) → k ≡ length front + j → (t : Turn m x.0 s) × IsToldOf m x.0 s t j d
        → (t : Turn m w (a ∷ s)) × IsToldOf m w (a ∷ s) t k d
    behind j is (t, r) = (
      record {
        before = a ∷ t.before;
        after = t.after;
        act = t.act;
        here = t.here;
        there = t.there;
        e = t.e;
        whole = ap (λ l. a ∷ l) t.whole;
        leads = run_first m t.before w x.0 a x.1 x.2 ∙ t.leads;
        takes = t.takes;
      },
      record {
        offset = r.offset;
        number =
            (let n = r.number in let l = ap length (deeds_first m t.before w x.0 a x.1 x.2) ∙ length-append front (deeds m t.before x.0) in
            omega (arith, is, n, l));
        among = r.among;
      },
    )

    by : ((k < length front) × (slice_get front k ≡ Some d)) ⊎ ((j : ℕ) × (k ≡ length front + j) × (slice_get (deeds m s x.0) j ≡ Some d))
        → ((j : ℕ) (c : Deed) → slice_get (deeds m s x.0) j ≡ Some c → (t : Turn m x.0 s) × IsToldOf m x.0 s t j c)
        → (t : Turn m w (a ∷ s)) × IsToldOf m w (a ∷ s) t k d
    by (inl p) rest = (turn, record { offset = k; number = omega arith; among = p.1 })
    by (inr p) rest = behind p.0 p.1 (rest p.0 d p.2)

module _ (m : ModuleValue) (w : World) (s : List ℕ) where
  -- the deeds before a turn, its own, and those behind it
  pub deeds_around : (t : Turn m w s)
      → deeds m s w ≡ deeds m t.before w ++ (tell_deeds m t.act t.here t.there t.e ++ deeds m t.after t.there)
  deeds_around t =
      ap (λ l. deeds m l w) t.whole ∙ deeds_run m t.before (t.act ∷ t.after) w t.here t.leads
      ∙ ap (λ l. deeds m t.before w ++ l) (deeds_first m t.after t.here t.there t.act t.e t.takes)

  -- the deed that is told of it stands among those of the run
  pub deed_at : (t : Turn m w s) (k : ℕ) (d : Deed) → IsToldOf m w s t k d → slice_get (deeds m s w) k ≡ Some d
  deed_at t k d r =
      ap (λ l. slice_get l k) (deeds_around t)
      ∙ ap (slice_get (deeds m t.before w ++ (tell_deeds m t.act t.here t.there t.e ++ deeds m t.after t.there))) r.number
      ∙ get_right (deeds m t.before w) (tell_deeds m t.act t.here t.there t.e ++ deeds m t.after t.there) r.offset
      ∙ get-append_left (tell_deeds m t.act t.here t.there t.e) (deeds m t.after t.there) r.offset d r.among

  -- ---- two turns

  -- the one is earlier than the other
  abbrev pub IsEarlier : Turn m w s → Turn m w s → Type 0
  IsEarlier t u = (zs : List ℕ) × (u.before ≡ t.before ++ t.act ∷ zs)

  -- both are one
  abbrev pub AreOne : Turn m w s → Turn m w s → Type 0
  AreOne t u = (t.before ≡ u.before) × (t.act ≡ u.act)

  -- a run from the earlier one to the later one
  pub run_between : (t u : Turn m w s) (e : IsEarlier t u) → run m e.0 t.there ≡ Through u.here
  run_between t u e =
      sym (run_first m e.0 t.here t.there t.act t.e t.takes) ∙ sym (run_behind m t.before (t.act ∷ e.0) w t.here t.leads)
      ∙ ap (λ l. run m l w) (sym e.1) ∙ u.leads

  -- one turn is taken in one world, leads to one, is seen to do one thing, of which the same is told, and has one name
  pub one_here : (t u : Turn m w s) → AreOne t u → t.here ≡ u.here
  one_here t u o = same_through t.here u.here (sym t.leads ∙ ap (λ l. run m l w) o.0 ∙ u.leads)

  one_step : (t u : Turn m w s) → AreOne t u → (t.there ≡ u.there) × (t.e ≡ u.e)
  one_step t u o =
      same_step t.there u.there t.e u.e (sym t.takes ∙ ap (step m t.here) o.1 ∙ ap (λ v. step m v u.act) (one_here t u o) ∙ u.takes)

  pub one_event : (t u : Turn m w s) → AreOne t u → t.e ≡ u.e
  one_event t u o = (one_step t u o).1

  pub one_told : (t u : Turn m w s) → AreOne t u → tell_deeds m t.act t.here t.there t.e ≡ tell_deeds m u.act u.here u.there u.e
  one_told t u o =
      ap (λ a. tell_deeds m a t.here t.there t.e) o.1 ∙ ap (λ v. tell_deeds m u.act v t.there t.e) (one_here t u o)
      ∙ ap (λ v. tell_deeds m u.act u.here v t.e) (one_step t u o).0 ∙ ap (tell_deeds m u.act u.here u.there) (one_event t u o)

  pub one_name : (t u : Turn m w s) → AreOne t u → name_of t ≡ name_of u
  one_name t u o = ap (λ a. (a, turns_of a t.before)) o.1 ∙ ap (λ l. (u.act, turns_of u.act l)) o.0

  -- of turns of one activity, the later one comes after more of its steps
  pub earlier_turns : (t u : Turn m w s) → IsEarlier t u → t.act ≡ u.act → turns_of t.act t.before < turns_of u.act u.before
  earlier_turns t u e same =
      let n = turns_on t.act t.before (t.act ∷ e.0) in
      let o = turns_same t.act t.act e.0 (eq-eqb t.act t.act refl) in
      let b = ap (turns_of t.act) e.1 in
      let c = ap (λ a. turns_of a u.before) same in
      omega (arith, n, o, b, c)

  -- a turn is taken
  pub turn_taken : (t : Turn m w s) → IsTaken s (name_of t)
  turn_taken t =
      let n = turns_on t.act t.before (t.act ∷ t.after) in
      let o = turns_same t.act t.act t.after (eq-eqb t.act t.act refl) in
      let b = ap (turns_of t.act) t.whole in
      omega (arith, n, o, b)

  -- the world before a turn is reached
  pub turn_reached : (t : Turn m w s) → IsReached m w → IsReached m t.here
  turn_reached t reached = reached_run m t.before w t.here reached t.leads

  -- a later deed is told of no earlier turn
  pub numbers_rise : (t u : Turn m w s) (k j : ℕ) (d e : Deed) → IsToldOf m w s t k d → IsToldOf m w s u j e → IsEarlier u t → j < k
  numbers_rise t u k j d e p q earlier =
      let l = ap (λ b. length (deeds m b w)) earlier.1 ∙ ap length (deeds_run m u.before (u.act ∷ earlier.0) w u.here u.leads
      ∙ ap (λ l. deeds m u.before w ++ l) (deeds_first m earlier.0 u.here u.there u.act u.e u.takes))
      ∙ length-append (deeds m u.before w) (tell_deeds m u.act u.here u.there u.e ++ deeds m earlier.0 u.there) in
      let n = length-append (tell_deeds m u.act u.here u.there u.e) (deeds m earlier.0 u.there) in
      let i = slice_get_within (tell_deeds m u.act u.here u.there u.e) q.offset e q.among in
      let a = p.number in
      let b = q.number in
      omega (arith, l, n, i, a, b)

  -- of two deeds, the later one is told of the same turn or of a later one
  pub in_order : (t u : Turn m w s) (k j : ℕ) (d e : Deed) → IsToldOf m w s t k d → IsToldOf m w s u j e → k < j
      → IsEarlier t u ⊎ AreOne t u
  in_order t u k j d e p q less = by (cut_of t.before t.after u.before u.after t.act u.act (sym t.whole ∙ u.whole))
    where
      by : Cut t.before u.before t.act u.act → IsEarlier t u ⊎ AreOne t u
      by (First zs is) = inl (zs, is)
      by (Here is same) = inr (is, same)
      by (Second zs is) = absurd (let back = numbers_rise t u k j d e p q (zs, is) in omega (arith, less, back))

  -- two deeds of one turn stand in their order among its deeds
  pub offsets_rise : (t u : Turn m w s) (k j : ℕ) (d e : Deed) (p : IsToldOf m w s t k d) (q : IsToldOf m w s u j e) → AreOne t u → k < j
      → p.offset < q.offset
  offsets_rise t u k j d e p q o less =
      let l = ap (λ b. length (deeds m b w)) o.0 in let a = p.number in let b = q.number in omega (arith, less, l, a, b)

-- ---- the turn of a step that carries out an instruction

-- activity a's turn before which it took k, and the instruction that it carries out there
pub record IsTurnOf (m : ModuleValue) (w : World) (s : List ℕ) (a k : ℕ) (o : Option Instr) : Type 0 where
  pub turn : Turn m w s
  pub who : turn.act ≡ a
  pub many : turns_of a turn.before ≡ k
  pub next : o ≡ next_instruction m turn.here a

abbrev second_of : ℕ × Option Instr → Option Instr
second_of p = p.1

abbrev is_by : ℕ → ℕ × Option Instr → Bool
is_by a p = p.0 == a

turn_at : (m : ModuleValue) (s : List ℕ) (w z : World) (a k : ℕ) (o : Option Instr) → run m s w ≡ Through z
    → slice_get (carried_by m s w a) k ≡ Some o
    → IsTurnOf m w s a k o
turn_at m [] w z a k o legal at = absurd (none-some o at)
turn_at m (d ∷ s) w z a k o legal at =
    by (d == a) refl k
    (subst (λ l. slice_get (map second_of (filter (is_by a) l)) k ≡ Some o)
    (ap (λ q. carried_on (d, next_instruction m w d) q (carried m s)) x.2) at)
    (λ j h. turn_at m s x.0 z a j o x.3 h)
  where
    x : (u : World) × (e : Event) × (step m w d ≡ Stepped u e) × (run m s u ≡ Through z)
    x = first_step w z (step m w d) (run m s) legal

    behind : (j k : ℕ) (r : IsTurnOf m x.0 s a j o) → turns_of a (d ∷ r.turn.before) ≡ k → IsTurnOf m w (d ∷ s) a k o
    behind j k r many = record {
      turn = record {
        before = d ∷ r.turn.before;
        after = r.turn.after;
        act = r.turn.act;
        here = r.turn.here;
        there = r.turn.there;
        e = r.turn.e;
        whole = ap (λ l. d ∷ l) r.turn.whole;
        leads = run_first m r.turn.before w x.0 d x.1 x.2 ∙ r.turn.leads;
        takes = r.turn.takes;
      };
      who = r.who;
      many = many;
      next = r.next;
    }

    by : (q : Bool) → (d == a) ≡ q → (k : ℕ)
        → slice_get (map second_of
        (cond q ((d, next_instruction m w d) ∷ filter (is_by a) (carried m s x.0)) (filter (is_by a) (carried m s x.0)))) k ≡ Some o
        → ((j : ℕ) → slice_get (carried_by m s x.0 a) j ≡ Some o → IsTurnOf m x.0 s a j o) → IsTurnOf m w (d ∷ s) a k o
    by true e zero h rest = record {
      turn = record { before = []; after = s; act = d; here = w; there = x.0; e = x.1; whole = refl; leads = refl; takes = x.2 };
      who = eqb-true d a e;
      many = refl;
      next = sym (same_Some (next_instruction m w d) o h) ∙ ap (next_instruction m w) (eqb-true d a e);
    }
    by true e (suc k) h rest = let r = rest k h in behind k (suc k) r (turns_same a d r.turn.before e ∙ ap suc r.many)
    by false e k h rest = let r = rest k h in behind k k r (turns_other a d r.turn.before e ∙ r.many)

-- the turn of a step that carries out instruction i
pub turn_of_step : (m : ModuleValue) (s : List ℕ) (w z : World) (x : StepName) (i : Instr) → run m s w ≡ Through z
    → instruction_of m s w x ≡ Some i
    → IsTurnOf m w s x.0 x.1 (Some i)
turn_of_step m s w z x i legal is = turn_at m s w z x.0 x.1 (Some i) legal (by (slice_get (carried_by m s w x.0) x.1) is)
  where
    by : (o : Option (Option Instr)) → option_and_then (λ q. q) o ≡ Some i → o ≡ Some (Some i)
    by None h = absurd (none-some i h)
    by (Some q) h = ap Some h

-- nobody takes more turns than there are
turns_le : (a : ℕ) (s : List ℕ) → turns_of a s ≤ length s
turns_le a [] = omega arith
turns_le a (b ∷ s) = by (b == a) (turns_le a s)
  where
    by : (q : Bool) → turns_of a s ≤ length s → length (cond q (b ∷ filter (λ c. c == a) s) (filter (λ c. c == a) s)) ≤ length (b ∷ s)
    by true h = omega (arith, h)
    by false h = omega (arith, h)

-- a step of the schedule is of an activity that there is at the end, which has taken fewer before than there are
pub name_inside : (m : ModuleValue) (s : List ℕ) (w z : World) (x : StepName) (i : Instr) → run m s w ≡ Through z
    → instruction_of m s w x ≡ Some i
    → (x.0 < length z.activities) × (x.1 < length s)
name_inside m s w z x i legal is =
    let r = turn_of_step m s w z x i legal is in
    let t = r.turn in
    let act = found_of m t.here t.act t.there t.e t.takes in
    let here = slice_get_within t.here.activities t.act act.0 act.1 in
    let grown = run_wider m (t.act ∷ t.after) t.here z
    (sym (run_behind m t.before (t.act ∷ t.after) w t.here t.leads) ∙ ap (λ l. run m l w) (sym t.whole) ∙ legal) in
    let who = r.who in
    let many = r.many in
    let few = turns_le x.0 t.before in
    let long = ap length t.whole ∙ length-append t.before (t.act ∷ t.after) in
    (omega (arith, here, grown, who), omega (arith, many, few, long))
