-- A step by the other number does the same, in the world in which two activities have changed numbers: walked over each instruction once.
use Rattle.std.proofs.Common.{◌≡◌, ℕ, zero, suc, ◌+◌, ℤ, ◌<◌, int_lt, int_le, Bool, true, false, cond, List, [], ◌∷◌, ◌++◌, map, length, set, Some, None, Option, option_map, refl, sym, ap, ◌∙◌, arith, length-set}
use Rattle.std.specs.Prelude.{slice_get, option_and_then}
use Rattle.std.specs.Int.{w64, int_min, int_wrapping_add, int_wrapping_sub, int_wrapping_mul}
use Rattle.std.proofs.lemmas.List.{length-map}
use Rattle.std.proofs.lemmas.Option.{slice_get-map}
use Rattle.xk_types.specs.declared.instr.Instr.{Instr}
use Rattle.xk_types.specs.declared.instr.Instr.TheVariants as instr
use Rattle.xk_types.specs.declared.world.Value.{Value}
use Rattle.xk_types.specs.declared.world.Value.TheVariants as value
use Rattle.xk_types.specs.declared.world.Status.{Status}
use Rattle.xk_types.specs.declared.world.Status.TheVariants as status
use Rattle.xk_types.specs.declared.world.Standing.{Standing}
use Rattle.xk_types.specs.declared.world.Event.{Event}
use Rattle.xk_types.specs.declared.world.Event.TheVariants as event
use Rattle.xk_types.specs.declared.unit.ParamKind.{ParamKind}
use Rattle.xk_types.specs.declared.unit.ParamKind.TheVariants as param
use Rattle.xk_types.specs.Code.{UnitValue, ModuleValue, compares, is_method, is_body, Loop, loop_head}
use Rattle.xk_types.specs.World.{Frame, Activity, Clock, World, standing_of, instruction_at}
use Rattle.xk_types.specs.Step.{Outcome, Blocked, Wrong, Stepped, ClockUse, OutOfRange, is_registered, number_in, clock_in, registered_on, put_in, slot_at, arguments_in, computing, no_further, beginning, turning, again, spawned, spawning, carried_out, run_at, made, moved, joined, new_clock, is_given, child, waits, passing, passed, past, step_by, step_of, step, called, calling, back_in, returning, onward, going, with_slots, entered, left, ended, arrived, awaits, innermost, closing, cell_in, stored, done, none, only, all, resumed, dropped, settled}
use Rattle.xk_law_commute.specs.Conflicts.{next_instruction}
use Rattle.xk_law_commute.proofs.ListLemmas.{map_push}
use Rattle.xk_law_names.specs.ActivityNames.{renamed, governed_renamed, clock_swapped, activities_swapped, outcome_renamed, HasAllStandings}
use Rattle.xk_law_names.proofs.ActivityNameWorldLemmas.{standing-swapped, settled-swapped, AreWide, moved-swapped, joined-swapped, new-swapped, waits-swapped, acts_swapped, length-acts, act-swapped, set_act-swapped, push_act-swapped, child-renamed, awaits-swapped}

module _ (m : ModuleValue) (k : ℕ) (w : World) (inside : suc k < length w.activities) (wide : AreWide k w.clocks) (a : ℕ)
    (act : Activity) where
  -- the world with the numbers changed, the activity's other number, and the activity there
  abbrev v : World
  v = activities_swapped k w

  abbrev b : ℕ
  b = renamed k a

  abbrev there : Activity
  there = governed_renamed k act

  -- the second is what the first comes to there
  abbrev AreSame : Outcome → Outcome → Type 0
  AreSame o q = q ≡ outcome_renamed k o

  -- ---- operands

  number_same : (o : Option Value) (go later : ℤ → Outcome) → ((n : ℤ) → AreSame (go n) (later n))
      → AreSame (number_in o go) (number_in o later)
  number_same None go later h = refl
  number_same (Some value.Unset) go later h = refl
  number_same (Some (value.Number n)) go later h = h n
  number_same (Some (value.Clock c)) go later h = refl

  registered_same : (o : Option Clock) → ((c : Clock) → o ≡ Some c → suc k < length c.standings) → (go later : Outcome) → AreSame go later
      → AreSame (registered_on o a go) (registered_on (option_map (clock_swapped k) o) b later)
  registered_same None width go later h = refl
  registered_same (Some c) width go later h = rw (standing-swapped k a c (width c refl)) (by (is_registered (standing_of c a)))
    where
      by : (p : Bool) → AreSame (cond p go (Wrong ClockUse)) (cond p later (Wrong ClockUse))
      by true = h
      by false = refl

  clock_same : (o : Option Value) (go later : ℕ → Outcome) → ((c : ℕ) → AreSame (go c) (later c))
      → AreSame (clock_in w a o go) (clock_in v b o later)
  clock_same None go later h = refl
  clock_same (Some value.Unset) go later h = refl
  clock_same (Some (value.Number n)) go later h = refl
  clock_same (Some (value.Clock c)) go later h =
      rw (slice_get-map (clock_swapped k) w.clocks c) (registered_same (slice_get w.clocks c) (wide c) (go c) (later c) (h c))

  cell_same : (o : Option ℤ) (go later : ℤ → Outcome) → ((n : ℤ) → AreSame (go n) (later n)) → AreSame (cell_in o go) (cell_in o later)
  cell_same None go later h = refl
  cell_same (Some n) go later h = h n

  put_same : (o : Option Value) (d : ℕ) (x : Value) (go later : Activity → Outcome)
      → ((next : Activity) → AreSame (go next) (later (governed_renamed k next)))
      → AreSame (put_in o act d x go) (put_in o there d x later)
  put_same None d x go later h = refl
  put_same (Some old) d x go later h = h (onward (with_slots act (set act.frame.slots d x)))

  arguments_same : (ps : List ParamKind) (xs : List ℕ) (go later : List Value → Outcome)
      → ((values : List Value) → AreSame (go values) (later values))
      → AreSame (arguments_in w a act ps xs go) (arguments_in v b there ps xs later)
  arguments_same [] [] go later h = h []
  arguments_same [] (x ∷ xs) go later h = refl
  arguments_same (p ∷ ps) [] go later h = refl
  arguments_same (param.Number ∷ ps) (x ∷ xs) go later h =
      number_same (slot_at act x) _ _ (λ n. arguments_same ps xs _ _ (λ values. h (value.Number n ∷ values)))
  arguments_same (param.Clock ∷ ps) (x ∷ xs) go later h =
      clock_same (slot_at act x) _ _ (λ c. arguments_same ps xs _ _ (λ values. h (value.Clock c ∷ values)))

  -- ---- what changes

  -- the end of a step, by the activities, clocks and shared numbers before it
  settled_same : (acts others : List Activity) (cs ds : List Clock) (cells : List ℤ) (e : Event) → others ≡ acts_swapped k acts
      → ds ≡ map (clock_swapped k) cs
      → AreSame (Stepped (settled (record w { activities = acts; clocks = cs; cells = cells })) e)
      (Stepped (settled (record w { activities = others; clocks = ds; cells = cells })) e)
  settled_same acts others cs ds cells e p q =
      ap (λ z. Stepped z e)
      (ap settled (λ i. record w { activities = p i; clocks = q i; cells = cells })
      ∙ settled-swapped k (record w { activities = acts; clocks = cs; cells = cells }))

  -- with these shared numbers
  stored_same : (cells : List ℤ) (next : Activity) (change : ℕ → Standing → Standing) (e : Event)
      → AreSame (done (record w { cells = cells }) a next change e) (done (record v { cells = cells }) b (governed_renamed k next) change e)
  stored_same cells next change e = settled_same (set w.activities a next) (set v.activities b (governed_renamed k next))
      (moved a change w.clocks) (moved b change v.clocks)
      cells e (set_act-swapped k w.activities a next inside) (moved-swapped k a change w.clocks wide)

  done_same : (next : Activity) (change : ℕ → Standing → Standing) (e : Event)
      → AreSame (done w a next change e) (done v b (governed_renamed k next) change e)
  done_same next change e = stored_same w.cells next change e

  made_same : (next : Activity) → AreSame (made w a next) (made v b (governed_renamed k next))
  made_same next =
      let new : Clock = new_clock (length w.activities) a in
      let there : Clock = new_clock (length v.activities) b in
      settled_same (set w.activities a next) (set v.activities b (governed_renamed k next)) (w.clocks ++ new ∷ []) (v.clocks ++ there ∷ [])
      w.cells event.Made (set_act-swapped k w.activities a next inside)
      (ap (λ c. map (clock_swapped k) w.clocks ++ c ∷ [])
      (ap (λ n. new_clock n b) (length-acts k w.activities) ∙ new-swapped k (length w.activities) a inside)
      ∙ sym (map_push (clock_swapped k) w.clocks new))

  spawned_same : (t : ℕ) (values : List Value) → AreSame (spawned m w a act t values) (spawned m v b there t values)
  spawned_same t values =
      let new : Activity = child m a act t values in
      let other : Activity = child m b there t values in
      settled_same (set w.activities a (onward act) ++ new ∷ []) (set v.activities b (onward there) ++ other ∷ [])
      (joined a (is_given values) w.clocks) (joined b (is_given values) v.clocks) w.cells event.Spawned
      (ap (λ zs. zs ++ other ∷ []) (set_act-swapped k w.activities a (onward act) inside)
      ∙ ap (λ x. acts_swapped k (set w.activities a (onward act)) ++ x ∷ []) (child-renamed m k a act t values)
      ∙ sym (push_act-swapped k (set w.activities a (onward act)) new (omega (arith, inside, length-set w.activities a (onward act)))))
      (joined-swapped k a (is_given values) w.clocks wide)

  -- ---- instructions

  write_same : (d : ℕ) (x : Value) (e : Event)
      → AreSame (put_in (slot_at act d) act d x (λ next. done w a next none e))
      (put_in (slot_at act d) there d x (λ next. done v b next none e))
  write_same d x e = put_same (slot_at act d) d x _ _ (λ next. done_same next none e)

  computing_same : (g : ℤ → ℤ → ℤ) (d x y : ℕ) → AreSame (computing w a act g d x y) (computing v b there g d x y)
  computing_same g d x y =
      number_same (slot_at act x) _ _ (λ p. number_same (slot_at act y) _ _ (λ q. write_same d (value.Number (g p q)) event.Local))

  -- one way or the other
  either_same : (p : Bool) (one other : Activity)
      → AreSame (done w a (cond p one other) none event.Local)
      (done v b (cond p (governed_renamed k one) (governed_renamed k other)) none event.Local)
  either_same true one other = done_same one none event.Local
  either_same false one other = done_same other none event.Local

  limit_same : (x : Option ℕ) (hi : ℤ) (go later : ℤ → Outcome) → ((top : ℤ) → AreSame (go top) (later top))
      → AreSame (no_further act x hi go) (no_further there x hi later)
  limit_same None hi go later h = h hi
  limit_same (Some x) hi go later h = number_same (slot_at act x) _ _ (λ n. h (int_min n hi))

  beginning_same : (d : ℕ) (lo : ℤ) (t : ℕ) (top : ℤ) → AreSame (beginning w a act d lo t top) (beginning v b there d lo t top)
  beginning_same d lo t top = by (int_le lo top)
    where
      by : (p : Bool) → AreSame (cond p (put_in (slot_at act d) act d (value.Number lo) (λ next. done w a next none event.Local))
          (done w a (going act t) none event.Local))
          (cond p (put_in (slot_at act d) there d (value.Number lo) (λ next. done v b next none event.Local))
          (done v b (going there t) none event.Local))
      by true = write_same d (value.Number lo) event.Local
      by false = done_same (going act t) none event.Local

  turning_same : (t : ℕ) (o : Option Loop) → AreSame (turning w a act t o) (turning v b there t o)
  turning_same t None = refl
  turning_same t (Some l) = number_same (slot_at act l.slot) _ _
      (λ n. limit_same l.limit l.hi _ _ (λ top. either_same (int_lt n top) (again act t l.slot n) (onward act)))

  calling_same : (t : ℕ) (args : List ℕ) (o : Option UnitValue) → AreSame (calling m w a act t args o) (calling m v b there t args o)
  calling_same t args None = refl
  calling_same t args (Some u) = by (is_method u.kind)
    where
      by : (p : Bool) → AreSame
          (cond p (arguments_in w a act u.params args (λ values. done w a (called m act t values) none event.Local)) (Wrong OutOfRange))
          (cond p (arguments_in v b there u.params args (λ values. done v b (called m there t values) none event.Local)) (Wrong OutOfRange))
      by true = arguments_same u.params args _ _ (λ values. done_same (called m act t values) none event.Local)
      by false = refl

  spawning_same : (t : ℕ) (args : List ℕ) (o : Option UnitValue) → AreSame (spawning m w a act t args o) (spawning m v b there t args o)
  spawning_same t args None = refl
  spawning_same t args (Some u) = by (is_body u.kind)
    where
      by : (p : Bool) → AreSame (cond p (arguments_in w a act u.params args (spawned m w a act t)) (Wrong OutOfRange))
          (cond p (arguments_in v b there u.params args (spawned m v b there t)) (Wrong OutOfRange))
      by true = arguments_same u.params args _ _ (spawned_same t)
      by false = refl

  returning_same : (fs : List Frame) → AreSame (returning w a act fs) (returning v b there fs)
  returning_same [] = done_same (ended act) (all dropped) event.Ended
  returning_same (f ∷ fs) = done_same (back_in act f fs) none event.Local

  closing_same : (n : ℕ) → AreSame (closing w a act n) (closing v b there n)
  closing_same zero = refl
  closing_same (suc n) = rw (awaits-swapped k w.activities inside (innermost a act)) (by (awaits w.activities (innermost a act)))
    where
      by : (p : Bool)
          → AreSame (cond p Blocked (done w a (left act n) none event.Closed)) (cond p Blocked (done v b (left there n) none event.Closed))
      by true = refl
      by false = done_same (left act n) none event.Closed

  passing_same : AreSame (passing w a act) (passing v b there)
  passing_same = rw (waits-swapped k a w wide) (by (waits w a))
    where
      by : (p : Bool) → AreSame (cond p Blocked (done w a (past act (w.steps + 1)) (all passed) event.Passed))
          (cond p Blocked (done v b (past there (w.steps + 1)) (all passed) event.Passed))
      by true = refl
      by false = done_same (past act (w.steps + 1)) (all passed) event.Passed

  put_cell : (c x : ℕ) (g : ℤ → ℤ → ℤ) (e : Event)
      → AreSame (number_in (slot_at act x) (λ n. cell_in (slice_get w.cells c) (λ old. stored w a act c (g old n) e)))
      (number_in (slot_at act x) (λ n. cell_in (slice_get w.cells c) (λ old. stored v b there c (g old n) e)))
  put_cell c x g e = number_same (slot_at act x) _ _
      (λ n. cell_same (slice_get w.cells c) _ _ (λ old. stored_same (set w.cells c (g old n)) (onward act) none e))

  instruction_same : (i : Instr) → AreSame (carried_out m w a act i) (carried_out m v b there i)
  instruction_same (instr.Lit d n) = write_same d (value.Number n) event.Local
  instruction_same (instr.Copy d x) = number_same (slot_at act x) _ _ (λ n. write_same d (value.Number n) event.Local)
  instruction_same (instr.Add d x y) = computing_same (int_wrapping_add w64) d x y
  instruction_same (instr.Sub d x y) = computing_same (int_wrapping_sub w64) d x y
  instruction_same (instr.Mul d x y) = computing_same (int_wrapping_mul w64) d x y
  instruction_same (instr.Unless op x y t) = number_same (slot_at act x) _ _
      (λ p. number_same (slot_at act y) _ _ (λ q. either_same (compares op p q) (onward act) (going act t)))
  instruction_same (instr.Jump t) = done_same (going act t) none event.Local
  instruction_same (instr.For d lo hi e) = write_same d (value.Number lo) event.Local
  instruction_same (instr.ForTo d lo x hi e) = limit_same (Some x) hi _ _ (beginning_same d lo (e + 1))
  instruction_same (instr.Next t) = turning_same t (option_and_then (loop_head t) (instruction_at m (record act.frame { place = t })))
  instruction_same (instr.Finish e) = done_same (entered act) none event.Opened
  instruction_same (instr.EndFinish t) = closing_same act.opened
  instruction_same (instr.Get d c) = cell_same (slice_get w.cells c) _ _ (λ n. write_same d (value.Number n) event.Got)
  instruction_same (instr.Put c x) = put_cell c x (λ old n. n) event.Put
  instruction_same (instr.AddTo c x) = put_cell c x (int_wrapping_add w64) event.Added
  instruction_same (instr.Print x) = number_same (slot_at act x) _ _ (λ n. done_same (onward act) none (event.Printed n))
  instruction_same (instr.Make d) =
      rw (length-map w.clocks (clock_swapped k)) (put_same (slot_at act d) d (value.Clock (length w.clocks)) _ _ made_same)
  instruction_same (instr.Resume x) = clock_same (slot_at act x) _ _ (λ c. done_same (onward act) (only c resumed) event.Resumed)
  instruction_same (instr.Drop x) = clock_same (slot_at act x) _ _ (λ c. done_same (onward act) (only c dropped) event.Dropped)
  instruction_same instr.Advance = done_same (arrived act) (all resumed) event.Arrived
  instruction_same (instr.Call t args) = calling_same t args (slice_get m.units t)
  instruction_same (instr.Spawn t args) = spawning_same t args (slice_get m.units t)
  instruction_same instr.Ret = returning_same act.callers

  -- ---- a step

  run_same : (o : Option Instr) → AreSame (run_at m w a act o) (run_at m v b there o)
  run_same None = refl
  run_same (Some i) = instruction_same i

  step_by_same : (st : Status) → AreSame (step_by m w a act st) (step_by m v b there st)
  step_by_same status.Running = run_same (instruction_at m act.frame)
  step_by_same status.Arrived = passing_same
  step_by_same status.Ended = refl

-- each clock has a standing of both
wide_of : (k : ℕ) (w : World) → suc k < length w.activities → HasAllStandings w → AreWide k w.clocks
wide_of k w inside full j c at = omega (arith, inside, full j c at)

pub step-swapped : (m : ModuleValue) (w : World) (k a : ℕ) → suc k < length w.activities → HasAllStandings w
    → step m (activities_swapped k w) (renamed k a) ≡ outcome_renamed k (step m w a)
step-swapped m w k a inside full = rw (act-swapped k w.activities a inside) (by (slice_get w.activities a))
  where
    by : (o : Option Activity)
        → step_of m (activities_swapped k w) (renamed k a) (option_map (governed_renamed k) o) ≡ outcome_renamed k (step_of m w a o)
    by None = refl
    by (Some act) = step_by_same m k w inside (wide_of k w inside full) a act act.status

-- and it stands at the same instruction
pub next-swapped : (m : ModuleValue) (w : World) (k a : ℕ) → suc k < length w.activities
    → next_instruction m (activities_swapped k w) (renamed k a) ≡ next_instruction m w a
next-swapped m w k a inside = ap (option_and_then (λ act. instruction_at m act.frame)) (act-swapped k w.activities a inside)
    ∙ by (slice_get w.activities a)
  where
    by : (o : Option Activity) → option_and_then (λ (x : Activity). instruction_at m x.frame) (option_map (governed_renamed k) o)
        ≡ option_and_then (λ (x : Activity). instruction_at m x.frame) o
    by None = refl
    by (Some act) = refl
