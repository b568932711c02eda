-- What a step can come to: it is blocked, it is wrong, or it has one of the forms below, each with what it does to the activity that takes
-- it. What holds of these holds of each step, and of steps side by side. No other lemma need walk over the instructions for that.
use Rattle.std.proofs.Common.{◌≡◌, ℕ, suc, zero, ◌+◌, ◌≤◌, ◌==◌, ℤ, pos, ◌+ℤ◌, int_lt, Bool, true, false, true≢false, cond, List, [], ◌∷◌, length, set, ◌⊎◌, inl, inr, Some, None, Option, refl, sym, ap, ◌∙◌, arith}
use Rattle.std.specs.Prelude.{slice_get, option_and_then, int_le}
use Rattle.std.specs.Int.{w64, int_min, int_wrapping_add, int_wrapping_sub, int_wrapping_mul}
use Rattle.std.specs.Option.{option_map_or}
use Rattle.std.proofs.lemmas.Bool.{false≢true}
use Rattle.xk_types.specs.declared.instr.Instr.{Instr}
use Rattle.xk_types.specs.declared.instr.Instr.TheVariants as instr
use Rattle.xk_types.specs.declared.world.Value.{Value}
use Rattle.xk_types.specs.declared.world.Value.TheVariants as value
use Rattle.xk_types.specs.declared.world.Standing.{Standing}
use Rattle.xk_types.specs.declared.world.Standing.TheVariants as standing
use Rattle.xk_types.specs.declared.world.Status.{Status}
use Rattle.xk_types.specs.declared.world.Status.TheVariants as status
use Rattle.xk_types.specs.declared.world.Event.{Event}
use Rattle.xk_types.specs.declared.world.Event.TheVariants as event
use Rattle.xk_types.specs.declared.unit.ParamKind.{ParamKind}
use Rattle.xk_types.specs.declared.unit.ParamKind.TheVariants as param
use Rattle.xk_types.specs.Code.{UnitValue, ModuleValue, compares, is_method, is_body, Loop, loop_head}
use Rattle.xk_types.specs.World.{Frame, Finish, Activity, Clock, World, standing_of, instruction_at, is_ended}
use Rattle.xk_types.specs.Step.{Cause, Outcome, Blocked, Wrong, ClockUse, OutOfRange, is_registered, number_in, clock_in, registered_on, put_in, slot_at, arguments_in, computing, no_further, turning, again, spawned, spawning, carried_out, run_at, done, made, waits, passing, past, passed, step_by, step_of, step, called, calling, back_in, returning, none, only, all, resumed, dropped, awaits, innermost, onward, going, with_slots, entered, left, ended, arrived, closing, cell_in, stored}
use Rattle.xk_types.specs.Schedule.{is_local}
use Rattle.xk_types.specs.Shape.{target}
use Rattle.xk_types.proofs.ListLemmas.{each_set}
use Rattle.xk_law_schedules.proofs.Invariant.{Names, is_held, kind_by, looks, stands_on}
use Rattle.xk_law_schedules.proofs.ShapeLemmas.BlockLemmas.{is_border}
use Rattle.xk_law_schedules.proofs.SafetyLemmas.ArgumentLemmas.{AreGiven, given_none, given_more}
use Rattle.xk_law_schedules.proofs.SlotKindLemmas.KindTableLemmas.{resumed_held, only_held}

-- ---- what a form says

-- the activity runs, and this is its next instruction
pub record IsNext (m : ModuleValue) (act : Activity) (i : Instr) : Type 0 where
  pub runs : act.status ≡ status.Running
  pub here : instruction_at m act.frame ≡ Some i

-- Instruction i, which begins and ends no finish, takes a frame on in its unit: to the next place, to where it aims, or round its loop; and
-- it names no other clock than before.
pub record GoesIn (i : Instr) (was frame : Frame) : Type 0 where
  pub plain : is_border i ≡ false
  pub unit : frame.unit ≡ was.unit
  pub place : (frame.place ≡ was.place + 1) ⊎ ((target i ≡ Some frame.place) ⊎ ((b : ℕ) × (i ≡ instr.Next b) × (frame.place ≡ b + 1)))
  pub names : (s c : ℕ) → Names frame.slots s c → Names was.slots s c

-- an activity is started, or comes to wait at an `advance`
abbrev pub starts_or_arrives : Event → Bool
starts_or_arrives event.Spawned = true
starts_or_arrives event.Arrived = true
starts_or_arrives _ = false

-- an activity ends
abbrev pub ends : Event → Bool
ends event.Ended = true
ends _ = false

-- A change of standings registers on no clock; none comes of a step that nobody else sees; and with the event nobody is started, comes to
-- wait or ends.
pub record Changes (change : ℕ → Standing → Standing) (e : Event) : Type 0 where
  pub apart : (k : ℕ) → change k standing.Apart ≡ standing.Apart
  pub registers : (k : ℕ) (st : Standing) → is_held (kind_by (change k st)) ≡ true → is_held (kind_by st) ≡ true
  pub rests : is_local e ≡ true → change ≡ none
  pub quiet : starts_or_arrives e ≡ false
  pub lives : ends e ≡ false

-- What holds of each form of a step of activity a: it goes on in its unit; it writes a shared number; it makes a clock; it opens a finish, or
-- closes one that awaits nobody; it comes to wait at an `advance`, or passes it; it calls a method with values that it has, or comes back;
-- it ends; it starts an activity, with values that it has.
pub record HoldsOfForms (P : Outcome → Type 0) (m : ModuleValue) (w : World) (a : ℕ) (act : Activity) : Type 0 where
  pub goes : (i : Instr) → IsNext m act i → (frame : Frame) → GoesIn i act.frame frame → (change : ℕ → Standing → Standing) (e : Event) → Changes change e
      → P (done w a (record act { frame = frame }) change e)
  pub stored : (i : Instr) → IsNext m act i → is_border i ≡ false → (s : ℕ) (n : ℤ) (e : Event) → starts_or_arrives e ≡ false → P (stored w a act s n e)
  pub made : (d : ℕ) (old : Value) → IsNext m act (instr.Make d) → slot_at act d ≡ Some old
      → P (made w a (onward (with_slots act (set act.frame.slots d (value.Clock (length w.clocks))))))
  pub opened : (e : ℕ) → IsNext m act (instr.Finish e) → P (done w a (entered act) none event.Opened)
  pub closed : (b n : ℕ) → IsNext m act (instr.EndFinish b) → act.opened ≡ suc n → awaits w.activities (innermost a act) ≡ false → P (done w a (left act n) none event.Closed)
  pub arrives : IsNext m act instr.Advance → P (done w a (arrived act) (all resumed) event.Arrived)
  pub passes : act.status ≡ status.Arrived → P (done w a (past act (w.steps + 1)) (all passed) event.Passed)
  pub calls : (t : ℕ) (args : List ℕ) (u : UnitValue) (values : List Value) → IsNext m act (instr.Call t args) → slice_get m.units t ≡ Some u
      → AreGiven (stands_on w.clocks a) act.frame.slots u.params args values → P (done w a (called m act t values) none event.Local)
  pub returns : (f : Frame) (fs : List Frame) → IsNext m act instr.Ret → act.callers ≡ f ∷ fs → P (done w a (back_in act f fs) none event.Local)
  pub over : IsNext m act instr.Ret → act.callers ≡ [] → P (done w a (ended act) (all dropped) event.Ended)
  pub spawned : (t : ℕ) (args : List ℕ) (u : UnitValue) (values : List Value) → IsNext m act (instr.Spawn t args) → slice_get m.units t ≡ Some u
      → AreGiven (stands_on w.clocks a) act.frame.slots u.params args values → P (spawned m w a act t values)

-- ---- steps side by side

-- What a step looks at only where it concerns finishes: all activities, how many finishes the one that takes it has open, and which one
-- governs it.
pub record Finishes : Type 0 where
  pub activities : List Activity
  pub opened : ℕ
  pub governed : Finish

-- a world and an activity with these
abbrev pub world_with : World → Finishes → World
world_with w z = record w { activities = z.activities }

abbrev pub act_with : Activity → Finishes → Activity
act_with act z = record act { opened = z.opened; governed = z.governed }

-- those that they have
abbrev pub finishes_of : World → Activity → Finishes
finishes_of w act = record { activities = w.activities; opened = act.opened; governed = act.governed }

-- What holds of each form of steps side by side, which differ in finishes alone. P is about a family: what they come to, by their finishes. The
-- activity stands at an instruction that is Next. What comes of an `endfinish` depends on the finishes, so that it is left as it is.
pub record HoldsOfFamilies (P : (Finishes → Outcome) → Type 0) (Next : Instr → Type 0) (m : ModuleValue) (w : World) (a : ℕ) (act : Activity) : Type 0 where
  pub goes : (i : Instr) → Next i → (frame : Frame) → GoesIn i act.frame frame → (change : ℕ → Standing → Standing) (e : Event) → Changes change e
      → P (λ z. done (world_with w z) a (record (act_with act z) { frame = frame }) change e)
  pub stored : (i : Instr) → Next i → is_border i ≡ false → (s : ℕ) (n : ℤ) (e : Event) → Changes none e → P (λ z. stored (world_with w z) a (act_with act z) s n e)
  pub made : (d : ℕ) (old : Value) → Next (instr.Make d) → slot_at act d ≡ Some old
      → P (λ z. made (world_with w z) a (onward (with_slots (act_with act z) (set act.frame.slots d (value.Clock (length w.clocks))))))
  pub opened : (e : ℕ) → Next (instr.Finish e) → P (λ z. done (world_with w z) a (entered (act_with act z)) none event.Opened)
  pub closing : (b : ℕ) → Next (instr.EndFinish b) → P (λ z. closing (world_with w z) a (act_with act z) z.opened)
  pub arrives : Next instr.Advance → P (λ z. done (world_with w z) a (arrived (act_with act z)) (all resumed) event.Arrived)
  pub calls : (t : ℕ) (args : List ℕ) (u : UnitValue) (values : List Value) → Next (instr.Call t args) → slice_get m.units t ≡ Some u
      → AreGiven (stands_on w.clocks a) act.frame.slots u.params args values → P (λ z. done (world_with w z) a (called m (act_with act z) t values) none event.Local)
  pub returns : (f : Frame) (fs : List Frame) → Next instr.Ret → act.callers ≡ f ∷ fs → P (λ z. done (world_with w z) a (back_in (act_with act z) f fs) none event.Local)
  pub over : Next instr.Ret → act.callers ≡ [] → P (λ z. done (world_with w z) a (ended (act_with act z)) (all dropped) event.Ended)
  pub spawned : (t : ℕ) (args : List ℕ) (u : UnitValue) (values : List Value) → Next (instr.Spawn t args) → slice_get m.units t ≡ Some u
      → AreGiven (stands_on w.clocks a) act.frame.slots u.params args values → P (λ z. spawned m (world_with w z) a (act_with act z) t values)

-- ---- facts of changes

unmoved : (e : Event) → starts_or_arrives e ≡ false → ends e ≡ false → Changes none e
unmoved e quiet lives = record { apart = λ k. refl; registers = λ k st h. h; rests = λ h. refl; quiet = quiet; lives = lives }

unseen : Changes none event.Local
unseen = unmoved event.Local refl refl

one_moved : (c : ℕ) (f : Standing → Standing) (e : Event) → f standing.Apart ≡ standing.Apart
    → ((st : Standing) → is_held (kind_by (f st)) ≡ true → is_held (kind_by st) ≡ true) → is_local e ≡ false → starts_or_arrives e ≡ false → ends e ≡ false
    → Changes (only c f) e
one_moved c f e apart registers seen quiet lives = record {
  apart = λ k. cases (k == c);
  registers = only_held c f registers;
  rests = λ h. absurd (true≢false (sym h ∙ seen));
  quiet = quiet;
  lives = lives;
}
  where
    cases : (b : Bool) → cond b (f standing.Apart) standing.Apart ≡ standing.Apart
    cases true = apart
    cases false = refl

-- where a slot got a number, the names are those that were there
number_names : (slots : List Value) (d : ℕ) (old : Value) (n : ℤ) → slice_get slots d ≡ Some old → (s c : ℕ) → Names (set slots d (value.Number n)) s c → Names slots s c
number_names slots d old n at s c named =
    each_set (λ z x. (k : ℕ) → x ≡ value.Clock k → Names slots z k) slots d old (value.Number n) at
    (λ k e. absurd (grind arith)) (λ z x differs g k e. g ∙ ap Some e) s (value.Clock c) named c refl

-- ---- operands

module _ (P : (Finishes → Outcome) → Type 0) (wrong : (c : Cause) → P (λ z. Wrong c)) (w : World) (a : ℕ) (act : Activity) where
  -- where a number is wanted
  number_form : (o : Option Value) (go : Finishes → ℤ → Outcome) → ((n : ℤ) → o ≡ Some (value.Number n) → P (λ z. go z n)) → P (λ z. number_in o (go z))
  number_form None go h = wrong _
  number_form (Some value.Unset) go h = wrong _
  number_form (Some (value.Number n)) go h = h n refl
  number_form (Some (value.Clock c)) go h = wrong _

  -- where a loop goes no further up than a number
  limit_form : (o : Option ℕ) (hi : ℤ) (go : Finishes → ℤ → Outcome) → ((n : ℤ) → P (λ z. go z n)) → P (λ z. no_further (act_with act z) o hi (go z))
  limit_form None hi go h = h hi
  limit_form (Some x) hi go h = number_form (slot_at act x) (λ z n. go z (int_min n hi)) (λ n is. h (int_min n hi))

  -- where a registration is wanted
  registered_form : (o : Option Clock) (go : Finishes → Outcome) → (is_held (kind_by (option_map_or (λ c. standing_of c a) o standing.Apart)) ≡ true → P go)
      → P (λ z. registered_on o a (go z))
  registered_form None go h = wrong _
  registered_form (Some c) go h = cases (standing_of c a) h
    where
      cases : (s : Standing) → (is_held (kind_by s) ≡ true → P go) → P (λ z. cond (is_registered s) (go z) (Wrong ClockUse))
      cases standing.Apart g = wrong _
      cases standing.Open g = g refl
      cases standing.Signalled g = g refl
      cases standing.Ahead g = g refl

  -- where a clock is wanted
  clock_form : (o : Option Value) (go : Finishes → ℕ → Outcome) → ((k : ℕ) → o ≡ Some (value.Clock k) → is_held (looks w.clocks a k) ≡ true → P (λ z. go z k))
      → P (λ z. clock_in (world_with w z) a o (go z))
  clock_form None go h = wrong _
  clock_form (Some value.Unset) go h = wrong _
  clock_form (Some (value.Number n)) go h = wrong _
  clock_form (Some (value.Clock k)) go h = registered_form (slice_get w.clocks k) (λ z. go z k) (λ held. h k refl held)

  -- where a shared number is wanted
  cell_form : (o : Option ℤ) (go : Finishes → ℤ → Outcome) → ((n : ℤ) → P (λ z. go z n)) → P (λ z. cell_in o (go z))
  cell_form None go h = wrong _
  cell_form (Some n) go h = h n

  -- where a slot is written
  put_form : (o : Option Value) (d : ℕ) (v : Value) (go : Finishes → Activity → Outcome)
      → ((old : Value) → o ≡ Some old → P (λ z. go z (onward (with_slots (act_with act z) (set act.frame.slots d v))))) → P (λ z. put_in o (act_with act z) d v (go z))
  put_form None d v go h = wrong _
  put_form (Some old) d v go h = h old refl

  -- where arguments are wanted
  arguments_form : (ps : List ParamKind) (xs : List ℕ) (go : Finishes → List Value → Outcome)
      → ((values : List Value) → AreGiven (stands_on w.clocks a) act.frame.slots ps xs values → P (λ z. go z values))
      → P (λ z. arguments_in (world_with w z) a (act_with act z) ps xs (go z))
  arguments_form [] [] go h = h [] (given_none (stands_on w.clocks a) act.frame.slots)
  arguments_form [] (x ∷ xs) go h = wrong _
  arguments_form (p ∷ ps) [] go h = wrong _
  arguments_form (param.Number ∷ ps) (x ∷ xs) go h = number_form (slot_at act x) _
      (λ n is. arguments_form ps xs (λ z values. go z (value.Number n ∷ values))
      (λ values g. h (value.Number n ∷ values) (given_more (stands_on w.clocks a) act.frame.slots param.Number ps x xs (value.Number n) values refl g)))
  arguments_form (param.Clock ∷ ps) (x ∷ xs) go h = clock_form (slot_at act x) _
      (λ k is held. arguments_form ps xs (λ z values. go z (value.Clock k ∷ values))
      (λ values g. h (value.Clock k ∷ values) (given_more (stands_on w.clocks a) act.frame.slots param.Clock ps x xs (value.Clock k) values (x, refl, refl, is, held) g)))

  -- where a unit is started
  pub spawning_form : (m : ModuleValue) (t : ℕ) (args : List ℕ) (o : Option UnitValue)
      → ((u : UnitValue) (values : List Value) → o ≡ Some u → AreGiven (stands_on w.clocks a) act.frame.slots u.params args values
      → P (λ z. spawned m (world_with w z) a (act_with act z) t values))
      → P (λ z. spawning m (world_with w z) a (act_with act z) t args o)
  spawning_form m t args None h = wrong _
  spawning_form m t args (Some u) h = cases (is_body u.kind)
    where
      cases : (b : Bool) → P (λ z. cond b (arguments_in (world_with w z) a (act_with act z) u.params args (spawned m (world_with w z) a (act_with act z) t)) (Wrong OutOfRange))
      cases true = arguments_form u.params args (λ z. spawned m (world_with w z) a (act_with act z) t) (λ values given. h u values refl given)
      cases false = wrong _

-- ---- instructions

module _ (P : (Finishes → Outcome) → Type 0) (Next : Instr → Type 0) (m : ModuleValue) (w : World) (a : ℕ) (wrong : (c : Cause) → P (λ z. Wrong c)) (act : Activity)
    (f : HoldsOfFamilies P Next m w a act) where
  module _ (i : Instr) (at : Next i) (plain : is_border i ≡ false) where
    -- on to the next place
    next_form : (change : ℕ → Standing → Standing) (e : Event) → Changes change e → P (λ z. done (world_with w z) a (onward (act_with act z)) change e)
    next_form change e changes = f.goes i at (onward act).frame (record { plain = plain; unit = refl; place = inl refl; names = λ s c h. h }) change e changes

    -- to where it aims
    aim_form : (t : ℕ) → target i ≡ Some t → P (λ z. done (world_with w z) a (going (act_with act z) t) none event.Local)
    aim_form t aim = f.goes i at (going act t).frame (record { plain = plain; unit = refl; place = inr (inl aim); names = λ s c h. h }) none event.Local unseen

    branch_form : (t : ℕ) → target i ≡ Some t → (b : Bool) → P (λ z. done (world_with w z) a (cond b (onward (act_with act z)) (going (act_with act z) t)) none event.Local)
    branch_form t aim true = next_form none event.Local unseen
    branch_form t aim false = aim_form t aim

    -- where a slot becomes a number
    write_form : (e : Event) → Changes none e → (d : ℕ) (n : ℤ)
        → P (λ z. put_in (slot_at act d) (act_with act z) d (value.Number n) (λ next. done (world_with w z) a next none e))
    write_form e changes d n = put_form P wrong w a act (slot_at act d) d (value.Number n) (λ z next. done (world_with w z) a next none e)
        (λ old there. f.goes i at (onward (with_slots act (set act.frame.slots d (value.Number n)))).frame
        (record { plain = plain; unit = refl; place = inl refl; names = number_names act.frame.slots d old n there }) none e changes)

    -- one that comes of two others
    computing_form : (g : ℤ → ℤ → ℤ) (d x y : ℕ) → P (λ z. computing (world_with w z) a (act_with act z) g d x y)
    computing_form g d x y =
        number_form P wrong w a act (slot_at act x) _ (λ p e. number_form P wrong w a act (slot_at act y) _ (λ q h. write_form event.Local unseen d (g p q)))

    -- where the activity stands on a clock changes
    using_form : (x : ℕ) (g : Standing → Standing) (e : Event) → ((c : ℕ) → Changes (only c g) e)
        → P (λ z. clock_in (world_with w z) a (slot_at act x) (λ c. done (world_with w z) a (onward (act_with act z)) (only c g) e))
    using_form x g e changes = clock_form P wrong w a act (slot_at act x) _ (λ c is held. next_form (only c g) e (changes c))

    -- a shared number is written
    cell_put : (x s : ℕ) (g : ℤ → ℤ → ℤ) (e : Event) → Changes none e
        → P (λ z. number_in (slot_at act x) (λ n. cell_in (slice_get w.cells s) (λ old. stored (world_with w z) a (act_with act z) s (g old n) e)))
    cell_put x s g e changes = number_form P wrong w a act (slot_at act x) _
        (λ n is. cell_form P wrong w a act (slice_get w.cells s) _ (λ old. f.stored i at plain s (g old n) e changes))

  -- where a turn of a loop ends
  turn_form : (b k : ℕ) (n : ℤ) → Next (instr.Next b) → slot_at act k ≡ Some (value.Number n) → (x : Bool)
      → P (λ z. done (world_with w z) a (cond x (again (act_with act z) b k n) (onward (act_with act z))) none event.Local)
  turn_form b k n at is true = f.goes (instr.Next b) at (again act b k n).frame
      (record { plain = refl; unit = refl; place = inr (inr (b, refl, refl)); names = number_names act.frame.slots k (value.Number n) (n +ℤ pos 1) is })
      none event.Local unseen
  turn_form b k n at is false = next_form (instr.Next b) at refl none event.Local unseen

  turning_form : (b : ℕ) → Next (instr.Next b) → (o : Option Loop) → P (λ z. turning (world_with w z) a (act_with act z) b o)
  turning_form b at None = wrong _
  turning_form b at (Some l) = number_form P wrong w a act (slot_at act l.slot) _
      (λ n is. limit_form P wrong w a act l.limit l.hi _ (λ top. turn_form b l.slot n at is (int_lt n top)))

  -- where a loop begins, or is passed over
  begin_form : (k : ℕ) (lo : ℤ) (x : ℕ) (hi : ℤ) (e : ℕ) → Next (instr.ForTo k lo x hi e) → (b : Bool)
      → P (λ z. cond b (put_in (slot_at act k) (act_with act z) k (value.Number lo) (λ next. done (world_with w z) a next none event.Local))
      (done (world_with w z) a (going (act_with act z) (e + 1)) none event.Local))
  begin_form k lo x hi e at true = write_form (instr.ForTo k lo x hi e) at refl event.Local unseen k lo
  begin_form k lo x hi e at false = aim_form (instr.ForTo k lo x hi e) at refl (e + 1) refl

  -- where a method is called
  calling_form : (t : ℕ) (args : List ℕ) → Next (instr.Call t args) → (o : Option UnitValue) → slice_get m.units t ≡ o
      → P (λ z. calling m (world_with w z) a (act_with act z) t args o)
  calling_form t args at None e = wrong _
  calling_form t args at (Some u) e = cases (is_method u.kind)
    where
      cases : (b : Bool) → P (λ z. cond b (arguments_in (world_with w z) a (act_with act z) u.params args
          (λ values. done (world_with w z) a (called m (act_with act z) t values) none event.Local)) (Wrong OutOfRange))
      cases true = arguments_form P wrong w a act u.params args _ (λ values given. f.calls t args u values at e given)
      cases false = wrong _

  -- where a unit ends
  returning_form : Next instr.Ret → (fs : List Frame) → act.callers ≡ fs → P (λ z. returning (world_with w z) a (act_with act z) fs)
  returning_form at [] e = f.over at e
  returning_form at (g ∷ fs) e = f.returns g fs at e

  -- each instruction
  pub instruction_form : (i : Instr) → Next i → P (λ z. carried_out m (world_with w z) a (act_with act z) i)
  instruction_form (instr.Lit d n) at = write_form (instr.Lit d n) at refl event.Local unseen d n
  instruction_form (instr.Copy d x) at = number_form P wrong w a act (slot_at act x) _ (λ n e. write_form (instr.Copy d x) at refl event.Local unseen d n)
  instruction_form (instr.Add d x y) at = computing_form (instr.Add d x y) at refl (int_wrapping_add w64) d x y
  instruction_form (instr.Sub d x y) at = computing_form (instr.Sub d x y) at refl (int_wrapping_sub w64) d x y
  instruction_form (instr.Mul d x y) at = computing_form (instr.Mul d x y) at refl (int_wrapping_mul w64) d x y
  instruction_form (instr.Unless op x y t) at = number_form P wrong w a act (slot_at act x) _
      (λ p e. number_form P wrong w a act (slot_at act y) _ (λ q g. branch_form (instr.Unless op x y t) at refl t refl (compares op p q)))
  instruction_form (instr.Jump t) at = aim_form (instr.Jump t) at refl t refl
  instruction_form (instr.For k lo hi e) at = write_form (instr.For k lo hi e) at refl event.Local unseen k lo
  instruction_form (instr.ForTo k lo x hi e) at = limit_form P wrong w a act (Some x) hi _ (λ top. begin_form k lo x hi e at (int_le lo top))
  instruction_form (instr.Next b) at = turning_form b at (option_and_then (loop_head b) (instruction_at m (record act.frame { place = b })))
  instruction_form (instr.Get d s) at = cell_form P wrong w a act (slice_get w.cells s) _
      (λ n. write_form (instr.Get d s) at refl event.Got (unmoved event.Got refl refl) d n)
  instruction_form (instr.Put s x) at = cell_put (instr.Put s x) at refl x s (λ old n. n) event.Put (unmoved event.Put refl refl)
  instruction_form (instr.AddTo s x) at = cell_put (instr.AddTo s x) at refl x s (int_wrapping_add w64) event.Added (unmoved event.Added refl refl)
  instruction_form (instr.Finish e) at = f.opened e at
  instruction_form (instr.EndFinish b) at = f.closing b at
  instruction_form (instr.Print x) at = number_form P wrong w a act (slot_at act x) _
      (λ n e. next_form (instr.Print x) at refl none (event.Printed n) (unmoved (event.Printed n) refl refl))
  instruction_form (instr.Make d) at =
      put_form P wrong w a act (slot_at act d) d (value.Clock (length w.clocks)) (λ z next. made (world_with w z) a next) (λ old there. f.made d old at there)
  instruction_form (instr.Resume x) at = using_form (instr.Resume x) at refl x resumed event.Resumed (λ c. one_moved c resumed event.Resumed refl resumed_held refl refl refl)
  instruction_form (instr.Drop x) at = using_form (instr.Drop x) at refl x dropped event.Dropped
      (λ c. one_moved c dropped event.Dropped refl (λ st h. absurd (false≢true h)) refl refl refl)
  instruction_form instr.Advance at = f.arrives at
  instruction_form (instr.Call t args) at = calling_form t args at (slice_get m.units t) refl
  instruction_form (instr.Spawn t args) at = spawning_form P wrong w a act m t args (slice_get m.units t) (λ u values. f.spawned t args u values at)
  instruction_form instr.Ret at = returning_form at act.callers refl

-- ---- a step

module _ (P : Outcome → Type 0) (m : ModuleValue) (w : World) (a : ℕ) (blocked : P Blocked) (wrong : (c : Cause) → P (Wrong c)) (act : Activity)
    (f : HoldsOfForms P m w a act) where
  -- where a finish ends
  closing_form : (b n : ℕ) → IsNext m act (instr.EndFinish b) → act.opened ≡ n → P (closing w a act n)
  closing_form b zero at e = wrong _
  closing_form b (suc n) at e = cases (awaits w.activities (innermost a act)) refl
    where
      cases : (x : Bool) → awaits w.activities (innermost a act) ≡ x → P (cond x Blocked (done w a (left act n) none event.Closed))
      cases true h = blocked
      cases false h = f.closed b n at e h

  -- a step alone is the one with the finishes that are there
  alone : HoldsOfFamilies (λ outcome. P (outcome (finishes_of w act))) (IsNext m act) m w a act
  alone = record {
    goes = f.goes;
    stored = λ i at plain s n e changes. f.stored i at plain s n e changes.quiet;
    made = f.made;
    opened = f.opened;
    closing = λ b at. closing_form b act.opened at refl;
    arrives = f.arrives;
    calls = f.calls;
    returns = f.returns;
    over = f.over;
    spawned = f.spawned;
  }

  run_form : act.status ≡ status.Running → (o : Option Instr) → instruction_at m act.frame ≡ o → P (run_at m w a act o)
  run_form runs None e = wrong _
  run_form runs (Some i) e = instruction_form (λ outcome. P (outcome (finishes_of w act))) (IsNext m act) m w a wrong act alone i (record { runs = runs; here = e })

  passing_form : act.status ≡ status.Arrived → P (passing w a act)
  passing_form waiting = cases (waits w a)
    where
      cases : (b : Bool) → P (cond b Blocked (done w a (past act (w.steps + 1)) (all passed) event.Passed))
      cases true = blocked
      cases false = f.passes waiting

-- what holds of a blocked step, of each wrong one and of the forms holds of each step
pub step_form : (P : Outcome → Type 0) (m : ModuleValue) (w : World) (a : ℕ) → P Blocked → ((c : Cause) → P (Wrong c))
    → ((act : Activity) → slice_get w.activities a ≡ Some act → HoldsOfForms P m w a act) → P (step m w a)
step_form P m w a blocked wrong f = of (slice_get w.activities a) refl
  where
    by : (act : Activity) → slice_get w.activities a ≡ Some act → (st : Status) → act.status ≡ st → P (step_by m w a act st)
    by act at status.Running e = run_form P m w a blocked wrong act (f act at) e (instruction_at m act.frame) refl
    by act at status.Arrived e = passing_form P m w a blocked wrong act (f act at) e
    by act at status.Ended e = blocked

    of : (o : Option Activity) → slice_get w.activities a ≡ o → P (step_of m w a o)
    of None e = blocked
    of (Some act) e = by act e act.status refl

-- ---- fewer kinds

-- an activity that goes on: it runs, the same finish governs it, and it has closed no finish
pub record GoesOn (act next : Activity) : Type 0 where
  pub runs : next.status ≡ status.Running
  pub governed : next.governed ≡ act.governed
  pub opened : act.opened ≤ next.opened

-- What holds of fewer kinds of steps, where it doesn't matter how an activity goes on: it closes a finish that awaits nobody; it ends; it
-- comes to wait at an `advance`; it goes on, and changes where it stands; it makes a clock; it writes a shared number; it starts an activity.
pub record HoldsOfKinds (P : Outcome → Type 0) (m : ModuleValue) (w : World) (a : ℕ) (act : Activity) : Type 0 where
  pub closed : (n : ℕ) → act.opened ≡ suc n → awaits w.activities (innermost a act) ≡ false → act.status ≡ status.Running → P (done w a (left act n) none event.Closed)
  pub over : instruction_at m act.frame ≡ Some instr.Ret → act.callers ≡ [] → P (done w a (ended act) (all dropped) event.Ended)
  pub arrives : P (done w a (arrived act) (all resumed) event.Arrived)
  pub done : (next : Activity) (change : ℕ → Standing → Standing) (e : Event) → GoesOn act next → starts_or_arrives e ≡ false → (is_local e ≡ true → change ≡ none)
      → P (done w a next change e)
  pub made : (next : Activity) → GoesOn act next → P (made w a next)
  pub stored : (s : ℕ) (n : ℤ) (e : Event) → GoesOn act (onward act) → starts_or_arrives e ≡ false → P (stored w a act s n e)
  pub spawned : (t : ℕ) (args : List ℕ) (values : List Value) → IsNext m act (instr.Spawn t args) → GoesOn act (onward act) → P (spawned m w a act t values)

-- what holds of each of them holds of each step; who takes one hasn't ended
pub step_kind : (P : Outcome → Type 0) (m : ModuleValue) (w : World) (a : ℕ) → P Blocked → ((c : Cause) → P (Wrong c))
    → ((act : Activity) → slice_get w.activities a ≡ Some act → is_ended act.status ≡ false → HoldsOfKinds P m w a act) → P (step m w a)
step_kind P m w a blocked wrong f = step_form P m w a blocked wrong (λ act found. forms act (f act found))
  where
    on : (act : Activity) (frame : Frame) (callers : List Frame) → act.status ≡ status.Running → GoesOn act (record act { frame = frame; callers = callers })
    on act frame callers runs = record { runs = runs; governed = refl; opened = omega arith }

    forms : (act : Activity) → (is_ended act.status ≡ false → HoldsOfKinds P m w a act) → HoldsOfForms P m w a act
    forms act f = record {
      goes = λ i at frame to change e changes. (f (ap is_ended at.runs)).done _ change e (on act frame act.callers at.runs) changes.quiet changes.rests;
      stored = λ i at plain s n e quiet. (f (ap is_ended at.runs)).stored s n e (on act _ act.callers at.runs) quiet;
      made = λ d old at there. (f (ap is_ended at.runs)).made _ (on act _ act.callers at.runs);
      opened = λ e at. (f (ap is_ended at.runs)).done _ none event.Opened (record { runs = at.runs; governed = refl; opened = omega arith }) refl (λ h. refl);
      closed = λ b n at some nobody. (f (ap is_ended at.runs)).closed n some nobody at.runs;
      arrives = λ at. (f (ap is_ended at.runs)).arrives;
      passes = λ waiting. (f (ap is_ended waiting)).done _ (all passed) event.Passed (record { runs = refl; governed = refl; opened = omega arith }) refl
          (λ h. absurd (false≢true h));
      calls = λ t args u values at found given. (f (ap is_ended at.runs)).done _ none event.Local (on act _ (act.frame ∷ act.callers) at.runs) refl (λ h. refl);
      returns = λ g fs at e. (f (ap is_ended at.runs)).done _ none event.Local (on act _ fs at.runs) refl (λ h. refl);
      over = λ at e. (f (ap is_ended at.runs)).over at.here e;
      spawned = λ t args u values at found given. (f (ap is_ended at.runs)).spawned t args values at (on act _ act.callers at.runs);
    }
