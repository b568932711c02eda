-- A local step is the world's step, told of the frames alone.
use Rattle.std.specs.Option.{option_map_or, option_and_then}
use Rattle.std.specs.Prelude.{slice_set, int_lt, int_le, ◌+ℤ◌, pos}
use Rattle.std.specs.Int.{w64, int_min, int_wrapping_add, int_wrapping_sub, int_wrapping_mul}
use Rattle.std.proofs.Common.{◌≡◌, ℕ, zero, suc, ℤ, Bool, true, false, cond, List, [], ◌∷◌, length, ◌+◌, refl, sym, subst, Option, Some, None, slice_get}
use Rattle.xk_types.specs.declared.world.Value.{Value}
use Rattle.xk_types.specs.declared.world.Value.TheVariants as value
use Rattle.xk_types.specs.declared.world.Status.TheVariants as status
use Rattle.xk_types.specs.declared.world.Event.TheVariants as event
use Rattle.xk_types.specs.declared.instr.Instr.{Instr}
use Rattle.xk_types.specs.declared.instr.Instr.TheVariants as instr
use Rattle.xk_types.specs.declared.unit.ParamKind.{ParamKind}
use Rattle.xk_types.specs.declared.unit.ParamKind.TheVariants as param
use Rattle.xk_types.specs.Code.{UnitValue, ModuleValue, Loop, loop_head, is_method, is_body, compares}
use Rattle.xk_types.specs.World.{Frame, Activity, Clock, World, instruction_at, standing_of}
use Rattle.xk_types.specs.Step as world
use Rattle.xk_activity.specs.Local.{Outcome, Beyond, Wrong, Stepped, Turn, FramesValue, in_frame, carried_on, local, local_at, code_of, spot_of, onward, number_in, clock_in, arguments_in, put_in, writing, no_further, beginning, turning, turned, calling, called, returning}
use Rattle.xk_activity.specs.StepAgreement.{frames_in, IsSeen, Agrees}

-- ---- steps that others can see

seen_number : (o : Option Value) (go : ℤ → world.Outcome) → ((n : ℤ) → IsSeen (go n)) → IsSeen (world.number_in o go)
seen_number None go h = tt
seen_number (Some value.Unset) go h = tt
seen_number (Some (value.Number n)) go h = h n
seen_number (Some (value.Clock c)) go h = tt

seen_registered : (o : Option Clock) (a : ℕ) (x : world.Outcome) → IsSeen x → IsSeen (world.registered_on o a x)
seen_registered None a x h = tt
seen_registered (Some c) a x h = tested (world.is_registered (standing_of c a))
  where
    tested : (b : Bool) → IsSeen (cond b x (world.Wrong world.ClockUse))
    tested true = h
    tested false = tt

seen_clock : (w : World) (a : ℕ) (o : Option Value) (go : ℕ → world.Outcome) → ((c : ℕ) → IsSeen (go c)) → IsSeen (world.clock_in w a o go)
seen_clock w a None go h = tt
seen_clock w a (Some value.Unset) go h = tt
seen_clock w a (Some (value.Number n)) go h = tt
seen_clock w a (Some (value.Clock c)) go h = seen_registered (slice_get w.clocks c) a (go c) (h c)

seen_cell : (o : Option ℤ) (go : ℤ → world.Outcome) → ((n : ℤ) → IsSeen (go n)) → IsSeen (world.cell_in o go)
seen_cell None go h = tt
seen_cell (Some n) go h = h n

seen_put : (o : Option Value) (act : Activity) (d : ℕ) (v : Value) (go : Activity → world.Outcome) → ((x : Activity) → IsSeen (go x)) → IsSeen (world.put_in o act d v go)
seen_put None act d v go h = tt
seen_put (Some old) act d v go h = h _

seen_arguments : (w : World) (a : ℕ) (act : Activity) (ps : List ParamKind) (xs : List ℕ) (go : List Value → world.Outcome) → ((vs : List Value) → IsSeen (go vs))
    → IsSeen (world.arguments_in w a act ps xs go)
seen_arguments w a act [] [] go h = h []
seen_arguments w a act [] (x ∷ xs) go h = tt
seen_arguments w a act (p ∷ ps) [] go h = tt
seen_arguments w a act (param.Number ∷ ps) (x ∷ xs) go h =
    seen_number (world.slot_at act x) _ (λ n. seen_arguments w a act ps xs (λ values. go (value.Number n ∷ values)) (λ vs. h (value.Number n ∷ vs)))
seen_arguments w a act (param.Clock ∷ ps) (x ∷ xs) go h =
    seen_clock w a (world.slot_at act x) _ (λ c. seen_arguments w a act ps xs (λ values. go (value.Clock c ∷ values)) (λ vs. h (value.Clock c ∷ vs)))

seen_spawning : (m : ModuleValue) (w : World) (a : ℕ) (act : Activity) (t : ℕ) (args : List ℕ) (o : Option UnitValue) → IsSeen (world.spawning m w a act t args o)
seen_spawning m w a act t args None = tt
seen_spawning m w a act t args (Some u) = tested (is_body u.kind)
  where
    tested : (b : Bool) → IsSeen (cond b (world.arguments_in w a act u.params args (world.spawned m w a act t)) (world.Wrong world.OutOfRange))
    tested true = seen_arguments w a act u.params args (world.spawned m w a act t) (λ vs. refl)
    tested false = tt

seen_closing : (w : World) (a : ℕ) (act : Activity) (n : ℕ) → IsSeen (world.closing w a act n)
seen_closing w a act zero = tt
seen_closing w a act (suc n) = tested (world.awaits w.activities (world.innermost a act))
  where
    tested : (b : Bool) → IsSeen (cond b world.Blocked (world.done w a (world.left act n) world.none event.Closed))
    tested true = tt
    tested false = refl

-- ---- steps on the frames

module _ (m : ModuleValue) (w : World) (a : ℕ) (act : Activity) where
  abbrev now : FramesValue
  now = frames_in m act

  abbrev Fits : Turn → world.Outcome → Type 0
  Fits t o = Agrees w a act (in_frame now t) o

  number_fits : (o : Option Value) (f : ℤ → Turn) (g : ℤ → world.Outcome) → ((n : ℤ) → Fits (f n) (g n)) → Fits (number_in o f) (world.number_in o g)
  number_fits None f g h = tt
  number_fits (Some value.Unset) f g h = tt
  number_fits (Some (value.Number n)) f g h = h n
  number_fits (Some (value.Clock c)) f g h = tt

  writing_fits : (o : Option Value) (d : ℕ) (n : ℤ)
      → Fits (put_in o (spot_of act.frame) d (value.Number n)) (world.put_in o act d (value.Number n) (λ next. world.done w a next world.none event.Local))
  writing_fits None d n = tt
  writing_fits (Some old) d n = refl

  computing_fits : (f : ℤ → ℤ → ℤ) (d x y : ℕ) → Agrees w a act (in_frame now (number_in (slice_get act.frame.slots x) (λ p. number_in (slice_get act.frame.slots y) (λ q. put_in (slice_get act.frame.slots d) (spot_of act.frame) d (value.Number (f p q)))))) (world.computing w a act f d x y)
  computing_fits f d x y = number_fits (world.slot_at act x) _ _ (λ p. number_fits (world.slot_at act y) _ _ (λ q. writing_fits (world.slot_at act d) d (f p q)))

  further_fits : (o : Option ℕ) (hi : ℤ) (f : ℤ → Turn) (g : ℤ → world.Outcome) → ((top : ℤ) → Fits (f top) (g top))
      → Fits (no_further (spot_of act.frame) o hi f) (world.no_further act o hi g)
  further_fits None hi f g h = h hi
  further_fits (Some x) hi f g h = number_fits (world.slot_at act x) _ _ (λ n. h (int_min n hi))

  beginning_fits : (k : ℕ) (lo : ℤ) (t : ℕ) (top : ℤ) → Fits (beginning (spot_of act.frame) k lo t top) (world.beginning w a act k lo t top)
  beginning_fits k lo t top = go (int_le lo top)
    where
      go : (c : Bool) → Fits (cond c (writing (spot_of act.frame) k lo) (Stepped (record (spot_of act.frame) { place = t })))
          (cond c (world.writing act k (value.Number lo) (λ next. world.done w a next world.none event.Local)) (world.done w a (world.going act t) world.none event.Local))
      go true = writing_fits (world.slot_at act k) k lo
      go false = refl

  turned_fits : (b k : ℕ) (n top : ℤ) → Fits (turned (spot_of act.frame) b k n top) (world.done w a (cond (int_lt n top) (world.again act b k n) (world.onward act)) world.none event.Local)
  turned_fits b k n top = go (int_lt n top)
    where
      go : (c : Bool) → Fits (cond c (Stepped (record { place = b + 1; slots = slice_set act.frame.slots k (value.Number (n +ℤ pos 1)) })) (Stepped (onward (spot_of act.frame))))
          (world.done w a (cond c (world.again act b k n) (world.onward act)) world.none event.Local)
      go true = refl
      go false = refl

  turning_fits : (b : ℕ) (o : Option Loop) → Fits (turning (spot_of act.frame) b o) (world.turning w a act b o)
  turning_fits b None = tt
  turning_fits b (Some l) = number_fits (world.slot_at act l.slot) _ _ (λ n. further_fits l.limit l.hi _ _ (λ top. turned_fits b l.slot n top))

  branch_fits : (c : Bool) (t : ℕ) → Fits (Stepped (cond c (onward (spot_of act.frame)) (record (spot_of act.frame) { place = t })))
      (world.done w a (cond c (world.onward act) (world.going act t)) world.none event.Local)
  branch_fits true t = refl
  branch_fits false t = refl

  -- ---- calls

  wrong_agrees : (f : Outcome) (c : world.Cause) → Agrees w a act f (world.Wrong c)
  wrong_agrees Beyond c = tt
  wrong_agrees Wrong c = tt
  wrong_agrees (Stepped fs) c = tt

  registered_agrees : (f : Outcome) (o : Option Clock) (x : world.Outcome) → Agrees w a act f x → Agrees w a act f (world.registered_on o a x)
  registered_agrees f None x h = wrong_agrees f world.OutOfRange
  registered_agrees f (Some c) x h = tested (world.is_registered (standing_of c a))
    where
      tested : (b : Bool) → Agrees w a act f (cond b x (world.Wrong world.ClockUse))
      tested true = h
      tested false = wrong_agrees f world.ClockUse

  number_agrees : (o : Option Value) (f : ℤ → Outcome) (g : ℤ → world.Outcome) → ((n : ℤ) → Agrees w a act (f n) (g n))
      → Agrees w a act (number_in o f) (world.number_in o g)
  number_agrees None f g h = tt
  number_agrees (Some value.Unset) f g h = tt
  number_agrees (Some (value.Number n)) f g h = h n
  number_agrees (Some (value.Clock c)) f g h = tt

  clock_agrees : (o : Option Value) (f : ℕ → Outcome) (g : ℕ → world.Outcome) → ((c : ℕ) → Agrees w a act (f c) (g c))
      → Agrees w a act (clock_in o f) (world.clock_in w a o g)
  clock_agrees None f g h = tt
  clock_agrees (Some value.Unset) f g h = tt
  clock_agrees (Some (value.Number n)) f g h = tt
  clock_agrees (Some (value.Clock c)) f g h = registered_agrees (f c) (slice_get w.clocks c) (g c) (h c)

  arguments_agree : (ps : List ParamKind) (xs : List ℕ) (f : List Value → Outcome) (g : List Value → world.Outcome) → ((vs : List Value) → Agrees w a act (f vs) (g vs))
      → Agrees w a act (arguments_in act.frame.slots ps xs f) (world.arguments_in w a act ps xs g)
  arguments_agree [] [] f g h = h []
  arguments_agree [] (x ∷ xs) f g h = tt
  arguments_agree (p ∷ ps) [] f g h = tt
  arguments_agree (param.Number ∷ ps) (x ∷ xs) f g h =
      number_agrees (world.slot_at act x) _ _ (λ n. arguments_agree ps xs (λ vs. f (value.Number n ∷ vs)) (λ vs. g (value.Number n ∷ vs)) (λ vs. h (value.Number n ∷ vs)))
  arguments_agree (param.Clock ∷ ps) (x ∷ xs) f g h =
      clock_agrees (world.slot_at act x) _ _ (λ c. arguments_agree ps xs (λ vs. f (value.Clock c ∷ vs)) (λ vs. g (value.Clock c ∷ vs)) (λ vs. h (value.Clock c ∷ vs)))

  calling_agrees : (t : ℕ) (args : List ℕ) (o : Option UnitValue) → Agrees w a act (calling now t args o) (world.calling m w a act t args o)
  calling_agrees t args None = tt
  calling_agrees t args (Some u) = tested (is_method u.kind)
    where
      tested : (b : Bool) → Agrees w a act (cond b (arguments_in act.frame.slots u.params args (λ values. Stepped (called now t values))) Wrong)
          (cond b (world.arguments_in w a act u.params args (λ values. world.done w a (world.called m act t values) world.none event.Local)) (world.Wrong world.OutOfRange))
      tested true = arguments_agree u.params args _ _ (λ vs. refl)
      tested false = tt

  returning_agrees : (fs : List Frame) → Agrees w a act (returning now fs) (world.returning w a act fs)
  returning_agrees [] = refl
  returning_agrees (f ∷ fs) = refl

  -- ---- each instruction

  same_instruction : (b : ℕ) → slice_get (code_of m act.frame.unit) b ≡ instruction_at m (record act.frame { place = b })
  same_instruction b = go (slice_get m.units act.frame.unit)
    where
      go : (o : Option UnitValue) → slice_get (option_map_or (λ u. u.code) o []) b ≡ option_and_then (λ unit. slice_get unit.code b) o
      go None = refl
      go (Some u) = refl

  carried_agrees : (i : Instr) → Agrees w a act (carried_on now i) (world.carried_out m w a act i)
  carried_agrees (instr.Lit d n) = writing_fits (world.slot_at act d) d n
  carried_agrees (instr.Copy d x) = number_fits (world.slot_at act x) _ _ (λ n. writing_fits (world.slot_at act d) d n)
  carried_agrees (instr.Add d x y) = computing_fits (int_wrapping_add w64) d x y
  carried_agrees (instr.Sub d x y) = computing_fits (int_wrapping_sub w64) d x y
  carried_agrees (instr.Mul d x y) = computing_fits (int_wrapping_mul w64) d x y
  carried_agrees (instr.Unless op x y t) =
      number_fits (world.slot_at act x) _ _ (λ p. number_fits (world.slot_at act y) _ _ (λ q. branch_fits (compares op p q) t))
  carried_agrees (instr.Jump t) = refl
  carried_agrees (instr.For k lo hi e) = writing_fits (world.slot_at act k) k lo
  carried_agrees (instr.ForTo k lo x hi e) = further_fits (Some x) hi _ _ (λ top. beginning_fits k lo (e + 1) top)
  carried_agrees (instr.Next b) =
      subst (λ o. Agrees w a act (in_frame now (turning (spot_of act.frame) b (option_and_then (loop_head b) o))) (world.carried_out m w a act (instr.Next b))) (sym (same_instruction b))
      (turning_fits b (option_and_then (loop_head b) (instruction_at m (record act.frame { place = b }))))
  carried_agrees (instr.Finish e) = refl
  carried_agrees (instr.EndFinish b) = seen_closing w a act act.opened
  carried_agrees (instr.Get d s) = seen_cell (slice_get w.cells s) _ (λ n. seen_put (world.slot_at act d) act d (value.Number n) _ (λ x. refl))
  carried_agrees (instr.Put s x) = seen_number (world.slot_at act x) _ (λ n. seen_cell (slice_get w.cells s) _ (λ old. refl))
  carried_agrees (instr.AddTo s x) = seen_number (world.slot_at act x) _ (λ n. seen_cell (slice_get w.cells s) _ (λ old. refl))
  carried_agrees (instr.Print x) = seen_number (world.slot_at act x) _ (λ n. refl)
  carried_agrees (instr.Make k) = seen_put (world.slot_at act k) act k (value.Clock (length w.clocks)) _ (λ x. refl)
  carried_agrees (instr.Resume k) = seen_clock w a (world.slot_at act k) _ (λ c. refl)
  carried_agrees (instr.Drop k) = seen_clock w a (world.slot_at act k) _ (λ c. refl)
  carried_agrees instr.Advance = refl
  carried_agrees (instr.Call t args) = calling_agrees t args (slice_get m.units t)
  carried_agrees (instr.Spawn t args) = seen_spawning m w a act t args (slice_get m.units t)
  carried_agrees instr.Ret = returning_agrees act.callers

  at_agrees : (o : Option Instr) → Agrees w a act (local_at now o) (world.run_at m w a act o)
  at_agrees None = tt
  at_agrees (Some i) = carried_agrees i

-- A running activity's step: what its frames alone tell of it is what the world does.
pub joined : (m : ModuleValue) (w : World) (a : ℕ) (act : Activity) → slice_get w.activities a ≡ Some act → act.status ≡ status.Running
    → Agrees w a act (local (frames_in m act)) (world.step m w a)
joined m w a act there running =
    subst (λ o. Agrees w a act (local (frames_in m act)) (world.step_of m w a o)) (sym there)
    (subst (λ s. Agrees w a act (local (frames_in m act)) (world.step_by m w a act s)) (sym running) (at_agrees m w a act (instruction_at m act.frame)))
