-- What a running activity stands at where others can see its next step.
use Rattle.std.proofs.Common.{◌≡◌, ℕ, ℤ, ◌+◌, Bool, true, false, cond, List, [], ◌∷◌, Option, Some, None, refl, sym, ap, ◌∙◌, slice_get}
use Rattle.std.specs.Prelude.{int_lt, int_le}
use Rattle.std.specs.Int.{int_min}
use Rattle.std.specs.Option.{option_and_then}
use Rattle.std.proofs.lemmas.Bool.{false≢true}
use Rattle.xk_types.specs.declared.instr.Instr.{Instr}
use Rattle.xk_types.specs.declared.instr.Instr.TheVariants as instr
use Rattle.xk_types.specs.declared.world.Value.{Value}
use Rattle.xk_types.specs.declared.world.Value.TheVariants as value
use Rattle.xk_types.specs.declared.unit.ParamKind.{ParamKind}
use Rattle.xk_types.specs.declared.unit.ParamKind.TheVariants as param
use Rattle.xk_types.specs.Code.{UnitValue, Loop, loop_head, is_method, compares}
use Rattle.xk_types.specs.World.{Frame}
use Rattle.xk_activity.specs.Local.{OutcomeOf, Beyond, Wrong, Stepped, Spot, Turn, FramesValue, in_frame, put_in, number_in, clock_in, arguments_in, no_further, beginning, turning, turned, carried_on, code_of, spot_of, onward, called, calling, returning}
use Rattle.xk_activity.specs.Interpreter.{is_more}
use Rattle.xk_core.specs.InstructionEffect.{is_visible}

number_beyond : {X : Type 0} (o : Option Value) (go : ℤ → OutcomeOf X) → ((n : ℤ) → is_more (go n) ≡ false) → is_more (number_in o go) ≡ false
number_beyond None go h = refl
number_beyond (Some value.Unset) go h = refl
number_beyond (Some (value.Number n)) go h = h n
number_beyond (Some (value.Clock c)) go h = refl

clock_beyond : {X : Type 0} (o : Option Value) (go : ℕ → OutcomeOf X) → ((c : ℕ) → is_more (go c) ≡ false) → is_more (clock_in o go) ≡ false
clock_beyond None go h = refl
clock_beyond (Some value.Unset) go h = refl
clock_beyond (Some (value.Number n)) go h = refl
clock_beyond (Some (value.Clock c)) go h = h c

put_beyond : (o : Option Value) (f : Spot) (d : ℕ) (v : Value) → is_more (put_in o f d v) ≡ false
put_beyond None f d v = refl
put_beyond (Some old) f d v = refl

cond_beyond : {X : Type 0} (b : Bool) (p q : OutcomeOf X) → is_more p ≡ false → is_more q ≡ false → is_more (cond b p q) ≡ false
cond_beyond true p q h g = h
cond_beyond false p q h g = g

further_beyond : (f : Spot) (o : Option ℕ) (hi : ℤ) (go : ℤ → Turn) → ((top : ℤ) → is_more (go top) ≡ false) → is_more (no_further f o hi go) ≡ false
further_beyond f None hi go h = h hi
further_beyond f (Some x) hi go h = number_beyond (slice_get f.slots x) _ (λ n. h (int_min n hi))

begin_beyond : (f : Spot) (k : ℕ) (lo : ℤ) (t : ℕ) (top : ℤ) → is_more (beginning f k lo t top) ≡ false
begin_beyond f k lo t top = cond_beyond (int_le lo top) _ _ (put_beyond (slice_get f.slots k) f k _) refl

turn_beyond : (f : Spot) (b : ℕ) (o : Option Loop) → is_more (turning f b o) ≡ false
turn_beyond f b None = refl
turn_beyond f b (Some l) = number_beyond (slice_get f.slots l.slot) _
    (λ n. further_beyond f l.limit l.hi (turned f b l.slot n) (λ top. cond_beyond (int_lt n top) _ _ refl refl))

arguments_beyond : {X : Type 0} (slots : List Value) (ps : List ParamKind) (xs : List ℕ) (go : List Value → OutcomeOf X) → ((vs : List Value) → is_more (go vs) ≡ false)
    → is_more (arguments_in slots ps xs go) ≡ false
arguments_beyond slots [] [] go h = h []
arguments_beyond slots [] (x ∷ xs) go h = refl
arguments_beyond slots (p ∷ ps) [] go h = refl
arguments_beyond slots (param.Number ∷ ps) (x ∷ xs) go h = number_beyond (slice_get slots x) _
    (λ n. arguments_beyond slots ps xs (λ values. go (value.Number n ∷ values)) (λ vs. h (value.Number n ∷ vs)))
arguments_beyond slots (param.Clock ∷ ps) (x ∷ xs) go h = clock_beyond (slice_get slots x) _
    (λ c. arguments_beyond slots ps xs (λ values. go (value.Clock c ∷ values)) (λ vs. h (value.Clock c ∷ vs)))

call_beyond : (fs : FramesValue) (t : ℕ) (args : List ℕ) (o : Option UnitValue) → is_more (calling fs t args o) ≡ false
call_beyond fs t args None = refl
call_beyond fs t args (Some u) = cond_beyond (is_method u.kind) _ _
    (arguments_beyond fs.frame.slots u.params args (λ values. Stepped (called fs t values)) (λ vs. refl)) refl

in_frame_beyond : (fs : FramesValue) (t : Turn) → is_more (in_frame fs t) ≡ is_more t
in_frame_beyond fs Beyond = refl
in_frame_beyond fs Wrong = refl
in_frame_beyond fs (Stepped s) = refl

-- an instruction that concerns the present frame alone, or calls a method, never concerns more
module _ (fs : FramesValue) where
  abbrev f : Spot
  f = spot_of fs.frame

  hidden : (t : Turn) → is_more t ≡ false → in_frame fs t ≡ Beyond → (b : Bool) → b ≡ true
  hidden t h e b = absurd (false≢true (sym (in_frame_beyond fs t ∙ h) ∙ ap is_more e))

  two : (op : ℤ → ℤ → Turn) (x y : ℕ) → ((p q : ℤ) → is_more (op p q) ≡ false)
      → is_more (number_in (slice_get f.slots x) (λ p. number_in (slice_get f.slots y) (λ q. op p q))) ≡ false
  two op x y h = number_beyond (slice_get f.slots x) _ (λ p. number_beyond (slice_get f.slots y) _ (λ q. h p q))

  -- so the instruction where a step does is one that others can see
  pub visible_there : (i : Instr) → carried_on fs i ≡ Beyond → is_visible i ≡ true
  visible_there (instr.Lit d n) e = hidden _ (put_beyond (slice_get f.slots d) f d _) e false
  visible_there (instr.Copy d x) e = hidden _ (number_beyond (slice_get f.slots x) _ (λ n. put_beyond (slice_get f.slots d) f d _)) e false
  visible_there (instr.Add d x y) e = hidden _ (two _ x y (λ p q. put_beyond (slice_get f.slots d) f d _)) e false
  visible_there (instr.Sub d x y) e = hidden _ (two _ x y (λ p q. put_beyond (slice_get f.slots d) f d _)) e false
  visible_there (instr.Mul d x y) e = hidden _ (two _ x y (λ p q. put_beyond (slice_get f.slots d) f d _)) e false
  visible_there (instr.Unless op x y t) e = hidden _ (two (λ p q. Stepped (cond (compares op p q) (onward f) (record f { place = t }))) x y (λ p q. refl)) e false
  visible_there (instr.Jump t) e = hidden (Stepped (record f { place = t })) refl e false
  visible_there (instr.For k lo hi end) e = hidden _ (put_beyond (slice_get f.slots k) f k _) e false
  visible_there (instr.ForTo k lo x hi end) e = hidden _ (further_beyond f (Some x) hi (beginning f k lo (end + 1)) (begin_beyond f k lo (end + 1))) e false
  visible_there (instr.Next b) e = hidden _ (turn_beyond f b (option_and_then (loop_head b) (slice_get (code_of fs.module_run fs.frame.unit) b))) e false
  visible_there (instr.Call t args) e = absurd (false≢true (sym (call_beyond fs t args (slice_get fs.module_run.units t)) ∙ ap is_more e))
  visible_there _ e = refl

  -- and at a `ret` no frame waits
  pub nobody_waits : (gs : List Frame) → returning fs gs ≡ Beyond → gs ≡ []
  nobody_waits [] e = refl
  nobody_waits (g ∷ gs) e = absurd (false≢true (ap is_more e))
