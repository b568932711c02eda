-- What may still be carried out, by tables: from each place of each unit on, and from there on before the next `advance`.
use Rattle.std.specs.Prelude.{◌≡◌, ℕ, ◌+◌, ◌⊎◌, Bool, true, false, List, [], ◌∷◌, Some, slice_get}
use Rattle.xk_types.specs.declared.instr.Instr.{Instr}
use Rattle.xk_types.specs.declared.instr.Instr.TheVariants as instr
use Rattle.xk_types.specs.Code.{ModuleValue}
use Rattle.xk_types.specs.World.{Frame, Activity, World, instruction_at}
use Rattle.xk_types.specs.Shape.{target}
use Rattle.xk_closed.specs.Closed.{IsStuck}
use Rattle.xk_closed.specs.Phases.{IsHeldUp}

-- for each place of each unit, a set of instructions
abbrev pub Table : Type 0
Table = ℕ → ℕ → Instr → Bool

-- the place where one comes to in its unit behind an instruction
abbrev pub IsBehind : Instr → ℕ → ℕ → Type 0
IsBehind i p q = (q ≡ p + 1) ⊎ ((target i ≡ Some q) ⊎ ((b : ℕ) × (i ≡ instr.Next b) × (q ≡ b + 1)))

abbrev pub is_advance : Instr → Bool
is_advance instr.Advance = true
is_advance _ = false

-- The table has what may be carried out from a place on, by who stands there and by whom it starts.
pub record IsRest (m : ModuleValue) (rest : Table) : Type 0 where
  pub own : (f : Frame) (i : Instr) → instruction_at m f ≡ Some i → rest f.unit f.place i ≡ true
  pub on : (u p : ℕ) (j : Instr) → rest u (p + 1) j ≡ true → rest u p j ≡ true
  pub goes : (f : Frame) (i j : Instr) (q : ℕ) → instruction_at m f ≡ Some i → IsBehind i f.place q → rest f.unit q j ≡ true
      → rest f.unit f.place j ≡ true
  pub calls : (f : Frame) (t : ℕ) (args : List ℕ) (j : Instr) → instruction_at m f ≡ Some (instr.Call t args) → rest t 0 j ≡ true
      → rest f.unit f.place j ≡ true
  pub starts : (f : Frame) (t : ℕ) (args : List ℕ) (j : Instr) → instruction_at m f ≡ Some (instr.Spawn t args) → rest t 0 j ≡ true
      → rest f.unit f.place j ≡ true

-- And this one before the next pass of an `advance`; but all that whoever is started may carry out, and all behind a call.
pub record IsPhase (m : ModuleValue) (rest phase : Table) : Type 0 where
  pub own : (f : Frame) (i : Instr) → instruction_at m f ≡ Some i → phase f.unit f.place i ≡ true
  pub goes : (f : Frame) (i j : Instr) (q : ℕ) → instruction_at m f ≡ Some i → is_advance i ≡ false → IsBehind i f.place q
      → phase f.unit q j ≡ true
      → phase f.unit f.place j ≡ true
  pub calls : (f : Frame) (t : ℕ) (args : List ℕ) (j : Instr) → instruction_at m f ≡ Some (instr.Call t args) → phase t 0 j ≡ true
      → phase f.unit f.place j ≡ true
  pub behind : (f : Frame) (t : ℕ) (args : List ℕ) (j : Instr) → instruction_at m f ≡ Some (instr.Call t args)
      → rest f.unit (f.place + 1) j ≡ true
      → phase f.unit f.place j ≡ true
  pub starts : (f : Frame) (t : ℕ) (args : List ℕ) (j : Instr) → instruction_at m f ≡ Some (instr.Spawn t args) → rest t 0 j ≡ true
      → phase f.unit f.place j ≡ true
  pub within : (u p : ℕ) (j : Instr) → phase u p j ≡ true → rest u p j ≡ true

-- frames that wait go on behind their calls
abbrev pub RestOf : Table → List Frame → Instr → Type 0
RestOf rest [] j = ⊥
RestOf rest (f ∷ fs) j = (rest f.unit (f.place + 1) j ≡ true) ⊎ RestOf rest fs j

-- what the activity may carry out, and those that it starts; and before it passes an `advance`
abbrev pub MayDo : Table → Activity → Instr → Type 0
MayDo rest act j = (rest act.frame.unit act.frame.place j ≡ true) ⊎ RestOf rest act.callers j

abbrev pub MayDoNow : Table → Table → Activity → Instr → Type 0
MayDoNow rest phase act j = (phase act.frame.unit act.frame.place j ≡ true) ⊎ RestOf rest act.callers j

-- Activity r is held up on a clock by one of the set, and drops no clock before it passes an `advance`; what it may do
-- by then passes the test.
pub record IsBounded (w : World) (set : ℕ → Bool) (rest phase : Table) (future : Instr → Bool) (r : ℕ) (act : Activity) : Type 0 where
  pub clock : ℕ
  pub holder : ℕ
  pub inside : set holder ≡ true
  pub held : IsHeldUp w clock r holder
  pub does : (j : Instr) → MayDoNow rest phase act j → future j ≡ true
  pub stays : (k : ℕ) → MayDoNow rest phase act (instr.Drop k) → ⊥

-- what each of the others may do passes the test: all of it, or what it may do in this phase; or it does nothing
abbrev pub AreCovered : ModuleValue → World → (ℕ → Bool) → Table → Table → (Instr → Bool) → Type 0
AreCovered m w set rest phase future = (r : ℕ) (act : Activity) → slice_get w.activities r ≡ Some act → set r ≡ false
    → ((j : Instr) → MayDo rest act j → future j ≡ true) ⊎ (IsBounded w set rest phase future r act ⊎ IsStuck m w set r)
