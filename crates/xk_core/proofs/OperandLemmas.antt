-- From a step of the definition to what the arms owe, and back.
use Rattle.std.proofs.Common.{◌≡◌, ℕ, suc, ℤ, ◌<◌, Bool, true, false, List, [], ◌∷◌, length, map, arith, Option, Some, None, slice_get, refl, ap, sym, cond, All, ◌∙◌}
use Rattle.std.proofs.lemmas.Option.{slice_get_within, get_or_from_slice_get}
use Rattle.std.proofs.lemmas.Bool.{false≢true}
use Rattle.std.proofs.lemmas.List.Elements.{All-cons}
use Rattle.xk_types.specs.declared.instr.Instr.{Instr}
use Rattle.xk_types.specs.declared.instr.Instr.TheVariants as instr
use Rattle.xk_types.specs.declared.world.Value.{Value}
use Rattle.xk_types.specs.declared.world.Value.TheVariants as value
use Rattle.xk_types.specs.declared.world.Event.{Event}
use Rattle.xk_types.specs.declared.unit.ParamKind.{ParamKind}
use Rattle.xk_types.specs.declared.unit.ParamKind.TheVariants as param
use Rattle.xk_types.specs.Code.{UnitValue, ModuleValue, is_body}
use Rattle.xk_types.specs.World.{Activity, Clock, World, standing_of}
use Rattle.xk_types.specs.Step.{Outcome, Wrong, ClockUse, OutOfRange, carried_out, number_in, clock_in, registered_on, arguments_in, spawned, spawning, is_registered, slot_at, cell_in, stored}
use Rattle.xk_types.specs.Schedule.{is_step}
use Rattle.xk_core.specs.InstructionEffect.{value_at, carried, carried_by}

-- the value that is read in a slot is the one there
value_there : (act : Activity) (s : ℕ) (v : Value) → slot_at act s ≡ Some v → value_at act s ≡ v
value_there act s v e = get_or_from_slice_get act.frame.slots s v value.Unset e

-- a step that reads a number has one
number_there : (o : Option Value) (go : ℤ → Outcome) → is_step (number_in o go) ≡ true → (n : ℤ) × (o ≡ Some (value.Number n)) × (is_step (go n) ≡ true)
number_there None go h = cc
number_there (Some value.Unset) go h = cc
number_there (Some (value.Number n)) go h = (n, refl, h)
number_there (Some (value.Clock c)) go h = cc

-- a step on a clock names one
clock_there : (w : World) (a : ℕ) (o : Option Value) (go : ℕ → Outcome) → is_step (clock_in w a o go) ≡ true → (c : ℕ) × (o ≡ Some (value.Clock c))
clock_there w a None go h = cc
clock_there w a (Some value.Unset) go h = cc
clock_there w a (Some (value.Number n)) go h = cc
clock_there w a (Some (value.Clock c)) go h = (c, refl)

-- a registered clock goes on
pub registered_step : (o : Option Clock) (a : ℕ) (go : Outcome) → is_step (registered_on o a go) ≡ true → registered_on o a go ≡ go
registered_step None a go h = cc
registered_step (Some c) a go h = tested (is_registered (standing_of c a)) h
  where
    tested : (s : Bool) → is_step (cond s go (Wrong ClockUse)) ≡ true → cond s go (Wrong ClockUse) ≡ go
    tested true k = refl
    tested false k = cc

-- ---- arguments

-- arguments of a step are there: as many as parameters, each in a slot, and the step goes on with their values
arguments_there : (w : World) (a : ℕ) (act : Activity) (ps : List ParamKind) (xs : List ℕ) (go : List Value → Outcome) → is_step (arguments_in w a act ps xs go) ≡ true
    → (length xs ≡ length ps) × All (λ s. s < length act.frame.slots) xs × (arguments_in w a act ps xs go ≡ go (map (value_at act) xs))
arguments_there w a act [] [] go h = (refl, λ k d lt. absurd (omega arith), refl)
arguments_there w a act [] (x ∷ xs) go h = cc
arguments_there w a act (p ∷ ps) [] go h = cc
arguments_there w a act (param.Number ∷ ps) (x ∷ xs) go h =
    let n = number_there (slot_at act x) (λ z. arguments_in w a act ps xs (λ values. go (value.Number z ∷ values))) h in
    let r = arguments_there w a act ps xs (λ values. go (value.Number n.0 ∷ values)) n.2 in (
      ap suc r.0,
      All-cons (λ s. s < length act.frame.slots) x xs (slice_get_within act.frame.slots x _ n.1) r.1,
      ap (λ o. number_in o (λ z. arguments_in w a act ps xs (λ values. go (value.Number z ∷ values)))) n.1 ∙ r.2
          ∙ ap (λ v. go (v ∷ map (value_at act) xs)) (sym (value_there act x _ n.1)),
    )
arguments_there w a act (param.Clock ∷ ps) (x ∷ xs) go h =
    let c = clock_there w a (slot_at act x) (λ k. arguments_in w a act ps xs (λ values. go (value.Clock k ∷ values))) h in
    let g : is_step (registered_on (slice_get w.clocks c.0) a (arguments_in w a act ps xs (λ values. go (value.Clock c.0 ∷ values)))) ≡ true = rw c.1 at h in
    let e = registered_step (slice_get w.clocks c.0) a (arguments_in w a act ps xs (λ values. go (value.Clock c.0 ∷ values))) g in
    let r = arguments_there w a act ps xs (λ values. go (value.Clock c.0 ∷ values)) (rw e at g) in (
      ap suc r.0,
      All-cons (λ s. s < length act.frame.slots) x xs (slice_get_within act.frame.slots x _ c.1) r.1,
      ap (λ o. clock_in w a o (λ k. arguments_in w a act ps xs (λ values. go (value.Clock k ∷ values)))) c.1 ∙ e ∙ r.2
          ∙ ap (λ v. go (v ∷ map (value_at act) xs)) (sym (value_there act x _ c.1)),
    )

-- ---- over the list of activities

within_by : (m : ModuleValue) (w : World) (a : ℕ) (i : Instr) (o : Option Activity) → slice_get w.activities a ≡ o → is_step (carried_by m w a i o) ≡ true → a < length w.activities
within_by m w a i None e h = cc
within_by m w a i (Some act) e h = slice_get_within w.activities a act e

-- an activity that takes a step exists
pub carried_within : (m : ModuleValue) (w : World) (a : ℕ) (i : Instr) → is_step (carried m w a i) ≡ true → a < length w.activities
carried_within m w a i h = within_by m w a i (slice_get w.activities a) refl h

-- the step of the activity there
carried_there : (m : ModuleValue) (w : World) (a : ℕ) (i : Instr) (act : Activity) → slice_get w.activities a ≡ Some act → carried m w a i ≡ carried_out m w a act i
carried_there m w a i act e = ap (carried_by m w a i) e

-- ---- starting an activity

-- the unit is a body
body_there : (b : Bool) (o : Outcome) → is_step (cond b o (Wrong OutOfRange)) ≡ true → (cond b o (Wrong OutOfRange) ≡ o) × (is_step o ≡ true)
body_there true o h = (refl, h)
body_there false o h = cc

-- what a step at a `spawn` has: as many arguments as the unit has parameters, each in a slot; and what it leads to
pub record IsSpawn (m : ModuleValue) (w : World) (a : ℕ) (act : Activity) (unit : ℕ) (args : List ℕ) (u : UnitValue) : Type 0 where
  pub count : length args ≡ length u.params
  pub slots : All (λ s. s < length act.frame.slots) args
  pub goes : carried m w a (instr.Spawn unit args) ≡ spawned m w a act unit (map (value_at act) args)

pub spawning_there : (m : ModuleValue) (w : World) (a : ℕ) (act : Activity) (unit : ℕ) (args : List ℕ) (u : UnitValue) → slice_get m.units unit ≡ Some u
    → slice_get w.activities a ≡ Some act → is_step (carried m w a (instr.Spawn unit args)) ≡ true → IsSpawn m w a act unit args u
spawning_there m w a act unit args u found here h =
    let e : carried m w a (instr.Spawn unit args) ≡ spawning m w a act unit args (Some u) =
    carried_there m w a (instr.Spawn unit args) act here ∙ ap (spawning m w a act unit args) found in
    let b = body_there (is_body u.kind) (arguments_in w a act u.params args (spawned m w a act unit)) (ap is_step (sym e) ∙ h) in
    let r = arguments_there w a act u.params args (spawned m w a act unit) b.1 in
    record { count = r.0; slots = r.1; goes = e ∙ b.0 ∙ r.2 }

pub spawn_by : (m : ModuleValue) (w : World) (a : ℕ) (act : Activity) (unit : ℕ) (args : List ℕ) (o : Option UnitValue) → slice_get m.units unit ≡ o
    → slice_get w.activities a ≡ Some act → is_step (carried m w a (instr.Spawn unit args)) ≡ true → (u : UnitValue) × (slice_get m.units unit ≡ Some u)
spawn_by m w a act unit args None e here h =
    let g : is_step (spawning m w a act unit args None) ≡ true = ap is_step
    (sym (carried_there m w a (instr.Spawn unit args) act here ∙ ap (spawning m w a act unit args) e)) ∙ h in
    cc
spawn_by m w a act unit args (Some u) e here h = (u, e)

-- ---- shared numbers

pub cell_there : (o : Option ℤ) (go : ℤ → Outcome) → is_step (cell_in o go) ≡ true → (n : ℤ) × (o ≡ Some n) × (cell_in o go ≡ go n) × (is_step (go n) ≡ true)
cell_there None go h = absurd (false≢true h)
cell_there (Some n) go h = (n, refl, refl, h)

-- what one has that writes one: it is there, and a number stands in the slot that is read
pub record IsStore (m : ModuleValue) (w : World) (a : ℕ) (act : Activity) (i : Instr) (s x : ℕ) (new : ℤ → ℤ → ℤ) (e : Event) : Type 0 where
  pub n : ℤ
  pub number : slot_at act x ≡ Some (value.Number n)
  pub old : ℤ
  pub cell : slice_get w.cells s ≡ Some old
  pub goes : carried m w a i ≡ stored w a act s (new old n) e
