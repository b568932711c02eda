-- From a step of the definition to what the arms of the state owe, and back.
use Rattle.std.proofs.Common.{◌≡◌, ℕ, ℤ, ◌<◌, ◌≤◌, List, subst, arith, true, length, Option, Some, None, slice_get, slice_set, refl, sym, ap, ◌∙◌}
use Rattle.std.proofs.lemmas.Option.{slice_get-get_or, slice_get_within, get_or_from_slice_get}
use Rattle.std.proofs.lemmas.Bool.{false≢true}
use Rattle.xk_types.specs.declared.instr.Instr.{Instr}
use Rattle.xk_types.specs.declared.instr.Instr.TheVariants as instr
use Rattle.xk_types.specs.declared.world.Value.{Value}
use Rattle.xk_types.specs.declared.world.Value.TheVariants as value
use Rattle.xk_types.specs.declared.world.Event.{Event}
use Rattle.xk_types.specs.declared.world.Event.TheVariants as event
use Rattle.std.specs.Option.{option_map_or}
use Rattle.xk_types.specs.Code.{ModuleValue, UnitValue, IsWithinLimits, IsUnitWithinLimits}
use Rattle.xk_types.specs.World.{Activity, World, slots_of}
use Rattle.xk_types.specs.Step.{Outcome, carried_out, done, made, put_in, with_slots, number_in, clock_in, none, cell_in, stored, only, resumed, dropped, onward, slot_at}
use Rattle.xk_types.specs.Schedule.{is_step}
use Rattle.xk_activity.specs.Activities.{act_at, nobody}
use Rattle.xk_core.specs.InstructionEffect.{carried, carried_by}
use Rattle.xk_core.proofs.OperandLemmas.{registered_step, carried_within, cell_there, IsStore, IsSpawn, spawn_by, spawning_there}

-- who takes a step at an instruction does what it does
carried_here : (m : ModuleValue) (w : World) (a : ℕ) (i : Instr) → is_step (carried m w a i) ≡ true → carried m w a i ≡ carried_out m w a (act_at w.activities a) i
carried_here m w a i h = ap (carried_by m w a i) (slice_get-get_or w.activities a nobody (carried_within m w a i h))

-- a number that is read
number_read : (o : Option Value) (go : ℤ → Outcome) → is_step (number_in o go) ≡ true → (n : ℤ) × (o ≡ Some (value.Number n)) × (number_in o go ≡ go n)
number_read None go h = absurd (false≢true h)
number_read (Some value.Unset) go h = absurd (false≢true h)
number_read (Some (value.Number n)) go h = (n, refl, refl)
number_read (Some (value.Clock c)) go h = absurd (false≢true h)

clock_read : (w : World) (a : ℕ) (o : Option Value) (go : ℕ → Outcome) → is_step (clock_in w a o go) ≡ true
    → (c : ℕ) × (o ≡ Some (value.Clock c)) × (clock_in w a o go ≡ go c)
clock_read w a None go h = absurd (false≢true h)
clock_read w a (Some value.Unset) go h = absurd (false≢true h)
clock_read w a (Some (value.Number n)) go h = absurd (false≢true h)
clock_read w a (Some (value.Clock c)) go h = (c, refl, registered_step (slice_get w.clocks c) a (go c) h)

pub same_number : (n k : ℤ) → Some (value.Number n) ≡ Some (value.Number k) → n ≡ k
same_number n k e = cc

same_clock : (n k : ℕ) → Some (value.Clock n) ≡ Some (value.Clock k) → n ≡ k
same_clock n k e = cc

module _ (m : ModuleValue) (w : World) (a : ℕ) where
  -- ---- `print`

  print_goes : (x : ℕ) → is_step (carried m w a (instr.Print x)) ≡ true
      → (n : ℤ) × (slot_at (act_at w.activities a) x ≡ Some (value.Number n)) × (carried m w a (instr.Print x) ≡ done w a (onward (act_at w.activities a)) none (event.Printed n))
  print_goes x h =
      let e = carried_here m w a (instr.Print x) h in
      let r = number_read (slot_at (act_at w.activities a) x) (λ n. done w a (onward (act_at w.activities a)) none (event.Printed n)) (ap is_step (sym e) ∙ h) in
      (r.0, r.1, e ∙ r.2)

  pub print_number : (x : ℕ) → is_step (carried m w a (instr.Print x)) ≡ true → (n : ℤ) × (slot_at (act_at w.activities a) x ≡ Some (value.Number n))
  print_number x h = ((print_goes x h).0, (print_goes x h).1)

  pub print_done : (x : ℕ) (n : ℤ) → is_step (carried m w a (instr.Print x)) ≡ true → slot_at (act_at w.activities a) x ≡ Some (value.Number n)
      → carried m w a (instr.Print x) ≡ done w a (onward (act_at w.activities a)) none (event.Printed n)
  print_done x n h at =
      let r = print_goes x h in
      r.2 ∙ ap (λ k. done w a (onward (act_at w.activities a)) none (event.Printed k)) (same_number r.0 n (sym r.1 ∙ at))

  -- ---- `resume` and `drop`

  resume_goes : (k : ℕ) → is_step (carried m w a (instr.Resume k)) ≡ true
      → (c : ℕ) × (slot_at (act_at w.activities a) k ≡ Some (value.Clock c)) × (carried m w a (instr.Resume k) ≡ done w a (onward (act_at w.activities a)) (only c resumed) event.Resumed)
  resume_goes k h =
      let e = carried_here m w a (instr.Resume k) h in
      let r = clock_read w a (slot_at (act_at w.activities a) k) (λ c. done w a (onward (act_at w.activities a)) (only c resumed) event.Resumed) (ap is_step (sym e) ∙ h) in
      (r.0, r.1, e ∙ r.2)

  pub resume_clock : (k : ℕ) → is_step (carried m w a (instr.Resume k)) ≡ true → (c : ℕ) × (slot_at (act_at w.activities a) k ≡ Some (value.Clock c))
  resume_clock k h = ((resume_goes k h).0, (resume_goes k h).1)

  pub resume_done : (k c : ℕ) → is_step (carried m w a (instr.Resume k)) ≡ true → slot_at (act_at w.activities a) k ≡ Some (value.Clock c)
      → carried m w a (instr.Resume k) ≡ done w a (onward (act_at w.activities a)) (only c resumed) event.Resumed
  resume_done k c h at =
      let r = resume_goes k h in
      r.2 ∙ ap (λ z. done w a (onward (act_at w.activities a)) (only z resumed) event.Resumed) (same_clock r.0 c (sym r.1 ∙ at))

  drop_goes : (k : ℕ) → is_step (carried m w a (instr.Drop k)) ≡ true
      → (c : ℕ) × (slot_at (act_at w.activities a) k ≡ Some (value.Clock c)) × (carried m w a (instr.Drop k) ≡ done w a (onward (act_at w.activities a)) (only c dropped) event.Dropped)
  drop_goes k h =
      let e = carried_here m w a (instr.Drop k) h in
      let r = clock_read w a (slot_at (act_at w.activities a) k) (λ c. done w a (onward (act_at w.activities a)) (only c dropped) event.Dropped) (ap is_step (sym e) ∙ h) in
      (r.0, r.1, e ∙ r.2)

  pub drop_clock : (k : ℕ) → is_step (carried m w a (instr.Drop k)) ≡ true → (c : ℕ) × (slot_at (act_at w.activities a) k ≡ Some (value.Clock c))
  drop_clock k h = ((drop_goes k h).0, (drop_goes k h).1)

  pub drop_done : (k c : ℕ) → is_step (carried m w a (instr.Drop k)) ≡ true → slot_at (act_at w.activities a) k ≡ Some (value.Clock c)
      → carried m w a (instr.Drop k) ≡ done w a (onward (act_at w.activities a)) (only c dropped) event.Dropped
  drop_done k c h at =
      let r = drop_goes k h in
      r.2 ∙ ap (λ z. done w a (onward (act_at w.activities a)) (only z dropped) event.Dropped) (same_clock r.0 c (sym r.1 ∙ at))

  -- ---- `make`

  -- the slot is there, and what it leads to
  pub make_here : (d : ℕ) → is_step (carried m w a (instr.Make d)) ≡ true
      → (d < length (act_at w.activities a).frame.slots)
      × (carried m w a (instr.Make d)
      ≡ made w a (onward (with_slots (act_at w.activities a) (slice_set (act_at w.activities a).frame.slots d (value.Clock (length w.clocks))))))
  make_here d h =
      let e = carried_here m w a (instr.Make d) h in
      let p = put_there (slot_at (act_at w.activities a) d) (act_at w.activities a) (value.Clock (length w.clocks)) (ap is_step (sym e) ∙ h) in
      (slice_get_within (act_at w.activities a).frame.slots d p.0 p.1, e ∙ p.2)
    where
      put_there : (o : Option Value) (x : Activity) (v : Value) → is_step (put_in o x d v (λ next. made w a next)) ≡ true
          → (old : Value) × (o ≡ Some old) × (put_in o x d v (λ next. made w a next) ≡ made w a (onward (with_slots x (slice_set x.frame.slots d v))))
      put_there None x v q = absurd (false≢true q)
      put_there (Some old) x v q = (old, refl, refl)

  -- ---- shared numbers

  -- what one has that writes one
  pub store_here : (i : Instr) (s x : ℕ) (new : ℤ → ℤ → ℤ) (e : Event)
      → carried_out m w a (act_at w.activities a) i ≡ number_in (slot_at (act_at w.activities a) x)
      (λ n. cell_in (slice_get w.cells s) (λ old. stored w a (act_at w.activities a) s (new old n) e))
      → is_step (carried m w a i) ≡ true → IsStore m w a (act_at w.activities a) i s x new e
  store_here i s x new e row h =
      let t = carried_here m w a i h ∙ row in
      let n = number_read (slot_at (act_at w.activities a) x) (λ k. cell_in (slice_get w.cells s) (λ old. stored w a (act_at w.activities a) s (new old k) e)) (ap is_step (sym t) ∙ h) in
      let c = cell_there (slice_get w.cells s) (λ old. stored w a (act_at w.activities a) s (new old n.0) e) (ap is_step (sym (t ∙ n.2)) ∙ h) in
      record { n = n.0; number = n.1; old = c.0; cell = c.1; goes = t ∙ n.2 ∙ c.2 }

  -- ---- `spawn`

  -- what one has that starts an activity
  pub spawn_here : (unit : ℕ) (args : List ℕ) → is_step (carried m w a (instr.Spawn unit args)) ≡ true
      → (u : UnitValue) × (slice_get m.units unit ≡ Some u) × IsSpawn m w a (act_at w.activities a) unit args u
  spawn_here unit args h =
      let here = slice_get-get_or w.activities a nobody (carried_within m w a (instr.Spawn unit args) h) in
      let v = spawn_by m w a (act_at w.activities a) unit args (slice_get m.units unit) refl here h in
      (v.0, v.1, spawning_there m w a (act_at w.activities a) unit args v.0 v.1 here h)

  -- the unit has room for what it is given
  pub spawn_fits : (unit : ℕ) (args : List ℕ) → IsWithinLimits m → is_step (carried m w a (instr.Spawn unit args)) ≡ true → length args ≤ slots_of m unit
  spawn_fits unit args limits h =
      let s = spawn_here unit args h in
      let fits : IsUnitWithinLimits s.0 =
      subst IsUnitWithinLimits (get_or_from_slice_get m.units unit s.0 s.0 s.1) (limits.each unit s.0 (slice_get_within m.units unit s.0 s.1)) in
      let size : slots_of m unit ≡ s.0.slots = ap (λ o. option_map_or (λ (u : UnitValue). u.slots) o 0) s.1 in
      omega (arith, s.2.count, fits.params, size)
