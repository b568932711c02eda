-- What orders the steps of a run in each schedule of its class.
--
-- X10 Language Specification 2.4: `async S` starts an activity that runs S (chapter Activities, Spawning an activity); a finish waits for
-- the end of all that were started under it (Activities, Finish); who advances waits until all that are registered on its clocks have
-- resumed them, or left them (chapter Clocks, Advancing clocks). That the one comes before the other in each schedule of a class, whatever
-- the order of other steps, is what the laws say.
use Rattle.std.specs.Prelude.{◌≡◌, ℕ, suc, ◌<◌, ◌==◌, ◌⊎◌, Bool, true, false, List, [], ◌∷◌, ◌++◌, length, map, filter, slice_get, Option, Some, option_and_then}
use Rattle.std.specs.Option.{option_map_or}
use Rattle.xk_types.specs.declared.instr.Instr.{Instr}
use Rattle.xk_types.specs.declared.instr.Instr.TheVariants as instr
use Rattle.xk_types.specs.declared.world.Standing.{Standing}
use Rattle.xk_types.specs.declared.world.Standing.TheVariants as standing
use Rattle.xk_types.specs.declared.world.Event.{Event}
use Rattle.xk_types.specs.declared.world.Event.TheVariants as event
use Rattle.xk_types.specs.Code.{ModuleValue}
use Rattle.xk_types.specs.World.{Activity, World, standing_of, instruction_at}
use Rattle.xk_types.specs.Step.{Outcome, Blocked, Wrong, Stepped, is_pending, is_registered, innermost, is_under, step}
use Rattle.xk_types.specs.Schedule.{Through, run, is_enabled}
use Rattle.xk_law_commute.specs.Conflicts.{reads, puts, stores, next_instruction}
use Rattle.xk_law_traces.specs.Classes.{AreOneClass, name_in}

-- ---- steps by name

-- A step is named by who takes it, and by how many steps that one took before: so it has the same name in each schedule of a class, but
-- for the activity's number there.
abbrev pub StepName : Type 0
StepName = ℕ × ℕ

-- how many of these steps activity a takes
abbrev pub turns_of : ℕ → List ℕ → ℕ
turns_of a list = length (filter (λ b. b == a) list)

-- the step is one of these
abbrev pub IsTaken : List ℕ → StepName → Type 0
IsTaken list x = x.1 < turns_of x.0 list

-- behind a step: this entry, and those of the rest; nothing behind one that can't be taken
abbrev pub carried_on : ℕ × Option Instr → Outcome → (World → List (ℕ × Option Instr)) → List (ℕ × Option Instr)
carried_on entry Blocked go = []
carried_on entry (Wrong c) go = []
carried_on entry (Stepped next e) go = entry ∷ go next

-- who takes each step, and the instruction that it carries out
abbrev pub carried : ModuleValue → List ℕ → World → List (ℕ × Option Instr)
carried m [] w = []
carried m (a ∷ list) w = carried_on (a, next_instruction m w a) (step m w a) (carried m list)

-- what activity a carries out, in its order
abbrev pub carried_by : ModuleValue → List ℕ → World → ℕ → List (Option Instr)
carried_by m list w a = map (λ p. p.1) (filter (λ p. p.0 == a) (carried m list w))

-- the instruction that a step of the schedule carries out
abbrev pub instruction_of : ModuleValue → List ℕ → World → StepName → Option Instr
instruction_of m list w x = option_and_then (λ i. i) (slice_get (carried_by m list w x.0) x.1)

-- ---- what they do to shared numbers

-- the instruction, if there is one, does so to shared number c
abbrev pub does : (Instr → ℕ → Bool) → Option Instr → ℕ → Bool
does test o c = option_map_or (λ i. test i c) o false

-- The two instructions don't conflict on a shared number, as in `AreConflictFree` those that two activities stand at.
pub record AreApart (o p : Option Instr) : Type 0 where
  pub second_reads : (c : ℕ) → does stores o c ≡ true → does reads p c ≡ true → ⊥
  pub first_reads : (c : ℕ) → does stores p c ≡ true → does reads o c ≡ true → ⊥
  pub first_puts : (c : ℕ) → does puts o c ≡ true → does stores p c ≡ true → ⊥
  pub second_puts : (c : ℕ) → does puts p c ≡ true → does stores o c ≡ true → ⊥

-- ---- edges

-- one of these edges leads from step x to step y
abbrev pub IsEdge : List (StepName × StepName) → StepName → StepName → Type 0
IsEdge edges x y = (k : ℕ) × (slice_get edges k ≡ Some (x, y))

-- an edge leads from step x to step y, or one activity takes both, x first
abbrev pub IsLink : List (StepName × StepName) → StepName → StepName → Type 0
IsLink edges x y = IsEdge edges x y ⊎ ((x.0 ≡ y.0) × (x.1 < y.1))

-- from step x by way of these steps to y
abbrev pub IsWay : List (StepName × StepName) → StepName → List StepName → StepName → Type 0
IsWay edges x [] y = IsLink edges x y
IsWay edges x (z ∷ zs) y = IsLink edges x z × IsWay edges z zs y

-- step x is before step y, by edges and by the order of each activity's own steps
pub record IsBefore (edges : List (StepName × StepName)) (x y : StepName) : Type 0 where
  pub between : List StepName
  pub way : IsWay edges x between y

-- Edges are sound if no schedule of the class of s comes to a world where the second step of an edge could be taken and the first one
-- wasn't.
abbrev pub AreSound : ModuleValue → World → List ℕ → List (StepName × StepName) → Type 0
AreSound m w s edges = (x y : StepName) → IsEdge edges x y
    → (before after : List ℕ) (v : World) (member : AreOneClass m w s (before ++ after))
    → run m before w ≡ Through v → turns_of (name_in member y.0) before ≡ y.1 → is_enabled m v (name_in member y.0) ≡ true
    → IsTaken before (name_in member x.0, x.1)

-- of two steps of different activities that conflict on a shared number, one is before the other
abbrev pub AreOrdered : ModuleValue → World → List ℕ → List (StepName × StepName) → Type 0
AreOrdered m w s edges = (x y : StepName) → (y.0 ≡ x.0 → ⊥)
    → AreApart (instruction_of m s w x) (instruction_of m s w y) ⊎ (IsBefore edges x y ⊎ IsBefore edges y x)

-- of two steps of different activities whose instructions both pass, one is before the other
abbrev pub AreOneByOne : (Instr → Bool) → ModuleValue → World → List ℕ → List (StepName × StepName) → Type 0
AreOneByOne test m w s edges = (x y : StepName) → (y.0 ≡ x.0 → ⊥) → option_map_or test (instruction_of m s w x) false ≡ true
    → option_map_or test (instruction_of m s w y) false ≡ true → IsBefore edges x y ⊎ IsBefore edges y x

-- it prints
abbrev pub prints : Instr → Bool
prints (instr.Print x) = true
prints _ = false

-- Step x of the schedule starts an activity, and y is the first step that this one takes.
pub record IsStart (m : ModuleValue) (w : World) (s : List ℕ) (x y : StepName) : Type 0 where
  pub before : List ℕ
  pub after : List ℕ
  pub here : World
  pub there : World
  pub whole : s ≡ before ++ x.0 ∷ after
  pub leads : run m before w ≡ Through here
  pub turn : turns_of x.0 before ≡ x.1
  pub starts : step m here x.0 ≡ Stepped there event.Spawned
  pub child : y.0 ≡ length here.activities
  pub first : y.1 ≡ 0

-- Step x of the schedule is taken by an activity under the finish that step y ends.
pub record IsUnderFinish (m : ModuleValue) (w : World) (s : List ℕ) (x y : StepName) : Type 0 where
  pub before : List ℕ
  pub after : List ℕ
  pub here : World
  pub there : World
  pub closed : Event
  pub whole : s ≡ before ++ y.0 ∷ after
  pub leads : run m before w ≡ Through here
  pub turn : turns_of y.0 before ≡ y.1
  pub takes : step m here y.0 ≡ Stepped there closed
  pub closer : Activity
  pub found : slice_get here.activities y.0 ≡ Some closer
  pub first : ℕ
  pub closes : instruction_at m closer.frame ≡ Some (instr.EndFinish first)
  pub child : Activity
  pub known : slice_get here.activities x.0 ≡ Some child
  pub under : is_under here.activities (innermost y.0 closer) x.0 ≡ true
  pub taken : IsTaken s x

-- Step x of the schedule is taken in world `here`.
pub record IsTurn (m : ModuleValue) (w : World) (s : List ℕ) (x : StepName) : Type 0 where
  pub before : List ℕ
  pub after : List ℕ
  pub here : World
  pub whole : s ≡ before ++ x.0 ∷ after
  pub leads : run m before w ≡ Through here
  pub turn : turns_of x.0 before ≡ x.1

-- where activity a stands on clock c
abbrev pub standing_on : World → ℕ → ℕ → Standing
standing_on w a c = option_map_or (λ k. standing_of k a) (slice_get w.clocks c) standing.Apart

-- the phase of clock c
abbrev pub phase_of : World → ℕ → ℕ
phase_of w c = option_map_or (λ k. k.phase) (slice_get w.clocks c) 0

-- The last phase that a clock of this phase comes to as long as one that stands so on it does nothing: who has signalled holds it in the
-- next one.
abbrev pub held_in : ℕ → Standing → ℕ
held_in p standing.Apart = p
held_in p standing.Open = p
held_in p standing.Ahead = p
held_in p standing.Signalled = suc p

-- Step y passes an `advance`, by an activity that is registered on the clock; where step x was taken, its activity was registered on it,
-- too; and the clock has come further since than that one could hold it.
pub record IsPass (m : ModuleValue) (w : World) (s : List ℕ) (x y : StepName) : Type 0 where
  pub first : IsTurn m w s x
  pub second : IsTurn m w s y
  pub clock : ℕ
  pub registered : is_registered (standing_on first.here x.0 clock) ≡ true
  pub there : World
  pub passes : step m second.here y.0 ≡ Stepped there event.Passed
  pub awaited : is_pending (standing_on second.here y.0 clock) ≡ true
  pub advanced : held_in (phase_of first.here clock) (standing_on first.here x.0 clock) < phase_of second.here clock

-- what an edge may stand for: a start, the end of a finish, or an `advance`
abbrev pub IsCause : ModuleValue → World → List ℕ → StepName → StepName → Type 0
IsCause m w s x y = (IsStart m w s x y ⊎ IsUnderFinish m w s x y) ⊎ IsPass m w s x y
