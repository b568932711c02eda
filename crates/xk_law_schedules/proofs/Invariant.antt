-- The invariant: what holds in each world that a legal schedule of an accepted module leads to.
use Rattle.std.specs.Prelude.{◌≡◌, ℕ, ◌+◌, ◌<◌, ◌≤◌, ◌⊎◌, ◌∷◌, Bool, true, false, List, [], length, Some, slice_get, sum_by}
use Rattle.std.specs.Option.{option_map_or}
use Rattle.xk_types.specs.declared.instr.Instr.{Instr}
use Rattle.xk_types.specs.declared.instr.Instr.TheVariants as instr
use Rattle.xk_types.specs.declared.world.Value.{Value}
use Rattle.xk_types.specs.declared.world.Value.TheVariants as value
use Rattle.xk_types.specs.declared.world.Status.{Status}
use Rattle.xk_types.specs.declared.world.Status.TheVariants as status
use Rattle.xk_types.specs.declared.world.Standing.{Standing}
use Rattle.xk_types.specs.declared.world.Standing.TheVariants as standing
use Rattle.xk_types.specs.declared.rules.Kind.{Kind}
use Rattle.xk_types.specs.declared.rules.Kind.TheVariants as kind
use Rattle.xk_types.specs.declared.unit.ParamKind.{ParamKind}
use Rattle.xk_types.specs.declared.unit.ParamKind.TheVariants as param
use Rattle.xk_types.specs.Code.{UnitValue, ModuleValue, IsWithinLimits, unit_run, is_method}
use Rattle.xk_types.specs.World.{Frame, Activity, Clock, World, standing_of, is_ended}
use Rattle.xk_types.specs.Step.{is_ready}
use Rattle.xk_types.specs.Walk.{IsVisited, awake, is_lent}
pub use Rattle.xk_types.specs.Kinds.{stands_on, kind_by, kind_of}
pub use Rattle.xk_types.proofs.ListLemmas.{Each}
use Rattle.xk_law_schedules.proofs.BoundLemmas.LoopTurnLemmas.{due}
use Rattle.xk_types.specs.Bound.{steps_weight, activities_weight, clocks_weight, total, steps_bound, activities_bound, clocks_bound, stack_of, stack_bound}

-- ---- clocks

-- What holds between an activity and a clock that last advanced in step `last`, by where the activity stands on it.
abbrev pub Stands : Status → ℕ → ℕ → Standing → Type 0
Stands st since last standing.Apart = Unit {0}
Stands st since last standing.Open = (st ≡ status.Running) × (last ≤ since)
Stands st since last standing.Signalled = (is_ended st ≡ false) × (last ≤ since)
Stands st since last standing.Ahead = (is_ended st ≡ false) × (since < last)

-- a clock in a world with these activities after so many steps
pub record IsClockSound (activities : List Activity) (now : ℕ) (c : Clock) : Type 0 where
  pub width : length c.standings ≡ length activities
  pub last : c.last ≤ now
  pub phase : c.phase ≤ c.last
  pub unready : is_ready c ≡ false
  pub stands : Each (λ b act. Stands act.status act.since c.last (standing_of c b)) activities

-- ---- activities

-- the kind of a clock's name, for each clock, as activity a stands
abbrev pub looks : List Clock → ℕ → ℕ → Kind
looks clocks a k = kind_by (stands_on clocks a k)

-- a registered clock's name has this kind
abbrev pub is_held : Kind → Bool
is_held kind.Unset = false
is_held kind.Number = false
is_held kind.Live = true
is_held kind.Resumed = true
is_held kind.Out = false

-- What is visited, by status, for a slot of this kind: the kind at the place of a running activity; for one that has
-- arrived, the kind after the pass at the next place.
abbrev pub Expects : ModuleValue → UnitValue → Status → ℕ → ℕ → Kind → Type 0
Expects m u status.Running at s k = IsVisited m u s (record { at = at; kind = k })
Expects m u status.Arrived at s k = IsVisited m u s (record { at = at + 1; kind = awake k })
Expects m u status.Ended at s k = Unit {0}

-- the slot of a frame holds the name of the clock
abbrev pub Names : List Value → ℕ → ℕ → Type 0
Names slots s c = slice_get slots s ≡ Some (value.Clock c)

-- a frame of unit u, in a world with this number of clocks
pub record IsFrameSound (u : UnitValue) (clocks : ℕ) (f : Frame) : Type 0 where
  pub slots : length f.slots ≡ u.slots
  pub place : f.place < length u.code
  pub known : (s c : ℕ) → Names f.slots s c → c < clocks
  pub apart : (s t c : ℕ) → Names f.slots s c → Names f.slots t c → s ≡ t

-- ---- frames that wait

-- no slot of these frames names the clock
abbrev pub NamesNone : List Frame → ℕ → Type 0
NamesNone [] c = Unit {0}
NamesNone (f ∷ fs) c = ((s : ℕ) → Names f.slots s c → ⊥) × NamesNone fs c

-- some slot of them does
abbrev pub NamedIn : List Frame → ℕ → Type 0
NamedIn [] c = ⊥
NamedIn (f ∷ fs) c = ((s : ℕ) × Names f.slots s c) ⊎ NamedIn fs c

-- a kind as it is after the pass, where the activity has arrived
abbrev pub once_past : Status → Kind → Kind
once_past status.Running k = k
once_past status.Arrived k = awake k
once_past status.Ended k = k

-- What is visited behind a `call` for a slot that now has this kind, and is lent or not: every kind that it may have when the
-- method returns.
abbrev pub Waits : Bool → Kind → (Kind → Type 0) → Type 0
Waits true k R = (is_held k ≡ true) × R kind.Live × R kind.Resumed
Waits false kind.Unset R = R kind.Unset
Waits false kind.Number R = R kind.Number
Waits false kind.Live R = R kind.Live
Waits false kind.Resumed R = R kind.Live × R kind.Resumed
Waits false kind.Out R = R kind.Out

-- A slot t of a method names clock c: it is a parameter, and the slot that frame f lends to it names the clock; or it is the
-- method's own, and no frame that waits names the clock.
abbrev pub IsShared : List ParamKind → List ℕ → ℕ → ℕ → Frame → List Frame → Type 0
IsShared ps args t c f below =
    ((x : ℕ) × (slice_get ps t ≡ Some param.Clock) × (slice_get args t ≡ Some x) × Names f.slots x c) ⊎ ((length ps ≤ t) × NamesNone (f ∷ below) c)

-- how many slots frames have
abbrev pub slots_in : List Frame → ℕ
slots_in fs = sum_by (λ f. length f.slots) fs

-- frame f waits at the `call` of the unit that frame g runs
pub record IsWaiting (m : ModuleValue) (look : ℕ → Kind) (st : Status) (clocks : ℕ) (g f : Frame) (below : List Frame) : Type 0 where
  pub u : UnitValue
  pub found : slice_get m.units f.unit ≡ Some u
  pub frame : IsFrameSound u clocks f
  pub v : UnitValue
  pub callee : slice_get m.units g.unit ≡ Some v
  pub method : is_method v.kind ≡ true
  pub args : List ℕ
  pub call : slice_get u.code f.place ≡ Some (instr.Call g.unit args)
  -- what the slots will be is visited behind the call
  pub waits : Each (λ s x. Waits (is_lent v.params args s) (once_past st (kind_of look x)) (λ k. IsVisited m u s (record { at = f.place + 1; kind = k }))) f.slots
  pub shares : (t c : ℕ) → Names g.slots t c → IsShared v.params args t c f below
  -- with all that it may call there is room for its slots
  pub room : slots_in below + stack_of m f.unit ≤ stack_bound m

-- each of these frames waits for the one before, and the first for frame g
abbrev pub AreWaiting : ModuleValue → (ℕ → Kind) → Status → ℕ → Frame → List Frame → Type 0
AreWaiting m look st clocks g [] = Unit {0}
AreWaiting m look st clocks g (f ∷ fs) = IsWaiting m look st clocks g f fs × AreWaiting m look st clocks f fs

-- ---- activities

-- an activity, by the kinds of clocks' names for it, the number of clocks and the number of steps
pub record IsActivitySound (m : ModuleValue) (look : ℕ → Kind) (clocks now : ℕ) (act : Activity) : Type 0 where
  pub since : act.since ≤ now
  pub u : UnitValue
  pub unit : slice_get m.units act.frame.unit ≡ Some u
  pub frame : IsFrameSound u clocks act.frame
  -- the kind of each slot is visited
  pub kinds : Each (λ s v. Expects m u act.status act.frame.place s (kind_of look v)) act.frame.slots
  -- one that has arrived stands at an `advance`
  pub advance : act.status ≡ status.Arrived → slice_get u.code act.frame.place ≡ Some instr.Advance
  -- where it is registered on a clock, some slot names it
  pub held : (c : ℕ) → is_held (look c) ≡ true → NamedIn (act.frame ∷ act.callers) c
  pub waiting : AreWaiting m look act.status clocks act.frame act.callers
  pub room : slots_in act.callers + stack_of m act.frame.unit ≤ stack_bound m
  -- one that has ended has left all its frames but one
  pub alone : act.status ≡ status.Ended → act.callers ≡ []

-- ---- what is still to pay

-- the weight of an instruction, with all of the unit that it calls or starts
abbrev pub with_run : (Instr → ℕ) → ModuleValue → Instr → ℕ
with_run weight m i = weight i + option_map_or (total weight m) (unit_run i) 0

-- What an activity has still to pay, by its place, slots and status; one that has arrived owes `half` of its `advance`.
abbrev pub owed_by : (Instr → ℕ) → ℕ → UnitValue → ℕ → List Value → Status → ℕ
owed_by weight half u at slots status.Running = due weight u at slots
owed_by weight half u at slots status.Arrived = half + due weight u (at + 1) slots
owed_by weight half u at slots status.Ended = 0

-- what a frame that waits has still to pay, from behind its `call` on
abbrev pub owed_behind : (Instr → ℕ) → ModuleValue → Frame → ℕ
owed_behind weight m f = option_map_or (λ u. due (with_run weight m) u (f.place + 1) f.slots) (slice_get m.units f.unit) 0

-- what an activity's present frame has still to pay
abbrev pub owed_now : (Instr → ℕ) → ℕ → ModuleValue → Activity → ℕ
owed_now weight half m act =
    option_map_or (λ u. owed_by (with_run weight m) half u act.frame.place act.frame.slots act.status) (slice_get m.units act.frame.unit) 0

-- what an activity has still to pay, with all that it will call and start
abbrev pub owed : (Instr → ℕ) → ℕ → ModuleValue → Activity → ℕ
owed weight half m act = owed_now weight half m act + sum_by (owed_behind weight m) act.callers

-- what all activities owe
abbrev pub owing : (Instr → ℕ) → ℕ → ModuleValue → List Activity → ℕ
owing weight half m activities = sum_by (owed weight half m) activities

-- ---- worlds

pub record IsSound (m : ModuleValue) (w : World) : Type 0 where
  pub limits : IsWithinLimits m
  pub activities : Each (λ a act. IsActivitySound m (looks w.clocks a) (length w.clocks) w.steps act) w.activities
  pub clocks : Each (λ k c. IsClockSound w.activities w.steps c) w.clocks
  pub cells : length w.cells ≡ length m.shared
  -- what was spent, and what is owed, is within the bounds
  pub steps : w.steps + owing steps_weight 1 m w.activities ≤ steps_bound m
  pub started : length w.activities + owing activities_weight 0 m w.activities ≤ activities_bound m
  pub made : length w.clocks + owing clocks_weight 0 m w.activities ≤ clocks_bound m
