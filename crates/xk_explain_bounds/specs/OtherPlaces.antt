-- The other places that a rule on clocks speaks of: where a clock is made, and which finish is open. This project's own.
use Rattle.std.specs.Prelude.{ℕ, suc, ◌-◌, nat_eq, nat_lt, Bool, true, false, not, ◌&&◌, List, [], ◌∷◌, ◌++◌, length, take}
use Rattle.std.specs.Prelude.{Option, Some, None, option_map, option_and_then, slice_get, if◌then◌else◌}
use Rattle.std.specs.Option.{option_map_or}
use Rattle.xk_types.specs.declared.instr.Instr.{Instr}
use Rattle.xk_types.specs.declared.instr.Instr.TheVariants as instr
use Rattle.xk_types.specs.declared.rules.Rule.{Rule}
use Rattle.xk_types.specs.declared.rules.Rule.TheVariants as rule
use Rattle.xk_types.specs.declared.rules.Kind.{Kind}
use Rattle.xk_types.specs.declared.rules.Kind.TheVariants as kind
use Rattle.xk_types.specs.declared.rules.Visit.{Visit}
use Rattle.xk_types.specs.Code.{ModuleValue, UnitValue, clock_arguments, params_of}
use Rattle.xk_types.specs.Blocks.{block_at, makes, same_block, takes_clock}
use Rattle.xk_shape.specs.declared.fault.ShapeFault.{ShapeFault}
use Rattle.xk_typestate.specs.declared.fault.KindFault.{KindFault}
use Rattle.xk_explain_bounds.specs.declared.remark.Deed.{Deed}
use Rattle.xk_explain_bounds.specs.declared.remark.Deed.TheVariants as deed
use Rattle.xk_explain_bounds.specs.declared.remark.Fact.{Fact}
use Rattle.xk_explain_bounds.specs.declared.remark.Fact.TheVariants as fact
use Rattle.xk_explain_bounds.specs.declared.remark.Remark.{Remark}

-- a remark on a place of a unit, and one on a unit
abbrev pub here : ℕ → Fact → ℕ → Remark
here unit f at = record { unit = unit; at = Some at; fact = f }

abbrev pub on_unit : ℕ → Fact → Remark
on_unit unit f = record { unit = unit; at = None; fact = f }

-- what an instruction does with a slot that it speaks of
abbrev pub deed_of : Instr → Deed
deed_of (instr.Resume k) = deed.Resumed
deed_of (instr.Drop k) = deed.Dropped
deed_of (instr.Spawn t args) = deed.Started
deed_of (instr.Call t args) = deed.Called t
deed_of (instr.EndFinish b) = deed.Finished
deed_of (instr.Make d) = deed.MadeAnew
deed_of instr.Ret = deed.Left
deed_of _ = deed.Other

-- ---- where a clock is made

-- the instruction at a place makes the clock of slot s, in another block than this
abbrev pub makes_elsewhere : UnitValue → ℕ → List ℕ → ℕ → Instr → Bool
makes_elsewhere u s block at i = makes s i && not (same_block block (block_at u at))

-- the first place that does, among these instructions, the first of which stands at `at`
abbrev pub first_elsewhere : UnitValue → ℕ → List ℕ → ℕ → List Instr → Option ℕ
first_elsewhere u s block at [] = None
first_elsewhere u s block at (i ∷ is) = if makes_elsewhere u s block at i then Some at else first_elsewhere u s block (suc at) is

-- where a slot takes its clock in another block than this: from outside, in the whole unit, or where it is made
abbrev pub is_outside : UnitValue → List ℕ → ℕ → Bool
is_outside u block s = takes_clock (slice_get u.params s) && not (same_block block [])

abbrev pub other_home : ℕ → UnitValue → List ℕ → ℕ → Option Remark
other_home unit u block s =
    if is_outside u block s then Some (on_unit unit (fact.Outside s)) else option_map (here unit (fact.Made s)) (first_elsewhere u s block 0 u.code)

-- of the first of these slots that takes its clock in another block
abbrev pub first_home : ℕ → UnitValue → List ℕ → List ℕ → Option Remark
first_home unit u block [] = None
first_home unit u block (s ∷ ss) = option_map_or (λ r. Some r) (other_home unit u block s) (first_home unit u block ss)

abbrev pub listed : Option Remark → List Remark
listed None = []
listed (Some r) = r ∷ []

-- ---- V8: a parameter, or where the clock of the slot is made before

-- where the clock of a slot comes from beside the `make` at a place: from outside, or from one before that in another block
abbrev pub made_before : ℕ → UnitValue → ℕ → ℕ → Option Remark
made_before unit u at s =
    if nat_lt s (length u.params) then Some (on_unit unit (fact.Outside s))
    else option_map (here unit (fact.Made s)) (first_elsewhere u s (block_at u at) 0 (take at u.code))

abbrev pub home_remarks : ℕ → UnitValue → ℕ → Instr → List Remark
home_remarks unit u at (instr.Make d) = listed (made_before unit u at d)
home_remarks unit u at (instr.Drop k) = on_unit unit (fact.Outside k) ∷ []
home_remarks unit u at _ = []

-- ---- V9: where the clock comes from that is handed on, and the innermost finish that is open

-- the last finish of a block, if it has one: the innermost that is open
abbrev pub last_finish : List ℕ → Option ℕ
last_finish block = slice_get block (length block - 1)

abbrev pub handed_on : ModuleValue → Instr → List ℕ
handed_on m (instr.Call t args) = clock_arguments (params_of m t) args
handed_on m (instr.Spawn t args) = clock_arguments (params_of m t) args
handed_on m _ = []

-- the clock that a remark on where it comes from is on
abbrev pub home_slot : Fact → Option ℕ
home_slot (fact.Made s) = Some s
home_slot (fact.Outside s) = Some s
home_slot _ = None

-- it comes from outside, or is made before a place
abbrev pub is_before : ℕ → Remark → Bool
is_before place r = option_map_or (λ at. nat_lt at place) r.at true

-- Who waits for whom, where a clock from before the finish that is open is handed on in it: at the end of the finish all that is started in it is waited
-- for, and what is started waits on the clock for those that are registered there.
abbrev pub waits_at : ℕ → ℕ → Instr → Option ℕ → Remark → Option Remark
waits_at unit at i None r = None
waits_at unit at i (Some first) r =
    if is_before first r then option_map (λ s. here unit (fact.Waits s (deed_of i)) at) (home_slot r.fact) else None

-- what is told of where its clock comes from, and of the finish that is open
abbrev pub remarks_on : ℕ → ℕ → Instr → Option ℕ → Option Remark → List Remark
remarks_on unit at i opened home =
    (listed home ++ listed (option_map (here unit fact.Open) opened)) ++ listed (option_and_then (waits_at unit at i opened) home)

abbrev pub registers_remarks : ModuleValue → ℕ → UnitValue → ℕ → Instr → List Remark
registers_remarks m unit u at i =
    remarks_on unit at i (last_finish (block_at u at)) (first_home unit u (block_at u at) (handed_on m i))

-- ---- V12: where the finish begins that ends

abbrev pub held_remarks : ℕ → Instr → List Remark
held_remarks unit (instr.EndFinish b) = here unit fact.Begins b ∷ []
held_remarks unit _ = []

-- ---- V11: where a clock is dropped that may be dropped already

abbrev pub is_out : Kind → Bool
is_out kind.Out = true
is_out _ = false

-- at a stop of a walk, before which the slot is of this kind
abbrev pub drops : ℕ → Kind → Option Instr → Bool
drops s k (Some (instr.Drop d)) = nat_eq d s && not (is_out k)
drops s k _ = false

abbrev pub is_dropped : UnitValue → ℕ → Visit → Bool
is_dropped u s v = drops s v.kind (slice_get u.code v.at)

-- the last such stop
abbrev pub last_drop : UnitValue → ℕ → Option ℕ → List Visit → Option ℕ
last_drop u s found [] = found
last_drop u s found (v ∷ vs) = last_drop u s (if is_dropped u s v then Some v.at else found) vs

-- if that is elsewhere than at the place refused, where a walk comes back to it
abbrev pub elsewhere : ℕ → Option ℕ → Option ℕ
elsewhere at None = None
elsewhere at (Some found) = if nat_eq found at then None else Some found

abbrev pub drop_remark : UnitValue → KindFault → Option Remark
drop_remark u f =
    if is_out f.kind then option_map (here f.unit (fact.Dropped f.slot)) (elsewhere f.at (last_drop u f.slot None f.walk.items)) else None

-- ---- faults

-- beside an instruction of a unit that breaks a rule on shape
abbrev pub shape_remarks_at : Rule → ModuleValue → ℕ → UnitValue → ℕ → Instr → List Remark
shape_remarks_at rule.Home m unit u at i = home_remarks unit u at i
shape_remarks_at rule.Registers m unit u at i = registers_remarks m unit u at i
shape_remarks_at _ m unit u at i = []

-- beside one whose slot is of the wrong kind: what that may hold, and what is done with it; for V12 where the finish begins; and where a
-- clock is dropped that may be dropped already
abbrev pub begin_remarks : Rule → ℕ → Instr → List Remark
begin_remarks rule.Held unit i = held_remarks unit i
begin_remarks _ unit i = []

abbrev pub kind_remarks_at : UnitValue → KindFault → Instr → List Remark
kind_remarks_at u f i =
    (here f.unit (fact.Holds f.slot f.kind (deed_of i)) f.at ∷ begin_remarks f.rule f.unit i) ++ listed (drop_remark u f)

abbrev pub shape_remarks : ModuleValue → ShapeFault → List Remark
shape_remarks m f =
    option_map_or (λ u. option_map_or (shape_remarks_at f.rule m f.unit u f.at) (slice_get u.code f.at) []) (slice_get m.units f.unit) []

abbrev pub kind_remarks : ModuleValue → KindFault → List Remark
kind_remarks m f = option_map_or (λ u. option_map_or (kind_remarks_at u f) (slice_get u.code f.at) []) (slice_get m.units f.unit) []
