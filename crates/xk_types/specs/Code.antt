-- What a module is, apart from where it lies in memory, and its limits. Bytecode, modules and limits are this project's own. A loop is
-- X10's `for (i in a..b)` (X10 Language Specification 2.4, chapter Statements, For statement).
use Rattle.std.specs.Prelude.{ℕ, suc, ℤ, ◌+◌, ◌==◌, ◌≤◌, ◌-ℤ◌, nat_abs, int_lt, int_le, nat_lt, nat_le, Bool, true, false, not, ◌&&◌, List, [], ◌∷◌, length, slice_get, Option, Some, None, option_and_then, All, if◌then◌else◌}
use Rattle.std.specs.Option.{option_map_or}
use Rattle.xk_types.specs.declared.instr.Comparison.{Comparison}
use Rattle.xk_types.specs.declared.instr.Comparison.TheVariants as comparison
use Rattle.xk_types.specs.declared.instr.Instr.{Instr}
use Rattle.xk_types.specs.declared.instr.Instr.TheVariants as instr
use Rattle.xk_types.specs.declared.unit.UnitKind.{UnitKind}
use Rattle.xk_types.specs.declared.unit.UnitKind.TheVariants as unit_kind
use Rattle.xk_types.specs.declared.unit.ParamKind.{ParamKind}
use Rattle.xk_types.specs.declared.unit.ParamKind.TheVariants as param

-- a unit: its kind, the kinds of its parameters, how many slots it has, its instructions
pub record UnitValue : Type 0 where
  pub kind : UnitKind
  pub params : List ParamKind
  pub slots : ℕ
  pub code : List Instr

-- a module: the shared numbers as they are at the start, and the units
pub record ModuleValue : Type 0 where
  pub shared : List ℤ
  pub units : List UnitValue

-- the module of these shared numbers and units
abbrev pub module_of : List ℤ → List UnitValue → ModuleValue
module_of shared units = record { shared = shared; units = units }

-- the slots whose values an instruction hands to a unit
abbrev pub arguments_of : Instr → List ℕ
arguments_of (instr.Call t args) = args
arguments_of (instr.Spawn t args) = args
arguments_of _ = []

-- the unit that an instruction calls, if it calls one
abbrev pub unit_called : Instr → Option ℕ
unit_called (instr.Call t args) = Some t
unit_called _ = None

-- the unit that it calls or starts
abbrev pub unit_run : Instr → Option ℕ
unit_run (instr.Call t args) = Some t
unit_run (instr.Spawn t args) = Some t
unit_run _ = None

-- the two numbers compare so
abbrev pub compares : Comparison → ℤ → ℤ → Bool
compares comparison.Eq a b = int_le a b && int_le b a
compares comparison.Ne a b = not (int_le a b && int_le b a)
compares comparison.Lt a b = int_lt a b
compares comparison.Le a b = int_le a b
compares comparison.Gt a b = int_lt b a
compares comparison.Ge a b = int_le b a

-- the parameters of a unit
abbrev pub params_of : ModuleValue → ℕ → List ParamKind
params_of m unit = option_map_or (λ u. u.params) (slice_get m.units unit) []

-- a unit of main, of a method, of an activity that another one starts
abbrev pub is_main : UnitKind → Bool
is_main unit_kind.Main = true
is_main unit_kind.Method = false
is_main unit_kind.Body = false

-- a unit of a method
abbrev pub is_method : UnitKind → Bool
is_method unit_kind.Main = false
is_method unit_kind.Method = true
is_method unit_kind.Body = false

-- a unit of an activity that another one starts
abbrev pub is_body : UnitKind → Bool
is_body unit_kind.Main = false
is_body unit_kind.Method = false
is_body unit_kind.Body = true

-- the arguments that parameters take as clocks
abbrev pub clock_arguments : List ParamKind → List ℕ → List ℕ
clock_arguments [] xs = []
clock_arguments (p ∷ ps) [] = []
clock_arguments (param.Number ∷ ps) (x ∷ xs) = clock_arguments ps xs
clock_arguments (param.Clock ∷ ps) (x ∷ xs) = x ∷ clock_arguments ps xs

-- ---- loops

-- A loop: the places of its first instruction and of its `next`, its slot, its bounds, and the slot of a number that it goes no further up
-- than, if it names one.
pub record Loop : Type 0 where
  pub first : ℕ
  pub last : ℕ
  pub slot : ℕ
  pub lo : ℤ
  pub hi : ℤ
  pub limit : Option ℕ

-- the loop that an instruction at place `first` is the head of, by what it says itself
abbrev pub loop_head : ℕ → Instr → Option Loop
loop_head first (instr.For k lo hi e) = Some (record { first = first; last = e; slot = k; lo = lo; hi = hi; limit = None })
loop_head first (instr.ForTo k lo x hi e) = Some (record { first = first; last = e; slot = k; lo = lo; hi = hi; limit = Some x })
loop_head first _ = None

-- it is a `next` that names this place
abbrev pub is_next_of : ℕ → Option Instr → Bool
is_next_of first (Some (instr.Next b)) = b == first
is_next_of first _ = false

-- it ends at a `next` that names its first place
abbrev pub if_ended : UnitValue → Loop → Option Loop
if_ended u l = if is_next_of l.first (slice_get u.code l.last) then Some l else None

-- the loop that an instruction at place `first` begins: its head and a `next` name each other
abbrev pub loop_begun : UnitValue → ℕ → Instr → Option Loop
loop_begun u first i = option_and_then (if_ended u) (loop_head first i)

-- what instructions begin, the first of them at place `at`, in their order
abbrev pub begun_from : {X : Type 0} → (ℕ → Instr → Option X) → ℕ → List Instr → List X
begun_from begun at [] = []
begun_from begun at (i ∷ is) = option_map_or (λ x. x ∷ begun_from begun (suc at) is) (begun at i) (begun_from begun (suc at) is)

-- the loops that instructions begin, the first of them at place `at`
abbrev pub loops_from : UnitValue → ℕ → List Instr → List Loop
loops_from u at is = begun_from (loop_begun u) at is

-- the loops of a unit, by the places of their heads
abbrev pub loops : UnitValue → List Loop
loops u = loops_from u 0 u.code

-- the place lies in the loop: behind its head, and up to its `next`
abbrev pub is_round : ℕ → Loop → Bool
is_round at l = nat_lt l.first at && nat_le at l.last

-- the place lies strictly between its head and its `next`
abbrev pub is_within : ℕ → Loop → Bool
is_within at l = nat_lt l.first at && nat_lt at l.last

-- how many turns a loop takes
abbrev pub turns : Loop → ℕ
turns l = if int_le l.lo l.hi then nat_abs (l.hi -ℤ l.lo) + 1 else 0

-- ---- limits

-- at most 64 slots, no more parameters than slots, at most 4,096 instructions, each with at most 64 arguments
pub record IsUnitWithinLimits (u : UnitValue) : Type 0 where
  pub slots : u.slots ≤ 64
  pub params : length u.params ≤ u.slots
  pub code : length u.code ≤ 4096
  pub arguments : All (λ i. length (arguments_of i) ≤ 64) u.code

-- 1 to 1,024 units, at most 256 shared numbers, and each unit within its limits
pub record IsWithinLimits (m : ModuleValue) : Type 0 where
  pub some : 1 ≤ length m.units
  pub units : length m.units ≤ 1024
  pub shared : length m.shared ≤ 256
  pub each : All IsUnitWithinLimits m.units
