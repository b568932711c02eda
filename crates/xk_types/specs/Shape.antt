-- The rules on the shape of code: which places break them. They are this project's own.
--
-- X10 Language Specification 2.4, chapter Clocks, section Deadlock Freedom, names a discipline under which programs with clocks don't wait
-- for ever, and doesn't enforce it. V8 and V9 here, and V12 of the walks, are this project's, and are enforced: a clock that is made inside a
-- finish may be handed on there, and has to be dropped before its end.
use Rattle.std.specs.Prelude.{◌≡◌, ℕ, ◌+◌, ◌==◌, nat_lt, int_lt, option_map, option_and_then, Bool, true, false, not, ◌&&◌, ◌||◌, List, [], ◌∷◌, ◌++◌, length, map, take, Option, Some, None, slice_get, if◌then◌else◌}
use Rattle.std.specs.List.{list_all, list_any}
use Rattle.std.specs.Option.{option_map_or}
use Rattle.xk_types.specs.declared.instr.Instr.{Instr}
use Rattle.xk_types.specs.declared.instr.Instr.TheVariants as instr
use Rattle.xk_types.specs.declared.rules.Rule.{Rule}
use Rattle.xk_types.specs.declared.rules.Rule.TheVariants as rule
use Rattle.xk_types.specs.declared.unit.UnitKind.{UnitKind}
use Rattle.xk_types.specs.Code.{UnitValue, ModuleValue, is_main, is_method, is_body, params_of, clock_arguments, Loop, loop_head, loop_begun, loops, is_within}
use Rattle.xk_types.specs.Blocks.{Span, finish_opened, finishes, is_inside, block_at, takes_clock, made_from, homes, is_elsewhere}

-- the slots that an instruction names; those of a `next` are its loop's
abbrev pub slots_named : Instr → List ℕ
slots_named (instr.Lit d n) = d ∷ []
slots_named (instr.Copy d x) = d ∷ x ∷ []
slots_named (instr.Add d x y) = d ∷ x ∷ y ∷ []
slots_named (instr.Sub d x y) = d ∷ x ∷ y ∷ []
slots_named (instr.Mul d x y) = d ∷ x ∷ y ∷ []
slots_named (instr.Unless op x y t) = x ∷ y ∷ []
slots_named (instr.Jump t) = []
slots_named (instr.For k lo hi e) = k ∷ []
slots_named (instr.ForTo k lo x hi e) = k ∷ x ∷ []
slots_named (instr.Next b) = []
slots_named (instr.Finish e) = []
slots_named (instr.EndFinish b) = []
slots_named (instr.Get d s) = d ∷ []
slots_named (instr.Put s x) = x ∷ []
slots_named (instr.AddTo s x) = x ∷ []
slots_named (instr.Print x) = x ∷ []
slots_named (instr.Make d) = d ∷ []
slots_named (instr.Resume c) = c ∷ []
slots_named (instr.Drop c) = c ∷ []
slots_named instr.Advance = []
slots_named (instr.Call t args) = args
slots_named (instr.Spawn t args) = args
slots_named instr.Ret = []

-- the slot that an instruction names and writes, if it does (a `next` writes its loop's)
abbrev pub slot_written : Instr → Option ℕ
slot_written (instr.Lit d n) = Some d
slot_written (instr.Copy d x) = Some d
slot_written (instr.Add d x y) = Some d
slot_written (instr.Sub d x y) = Some d
slot_written (instr.Mul d x y) = Some d
slot_written (instr.Get d s) = Some d
slot_written (instr.For k lo hi e) = Some k
slot_written (instr.ForTo k lo x hi e) = Some k
slot_written (instr.Make d) = Some d
slot_written _ = None

-- where an instruction may go but to the next, ahead of it; a `forto` may pass over its loop
abbrev pub target : Instr → Option ℕ
target (instr.Unless op x y t) = Some t
target (instr.Jump t) = Some t
target (instr.ForTo k lo x hi e) = Some (e + 1)
target _ = None

-- the instruction is a `ret`
abbrev pub is_ret : Instr → Bool
is_ret instr.Ret = true
is_ret _ = false

-- a test of the instruction at a place, and no where there is none
abbrev pub instr_is : (Instr → Bool) → Option Instr → Bool
instr_is test None = false
instr_is test (Some i) = test i

-- ---- targets, loops

-- the place lies ahead of place `at`, and inside the code
abbrev pub lies_ahead : UnitValue → ℕ → ℕ → Bool
lies_ahead u at t = nat_lt at t && nat_lt t (length u.code)

-- the places that the instruction at this place names lie ahead of it and inside the code, or, for a `next`, behind it
abbrev pub aims_well : UnitValue → ℕ → Instr → Bool
aims_well u at (instr.Unless op x y t) = lies_ahead u at t
aims_well u at (instr.Jump t) = lies_ahead u at t
aims_well u at (instr.For k lo hi e) = lies_ahead u at e
aims_well u at (instr.ForTo k lo x hi e) = lies_ahead u at e
aims_well u at (instr.Next b) = nat_lt b at
aims_well u at (instr.Finish e) = lies_ahead u at e
aims_well u at (instr.EndFinish b) = nat_lt b at
aims_well u at _ = true

-- V1: targets and the ends of loops and finishes lie ahead and inside the code, their beginnings behind
abbrev pub breaks_target : UnitValue → ℕ → Bool
breaks_target u at = instr_is (λ i. not (aims_well u at i)) (slice_get u.code at)

-- the loop from its head to its `next`
abbrev pub span_of : Loop → Span
span_of l = record { first = l.first; last = l.last }

-- the loop or the finish that an instruction at place `at` begins
abbrev pub span_begun : UnitValue → ℕ → Instr → Option Span
span_begun u at (instr.Finish e) = finish_opened u at (instr.Finish e)
span_begun u at i = option_map span_of (loop_begun u at i)

-- the loops and the finishes of a unit
abbrev pub spans : UnitValue → List Span
spans u = map span_of (loops u) ++ finishes u

-- one of the two begins inside the other, and ends behind its end
abbrev pub overlaps : Span → Span → Bool
overlaps l k =
    (nat_lt l.first k.first && nat_lt k.first l.last && nat_lt l.last k.last)
    || (nat_lt k.first l.first && nat_lt l.first k.last && nat_lt k.last l.last)

-- the loop or the finish that begins at place b, if it ends at place `at`
abbrev pub span_ended : UnitValue → ℕ → ℕ → Option Instr → Option Span
span_ended u at b None = None
span_ended u at b (Some i) = option_and_then (λ l. if l.last == at then Some l else None) (span_begun u b i)

-- there is no such span, or it overlaps another in part
abbrev pub is_amiss : UnitValue → Option Span → Bool
is_amiss u None = true
is_amiss u (Some l) = list_any (overlaps l) (spans u)

-- one of the two, and not the other
abbrev pub differ : Bool → Bool → Bool
differ true q = not q
differ false q = q

-- A jump from one place to another leaves the loop or the finish, or comes into it. It may end at the last instruction of it, and not
-- begin there.
abbrev pub crosses : ℕ → ℕ → Span → Bool
crosses at t l = differ (nat_lt l.first at && nat_lt at l.last) (is_inside t l)

-- the instruction is half of a loop or a finish that is amiss, or a jump that crosses the edge of one
abbrev pub is_crossing : UnitValue → ℕ → Instr → Bool
is_crossing u at (instr.For k lo hi e) = is_amiss u (span_begun u at (instr.For k lo hi e))
is_crossing u at (instr.ForTo k lo x hi e) = is_amiss u (span_begun u at (instr.ForTo k lo x hi e))
is_crossing u at (instr.Finish e) = is_amiss u (span_begun u at (instr.Finish e))
is_crossing u at (instr.Next b) = is_amiss u (span_ended u at b (slice_get u.code b))
is_crossing u at (instr.EndFinish b) = is_amiss u (span_ended u at b (slice_get u.code b))
is_crossing u at (instr.Unless op x y t) = list_any (crosses at t) (spans u)
is_crossing u at (instr.Jump t) = list_any (crosses at t) (spans u)
is_crossing u at _ = false

-- V2: the head and the `next` of a loop, and a `finish` and an `endfinish`, name each other; loops and finishes nest or lie apart; no jump leaves
-- one or comes into one
abbrev pub breaks_block : UnitValue → ℕ → Bool
breaks_block u at = instr_is (is_crossing u at) (slice_get u.code at)

-- it goes no further up than the number in this slot
abbrev pub is_limit : ℕ → Loop → Bool
is_limit s l = option_map_or (λ x. x == s) l.limit false

-- its bounds are out of order, or its own slot is its limit
abbrev pub is_backward : Loop → Bool
is_backward l = int_lt l.hi l.lo || is_limit l.slot l

-- so is the loop of which this is the head
abbrev pub begins_backward : Instr → Bool
begins_backward i = option_map_or is_backward (loop_head 0 i) false

-- the slot is the loop's, or that of its limit
abbrev pub counts_by : ℕ → Loop → Bool
counts_by s l = (s == l.slot) || is_limit s l

-- it writes one of them
abbrev pub spoils : Loop → Instr → Bool
spoils l i = option_map_or (λ d. counts_by d l) (slot_written i) false

-- V6: a loop's bounds are in order, its slot isn't its limit, and no instruction inside it writes either
abbrev pub breaks_loop : UnitValue → ℕ → Bool
breaks_loop u at =
    instr_is begins_backward (slice_get u.code at)
    || instr_is (λ i. list_any (λ l. is_within at l && spoils l i) (loops u)) (slice_get u.code at)

-- ---- slots, units, the end

-- V3: every slot that an instruction names is one of the unit's
abbrev pub breaks_slot : UnitValue → ℕ → Bool
breaks_slot u at = instr_is (λ i. not (list_all (λ s. nat_lt s u.slots) (slots_named i))) (slice_get u.code at)

-- the shared number that an instruction names, if it names one
abbrev pub cell_named : Instr → Option ℕ
cell_named (instr.Get d s) = Some s
cell_named (instr.Put s x) = Some s
cell_named (instr.AddTo s x) = Some s
cell_named _ = None

-- V5: every shared number that is named is one of the module's
abbrev pub breaks_cell : ModuleValue → UnitValue → ℕ → Bool
breaks_cell m u at = instr_is (λ i. option_map_or (λ s. not (nat_lt s (length m.shared))) (cell_named i) false) (slice_get u.code at)

-- unit 0 is main and has no parameter that takes a clock, and no other unit is main
abbrev pub is_in_place : ℕ → UnitValue → Bool
is_in_place unit u = if unit == 0 then is_main u.kind && not (list_any (λ p. takes_clock (Some p)) u.params) else not (is_main u.kind)

-- what unit number `unit` calls or starts is of such a kind and of greater number, and is given as many arguments as it has
-- parameters
abbrev pub is_fitting : (UnitKind → Bool) → ℕ → ℕ → List ℕ → Option UnitValue → Bool
is_fitting kind unit t args None = false
is_fitting kind unit t args (Some v) = kind v.kind && nat_lt unit t && (length args == length v.params)

-- the instruction calls or starts a unit that isn't fitting
abbrev pub runs_amiss : ModuleValue → ℕ → Instr → Bool
runs_amiss m unit (instr.Call t args) = not (is_fitting is_method unit t args (slice_get m.units t))
runs_amiss m unit (instr.Spawn t args) = not (is_fitting is_body unit t args (slice_get m.units t))
runs_amiss m unit _ = false

-- V4: unit 0 is the only main, and takes numbers alone (a breach is reported at instruction 0); a unit that is called or started
-- fits
abbrev pub breaks_unit : ModuleValue → ℕ → UnitValue → ℕ → Bool
breaks_unit m unit u at = ((at == 0) && not (is_in_place unit u)) || instr_is (runs_amiss m unit) (slice_get u.code at)

-- V7: the last instruction is `ret`, and no other is; for empty code a breach is reported at 0
abbrev pub breaks_end : UnitValue → ℕ → Bool
breaks_end u at =
    instr_is (λ i. is_ret i && nat_lt (at + 1) (length u.code)) (slice_get u.code at)
    || instr_is (λ i. not (is_ret i) && (at + 1 == length u.code)) (slice_get u.code at)
    || ((at == 0) && (length u.code == 0))

-- the instruction makes a clock in a parameter, or drops one that a method was lent
abbrev pub mishandles : UnitValue → Instr → Bool
mishandles u (instr.Make d) = nat_lt d (length u.params)
mishandles u (instr.Drop k) = is_method u.kind && takes_clock (slice_get u.params k)
mishandles u _ = false

-- an instruction before this place makes the clock of the same slot, in another block
abbrev pub moves_home : UnitValue → ℕ → Instr → Bool
moves_home u at (instr.Make d) = is_elsewhere (block_at u at) (made_from u d 0 (take at u.code))
moves_home u at _ = false

-- V8: all that make the clock of one slot stand directly in one block; no parameter is made, and no method drops a clock that it was
-- lent
abbrev pub breaks_home : UnitValue → ℕ → Bool
breaks_home u at = instr_is (λ i. mishandles u i || moves_home u at i) (slice_get u.code at)

-- a clock among what it hands to a unit is at home in another block than this place
abbrev pub gives_away : ModuleValue → UnitValue → ℕ → Instr → Bool
gives_away m u at (instr.Call t args) = list_any (λ x. is_elsewhere (block_at u at) (homes u x)) (clock_arguments (params_of m t) args)
gives_away m u at (instr.Spawn t args) = list_any (λ x. is_elsewhere (block_at u at) (homes u x)) (clock_arguments (params_of m t) args)
gives_away m u at _ = false

-- V9: a clock is handed on only in the block that is its home
abbrev pub breaks_registers : ModuleValue → UnitValue → ℕ → Bool
breaks_registers m u at = instr_is (gives_away m u at) (slice_get u.code at)

-- some number stands twice in the list
abbrev pub has_twice : List ℕ → Bool
has_twice [] = false
has_twice (x ∷ xs) = list_any (λ y. y == x) xs || has_twice xs

-- the instruction lends or hands on the clock of one slot twice
abbrev pub gives_twice : ModuleValue → Instr → Bool
gives_twice m (instr.Call t args) = has_twice (clock_arguments (params_of m t) args)
gives_twice m (instr.Spawn t args) = has_twice (clock_arguments (params_of m t) args)
gives_twice m _ = false

-- V10: no slot stands twice among the clocks that are handed on
abbrev pub breaks_same_clock : ModuleValue → UnitValue → ℕ → Bool
breaks_same_clock m u at = instr_is (gives_twice m) (slice_get u.code at)

-- Rules that aren't about shape are broken nowhere.
abbrev pub breaks_in : ModuleValue → Rule → ℕ → UnitValue → ℕ → Bool
breaks_in m rule.Target unit u at = breaks_target u at
breaks_in m rule.Block unit u at = breaks_block u at
breaks_in m rule.Slot unit u at = breaks_slot u at
breaks_in m rule.Unit unit u at = breaks_unit m unit u at
breaks_in m rule.Cell unit u at = breaks_cell m u at
breaks_in m rule.Loop unit u at = breaks_loop u at
breaks_in m rule.End unit u at = breaks_end u at
breaks_in m rule.Home unit u at = breaks_home u at
breaks_in m rule.Registers unit u at = breaks_registers m u at
breaks_in m rule.SameClock unit u at = breaks_same_clock m u at
breaks_in m rule.Use unit u at = false
breaks_in m rule.Held unit u at = false
breaks_in m rule.Leak unit u at = false
breaks_in m rule.Steps unit u at = false
breaks_in m rule.Activities unit u at = false
breaks_in m rule.Clocks unit u at = false
breaks_in m rule.Stack unit u at = false

-- a place of a unit breaks the rule; where there is no such unit nothing does
abbrev pub breaks_unit_of : ModuleValue → Rule → ℕ → Option UnitValue → ℕ → Bool
breaks_unit_of m r unit None at = false
breaks_unit_of m r unit (Some u) at = breaks_in m r unit u at

-- instruction `at` of unit `unit` breaks the rule
abbrev pub breaks : ModuleValue → Rule → ℕ → ℕ → Bool
breaks m r unit at = breaks_unit_of m r unit (slice_get m.units unit) at

-- no place breaks a rule
abbrev pub HasShape : ModuleValue → Type 0
HasShape m = (r : Rule) (unit at : ℕ) → breaks m r unit at ≡ false
