-- The sums of a program by their parts: how often loops, calls and starts are carried out, and what each unit comes to. This project's own.
use Rattle.std.specs.Prelude.{ℕ, suc, ◌*◌, nat_lt, Bool, true, false, List, [], ◌∷◌, ◌++◌, Option, Some, None, option_map, if◌then◌else◌}
use Rattle.std.specs.Option.{option_map_or}
use Rattle.xk_types.specs.declared.instr.Instr.{Instr}
use Rattle.xk_types.specs.declared.instr.Instr.TheVariants as instr
use Rattle.xk_types.specs.declared.rules.Rule.{Rule}
use Rattle.xk_types.specs.declared.rules.Rule.TheVariants as rule
use Rattle.xk_types.specs.Code.{Loop, ModuleValue, UnitValue, begun_from, loop_begun, turns}
use Rattle.xk_types.specs.Bound.{visits}
use Rattle.xk_explain_bounds.specs.declared.remark.Fact.{Fact}
use Rattle.xk_explain_bounds.specs.declared.remark.Fact.TheVariants as fact
use Rattle.xk_explain_bounds.specs.declared.remark.Remark.{Remark}
use Rattle.xk_explain_bounds.specs.declared.remark.Subject.{Subject}
use Rattle.xk_explain_bounds.specs.declared.remark.Subject.TheVariants as subject
use Rattle.xk_explain_bounds.specs.Amounts.{comes_to, goes_up_only, kept}

-- ---- instructions

-- loops make sums, but none of slots; of an accepted program those of one turn tell nothing
abbrev pub tells_loop : Subject → Loop → Bool
tells_loop subject.Stack l = false
tells_loop subject.Accepted l = nat_lt 1 (turns l)
tells_loop _ l = true

abbrev pub tells_call : Subject → Bool
tells_call subject.Accepted = false
tells_call _ = true

abbrev pub tells_start : Subject → Bool
tells_start subject.Stack = false
tells_start _ = true

abbrev pub tells_make : Subject → Bool
tells_make subject.Clocks = true
tells_make subject.Accepted = true
tells_make _ = false

-- the turns of a loop, each time and in one run of its unit
abbrev pub loop_fact : ℕ → Loop → Fact
loop_fact count l = fact.Loop (kept (turns l)) (kept (count * turns l))

-- what is told of an instruction, if anything
abbrev pub part : Subject → UnitValue → ℕ → Instr → Option Fact
part s u at (instr.Call t args) = if tells_call s then Some (fact.Call t (kept (visits u at))) else None
part s u at (instr.Spawn t args) = if tells_start s then Some (fact.Start t (kept (visits u at))) else None
part s u at (instr.Make d) = if tells_make s then Some (fact.Make (kept (visits u at))) else None
part s u at i = option_map_or (λ l. if tells_loop s l then Some (loop_fact (visits u at) l) else None) (loop_begun u at i) None

-- at its place
abbrev pub part_at : Subject → ℕ → UnitValue → ℕ → Instr → Option Remark
part_at s unit u at i = option_map (λ f. record { unit = unit; at = Some at; fact = f }) (part s u at i)

-- ---- units

-- what is told of a whole unit that comes to so much, if anything
abbrev pub whole : Subject → UnitValue → ℕ → Option Fact
whole subject.Steps u n = Some (fact.Steps n)
whole subject.Activities u n = Some (fact.Activities n)
whole subject.Clocks u n = Some (fact.Clocks n)
whole subject.Stack u n = Some (fact.Slots u.slots n)
whole subject.Accepted u n = None

abbrev pub whole_remark : ℕ → Option Fact → List Remark
whole_remark unit None = []
whole_remark unit (Some f) = record { unit = unit; at = None; fact = f } ∷ []

-- a unit's parts, in their order, and what it comes to
abbrev pub unit_remarks : Subject → ModuleValue → ℕ → UnitValue → List Remark
unit_remarks s m unit u = begun_from (part_at s unit u) 0 u.code ++ whole_remark unit (whole s u (kept (comes_to s m unit)))

-- of the units from number n on
abbrev pub remarks_from : Subject → ModuleValue → ℕ → List UnitValue → List Remark
remarks_from s m n [] = []
remarks_from s m n (u ∷ us) = unit_remarks s m n u ++ remarks_from s m (suc n) us

-- Of all units. (Units that run such of smaller number are refused before any sum is, and have none.)
abbrev pub sum_remarks : Subject → ModuleValue → List Remark
sum_remarks s m = if goes_up_only m then remarks_from s m 0 m.units else []

-- what a rule on sums is about
abbrev pub subject_of : Rule → Option Subject
subject_of rule.Steps = Some subject.Steps
subject_of rule.Activities = Some subject.Activities
subject_of rule.Clocks = Some subject.Clocks
subject_of rule.Stack = Some subject.Stack
subject_of _ = None
