-- The lines that the program prints of a program, a run or a fault, each with a line feed at its end, and statuses of faults. This project's own.
use Rattle.std.specs.Prelude.{ℕ, List, [], ◌++◌, flat_map, codes, decimal, Option, Some, None}
use Rattle.xk_types.specs.declared.rules.Rule.{Rule}
use Rattle.xk_types.specs.declared.rules.Visit.{Visit}
use Rattle.xk_types.specs.RuleNames.{rule_number, rule_name, kind_name}
use Rattle.xk_jobs.specs.Status.{status_memory, status_program}
use Rattle.xk_tree.specs.declared.fault.FrontFault.{FrontFault}
use Rattle.xk_tree.specs.Fault.{front_number, front_name}
use Rattle.xk_typestate.specs.declared.fault.KindFault.{KindFault}
use Rattle.xk_bounds.specs.declared.refusal.BoundFault.{BoundFault}
use Rattle.xk_bounds.specs.declared.refusal.Refusal.{Refusal}
use Rattle.xk_bounds.specs.declared.refusal.Refusal.TheVariants as refusal

-- a line of the program's own
abbrev pub line : List ℕ → List ℕ
line text = codes "x10clock: " ++ (text ++ codes "\n")

-- a rule on source texts that is broken: `F10 Recursive at 10`
abbrev pub front_text : FrontFault → List ℕ
front_text f = codes "F" ++ (decimal (front_number f.rule) ++ (codes " " ++ (front_name f.rule ++ (codes " at " ++ decimal f.at))))

-- a rule with its number: `V9 Registers`
abbrev pub rule_text : Rule → List ℕ
rule_text r = codes "V" ++ (decimal (rule_number r) ++ (codes " " ++ rule_name r))

-- a place that breaks a rule: `V9 Registers unit 0 at 2`
abbrev pub place_text : Rule → ℕ → ℕ → List ℕ
place_text r unit at = rule_text r ++ (codes " unit " ++ (decimal unit ++ (codes " at " ++ decimal at)))

-- the instructions of a walk, each after a blank
abbrev pub walk_text : List Visit → List ℕ
walk_text walk = flat_map (λ v. codes " " ++ decimal v.at) walk

-- a slot of the wrong kind: `V12 Held unit 0 at 3 slot 0 live walk 0 1 2 3`
abbrev pub kind_text : KindFault → List ℕ
kind_text f = place_text f.rule f.unit f.at ++ (codes " slot " ++ (decimal f.slot ++ (codes " " ++ (kind_name f.kind ++ (codes " walk" ++ walk_text f.walk.items)))))

-- a bound over its limit: `V14 Steps over 1000000000`
abbrev pub bound_text : BoundFault → List ℕ
bound_text f = rule_text f.rule ++ (codes " over " ++ decimal f.limit)

abbrev pub memory_line : List ℕ
memory_line = codes "x10clock: out of memory\n"

-- a fault of the module text, and want of memory where it is none
abbrev pub label_line : Option (List ℕ) → List ℕ
label_line (Some label) = line label
label_line None = memory_line

abbrev pub refusal_line : Refusal → List ℕ
refusal_line (refusal.Shape f) = line (place_text f.rule f.unit f.at)
refusal_line (refusal.Kind f) = line (kind_text f)
refusal_line (refusal.Bound f) = line (bound_text f)
refusal_line refusal.OutOfMemory = memory_line

-- main takes another number of arguments: `A1 Arguments wants 1 has 0`
abbrev pub arguments_line : ℕ → ℕ → List ℕ
arguments_line wants has = line (codes "A1 Arguments wants " ++ (decimal wants ++ (codes " has " ++ decimal has)))

-- a fault of the log: `L1 Grammar line 2`, `L4 NotEnabled entry 3`
abbrev pub grammar_line : ℕ → List ℕ
grammar_line n = line (codes "L1 Grammar line " ++ decimal n)

abbrev pub not_enabled_line : ℕ → List ℕ
not_enabled_line n = line (codes "L4 NotEnabled entry " ++ decimal n)

-- a fault of a list of outcomes: `L6 NoOutcome line 3`
abbrev pub no_outcome_line : ℕ → List ℕ
no_outcome_line n = line (codes "L6 NoOutcome line " ++ decimal n)

-- ---- standard output

-- a module that is accepted: `accepted steps 8 activities 1 clocks 1`
abbrev pub accepted_line : ℕ → ℕ → ℕ → List ℕ
accepted_line steps activities clocks =
    codes "accepted steps " ++ (decimal steps ++ (codes " activities " ++ (decimal activities ++ (codes " clocks " ++ (decimal clocks ++ codes "\n")))))

-- a run that came to its end: `ended steps 8`
abbrev pub ended_line : ℕ → List ℕ
ended_line steps = codes "ended steps " ++ (decimal steps ++ codes "\n")

-- one by rounds: `ended steps 8 rounds 3`
abbrev pub rounds_line : ℕ → ℕ → List ℕ
rounds_line steps rounds = codes "ended steps " ++ (decimal steps ++ (codes " rounds " ++ (decimal rounds ++ codes "\n")))

-- a log that ends before the step that was asked for: `the log ends after step 8`
abbrev pub log_end_line : ℕ → List ℕ
log_end_line steps = codes "the log ends after step " ++ (decimal steps ++ codes "\n")

-- a step that was asked for, and that others can't see: `no other activity can see step 3: see events`
abbrev pub local_line : ℕ → List ℕ
local_line step = codes "no other activity can see step " ++ (decimal step ++ codes ": see events\n")

-- ---- statuses

abbrev pub label_status : Option (List ℕ) → ℕ
label_status (Some label) = status_program
label_status None = status_memory

abbrev pub refusal_status : Refusal → ℕ
refusal_status (refusal.Shape f) = status_program
refusal_status (refusal.Kind f) = status_program
refusal_status (refusal.Bound f) = status_program
refusal_status refusal.OutOfMemory = status_memory
