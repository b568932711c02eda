-- Small runs, line by line, and the names of clocks.
use Rattle.std.proofs.Common.{◌≡◌, ℕ, ◌<◌, pos, List, [], ◌∷◌, Option, Some, None, refl, lit<}
use Rattle.std.specs.Prelude.{codes}
use Rattle.std.specs.Fmt.{digits}
use Rattle.xk_types.specs.declared.instr.Instr.TheVariants as instr
use Rattle.xk_types.specs.declared.unit.UnitKind.{UnitKind}
use Rattle.xk_types.specs.declared.unit.UnitKind.TheVariants as unit_kind
use Rattle.xk_types.specs.declared.world.Entry.{Entry}
use Rattle.xk_types.specs.Code.{ModuleValue}
use Rattle.xk_types.proofs.Examples.Notation.{main_with, module_with}
use Rattle.xk_unit_origins.specs.UnitOrigins.{UnitOrigins}
use Rattle.xk_show_events.specs.Events.{event_words, no_text}
use Rattle.xk_show_names.specs.ClockNames.{births, births_until, clock_names, each_numbered}
use Rattle.xk_show_names.specs.Methods.{prefix_at}
use Rattle.xk_show_names.specs.Events.{account_line, change_words, named_events_text, shared_word, step_words, value_words}

abbrev entry : (a n : ℕ) → 0 < n → Entry
entry a n some = record { act = a; steps = n; at_least_one = some }

-- ---- a shared number, which is 3 at first, and whose name isn't known

abbrev doubled : ModuleValue
doubled = record (module_with (
    main_with 2 (instr.Get 0 0 ∷ instr.AddTo 0 0 ∷ instr.Get 1 0 ∷ instr.Print 1 ∷ instr.Ret ∷ [])
    ∷ [])) { shared = pos 3 ∷ [] }

-- what is read, and who wrote it
doubled_lines : named_events_text no_text [] doubled [] (entry 0 5 (lit< tt) ∷ [])
    ≡ codes "step 1 act 0 unit 0 place 0 read shared 0 3 (opening)\nstep 2 act 0 unit 0 place 1 add shared 0 3 -> 6\nstep 3 act 0 unit 0 place 2 read shared 0 6 (step 2)\nstep 4 act 0 unit 0 place 3 print 6\nstep 5 act 0 unit 0 place 4 end\n"
unfolding account_line step_words event_words value_words change_words shared_word digits
doubled_lines = refl

-- ---- clocks

abbrev clocked : ModuleValue
clocked = module_with (main_with 2 (instr.Make 0 ∷ instr.Make 1 ∷ instr.Ret ∷ []) ∷ [])

-- two that were made where no name is known
clocks_alone : clock_names no_text (births clocked [] (entry 0 3 (lit< tt) ∷ [])) ≡ codes "clock of 0.0" ∷ codes "clock of 0.1" ∷ []
unfolding digits
clocks_alone = refl

-- and the first of them, where the second is made behind the last step
first_alone : clock_names no_text (births_until 1 clocked [] (entry 0 3 (lit< tt) ∷ [])) ≡ codes "clock of 0.0" ∷ []
unfolding digits
first_alone = refl

-- three of one name, and another one
numbers : each_numbered ((99 ∷ []) ∷ (99 ∷ []) ∷ (100 ∷ []) ∷ (99 ∷ []) ∷ []) ≡ codes "c" ∷ codes "c#2" ∷ codes "d" ∷ codes "c#3" ∷ []
unfolding digits
numbers = refl

-- ---- methods

abbrev unit_at : ℕ → UnitKind → Option (List ℕ) → UnitOrigins
unit_at at kind name = record { head = record { at = at; kind = kind; name = name }; offsets = []; slots = [] }

-- main, at 4, has an `async` at 20; another method, at 40, has one at 60
abbrev of_two : List UnitOrigins
of_two = unit_at 4 unit_kind.Main (Some (codes "main")) ∷ unit_at 40 unit_kind.Method (Some (codes "work")) ∷ unit_at 20 unit_kind.Body None
    ∷ unit_at 60 unit_kind.Body None ∷ []

in_main : prefix_at of_two 2 ≡ []
in_main = refl

in_work : prefix_at of_two 3 ≡ codes "work."
in_work = refl
