-- What a page has of the critical path of a small run.
use Rattle.std.proofs.Common.{◌≡◌, ℕ, ◌<◌, pos, List, [], ◌∷◌, refl, lit<}
use Rattle.std.specs.Prelude.{codes}
use Rattle.std.specs.Fmt.{digits}
use Rattle.xk_types.specs.declared.instr.Instr.TheVariants as instr
use Rattle.xk_types.specs.declared.unit.ParamKind.TheVariants as param
use Rattle.xk_types.specs.declared.world.Entry.{Entry}
use Rattle.xk_types.specs.Code.{ModuleValue}
use Rattle.xk_types.proofs.Examples.Notation.{main_with, body_with, module_with}
use Rattle.xk_show_lanes.specs.declared.window.Window.{Window}
use Rattle.xk_show_path.specs.Rounds.{rounds_of_run}
use Rattle.xk_path_page.specs.PathPage.{line_words, lines_told, step_line, steps_told}

abbrev entry : (a n : ℕ) → 0 < n → Entry
entry a n some = record { act = a; steps = n; at_least_one = some }

-- two activities in step
abbrev in_step : ModuleValue
in_step = module_with (
    main_with 2 (instr.Make 0 ∷ instr.Spawn 1 (0 ∷ []) ∷ instr.Advance ∷ instr.Lit 1 (pos 1) ∷ instr.Print 1 ∷ instr.Ret ∷ [])
    ∷ body_with (param.Clock ∷ []) 2 (instr.Advance ∷ instr.Lit 1 (pos 2) ∷ instr.Print 1 ∷ instr.Ret ∷ [])
    ∷ [])

-- main takes eight steps in two runs
abbrev log : List Entry
log = entry 0 3 (lit< tt) ∷ entry 1 1 (lit< tt) ∷ entry 0 4 (lit< tt) ∷ entry 1 4 (lit< tt) ∷ []

-- the path stays with main: its fifth step is seen by nobody else, so that the page doesn't have it
abbrev last_steps : Window
last_steps = record { first = 5; last = 12 }

end_of_path : steps_told last_steps (rounds_of_run in_step [] log) ≡ codes "step 5 act 0 round 4\nstep 7 act 0 round 6\nstep 8 act 0 round 7\n"
unfolding step_line digits
end_of_path = refl

-- lines are counted from 1, and those without a step of the path aren't told
counted_lines : lines_told (0 ∷ 2 ∷ 0 ∷ 52 ∷ []) ≡ codes "line 1 with 2\nline 3 with 52\n"
unfolding line_words digits
counted_lines = refl
