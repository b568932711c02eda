-- A small run in lanes, with its critical path.
use Rattle.std.proofs.Common.{◌≡◌, ℕ, ◌<◌, pos, List, [], ◌∷◌, refl, lit<}
use Rattle.std.specs.Prelude.{codes, None}
use Rattle.std.specs.Fmt.{digits}
use Rattle.xk_types.specs.declared.instr.Instr.TheVariants as instr
use Rattle.xk_types.specs.declared.unit.ParamKind.TheVariants as param
use Rattle.xk_types.specs.declared.world.Entry.{Entry}
use Rattle.xk_types.specs.Code.{ModuleValue}
use Rattle.xk_types.specs.Schedule.{Through, run}
use Rattle.xk_types.specs.World.{World, opening}
use Rattle.xk_types.specs.Logs.{schedule_of}
use Rattle.xk_types.proofs.Examples.Notation.{main_with, body_with, module_with}
use Rattle.xk_show_events.specs.Events.{event_words, no_text}
use Rattle.xk_show_lanes.specs.Fields.{at_left, at_right, whole_line}
use Rattle.xk_show_lanes.specs.Lanes.{bar_label, bar_lane, lane_line, line_front, spot, whole_run}
use Rattle.xk_show_path.specs.PathLanes.{path_bar, path_head, path_lanes_text, row_with}

abbrev entry : (a n : ℕ) → 0 < n → Entry
entry a n some = record { act = a; steps = n; at_least_one = some }

-- two activities in step
abbrev in_step : ModuleValue
in_step = module_with (
    main_with 2 (instr.Make 0 ∷ instr.Spawn 1 (0 ∷ []) ∷ instr.Advance ∷ instr.Lit 1 (pos 1) ∷ instr.Print 1 ∷ instr.Ret ∷ [])
    ∷ body_with (param.Clock ∷ []) 2 (instr.Advance ∷ instr.Lit 1 (pos 2) ∷ instr.Print 1 ∷ instr.Ret ∷ [])
    ∷ [])

-- main takes eight steps in two runs
abbrev log : List Entry
log = entry 0 3 (lit< tt) ∷ entry 1 1 (lit< tt) ∷ entry 0 4 (lit< tt) ∷ entry 1 4 (lit< tt) ∷ []

-- where it leads
in_step_last : (w : World) × (run in_step (schedule_of log) (opening in_step []) ≡ Through w)
in_step_last = (_, refl)

-- both come to the clock in round 3: the path stays with main
in_step_path : path_lanes_text no_text None whole_run in_step log in_step_last.0 ≡ codes " round  step  at   main     act 1\n     1     1  0.0  *make 0\n     2     2  0.1  *async 1 |\n     3     3  0.2  *arrive  |\n     3     4  1.0  |        arrive\n                   +========+        clock 0 phase 1 by 1\n     4     5  0.2  *pass    |\n     6     7  0.4  *print 1 |\n     7     8  0.5  *end     |\n     4     9  1.0           pass\n     6    11  1.2           print 2\n     7    12  1.3           end\n"
unfolding at_left at_right whole_line spot line_front lane_line bar_lane bar_label event_words digits path_head row_with path_bar in_step_last
in_step_path = refl
