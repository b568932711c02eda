-- A small run by rounds.
use Rattle.std.proofs.Common.{◌≡◌, ℕ, ◌<◌, pos, List, [], ◌∷◌, refl, lit<}
use Rattle.std.specs.Prelude.{codes, None}
use Rattle.std.specs.Fmt.{digits}
use Rattle.xk_types.specs.declared.instr.Instr.TheVariants as instr
use Rattle.xk_types.specs.declared.unit.ParamKind.TheVariants as param
use Rattle.xk_types.specs.declared.world.Entry.{Entry}
use Rattle.xk_types.specs.Code.{ModuleValue}
use Rattle.xk_types.specs.Schedule.{Through, run}
use Rattle.xk_types.specs.World.{World, opening}
use Rattle.xk_types.specs.Logs.{schedule_of}
use Rattle.xk_types.proofs.Examples.Notation.{main_with, body_with, module_with}
use Rattle.xk_show_events.specs.Events.{event_words, no_text}
use Rattle.xk_show_lanes.specs.Fields.{at_left, at_right, whole_line}
use Rattle.xk_show_rounds.specs.RoundLanes.{round_lanes_text}
use Rattle.xk_show_rounds.specs.RoundRows.{line}

abbrev entry : (a n : ℕ) → 0 < n → Entry
entry a n some = record { act = a; steps = n; at_least_one = some }

-- two activities in step, of which main has more to do
abbrev in_step : ModuleValue
in_step = module_with (
    main_with 2
    (instr.Make 0 ∷ instr.Spawn 1 (0 ∷ []) ∷ instr.Lit 1 (pos 1) ∷ instr.Lit 1 (pos 1) ∷ instr.Lit 1 (pos 1)
    ∷ instr.Advance ∷ instr.Ret ∷ [])
    ∷ body_with (param.Clock ∷ []) 2 (instr.Advance ∷ instr.Lit 1 (pos 2) ∷ instr.Print 1 ∷ instr.Ret ∷ [])
    ∷ [])

abbrev log : List Entry
log = entry 0 2 (lit< tt) ∷ entry 1 1 (lit< tt) ∷ entry 0 6 (lit< tt) ∷ entry 1 4 (lit< tt) ∷ []

-- where it leads
in_step_last : (w : World) × (run in_step (schedule_of log) (opening in_step []) ≡ Through w)
in_step_last = (_, refl)

-- activity 1 stands idle from its arrival on, until main arrives, too
in_step_rounds : round_lanes_text no_text None in_step log in_step_last.0 ≡ codes "   round  main     act 1\n       1  make 0\n       2  async 1\n       3  .        arrive\n  4 to 5  .\n       6  arrive\n       7  pass     pass\n       8  end      .\n       9           print 2\n      10           end\n"
unfolding at_left at_right whole_line line event_words digits round_lanes_text in_step_last
in_step_rounds = refl
