-- Small runs, line by line.
use Rattle.std.proofs.Common.{◌≡◌, ℕ, ◌<◌, pos, List, [], ◌∷◌, refl, lit<}
use Rattle.std.specs.Prelude.{codes}
use Rattle.std.specs.Fmt.{digits}
use Rattle.xk_types.specs.declared.instr.Instr.TheVariants as instr
use Rattle.xk_types.specs.declared.unit.ParamKind.TheVariants as param
use Rattle.xk_types.specs.declared.world.Entry.{Entry}
use Rattle.xk_types.specs.Code.{ModuleValue}
use Rattle.xk_types.specs.Schedule.{Through, run}
use Rattle.xk_types.specs.World.{World, opening}
use Rattle.xk_types.specs.Logs.{schedule_of}
use Rattle.xk_types.proofs.Examples.Notation.{main_with, body_with, module_with}
use Rattle.xk_show_events.specs.Endings.{ending_words}
use Rattle.xk_show_events.specs.Events.{event_line, event_words, events_text, no_text}

abbrev entry : (a n : ℕ) → 0 < n → Entry
entry a n some = record { act = a; steps = n; at_least_one = some }

-- ---- two activities in step

abbrev in_step : ModuleValue
in_step = module_with (
    main_with 2 (instr.Make 0 ∷ instr.Spawn 1 (0 ∷ []) ∷ instr.Advance ∷ instr.Lit 1 (pos 1) ∷ instr.Print 1 ∷ instr.Ret ∷ [])
    ∷ body_with (param.Clock ∷ []) 2 (instr.Advance ∷ instr.Lit 1 (pos 2) ∷ instr.Print 1 ∷ instr.Ret ∷ [])
    ∷ [])

-- main takes eight steps in four runs
abbrev log : List Entry
log = entry 0 3 (lit< tt) ∷ entry 1 1 (lit< tt) ∷ entry 0 4 (lit< tt) ∷ entry 1 4 (lit< tt) ∷ []

-- of a module alone
in_step_alone : events_text no_text in_step [] log ≡ codes "step 1 act 0 unit 0 place 0 make 0\nstep 2 act 0 unit 0 place 1 async 1\nstep 3 act 0 unit 0 place 2 arrive\nstep 4 act 1 unit 1 place 0 arrive\nstep 5 act 0 unit 0 place 2 pass\nstep 7 act 0 unit 0 place 4 print 1\nstep 8 act 0 unit 0 place 5 end\nstep 9 act 1 unit 1 place 0 pass\nstep 11 act 1 unit 1 place 2 print 2\nstep 12 act 1 unit 1 place 3 end\n"
unfolding event_line event_words digits
in_step_alone = refl

-- ---- a log that is cut off

-- the last entry lacks: main has ended, and the other hasn't
cut : (w : World)
    × (run in_step (schedule_of (entry 0 3 (lit< tt) ∷ entry 1 1 (lit< tt) ∷ entry 0 4 (lit< tt) ∷ [])) (opening in_step []) ≡ Through w)
cut = (_, refl)

cut_told : ending_words cut.0 ≡ codes "the log ends after step 8, before the run does; activities not ended: 1"
unfolding cut ending_words digits
cut_told = refl
