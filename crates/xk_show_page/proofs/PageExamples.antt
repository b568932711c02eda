-- The moments of a small run, and a text as HTML has it.
use Rattle.std.proofs.Common.{◌≡◌, ℕ, ◌<◌, pos, List, [], ◌∷◌, ◌++◌, None, refl, lit<}
use Rattle.std.specs.Prelude.{codes}
use Rattle.std.specs.Fmt.{digits}
use Rattle.xk_types.specs.declared.instr.Instr.TheVariants as instr
use Rattle.xk_types.specs.declared.unit.ParamKind.TheVariants as param
use Rattle.xk_types.specs.declared.world.Entry.{Entry}
use Rattle.xk_types.specs.Code.{ModuleValue}
use Rattle.xk_types.specs.Schedule.{Through, run}
use Rattle.xk_types.specs.World.{World, opening}
use Rattle.xk_types.specs.Logs.{schedule_of}
use Rattle.xk_types.proofs.Examples.Notation.{main_with, body_with, module_with}
use Rattle.xk_show_events.specs.Events.{event_line, event_words, no_text}
use Rattle.xk_show_lanes.specs.declared.window.Window.{Window}
use Rattle.xk_show_where.specs.Where.{act_line, clock_line, clock_words, held_words, listed, place_of, registration, steps_line}
use Rattle.xk_show_page.specs.Page.{escaped, moments}

abbrev entry : (a n : ℕ) → 0 < n → Entry
entry a n some = record { act = a; steps = n; at_least_one = some }

-- one is held back, since the other prints before it comes to its `advance`
abbrev held_back : ModuleValue
held_back = module_with (
    main_with 2 (instr.Make 0 ∷ instr.Spawn 1 (0 ∷ []) ∷ instr.Lit 1 (pos 1) ∷ instr.Print 1 ∷ instr.Advance ∷ instr.Ret ∷ [])
    ∷ body_with (param.Clock ∷ []) 2 (instr.Advance ∷ instr.Lit 1 (pos 2) ∷ instr.Print 1 ∷ instr.Ret ∷ [])
    ∷ [])

abbrev log : List Entry
log = entry 0 2 (lit< tt) ∷ entry 1 1 (lit< tt) ∷ entry 0 3 (lit< tt) ∷ entry 1 4 (lit< tt) ∷ entry 0 2 (lit< tt) ∷ []

-- where it leads
last : (w : World) × (run held_back (schedule_of log) (opening held_back []) ≡ Through w)
last = (_, refl)

abbrev middle : Window
middle = record { first = 6; last = 6 }

-- step 6; of step 5, which stands before it, that it printed; of step 9, which prints too, nothing
told_middle : moments middle no_text None held_back log last.0
    ≡ codes "steps 0\nact 0 unit 0 place 0 can step\n"
    ++ (codes "step 5 act 0 unit 0 place 3 print 1\n"
    ++ (codes "step 6 act 0 unit 0 place 4 arrive\nsteps 6\nact 0 unit 0 place 4 can step, clock 0 ahead\n"
    ++ codes "act 1 unit 1 place 0 can step, clock 0 ahead\nclock 0 phase 1\n"))
unfolding last event_line event_words digits act_line clock_line clock_words held_words listed place_of registration steps_line
told_middle = refl

-- `a<b&c`, and the two bytes that end its line
written : escaped (97 ∷ 60 ∷ 98 ∷ 38 ∷ 99 ∷ 13 ∷ 10 ∷ []) ≡ codes "a&lt;b&amp;c&#13;\n"
written = refl
