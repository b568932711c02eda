-- A small picture.
use Rattle.std.proofs.Common.{◌≡◌, ℕ, ◌<◌, pos, List, [], ◌∷◌, ◌++◌, None, refl, true, lit<}
use Rattle.std.specs.Prelude.{codes}
use Rattle.std.specs.Fmt.{digits}
use Rattle.xk_types.specs.declared.instr.Instr.TheVariants as instr
use Rattle.xk_types.specs.declared.unit.ParamKind.TheVariants as param
use Rattle.xk_types.specs.declared.world.Entry.{Entry}
use Rattle.xk_types.specs.Code.{ModuleValue}
use Rattle.xk_types.specs.Schedule.{Through, run}
use Rattle.xk_types.specs.World.{World, opening}
use Rattle.xk_types.specs.Logs.{schedule_of}
use Rattle.xk_types.proofs.Examples.Notation.{main_with, body_with, module_with}
use Rattle.xk_show_events.specs.Endings.{ending_words}
use Rattle.xk_show_events.specs.Events.{event_words, no_text}
use Rattle.xk_show_lanes.specs.declared.window.Window.{Window}
use Rattle.xk_show_lanes.specs.Lanes.{spot, bar_label, whole_run}
use Rattle.xk_show_picture.specs.Shapes.{box_frame, box_head, box_words, described, front, label, lane_title, shape, stroke, svg_head}
use Rattle.xk_show_picture.specs.Furniture.{legend, shapes, style}
use Rattle.xk_show_picture.specs.Picture.{drawn_bar, boxed, ending, furniture, head, is_drawn, picture_text, drawn_row, rows_of}

abbrev entry : (a n : ℕ) → 0 < n → Entry
entry a n some = record { act = a; steps = n; at_least_one = some }

-- one is held back, since the other prints before it comes to its `advance`
abbrev held_back : ModuleValue
held_back = module_with (
    main_with 2 (instr.Make 0 ∷ instr.Spawn 1 (0 ∷ []) ∷ instr.Lit 1 (pos 1) ∷ instr.Print 1 ∷ instr.Advance ∷ instr.Ret ∷ [])
    ∷ body_with (param.Clock ∷ []) 2 (instr.Advance ∷ instr.Lit 1 (pos 2) ∷ instr.Print 1 ∷ instr.Ret ∷ [])
    ∷ [])

abbrev log : List Entry
log = entry 0 2 (lit< tt) ∷ entry 1 1 (lit< tt) ∷ entry 0 3 (lit< tt) ∷ entry 1 4 (lit< tt) ∷ entry 0 2 (lit< tt) ∷ []

-- where it leads
last : (w : World) × (run held_back (schedule_of log) (opening held_back []) ≡ Through w)
last = (_, refl)

-- the rows: step 4 and 8 nobody else sees, and in step 6 the clock advances
rows : rows_of whole_run held_back [] log ≡ 1 ∷ 2 ∷ 3 ∷ 5 ∷ 6 ∷ 6 ∷ 7 ∷ 9 ∷ 10 ∷ 11 ∷ 12 ∷ []
rows = refl

drawn : is_drawn whole_run held_back log last.0 ≡ true
unfolding last
drawn = refl

-- steps 5 and 6
abbrev middle : Window
middle = record { first = 5; last = 6 }

drawn_middle : picture_text no_text None middle held_back log last.0 ≡ codes "<svg xmlns='http://www.w3.org/2000/svg' width='680' height='200' viewBox='0 0 680 200' role='img' aria-labelledby='title desc'>\n<title id='title'>The lanes of a run</title>\n<desc id='desc'>A lane for each of 2 activities, and 3 rows, from the top: one for each step that others see, and one for each advance of a clock.</desc>\n" ++ (furniture ++ codes "<text class='lane' x='172' y='104'>main</text>\n<text class='lane' x='244' y='104'>act 1</text>\n<use href='#held' x='244' y='112'/>\n<use href='#even' x='288' y='112'/>\n<text class='number' x='80' y='128'>5</text><text class='at' x='88' y='128'>0.3</text>\n<g class='print'><title>step 5 act 0 at 0.3 print 1</title><rect x='140' y='114' width='64' height='20' rx='3'/><text class='words' x='172' y='128'>print 1</text></g>\n<use href='#free' x='244' y='136'/>\n<use href='#odd' x='288' y='136'/>\n<text class='number' x='80' y='152'>6</text><text class='at' x='88' y='152'>0.4</text>\n<g class='clock'><title>step 6 act 0 at 0.4 arrive</title><rect x='140' y='138' width='64' height='20' rx='3'/><text class='words' x='172' y='152'>arrive</text></g>\n<use href='#free' x='172' y='160'/>\n<use href='#free' x='244' y='160'/>\n<use href='#odd' x='288' y='160'/>\n<path class='bar' d='M172 172h36'/>\n<use href='#ring' x='172' y='172'/>\n<path class='bar' d='M208 172h36'/>\n<use href='#ring' x='244' y='172'/>\n<text x='310' y='176'>clock 0 phase 1 by 0</text>\n</svg>\n")
unfolding last style shapes legend head svg_head described lane_title drawn_row boxed box_head box_frame box_words front shape stroke label drawn_bar bar_label spot event_words digits
drawn_middle = refl

-- ---- where the log is cut off

-- behind three rows of a run of which the last two entries lack: nobody has ended
cut : (w : World)
    × (run held_back (schedule_of (entry 0 2 (lit< tt) ∷ entry 1 1 (lit< tt) ∷ entry 0 3 (lit< tt) ∷ [])) (opening held_back []) ≡ Through w)
cut = (_, refl)

cut_told : ending 3 cut.0 ≡ codes "<text x='8' y='194'>the log ends after step 6, before the run does; activities not ended: 2</text>\n"
unfolding cut ending_words label digits
cut_told = refl

-- of a whole run nothing is told
whole_told : ending 3 last.0 ≡ []
unfolding last
whole_told = refl
