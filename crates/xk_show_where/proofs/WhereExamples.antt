-- Small logs: where they lead, line by line.
use Rattle.std.proofs.Common.{◌≡◌, ℕ, ◌<◌, pos, true, false, List, [], ◌∷◌, Some, refl, lit<}
use Rattle.std.specs.Prelude.{codes}
use Rattle.std.specs.Fmt.{digits}
use Rattle.xk_types.specs.declared.instr.Instr.TheVariants as instr
use Rattle.xk_types.specs.declared.unit.ParamKind.TheVariants as param
use Rattle.xk_types.specs.declared.unit.UnitKind.TheVariants as unit_kind
use Rattle.xk_types.specs.declared.world.Entry.{Entry}
use Rattle.xk_types.specs.Code.{ModuleValue}
use Rattle.xk_types.specs.Step.{under_within}
use Rattle.xk_types.proofs.Examples.Notation.{main_with, body_with, module_with}
use Rattle.xk_unit_origins.specs.UnitOrigins.{UnitOrigins}
use Rattle.xk_show_events.specs.Events.{no_text, places_of}
use Rattle.xk_show_locals.specs.Locals.{bound_words, front, number_words}
use Rattle.xk_show_where.specs.Where.{act_line, are_steps_legal, clock_line, clock_words, held_words, listed, named_where_text}
use Rattle.xk_show_where.specs.Where.{place_of, registration, steps_line, stop_line, value_line, where_text}

abbrev entry : (a n : ℕ) → 0 < n → Entry
entry a n some = record { act = a; steps = n; at_least_one = some }

-- ---- two activities in step

abbrev in_step : ModuleValue
in_step = module_with (
    main_with 2 (instr.Make 0 ∷ instr.Spawn 1 (0 ∷ []) ∷ instr.Advance ∷ instr.Lit 1 (pos 1) ∷ instr.Print 1 ∷ instr.Ret ∷ [])
    ∷ body_with (param.Clock ∷ []) 2 (instr.Advance ∷ instr.Lit 1 (pos 2) ∷ instr.Print 1 ∷ instr.Ret ∷ [])
    ∷ [])

-- main waits for the other one, and is asked for a step more
abbrev stopped : List Entry
stopped = entry 0 4 (lit< tt) ∷ entry 1 4 (lit< tt) ∷ []

stopped_there : where_text no_text in_step [] stopped ≡ codes "steps 3\nact 0 unit 0 place 2 waits for clocks, clock 0 signalled held by 1\nact 1 unit 1 place 0 can step, clock 0 open\nclock 0 phase 0\nentry 0 step 4 of 4: act 0 waits for clocks\n"
unfolding act_line clock_line clock_words digits held_words listed place_of registration steps_line stop_line
stopped_there = refl

stopped_early : are_steps_legal in_step [] stopped ≡ false
stopped_early = refl

-- both have come, and the clock has advanced
abbrev both : List Entry
both = entry 0 3 (lit< tt) ∷ entry 1 1 (lit< tt) ∷ []

both_there : where_text no_text in_step [] both ≡ codes "steps 4\nact 0 unit 0 place 2 can step, clock 0 ahead\nact 1 unit 1 place 0 can step, clock 0 ahead\nclock 0 phase 1\n"
unfolding act_line clock_line clock_words digits held_words listed place_of registration steps_line stop_line
both_there = refl

both_legal : are_steps_legal in_step [] both ≡ true
both_legal = refl

-- ---- main awaits one whom it started in a finish, and another whom that one started

abbrev in_finish : ModuleValue
in_finish = record {
  shared = pos 5 ∷ [];
  units = main_with 0 (instr.Finish 2 ∷ instr.Spawn 1 [] ∷ instr.EndFinish 0 ∷ instr.Ret ∷ [])
      ∷ body_with [] 0 (instr.Spawn 2 [] ∷ instr.Ret ∷ []) ∷ body_with [] 0 (instr.Ret ∷ []) ∷ [];
}

awaited_there : where_text no_text in_finish [] (entry 0 2 (lit< tt) ∷ entry 1 1 (lit< tt) ∷ []) ≡ codes "steps 3\nact 0 unit 0 place 2 waits in finish for 1 2\nact 1 unit 1 place 1 can step\nact 2 unit 2 place 0 can step\nshared 0 is 5\n"
unfolding act_line clock_line clock_words digits held_words listed place_of registration steps_line stop_line under_within
awaited_there = refl

-- and nobody has that number
nobody_there : where_text no_text in_finish [] (entry 0 2 (lit< tt) ∷ entry 1 2 (lit< tt) ∷ entry 3 1 (lit< tt) ∷ []) ≡ codes "steps 4\nact 0 unit 0 place 2 waits in finish for 2\nact 1 has ended\nact 2 unit 2 place 0 can step\nshared 0 is 5\nentry 2 step 1 of 1: act 3 isn't there\n"
unfolding act_line clock_line clock_words digits held_words listed place_of registration steps_line stop_line under_within
nobody_there = refl

-- ---- by names: main counts up to 3, by what it has read

abbrev counting : ModuleValue
counting = record {
  shared = pos 5 ∷ [];
  units = main_with 3 (
      instr.Get 0 0 ∷ instr.Copy 2 0 ∷ instr.ForTo 1 (pos 1) 2 (pos 3) 4 ∷ instr.AddTo 0 1 ∷ instr.Next 2 ∷ instr.Ret ∷ []) ∷ [];
}

abbrev of_main : UnitOrigins
of_main = record {
  head = record { at = 4; kind = unit_kind.Main; name = Some (codes "main") };
  offsets = [];
  slots = codes "t" ∷ codes "i" ∷ codes " " ∷ [];
}

by_names : named_where_text (places_of [] (of_main ∷ [])) (codes "total" ∷ []) counting [] (entry 0 3 (lit< tt) ∷ [])
    ≡ codes "steps 3\nact 0 unit 0 place 3 can step\nact 0 in main, t = 5, i = 1, i up to 3\ntotal = 5\n"
unfolding act_line bound_words clock_line digits front number_words place_of steps_line value_line
by_names = refl

-- behind the addition, t is what was read
added : named_where_text (places_of [] (of_main ∷ [])) (codes "total" ∷ []) counting [] (entry 0 4 (lit< tt) ∷ [])
    ≡ codes "steps 4\nact 0 unit 0 place 4 can step\nact 0 in main, t = 5, i = 1, i up to 3\ntotal = 6\n"
unfolding act_line bound_words clock_line digits front number_words place_of steps_line value_line
added = refl

-- one that has ended has no numbers, and where no name is known the shared number has its number
over : named_where_text (places_of [] (of_main ∷ [])) [] counting [] (entry 0 10 (lit< tt) ∷ [])
    ≡ codes "steps 10\nact 0 has ended\nshared 0 is 11\n"
unfolding act_line bound_words clock_line digits front number_words place_of steps_line value_line
over = refl
