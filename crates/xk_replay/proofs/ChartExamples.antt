-- Worked rows: charts, by evaluation.
use Rattle.std.proofs.Common.{◌≡◌, ℕ, pos, List, [], ◌∷◌, refl}
use Rattle.std.specs.Prelude.{flat_map}
use Rattle.xk_types.specs.declared.instr.Instr.TheVariants as instr
use Rattle.xk_types.specs.declared.unit.ParamKind.TheVariants as param
use Rattle.xk_types.specs.Code.{UnitValue, ModuleValue}
use Rattle.xk_types.specs.World.{opening}
use Rattle.xk_types.specs.Logs.{one_step_of}
use Rattle.xk_types.proofs.Examples.Notation.{main_with, method_with, body_with, module_with}
use Rattle.xk_replay.specs.Chart.{Advance, advances, advance_line, chart_text}

abbrev row : ℕ → ℕ → ℕ → List ℕ → Advance
row step clock phase acts = record { step = step; clock = clock; phase = phase; acts = acts }

-- the chart of the schedule
abbrev charted : ModuleValue → List ℕ → List Advance
charted m list = advances m list (opening m [])

-- ---- two activities in step, the least first and the greatest first

abbrev in_step : ModuleValue
in_step = module_with (
    main_with 2 (instr.Make 0 ∷ instr.Spawn 1 (0 ∷ []) ∷ instr.Advance ∷ instr.Lit 1 (pos 1) ∷ instr.Print 1 ∷ instr.Ret ∷ [])
    ∷ body_with (param.Clock ∷ []) 2 (instr.Advance ∷ instr.Lit 1 (pos 2) ∷ instr.Print 1 ∷ instr.Ret ∷ [])
    ∷ [])

in_step_first : charted in_step (0 ∷ 0 ∷ 0 ∷ 1 ∷ 0 ∷ 0 ∷ 0 ∷ 0 ∷ 1 ∷ 1 ∷ 1 ∷ 1 ∷ []) ≡ row 4 0 1 (0 ∷ 1 ∷ []) ∷ []
in_step_first = refl

in_step_last : charted in_step (0 ∷ 0 ∷ 1 ∷ 0 ∷ 1 ∷ 1 ∷ 1 ∷ 1 ∷ 0 ∷ 0 ∷ 0 ∷ 0 ∷ []) ≡ row 4 0 1 (0 ∷ 1 ∷ []) ∷ []
in_step_last = refl

in_step_text : chart_text in_step [] (one_step_of 0 ∷ one_step_of 0 ∷ one_step_of 1 ∷ one_step_of 0 ∷ []) ≡ flat_map advance_line (row 4 0 1 (0 ∷ 1 ∷ []) ∷ [])
in_step_text = refl

-- ---- the child starts ahead

abbrev starts_ahead : ModuleValue
starts_ahead = module_with (
    main_with 1 (instr.Make 0 ∷ instr.Resume 0 ∷ instr.Spawn 1 (0 ∷ []) ∷ instr.Advance ∷ instr.Ret ∷ [])
    ∷ body_with (param.Clock ∷ []) 1 (instr.Advance ∷ instr.Ret ∷ [])
    ∷ [])

starts_ahead_first : charted starts_ahead (0 ∷ 0 ∷ 0 ∷ 0 ∷ 0 ∷ 0 ∷ 1 ∷ 1 ∷ 1 ∷ []) ≡ row 2 0 1 (0 ∷ []) ∷ []
starts_ahead_first = refl

-- ---- the second child starts signalled

abbrev starts_signalled : ModuleValue
starts_signalled = module_with (
    main_with 1 (instr.Make 0 ∷ instr.Spawn 1 (0 ∷ []) ∷ instr.Resume 0 ∷ instr.Spawn 2 (0 ∷ []) ∷ instr.Advance ∷ instr.Ret ∷ [])
    ∷ body_with (param.Clock ∷ []) 1 (instr.Advance ∷ instr.Ret ∷ [])
    ∷ body_with (param.Clock ∷ []) 2 (instr.Advance ∷ instr.Lit 1 (pos 3) ∷ instr.Print 1 ∷ instr.Ret ∷ [])
    ∷ [])

starts_signalled_first : charted starts_signalled (0 ∷ 0 ∷ 0 ∷ 0 ∷ 0 ∷ 1 ∷ 0 ∷ 0 ∷ 1 ∷ 1 ∷ 2 ∷ 2 ∷ 2 ∷ 2 ∷ 2 ∷ []) ≡ row 6 0 1 (0 ∷ 1 ∷ 2 ∷ []) ∷ []
starts_signalled_first = refl

-- ---- main leaves the clock to the other

abbrev left_alone : ModuleValue
left_alone = module_with (
    main_with 1 (instr.Make 0 ∷ instr.Spawn 1 (0 ∷ []) ∷ instr.Drop 0 ∷ instr.Ret ∷ [])
    ∷ body_with (param.Clock ∷ []) 2 (instr.Advance ∷ instr.Lit 1 (pos 4) ∷ instr.Print 1 ∷ instr.Ret ∷ [])
    ∷ [])

-- the drop lets the clock advance
left_alone_last : charted left_alone (0 ∷ 0 ∷ 1 ∷ 0 ∷ 1 ∷ 1 ∷ 1 ∷ 1 ∷ 0 ∷ []) ≡ row 4 0 1 (1 ∷ []) ∷ []
left_alone_last = refl

left_alone_first : charted left_alone (0 ∷ 0 ∷ 0 ∷ 0 ∷ 1 ∷ 1 ∷ 1 ∷ 1 ∷ 1 ∷ []) ≡ row 5 0 1 (1 ∷ []) ∷ []
left_alone_first = refl

-- ---- three activities, each on two of three clocks: two clocks advance in one step

abbrev two : UnitValue
two = body_with (param.Clock ∷ param.Clock ∷ []) 2 (instr.Advance ∷ instr.Advance ∷ instr.Ret ∷ [])

abbrev ring : ModuleValue
ring = module_with (
    main_with 3 (instr.Make 0 ∷ instr.Make 1 ∷ instr.Make 2 ∷ instr.Spawn 1 (0 ∷ 1 ∷ []) ∷ instr.Spawn 2 (1 ∷ 2 ∷ []) ∷ instr.Spawn 3 (2 ∷ 0 ∷ []) ∷ instr.Ret ∷ [])
    ∷ two ∷ two ∷ two ∷ [])

ring_first : charted ring (0 ∷ 0 ∷ 0 ∷ 0 ∷ 0 ∷ 0 ∷ 0 ∷ 1 ∷ 2 ∷ 3 ∷ 1 ∷ 1 ∷ 2 ∷ 2 ∷ 3 ∷ 3 ∷ 1 ∷ 1 ∷ 2 ∷ 2 ∷ 3 ∷ 3 ∷ [])
    ≡ row 9 1 1 (1 ∷ 2 ∷ []) ∷ row 10 0 1 (1 ∷ 3 ∷ []) ∷ row 10 2 1 (2 ∷ 3 ∷ [])
    ∷ row 14 1 2 (1 ∷ 2 ∷ []) ∷ row 16 0 2 (1 ∷ 3 ∷ []) ∷ row 16 2 2 (2 ∷ 3 ∷ []) ∷ []
ring_first = refl

-- ---- a method lets another clock pass than the one that it is lent

abbrev method_waits : ModuleValue
method_waits = module_with (
    main_with 2 (instr.Make 0 ∷ instr.Make 1 ∷ instr.Resume 1 ∷ instr.Call 1 (0 ∷ []) ∷ instr.Resume 1 ∷ instr.Ret ∷ [])
    ∷ method_with (param.Clock ∷ []) 1 (instr.Advance ∷ instr.Ret ∷ [])
    ∷ [])

method_waits_alone : charted method_waits (0 ∷ 0 ∷ 0 ∷ 0 ∷ 0 ∷ 0 ∷ 0 ∷ 0 ∷ 0 ∷ [])
    ≡ row 3 1 1 (0 ∷ []) ∷ row 5 0 1 (0 ∷ []) ∷ row 8 1 2 (0 ∷ []) ∷ []
method_waits_alone = refl
