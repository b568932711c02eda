-- Small runs, and what their steps rest on.
use Rattle.std.proofs.Common.{◌≡◌, ℕ, ◌<◌, pos, List, [], ◌∷◌, refl, lit<}
use Rattle.xk_types.specs.declared.instr.Instr.TheVariants as instr
use Rattle.xk_types.specs.declared.unit.ParamKind.TheVariants as param
use Rattle.xk_types.specs.declared.world.Entry.{Entry}
use Rattle.xk_types.specs.Code.{ModuleValue}
use Rattle.xk_types.specs.Step.{under_within}
use Rattle.xk_types.proofs.Examples.Notation.{main_with, body_with, method_with, module_with}
use Rattle.xk_why.specs.Rest.{rest_of}
use Rattle.xk_why.specs.Told.{flows_of_run}

abbrev entry : (a n : ℕ) → 0 < n → Entry
entry a n some = record { act = a; steps = n; at_least_one = some }

-- ---- numbers

-- Main writes 5 to the first of two shared numbers and gives it to an activity, which adds 3 there and writes what it was given to the
-- other one. Behind that main prints the sum of both.
abbrev shared_numbers : ModuleValue
shared_numbers = record (module_with (
    main_with 4 (instr.Lit 0 (pos 5) ∷ instr.Put 0 0 ∷ instr.Finish 4 ∷ instr.Spawn 1 (0 ∷ []) ∷ instr.EndFinish 2
    ∷ instr.Get 1 0 ∷ instr.Get 2 1 ∷ instr.Add 3 1 2 ∷ instr.Print 3 ∷ instr.Ret ∷ [])
    ∷ body_with (param.Number ∷ []) 2 (instr.Lit 1 (pos 3) ∷ instr.AddTo 0 1 ∷ instr.Put 1 0 ∷ instr.Ret ∷ [])
    ∷ [])) { shared = pos 0 ∷ pos 7 ∷ [] }

abbrev shared_log : List Entry
shared_log = entry 0 4 (lit< tt) ∷ entry 1 4 (lit< tt) ∷ entry 0 6 (lit< tt) ∷ []

-- the print: both reads, the write and the addition that they saw, the start by which the number was given, and the write before the
-- addition
of_the_print : rest_of 13 (flows_of_run shared_numbers [] shared_log) ≡ 11 ∷ 10 ∷ 7 ∷ 6 ∷ 4 ∷ 2 ∷ []
unfolding under_within
of_the_print = refl

-- the second write: what it was given
of_the_write : rest_of 7 (flows_of_run shared_numbers [] shared_log) ≡ 4 ∷ []
unfolding under_within
of_the_write = refl

-- the close: the end of the activity
of_the_close : rest_of 9 (flows_of_run shared_numbers [] shared_log) ≡ 8 ∷ []
unfolding under_within
of_the_close = refl

-- ---- a write that is overwritten, and a method

-- main reads 7, calls a method with it, and then prints what it reads behind that; the method writes 1, and over it what it was given
abbrev overwritten : ModuleValue
overwritten = record (module_with (
    main_with 2 (instr.Get 0 0 ∷ instr.Call 1 (0 ∷ []) ∷ instr.Get 1 0 ∷ instr.Print 1 ∷ instr.Ret ∷ [])
    ∷ method_with (param.Number ∷ []) 2 (instr.Lit 1 (pos 1) ∷ instr.Put 0 1 ∷ instr.Put 0 0 ∷ instr.Ret ∷ [])
    ∷ [])) { shared = pos 7 ∷ [] }

of_what_is_left : rest_of 8 (flows_of_run overwritten [] (entry 0 9 (lit< tt) ∷ [])) ≡ 7 ∷ 5 ∷ 1 ∷ []
of_what_is_left = refl

-- ---- finishes

-- one finish behind the other, each with an activity
abbrev one_by_one : ModuleValue
one_by_one = module_with (
    main_with 0 (instr.Finish 2 ∷ instr.Spawn 1 [] ∷ instr.EndFinish 0 ∷ instr.Finish 5 ∷ instr.Spawn 1 [] ∷ instr.EndFinish 3
    ∷ instr.Ret ∷ [])
    ∷ body_with [] 0 (instr.Ret ∷ [])
    ∷ [])

abbrev one_by_one_log : List Entry
one_by_one_log = entry 0 2 (lit< tt) ∷ entry 1 1 (lit< tt) ∷ entry 0 3 (lit< tt) ∷ entry 2 1 (lit< tt) ∷ entry 0 2 (lit< tt) ∷ []

-- each close: the end of its own activity
of_the_first_finish : rest_of 4 (flows_of_run one_by_one [] one_by_one_log) ≡ 3 ∷ []
unfolding under_within
of_the_first_finish = refl

of_the_second_finish : rest_of 8 (flows_of_run one_by_one [] one_by_one_log) ≡ 7 ∷ []
unfolding under_within
of_the_second_finish = refl

-- one inside the other: main starts activity 1 in both, and behind the inner one activity 2, which starts activity 3 in a finish of its own
abbrev one_in_another : ModuleValue
one_in_another = module_with (
    main_with 0 (instr.Finish 5 ∷ instr.Finish 3 ∷ instr.Spawn 2 [] ∷ instr.EndFinish 1 ∷ instr.Spawn 1 [] ∷ instr.EndFinish 0
    ∷ instr.Ret ∷ [])
    ∷ body_with [] 0 (instr.Finish 2 ∷ instr.Spawn 2 [] ∷ instr.EndFinish 0 ∷ instr.Ret ∷ [])
    ∷ body_with [] 0 (instr.Ret ∷ [])
    ∷ [])

abbrev one_in_another_log : List Entry
one_in_another_log =
    entry 0 3 (lit< tt) ∷ entry 1 1 (lit< tt) ∷ entry 0 2 (lit< tt) ∷ entry 2 2 (lit< tt) ∷ entry 3 1 (lit< tt) ∷ entry 2 2 (lit< tt)
    ∷ entry 0 2 (lit< tt) ∷ []

-- the inner ones: activity 1, activity 3
of_the_inner_finish : rest_of 5 (flows_of_run one_in_another [] one_in_another_log) ≡ 4 ∷ []
unfolding under_within
of_the_inner_finish = refl

of_the_finish_of_another : rest_of 10 (flows_of_run one_in_another [] one_in_another_log) ≡ 9 ∷ []
unfolding under_within
of_the_finish_of_another = refl

-- the outer one: all three
of_the_outer_finish : rest_of 12 (flows_of_run one_in_another [] one_in_another_log) ≡ 11 ∷ 9 ∷ 4 ∷ []
unfolding under_within
of_the_outer_finish = refl

-- ---- two activities in step

abbrev in_step : ModuleValue
in_step = module_with (
    main_with 2 (instr.Make 0 ∷ instr.Spawn 1 (0 ∷ []) ∷ instr.Advance ∷ instr.Lit 1 (pos 1) ∷ instr.Print 1 ∷ instr.Ret ∷ [])
    ∷ body_with (param.Clock ∷ []) 2 (instr.Advance ∷ instr.Lit 1 (pos 2) ∷ instr.Print 1 ∷ instr.Ret ∷ [])
    ∷ [])

abbrev in_step_log : List Entry
in_step_log = entry 0 3 (lit< tt) ∷ entry 1 1 (lit< tt) ∷ entry 0 4 (lit< tt) ∷ entry 1 4 (lit< tt) ∷ []

-- both passes: the steps by which both came
of_the_first_pass : rest_of 5 (flows_of_run in_step [] in_step_log) ≡ 4 ∷ 3 ∷ []
of_the_first_pass = refl

of_the_second_pass : rest_of 9 (flows_of_run in_step [] in_step_log) ≡ 4 ∷ 3 ∷ []
of_the_second_pass = refl

-- a print of a number of the text: nothing
of_a_literal : rest_of 7 (flows_of_run in_step [] in_step_log) ≡ []
of_a_literal = refl
