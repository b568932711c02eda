-- Small inputs, and what is played and told.
use Rattle.std.proofs.Common.{◌≡◌, ℕ, pos, List, [], ◌∷◌, true, false, refl, Some, None}
use Rattle.std.specs.Prelude.{codes, replicate}
use Rattle.std.specs.Fmt.{digits}
use Rattle.xk_types.specs.declared.instr.Instr.TheVariants as instr
use Rattle.xk_types.specs.Bound.{total_within}
use Rattle.xk_types.specs.Code.{ModuleValue}
use Rattle.xk_types.specs.World.{opening}
use Rattle.xk_types.specs.Schedule.{printed}
use Rattle.xk_types.proofs.Examples.Notation.{main_with, body_with, module_with}
use Rattle.xk_ask.specs.Answers.{answers}
use Rattle.xk_show_where.specs.Where.{act_line, place_of, steps_line}
use Rattle.xk_ask.specs.ProgramTexts.{no_source, printed_line}
use Rattle.xk_ask.specs.Play.{able_head, able_line, all_said, played, question, unread}

-- ---- lines

-- blanks may stand before a number and behind it, and needless zeros
numbers : answers (codes "0\n 12\t\n007\r\n4294967295\n") ≡ Some 0 ∷ Some 12 ∷ Some 7 ∷ Some 4294967295 ∷ []
numbers = refl

-- none of these is a number of an activity, and what no line feed ends is no line
others : answers (codes "\n1 2\n-1\n4294967296\nact 0\n1") ≡ None ∷ None ∷ None ∷ None ∷ None ∷ []
others = refl

-- ---- a run

-- main starts one that prints 2, and prints 1
abbrev two : ModuleValue
two = module_with (
    main_with 1 (instr.Spawn 1 [] ∷ instr.Lit 0 (pos 1) ∷ instr.Print 0 ∷ instr.Ret ∷ [])
    ∷ body_with [] 1 (instr.Lit 0 (pos 2) ∷ instr.Print 0 ∷ instr.Ret ∷ [])
    ∷ [])

-- A turn ends with a step that others see: so 1 prints in one turn, and ends in another. Nobody has number 7, and it is asked again.
abbrev whole : List ℕ
whole = codes "0\n1\n7\n1\n0\n0\n"

two_played : played two (answers whole) (opening two []) ≡ 0 ∷ 1 ∷ 1 ∷ 1 ∷ 0 ∷ 0 ∷ 0 ∷ []
unfolding total_within
two_played = refl

two_printed : printed two (played two (answers whole) (opening two [])) (opening two []) ≡ pos 2 ∷ pos 1 ∷ []
unfolding total_within
two_printed = refl

two_asked : question no_source two (opening two []) [] ≡ codes "steps 0\nact 0 unit 0 place 0 can step\nact 0 unit 0 place 0\nwho steps?\n"
unfolding able_head able_line act_line digits place_of steps_line
two_asked = refl

two_told : all_said no_source two (answers whole) (opening two []) [] ≡ codes "steps 1\nact 0 unit 0 place 1 can step\nact 1 unit 1 place 0 can step\nact 0 unit 0 place 1\nact 1 unit 1 place 0\nwho steps?\nsteps 3\nact 0 unit 0 place 1 can step\nact 1 unit 1 place 2 can step\nprinted 2\nact 0 unit 0 place 1\nact 1 unit 1 place 2\nwho steps?\nnone of these: who steps?\nsteps 4\nact 0 unit 0 place 1 can step\nact 1 has ended\nprinted 2\nact 0 unit 0 place 1\nwho steps?\nsteps 6\nact 0 unit 0 place 3 can step\nact 1 has ended\nprinted 2 1\nact 0 unit 0 place 3\nwho steps?\n"
unfolding able_head able_line act_line digits place_of steps_line total_within
two_told = refl

-- an answer behind the end is not looked at
none_behind : all_said no_source two (answers (codes "0\n1\n1\n0\n0\n0\n")) (opening two []) [] ≡ all_said no_source two (answers (codes "0\n1\n1\n0\n0\n")) (opening two []) []
unfolding able_head able_line act_line digits place_of steps_line total_within
none_behind = refl

-- where none comes that is told
none_told : all_said no_source two (answers (codes "1")) (opening two []) [] ≡ codes "the input has ended\n"
none_told = refl

-- twenty numbers are told, and of more the last twenty
twenty_told : printed_line (replicate 20 (pos 7)) ≡ codes "printed 7 7 7 7 7 7 7 7 7 7 7 7 7 7 7 7 7 7 7 7\n"
unfolding digits
twenty_told = refl

more_told : printed_line (pos 5 ∷ pos 6 ∷ replicate 19 (pos 7)) ≡ codes "printed .. 6 7 7 7 7 7 7 7 7 7 7 7 7 7 7 7 7 7 7 7\n"
unfolding digits
more_told = refl

-- the input ends before the run does
two_early : played two (answers (codes "0\n0\n")) (opening two []) ≡ 0 ∷ 0 ∷ 0 ∷ []
unfolding total_within
two_early = refl

-- what stands behind the last answer that is looked at isn't read
two_left : unread two [] true (codes "0\n1\n1\n0\n0\n7\nx") ≡ codes "7\nx"
unfolding total_within
two_left = refl

-- where the run doesn't come to its end all is, also what no line feed ends
none_left : unread two [] false (codes "0\n0\n1") ≡ []
none_left = refl
