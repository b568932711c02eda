-- Two finishes of one name, one after the other: by number they are two, and the end of who is started in the first is one of the first close
-- alone. By evaluation.
use Rattle.std.proofs.Common.{◌≡◌, ℕ, List, [], ◌∷◌, map, Some, refl}
use Rattle.xk_types.specs.declared.instr.Instr.TheVariants as instr
use Rattle.xk_types.specs.Code.{ModuleValue}
use Rattle.xk_types.specs.World.{Activity, Finish, root}
use Rattle.xk_types.specs.Step.{under_within}
use Rattle.xk_types.specs.Schedule.{Course, Through, Held, Wronged, run}
use Rattle.xk_types.specs.Logs.{one_step_of}
use Rattle.xk_types.proofs.Examples.Notation.{fresh, main_with, body_with}
use Rattle.xk_races.specs.declared.deeds.Deed.{Deed}
use Rattle.xk_races.specs.declared.deeds.Part.TheVariants as part
use Rattle.xk_races.specs.Deeds.{deeds_of_run}
use Rattle.xk_races.specs.Order.{finish_at}

-- main starts one activity in each of two finishes
abbrev twice : ModuleValue
twice = record {
  shared = [];
  units = main_with 0
      (instr.Finish 2 ∷ instr.Spawn 1 [] ∷ instr.EndFinish 0 ∷ instr.Finish 5 ∷ instr.Spawn 1 [] ∷ instr.EndFinish 3 ∷ instr.Ret ∷ [])
      ∷ body_with [] 0 (instr.Ret ∷ []) ∷ [];
}

abbrev one_by_one : List ℕ
one_by_one = 0 ∷ 0 ∷ 1 ∷ 0 ∷ 0 ∷ 0 ∷ 2 ∷ 0 ∷ 0 ∷ []

abbrev its_deeds : List Deed
its_deeds = deeds_of_run twice [] (map one_step_of one_by_one)

parts_are : map (λ (d : Deed). d.part) its_deeds ≡
    part.Open ∷ part.Start 1 ∷ part.End ∷ part.Close ∷ part.Open ∷ part.Start 2 ∷ part.End ∷ part.Close ∷ part.End ∷ []
unfolding under_within
parts_are = refl

-- by name both are the finish of main at depth 1
abbrev governed_after : Course → List Finish
governed_after (Through v) = map (λ (x : Activity). x.governed) v.activities
governed_after (Held v) = []
governed_after (Wronged v c) = []

abbrev mains : Finish
mains = record { owner = Some 0; depth = 1 }

names_are : governed_after (run twice one_by_one (fresh twice)) ≡ root ∷ mains ∷ mains ∷ []
unfolding under_within
names_are = refl

-- by number the end of the first is one of the first close, and that of the second one of the second
numbers_are : map (λ (p : ℕ × ℕ). finish_at its_deeds p.0 p.1) ((2, 1) ∷ (3, 0) ∷ (6, 2) ∷ (7, 0) ∷ []) ≡ 1 ∷ 1 ∷ 2 ∷ 2 ∷ []
unfolding under_within
numbers_are = refl
