-- Main resumes a clock, and leaves it before it advances, or behind that: in both runs it holds the clock in the next phase until then. So the
-- first pass doesn't wait for that, and the second one does. By evaluation.
use Rattle.std.proofs.Common.{◌≡◌, ℕ, suc, inl, inr, List, [], ◌∷◌, map, take, refl, lit<}
use Rattle.std.specs.Prelude.{pred}
use Rattle.xk_types.specs.declared.instr.Instr.TheVariants as instr
use Rattle.xk_types.specs.declared.unit.ParamKind.TheVariants as param
use Rattle.xk_types.specs.declared.world.Entry.{Entry}
use Rattle.xk_types.specs.Code.{ModuleValue}
use Rattle.xk_types.specs.World.{World}
use Rattle.xk_types.specs.Schedule.{run}
use Rattle.xk_types.specs.Logs.{one_step_of}
use Rattle.xk_types.proofs.Examples.Notation.{fresh, main_with, body_with}
use Rattle.xk_show_events.specs.Worlds.{last_world}
use Rattle.xk_races.specs.declared.deeds.Deed.{Deed}
use Rattle.xk_races.specs.declared.deeds.Part.{Part}
use Rattle.xk_races.specs.declared.deeds.Part.TheVariants as part
use Rattle.xk_races.specs.Deeds.{deeds_of_run}
use Rattle.xk_races.specs.Knowledge.{Known, after, nothing_known}
use Rattle.xk_races.specs.Lists.{number_at, row_at}
use Rattle.xk_races.specs.Order.{IsCounted}
use Rattle.xk_law_races.specs.Passes.{phase_held, IsLetGo, IsPassOf}

-- main resumes the clock that it makes, and drops it; what it starts advances twice
abbrev leaving : ModuleValue
leaving = record {
  shared = [];
  units = main_with 1 (instr.Make 0 ∷ instr.Spawn 1 (0 ∷ []) ∷ instr.Resume 0 ∷ instr.Drop 0 ∷ instr.Ret ∷ [])
      ∷ body_with (param.Clock ∷ []) 1 (instr.Advance ∷ instr.Advance ∷ instr.Ret ∷ []) ∷ [];
}

abbrev left_before : List ℕ
left_before = 0 ∷ 0 ∷ 0 ∷ 0 ∷ 1 ∷ 1 ∷ 1 ∷ 1 ∷ 1 ∷ 0 ∷ []

abbrev left_behind : List ℕ
left_behind = 0 ∷ 0 ∷ 0 ∷ 1 ∷ 1 ∷ 0 ∷ 1 ∷ 1 ∷ 1 ∷ 0 ∷ []

abbrev log_of : List ℕ → List Entry
log_of list = map one_step_of list

-- the world in which step number n is taken
abbrev world_at : List ℕ → ℕ → World
world_at list n = last_world (run leaving (take (pred n) list) (fresh leaving))

abbrev parts_of : List ℕ → List Part
parts_of list = map (λ (d : Deed). d.part) (deeds_of_run leaving [] (log_of list))

before_parts : parts_of left_before ≡
    part.Start 1 ∷ part.Signal 0 ∷ part.Leave 0 ∷ part.Signal 0 ∷ part.Advance 0 ∷ part.Pass 0 ∷ part.Signal 0 ∷ part.Advance 0
    ∷ part.Pass 0 ∷ part.End ∷ part.Signal 0 ∷ part.End ∷ []
before_parts = refl

behind_parts : parts_of left_behind ≡
    part.Start 1 ∷ part.Signal 0 ∷ part.Signal 0 ∷ part.Advance 0 ∷ part.Pass 0 ∷ part.Signal 0 ∷ part.Signal 0 ∷ part.Advance 0
    ∷ part.Pass 0 ∷ part.End ∷ part.Signal 0 ∷ part.End ∷ []
behind_parts = refl

-- main holds the clock in phase 0 before it resumes it, and then in phase 1, whether or not the clock has advanced
held_before : map (λ n. phase_held (world_at left_before n) 0 0) (3 ∷ 4 ∷ []) ≡ 0 ∷ 1 ∷ []
held_before = refl

held_behind : map (λ n. phase_held (world_at left_behind n) 0 0) (3 ∷ 4 ∷ 5 ∷ 6 ∷ []) ≡ 0 ∷ 1 ∷ 1 ∷ 1 ∷ []
held_behind = refl

-- there its drop lets it go
drop_before : IsLetGo leaving [] (log_of left_before) 2 0 0 1
drop_before = record {
  deed = _;
  at = refl;
  lets = inr refl;
  mine = refl;
  here = world_at left_before 4;
  there = refl;
  holds = record { registered = refl; held = refl };
}

drop_behind : IsLetGo leaving [] (log_of left_behind) 5 0 0 1
drop_behind = record {
  deed = _;
  at = refl;
  lets = inl refl;
  mine = refl;
  here = world_at left_behind 6;
  there = refl;
  holds = record { registered = refl; held = refl };
}

-- the first pass is in phase 1, and the second one in phase 2
first_pass : IsPassOf leaving [] (log_of left_before) 5 0 1
first_pass =
    record { deed = _; at = refl; passes = refl; here = world_at left_before 6; there = refl; registered = refl; phase = refl }

second_pass : IsPassOf leaving [] (log_of left_before) 8 0 2
second_pass =
    record { deed = _; at = refl; passes = refl; here = world_at left_before 8; there = refl; registered = refl; phase = refl }

-- which has waited for the drop
drop_counted : IsCounted (deeds_of_run leaving [] (log_of left_before)) 8 0 2
drop_counted = (7, lit< tt, _, refl, refl, inr (4, lit< tt, _, refl, refl, (lit< tt, _, refl, refl)))

-- what is known behind these deeds, the first of which has this number
abbrev known_from : ℕ → List Deed → Known → Known
known_from n [] k = k
known_from n (d ∷ ds) k = known_from (suc n) ds (after (suc n) d k)

-- which deed of main's, counted from 1, activity 1 knows of as the last one
abbrev known_of_main : List ℕ → ℕ → ℕ
known_of_main list n = number_at (row_at (known_from 0 (take n (deeds_of_run leaving [] (log_of list))) nothing_known).acts 1) 0

-- It knows of the resume behind its first pass, and of the drop behind the second one.
before_known : map (known_of_main left_before) (5 ∷ 6 ∷ 8 ∷ 9 ∷ []) ≡ 1 ∷ 2 ∷ 2 ∷ 3 ∷ []
before_known = refl

behind_known : map (known_of_main left_behind) (4 ∷ 5 ∷ 8 ∷ 9 ∷ []) ≡ 1 ∷ 2 ∷ 2 ∷ 6 ∷ []
behind_known = refl
