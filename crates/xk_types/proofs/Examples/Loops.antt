-- Branches and loops: bounds, runs, and the rules on them, by evaluation.
use Rattle.std.proofs.Common.{◌≡◌, ℕ, ℤ, pos, negsuc, List, [], ◌∷◌, refl, inl, inr, Bool, true, false, Option, Some, None, replicate, map, arith}
use Rattle.xk_types.specs.declared.instr.Instr.{Instr}
use Rattle.xk_types.specs.declared.instr.Instr.TheVariants as instr
use Rattle.xk_types.specs.declared.instr.Comparison.{Comparison}
use Rattle.xk_types.specs.declared.instr.Comparison.TheVariants as comparison
use Rattle.xk_types.specs.declared.rules.Rule.{Rule}
use Rattle.xk_types.specs.declared.rules.Rule.TheVariants as rule
use Rattle.xk_types.specs.declared.rules.Kind.TheVariants as kind
use Rattle.xk_types.specs.Code.{UnitValue, ModuleValue, compares}
use Rattle.xk_types.specs.Step.{Missing, OutOfRange}
use Rattle.xk_types.specs.Schedule.{Course, Through, Held, Wronged, run, all_ended, printed}
use Rattle.xk_types.specs.Walk.{IsRefusedAt}
use Rattle.xk_types.specs.Shape.{breaks}
use Rattle.xk_types.specs.Bound.{steps_bound, clocks_bound}
use Rattle.xk_types.proofs.Examples.Notation.{fresh, main_with, main_only, visit, cause_of}

-- whether all have ended in the last world, and the steps taken; nothing where the list stops
abbrev ended_after : Course → Option (Bool × ℕ)
ended_after (Through w) = Some (all_ended w, w.steps)
ended_after (Held w) = None
ended_after (Wronged w c) = None

-- ---- branches

-- n is 2; 1 is printed where n is 1, and else 0
abbrev branch_row : ModuleValue
branch_row = main_only 2
    (instr.Lit 0 (pos 2) ∷ instr.Lit 1 (pos 1) ∷ instr.Unless comparison.Eq 0 1 6 ∷ instr.Lit 1 (pos 1) ∷ instr.Print 1 ∷ instr.Jump 8 ∷ instr.Lit 1
    (pos 0) ∷ instr.Print 1 ∷ instr.Ret ∷ [])

branch_bound : steps_bound branch_row ≡ 9
unfolding Rattle.xk_types.specs.Bound.total_within
branch_bound = refl

-- `unless` goes to its target, since 2 and 1 aren't equal
branch_printed : printed branch_row (replicate 6 0) (fresh branch_row) ≡ pos 0 ∷ []
branch_printed = refl

branch_ends : ended_after (run branch_row (replicate 6 0) (fresh branch_row)) ≡ Some (true, 6)
branch_ends = refl

abbrev compared : Comparison → List Bool
compared op = compares op (pos 1) (pos 2) ∷ compares op (pos 2) (pos 2) ∷ compares op (pos 2) (negsuc 0) ∷ []

comparisons : map compared (comparison.Eq ∷ comparison.Ne ∷ comparison.Lt ∷ comparison.Le ∷ comparison.Gt ∷ comparison.Ge ∷ [])
    ≡ (false ∷ true ∷ false ∷ []) ∷ (true ∷ false ∷ true ∷ []) ∷ (true ∷ false ∷ false ∷ []) ∷ (true ∷ true ∷ false ∷ [])
    ∷ (false ∷ false ∷ true ∷ []) ∷ (false ∷ true ∷ true ∷ []) ∷ []
comparisons = refl

-- a clock that is dropped in one branch alone is out on one walk to the `resume`
abbrev dropped_in_a_branch : ModuleValue
dropped_in_a_branch = main_only 3
    (instr.Make 0 ∷ instr.Lit 1 (pos 1) ∷ instr.Lit 2 (pos 1) ∷ instr.Unless comparison.Eq 1 2 5 ∷ instr.Drop 0 ∷ instr.Resume 0 ∷ instr.Ret ∷ [])

dropped_refused : IsRefusedAt dropped_in_a_branch 0 0 (visit 5 kind.Out) rule.Use
dropped_refused = record {
  u = main_with 3 (instr.Make 0 ∷ instr.Lit 1 (pos 1) ∷ instr.Lit 2 (pos 1) ∷ instr.Unless comparison.Eq 1 2 5 ∷ instr.Drop 0 ∷ instr.Resume 0 ∷ instr.Ret ∷ []);
  found = refl;
  slot = omega arith;
  visited = (
    visit 0 kind.Unset ∷ visit 1 kind.Live ∷ visit 2 kind.Live ∷ visit 3 kind.Live ∷ visit 4 kind.Live ∷ visit 5 kind.Out ∷ [],
    (
      refl,
      inl refl,
      (
        record { place = inl refl; kind = inl refl },
        (
          record { place = inl refl; kind = inl refl },
          (record { place = inl refl; kind = inl refl }, (record { place = inl refl; kind = inl refl }, (record { place = inl refl; kind = inl refl }, tt))),
        ),
      ),
    ),
    refl,
  );
  refused = refl;
}

-- ---- loops

-- a clock is dropped in each turn
abbrev drops : UnitValue
drops = main_with 2 (instr.Make 0 ∷ instr.For 1 (pos 1) (pos 3) 3 ∷ instr.Drop 0 ∷ instr.Next 1 ∷ instr.Ret ∷ [])

-- the second turn finds it out
drops_refused : IsRefusedAt (record { shared = []; units = drops ∷ [] }) 0 0 (visit 2 kind.Out) rule.Use
drops_refused = record {
  u = drops;
  found = refl;
  slot = omega arith;
  visited = (
    visit 0 kind.Unset ∷ visit 1 kind.Live ∷ visit 2 kind.Live ∷ visit 3 kind.Out ∷ visit 2 kind.Out ∷ [],
    (
      refl,
      inl refl,
      (
        record { place = inl refl; kind = inl refl },
        (record { place = inl refl; kind = inl refl }, (record { place = inl refl; kind = inl refl }, (record { place = inr (inl refl); kind = inl refl }, tt))),
      ),
    ),
    refl,
  );
  refused = refl;
}

-- the slot of a `for` at 0 with these bounds is printed in each turn
abbrev counting : ℤ → ℤ → ModuleValue
counting lo hi = main_only 1 (instr.For 0 lo hi 2 ∷ instr.Print 0 ∷ instr.Next 0 ∷ instr.Ret ∷ [])

counting_prints : printed (counting (negsuc 0) (pos 1)) (replicate 8 0) (fresh (counting (negsuc 0) (pos 1))) ≡ negsuc 0 ∷ pos 0 ∷ pos 1 ∷ []
counting_prints = refl

-- a `for`, three turns of two steps, a `ret`
counting_ends : ended_after (run (counting (negsuc 0) (pos 1)) (replicate 8 0) (fresh (counting (negsuc 0) (pos 1)))) ≡ Some (true, 8)
counting_ends = refl

counting_bound : steps_bound (counting (negsuc 0) (pos 1)) ≡ 8
unfolding Rattle.xk_types.specs.Bound.total_within
counting_bound = refl

-- three loops of a thousand turns, one in the other, with nothing inside
abbrev nested : ModuleValue
nested = main_only 3 (instr.For 0 (pos 1) (pos 1000) 5 ∷ instr.For 1 (pos 1) (pos 1000) 4 ∷ instr.For 2 (pos 1) (pos 1000) 3
    ∷ instr.Next 2 ∷ instr.Next 1 ∷ instr.Next 0 ∷ instr.Ret ∷ [])

nested_bound : steps_bound nested ≡ 1002002002
unfolding Rattle.xk_types.specs.Bound.total_within
nested_bound = refl

-- the least and the greatest number: so many turns as there are numbers
widest_bound : steps_bound (main_only 1 (instr.For 0 (negsuc 9223372036854775807) (pos 9223372036854775807) 1 ∷ instr.Next 0 ∷ instr.Ret ∷ [])) ≡ 18446744073709551618
unfolding Rattle.xk_types.specs.Bound.total_within
widest_bound = refl

-- clocks made in two loops, one in the other
clocks_in_loops : clocks_bound (main_only 3
    (instr.For 0 (pos 1) (pos 1000) 5 ∷ instr.For 1 (pos 1) (pos 100) 4 ∷ instr.Make 2 ∷ instr.Drop 2 ∷ instr.Next 1 ∷ instr.Next 0 ∷ instr.Ret ∷ [])) ≡ 100000
unfolding Rattle.xk_types.specs.Bound.total_within
clocks_in_loops = refl

-- what is wrong at a `next` outside of its loop, or without one
next_of_nothing : cause_of (run (main_only 1 (instr.Lit 0 (pos 1) ∷ instr.Next 0 ∷ instr.Ret ∷ [])) (replicate 2 0)
    (fresh (main_only 1 (instr.Lit 0 (pos 1) ∷ instr.Next 0 ∷ instr.Ret ∷ [])))) ≡ Some OutOfRange
next_of_nothing = refl

next_unset : cause_of (run (main_only 1 (instr.Jump 2 ∷ instr.For 0 (pos 1) (pos 2) 2 ∷ instr.Next 1 ∷ instr.Ret ∷ [])) (replicate 2 0)
    (fresh (main_only 1 (instr.Jump 2 ∷ instr.For 0 (pos 1) (pos 2) 2 ∷ instr.Next 1 ∷ instr.Ret ∷ [])))) ≡ Some Missing
next_unset = refl

jump_beyond : cause_of (run (main_only 1 (instr.Jump 9 ∷ instr.Ret ∷ [])) (replicate 2 0) (fresh (main_only 1 (instr.Jump 9 ∷ instr.Ret ∷ [])))) ≡ Some OutOfRange
jump_beyond = refl

-- ---- the rules on targets and loops, at the first places of main

-- whether the code breaks the rule at each of its first places
abbrev breaks_at : Rule → List Instr → List Bool
breaks_at r code = map (breaks (main_only 2 code) r 0) (0 ∷ 1 ∷ 2 ∷ 3 ∷ [])

-- a target must lie ahead, and inside the code
targets : (breaks_at rule.Target (instr.Jump 1 ∷ instr.Jump 1 ∷ instr.Jump 4 ∷ instr.Ret ∷ []) ≡ false ∷ true ∷ true ∷ false ∷ [])
    × (breaks_at rule.Target (instr.Unless comparison.Lt 0 1 0 ∷ instr.For 0 (pos 1) (pos 1) 1 ∷ instr.Next 2 ∷ instr.Ret ∷ []) ≡ true ∷ true ∷ true ∷ false ∷ [])
    × (breaks_at rule.Target (instr.For 0 (pos 1) (pos 1) 4 ∷ instr.Next 0 ∷ instr.Next 9 ∷ instr.Ret ∷ []) ≡ true ∷ false ∷ true ∷ false ∷ [])
targets = (refl, refl, refl)

-- a jump to a `next` from outside comes into its loop; one to the `for` goes to the loop, and one behind the `next` past it
jumps_in : (breaks_at rule.Block (instr.Jump 2 ∷ instr.For 0 (pos 1) (pos 2) 2 ∷ instr.Next 1 ∷ instr.Ret ∷ []) ≡ true ∷ false ∷ false ∷ false ∷ [])
    × (breaks_at rule.Block (instr.Jump 1 ∷ instr.For 0 (pos 1) (pos 2) 2 ∷ instr.Next 1 ∷ instr.Ret ∷ []) ≡ false ∷ false ∷ false ∷ false ∷ [])
    × (breaks_at rule.Block (instr.Jump 3 ∷ instr.For 0 (pos 1) (pos 2) 2 ∷ instr.Next 1 ∷ instr.Ret ∷ []) ≡ false ∷ false ∷ false ∷ false ∷ [])
jumps_in = (refl, refl, refl)

-- one from inside to the `next` stays, and one behind it leaves the loop
jumps_out : (breaks_at rule.Block (instr.For 0 (pos 1) (pos 2) 2 ∷ instr.Jump 2 ∷ instr.Next 0 ∷ instr.Ret ∷ []) ≡ false ∷ false ∷ false ∷ false ∷ [])
    × (breaks_at rule.Block (instr.For 0 (pos 1) (pos 2) 2 ∷ instr.Jump 3 ∷ instr.Next 0 ∷ instr.Ret ∷ []) ≡ false ∷ true ∷ false ∷ false ∷ [])
jumps_out = (refl, refl)

-- a `for` whose `next` names another place, a `next` whose `for` does, two loops that overlap
pairs : (breaks_at rule.Block (instr.For 0 (pos 1) (pos 2) 1 ∷ instr.Lit 0 (pos 1) ∷ instr.Next 0 ∷ instr.Ret ∷ []) ≡ true ∷ false ∷ true ∷ false ∷ [])
    × (breaks_at rule.Block (instr.For 0 (pos 1) (pos 2) 2 ∷ instr.For 1 (pos 1) (pos 2) 3 ∷ instr.Next 0 ∷ instr.Next 1 ∷ instr.Ret ∷ []) ≡ true ∷ true ∷ true ∷ true ∷ [])
    × (breaks_at rule.Block (instr.For 0 (pos 1) (pos 2) 3 ∷ instr.For 1 (pos 1) (pos 2) 2 ∷ instr.Next 1 ∷ instr.Next 0 ∷ instr.Ret ∷ []) ≡ false ∷ false ∷ false ∷ false ∷ [])
pairs = (refl, refl, refl)

-- a loop from 2 to 1; a write of the loop's slot inside, where its own `for` and `next` are none
loop_slots : (breaks_at rule.Loop (instr.For 0 (pos 2) (pos 1) 1 ∷ instr.Next 0 ∷ instr.Ret ∷ []) ≡ true ∷ false ∷ false ∷ false ∷ [])
    × (breaks_at rule.Loop (instr.For 0 (pos 1) (pos 2) 2 ∷ instr.Lit 0 (pos 1) ∷ instr.Next 0 ∷ instr.Ret ∷ []) ≡ false ∷ true ∷ false ∷ false ∷ [])
    × (breaks_at rule.Loop (instr.For 0 (pos 1) (pos 2) 3 ∷ instr.For 0 (pos 1) (pos 2) 2 ∷ instr.Next 1 ∷ instr.Next 0 ∷ instr.Ret ∷ []) ≡ false ∷ true ∷ false ∷ false ∷ [])
    × (breaks_at rule.Loop (instr.For 0 (pos 1) (pos 2) 2 ∷ instr.Lit 1 (pos 1) ∷ instr.Next 0 ∷ instr.Ret ∷ []) ≡ false ∷ false ∷ false ∷ false ∷ [])
loop_slots = (refl, refl, refl, refl)
