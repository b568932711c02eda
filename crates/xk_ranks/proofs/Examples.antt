-- A lost update: main starts two that read a number, add 1 and write it; in two worlds different ones have ended. By evaluation.
use Rattle.std.proofs.Common.{◌≡◌, ℕ, pos, Bool, true, false, true≢false, [], ◌∷◌, map, ap, refl}
use Rattle.std.specs.Prelude.{slice_index_or}
use Rattle.xk_types.specs.declared.instr.Instr.TheVariants as instr
use Rattle.xk_types.specs.declared.world.Status.TheVariants as status
use Rattle.xk_types.specs.declared.unit.UnitKind.TheVariants as unit_kind
use Rattle.xk_types.specs.Code.{ModuleValue}
use Rattle.xk_types.specs.World.{Activity, World, is_ended}
use Rattle.xk_types.specs.Schedule.{Course, Through, Held, Wronged, run, is_enabled}
use Rattle.xk_types.proofs.Examples.Notation.{fresh, main_with, body_with}
use Rattle.xk_liveness.specs.Liveness.{AreAlikeWhereLive}
use Rattle.xk_liveness.proofs.LivenessLaw.{all_live}
use Rattle.xk_ranks.specs.Ranks.{going, remains, AreAlikeByRank, HaveOneRank}

abbrev updates : ModuleValue
updates = record {
  shared = pos 0 ∷ [];
  units = main_with 0 (instr.Finish 3 ∷ instr.Spawn 1 [] ∷ instr.Spawn 1 [] ∷ instr.EndFinish 0 ∷ instr.Ret ∷ [])
      ∷ body_with [] 2 (instr.Get 0 0 ∷ instr.Lit 1 (pos 1) ∷ instr.Add 0 0 1 ∷ instr.Put 0 0 ∷ instr.Ret ∷ []) ∷ [];
}

abbrev last : Course → World
last (Through w) = w
last (Held w) = w
last (Wronged w c) = w

-- main has started both, and the first is over
abbrev first_over : World
first_over = last (run updates (0 ∷ 0 ∷ 0 ∷ 1 ∷ 1 ∷ 1 ∷ 1 ∷ 1 ∷ []) (fresh updates))

-- and the second is
abbrev second_over : World
second_over = last (run updates (0 ∷ 0 ∷ 0 ∷ 2 ∷ 2 ∷ 2 ∷ 2 ∷ 2 ∷ []) (fresh updates))

who_goes_on : going first_over.activities ≡ true ∷ false ∷ true ∷ []
who_goes_on = refl

who_else : going second_over.activities ≡ true ∷ true ∷ false ∷ []
who_else = refl

-- the same is left of both: main, and one that hasn't begun
same_left : remains first_over ≡ remains second_over
same_left = refl

pub alike : AreAlikeByRank all_live first_over second_over
alike = refl

-- number 2 of the one is number 1 of the other
one_rank : HaveOneRank first_over 2 second_over 1
one_rank = record { first = refl; second = refl; same = refl }

can_step : is_enabled updates first_over 2 ≡ true
can_step = refl

can_step_too : is_enabled updates second_over 1 ≡ true
can_step_too = refl

-- by their numbers they aren't alike
apart : AreAlikeWhereLive all_live first_over second_over → ⊥
apart h = true≢false (ap (λ (w : World). is_ended_at 1 w) h)
  where
    is_ended_at : ℕ → World → Bool
    is_ended_at a w = slice_index_or (map (λ (act : Activity). is_ended act.status) w.activities) a false
