-- A private step can be taken, prints nothing, and is a closed set by itself.
use Rattle.std.proofs.Common.{◌≡◌, ◌∙◌, ℕ, ◌<◌, Bool, true, false, true≢false, length, Option, Some, None, refl, sym, ap, option_and_then}
use Rattle.std.specs.Option.{option_map_or}
use Rattle.std.proofs.lemmas.Bool.{and_parts}
use Rattle.std.proofs.lemmas.Option.{slice_get-get_or}
use Rattle.xk_types.specs.declared.instr.Instr.{Instr}
use Rattle.xk_types.specs.declared.instr.Instr.TheVariants as instr
use Rattle.xk_types.specs.declared.world.Event.{Event}
use Rattle.xk_types.specs.Code.{ModuleValue}
use Rattle.xk_types.specs.World.{Activity, World, instruction_at}
use Rattle.xk_types.specs.Step.{Stepped, step}
use Rattle.xk_types.specs.Schedule.{is_enabled, number_printed}
use Rattle.xk_law_commute.specs.Conflicts.{next_instruction}
use Rattle.xk_law_traces.specs.Edges.{prints}
use Rattle.xk_law_traces.specs.Moments.{is_print}
use Rattle.xk_law_traces.proofs.PrintLemmas.{other_silent}
use Rattle.xk_law_traces.proofs.StepEventLemmas.{print_says}
use Rattle.xk_closed.specs.Closed.{IsClosed}
use Rattle.xk_closed.specs.Futures.{alone, is_private}
use Rattle.xk_closed.proofs.FutureLaw.{alone_closed}
use Rattle.xk_activity.specs.Activities.{act_at, nobody}
use Rattle.xk_outcomes.specs.PrivateSteps.{has_private_step}

module _ (m : ModuleValue) (w : World) (a : ℕ) (private : has_private_step m w a ≡ true) where
  parts : (is_enabled m w a ≡ true) × (option_map_or is_private (next_instruction m w a) true ≡ true)
  parts = and_parts (is_enabled m w a) (option_map_or is_private (next_instruction m w a) true) private

  pub private_enabled : is_enabled m w a ≡ true
  private_enabled = parts.0

  pub private_closed : IsClosed m w (alone a)
  private_closed = alone_closed m w a parts.0 parts.1

  -- it stands at no instruction that prints
  prints_not : option_map_or prints (next_instruction m w a) false ≡ false
  prints_not = by (next_instruction m w a) parts.1
    where
      of : (i : Instr) → is_private i ≡ true → prints i ≡ false
      of (instr.Print x) h = absurd (true≢false (sym h))
      of _ h = refl

      by : (o : Option Instr) → option_map_or is_private o true ≡ true → option_map_or prints o false ≡ false
      by None h = refl
      by (Some i) h = of i h

  pub private_silent : (u : World) (e : Event) → step m w a ≡ Stepped u e → number_printed e ≡ None
  private_silent u e takes = other_silent e (by (is_print e) refl)
    where
      by : (q : Bool) → is_print e ≡ q → is_print e ≡ false
      by true g = absurd (true≢false (sym (print_says m w u a e takes g) ∙ prints_not))
      by false g = g

-- the instruction that an activity stands at
pub stands_at : (m : ModuleValue) (w : World) (a : ℕ) → a < length w.activities
    → next_instruction m w a ≡ instruction_at m (act_at w.activities a).frame
stands_at m w a there = ap (option_and_then (λ (x : Activity). instruction_at m x.frame)) (slice_get-get_or w.activities a nobody there)
