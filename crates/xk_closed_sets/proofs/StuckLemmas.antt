-- Who takes no step as long as nobody of a set moves.
use Rattle.std.proofs.Common.{◌≡◌, ◌∙◌, ℕ, zero, suc, ◌<◌, Bool, true, false, true≢false, List, [], ◌∷◌, length}
use Rattle.std.proofs.Common.{Option, Some, refl, sym, ap, arith, slice_get, option_and_then}
use Rattle.std.specs.Option.{option_map_or}
use Rattle.std.specs.Prelude.{not}
use Rattle.std.proofs.lemmas.Option.{slice_get-get_or}
use Rattle.xk_types.specs.declared.instr.Instr.TheVariants as instr
use Rattle.xk_types.specs.declared.world.Status.{Status}
use Rattle.xk_types.specs.declared.world.Status.TheVariants as status
use Rattle.xk_types.specs.Code.{ModuleValue}
use Rattle.xk_types.specs.World.{Activity, World, instruction_at, is_ended}
use Rattle.xk_law_commute.specs.Conflicts.{next_instruction}
use Rattle.xk_activity.specs.Activities.{act_at, nobody}
use Rattle.xk_core.specs.Core.{IsCore, is_arrived, is_living, is_waiting}
use Rattle.xk_closed.specs.Closed.{IsStuck}
use Rattle.xk_closed.proofs.PhaseLaw.{clock_stuck}
use Rattle.xk_closed.proofs.WaitLaw.{ended_stuck, waits_stuck}
use Rattle.xk_closed_sets.specs.ClosedSets.{HasLivingUnder, IsHeldBySet, is_in}

module _ (m : ModuleValue) (w : World) (core : IsCore m w) (members : List Bool) where
  there_is : (r : ℕ) → r < length w.activities → slice_get w.activities r ≡ Some (act_at w.activities r)
  there_is r lt = slice_get-get_or w.activities r nobody lt

  status_is : (test : Activity → Bool) (r : ℕ) (b : Bool) → r < length w.activities
      → option_map_or test (slice_get w.activities r) false ≡ b
      → test (act_at w.activities r) ≡ b
  status_is test r b lt h = sym (ap (λ (o : Option Activity). option_map_or test o false) (there_is r lt)) ∙ h

  flipped : (b c : Bool) → not b ≡ c → b ≡ not c
  flipped true c h = ap not h
  flipped false c h = ap not h

  arrived : (s : Status) → is_arrived s ≡ true → s ≡ status.Arrived
  arrived status.Arrived h = refl
  arrived status.Running h = absurd (true≢false (sym h))
  arrived status.Ended h = absurd (true≢false (sym h))

  running : (s : Status) → is_arrived s ≡ false → is_ended s ≡ false → s ≡ status.Running
  running status.Running h k = refl
  running status.Arrived h k = absurd (true≢false h)
  running status.Ended h k = absurd (true≢false k)

  pub over : (r : ℕ) → r < length w.activities → is_living w r ≡ false → IsStuck m w (is_in members) r
  over r lt ends = ended_stuck m (is_in members) r (act_at w.activities r)
      (flipped (is_ended (act_at w.activities r).status) false (status_is (λ act. not (is_ended act.status)) r false lt ends))
      w (there_is r lt)

  pub held : (r : ℕ) → r < length w.activities → is_waiting w r ≡ true → IsHeldBySet w (is_in members) r → IsStuck m w (is_in members) r
  held r lt waits h = clock_stuck m core.limits core.accepted w (is_in members) h.clock r h.holder (act_at w.activities r)
      core.reached h.inside h.held (there_is r lt)
      (arrived (act_at w.activities r).status (status_is (λ act. is_arrived act.status) r true lt waits))

  pub awaiting : (r k : ℕ) → r < length w.activities → is_living w r ≡ true → is_waiting w r ≡ false
      → next_instruction m w r ≡ Some (instr.EndFinish k) → HasLivingUnder w (is_in members) r → IsStuck m w (is_in members) r
  awaiting r k lt lives runs stands under =
      waits_stuck m core.limits core.accepted w (is_in members) r under.child k (act_at w.activities r) (act_at w.activities under.child)
      core.reached under.inside (there_is r lt)
      (running (act_at w.activities r).status (status_is (λ act. is_arrived act.status) r false lt runs)
      (flipped (is_ended (act_at w.activities r).status) true (status_is (λ act. not (is_ended act.status)) r true lt lives)))
      (sym (ap (option_and_then (λ (x : Activity). instruction_at m x.frame)) (there_is r lt)) ∙ stands)
      (there_is under.child child)
      (flipped (is_ended (act_at w.activities under.child).status) true
      (status_is (λ act. not (is_ended act.status)) under.child true child under.alive))
      under.under
    where
      child : under.child < length w.activities
      child = within w.activities under.child under.alive
        where
          within : (xs : List Activity) (a : ℕ)
              → option_map_or (λ (act : Activity). not (is_ended act.status)) (slice_get xs a) false ≡ true → a < length xs
          within [] a h = absurd (true≢false (sym h))
          within (x ∷ xs) zero h = omega arith
          within (x ∷ xs) (suc a) h = let less = within xs a h in omega (arith, less)
