-- In which world of a run the step of a deed is taken.
use Rattle.std.proofs.Common.{◌≡◌, ℕ, ℤ, suc, List, ◌∷◌, length, take, ap, ◌∙◌, arith}
use Rattle.std.specs.Prelude.{pred}
use Rattle.std.proofs.Math.Seq.{take-append_seam}
use Rattle.xk_types.specs.declared.world.Entry.{Entry}
use Rattle.xk_types.specs.Code.{ModuleValue}
use Rattle.xk_types.specs.World.{World, opening}
use Rattle.xk_types.specs.Schedule.{run}
use Rattle.xk_types.specs.Logs.{schedule_of}
use Rattle.xk_law_schedules.proofs.ReachabilityLemmas.{run_counts}
use Rattle.xk_law_schedules.proofs.StepCountLemmas.{step_counts}
use Rattle.xk_show_events.specs.declared.steps.RunStep.{RunStep}
use Rattle.xk_races.specs.declared.deeds.Deed.{Deed}
use Rattle.xk_law_races.specs.Finishes.{IsWorldOf}
use Rattle.xk_law_races.proofs.TurnLemmas.{Turn, IsToldOf}
use Rattle.xk_law_races.proofs.DeedPartLemmas.{part_is}

module _ (m : ModuleValue) (args : List ℤ) (log : List Entry) where
  abbrev w : World
  w = opening m args

  abbrev s : List ℕ
  s = schedule_of log

  -- the number of its step
  pub number_is : (t : Turn m w s) (k : ℕ) (d : Deed) → IsToldOf m w s t k d → d.step.number ≡ suc (length t.before)
  number_is t k d r =
      let n = ap (λ (p : RunStep). p.number) (part_is m w s t k d r).0 in
      let i = step_counts m t.here t.there t.act t.e t.takes in
      let j = run_counts m t.before w t.here t.leads in
      omega (arith, n, i, j)

  -- the step of a deed is taken in the world of its turn
  pub world_of : (t : Turn m w s) (k : ℕ) (d : Deed) → IsToldOf m w s t k d → IsWorldOf m args log d.step.number t.here
  world_of t k d r =
      ap (λ c. run m (take (pred c) s) w) (number_is t k d r) ∙ ap (λ l. run m (take (length t.before) l) w) t.whole
      ∙ ap (λ l. run m l w) (take-append_seam t.before (t.act ∷ t.after)) ∙ t.leads
