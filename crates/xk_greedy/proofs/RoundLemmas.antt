-- Rounds one after another, and their steps.
use Rattle.std.proofs.Common.{◌≡◌, ◌∙◌, ℕ, ◌+◌, ◌-◌, ◌<◌, ◌≤◌, ℤ, List, [], ◌∷◌, ◌++◌, append-nil, append_assoc, length, map}
use Rattle.std.proofs.Common.{Option, refl, sym, ap, subst, arith}
use Rattle.std.proofs.lemmas.List.{map-append}
use Rattle.xk_types.specs.declared.world.Entry.{Entry}
use Rattle.xk_types.specs.Code.{ModuleValue}
use Rattle.xk_types.specs.World.{World, opening}
use Rattle.xk_types.specs.Bound.{steps_bound}
use Rattle.xk_types.specs.Logs.{one_step_of}
use Rattle.xk_law_rounds.specs.Rounds.{steps_in}
use Rattle.xk_law_schedules.proofs.ReachabilityLemmas.{run_arguments}
use Rattle.xk_core.specs.Core.{CoreValue}
use Rattle.xk_greedy.specs.Rounds.{AreRoundsBy, IsByRounds, IsRoundBy}
use Rattle.xk_greedy.specs.Steps.{IsRoundOn}

-- one round more
rounds_more : (p : Option ℕ) (m : ModuleValue) (w v z : World) (rs : List (List ℕ)) (r : List ℕ)
    → AreRoundsBy p m w rs v → IsRoundBy p m v r z → AreRoundsBy p m w (rs ++ r ∷ []) z
rounds_more p m w v z [] r same round = (z, subst (λ x. IsRoundBy p m x r z) (sym same) round, refl)
rounds_more p m w v z (q ∷ rs) r h round = (h.0, h.1, rounds_more p m h.0 v z rs r h.2 round)

steps_more : (rs : List (List ℕ)) (r : List ℕ) → steps_in (rs ++ r ∷ []) ≡ steps_in rs ++ r
steps_more [] r = append-nil r
steps_more (q ∷ rs) r = ap (λ l. q ++ l) (steps_more rs r) ∙ sym (append_assoc q (steps_in rs) r)

length_more : (rs : List (List ℕ)) (r : List ℕ) → length (rs ++ r ∷ []) ≡ length rs + 1
length_more [] r = refl
length_more (q ∷ rs) r = let rest = length_more rs r in omega (arith, rest)

by_rounds_more : (p : Option ℕ) (m : ModuleValue) (args : List ℤ) (log more : List Entry) (v z : World) (n : ℕ) (r : List ℕ)
    → IsByRounds p m args log v n → IsRoundBy p m v r z → more ≡ log ++ map one_step_of r
    → IsByRounds p m args more z (n + 1)
by_rounds_more p m args log more v z n r h round is = record {
  rounds = h.rounds ++ r ∷ [];
  are = rounds_more p m (opening m args) v z h.rounds r h.are round;
  log_is = is ∙ ap (λ l. l ++ map one_step_of r) h.log_is ∙ sym (map-append one_step_of (steps_in h.rounds) r)
      ∙ ap (map one_step_of) (sym (steps_more h.rounds r));
  as_many = length_more h.rounds r ∙ ap (λ k. k + 1) h.as_many;
}

-- before the first round
no_rounds : (p : Option ℕ) (m : ModuleValue) (args : List ℤ) (w : World) (log : List Entry) → log ≡ [] → opening m args ≡ w
    → IsByRounds p m args log w 0
no_rounds p m args w log none is = record {
  rounds = [];
  are = is;
  log_is = none;
  as_many = refl;
}

-- ---- a run by rounds, so far

-- from core `start` to core d
pub record IsSoFar (p : Option ℕ) (start d : CoreValue) (log : List Entry) (count : ℕ) : Type 0 where
  pub same_module : d.module_run ≡ start.module_run
  pub same_arguments : d.world.arguments ≡ start.world.arguments
  pub by : IsByRounds p start.module_run start.world.arguments log d.world count
  pub few : count ≤ d.world.steps
  pub bound : d.world.steps ≤ steps_bound start.module_run

pub so_far_starts : (p : Option ℕ) (start d : CoreValue) (log : List Entry) → d ≡ start → log ≡ [] → start.world.steps ≡ 0
    → start.world ≡ opening start.module_run start.world.arguments → IsSoFar p start d log 0
so_far_starts p start d log same none zero_steps is = subst (λ (x : CoreValue). IsSoFar p start x log 0) (sym same) (record {
  same_module = refl;
  same_arguments = refl;
  by = no_rounds p start.module_run start.world.arguments start.world log none (sym is);
  few = omega arith;
  bound = omega (arith, zero_steps);
})

pub so_far_more : (p : Option ℕ) (start d x : CoreValue) (log more : List Entry) (count : ℕ)
    → IsSoFar p start d log count → IsRoundOn p d log x more
    → IsSoFar p start x more (count + 1)
so_far_more p start d x log more count h r = record {
  same_module = r.on.same_module ∙ h.same_module;
  same_arguments = run_arguments d.module_run r.acts d.world x.world r.on.leads ∙ h.same_arguments;
  by = by_rounds_more p start.module_run start.world.arguments log more d.world x.world count r.acts h.by
      (subst (λ m. IsRoundBy p m d.world r.acts x.world) h.same_module r.round) r.on.logged;
  few = omega (arith, h.few, r.on.counted, r.round.some);
  bound = subst (λ m. x.world.steps ≤ steps_bound m) h.same_module (r.on.bound r.round.some);
}

-- fewer steps are left then
pub so_far_less : (p : Option ℕ) (start d x : CoreValue) (log more : List Entry) (count : ℕ)
    → IsSoFar p start d log count → IsRoundOn p d log x more
    → steps_bound start.module_run + 1 - x.world.steps < steps_bound start.module_run + 1 - d.world.steps
so_far_less p start d x log more count h r =
    let later = so_far_more p start d x log more count h r in
    omega (arith, later.bound, r.on.counted, r.round.some)
