-- Runs, as their stages keep them.
use Rattle.std.proofs.Common.{◌≡◌, ℕ, Bool, true, false, cond, List, [], ◌∷◌, length, Option, None, slice_get, refl, sym, ap, subst, ◌∙◌, arith}
use Rattle.std.proofs.lemmas.Bool.{le-leb}
use Rattle.std.proofs.lemmas.Option.{none-some}
use Rattle.xk_types.specs.World.{World, opening}
use Rattle.xk_core.specs.Core.{CoreValue, IsCore}
use Rattle.xk_core.proofs.CoreLemmas.{core_fresh}
use Rattle.xk_types.specs.Schedule.{is_enabled, all_ended}
use Rattle.xk_collections.specs.NumberSets.{place_above}
use Rattle.xk_scheduler.specs.Choosers.{enabled_in}
use Rattle.xk_scheduler.proofs.TurnLemmas.{run_starts}
use Rattle.xk_scheduler.proofs.EnabledSetLemmas.{listed_over}
use Rattle.xk_scheduler.specs.declared.logged_run.Logged.{Logged}
use Rattle.xk_workers.specs.declared.run.Stage.{Stage}
use Rattle.xk_workers.specs.declared.run.Stage.TheVariants as stage
use Rattle.xk_workers.specs.Run.{RunValue, fresh_run, run_at, IsStage, IsRun}

-- a core that has taken no step is a run
pub fresh_is : (c : CoreValue) → IsCore c.module_run c.world → c.world.steps ≡ 0 → IsRun (fresh_run c)
fresh_is c core none = record { core = core; legal = run_starts c.module_run c refl core.reached.1.0 (core_fresh c.module_run c.world core none) }

-- a run in which nobody can take a step is over
run_over : (r : RunValue) → IsRun r → enabled_in r.core.module_run r.core.world ≡ [] → all_ended r.core.world ≡ true
run_over r is none = listed_over r.core.module_run r.core.world is.core none

-- before the first step main alone is there
fresh_nobody : (c : CoreValue) → c.world ≡ opening c.module_run c.world.arguments → is_enabled c.module_run c.world 0 ≡ false → enabled_in c.module_run c.world ≡ []
fresh_nobody c start =
    subst (λ (w : World). is_enabled c.module_run w 0 ≡ false → enabled_in c.module_run w ≡ []) (sym start) (λ h. ap (λ b. cond b (0 ∷ []) []) h)

pub over_fresh : (s : Stage) (c : CoreValue) → s ≡ stage.Fresh c → IsStage s → IsRun (run_at s) → is_enabled c.module_run c.world 0 ≡ false
    → all_ended (run_at s).core.world ≡ true
over_fresh s c e = subst (λ (t : Stage). IsStage t → IsRun (run_at t) → is_enabled c.module_run c.world 0 ≡ false → all_ended (run_at t).core.world ≡ true) (sym e)
    (λ start is h. run_over (fresh_run c) is (fresh_nobody c start h))

nobody : (xs : List ℕ) → slice_get xs 0 ≡ None → xs ≡ []
nobody [] e = refl
nobody (x ∷ xs) e = absurd (none-some x (sym e))

pub over_going : (s : Stage) (r : Logged) (first : Option ℕ) → s ≡ stage.Going r → IsRun (run_at s)
    → first ≡ slice_get (enabled_in r.driver.module_run r.driver.world) 0 → first ≡ None → all_ended (run_at s).core.world ≡ true
over_going s r first e =
    let list = enabled_in r.driver.module_run r.driver.world in
    subst (λ (t : Stage). IsRun (run_at t) → first ≡ slice_get list 0 → first ≡ None → all_ended (run_at t).core.world ≡ true) (sym e)
    (λ is listed none. run_over (run_at (stage.Going r)) is (nobody list (sym listed ∙ none)))

-- nobody is above main
nobody_above : (b : Bool) (a : ℕ) → let list : List ℕ = cond b (0 ∷ []) [] in None ≡ slice_get list (place_above a list)
nobody_above true a = let main : List ℕ = 0 ∷ [] in ap (λ (b : Bool). slice_get main (length {A = ℕ} (cond b main []))) (sym (le-leb 0 a (omega arith)))
nobody_above false a = refl

alone : (c : CoreValue) (a : ℕ) → c.world ≡ opening c.module_run c.world.arguments
    → None ≡ slice_get (enabled_in c.module_run c.world) (place_above a (enabled_in c.module_run c.world))
alone c a start =
    subst (λ (w : World). None ≡ slice_get (enabled_in c.module_run w) (place_above a (enabled_in c.module_run w))) (sym start)
    (nobody_above (is_enabled c.module_run (opening c.module_run c.world.arguments) 0) a)

pub alone_fresh : (s : Stage) (c : CoreValue) (a : ℕ) → s ≡ stage.Fresh c → IsStage s
    → None ≡ slice_get (enabled_in (run_at s).core.module_run (run_at s).core.world) (place_above a (enabled_in (run_at s).core.module_run (run_at s).core.world))
alone_fresh s c a e =
    subst (λ (t : Stage). IsStage t
    → None ≡ slice_get (enabled_in (run_at t).core.module_run (run_at t).core.world) (place_above a (enabled_in (run_at t).core.module_run (run_at t).core.world)))
    (sym e) (alone c a)
