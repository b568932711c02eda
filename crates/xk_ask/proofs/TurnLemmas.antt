-- Turns, step by step.
use Rattle.std.proofs.Common.{◌≡◌, ◌∙◌, ℕ, suc, ◌+◌, ◌-◌, ◌≤◌, Bool, true, false, List, [], ◌∷◌, ◌++◌, sym, ap, subst, arith, append_assoc}
use Rattle.std.specs.Prelude.{map, if◌then◌else◌}
use Rattle.std.proofs.lemmas.Bool.{and_parts, cond-true, cond-false}
use Rattle.xk_types.specs.declared.world.Entry.{Entry}
use Rattle.xk_types.specs.declared.world.Event.{Event}
use Rattle.xk_types.specs.Code.{ModuleValue}
use Rattle.xk_types.specs.World.{World}
use Rattle.xk_types.specs.Step.{Stepped, step}
use Rattle.xk_types.specs.Bound.{steps_bound}
use Rattle.xk_types.specs.Schedule.{Through, run, run_on, is_enabled, is_local}
use Rattle.xk_types.specs.Logs.{one_step_of}
use Rattle.xk_core.specs.Core.{CoreValue}
use Rattle.xk_ask.specs.Play.{IsTurnStep, goes_on, turn, turn_by, turn_within}

-- a turn is its first step, and the rest where it goes on
turn_steps : (m : ModuleValue) (a : ℕ) (w v : World) (e : Event) → step m w a ≡ Stepped v e → v.steps ≡ w.steps + 1 → v.steps ≤ steps_bound m
    → turn m a w ≡ a ∷ (if goes_on m a v e then turn m a v else [])
turn_steps m a w v e stepped counted within =
    let one_more : steps_bound m - w.steps ≡ suc (steps_bound m - v.steps) = omega (arith, counted, within) in
    ap (λ n. turn_within n m a w) one_more ∙ ap (λ o. turn_by m a o (turn_within (steps_bound m - v.steps) m a)) stepped

-- Some steps of the turn that began in the first core were taken: what is left of it leads where all of it does, and is what the log lacks.
pub record IsTurning (a : ℕ) (first : CoreValue) (log : List Entry) (c : CoreValue) (more : List Entry) : Type 0 where
  pub same_module : c.module_run ≡ first.module_run
  pub able : is_enabled first.module_run c.world a ≡ true
  pub led : run first.module_run (turn first.module_run a c.world) c.world ≡ run first.module_run (turn first.module_run a first.world) first.world
  pub logged : more ++ map one_step_of (turn first.module_run a c.world) ≡ log ++ map one_step_of (turn first.module_run a first.world)

-- a step was taken, and the turn goes on
pub turning_on : (a : ℕ) (first c d : CoreValue) (log more next : List Entry) (b : Bool) → b ≡ true → IsTurning a first log c more
    → IsTurnStep c.module_run a c.world d.world b → next ≡ more ++ one_step_of a ∷ [] → d.module_run ≡ c.module_run → d.world.steps ≡ c.world.steps + 1
    → d.world.steps ≤ steps_bound d.module_run → IsTurning a first log d next
turning_on a first c d log more next b on_it t s grown same counted within =
    let m = first.module_run in
    let stepped : step m c.world a ≡ Stepped d.world s.event = subst (λ k. step k c.world a ≡ Stepped d.world s.event) t.same_module s.stepped in
    let on : goes_on m a d.world s.event ≡ true = ap (λ k. goes_on k a d.world s.event) (sym t.same_module) ∙ sym s.more_is ∙ on_it in
    let bound : d.world.steps ≤ steps_bound m = subst (λ k. d.world.steps ≤ steps_bound k) (same ∙ t.same_module) within in
    let steps : turn m a c.world ≡ a ∷ turn m a d.world =
    turn_steps m a c.world d.world s.event stepped counted bound ∙ ap (λ l. a ∷ l) (cond-true (goes_on m a d.world s.event) _ _ on) in
    record {
      same_module = same ∙ t.same_module;
      able = (and_parts (is_local s.event) (is_enabled m d.world a) on).1;
      led = sym (ap (λ l. run m l c.world) steps ∙ ap (λ o. run_on c.world o (run m (turn m a d.world))) stepped) ∙ t.led;
      logged = ap (λ l. l ++ map one_step_of (turn m a d.world)) grown ∙ append_assoc more (one_step_of a ∷ []) (map one_step_of (turn m a d.world))
          ∙ ap (λ l. more ++ map one_step_of l) (sym steps) ∙ t.logged;
    }

-- the last step was taken
pub turning_ends : (a : ℕ) (first c d : CoreValue) (log more next : List Entry) (b : Bool) → b ≡ false → IsTurning a first log c more
    → IsTurnStep c.module_run a c.world d.world b → next ≡ more ++ one_step_of a ∷ [] → d.module_run ≡ c.module_run → d.world.steps ≡ c.world.steps + 1
    → d.world.steps ≤ steps_bound d.module_run
    → (run first.module_run (turn first.module_run a first.world) first.world ≡ Through d.world)
    × (next ≡ log ++ map one_step_of (turn first.module_run a first.world))
turning_ends a first c d log more next b off_it t s grown same counted within =
    let m = first.module_run in
    let stepped : step m c.world a ≡ Stepped d.world s.event = subst (λ k. step k c.world a ≡ Stepped d.world s.event) t.same_module s.stepped in
    let off : goes_on m a d.world s.event ≡ false = ap (λ k. goes_on k a d.world s.event) (sym t.same_module) ∙ sym s.more_is ∙ off_it in
    let bound : d.world.steps ≤ steps_bound m = subst (λ k. d.world.steps ≤ steps_bound k) (same ∙ t.same_module) within in
    let steps : turn m a c.world ≡ a ∷ [] =
    turn_steps m a c.world d.world s.event stepped counted bound ∙ ap (λ l. a ∷ l) (cond-false (goes_on m a d.world s.event) _ _ off) in (
      sym t.led ∙ ap (λ l. run m l c.world) steps ∙ ap (λ o. run_on c.world o (run m [])) stepped,
      grown ∙ ap (λ l. more ++ map one_step_of l) (sym steps) ∙ t.logged,
    )
