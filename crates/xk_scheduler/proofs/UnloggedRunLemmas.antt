-- How a run without a log goes on by its turns, and comes to its end.
use Rattle.std.proofs.Common.{◌≡◌, ℕ, ℤ, ◌+◌, ◌-◌, ◌<◌, ◌≤◌, List, [], ◌∷◌, ◌++◌, replicate, Option, Some, None, refl, sym, ap, subst, ◌∙◌, arith}
use Rattle.std.specs.Option.{option_to_list}
use Rattle.xk_types.specs.declared.world.Event.{Event}
use Rattle.xk_types.specs.Bound.{steps_bound}
use Rattle.xk_types.specs.Code.{ModuleValue}
use Rattle.xk_types.specs.World.{World, opening, AreArguments}
use Rattle.xk_types.specs.Step.{Outcome, Blocked, Wrong, Stepped, step}
use Rattle.xk_types.specs.Schedule.{Through, run, number_printed, printed}
use Rattle.xk_core.specs.Core.{CoreValue}
use Rattle.xk_scheduler.specs.declared.driver.Turn.{Turn}
use Rattle.xk_scheduler.specs.Choosers.{enabled_in, Names, Follows, goes_on, state_after}
use Rattle.xk_scheduler.specs.LoggedRuns.{IsTurn}
use Rattle.xk_scheduler.specs.LocalRuns.{IsGone, IsStretch}
use Rattle.xk_scheduler.specs.WholeRuns.{IsRunThat}
use Rattle.xk_law_schedules.proofs.StepCountLemmas.{step_counts}
use Rattle.xk_law_schedules.proofs.ReachabilityLemmas.{run_more, run_counts}
use Rattle.xk_scheduler.proofs.ChooserScheduleLemmas.{follows_more, printed_more, printed_unseen, state_more}
use Rattle.xk_scheduler.proofs.RunSequenceLemmas.{run_then, follows_then, state_then}
use Rattle.xk_scheduler.proofs.TurnLemmas.{leads_with}

-- From the opening world with these arguments a list that follows a chooser, which began in state b, leads here, and printed these numbers; the
-- chooser is in state s.
pub record IsFront {S : Type 0} (answer : S → List ℕ → ℕ) (after : S → List ℕ → S) (m : ModuleValue) (args : List ℤ) (b : S) (w : World) (s : S) (numbers : List ℤ) : Type 0 where
  pub list : List ℕ
  pub follows : Follows answer after m b (opening m args) list
  pub leads : run m list (opening m args) ≡ Through w
  pub state_is : s ≡ state_after after m b (opening m args) list
  pub numbers_are : numbers ≡ printed m list (opening m args)

-- before the first step
pub front_starts : {S : Type 0} (answer : S → List ℕ → ℕ) (after : S → List ℕ → S) (c d : CoreValue) (b : S) (numbers : List ℤ) → d ≡ c → c.world.steps ≡ 0
    → (d.world.steps ≡ 0 → d.world ≡ opening d.module_run d.world.arguments) → numbers ≡ []
    → (d.module_run ≡ c.module_run) × IsFront answer after c.module_run c.world.arguments b d.world b numbers
front_starts answer after c d b numbers same fresh starts none =
    let m = c.module_run in
    let args = c.world.arguments in
    let first : d.world ≡ opening m args =
    subst (λ (x : CoreValue). d.world ≡ opening x.module_run x.world.arguments) same (starts (ap (λ (x : CoreValue). x.world.steps) same ∙ fresh)) in (
      ap (λ (x : CoreValue). x.module_run) same,
      subst (λ ns. IsFront answer after m args b d.world b ns) (sym none) (subst (λ w. IsFront answer after m args b w b []) (sym first)
          (record { list = []; follows = tt; leads = refl; state_is = refl; numbers_are = refl })),
    )

-- a turn more
front_on : {S : Type 0} (answer : S → List ℕ → ℕ) (after : S → List ℕ → S) (args : List ℤ) (b : S) (c d : CoreValue) (s t : S) (a : ℕ) (e : Event) (numbers : List ℤ)
    → IsFront answer after c.module_run args b c.world s numbers → IsTurn answer after c s a e d t
    → IsFront answer after c.module_run args b d.world t (numbers ++ option_to_list (number_printed e))
front_on answer after args b c d s t a e numbers f turn =
    let m = c.module_run in
    let first = opening m args in
    record {
      list = f.list ++ a ∷ [];
      follows = follows_more answer after m f.list b first c.world d.world a e f.leads f.follows
          (subst (λ z. Names answer m z c.world a) f.state_is turn.chosen) turn.stepped;
      leads = run_more m f.list first c.world d.world a e f.leads turn.stepped;
      state_is = turn.goes_on ∙ ap (λ z. after z (enabled_in m c.world)) f.state_is ∙ sym (state_more after m f.list b first c.world d.world a e f.leads turn.stepped);
      numbers_are = ap (λ ns. ns ++ option_to_list (number_printed e)) f.numbers_are ∙ sym (printed_more m f.list first c.world d.world a e f.leads turn.stepped);
    }

front_more : {S : Type 0} (answer : S → List ℕ → ℕ) (after : S → List ℕ → S) (m : ModuleValue) (args : List ℤ) (b : S) (c d : CoreValue) (s t : S) (a : ℕ) (e : Event) (numbers : List ℤ)
    → c.module_run ≡ m → IsFront answer after m args b c.world s numbers → IsTurn answer after c s a e d t
    → IsFront answer after m args b d.world t (numbers ++ option_to_list (number_printed e))
front_more answer after m args b c d s t a e numbers same f turn =
    subst (λ n. IsFront answer after n args b d.world t (numbers ++ option_to_list (number_printed e))) same
    (front_on answer after args b c d s t a e numbers (subst (λ n. IsFront answer after n args b c.world s numbers) (sym same) f) turn)

-- a stretch more
front_along : {S : Type 0} (answer : S → List ℕ → ℕ) (after : S → List ℕ → S) (args : List ℤ) (b : S) (c d : CoreValue) (s t : S) (n : ℕ) (numbers : List ℤ)
    → IsFront answer after c.module_run args b c.world s numbers → IsStretch answer after c s n d t → IsFront answer after c.module_run args b d.world t numbers
front_along answer after args b c d s t n numbers f more =
    let m = c.module_run in
    let first = opening m args in
    let steps = replicate n more.act in
    record {
      list = f.list ++ steps;
      follows = follows_then answer after m f.list steps b first c.world f.leads f.follows
          (subst (λ z. Follows answer after m z c.world steps) f.state_is more.follows);
      leads = run_then m f.list steps first c.world f.leads ∙ more.leads;
      state_is = more.left ∙ ap (λ z. state_after after m z c.world steps) f.state_is ∙ sym (state_then after m f.list steps b first c.world f.leads);
      numbers_are = f.numbers_are ∙ sym (printed_unseen m f.list steps first c.world f.leads more.unseen);
    }

front_stretch : {S : Type 0} (answer : S → List ℕ → ℕ) (after : S → List ℕ → S) (m : ModuleValue) (args : List ℤ) (b : S) (c d : CoreValue) (s t : S) (n : ℕ) (numbers : List ℤ)
    → c.module_run ≡ m → IsFront answer after m args b c.world s numbers → IsStretch answer after c s n d t → IsFront answer after m args b d.world t numbers
front_stretch answer after m args b c d s t n numbers same f more =
    subst (λ k. IsFront answer after k args b d.world t numbers) same
    (front_along answer after args b c d s t n numbers (subst (λ k. IsFront answer after k args b c.world s numbers) (sym same) f) more)

-- it takes no step back
stretch_counts : {S : Type 0} (answer : S → List ℕ → ℕ) (after : S → List ℕ → S) (c d : CoreValue) (s t : S) (n : ℕ) → IsStretch answer after c s n d t
    → c.world.steps ≤ d.world.steps
stretch_counts answer after c d s t n more = (let e = run_counts c.module_run (replicate n more.act) c.world d.world more.leads in omega arith)

-- a stretch and the turn behind it more, whose number was kept
pub front_gone : {S : Type 0} (answer : S → List ℕ → ℕ) (after : S → List ℕ → S) (m : ModuleValue) (args : List ℤ) (b : S) (c d : CoreValue) (s t : S) (numbers more : List ℤ)
    (turn : Turn) → c.module_run ≡ m → IsFront answer after m args b c.world s numbers → IsGone answer after c s d t (Some turn)
    → more ≡ numbers ++ option_to_list (number_printed turn.event)
    → (d.module_run ≡ m) × IsFront answer after m args b d.world t more
front_gone answer after m args b c d s t numbers more turn same f gone kept =
    let same_on = gone.stretch.same_module ∙ same in
    let on = front_stretch answer after m args b c gone.between s gone.left gone.count numbers same f gone.stretch in (
      gone.turn.same_module ∙ same_on,
      subst (IsFront answer after m args b d.world t) (sym kept) (front_more answer after m args b gone.between d gone.left t turn.act turn.event numbers same_on on gone.turn),
    )

-- fewer steps are left
pub gone_less : {S : Type 0} (answer : S → List ℕ → ℕ) (after : S → List ℕ → S) (m : ModuleValue) (c d : CoreValue) (s t : S) (turn : Turn)
    → c.module_run ≡ m → IsGone answer after c s d t (Some turn) → d.world.steps ≤ steps_bound d.module_run
    → steps_bound m + 1 - d.world.steps < steps_bound m + 1 - c.world.steps
gone_less answer after m c d s t turn same gone bound =
    let within : d.world.steps ≤ steps_bound m = subst (λ k. d.world.steps ≤ steps_bound k) (gone.turn.same_module ∙ (gone.stretch.same_module ∙ same)) bound in
    let one : d.world.steps ≡ gone.between.world.steps + 1 = step_counts gone.between.module_run gone.between.world d.world turn.act turn.event gone.turn.stepped in
    let on : c.world.steps ≤ gone.between.world.steps = stretch_counts answer after c gone.between s gone.left gone.count gone.stretch in
    omega arith

-- where no turn is left behind a stretch, the run is over
pub front_ends : {S : Type 0} (answer : S → List ℕ → ℕ) (after : S → List ℕ → S) (m : ModuleValue) (args : List ℤ) (b : S) (c d : CoreValue) (s t : S) (numbers : List ℤ)
    (steps : ℕ) → c.module_run ≡ m → AreArguments m args → IsFront answer after m args b c.world s numbers
    → (o : Option Turn) → ((turn : Turn) → o ≡ Some turn → ⊥) → IsGone answer after c s d t o → steps ≡ d.world.steps
    → IsRunThat (Follows answer after m b (opening m args)) m args numbers steps
front_ends answer after m args b c d s t numbers steps same taken f (Some turn) left gone count = absurd (left turn refl)
front_ends answer after m args b c d s t numbers steps same taken f None left gone count =
    let on = front_stretch answer after m args b c gone.between s gone.left gone.count numbers same f gone.stretch in
    let leads = leads_with m args on.list gone.between.world taken on.leads in
    record {
      list = on.list;
      last = gone.between.world;
      follows = on.follows;
      leads = leads.0;
      given = leads.1;
      over = gone.turn.0;
      numbers_are = on.numbers_are;
      steps_are = count ∙ ap (λ (x : CoreValue). x.world.steps) gone.turn.1;
    }

-- ---- choosers without a state

goes_on_weaker : (o : Outcome) (P Q : World → Type 0) → ((w : World) → P w → Q w) → goes_on o P → goes_on o Q
goes_on_weaker Blocked P Q f h = h
goes_on_weaker (Wrong c) P Q f h = h
goes_on_weaker (Stepped w e) P Q f h = f w h

-- a list that follows one follows it whatever stands for its state
pub follows_any : {S : Type 0} (place : List ℕ → ℕ) (m : ModuleValue) (s : S) (list : List ℕ) (w : World)
    → Follows {S = S} (λ z enabled. place enabled) (λ z enabled. z) m s w list → Follows {S = Unit {0}} (λ z enabled. place enabled) (λ z enabled. z) m tt w list
follows_any place m s [] w h = tt
follows_any place m s (a ∷ list) w h = (h.0, goes_on_weaker (step m w a) _ _ (λ v k. follows_any place m s list v k) h.1)

-- a run that follows what follows from something else
pub run_weaker : (P Q : List ℕ → Type 0) (m : ModuleValue) (args numbers : List ℤ) (steps : ℕ) → ((list : List ℕ) → P list → Q list)
    → IsRunThat P m args numbers steps → IsRunThat Q m args numbers steps
run_weaker P Q m args numbers steps f r = record {
  list = r.list;
  last = r.last;
  follows = f r.list r.follows;
  leads = r.leads;
  given = r.given;
  over = r.over;
  numbers_are = r.numbers_are;
  steps_are = r.steps_are;
}
