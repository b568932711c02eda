use Rattle.std.proofs.Common.{◌∙◌, ℕ, List, ap, sym, subst}
use Rattle.xk_collections.specs.NumberSets.{IsRising}
use Rattle.xk_greedy.specs.Rounds.{chosen}
use Rattle.xk_greedy.specs.Steps.{AreEnabled}
use Rattle.xk_greedy.proofs.StepLemmas.{a_round, chosen_enabled, chosen_rise}
use Rattle.xk_greedy.proofs.rounds.take_round.Goals as goal

pub step_each-requires-clause-rising : goal.step_each-requires-clause-rising
step_each-requires-clause-rising c =
    let driver = c.args.run.now.driver in
    subst (λ (l : List ℕ). IsRising l)
    (sym (c.chosen.ensures ∙ ap (chosen c.args.processors) (c.deref.ensures.value ∙ c.in_ok-list.ensures.list)))
    (chosen_rise c.args.processors driver.module_run driver.world)

pub step_each-requires-clause-enabled : goal.step_each-requires-clause-enabled
step_each-requires-clause-enabled c =
    let driver = c.args.run.now.driver in
    subst (λ (l : List ℕ). AreEnabled driver.module_run driver.world 0 l)
    (sym (c.chosen.ensures ∙ ap (chosen c.args.processors) (c.deref.ensures.value ∙ c.in_ok-list.ensures.list)))
    (chosen_enabled c.args.processors driver.module_run driver.world)

pub returns : goal.returns
returns c =
    let driver = c.args.run.now.driver in
    a_round c.args.processors driver c.step_each.new.run.driver c.args.run.now.log.items c.step_each.new.run.log.items c.chosen.result.now
    c.step_each.result
    (c.chosen.ensures ∙ ap (chosen c.args.processors) (c.deref.ensures.value ∙ c.in_ok-list.ensures.list))
    c.in_ok-list.ensures.core c.requires.some c.requires.goes_on
    c.step_each.ensures
