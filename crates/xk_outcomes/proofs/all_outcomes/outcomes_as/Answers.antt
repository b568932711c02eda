use Rattle.std.proofs.Common.{◌≡◌, false, true, IfOk, subst, sym}
use Rattle.xk_outcomes.specs.Limits.{HasKept}
use Rattle.xk_outcomes.specs.LoneOutcomes.{IsOneOfManyAs}
use Rattle.std.proofs.lemmas.Result.{IfOk-weaker}
use Rattle.xk_outcomes.specs.Numbering.{AreNumberedAs}
use Rattle.xk_outcomes.specs.PlainRuns.{ArePlainListedAs}
use Rattle.xk_outcomes.specs.Sets.{AreAllAs}
use Rattle.xk_outcomes.proofs.all_outcomes.outcomes_as.Goals as goal

pub returns-then-sets-clause-all : goal.returns-then-sets-clause-all
returns-then-sets-clause-all c =
    subst (λ sets. IfOk c.outcome_sets.result (λ r. r.complete ≡ true → AreAllAs sets c.args.verified.now c.args.arguments.now r.list.items))
    (sym c.if-sets.true) c.outcome_sets.ensures.all

pub returns-clause-all : goal.returns-clause-all
returns-clause-all c =
    subst (λ sets. IfOk c.outcomes.result (λ r. r.complete ≡ true → AreAllAs sets c.args.verified.now c.args.arguments.now r.list.items))
    (sym c.if-sets.false) c.outcomes.ensures.all

pub returns-then-sets-clause-kept : goal.returns-then-sets-clause-kept
returns-then-sets-clause-kept c =
    let m = c.args.verified.now in
    let args = c.args.arguments.now in
    let most = c.args.limit.outcomes in
    subst (λ sets. IfOk c.outcome_sets.result (λ r. HasKept m args sets most r.list.items r.entries)) (sym c.if-sets.true) c.outcome_sets.ensures.kept

pub returns-clause-kept : goal.returns-clause-kept
returns-clause-kept c =
    let m = c.args.verified.now in
    let args = c.args.arguments.now in
    let most = c.args.limit.outcomes in
    subst (λ sets. IfOk c.outcomes.result (λ r. HasKept m args sets most r.list.items r.entries)) (sym c.if-sets.false) c.outcomes.ensures.kept

pub returns-then-sets-clause-plain : goal.returns-then-sets-clause-plain
returns-then-sets-clause-plain c =
    subst (λ sets. IfOk c.outcome_sets.result (λ r. r.complete ≡ false → ArePlainListedAs sets c.args.verified.now c.args.arguments.now
    r.list.items))
    (sym c.if-sets.true) c.outcome_sets.ensures.plain

pub returns-clause-plain : goal.returns-clause-plain
returns-clause-plain c =
    subst (λ sets. IfOk c.outcomes.result (λ r. r.complete ≡ false → ArePlainListedAs sets c.args.verified.now c.args.arguments.now
    r.list.items))
    (sym c.if-sets.false) c.outcomes.ensures.plain

pub returns-then-sets-clause-lone : goal.returns-then-sets-clause-lone
returns-then-sets-clause-lone c =
    subst (λ sets. IfOk c.outcome_sets.result (λ r. r.complete ≡ false → IsOneOfManyAs sets c.args.verified.now c.args.arguments.now))
    (sym c.if-sets.true) c.outcome_sets.ensures.lone

pub returns-clause-lone : goal.returns-clause-lone
returns-clause-lone c =
    subst (λ sets. IfOk c.outcomes.result (λ r. r.complete ≡ false → IsOneOfManyAs sets c.args.verified.now c.args.arguments.now))
    (sym c.if-sets.false) c.outcomes.ensures.lone

pub returns-then-sets-clause-order : goal.returns-then-sets-clause-order
returns-then-sets-clause-order c =
    let m = c.args.verified.now in
    let args = c.args.arguments.now in
    let most = c.args.limit.entries in
    IfOk-weaker c.outcome_sets.result _ _ (λ r kept. subst (λ sets. AreNumberedAs sets m args most r.list.items r.entries) (sym c.if-sets.true) tt)
    c.outcome_sets.ensures.kept

pub returns-clause-order : goal.returns-clause-order
returns-clause-order c =
    let m = c.args.verified.now in
    let args = c.args.arguments.now in
    let most = c.args.limit.entries in
    subst (λ sets. IfOk c.outcomes.result (λ r. AreNumberedAs sets m args most r.list.items r.entries)) (sym c.if-sets.false) c.outcomes.ensures.order
