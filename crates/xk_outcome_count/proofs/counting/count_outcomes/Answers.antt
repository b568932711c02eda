use Rattle.std.proofs.Common.{◌≡◌, ◌∙◌, Bool, false, true, true≢false, subst, sym}
use Rattle.std.specs.Prelude.{IfOk}
use Rattle.std.proofs.lemmas.Result.{IfOk-weaker}
use Rattle.xk_outcomes.specs.LoneOutcomes.{IsOneOfManyAs}
use Rattle.xk_outcome_count.specs.Counts.{AreAsMany, AreAtLeast, GoesAsFar}
use Rattle.xk_outcome_count.proofs.counting.count_outcomes.Goals as goal

pub returns-then-sets-clause-least : goal.returns-then-sets-clause-least
returns-then-sets-clause-least c =
    let m = c.args.verified.now in
    let args = c.args.arguments.now in
    subst (λ (sets : Bool). IfOk c.count_sets.result (λ r. AreAtLeast sets m args r.count)) (sym c.if-sets.true) c.count_sets.ensures.least

pub returns-then-sets-clause-exact : goal.returns-then-sets-clause-exact
returns-then-sets-clause-exact c =
    let m = c.args.verified.now in
    let args = c.args.arguments.now in
    subst (λ (sets : Bool). IfOk c.count_sets.result (λ r. r.complete ≡ true → AreAsMany sets m args r.count)) (sym c.if-sets.true) c.count_sets.ensures.exact

pub returns-then-sets-clause-lone : goal.returns-then-sets-clause-lone
returns-then-sets-clause-lone c =
    let m = c.args.verified.now in
    let args = c.args.arguments.now in
    subst (λ (sets : Bool). IfOk c.count_sets.result (λ r. r.complete ≡ false → IsOneOfManyAs sets m args)) (sym c.if-sets.true) c.count_sets.ensures.lone

pub returns-then-sets-clause-far : goal.returns-then-sets-clause-far
returns-then-sets-clause-far c =
    let m = c.args.verified.now in
    let args = c.args.arguments.now in
    subst (λ (sets : Bool). IfOk c.count_sets.result (λ r. r.complete ≡ false → GoesAsFar sets m args c.args.limit r.count)) (sym c.if-sets.true) c.count_sets.ensures.far

pub returns-clause-least : goal.returns-clause-least
returns-clause-least c =
    let m = c.args.verified.now in
    let args = c.args.arguments.now in
    subst (λ (sets : Bool). IfOk c.count_lists.result (λ r. AreAtLeast sets m args r.count)) (sym c.if-sets.false) c.count_lists.ensures.least

pub returns-clause-exact : goal.returns-clause-exact
returns-clause-exact c =
    let m = c.args.verified.now in
    let args = c.args.arguments.now in
    subst (λ (sets : Bool). IfOk c.count_lists.result (λ r. r.complete ≡ true → AreAsMany sets m args r.count)) (sym c.if-sets.false) c.count_lists.ensures.exact

pub returns-clause-lone : goal.returns-clause-lone
returns-clause-lone c =
    let m = c.args.verified.now in
    let args = c.args.arguments.now in
    subst (λ (sets : Bool). IfOk c.count_lists.result (λ r. r.complete ≡ false → IsOneOfManyAs sets m args)) (sym c.if-sets.false) c.count_lists.ensures.lone

pub returns-clause-far : goal.returns-clause-far
returns-clause-far c =
    let m = c.args.verified.now in
    let args = c.args.arguments.now in
    subst (λ (sets : Bool). IfOk c.count_lists.result (λ r. r.complete ≡ false → GoesAsFar sets m args c.args.limit r.count)) (sym c.if-sets.false) c.count_lists.ensures.far

pub returns-then-sets-clause-cut : goal.returns-then-sets-clause-cut
returns-then-sets-clause-cut c =
    IfOk-weaker c.count_sets.result _ _ (λ r least less lists. absurd (true≢false (sym c.if-sets.true ∙ lists))) c.count_sets.ensures.least

pub returns-clause-cut : goal.returns-clause-cut
returns-clause-cut c = IfOk-weaker c.count_lists.result _ _ (λ r cut less lists. cut less) c.count_lists.ensures.cut
