use Rattle.std.proofs.Common.{length, subst, sym}
use Rattle.std.proofs.lemmas.Result.{IfOk-weaker, on_ok_weaker}
use Rattle.xk_outcomes.specs.Listing.{AreMet, AreNoted, AreRead}
use Rattle.xk_outcomes.specs.Numbering.{AreInOrder, AreInOrderIn}
use Rattle.xk_outcomes.proofs.PathLemmas.{met_printed, met_rising}
use Rattle.xk_outcomes.proofs.paths.list_found.Goals as goal

pub returns-in-Printed-clause-met : goal.returns-in-Printed-clause-met
returns-in-Printed-clause-met c =
    let all = c.args.explored.now.found.all in
    let links = c.args.explored.now.links.items in
    IfOk-weaker c.list_readings.result _ _ (λ complete read done.
    subst (λ o. AreMet o all links c.list_readings.new.list) (sym c.in-Printed.is) (met_printed all links c.list_readings.new.list
    (subst (λ l. AreRead all l c.list_readings.new.list) c.deref.ensures.value (read done))))
    c.list_readings.ensures.read

pub returns-in-Rising-clause-met : goal.returns-in-Rising-clause-met
returns-in-Rising-clause-met c =
    let all = c.args.explored.now.found.all in
    let links = c.args.explored.now.links.items in
    IfOk-weaker c.list_outcomes.result _ _ (λ complete noted done.
    subst (λ o. AreMet o all links c.list_outcomes.new.list) (sym c.in-Rising.is)
    (met_rising all links c.list_outcomes.new.list (subst (λ o. AreNoted o all (length all) c.list_outcomes.new.list) c.in-Rising.is (noted done))))
    c.list_outcomes.ensures.noted

pub returns-in-Printed-clause-order : goal.returns-in-Printed-clause-order
returns-in-Printed-clause-order c =
    let all = c.args.explored.now.found.all in
    on_ok_weaker c.list_readings.result (λ order.
    subst (λ o. AreInOrderIn o all c.args.explored.now.links.items (length c.args.list.now) c.list_readings.new.list) (sym c.in-Printed.is)
    (subst (λ l. AreInOrder all l (length c.args.list.now) c.list_readings.new.list) c.deref.ensures.value order))
    c.list_readings.ensures.order

pub returns-in-Rising-clause-order : goal.returns-in-Rising-clause-order
returns-in-Rising-clause-order c =
    IfOk-weaker c.list_outcomes.result _ _ (λ complete noted.
    subst (λ o. AreInOrderIn o c.args.explored.now.found.all c.args.explored.now.links.items (length c.args.list.now) c.list_outcomes.new.list)
    (sym c.in-Rising.is) tt)
    c.list_outcomes.ensures.noted
