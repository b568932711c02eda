use Rattle.std.proofs.Common.{◌∙◌, sym}
use Rattle.xk_serve.specs.Answer.{task_of}
use Rattle.xk_serve.proofs.CommandLemmas.{explains}
use Rattle.xk_serve.proofs.VerdictLemmas.{against_verdict, done_of_verdict, said_of_verdict}
use Rattle.xk_serve.proofs.devices.outcome_of.Goals as goal

pub returns-in-Some-clause-done : goal.returns-in-Some-clause-done
returns-in-Some-clause-done g c =
    let t = task_of c.args.job.now in
    let is = explains c.args.job.now.command c.in-Some.json (sym c.explanation.ensures ∙ c.in-Some.is) in
    done_of_verdict t c.args.bytes.now (g.L.Source.remaining c.args.log_in.now) c.in-Some.json c.explained.result is
    (c.explained.ensures.done t.arguments)

pub returns-in-Some-clause-fault : goal.returns-in-Some-clause-fault
returns-in-Some-clause-fault g c =
    let t = task_of c.args.job.now in
    let is = explains c.args.job.now.command c.in-Some.json (sym c.explanation.ensures ∙ c.in-Some.is) in
    against_verdict t c.args.bytes.now (g.L.Source.remaining c.args.log_in.now) (g.L.Source.fault_count c.args.log_in.now) c.in-Some.json
    c.explained.result is c.explained.ensures.fault

pub returns-in-Some-clause-said : goal.returns-in-Some-clause-said
returns-in-Some-clause-said g c =
    let t = task_of c.args.job.now in
    let is = explains c.args.job.now.command c.in-Some.json (sym c.explanation.ensures ∙ c.in-Some.is) in
    said_of_verdict t c.args.bytes.now c.in-Some.json c.explained.result is c.explained.ensures.said
