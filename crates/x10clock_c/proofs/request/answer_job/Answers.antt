use Rattle.std.proofs.lemmas.Result.{IfOk-weaker}
use Rattle.xk_serve.specs.Answer.{task_of}
use Rattle.x10clock_c.proofs.CallLemmas.{job_answered}
use Rattle.x10clock_c.proofs.request.answer_job.Goals as goal

pub returns : goal.returns
returns c =
    let fresh = c.in_ok-on.ensures in
    IfOk-weaker c.answered.result _ _
    (λ a h. job_answered (task_of c.args.job.now) c.args.program.now c.args.input.now c.serve_alone-status.result a
    c.in_ok-on.on.program c.in_ok-on.on.input c.in_ok-on.on.out c.serve_alone-status.new.out c.in_ok-on.on.err c.serve_alone-status.new.err
    c.in_ok-on.on.log c.serve_alone-status.new.log_out
    fresh.program fresh.input fresh.out fresh.err fresh.log h c.serve_alone-status.ensures.answered)
    c.answered.ensures
