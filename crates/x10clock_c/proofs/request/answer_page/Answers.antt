use Rattle.std.proofs.lemmas.Result.{IfOk-weaker}
use Rattle.xk_jobs.specs.Status.{status_done}
use Rattle.x10clock_c.proofs.CallLemmas.{line_out}
use Rattle.x10clock_c.proofs.request.answer_page.Goals as goal

pub returns : goal.returns
returns c =
    let fresh = c.in_ok-on.ensures in
    IfOk-weaker c.answered.result _ _
    (λ a h. line_out c.args.page.now status_done c.tell-status.result a
    c.in_ok-on.on.out c.tell-status.new.err c.in_ok-on.on.err c.in_ok-on.on.log fresh.out fresh.err fresh.log h c.tell-status.ensures)
    c.answered.ensures
