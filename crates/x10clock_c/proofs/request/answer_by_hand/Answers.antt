use Rattle.std.proofs.lemmas.Result.{IfOk-weaker}
use Rattle.x10clock_c.proofs.CallLemmas.{hand_answered}
use Rattle.x10clock_c.proofs.request.answer_by_hand.Goals as goal

pub returns : goal.returns
returns c =
    let fresh = c.in_ok-on.ensures in
    IfOk-weaker c.answered.result _ _
    (λ a h. hand_answered c.args.run.now c.args.program.now c.args.input.now c.serve_asked-status.result a
    c.in_ok-on.on.program c.in_ok-on.on.input c.serve_asked-status.new.input c.in_ok-on.on.out c.serve_asked-status.new.out
    c.in_ok-on.on.err c.serve_asked-status.new.err c.in_ok-on.on.log c.serve_asked-status.new.log_out
    fresh.program fresh.input fresh.out fresh.err fresh.log h
    (rw (c.as_slice-arguments.ensures.value, c.is_some-keeps_log.ensures) at c.serve_asked-status.ensures.by_hand))
    c.answered.ensures
