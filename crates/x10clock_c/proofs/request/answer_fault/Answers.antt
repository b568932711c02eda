use Rattle.std.proofs.lemmas.Result.{IfOk-weaker}
use Rattle.x10clock_c.proofs.CallLemmas.{fault_answered}
use Rattle.x10clock_c.proofs.request.answer_fault.Goals as goal

pub returns : goal.returns
returns c =
    let fresh = c.in_ok-on.ensures in
    IfOk-weaker c.answered.result _ _
    (λ a h. fault_answered c.args.fault.now c.tell_words-status.result a c.in_ok-on.on.out c.tell_words-status.new.out c.in_ok-on.on.err
    c.tell_words-status.new.err c.in_ok-on.on.log fresh.out fresh.err fresh.log h
    c.tell_words-status.ensures)
    c.answered.ensures
