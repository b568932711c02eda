use Rattle.std.proofs.Common.{◌≡◌, subst, ◌∙◌}
use Rattle.xk_io.specs.Writing.{AppendsBeginning}
use Rattle.xk_io.proofs.DeviceLemmas.{beginning_more, beginning_then}
use Rattle.xk_answers.specs.Printed.{done_ending, done_front}
use Rattle.xk_answers.proofs.PrintedLemmas.{parts_of_text}
use Rattle.xk_answers.proofs.job_result.Done.write.Goals as goal

pub returns-in_err-write_front-clause-beginning : goal.returns-in_err-write_front-clause-beginning
returns-in_err-write_front-clause-beginning g c =
    let d = c.args.self.now in
    subst (AppendsBeginning (g.O.Sink.contents c.args.out.now) (g.O.Sink.contents c.write_front.new.out)) (parts_of_text d)
    (beginning_more _ _ (done_front d) (done_ending d) c.write_front.ensures.beginning)

pub returns-clause-beginning : goal.returns-clause-beginning
returns-clause-beginning g c =
    let d = c.args.self.now in
    let out = g.O.Sink.contents c.write_all.new.sink in
    let same : c.as_bytes.result.now ≡ done_ending d = c.as_bytes.ensures.value ∙ c.requires in
    let begun : AppendsBeginning (g.O.Sink.contents c.write_front.new.out) out (done_ending d) =
    subst (AppendsBeginning (g.O.Sink.contents c.write_front.new.out) out) same c.write_all.ensures.beginning in
    subst (AppendsBeginning (g.O.Sink.contents c.args.out.now) out) (parts_of_text d)
    (beginning_then _ _ _ (done_front d) (done_ending d) c.in_ok-write_front.ensures.all begun)
