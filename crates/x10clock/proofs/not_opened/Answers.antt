use Rattle.x10clock.specs.Requests.{TellsUnopened, told_path}
use Rattle.x10clock.proofs.AnswerLemmas.{unopened_file, unopened_memory, unopened_of, unopened_status, unopened_whole}
use Rattle.x10clock.proofs.not_opened.Goals as goal

pub returns-clause-status : goal.returns-clause-status
returns-clause-status g c =
    unopened_status _ _ (g.E.Sink.contents c.args.err.now) (g.E.Sink.contents c.tell_unopened.new.err) _ _ _ c.tell_unopened.ensures

pub returns-clause-device : goal.returns-clause-device
returns-clause-device g c other =
    unopened_of _ (told_path c.args.request.now c.args.which) _ _ (g.E.Sink.contents c.args.err.now) (g.E.Sink.contents c.tell_unopened.new.err) _ _
    c.tell_unopened.result c.told_path.ensures c.kind-2.ensures c.tell_unopened.ensures

pub returns-clause-memory_err : goal.returns-clause-memory_err
returns-clause-memory_err g c memory =
    unopened_memory _ _ (g.E.Sink.contents c.args.err.now) (g.E.Sink.contents c.tell_unopened.new.err) _ _ c.tell_unopened.result
    c.tell_unopened.ensures memory

pub returns-clause-faults : goal.returns-clause-faults
returns-clause-faults g c device =
    unopened_whole _ _ (g.E.Sink.contents c.args.err.now) (g.E.Sink.contents c.tell_unopened.new.err) _ _ c.tell_unopened.result
    c.tell_unopened.ensures device

pub returns-clause-device_err : goal.returns-clause-device_err
returns-clause-device_err g c failed =
    unopened_file c.args.request.now c.args.which _ (g.E.Sink.contents c.args.err.now) (g.E.Sink.contents c.tell_unopened.new.err) _ _
    c.tell_unopened.result
    (unopened_of _ (told_path c.args.request.now c.args.which) _ _ (g.E.Sink.contents c.args.err.now)
    (g.E.Sink.contents c.tell_unopened.new.err) _ _ c.tell_unopened.result c.told_path.ensures c.kind-2.ensures c.tell_unopened.ensures)
    failed
