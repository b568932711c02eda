use Rattle.std.proofs.Common.{Some, None, map, refl}
use Rattle.xk_serve_ask.proofs.AskedRunLemmas.{asked_by, begun_by}
use Rattle.xk_serve_ask.proofs.asked_run.played_by.Goals as goal

pub returns-in-Ok-clause-answers : goal.returns-in-Ok-clause-answers
returns-in-Ok-clause-answers g c = λ form bytes given.
    asked_by form bytes c.args.from.now.text.now (map (λ x. x.now) c.args.from.now.shared.items) (Some c.in-Some.origins)
    c.args.verified.now c.args.given.now (g.L.Source.remaining c.args.input.now) c.in-Ok.played.log.items
    (g.E.Sink.contents c.args.err.now) (g.E.Sink.contents c.source_ask.new.err) given.0
    (rw c.in-Some.is at (given.1 refl).0) (given.1 refl).1
    (rw c.deref.ensures.value at (rw c.units-units.ensures at c.in-Ok.ensures.by_answers))

pub returns-in-Ok-clause-begins : goal.returns-in-Ok-clause-begins
returns-in-Ok-clause-begins g c = λ form bytes given.
    begun_by form bytes c.args.from.now.text.now (map (λ x. x.now) c.args.from.now.shared.items) (Some c.in-Some.origins)
    c.args.verified.now c.args.given.now (g.L.Source.remaining c.args.input.now)
    (g.E.Sink.contents c.args.err.now) (g.E.Sink.contents c.source_ask.new.err) given.0
    (rw c.in-Some.is at (given.1 refl).0) (given.1 refl).1
    (rw c.deref.ensures.value at (rw c.units-units.ensures at c.source_ask.ensures.begins_by))

pub returns-in-Err-clause-begins : goal.returns-in-Err-clause-begins
returns-in-Err-clause-begins g c = λ form bytes given.
    begun_by form bytes c.args.from.now.text.now (map (λ x. x.now) c.args.from.now.shared.items) (Some c.in-Some.origins)
    c.args.verified.now c.args.given.now (g.L.Source.remaining c.args.input.now)
    (g.E.Sink.contents c.args.err.now) (g.E.Sink.contents c.source_ask.new.err) given.0
    (rw c.in-Some.is at (given.1 refl).0) (given.1 refl).1
    (rw c.deref.ensures.value at (rw c.units-units.ensures at c.source_ask.ensures.begins_by))

pub returns-in-Ok-module_ask-clause-answers : goal.returns-in-Ok-module_ask-clause-answers
returns-in-Ok-module_ask-clause-answers g c = λ form bytes given.
    asked_by form bytes c.args.from.now.text.now (map (λ x. x.now) c.args.from.now.shared.items) None
    c.args.verified.now c.args.given.now (g.L.Source.remaining c.args.input.now) c.in-Ok-module_ask.played.log.items
    (g.E.Sink.contents c.args.err.now) (g.E.Sink.contents c.module_ask.new.err) given.0
    (rw c.in-None.is at (given.1 refl).0) (given.1 refl).1
    c.in-Ok-module_ask.ensures.by_answers

pub returns-in-Ok-module_ask-clause-begins : goal.returns-in-Ok-module_ask-clause-begins
returns-in-Ok-module_ask-clause-begins g c = λ form bytes given.
    begun_by form bytes c.args.from.now.text.now (map (λ x. x.now) c.args.from.now.shared.items) None
    c.args.verified.now c.args.given.now (g.L.Source.remaining c.args.input.now)
    (g.E.Sink.contents c.args.err.now) (g.E.Sink.contents c.module_ask.new.err) given.0
    (rw c.in-None.is at (given.1 refl).0) (given.1 refl).1
    c.module_ask.ensures.begins_by

pub returns-in-Err-module_ask-clause-begins : goal.returns-in-Err-module_ask-clause-begins
returns-in-Err-module_ask-clause-begins g c = λ form bytes given.
    begun_by form bytes c.args.from.now.text.now (map (λ x. x.now) c.args.from.now.shared.items) None
    c.args.verified.now c.args.given.now (g.L.Source.remaining c.args.input.now)
    (g.E.Sink.contents c.args.err.now) (g.E.Sink.contents c.module_ask.new.err) given.0
    (rw c.in-None.is at (given.1 refl).0) (given.1 refl).1
    c.module_ask.ensures.begins_by
