use Rattle.std.proofs.Common.{◌∙◌, ap, subst}
use Rattle.serde_json.specs.Data.{Data}
use Rattle.xk_json.specs.Objects.{IsReadBack, json_line}
use Rattle.xk_span_json.proofs.SpanLemmas.{timed_value}
use Rattle.xk_span_json.proofs.report.span.Goals as goal

pub returns-clause-text : goal.returns-clause-text
returns-clause-text c =
    let e = c.args.ended.now in
    let t = c.in_ok-timing.timing in
    c.in_ok-text.ensures.text
    ∙ ap json_line (timed_value c.args.places.now e.module.now e.core.world.arguments e.log.items c.in_ok-free.free t.deeds.items t.times.items
    c.in_ok-free.ensures c.in_ok-timing.ensures.deeds c.in_ok-timing.ensures.times)

pub returns-clause-reads_back : goal.returns-clause-reads_back
returns-clause-reads_back c =
    let e = c.args.ended.now in
    let t = c.in_ok-timing.timing in
    subst (λ (d : Data). IsReadBack d)
    (timed_value c.args.places.now e.module.now e.core.world.arguments e.log.items c.in_ok-free.free t.deeds.items t.times.items
    c.in_ok-free.ensures c.in_ok-timing.ensures.deeds c.in_ok-timing.ensures.times)
    c.in_ok-text.ensures.reads_back
