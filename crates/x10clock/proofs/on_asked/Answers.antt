use Rattle.std.proofs.Common.{◌∙◌, None, ap, inl, option_map, sym}
use Rattle.x10clock.specs.Requests.{rule_page}
use Rattle.x10clock.proofs.AnswerLemmas.{alone_ends_or, device_told, never_memory, none_written, page_given, same_page}
use Rattle.x10clock.proofs.on_asked.Goals as goal

pub returns-in-Some-clause-given : goal.returns-in-Some-clause-given
returns-in-Some-clause-given g c =
    page_given c.args.request.now c.in-Some.page.now c.tell_page.result (g.O.Sink.contents c.args.out.now) (g.O.Sink.contents c.tell_page.new.out)
    (g.E.Sink.contents c.args.err.now) (g.E.Sink.contents c.tell_page.new.err) _ _
    (sym c.rule_page.ensures ∙ ap (λ o. option_map (λ page. page.now) o) c.in-Some.is) c.tell_page.ensures.told

pub returns-in-Some-clause-page : goal.returns-in-Some-clause-page
returns-in-Some-clause-page g c page is device =
    same_page page c.in-Some.page.now c.tell_page.result (g.O.Sink.contents c.args.out.now) (g.O.Sink.contents c.tell_page.new.out)
    (g.E.Sink.contents c.args.err.now) (g.E.Sink.contents c.tell_page.new.err) (rule_page c.args.request.now) is
    (sym c.rule_page.ensures ∙ ap (λ o. option_map (λ page. page.now) o) c.in-Some.is) (c.tell_page.ensures.told device)

pub returns-in-Some-clause-served : goal.returns-in-Some-clause-served
returns-in-Some-clause-served g c none =
    none_written c.in-Some.page.now _ (rule_page c.args.request.now) none
    (sym c.rule_page.ensures ∙ ap (λ o. option_map (λ page. page.now) o) c.in-Some.is)

pub returns-in-Some-clause-device_err : goal.returns-in-Some-clause-device_err
returns-in-Some-clause-device_err g c failed =
    device_told c.args.request.now None None (g.E.Sink.contents c.args.err.now) (g.E.Sink.contents c.tell_page.new.err) _ _
    (alone_ends_or c.args.request.now None None _ (g.E.Sink.contents c.args.err.now) (g.E.Sink.contents c.tell_page.new.err) _
    (c.tell_page.ensures.device_err failed))

pub returns-in-Some-clause-memory_out : goal.returns-in-Some-clause-memory_out
returns-in-Some-clause-memory_out g c memory = never_memory c.tell_page.result _ c.tell_page.ensures.known memory

pub returns-in-Some-clause-memory_err : goal.returns-in-Some-clause-memory_err
returns-in-Some-clause-memory_err g c memory = never_memory c.tell_page.result _ c.tell_page.ensures.known memory

pub returns-in-None-clause-given : goal.returns-in-None-clause-given
returns-in-None-clause-given g c = inl c.on_request.ensures.served

pub returns-in-None-clause-page : goal.returns-in-None-clause-page
returns-in-None-clause-page g c page is device =
    none_written page _ (rule_page c.args.request.now) (sym c.rule_page.ensures ∙ ap (λ o. option_map (λ page. page.now) o) c.in-None.is) is
