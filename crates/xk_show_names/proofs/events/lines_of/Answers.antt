use Rattle.std.proofs.Common.{◌∙◌, ◌++◌, string_bytes, ap}
use Rattle.xk_show_names.proofs.WriterLemmas.{next_lines}
use Rattle.xk_show_names.proofs.events.lines_of.Goals as goal

pub loop-account-preserved : goal.loop-account-preserved
loop-account-preserved c =
    let old = c.loop-account in
    next_lines c.args.places.now c.args.names.now old.writers c.note.new.self c.args.steps.now old.account-index c.of-writer.result
    _ (string_bytes old.text) (string_bytes c.put.new.text) c.loop-account-test.true old.invariant c.of-writer.ensures
    (c.in_ok-put.ensures ∙ ap (λ l. string_bytes old.text ++ l) c.in_ok-line.ensures) c.in_ok-note.ensures
