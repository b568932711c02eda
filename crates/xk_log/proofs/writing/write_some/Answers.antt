use Rattle.std.proofs.Common.{◌≡◌, ◌+◌, [], ◌∷◌, ◌++◌, take, ap, sym, ◌∙◌, arith}
use Rattle.std.proofs.lemmas.List.{take_more, append-nil}
use Rattle.std.proofs.lemmas.Grind.{flat_map-append}
use Rattle.xk_log.specs.LogText.{ended, entry_line, entry_lines}
use Rattle.xk_log.proofs.writing.write_some.Goals as goal

pub loop-entry-preserved : goal.loop-entry-preserved
loop-entry-preserved g c =
    let es = c.args.entries.now in
    let i = c.loop-entry.entry-index in
    let e = c.entry-item.result in
    let front : take (i + 1) es ≡ take i es ++ e ∷ [] =
    take_more es i e c.loop-entry-test.true ∙ ap (λ x. take i es ++ x ∷ []) (sym c.entry-item.is) in
    let lines : entry_lines (take (i + 1) es) ≡ entry_lines (take i es) ++ ended (entry_line e) =
    ap entry_lines front ∙ flat_map-append (λ x. ended (entry_line x)) (take i es) (e ∷ [])
    ∙ ap (λ l. entry_lines (take i es) ++ l) (append-nil (ended (entry_line e))) in
    record {
      lines = c.put_entry.ensures.text ∙ ap (λ l. l ++ ended (entry_line e)) c.loop-entry.invariant.lines ∙ sym lines;
      room = omega arith;
    }
